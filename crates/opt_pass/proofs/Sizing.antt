-- How many boxes the entries of guards have.
use Rattle.std.proofs.Common.{◌≡◌, ℕ, ◌+◌, ◌≤◌, List, [], ◌∷◌, ◌++◌, length, refl, sym, ap, ◌∙◌, subst, append_assoc, arith}
use Rattle.std.specs.List.{AllByRecursion, AllZip, flat_map}
use Rattle.std.proofs.lemmas.List.{length-append}
use Rattle.trace_ops.specs.declared.trace.BoxId.{BoxId}
use Rattle.trace_ops.specs.declared.trace.TraceSet.{TraceSet}
use Rattle.trace_ops.specs.declared.table.Table.{Table}
use Rattle.trace_ops.specs.declared.piece.Snapshot.{Snapshot}
use Rattle.trace_ops.specs.declared.piece.PieceId.{PieceId}
use Rattle.trace_ops.specs.declared.piece.OptOp.{OptOp}
use Rattle.trace_ops.specs.declared.piece.OptOp.TheVariants as opt
use Rattle.trace_ops.specs.declared.piece.Entry.{Entry}
use Rattle.trace_ops.specs.Lawful.{AreDistinct, IsLawful}
use Rattle.trace_ops.specs.Parts.{boxes_of_arg, boxes_of, parts_of}
use Rattle.trace_ops.specs.Pieces.{args_of, results_of, snapshots_of, used_by}
use Rattle.lists.specs.Has.{Has, IsOnce}
use Rattle.lists.proofs.Eaches.{each_weaker, each_append, each_parts}
use Rattle.lists.proofs.Membership.{has_left, has_get}
use Rattle.opt_pass.specs.Contract.{kept_of, IsEntryAt, HasEntries}
use Rattle.opt_pass.specs.Keeping.{IsBare}
use Rattle.opt_pass.specs.Forming.{IsDefined, IsOpFormed, AreFormed}
use Rattle.opt_pass.proofs.Snapping.{no_more, contains_had, with_only}
use Rattle.opt_pass.proofs.Counted.{once_fits}

-- Boxes of a kept snapshot are defined

abbrev HasBoxes : List BoxId → (ℕ × Snapshot) → Type 0
HasBoxes all x = AllByRecursion (Has all) (boxes_of x.1)

kept_boxes : (all : List BoxId) (x : OptOp) → AllByRecursion (Has all) (flat_map boxes_of (snapshots_of x)) → AllByRecursion (HasBoxes all) (kept_of x)
kept_boxes all (opt.Plain c r a d) h = tt
kept_boxes all (opt.Guard c a n s) h = (subst (AllByRecursion (Has all)) (no_more (boxes_of s)) h, tt)
kept_boxes all (opt.Exit n s) h = (subst (AllByRecursion (Has all)) (no_more (boxes_of s)) h, tt)
kept_boxes all (opt.Jump q a) h = tt
kept_boxes all (opt.Finish v) h = tt

had_now : (d rest : List BoxId) (b : BoxId) → IsDefined d b → Has (d ++ rest) b
had_now d rest b e = has_left d rest b (has_get d b.number b e)

all_kept : (t : Table) (to : PieceId) (target d : List BoxId) (xs : List OptOp) → AreFormed t to target d xs → AllByRecursion (HasBoxes (d ++ flat_map results_of xs)) (flat_map kept_of xs)
all_kept t to target d [] h = tt
all_kept t to target d (x ∷ xs) h =
    let all : List BoxId = d ++ flat_map results_of (x ∷ xs) in
    let used = each_parts (IsDefined d) (flat_map boxes_of_arg (args_of x)) (flat_map boxes_of (snapshots_of x)) h.0.uses in
    let one : AllByRecursion (HasBoxes all) (kept_of x) = kept_boxes all x (each_weaker (IsDefined d) (Has all) (had_now d (flat_map results_of (x ∷ xs))) (flat_map boxes_of (snapshots_of x)) used.1) in
    let rest : AllByRecursion (HasBoxes ((d ++ results_of x) ++ flat_map results_of xs)) (flat_map kept_of xs) = all_kept t to target (d ++ results_of x) xs h.1 in
    each_append (HasBoxes all) (kept_of x) (flat_map kept_of xs) one (subst (λ z. AllByRecursion (HasBoxes z) (flat_map kept_of xs)) (append_assoc d (results_of x) (flat_map results_of xs)) rest)

-- Entries

distinct_once : (bs : List BoxId) → AreDistinct bs → IsOnce bs
distinct_once [] h = tt
distinct_once (b ∷ bs) h = ((λ w. h.0 (contains_had bs b w)), distinct_once bs h.1)

one_entry : (set : TraceSet) (all : List BoxId) (x : ℕ × Snapshot) (y : ℕ × Entry) → IsEntryAt x y → HasBoxes all x → IsLawful set y.1 → IsBare y.1 → length y.1.label + length y.1.shapes ≤ length all
one_entry set all x y is boxes lawful bare =
    let label : y.1.label ≡ parts_of x.1 = is.1.0 in
    let few : length y.1.label ≤ length all = once_fits y.1.label all (distinct_once y.1.label lawful.label_distinct) (subst (AllByRecursion (Has all)) (sym label) (with_only (Has all) (boxes_of x.1) [] tt boxes)) in
    let none : length y.1.shapes ≡ 0 = ap length bare.0 in
    omega (arith, few, none)

all_entries : (set : TraceSet) (all : List BoxId) (xs : List (ℕ × Snapshot)) (ys : List (ℕ × Entry)) → AllZip IsEntryAt xs ys → AllByRecursion (HasBoxes all) xs → AllByRecursion (λ y. IsLawful set y.1) ys → AllByRecursion (λ y. IsBare y.1) ys
    → AllByRecursion (λ y. length y.1.label + length y.1.shapes ≤ length all) ys
all_entries set all [] [] z h l b = tt
all_entries set all [] (y ∷ ys) z h l b = absurd z
all_entries set all (x ∷ xs) [] z h l b = absurd z
all_entries set all (x ∷ xs) (y ∷ ys) z h l b = (one_entry set all x y z.0 h.0 l.0 b.0, all_entries set all xs ys z.1 h.1 l.1 b.1)

-- at most as many boxes and shapes as the piece has boxes
pub entries_fit : (set : TraceSet) (to : PieceId) (target label : List BoxId) (ops : List OptOp) (guards : List (ℕ × Entry)) → AreFormed set.table to target label ops → HasEntries ops guards → AllByRecursion (λ y. IsLawful set y.1) guards → AllByRecursion (λ y. IsBare y.1) guards
    → AllByRecursion (λ y. length y.1.label + length y.1.shapes ≤ length (label ++ flat_map results_of ops)) guards
entries_fit set to target label ops guards h z l b = all_entries set (label ++ flat_map results_of ops) (flat_map kept_of ops) guards z (all_kept set.table to target label ops h) l b
