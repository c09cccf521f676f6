-- Made pieces by their names, and their guards.
use Rattle.std.proofs.Common.{◌≡◌, inl, inr, ℕ, Bool, true, false, if◌then◌else◌, ◌==◌, ◌&&◌, List, [], ◌∷◌, Option, Some, None, map, refl, sym, ap, ◌∙◌, subst}
use Rattle.std.specs.Bool.{Decides}
use Rattle.std.specs.Option.{IsSomeAnd}
use Rattle.std.specs.List.{AllZip, flat_map}
use Rattle.std.proofs.lemmas.Bool.Decides.{Decides-eqb}
use Rattle.lists.specs.Has.{Has, IsOnce}
use Rattle.lists.proofs.Membership.{has_map}
use Rattle.lists.proofs.Options.{some_same, none_some}
use Rattle.trace_ops.specs.declared.trace.Origin.{Origin}
use Rattle.trace_ops.specs.declared.trace.Origin.TheVariants as origin
use Rattle.trace_ops.specs.declared.trace.Trace.{Trace}
use Rattle.trace_ops.specs.declared.piece.PieceId.{PieceId}
use Rattle.trace_ops.specs.declared.piece.Snapshot.{Snapshot}
use Rattle.trace_ops.specs.declared.piece.OptOp.{OptOp}
use Rattle.trace_ops.specs.declared.piece.OptOp.TheVariants as opt
use Rattle.trace_ops.specs.declared.piece.Entry.{Entry}
use Rattle.trace_ops.specs.Parts.{parts_of}
use Rattle.trace_ops.specs.Pieces.{guards_of}
use Rattle.trace_ops.specs.Weights.{place_of, parent_named, parent_of}
use Rattle.trace_meaning.specs.Cuts.{is_at, leaves_from, trace_leaves_from, is_bridge_of}
use Rattle.opt_meaning.specs.Admits.{entry_for}
use Rattle.opt_meaning.specs.Meeting.{Made, made_at}
use Rattle.opt_meaning.specs.Pieces.{same_piece}
use Rattle.opt_pass.specs.Contract.{kept_of, IsEntryAt}
use Rattle.asm_select.specs.Exited.{shown_by}
use Rattle.loop_peel.specs.Peeling.{IsLoop}
use Rattle.bridge_patch.specs.Bridged.{leaves, is_bridging, is_from}
use Rattle.bridge_patch.specs.Attached.{guard_of}
use Rattle.opt_set.specs.Optimised.{of_trace, name_of}
use Rattle.set_in_image.proofs.Things.{false_true, cons_none}

-- Bridges

leaves_so : (o : Origin) → (IsLoop o → ⊥) → leaves o ≡ true
leaves_so origin.Loop h = absurd (h refl)
leaves_so (origin.Bridge parent guard) h = refl

pub bridge_so : (o : Option Trace) → IsSomeAnd o (λ (t : Trace). IsLoop t.origin → ⊥) → is_bridging o ≡ true
bridge_so None h = absurd h
bridge_so (Some t) h = leaves_so t.origin h

pub bridge_back : (o : Option Trace) → is_bridging o ≡ true → (t : Trace) × (o ≡ Some t) × (IsLoop t.origin → ⊥)
bridge_back None h = absurd (false_true h)
bridge_back (Some t) h = (t, refl, λ loop. false_true (sym (ap leaves loop) ∙ h))

and_parts : (a b : Bool) → (a && b) ≡ true → (a ≡ true) × (b ≡ true)
and_parts true b e = (refl, e)
and_parts false b e = absurd (false_true e)

at_some : (p : ℕ) (o : Option ℕ) → is_at p o ≡ true → o ≡ Some p
at_some p None e = absurd (false_true e)
at_some p (Some q) e = ap Some ((Decides-eqb q p).0 e)

origin_named : (traces : List Trace) (p n : ℕ) (o : Origin) → leaves_from traces p n o ≡ true → parent_named traces o ≡ Some p
origin_named traces p n origin.Loop e = absurd (false_true e)
origin_named traces p n (origin.Bridge parent guard) e = at_some p (place_of parent traces) (and_parts (guard == n) (is_at p (place_of parent traces)) e).1

-- the trace of its guard is its parent
pub parent_is : (traces : List Trace) (p n : ℕ) (o : Option Trace) → trace_leaves_from traces p n o ≡ true → parent_of traces o ≡ Some p
parent_is traces p n None e = absurd (false_true e)
parent_is traces p n (Some t) e = origin_named traces p n t.origin e

-- the guard from which it comes has a number
pub from_some : (traces : List Trace) (b p : ℕ) (o : Option ℕ) → is_from traces b p o ≡ true → (n : ℕ) × (o ≡ Some n) × (is_bridge_of traces p n b ≡ true)
from_some traces b p None e = absurd (false_true e)
from_some traces b p (Some n) e = (n, refl, e)

-- Names

pub name_is : (a b : PieceId) → a.trace ≡ b.trace → a.half ≡ b.half → a ≡ b
name_is a b p q = ap (λ t. record { trace = t; half = a.half }) p ∙ ap (λ h. record { trace = b.trace; half = h }) q

none_by : (t : Bool) (p : ℕ) (x : Made) (of : List Made) → (x.piece.id.trace == p) ≡ t → x.piece.id.trace ≡ p → (if t then x ∷ of else of) ≡ [] → ⊥
none_by true p x of is e h = cons_none h
none_by false p x of is e h = false_true (sym is ∙ (Decides-eqb x.piece.id.trace p).1 e)

rest_by : (t : Bool) (x : Made) (of : List Made) → (if t then x ∷ of else of) ≡ [] → of ≡ []
rest_by true x of h = absurd (cons_none h)
rest_by false x of h = h

-- of a trace without pieces there is none
pub none_of : (p : ℕ) (ms : List Made) (q : Made) → of_trace p ms ≡ [] → Has ms q → q.piece.id.trace ≡ p → ⊥
none_of p [] q none h e = h
none_of p (x ∷ ms) q none (inl is) e = none_by (x.piece.id.trace == p) p x (of_trace p ms) refl (ap (λ (y : Made). y.piece.id.trace) is ∙ e) none
none_of p (x ∷ ms) q none (inr h) e = none_of p ms q (rest_by (x.piece.id.trace == p) x (of_trace p ms) none) h e

module _ (tell : (a b : PieceId) → Decides (same_piece a b) (a ≡ b)) where
  here_by : (b : Bool) (x m : Made) (q : PieceId) (o : Option Made) (ms : List Made) → same_piece q x.piece.id ≡ b → (o ≡ Some m → Has ms m × (m.piece.id ≡ q)) → (if b then Some x else o) ≡ Some m → Has (x ∷ ms) m × (m.piece.id ≡ q)
  here_by true x m q o ms is f e = let same : x ≡ m = some_same e in (inl same, ap (λ (y : Made). y.piece.id) (sym same) ∙ sym ((tell q x.piece.id).0 is))
  here_by false x m q o ms is f e = let rest = f e in (inr rest.0, rest.1)

  pub found_here : (ms : List Made) (q : PieceId) (m : Made) → made_at ms q ≡ Some m → Has ms m × (m.piece.id ≡ q)
  found_here [] q m e = absurd (none_some e)
  found_here (x ∷ ms) q m e = here_by (same_piece q x.piece.id) x m q (made_at ms q) ms refl (found_here ms q m) e

  later_by : (b : Bool) (x m : Made) (o : Option Made) → same_piece (name_of m) (name_of x) ≡ b → (name_of m ≡ name_of x → ⊥) → o ≡ Some m → (if b then Some x else o) ≡ Some m
  later_by true x m o is ne e = absurd (ne ((tell (name_of m) (name_of x)).0 is))
  later_by false x m o is ne e = e

  -- where no name stands twice, each piece is the one of its name
  pub found_once : (ms : List Made) (m : Made) → IsOnce (map name_of ms) → Has ms m → made_at ms (name_of m) ≡ Some m
  found_once [] m once h = absurd h
  found_once (x ∷ ms) m once (inl e) =
      ap (λ (b : Bool). if b then Some x else made_at ms (name_of m)) ((tell (name_of m) (name_of x)).1 (ap name_of (sym e))) ∙ ap Some e
  found_once (x ∷ ms) m once (inr h) =
      later_by (same_piece (name_of m) (name_of x)) x m (made_at ms (name_of m)) refl (λ e. once.0 (subst (Has (map name_of ms)) e (has_map name_of ms m h))) (found_once ms m once.1 h)

-- Guards

abbrev numbered : ℕ → Snapshot → ℕ × Snapshot
numbered n snap = (n, snap)

-- the guard that an operation is, with its snapshot
pub guard_kept : (op : OptOp) (n : ℕ) → guard_of op ≡ Some n → (snap : Snapshot) × Has (kept_of op) (n, snap) × (shown_by op ≡ parts_of snap)
guard_kept (opt.Plain c r a d) n e = absurd (none_some e)
guard_kept (opt.Guard c a k snap) n e = (snap, inl (ap (λ j. numbered j snap) (some_same e)), refl)
guard_kept (opt.Exit k snap) n e = (snap, inl (ap (λ j. numbered j snap) (some_same e)), refl)
guard_kept (opt.Jump q a) n e = absurd (none_some e)
guard_kept (opt.Finish v) n e = absurd (none_some e)

pub kept_guard : (op : OptOp) (x : ℕ × Snapshot) → Has (kept_of op) x → guard_of op ≡ Some x.0
kept_guard (opt.Plain c r a d) x h = absurd h
kept_guard (opt.Guard c a k snap) x (inl e) = ap (λ (y : ℕ × Snapshot). Some y.0) e
kept_guard (opt.Guard c a k snap) x (inr h) = absurd h
kept_guard (opt.Exit k snap) x (inl e) = ap (λ (y : ℕ × Snapshot). Some y.0) e
kept_guard (opt.Exit k snap) x (inr h) = absurd h
kept_guard (opt.Jump q a) x h = absurd h
kept_guard (opt.Finish v) x h = absurd h

pub numbers_kept : (ops : List OptOp) → flat_map guards_of ops ≡ map (λ (x : ℕ × Snapshot). x.0) (flat_map kept_of ops)
numbers_kept [] = refl
numbers_kept (opt.Plain c r a d ∷ ops) = numbers_kept ops
numbers_kept (opt.Guard c a n s ∷ ops) = ap (λ l. n ∷ l) (numbers_kept ops)
numbers_kept (opt.Exit n s ∷ ops) = ap (λ l. n ∷ l) (numbers_kept ops)
numbers_kept (opt.Jump q a ∷ ops) = numbers_kept ops
numbers_kept (opt.Finish v ∷ ops) = numbers_kept ops

pub numbers_left : (xs : List (ℕ × Snapshot)) (ys : List (ℕ × Entry)) → AllZip IsEntryAt xs ys → map (λ (x : ℕ × Snapshot). x.0) xs ≡ map (λ (y : ℕ × Entry). y.0) ys
numbers_left [] [] z = refl
numbers_left [] (y ∷ ys) z = absurd z
numbers_left (x ∷ xs) [] z = absurd z
numbers_left (x ∷ xs) (y ∷ ys) z = ap (λ n. n ∷ map (λ (v : ℕ × Snapshot). v.0) xs) z.0.0 ∙ ap (λ l. y.0 ∷ l) (numbers_left xs ys z.1)

past_by : (b : Bool) (n : ℕ) (x : ℕ × Entry) (e : Entry) (o : Option Entry) → (x.0 == n) ≡ b → (x.0 ≡ n → ⊥) → o ≡ Some e → (if b then Some x.1 else o) ≡ Some e
past_by true n x e o is ne h = absurd (ne ((Decides-eqb x.0 n).0 is))
past_by false n x e o is ne h = h

-- where no number stands twice, each entry is the one of its number
pub entry_once : (n : ℕ) (e : Entry) (guards : List (ℕ × Entry)) → IsOnce (map (λ (y : ℕ × Entry). y.0) guards) → Has guards (n, e) → entry_for guards n ≡ Some e
entry_once n e [] once h = absurd h
entry_once n e (x ∷ guards) once (inl is) =
    ap (λ (b : Bool). if b then Some x.1 else entry_for guards n) ((Decides-eqb x.0 n).1 (ap (λ (y : ℕ × Entry). y.0) is)) ∙ ap (λ (y : ℕ × Entry). Some y.1) is
entry_once n e (x ∷ guards) once (inr h) =
    past_by (x.0 == n) n x e (entry_for guards n) refl (λ is. once.0 (subst (Has (map (λ (y : ℕ × Entry). y.0) guards)) (sym is) (has_map (λ (y : ℕ × Entry). y.0) guards (n, e) h))) (entry_once n e guards once.1 h)
