-- The guards of a piece: their numbers, their snapshots and their entries.
use Rattle.std.proofs.Common.{◌≡◌, ℕ, ◌+◌, ◌<◌, ◌≤◌, Bool, true, false, if◌then◌else◌, ◌==◌, List, [], ◌∷◌, Option, Some, None, length, map, slice_get, filter, refl, sym, ap, ◌∙◌, subst, arith}
use Rattle.std.specs.Option.{IsSomeAnd}
use Rattle.std.specs.List.{All, AllByRecursion, AllZip, Contains, flat_map}
use Rattle.std.proofs.lemmas.Bool.{eqb-true}
use Rattle.std.proofs.lemmas.List.{length-map}
use Rattle.std.proofs.lemmas.List.Elements.{All-filter, All-contains}
use Rattle.std.proofs.lemmas.List.Sums.{count_by-le-length}
use Rattle.std.proofs.lemmas.Option.{slice_get_within, get_or_from_slice_get}
use Rattle.lists.specs.Has.{Has, IsOnce}
use Rattle.lists.proofs.Alls.{all_at}
use Rattle.lists.proofs.Membership.{has_at}
use Rattle.lists.proofs.Onces.{few_once}
use Rattle.lists.proofs.Options.{some_same, none_some}
use Rattle.trace_ops.specs.declared.trace.Frame.{Frame}
use Rattle.trace_ops.specs.declared.trace.Op.{Op}
use Rattle.trace_ops.specs.declared.trace.Trace.{Trace}
use Rattle.trace_ops.specs.declared.trace.TraceSet.{TraceSet}
use Rattle.trace_ops.specs.declared.piece.OptFrame.{OptFrame}
use Rattle.trace_ops.specs.declared.piece.Snapshot.{Snapshot}
use Rattle.trace_ops.specs.declared.piece.OptOp.{OptOp}
use Rattle.trace_ops.specs.declared.piece.OptOp.TheVariants as opt
use Rattle.trace_ops.specs.declared.piece.Entry.{Entry}
use Rattle.trace_ops.specs.Classes.{is_guard}
use Rattle.trace_ops.specs.Pieces.{snapshots_of, guards_of}
use Rattle.trace_ops.specs.Sound.{AreApart, guards_in}
use Rattle.trace_meaning.specs.Recorded.{ops_at}
use Rattle.trace_meaning.specs.Observed.{guard_in}
use Rattle.opt_meaning.specs.Admits.{IsEntryOf, entry_for}
use Rattle.opt_meaning.specs.Rebuilding.{snapshot_in, or_later}
use Rattle.opt_meaning.specs.Showing.{kept_frame_shown, recorded_frame_shown, AreFramesOf, FitsGuard}
use Rattle.opt_pass.specs.Contract.{kept_of, IsEntryAt, KeepsFrames}

-- Numbers and snapshots

pub kept_snapshots : (ops : List OptOp) → flat_map snapshots_of ops ≡ map (λ (x : ℕ × Snapshot). x.1) (flat_map kept_of ops)
kept_snapshots [] = refl
kept_snapshots (opt.Plain c r a d ∷ ops) = kept_snapshots ops
kept_snapshots (opt.Guard c a n s ∷ ops) = ap (λ z. s ∷ z) (kept_snapshots ops)
kept_snapshots (opt.Exit n s ∷ ops) = ap (λ z. s ∷ z) (kept_snapshots ops)
kept_snapshots (opt.Jump q a ∷ ops) = kept_snapshots ops
kept_snapshots (opt.Finish v ∷ ops) = kept_snapshots ops

pub kept_numbers : (ops : List OptOp) → flat_map guards_of ops ≡ map (λ (x : ℕ × Snapshot). x.0) (flat_map kept_of ops)
kept_numbers [] = refl
kept_numbers (opt.Plain c r a d ∷ ops) = kept_numbers ops
kept_numbers (opt.Guard c a n s ∷ ops) = ap (λ z. n ∷ z) (kept_numbers ops)
kept_numbers (opt.Exit n s ∷ ops) = ap (λ z. n ∷ z) (kept_numbers ops)
kept_numbers (opt.Jump q a ∷ ops) = kept_numbers ops
kept_numbers (opt.Finish v ∷ ops) = kept_numbers ops

contained : {X : Type 0} (xs : List X) (x : X) → Has xs x → Contains xs x
contained xs x h = let s = has_at xs x h in (s.0, slice_get_within xs s.0 x s.1, get_or_from_slice_get xs s.0 x x s.1)

apart_once : (xs : List ℕ) → AreApart xs → IsOnce xs
apart_once [] h = tt
apart_once (x ∷ xs) h = (λ w. h.0 (contained xs x w), apart_once xs h.1)

each_below : (n : ℕ) (xs : List ℕ) → All (λ g. g < n) xs → (k : ℕ) → Has xs k → k < n
each_below n xs h k w = let s = has_at xs k w in all_at (λ g. g < n) xs s.0 k h s.1

-- a piece has no more guards than its trace has operations
pub few_guards : (ops : List OptOp) (t : Trace) → AreApart (flat_map guards_of ops) → All (λ g. g < guards_in t) (flat_map guards_of ops) → length (flat_map snapshots_of ops) ≤ length t.ops
few_guards ops t apart below =
    let a : length (flat_map guards_of ops) ≤ guards_in t = few_once (flat_map guards_of ops) (guards_in t) (apart_once (flat_map guards_of ops) apart) (each_below (guards_in t) (flat_map guards_of ops) below) in
    let b : guards_in t ≤ length t.ops = count_by-le-length (λ (op : Op). is_guard op.code) t.ops in
    let c : length (flat_map snapshots_of ops) ≡ length (flat_map kept_of ops) = ap length (kept_snapshots ops) ∙ length-map (flat_map kept_of ops) (λ (x : ℕ × Snapshot). x.1) in
    let d : length (flat_map guards_of ops) ≡ length (flat_map kept_of ops) = ap length (kept_numbers ops) ∙ length-map (flat_map kept_of ops) (λ (x : ℕ × Snapshot). x.0) in
    omega (arith, a, b, c, d)

-- Frames

as_many : (recorded : List Frame) (kept : List OptFrame) → AreFramesOf recorded kept → length kept ≡ length recorded
as_many recorded kept h = sym (length-map kept kept_frame_shown) ∙ ap length h ∙ length-map recorded recorded_frame_shown

few_at : (ops : List Op) → All (λ (op : Op). length op.snapshot ≤ 32) ops → (n : ℕ) (frames : List OptFrame) (o : Option Op) → guard_in ops n ≡ o → IsSomeAnd o (λ (op : Op). AreFramesOf op.snapshot frames) → length frames ≤ 32
few_at ops within n frames None e h = absurd h
few_at ops within n frames (Some op) e h =
    let a : length op.snapshot ≤ 32 = all_at (λ (x : Op). length x.snapshot ≤ 32) (filter (λ (x : Op). is_guard x.code) ops) n op (All-filter (λ (x : Op). is_guard x.code) (λ (x : Op). length x.snapshot ≤ 32) ops within) e in
    let b : length frames ≡ length op.snapshot = as_many op.snapshot frames h in
    omega (arith, a, b)

-- no more frames than were recorded
pub few_frames : (ops : List Op) → All (λ (op : Op). length op.snapshot ≤ 32) ops → (kept : List (ℕ × Snapshot)) → AllByRecursion (KeepsFrames ops) kept → AllByRecursion (λ (s : Snapshot). length s.frames ≤ 32) (map (λ (x : ℕ × Snapshot). x.1) kept)
few_frames ops within [] h = tt
few_frames ops within (x ∷ kept) h = (few_at ops within x.0 x.1.frames (guard_in ops x.0) refl h.0, few_frames ops within kept h.1)

-- Entries

-- no more virtual objects than the entries have
pub few_shapes : (n : ℕ) (kept : List (ℕ × Snapshot)) (guards : List (ℕ × Entry)) → AllZip IsEntryAt kept guards → AllByRecursion (λ (y : ℕ × Entry). length y.1.label + length y.1.shapes ≤ n) guards → AllByRecursion (λ (s : Snapshot). length s.shapes ≤ n) (map (λ (x : ℕ × Snapshot). x.1) kept)
few_shapes n [] guards z h = tt
few_shapes n (x ∷ kept) [] z h = absurd z
few_shapes n (x ∷ kept) (y ∷ guards) z h =
    let a : length y.1.label + length y.1.shapes ≤ n = h.0 in
    let same : length y.1.shapes ≡ length x.1.shapes = ap length z.0.1.2 in
    (omega (arith, a, same), few_shapes n kept guards z.1 h.1)

-- What is found by a guard's number

found : (F : Snapshot → Type 0) (b : Bool) (s : Snapshot) (later : Option Snapshot) (first : Entry) (rest : Option Entry) (e : Entry) → (b ≡ true → first ≡ e → F s) → (rest ≡ Some e → IsSomeAnd later F) → (if b then Some first else rest) ≡ Some e → IsSomeAnd (or_later (if b then Some s else None) later) F
found F true s later first rest e f g h = f refl (some_same h)
found F false s later first rest e f g h = g h

fits_at : (set : TraceSet) (p m n : ℕ) (s : Snapshot) (y : ℕ × Entry) (later : Option Snapshot) (rest : Option Entry) (e : Entry) → IsEntryAt (m, s) y → KeepsFrames (ops_at set p) (m, s) → (rest ≡ Some e → IsSomeAnd later (FitsGuard set p n e))
    → (if y.0 == n then Some y.1 else rest) ≡ Some e → IsSomeAnd (or_later (if m == n then Some s else None) later) (FitsGuard set p n e)
fits_at set p m n s y later rest e z h next is =
    found (FitsGuard set p n e) (m == n) s later y.1 rest e
    (λ b first. (subst (IsEntryOf s) first z.1, subst (λ k. IsSomeAnd (guard_in (ops_at set p) k) (λ (op : Op). AreFramesOf op.snapshot s.frames)) (eqb-true m n b) h))
    next
    (subst (λ k. (if k == n then Some y.1 else rest) ≡ Some e) (sym z.0) is)

-- the entry that is found for a guard is that of its snapshot, whose frames are the recorded ones
pub fits_guard : (set : TraceSet) (p : ℕ) (ops : List OptOp) (guards : List (ℕ × Entry)) (n : ℕ) (e : Entry) → AllZip IsEntryAt (flat_map kept_of ops) guards → AllByRecursion (KeepsFrames (ops_at set p)) (flat_map kept_of ops)
    → entry_for guards n ≡ Some e → IsSomeAnd (snapshot_in ops n) (FitsGuard set p n e)
fits_guard set p [] [] n e z h is = absurd (none_some is)
fits_guard set p [] (y ∷ guards) n e z h is = absurd z
fits_guard set p (opt.Plain c r a d ∷ ops) guards n e z h is = fits_guard set p ops guards n e z h is
fits_guard set p (opt.Guard c a m s ∷ ops) [] n e z h is = absurd z
fits_guard set p (opt.Guard c a m s ∷ ops) (y ∷ guards) n e z h is = fits_at set p m n s y (snapshot_in ops n) (entry_for guards n) e z.0 h.0 (fits_guard set p ops guards n e z.1 h.1) is
fits_guard set p (opt.Exit m s ∷ ops) [] n e z h is = absurd z
fits_guard set p (opt.Exit m s ∷ ops) (y ∷ guards) n e z h is = fits_at set p m n s y (snapshot_in ops n) (entry_for guards n) e z.0 h.0 (fits_guard set p ops guards n e z.1 h.1) is
fits_guard set p (opt.Jump q a ∷ ops) guards n e z h is = fits_guard set p ops guards n e z h is
fits_guard set p (opt.Finish v ∷ ops) guards n e z h is = fits_guard set p ops guards n e z h is
