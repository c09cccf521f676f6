-- Pieces allocate no more than their traces.
use Rattle.std.proofs.Common.{◌≡◌, ℕ, zero, suc, ◌+◌, ◌*◌, ◌≤◌, List, [], ◌∷◌, ◌++◌, length, map, drop, refl, sym, ap, ◌∙◌, subst, arith, ◌⊎◌, inl, inr}
use Rattle.std.specs.Prelude.{sum_by}
use Rattle.std.proofs.lemmas.List.Sums.{sum_by-cons}
use Rattle.trace_ops.specs.InRange.{bytes_of_object}
use Rattle.trace_ops.specs.declared.table.ShapeOf.{ShapeOf}
use Rattle.trace_ops.specs.declared.table.Table.{Table}
use Rattle.trace_ops.specs.declared.trace.TraceSet.{TraceSet}
use Rattle.trace_ops.specs.declared.piece.PieceId.{PieceId}
use Rattle.trace_ops.specs.declared.piece.Piece.{Piece}
use Rattle.trace_meaning.specs.declared.value.Object.{Object}
use Rattle.trace_meaning.specs.World.{World, size_of, bytes_in}
use Rattle.trace_meaning.specs.Cuts.{Cuts}
use Rattle.trace_meaning.specs.Legs.{Leave, Fails, Jumps, Finishes, Waits, Misfits, Wrong, Leg, At, Ended, run, legs, at_leg}
use Rattle.trace_meaning.specs.Growing.{IsLonger, extent, extents, RunsGrow}
use Rattle.trace_meaning.specs.Recorded.{RecordedNow, recorded}
use Rattle.trace_meaning.specs.Observed.{world_of, world_left}
use Rattle.trace_meaning.specs.Laws.{ObjectsAreKept}
use Rattle.opt_meaning.specs.Pieces.{PiecesNow, pieces}
use Rattle.opt_meaning.specs.Observed.{pieces_world}
use Rattle.opt_meaning.specs.Admits.{plain_entry}
use Rattle.trace_meaning.specs.Sound.{Beginnings, CanBegin}
use Rattle.opt_meaning.specs.Leaving.{SameLeave}
use Rattle.trace_meaning.specs.Growing.{leg_world}
use Rattle.opt_meaning.specs.Composing.{Joined, IsWrong, Paired}
use Rattle.trace_meaning.specs.RunLaws.{IsShort, RunLaws}
use Rattle.opt_meaning.specs.Laws.{IsWrongNow, PiecesCompose, AdmittedBytes}
use Rattle.opt_meaning.proofs.Chain.{paired}
use Rattle.opt_meaning.proofs.PiecesGrow.{run-keeps}
use Rattle.opt_meaning.proofs.CallsMatch.{rest_of}

-- More objects are more bytes

abbrev Extent : Type 0
Extent = ShapeOf × ℕ

abbrev size : Extent → ℕ
size e = bytes_of_object e.0 e.1

sizes_of : (n : ℕ) (os : List Object) → sum_by size_of (drop n os) ≡ sum_by size (drop n (map extent os))
sizes_of zero [] = refl
sizes_of (suc n) [] = refl
sizes_of zero (o ∷ os) = sum_by-cons size_of o os ∙ ap (λ k. size_of o + k) (sizes_of zero os) ∙ sym (sum_by-cons size (extent o) (map extent os))
sizes_of (suc n) (o ∷ os) = sizes_of n os

more_sizes : (n : ℕ) (xs ys : List Extent) → sum_by size (drop n xs) ≤ sum_by size (drop n (xs ++ ys))
more_sizes zero [] ys = omega arith
more_sizes (suc n) [] ys = omega arith
more_sizes zero (x ∷ xs) ys =
    let rest : sum_by size xs ≤ sum_by size (xs ++ ys) = more_sizes zero xs ys in
    let left : sum_by size (x ∷ xs) ≡ size x + sum_by size xs = sum_by-cons size x xs in
    let right : sum_by size (x ∷ (xs ++ ys)) ≡ size x + sum_by size (xs ++ ys) = sum_by-cons size x (xs ++ ys) in
    omega arith
more_sizes (suc n) (x ∷ xs) ys = more_sizes n xs ys

pub bytes-longer : (t : Table) (w u : World) → IsLonger (extents w) (extents u) → bytes_in t w ≤ bytes_in t u
bytes-longer t w u h =
    let n = length t.prebuilts in
    let left : bytes_in t w ≡ sum_by size (drop n (extents w)) = sizes_of n w.objects in
    let right : bytes_in t u ≡ sum_by size (drop n (extents w ++ h.0)) = sizes_of n u.objects ∙ ap (λ es. sum_by size (drop n es)) h.1 in
    let more : sum_by size (drop n (extents w)) ≤ sum_by size (drop n (extents w ++ h.0)) = more_sizes n (extents w) h.0 in
    omega arith

-- Pairs

module _ {P Q : Type 0} (t : Table) (k : Joined P Q) (can : Beginnings P) (bytes : AdmittedBytes) where
  pub left-bytes : (q : Q) (x y : Leave) → SameLeave t (k.guards q) (k.at_end q) x y → ¬ IsWrong x → bytes_in t (world_left y) ≤ bytes_in t (world_left x)
  left-bytes q (Wrong w) y h not = absurd (not tt)
  left-bytes q (Fails n vs w) (Fails m us u) h not = bytes t h.1 vs w us u h.3
  left-bytes q (Jumps vs w) (Jumps us u) h not = bytes t (k.at_end q) vs w us u h
  left-bytes q (Finishes vs w) (Finishes us u) h not = bytes t (plain_entry h.0) vs w us u h.2
  left-bytes q (Waits w) (Waits u) h not = h.1
  left-bytes q (Misfits w) (Misfits u) h not = h.1
  left-bytes q _ _ h not = absurd h

  abbrev WrongOrFewer : Leg P → Leg Q → Type 0
  WrongOrFewer x y = ((p : P) × (w : World) × (x ≡ Ended p (Wrong w))) ⊎ (bytes_in t (leg_world y) ≤ bytes_in t (leg_world x))

  paired_bytes : (x : Leg P) (y : Leg Q) → Paired t k can x y → WrongOrFewer x y
  paired_bytes (At p vs w) (At q us u) h = inr (bytes t (k.entry q) vs w us u h.2)
  paired_bytes (At p vs w) (Ended q y) h = absurd h
  paired_bytes (Ended p (Wrong w)) y h = inl (p, w, refl)
  paired_bytes (Ended p (Fails n vs w)) (Ended q y) h = inr (left-bytes q (Fails n vs w) y h.1 (λ e. e))
  paired_bytes (Ended p (Jumps vs w)) (Ended q y) h = inr (left-bytes q (Jumps vs w) y h.1 (λ e. e))
  paired_bytes (Ended p (Finishes vs w)) (Ended q y) h = inr (left-bytes q (Finishes vs w) y h.1 (λ e. e))
  paired_bytes (Ended p (Waits w)) (Ended q y) h = inr (left-bytes q (Waits w) y h.1 (λ e. e))
  paired_bytes (Ended p (Misfits w)) (Ended q y) h = inr (left-bytes q (Misfits w) y h.1 (λ e. e))
  paired_bytes (Ended p _) (At q us u) h = absurd h

rec_world : (set : TraceSet) (cuts : Cuts) (t : Table) (x : Leg ℕ) → bytes_in t (world_of (at_leg (recorded set cuts) x)) ≡ bytes_in t (leg_world x)
rec_world set cuts t (At p vs w) = refl
rec_world set cuts t (Ended p (Fails n vs w)) = refl
rec_world set cuts t (Ended p (Jumps vs w)) = refl
rec_world set cuts t (Ended p (Finishes vs w)) = refl
rec_world set cuts t (Ended p (Waits w)) = refl
rec_world set cuts t (Ended p (Misfits w)) = refl
rec_world set cuts t (Ended p (Wrong w)) = refl

opt_world : (set : TraceSet) (ps : List Piece) (cuts : Cuts) (t : Table) (x : Leg PieceId) → bytes_in t (pieces_world (at_leg (pieces set ps cuts) x)) ≡ bytes_in t (leg_world x)
opt_world set ps cuts t (At p vs w) = refl
opt_world set ps cuts t (Ended p (Fails n vs w)) = refl
opt_world set ps cuts t (Ended p (Jumps vs w)) = refl
opt_world set ps cuts t (Ended p (Finishes vs w)) = refl
opt_world set ps cuts t (Ended p (Waits w)) = refl
opt_world set ps cuts t (Ended p (Misfits w)) = refl
opt_world set ps cuts t (Ended p (Wrong w)) = refl

module _ (bytes : AdmittedBytes) (set : TraceSet) (ps : List Piece) (cuts : Cuts) (la : RunLaws (recorded set cuts)) (lb : RunLaws (pieces set ps cuts)) (kept : ObjectsAreKept) (grows : RunsGrow (pieces set ps cuts)) (k : Joined ℕ PieceId) (h : PiecesCompose set ps cuts k) (x : Leg ℕ) (y : Leg PieceId) (z : Paired set.table k (CanBegin set) x y) where
  -- what so many operations have allocated, as many legs have
  opt_before : (m : ℕ) → bytes_in set.table (pieces_world (run (pieces set ps cuts) m (at_leg (pieces set ps cuts) y))) ≤ bytes_in set.table (leg_world (legs (pieces set ps cuts) m y))
  opt_before m =
      let l = lb.legs_after m y in
      let r = rest_of m l.0 l.1 in
      let on : run (pieces set ps cuts) r.0 (run (pieces set ps cuts) m (at_leg (pieces set ps cuts) y)) ≡ at_leg (pieces set ps cuts) (legs (pieces set ps cuts) m y) = lb.runs_on (at_leg (pieces set ps cuts) y) m r.0 ∙ ap (λ n. run (pieces set ps cuts) n (at_leg (pieces set ps cuts) y)) (sym r.1) ∙ l.2 in
      let now : World = pieces_world (run (pieces set ps cuts) m (at_leg (pieces set ps cuts) y)) in
      let more = bytes-longer set.table now (pieces_world (run (pieces set ps cuts) r.0 (run (pieces set ps cuts) m (at_leg (pieces set ps cuts) y)))) (run-keeps set ps cuts grows (run (pieces set ps cuts) m (at_leg (pieces set ps cuts) y)) r.0) in
      subst (λ n. bytes_in set.table now ≤ n) (ap (λ (s : PiecesNow). bytes_in set.table (pieces_world s)) on ∙ opt_world set ps cuts set.table (legs (pieces set ps cuts) m y)) more

  rec_after : (most : ℕ) → IsShort (recorded set cuts) most → (m n : ℕ) → m * most ≤ n → bytes_in set.table (leg_world (legs (recorded set cuts) m x)) ≤ bytes_in set.table (world_of (run (recorded set cuts) n (at_leg (recorded set cuts) x)))
  rec_after most short m n room =
      let l = la.legs_within most short m x in
      let few : l.0 ≤ m * most = l.1 in
      let r = rest_of l.0 n (omega arith) in
      let on : run (recorded set cuts) r.0 (at_leg (recorded set cuts) (legs (recorded set cuts) m x)) ≡ run (recorded set cuts) n (at_leg (recorded set cuts) x) =
      ap (λ s. run (recorded set cuts) r.0 s) (sym l.2) ∙ la.runs_on (at_leg (recorded set cuts) x) l.0 r.0 ∙ ap (λ j. run (recorded set cuts) j (at_leg (recorded set cuts) x)) (sym r.1) in
      let start : World = world_of (at_leg (recorded set cuts) (legs (recorded set cuts) m x)) in
      let more = bytes-longer set.table start (world_of (run (recorded set cuts) r.0 (at_leg (recorded set cuts) (legs (recorded set cuts) m x)))) (kept set cuts (at_leg (recorded set cuts) (legs (recorded set cuts) m x)) r.0) in
      let end : bytes_in set.table (world_of (run (recorded set cuts) r.0 (at_leg (recorded set cuts) (legs (recorded set cuts) m x)))) ≡ bytes_in set.table (world_of (run (recorded set cuts) n (at_leg (recorded set cuts) x))) = ap (λ (s : RecordedNow). bytes_in set.table (world_of s)) on in
      let begin : bytes_in set.table start ≡ bytes_in set.table (leg_world (legs (recorded set cuts) m x)) = rec_world set cuts set.table (legs (recorded set cuts) m x) in
      omega (arith, more, end, begin)

  stays_wrong : (most : ℕ) → IsShort (recorded set cuts) most → (m n : ℕ) → m * most ≤ n → (p : ℕ) (w : World) → legs (recorded set cuts) m x ≡ Ended p (Wrong w) → IsWrongNow (run (recorded set cuts) n (at_leg (recorded set cuts) x))
  stays_wrong most short m n room p w e = subst (λ (r : RecordedNow). IsWrongNow r) (sym (la.over_when_legs most short m x p (Wrong w) e n room)) tt

  pub bytes-backward : (most : ℕ) → IsShort (recorded set cuts) most → (m n : ℕ) → m * most ≤ n
      → IsWrongNow (run (recorded set cuts) n (at_leg (recorded set cuts) x)) ⊎ (bytes_in set.table (pieces_world (run (pieces set ps cuts) m (at_leg (pieces set ps cuts) y))) ≤ bytes_in set.table (world_of (run (recorded set cuts) n (at_leg (recorded set cuts) x))))
  bytes-backward most short m n room =
      elim (paired_bytes set.table k (CanBegin set) bytes (legs (recorded set cuts) m x) (legs (pieces set ps cuts) m y) (paired set.table (recorded set cuts) (pieces set ps cuts) k (CanBegin set) h m x y z)) [
        | inl e ↦ inl (stays_wrong most short m n room e.0 e.1 e.2)
        | inr fewer ↦ inr (omega (arith, opt_before m, fewer, rec_after most short m n room))
      ]
