-- Calls of both sides, also inside legs.
use Rattle.std.proofs.Common.{◌≡◌, ℕ, zero, suc, ◌+◌, ◌*◌, ◌≤◌, List, [], ◌∷◌, ◌++◌, length, refl, sym, ap, ◌∙◌, subst, arith, ◌⊎◌, inl, inr, append_assoc}
use Rattle.std.proofs.lemmas.List.{append-nil}
use Rattle.trace_ops.specs.declared.trace.TraceSet.{TraceSet}
use Rattle.trace_ops.specs.declared.table.Table.{Table}
use Rattle.trace_ops.specs.declared.piece.PieceId.{PieceId}
use Rattle.trace_ops.specs.declared.piece.Piece.{Piece}
use Rattle.trace_ops.specs.declared.piece.Entry.{Entry}
use Rattle.trace_meaning.specs.declared.value.Value.{Value}
use Rattle.trace_meaning.specs.World.{World, Logged}
use Rattle.trace_meaning.specs.Cuts.{Cuts}
use Rattle.trace_meaning.specs.Legs.{Leave, Fails, Jumps, Finishes, Waits, Misfits, Wrong, Program, Leg, At, Ended, begins, run, leg, legs, at_leg}
use Rattle.trace_meaning.specs.Growing.{IsLonger, RunsGrow}
use Rattle.trace_meaning.specs.Recorded.{RecordedNow, recorded}
use Rattle.trace_meaning.specs.Observed.{world_of}
use Rattle.trace_meaning.specs.Laws.{CallsAreKept}
use Rattle.opt_meaning.specs.Along.{SameLogs, SameCalls, BeginsCalls}
use Rattle.opt_meaning.specs.Pieces.{PiecesNow, pieces}
use Rattle.opt_meaning.specs.Observed.{pieces_world}
use Rattle.opt_meaning.specs.Admits.{Admits, plain_entry}
use Rattle.trace_meaning.specs.Sound.{Beginnings, CanBegin}
use Rattle.opt_meaning.specs.Leaving.{SameLeave}
use Rattle.trace_meaning.specs.Growing.{leg_world}
use Rattle.opt_meaning.specs.Composing.{Joined, Paired}
use Rattle.trace_meaning.specs.RunLaws.{IsShort, RunLaws}
use Rattle.opt_meaning.specs.Laws.{BegunBy, IsWrongNow, PiecesCompose}
use Rattle.opt_meaning.proofs.Chain.{paired}
use Rattle.opt_meaning.proofs.PiecesGrow.{run-grows}

pub rest_of : (k n : ℕ) → k ≤ n → (r : ℕ) × (n ≡ k + r)
rest_of zero n h = (n, omega arith)
rest_of (suc k) zero h = absurd (omega arith)
rest_of (suc k) (suc n) h = let less : k ≤ n = omega arith in let r = rest_of k n less in let e : n ≡ k + r.0 = r.1 in (r.0, omega arith)

module _ (set : TraceSet) (ps : List Piece) (cuts : Cuts) (la : RunLaws (recorded set cuts)) (lb : RunLaws (pieces set ps cuts)) (kept : CallsAreKept) (grows : RunsGrow (pieces set ps cuts)) where
  rec_leg : (x : Leg ℕ) → (world_of (at_leg (recorded set cuts) x)).log ≡ (leg_world x).log
  rec_leg (At p vs w) = refl
  rec_leg (Ended p (Fails n vs w)) = refl
  rec_leg (Ended p (Jumps vs w)) = refl
  rec_leg (Ended p (Finishes vs w)) = refl
  rec_leg (Ended p (Waits w)) = refl
  rec_leg (Ended p (Misfits w)) = refl
  rec_leg (Ended p (Wrong w)) = refl

  opt_leg : (x : Leg PieceId) → (pieces_world (at_leg (pieces set ps cuts) x)).log ≡ (leg_world x).log
  opt_leg (At p vs w) = refl
  opt_leg (Ended p (Fails n vs w)) = refl
  opt_leg (Ended p (Jumps vs w)) = refl
  opt_leg (Ended p (Finishes vs w)) = refl
  opt_leg (Ended p (Waits w)) = refl
  opt_leg (Ended p (Misfits w)) = refl
  opt_leg (Ended p (Wrong w)) = refl

  -- so many operations haven't had more calls than as many legs
  rec_before : (n : ℕ) (x : Leg ℕ) → IsLonger (world_of (run (recorded set cuts) n (at_leg (recorded set cuts) x))).log (leg_world (legs (recorded set cuts) n x)).log
  rec_before n x =
      let h = la.legs_after n x in
      let r = rest_of n h.0 h.1 in
      let on : run (recorded set cuts) r.0 (run (recorded set cuts) n (at_leg (recorded set cuts) x)) ≡ at_leg (recorded set cuts) (legs (recorded set cuts) n x) = la.runs_on (at_leg (recorded set cuts) x) n r.0 ∙ ap (λ k. run (recorded set cuts) k (at_leg (recorded set cuts) x)) (sym r.1) ∙ h.2 in
      let g = kept set cuts (run (recorded set cuts) n (at_leg (recorded set cuts) x)) r.0 in
      (g.0, sym (rec_leg (legs (recorded set cuts) n x)) ∙ ap (λ (y : RecordedNow). (world_of y).log) (sym on) ∙ g.1)

  opt_before : (n : ℕ) (x : Leg PieceId) → IsLonger (pieces_world (run (pieces set ps cuts) n (at_leg (pieces set ps cuts) x))).log (leg_world (legs (pieces set ps cuts) n x)).log
  opt_before n x =
      let h = lb.legs_after n x in
      let r = rest_of n h.0 h.1 in
      let on : run (pieces set ps cuts) r.0 (run (pieces set ps cuts) n (at_leg (pieces set ps cuts) x)) ≡ at_leg (pieces set ps cuts) (legs (pieces set ps cuts) n x) = lb.runs_on (at_leg (pieces set ps cuts) x) n r.0 ∙ ap (λ k. run (pieces set ps cuts) k (at_leg (pieces set ps cuts) x)) (sym r.1) ∙ h.2 in
      let g = run-grows set ps cuts grows (run (pieces set ps cuts) n (at_leg (pieces set ps cuts) x)) r.0 in
      (g.0, sym (opt_leg (legs (pieces set ps cuts) n x)) ∙ ap (λ (y : PiecesNow). (pieces_world y).log) (sym on) ∙ g.1)

  -- after enough operations for them, the calls of legs have been had
  rec_after : (most : ℕ) → IsShort (recorded set cuts) most → (count : ℕ) (x : Leg ℕ) (n : ℕ) → count * most ≤ n → IsLonger (leg_world (legs (recorded set cuts) count x)).log (world_of (run (recorded set cuts) n (at_leg (recorded set cuts) x))).log
  rec_after most short count x n room =
      let h = la.legs_within most short count x in
      let few : h.0 ≤ count * most = h.1 in
      let r = rest_of h.0 n (omega arith) in
      let on : run (recorded set cuts) r.0 (at_leg (recorded set cuts) (legs (recorded set cuts) count x)) ≡ run (recorded set cuts) n (at_leg (recorded set cuts) x) =
      ap (λ y. run (recorded set cuts) r.0 y) (sym h.2) ∙ la.runs_on (at_leg (recorded set cuts) x) h.0 r.0 ∙ ap (λ k. run (recorded set cuts) k (at_leg (recorded set cuts) x)) (sym r.1) in
      let g = kept set cuts (at_leg (recorded set cuts) (legs (recorded set cuts) count x)) r.0 in
      (g.0, ap (λ (y : RecordedNow). (world_of y).log) (sym on) ∙ g.1 ∙ ap (λ l. l ++ g.0) (rec_leg (legs (recorded set cuts) count x)))

  opt_after : (most : ℕ) → IsShort (pieces set ps cuts) most → (count : ℕ) (x : Leg PieceId) (n : ℕ) → count * most ≤ n → IsLonger (leg_world (legs (pieces set ps cuts) count x)).log (pieces_world (run (pieces set ps cuts) n (at_leg (pieces set ps cuts) x))).log
  opt_after most short count x n room =
      let h = lb.legs_within most short count x in
      let few : h.0 ≤ count * most = h.1 in
      let r = rest_of h.0 n (omega arith) in
      let on : run (pieces set ps cuts) r.0 (at_leg (pieces set ps cuts) (legs (pieces set ps cuts) count x)) ≡ run (pieces set ps cuts) n (at_leg (pieces set ps cuts) x) =
      ap (λ y. run (pieces set ps cuts) r.0 y) (sym h.2) ∙ lb.runs_on (at_leg (pieces set ps cuts) x) h.0 r.0 ∙ ap (λ k. run (pieces set ps cuts) k (at_leg (pieces set ps cuts) x)) (sym r.1) in
      let g = run-grows set ps cuts grows (at_leg (pieces set ps cuts) (legs (pieces set ps cuts) count x)) r.0 in
      (g.0, ap (λ (y : PiecesNow). (pieces_world y).log) (sym on) ∙ g.1 ∙ ap (λ l. l ++ g.0) (opt_leg (legs (pieces set ps cuts) count x)))

-- Calls of a pair

split_right : (m : List ℕ) (xs ys zs : List Logged) → SameLogs m xs (ys ++ zs) → (first : List Logged) × (later : List Logged) × (xs ≡ first ++ later) × SameLogs m first ys
split_right m xs [] zs h = ([], xs, refl, tt)
split_right m [] (y ∷ ys) zs h = absurd h
split_right m (x ∷ xs) (y ∷ ys) zs h = let r = split_right m xs ys zs h.1 in (x ∷ r.0, r.1, ap (λ l. x ∷ l) r.2, (h.0, r.3))

split_left : (m : List ℕ) (xs zs ys : List Logged) → SameLogs m (xs ++ zs) ys → (first : List Logged) × (later : List Logged) × (ys ≡ first ++ later) × SameLogs m xs first
split_left m [] zs ys h = ([], ys, refl, tt)
split_left m (x ∷ xs) zs [] h = absurd h
split_left m (x ∷ xs) zs (y ∷ ys) h = let r = split_left m xs zs ys h.1 in (y ∷ r.0, r.1, ap (λ l. y ∷ l) r.2, (h.0, r.3))

module _ (n : ℕ) where
  all_begin : (rec opt : List Logged) → SameCalls n rec opt → BeginsCalls n rec opt
  all_begin rec opt h = record { first = opt; later = []; splits = sym (append-nil opt); same = h }

  -- fewer calls of the trace, and more of the piece
  begins_fewer : (rec less opt more : List Logged) → IsLonger less rec → IsLonger opt more → BeginsCalls n rec opt → BeginsCalls n less more
  begins_fewer rec less opt more g l h =
      let both : SameLogs h.same.mapped h.first (less ++ g.0) = subst (λ r. SameLogs h.same.mapped h.first r) g.1 h.same.calls in
      let s = split_right h.same.mapped h.first less g.0 both in
      record {
        first = s.0;
        later = s.1 ++ (h.later ++ l.0);
        splits = l.1 ∙ ap (λ o. o ++ l.0) h.splits ∙ append_assoc h.first h.later l.0 ∙ ap (λ f. f ++ (h.later ++ l.0)) s.2 ∙ append_assoc s.0 s.1 (h.later ++ l.0);
        same = record { mapped = h.same.mapped; lawful = h.same.lawful; calls = s.3 };
      }

  -- fewer calls of the piece, and more of the trace
  begun_fewer : (rec more opt less : List Logged) → IsLonger less opt → IsLonger rec more → SameCalls n rec opt → BegunBy n more less
  begun_fewer rec more opt less g l h =
      let both : SameLogs h.mapped (less ++ g.0) rec = subst (λ o. SameLogs h.mapped o rec) g.1 h.calls in
      let s = split_left h.mapped less g.0 rec both in
      record {
        first = s.0;
        later = s.1 ++ l.0;
        splits = l.1 ∙ ap (λ r. r ++ l.0) s.2 ∙ append_assoc s.0 s.1 l.0;
        same = record { mapped = h.mapped; lawful = h.lawful; calls = s.3 };
      }

module _ {P Q : Type 0} (t : Table) (k : Joined P Q) (can : Beginnings P) where
  admitted_calls : (e : Entry) (vs : List Value) (w : World) (us : List Value) (u : World) → Admits t e vs w us u → SameCalls (length t.prebuilts) w.log u.log
  admitted_calls e vs w us u a = record { mapped = a.mapped; lawful = a.agrees.injective; calls = a.agrees.calls }

  -- the trace is wrong, or both have had the same calls
  abbrev WrongOrSame : Leg P → Leg Q → Type 0
  WrongOrSame x y = ((p : P) × (w : World) × (x ≡ Ended p (Wrong w))) ⊎ SameCalls (length t.prebuilts) (leg_world x).log (leg_world y).log

  left_calls : (p : P) (q : Q) (x y : Leave) → SameLeave t (k.guards q) (k.at_end q) x y → WrongOrSame (Ended p x) (Ended q y)
  left_calls p q (Wrong w) y h = inl (p, w, refl)
  left_calls p q (Fails n vs w) (Fails m us u) h = inr (admitted_calls h.1 vs w us u h.3)
  left_calls p q (Jumps vs w) (Jumps us u) h = inr (admitted_calls (k.at_end q) vs w us u h)
  left_calls p q (Finishes vs w) (Finishes us u) h = inr (admitted_calls (plain_entry h.0) vs w us u h.2)
  left_calls p q (Waits w) (Waits u) h = inr h.0
  left_calls p q (Misfits w) (Misfits u) h = inr h.0
  left_calls p q _ _ h = absurd h

  paired_calls : (x : Leg P) (y : Leg Q) → Paired t k can x y → WrongOrSame x y
  paired_calls (At p vs w) (At q us u) h = inr (admitted_calls (k.entry q) vs w us u h.2)
  paired_calls (At p vs w) (Ended q y) h = absurd h
  paired_calls (Ended p (Wrong w)) y h = inl (p, w, refl)
  paired_calls (Ended p (Fails n vs w)) (Ended q y) h = left_calls p q (Fails n vs w) y h.1
  paired_calls (Ended p (Jumps vs w)) (Ended q y) h = left_calls p q (Jumps vs w) y h.1
  paired_calls (Ended p (Finishes vs w)) (Ended q y) h = left_calls p q (Finishes vs w) y h.1
  paired_calls (Ended p (Waits w)) (Ended q y) h = left_calls p q (Waits w) y h.1
  paired_calls (Ended p (Misfits w)) (Ended q y) h = left_calls p q (Misfits w) y h.1
  paired_calls (Ended p _) (At q us u) h = absurd h

  -- in either case those of the trace begin those of the piece
  paired_begins : (x : Leg P) (y : Leg Q) → Paired t k can x y → BeginsCalls (length t.prebuilts) (leg_world x).log (leg_world y).log
  paired_begins (Ended p (Wrong w)) y h = h
  paired_begins (At p vs w) (At q us u) h = all_begin (length t.prebuilts) w.log u.log (admitted_calls (k.entry q) vs w us u h.2)
  paired_begins (At p vs w) (Ended q y) h = absurd h
  paired_begins (Ended p (Fails n vs w)) (Ended q (Fails m us u)) h = all_begin (length t.prebuilts) w.log u.log (admitted_calls h.1.1 vs w us u h.1.3)
  paired_begins (Ended p (Jumps vs w)) (Ended q (Jumps us u)) h = all_begin (length t.prebuilts) w.log u.log (admitted_calls (k.at_end q) vs w us u h.1)
  paired_begins (Ended p (Finishes vs w)) (Ended q (Finishes us u)) h = all_begin (length t.prebuilts) w.log u.log (admitted_calls (plain_entry h.1.0) vs w us u h.1.2)
  paired_begins (Ended p (Waits w)) (Ended q (Waits u)) h = all_begin (length t.prebuilts) w.log u.log h.1.0
  paired_begins (Ended p (Misfits w)) (Ended q (Misfits u)) h = all_begin (length t.prebuilts) w.log u.log h.1.0
  paired_begins (Ended p x) (Ended q y) h = absurd h.1
  paired_begins (Ended p _) (At q us u) h = absurd h

-- Both directions

module _ (set : TraceSet) (ps : List Piece) (cuts : Cuts) (la : RunLaws (recorded set cuts)) (lb : RunLaws (pieces set ps cuts)) (kept : CallsAreKept) (grows : RunsGrow (pieces set ps cuts)) (k : Joined ℕ PieceId) (h : PiecesCompose set ps cuts k) (x : Leg ℕ) (y : Leg PieceId) (z : Paired set.table k (CanBegin set) x y) where
  pub calls-forward : (s : ℕ) → IsShort (pieces set ps cuts) s → (n m : ℕ) → n * s ≤ m
      → BeginsCalls (length set.table.prebuilts) (world_of (run (recorded set cuts) n (at_leg (recorded set cuts) x))).log (pieces_world (run (pieces set ps cuts) m (at_leg (pieces set ps cuts) y))).log
  calls-forward s short n m room =
      let pair = paired set.table (recorded set cuts) (pieces set ps cuts) k (CanBegin set) h n x y z in
      begins_fewer (length set.table.prebuilts) (leg_world (legs (recorded set cuts) n x)).log (world_of (run (recorded set cuts) n (at_leg (recorded set cuts) x))).log (leg_world (legs (pieces set ps cuts) n y)).log (pieces_world (run (pieces set ps cuts) m (at_leg (pieces set ps cuts) y))).log
      (rec_before set ps cuts la lb kept grows n x) (opt_after set ps cuts la lb kept grows s short n y m room)
      (paired_begins set.table k (CanBegin set) (legs (recorded set cuts) n x) (legs (pieces set ps cuts) n y) pair)

  stays_wrong : (most : ℕ) → IsShort (recorded set cuts) most → (m n : ℕ) → m * most ≤ n → (p : ℕ) (w : World) → legs (recorded set cuts) m x ≡ Ended p (Wrong w) → IsWrongNow (run (recorded set cuts) n (at_leg (recorded set cuts) x))
  stays_wrong most short m n room p w e = subst (λ (r : RecordedNow). IsWrongNow r) (sym (la.over_when_legs most short m x p (Wrong w) e n room)) tt

  pub calls-backward : (most : ℕ) → IsShort (recorded set cuts) most → (m n : ℕ) → m * most ≤ n
      → IsWrongNow (run (recorded set cuts) n (at_leg (recorded set cuts) x)) ⊎ BegunBy (length set.table.prebuilts) (world_of (run (recorded set cuts) n (at_leg (recorded set cuts) x))).log (pieces_world (run (pieces set ps cuts) m (at_leg (pieces set ps cuts) y))).log
  calls-backward most short m n room =
      let pair = paired set.table (recorded set cuts) (pieces set ps cuts) k (CanBegin set) h m x y z in
      elim (paired_calls set.table k (CanBegin set) (legs (recorded set cuts) m x) (legs (pieces set ps cuts) m y) pair) [
        | inl e ↦ inl (stays_wrong most short m n room e.0 e.1 e.2)
        | inr same ↦ inr (begun_fewer (length set.table.prebuilts) (leg_world (legs (recorded set cuts) m x)).log (world_of (run (recorded set cuts) n (at_leg (recorded set cuts) x))).log (leg_world (legs (pieces set ps cuts) m y)).log (pieces_world (run (pieces set ps cuts) m (at_leg (pieces set ps cuts) y))).log
            (opt_before set ps cuts la lb kept grows m y) (rec_after set ps cuts la lb kept grows most short m x n room) same)
      ]

  -- what has been called by a place in leg c + 1 of the pieces
  pub leg-calls-backward : (most : ℕ) → IsShort (recorded set cuts) most → (c : ℕ) (log : List Logged) → IsLonger log (leg_world (legs (pieces set ps cuts) (c + 1) y)).log → (n : ℕ) → (c + 1) * most ≤ n
      → IsWrongNow (run (recorded set cuts) n (at_leg (recorded set cuts) x)) ⊎ BegunBy (length set.table.prebuilts) (world_of (run (recorded set cuts) n (at_leg (recorded set cuts) x))).log log
  leg-calls-backward most short c log longer n room =
      let pair = paired set.table (recorded set cuts) (pieces set ps cuts) k (CanBegin set) h (c + 1) x y z in
      elim (paired_calls set.table k (CanBegin set) (legs (recorded set cuts) (c + 1) x) (legs (pieces set ps cuts) (c + 1) y) pair) [
        | inl e ↦ inl (stays_wrong most short (c + 1) n room e.0 e.1 e.2)
        | inr same ↦ inr (begun_fewer (length set.table.prebuilts) (leg_world (legs (recorded set cuts) (c + 1) x)).log (world_of (run (recorded set cuts) n (at_leg (recorded set cuts) x))).log (leg_world (legs (pieces set ps cuts) (c + 1) y)).log log
            longer (rec_after set ps cuts la lb kept grows most short (c + 1) x n room) same)
      ]
