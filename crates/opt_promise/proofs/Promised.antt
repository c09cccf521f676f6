-- The promise, from the laws that it rests on.
use Rattle.std.proofs.Common.{◌≡◌, ◌⊎◌, inl, inr, ℕ, zero, suc, ◌+◌, ◌<◌, ◌≤◌, Bool, true, false, if◌then◌else◌, Option, Some, None, List, [], ◌∷◌, length, slice_get, refl, ap, ◌∙◌, subst, arith}
use Rattle.std.specs.Prelude.{IsSomeAnd}
use Rattle.lists.proofs.Options.{some_same, none_some}
use Rattle.trace_ops.specs.declared.trace.Trace.{Trace}
use Rattle.trace_ops.specs.declared.trace.TraceSet.{TraceSet}
use Rattle.trace_ops.specs.declared.piece.PieceId.{PieceId}
use Rattle.trace_ops.specs.declared.piece.Piece.{Piece}
use Rattle.trace_ops.specs.InRange.{IsInRange}
use Rattle.trace_ops.specs.WellFormed.{IsWellFormed}
use Rattle.trace_ops.specs.Constants.{HasWords}
use Rattle.trace_meaning.specs.declared.call.Answer.{Answer}
use Rattle.trace_meaning.specs.declared.value.Value.{Value}
use Rattle.trace_meaning.specs.Cuts.{Cuts}
use Rattle.trace_meaning.specs.Legs.{Leave, Fails, Jumps, Finishes, Waits, Misfits, Wrong, At, Over}
use Rattle.heap_shape.specs.Shown.{recorded_shown}
use Rattle.trace_meaning.specs.Laws.{longest, most_operations, LegsAreShort}
use Rattle.trace_meaning.specs.Recorded.{recorded, first_world}
use Rattle.trace_meaning.specs.RunLaws.{IsShort}
use Rattle.trace_meaning.specs.Sound.{CanBegin, LawfulLegsCanBegin}
use Rattle.trace_meaning.specs.Starting.{StartsLoop}
use Rattle.opt_meaning.specs.Composing.{IsWrong, Paired, EndedAlike}
use Rattle.opt_meaning.specs.Laws.{PiecesCompose, MeetingPiecesCompose, PiecesAreShort, EndsForward, EndsBackward, LegsForward, LegsBackward, CallsBackward, StartsArePaired}
use Rattle.opt_meaning.specs.Meeting.{Made, EndsOnce, made_at, pieces_of, entry_of, joined}
use Rattle.opt_meaning.specs.Pieces.{pieces, piece_at, same_piece}
use Rattle.opt_meaning.specs.Showing.{RebuiltSame, EndsShowAlike, pieces_shown}
use Rattle.opt_promise.specs.Legs.{MadePiecesPromiseLegs}
use Rattle.opt_promise.specs.Promise.{AreAt, BeginsPlainly, first_piece, AreMade, operations, IsStart, Promise, MadePiecesPromise}

-- Pieces and operations

abbrev IsFound : Option Made → Piece → Type 0
IsFound o p = (m : Made) × (o ≡ Some m) × (m.piece ≡ p)

picked : (b : Bool) (m : Made) (o : Option Piece) (k : Option Made) (p : Piece) → (o ≡ Some p → IsFound k p) → (if b then Some m.piece else o) ≡ Some p → IsFound (if b then Some m else k) p
picked true m o k p f e = (m, refl, some_same e)
picked false m o k p f e = f e

-- a piece that is found is one that was made
made : (ms : List Made) (q : PieceId) (p : Piece) → piece_at (pieces_of ms) q ≡ Some p → IsFound (made_at ms q) p
made [] q p e = absurd (none_some e)
made (m ∷ ms) q p e = picked (same_piece q m.piece.id) m (piece_at (pieces_of ms) q) (made_at ms q) p (made ms q p) e

within_if : (b : Bool) (k : Made) (o : Option Made) (m : Made) (s : ℕ) → (o ≡ Some m → length m.piece.ops ≤ s) → (if b then Some k else o) ≡ Some m → length m.piece.ops ≤ length k.piece.ops + s
within_if true k o m s f e = let same : k ≡ m = some_same e in let n : length k.piece.ops ≡ length m.piece.ops = ap (λ (x : Made). length x.piece.ops) same in omega (arith, n)
within_if false k o m s f e = let le : length m.piece.ops ≤ s = f e in omega (arith, le)

-- no piece has more operations than all of them
within : (ms : List Made) (q : PieceId) (m : Made) → made_at ms q ≡ Some m → length m.piece.ops ≤ operations ms
within [] q m e = absurd (none_some e)
within (k ∷ ms) q m e = within_if (same_piece q k.piece.id) k (made_at ms q) m (operations ms) (within ms q m) e

none_longer : (ts : List Trace) (p : ℕ) (t : Trace) → slice_get ts p ≡ Some t → length t.ops ≤ longest ts
none_longer [] p t e = absurd (none_some e)
none_longer (x ∷ ts) zero t e = let n : length x.ops ≡ length t.ops = ap (λ (y : Trace). length y.ops) (some_same e) in omega (arith, n)
none_longer (x ∷ ts) (suc p) t e = let rest : length t.ops ≤ longest ts = none_longer ts p t e in omega arith

-- an end is wrong or isn't
wrong_or_right : (l : Leave) → IsWrong l ⊎ (¬ IsWrong l)
wrong_or_right (Wrong w) = inl tt
wrong_or_right (Fails n vs w) = inr (λ x. x)
wrong_or_right (Jumps vs w) = inr (λ x. x)
wrong_or_right (Finishes vs w) = inr (λ x. x)
wrong_or_right (Waits w) = inr (λ x. x)
wrong_or_right (Misfits w) = inr (λ x. x)

-- A start

abbrev IsLoop : TraceSet → ℕ → List Value → Type 0
IsLoop set p inputs = (t : Trace) × (slice_get set.traces p ≡ Some t) × StartsLoop set.table inputs t

loop_of : (set : TraceSet) (inputs : List Value) (o : Option Trace) (p : ℕ) → slice_get set.traces p ≡ o → IsSomeAnd o (StartsLoop set.table inputs) → IsLoop set p inputs
loop_of set inputs None p e h = absurd h
loop_of set inputs (Some t) p e h = (t, e, h)

module _ (same : RebuiltSame) (forward : EndsForward) (backward : EndsBackward) (show : EndsShowAlike) (few : PiecesAreShort) (compose : MeetingPiecesCompose)
    (starts : StartsArePaired) (begin : LawfulLegsCanBegin) (short : LegsAreShort)
    (set : TraceSet) (bridges : List ℕ) (ms : List Made) (range : IsInRange set) (well : IsWellFormed set) (words : HasWords set) (h : AreMade set bridges ms) where
  composed : (cuts : Cuts) → AreAt bridges cuts → PiecesCompose set (pieces_of ms) cuts (joined ms)
  composed cuts at = compose set ms cuts (begin set cuts range well words) (h.meet cuts at)

  -- of a loop
  module _ (p : ℕ) (inputs : List Value) (answers : List Answer) (cuts : Cuts) (start : IsStart set p inputs answers) (at : AreAt bridges cuts) where
    loop : IsLoop set p inputs
    loop = loop_of set inputs (slice_get set.traces p) p refl start.starts

    first : (m : Made) × (made_at ms (first_piece p) ≡ Some m) × BeginsPlainly set p m.entry
    first = h.loops p loop.0 loop.1 loop.2.0

    paired : Paired set.table (joined ms) (CanBegin set) (At p inputs (first_world set.table answers)) (At (first_piece p) inputs (first_world set.table answers))
    paired = starts set p inputs answers (joined ms) (first_piece p) first.2.0 range words start.starts start.words start.answers_words refl (ap entry_of first.1 ∙ first.2.1) first.2.2 first.2.3

    some : 1 ≤ operations ms
    some = let a : 0 < length first.0.piece.ops = ((h.meet cuts at).ends (first_piece p) first.0 first.1).some in let b : length first.0.piece.ops ≤ operations ms = within ms (first_piece p) first.0 first.1 in omega (arith, a, b)

    pieces_short : IsShort (pieces set (pieces_of ms) cuts) (operations ms)
    pieces_short = few set (pieces_of ms) cuts (operations ms) some (λ q x e.
        let m = made ms q x e in
        subst (λ (y : Piece). EndsOnce y.ops × (length y.ops ≤ operations ms)) m.2 ((h.meet cuts at).ends q m.0 m.1, within ms q m.0 m.1))

    traces_short : IsShort (recorded set cuts) (most_operations set)
    traces_short =
        let a : 0 < length loop.0.ops = well.has_operations p loop.0 loop.1 in
        let b : length loop.0.ops ≤ longest set.traces = none_longer set.traces p loop.0 loop.1 in
        short set cuts (most_operations set) well (omega (arith, a, b)) (omega arith)

  shows : (r : ℕ) (l : Leave) (q : PieceId) (x : Leave) → EndedAlike set.table (joined ms) r l q x → ¬ IsWrong l → recorded_shown set (Over r l) ≡ pieces_shown set ms (Over q x)
  shows r l q x alike right = show same set ms r l q x h.fit alike right

  wrong_or_shows : (r : ℕ) (l : Leave) (q : PieceId) (x : Leave) → IsWrong l ⊎ EndedAlike set.table (joined ms) r l q x → IsWrong l ⊎ (recorded_shown set (Over r l) ≡ pieces_shown set ms (Over q x))
  wrong_or_shows r l q x (inl w) = inl w
  wrong_or_shows r l q x (inr alike) = elim (wrong_or_right l) [
    | inl w ↦ inl w
    | inr right ↦ inr (shows r l q x alike right)
  ]

  promise : Promise set bridges ms
  promise = record {
    forward = λ p inputs answers cuts start at n r l over right m room.
        let w = first_world set.table answers in
        let e = forward set (pieces_of ms) cuts (joined ms) (composed cuts at) (operations ms) (pieces_short p inputs answers cuts start at) p inputs w (first_piece p) inputs w (paired p inputs answers cuts start at) n r l over right m room in
        (e.0, e.1, e.2, shows r l e.0 e.1 e.3 right);
    backward = λ p inputs answers cuts start at m q x over n room.
        let w = first_world set.table answers in
        let e = backward set (pieces_of ms) cuts (joined ms) (composed cuts at) (most_operations set) (traces_short p inputs answers cuts start at) p inputs w (first_piece p) inputs w (paired p inputs answers cuts start at) m q x over n room in
        (e.0, e.1, e.2, wrong_or_shows e.0 e.1 q x e.3);
  }

pub promised : RebuiltSame → EndsForward → EndsBackward → EndsShowAlike → PiecesAreShort → MeetingPiecesCompose → StartsArePaired → LawfulLegsCanBegin → LegsAreShort → MadePiecesPromise
promised same forward backward show few compose starts begin short set bridges ms range well words h = promise same forward backward show few compose starts begin short set bridges ms range well words h

-- In legs

pub promised_legs : LegsForward → LegsBackward → CallsBackward → RebuiltSame → EndsForward → EndsBackward → EndsShowAlike → PiecesAreShort → MeetingPiecesCompose → StartsArePaired → LawfulLegsCanBegin → LegsAreShort → MadePiecesPromiseLegs
promised_legs leg_forward leg_backward had same forward backward show few compose starts begin short set bridges ms range well words h = record {
  forward = λ p inputs answers cuts start at n r l over right.
      let w = first_world set.table answers in
      leg_forward set (pieces_of ms) cuts (joined ms) (composed same forward backward show few compose starts begin short set bridges ms range well words h cuts at) p inputs w (first_piece p) inputs w
      (paired same forward backward show few compose starts begin short set bridges ms range well words h p inputs answers cuts start at) n r l over right;
  backward = λ p inputs answers cuts start at c q x over n room.
      let w = first_world set.table answers in
      leg_backward set (pieces_of ms) cuts (joined ms) (composed same forward backward show few compose starts begin short set bridges ms range well words h cuts at) (most_operations set)
      (traces_short same forward backward show few compose starts begin short set bridges ms range well words h p inputs answers cuts start at) p inputs w (first_piece p) inputs w
      (paired same forward backward show few compose starts begin short set bridges ms range well words h p inputs answers cuts start at) c q x over n room;
  calls = λ p inputs answers cuts start at m n room.
      let w = first_world set.table answers in
      had set (pieces_of ms) cuts (joined ms) (composed same forward backward show few compose starts begin short set bridges ms range well words h cuts at) (most_operations set)
      (traces_short same forward backward show few compose starts begin short set bridges ms range well words h p inputs answers cuts start at) p inputs w (first_piece p) inputs w
      (paired same forward backward show few compose starts begin short set bridges ms range well words h p inputs answers cuts start at) m n room;
}
