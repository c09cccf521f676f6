-- The optimised pieces of a set: those of all loops, and of the bridges that were attached so far.
use Rattle.std.specs.Prelude.{◌≡◌, ℕ, ◌+◌, ◌==◌, ◌<◌, true, if◌then◌else◌, List, [], ◌∷◌, ◌++◌, Option, Some, None, length, map, slice_get, slice_set}
use Rattle.std.specs.Option.{option_map}
use Rattle.std.specs.List.{AllByRecursion, AllZip, flat_map}
use Rattle.trace_ops.specs.declared.trace.BoxId.{BoxId}
use Rattle.trace_ops.specs.declared.trace.Origin.{Origin}
use Rattle.trace_ops.specs.declared.trace.Origin.TheVariants as origin
use Rattle.trace_ops.specs.declared.trace.Trace.{Trace}
use Rattle.trace_ops.specs.declared.trace.TraceSet.{TraceSet}
use Rattle.trace_ops.specs.declared.piece.Half.{Half}
use Rattle.trace_ops.specs.declared.piece.Half.TheVariants as half
use Rattle.trace_ops.specs.declared.piece.PieceId.{PieceId}
use Rattle.trace_ops.specs.declared.piece.Piece.{Piece}
use Rattle.trace_ops.specs.declared.piece.OptTrace.{OptTrace}
use Rattle.trace_ops.specs.declared.piece.Entry.{Entry}
use Rattle.trace_ops.specs.Constants.{HasWords}
use Rattle.trace_ops.specs.Sound.{IsSound}
use Rattle.trace_ops.specs.WellFormed.{IsWellFormed}
use Rattle.trace_meaning.specs.Cuts.{is_bridge_of}
use Rattle.lists.specs.Has.{Has, IsOnce}
use Rattle.opt_meaning.specs.Admits.{entry_for}
use Rattle.opt_meaning.specs.Meeting.{Made, made_at, pieces_of, IsEntered}
use Rattle.opt_meaning.specs.Pieces.{piece_at, all_pieces, preamble}
use Rattle.opt_promise.specs.Promise.{AreMade}
use Rattle.loop_peel.specs.Peeling.{IsLoop, IsBridge, IsPieceOf, HavePreambles, left_by, loop_entry}

-- What there is

-- where the guards of a trace's pieces fail, with the half of the piece and the guard's number
abbrev pub Left : Type 0
Left = List (Half × ℕ × Entry)

-- one entry a trace with pieces, in the order in which they were made; the bridges that were attached; and by the place of a
-- trace what its guards leave, where it has pieces
pub record Optimised : Type 0 where
  pub traces : List OptTrace
  pub attached : List ℕ
  pub left : List (Option Left)

abbrev pub loop_if : Origin → ℕ → List ℕ
loop_if origin.Loop k = k ∷ []
loop_if (origin.Bridge parent guard) k = []

-- the loops, in the order of traces, the first of these traces having this place
abbrev pub loops_from : ℕ → List Trace → List ℕ
loops_from k [] = []
loops_from k (t ∷ ts) = loop_if t.origin k ++ loops_from (k + 1) ts

-- the traces that have pieces, in order
abbrev pub places_of : TraceSet → List ℕ → List ℕ
places_of set attached = loops_from 0 set.traces ++ attached

-- the preamble of the loop, alone or with its body
abbrev pub AreOfLoop : ℕ → List Piece → Type 0
AreOfLoop p (a ∷ []) = a.id ≡ preamble p
AreOfLoop p (a ∷ b ∷ []) = (a.id ≡ preamble p) × (b.id ≡ record { trace = p; half = half.Body })
AreOfLoop p ps = ⊥

-- all pieces of the entry are of this trace; a loop has a preamble, and may have a body
abbrev pub IsTraceAt : TraceSet → ℕ → OptTrace → Type 0
IsTraceAt set p o =
    AllByRecursion (λ (piece : Piece). piece.id.trace ≡ p) o.pieces
    × ((t : Trace) → slice_get set.traces p ≡ Some t → IsLoop t.origin → AreOfLoop p o.pieces)

-- the labels of pieces
abbrev pub label_in : List Piece → PieceId → Option (List BoxId)
label_in ps q = option_map (λ (p : Piece). p.label) (piece_at ps q)

-- What is kept while bridges are attached

-- those of one trace
abbrev pub of_trace : ℕ → List Made → List Made
of_trace p [] = []
of_trace p (m ∷ ms) = if m.piece.id.trace == p then m ∷ of_trace p ms else of_trace p ms

abbrev pub IsOwnPiece : TraceSet → Made → Type 0
IsOwnPiece set m = IsPieceOf set m.piece.id.trace m.piece.id.half m.entry m

abbrev pub name_of : Made → PieceId
name_of m = m.piece.id

-- the piece begins with what is known where the guard from which its bridge comes fails, in a piece of its half
pub record IsBehind (set : TraceSet) (ms : List Made) (m : Made) : Type 0 where
  pub parent : Made
  pub guard : ℕ
  pub there : Has ms parent
  pub half : parent.piece.id.half ≡ m.piece.id.half
  pub from : is_bridge_of set.traces parent.piece.id.trace guard m.piece.id.trace ≡ true
  pub entry : Has parent.guards (guard, m.entry)

abbrev pub IsLeftOf : List Made → ℕ → Option Left → Type 0
IsLeftOf ms p None = of_trace p ms ≡ []
IsLeftOf ms p (Some xs) = xs ≡ flat_map left_by (of_trace p ms)

-- the trace has pieces
abbrev pub HasPieces : List (Option Left) → ℕ → Type 0
HasPieces left p = (xs : Left) × (slice_get left p ≡ Some (Some xs))

-- what its guards leave, where it has pieces
abbrev pub left_in : Option (Option Left) → Option Left
left_in None = None
left_in (Some o) = o

abbrev pub left_of : List (Option Left) → Option ℕ → Option Left
left_of left None = None
left_of left (Some p) = left_in (slice_get left p)

-- with the pieces of one loop more, and of one bridge
abbrev pub with_loop : Optimised → ℕ → OptTrace → Left → Optimised
with_loop o p t xs = record { traces = o.traces ++ t ∷ []; attached = o.attached; left = slice_set o.left p (Some xs) }

abbrev pub with_bridge : Optimised → ℕ → OptTrace → Left → Optimised
with_bridge o b t xs = record { traces = o.traces ++ t ∷ []; attached = o.attached ++ b ∷ []; left = slice_set o.left b (Some xs) }

-- with what its guards leave forgotten
abbrev pub with_none : Optimised → ℕ → Optimised
with_none o p = record { traces = o.traces; attached = o.attached; left = slice_set o.left p None }

-- the pieces of the loops in front of place k, and of these bridges
pub record Holds (set : TraceSet) (k : ℕ) (attached : List ℕ) (left : List (Option Left)) (ms : List Made) : Type 0 where
  pub each : AllByRecursion (IsOwnPiece set) ms
  pub long : length left ≡ length set.traces
  pub left_is : (p : ℕ) (o : Option Left) → slice_get left p ≡ Some o → IsLeftOf ms p o
  pub loops : (p : ℕ) (t : Trace) → p < k → slice_get set.traces p ≡ Some t → IsLoop t.origin → HasPieces left p × IsEntered ms (preamble p) (loop_entry set p)
  pub bridges : (b : ℕ) → Has attached b → (q : PieceId) (m : Made) (n : ℕ) (e : Entry) → made_at ms q ≡ Some m → entry_for m.guards n ≡ Some e → is_bridge_of set.traces q.trace n b ≡ true
      → IsEntered ms (record { trace = b; half = q.half }) e
  -- a bridge has a piece only for a half in which its guard is kept, and no trace has two of one half
  pub behind : AllByRecursion (λ (m : Made). IsBridge set m.piece.id.trace → IsBehind set ms m) ms
  pub once : IsOnce (map name_of ms)
  pub parents : (b : ℕ) → Has attached b → (p n : ℕ) → is_bridge_of set.traces p n b ≡ true → HasPieces left p
  pub attached_has : (b : ℕ) → Has attached b → HasPieces left b
  pub has_attached : (b : ℕ) (t : Trace) → HasPieces left b → slice_get set.traces b ≡ Some t → (IsLoop t.origin → ⊥) → Has attached b

-- The whole: the pieces are those of the loops and of the attached bridges; these are all that is promised of pieces of a set
pub record IsOptimised (set : TraceSet) (o : Optimised) : Type 0 where
  pub made : List Made
  pub pieces : all_pieces o.traces ≡ pieces_of made
  pub traces : AllZip (IsTraceAt set) (places_of set o.attached) o.traces
  pub holds : Holds set (length set.traces) o.attached o.left made

-- What that gives

-- whichever of the attached bridges are seen, and when, the pieces do what their traces do
abbrev pub OptimisedAreMade : Type 0
OptimisedAreMade =
    (set : TraceSet) (o : Optimised) → IsWellFormed set → HasWords set → IsOptimised set o
    → (ms : List Made) × (pieces_of ms ≡ all_pieces o.traces) × AreMade set o.attached ms

-- each piece is sound, by the labels of all pieces
abbrev pub OptimisedAreSound : Type 0
OptimisedAreSound = (set : TraceSet) (o : Optimised) → IsOptimised set o → AllByRecursion (IsSound set (label_in (all_pieces o.traces))) (all_pieces o.traces)

-- the label of the preamble of each loop has a box for each input, of its kind
abbrev pub OptimisedHavePreambles : Type 0
OptimisedHavePreambles = (set : TraceSet) (o : Optimised) → IsOptimised set o → HavePreambles set (label_in (all_pieces o.traces))
