-- What the pieces of one trace are.
use Rattle.std.specs.Prelude.{◌≡◌, ℕ, ◌==◌, if◌then◌else◌, List, [], ◌∷◌, Option, Some, None, map, slice_get}
use Rattle.std.specs.Option.{IsSomeAnd}
use Rattle.std.specs.List.{AllByRecursion, AllZip, flat_map}
use Rattle.trace_ops.specs.declared.trace.BoxId.{BoxId}
use Rattle.trace_ops.specs.declared.trace.Arg.{Arg}
use Rattle.trace_ops.specs.declared.trace.Origin.{Origin}
use Rattle.trace_ops.specs.declared.trace.Origin.TheVariants as origin
use Rattle.trace_ops.specs.declared.trace.Trace.{Trace}
use Rattle.trace_ops.specs.declared.trace.TraceSet.{TraceSet}
use Rattle.trace_ops.specs.declared.trace.Arg.TheVariants.{Of}
use Rattle.trace_ops.specs.declared.piece.Val.{Val}
use Rattle.trace_ops.specs.declared.piece.Val.TheVariants.{Known}
use Rattle.trace_ops.specs.declared.piece.Half.{Half}
use Rattle.trace_ops.specs.declared.piece.Half.TheVariants as half
use Rattle.trace_ops.specs.declared.piece.PieceId.{PieceId}
use Rattle.trace_ops.specs.declared.piece.OptOp.TheVariants as opt
use Rattle.trace_ops.specs.declared.piece.Piece.{Piece}
use Rattle.trace_ops.specs.declared.piece.Entry.{Entry}
use Rattle.trace_ops.specs.Constants.{HasWords}
use Rattle.trace_ops.specs.Sound.{IsSound}
use Rattle.trace_meaning.specs.Recorded.{ops_at, inputs_of, jump_target}
use Rattle.opt_meaning.specs.Admits.{plain_entry}
use Rattle.opt_meaning.specs.Leaving.{Simulates}
use Rattle.opt_meaning.specs.Meeting.{Made, pieces_of}
use Rattle.opt_meaning.specs.Pieces.{last_of, preamble}
use Rattle.opt_pass.specs.Contract.{HasEntries, HasFramesOf, KeepsNoException}
use Rattle.opt_pass.specs.Inputs.{HasInputs}
use Rattle.loop_peel.specs.Serving.{IsLeft}

abbrev pub IsLoop : Origin → Type 0
IsLoop o = o ≡ origin.Loop

abbrev pub IsBridge : TraceSet → ℕ → Type 0
IsBridge set b = IsSomeAnd (slice_get set.traces b) (λ (t : Trace). IsLoop t.origin → ⊥)

-- the label of the preamble of each loop has a box for each input, of its kind
abbrev pub HavePreambles : TraceSet → (PieceId → Option (List BoxId)) → Type 0
HavePreambles set labels = (p : ℕ) (t : Trace) → slice_get set.traces p ≡ Some t → IsLoop t.origin → HasInputs labels (preamble p) t.inputs

-- a jump at the end goes to the preamble of the loop to which the trace jumps, and passes its inputs; nothing else is known there
abbrev pub JumpsOn : TraceSet → ℕ → Made → Type 0
JumpsOn set p m =
    (to : PieceId) (args : List Arg) → last_of m.piece.ops ≡ Some (opt.Jump to args)
    → (to ≡ preamble (jump_target set p)) × IsSomeAnd (slice_get set.traces (jump_target set p)) (λ (t : Trace). IsLoop t.origin × (m.at_end ≡ plain_entry t.inputs))

-- a piece of trace p, of this half, that begins with this entry
pub record IsPieceOf (set : TraceSet) (p : ℕ) (h : Half) (e : Entry) (m : Made) : Type 0 where
  pub name : m.piece.id ≡ record { trace = p; half = h }
  pub entry : m.entry ≡ e
  -- a box for each of the entry's label, of its kind
  pub label : map (λ (b : BoxId). b.kind) m.piece.label ≡ map (λ (b : BoxId). b.kind) e.label
  -- from each pair that the entry admits it does what the trace does
  pub simulates : HasWords set → Simulates set p e m.piece m.guards m.at_end
  -- an entry for each of its guards, of the recorded frames
  pub guards : HasEntries m.piece.ops m.guards
  pub frames : HasFramesOf (ops_at set p) m.piece.ops
  pub exceptions : AllByRecursion KeepsNoException m.piece.ops
  pub left : AllByRecursion (λ x. IsLeft set p x.0 x.1) m.guards
  pub jumps : JumpsOn set p m
  pub sound : (labels : PieceId → Option (List BoxId)) → HavePreambles set labels → IsSound set labels m.piece

-- the entries at which the guards of a piece fail, with its half
abbrev pub in_half : Half → List (ℕ × Entry) → List (Half × ℕ × Entry)
in_half h guards = map (λ (x : ℕ × Entry). (h, x.0, x.1)) guards

abbrev pub left_by : Made → List (Half × ℕ × Entry)
left_by m = in_half m.piece.id.half m.guards

-- a piece of trace p for each of these entries, in order, and what their guards leave
pub record ArePieces (set : TraceSet) (p : ℕ) (from : List (Half × Entry)) (pieces : List Piece) (at_guards : List (Half × ℕ × Entry)) : Type 0 where
  pub made : List Made
  pub each : AllZip (λ x m. IsPieceOf set p x.0 x.1 m) from made
  pub pieces_are : pieces ≡ pieces_of made
  pub guards_are : at_guards ≡ flat_map left_by made

-- a value that is a box
abbrev pub known_box : BoxId → Val
known_box b = Known (Of b)

-- a loop begins with nothing known
abbrev pub loop_entry : TraceSet → ℕ → Entry
loop_entry set p = plain_entry (inputs_of (slice_get set.traces p))

-- where guard n is kept, with the halves
abbrev pub kept_if : ℕ → (Half × ℕ × Entry) → List (Half × Entry)
kept_if n x = if x.1 == n then (x.0, x.2) ∷ [] else []

abbrev pub kept_at : ℕ → List (Half × ℕ × Entry) → List (Half × Entry)
kept_at n parent = flat_map (kept_if n) parent

-- the guard from which a bridge comes
abbrev pub guard_from : Origin → ℕ
guard_from origin.Loop = 0
guard_from (origin.Bridge name n) = n

abbrev pub guard_of : Option Trace → ℕ
guard_of None = 0
guard_of (Some t) = guard_from t.origin
