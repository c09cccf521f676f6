-- What is compiled is an image, on which started machines begin.
use Rattle.std.specs.Prelude.{◌≡◌, ℕ, ◌≤◌, ℤ, List, [], length, map, Some, slice_get}
use Rattle.std.specs.Option.{IsSomeAnd}
use Rattle.std.specs.List.{All, AllZip, Contains}
use Rattle.trace_ops.specs.Words.{IsWord}
use Rattle.trace_ops.specs.declared.trace.Origin.TheVariants.{Loop}
use Rattle.trace_ops.specs.declared.trace.BoxId.{BoxId}
use Rattle.trace_ops.specs.declared.trace.Trace.{Trace}
use Rattle.trace_ops.specs.declared.trace.TraceSet.{TraceSet}
use Rattle.trace_ops.specs.declared.piece.PieceId.{PieceId}
use Rattle.trace_ops.specs.declared.piece.Piece.{Piece}
use Rattle.trace_ops.specs.declared.piece.OptTrace.{OptTrace}
use Rattle.trace_meaning.specs.declared.value.Value.{Value}
use Rattle.trace_meaning.specs.declared.value.Object.{Object}
use Rattle.trace_meaning.specs.declared.call.Answer.{Answer}
use Rattle.trace_meaning.specs.Recorded.{prebuilt_object, first_world}
use Rattle.opt_meaning.specs.Pieces.{piece_at, ops_at, all_pieces, preamble}
use Rattle.arena_objects.specs.Layout.{address_of, word_of}
use Rattle.arena_objects.specs.Standing.{Stands}
use Rattle.x64_machine.specs.Start.{IsStart}
use Rattle.x64_machine.specs.State.{State}
use Rattle.asm_select.specs.Chosen.{Setting}
use Rattle.asm_select.specs.Reached.{PrebuiltsStand}
use Rattle.asm_select.specs.Ended.{AreParts}
use Rattle.bridge_patch.specs.Image.{Imaged, CanCompile, entry_in}
use Rattle.bridge_patch.specs.Image as compiled
use Rattle.image_runs.specs.Session.{Host}
use Rattle.image_runs.specs.Selection.{Model}
use Rattle.image_runs.specs.Printed.{Printed}
use Rattle.image_runs.specs.Image.{code_in, IsImage}
use Rattle.image_runs.specs.Sessions.{StartsBegin, IsBuilt}
use Rattle.image_model.specs.Ready.{AreKinded}
use Rattle.image_model.specs.Modelled.{model_of}
use Rattle.image_model.specs.Laws.{HostServes}
use Rattle.image_built.specs.Built.{image_of, settings_from}

-- The pieces of a set's loops, compiled.
pub record Compiled (set : TraceSet) (loops : List OptTrace) (image : Imaged) : Type 0 where
  pub registers : ℕ
  pub can : CanCompile set loops registers
  pub made : compiled.IsImage set (all_pieces loops) image

-- a whole of pieces has these as they are
abbrev pub Keeps : List Piece → List Piece → Type 0
Keeps ps whole = (q : PieceId) (p : Piece) → piece_at ps q ≡ Some p → ops_at whole q ≡ p.ops

-- the model of the compiled pieces, in a whole of pieces of which the others have these settings
abbrev pub model_for : Host → (set : TraceSet) (whole : List Piece) (other : PieceId → Setting) (loops : List OptTrace) (image : Imaged) → Compiled set loops image → Model
model_for host set whole other loops image z = model_of host set whole (settings_from 0 z.made.placed other) (all_pieces loops)

-- the bytes and the rows are those of an image, to which no bridge is attached
pub record StandsAs (host : Host) (set : TraceSet) (whole : List Piece) (other : PieceId → Setting) (loops : List OptTrace) (image : Imaged) (z : Compiled set loops image) : Type 0 where
  pub bytes : code_in (image_of z.made.placed) ≡ image.bytes
  pub stands : IsImage (model_for host set whole other loops image z) (image_of z.made.placed) [] image.exits

abbrev pub CompiledStands : Host → Type 0
CompiledStands host =
    (set : TraceSet) (whole : List Piece) (other : PieceId → Setting) (loops : List OptTrace) (image : Imaged) (z : Compiled set loops image)
    → HostServes host set.table → Keeps (all_pieces loops) whole → StandsAs host set whole other loops image z

-- ---- starts

-- the prebuilt objects
abbrev pub first_objects : TraceSet → List Object
first_objects set = map prebuilt_object set.table.prebuilts

-- values of the kinds of the trace's inputs, each of which is there, over prebuilt objects that hold what they should
abbrev pub AreInputs : TraceSet → List Value → Trace → Type 0
AreInputs set inputs t = (given : List Answer) → AreKinded set.table (map (λ (b : BoxId). Some b.kind) t.inputs) inputs (first_world set.table given)

-- A machine that is started at an offset for a trace: the inputs' words are in its frame, and its arena has the prebuilt objects.
pub record IsStarted (set : TraceSet) (trace entry : ℕ) (inputs : List Value) (s : State) : Type 0 where
  pub arena_bytes : ℕ
  pub prebuilt : List ℤ
  pub words : List ℤ
  pub start : IsStart arena_bytes prebuilt entry words s
  pub few : length words ≤ 64
  pub are : All IsWord words
  pub values : AllZip (λ (w : ℤ) (x : Value). w ≡ word_of (address_of (first_objects set)) x) words inputs
  pub inputs_are : IsSomeAnd (slice_get set.traces trace) (AreInputs set inputs)
  pub parts : AreParts (length (first_objects set)) inputs
  pub stands : Stands set.table (first_objects set) s.arena
  pub prebuilts : PrebuiltsStand set.table (first_objects set)

abbrev pub HostStarts : Host → TraceSet → Type 0
HostStarts host set = (trace entry : ℕ) (inputs : List Value) (s : State) → host.starts trace entry inputs s → IsStarted set trace entry inputs s

-- the trace is a loop
abbrev pub IsLoop : Trace → Type 0
IsLoop t = t.origin ≡ Loop

-- each entry is that of a loop that is in the image
pub record IsEntry (set : TraceSet) (ps : List Piece) (image : Imaged) (trace entry : ℕ) : Type 0 where
  pub loop : IsSomeAnd (slice_get set.traces trace) IsLoop
  pub piece : Piece
  pub there : piece_at ps (preamble trace) ≡ Some piece
  pub at : entry ≡ entry_in image.pieces (preamble trace)

-- the image as it is printed
pub record IsPrinted (set : TraceSet) (ps : List Piece) (image : Imaged) (im : Printed) : Type 0 where
  pub base : im.base ≡ image.bytes
  pub rows : im.rows ≡ image.exits
  pub entries : (trace entry : ℕ) → Contains im.entries (trace, entry) → IsEntry set ps image trace entry

-- a machine that is started at an entry begins its loop
abbrev pub CompiledBegins : Host → Type 0
CompiledBegins host =
    (set : TraceSet) (whole : List Piece) (other : PieceId → Setting) (loops : List OptTrace) (image : Imaged) (z : Compiled set loops image) (im : Printed)
    → HostStarts host set → Keeps (all_pieces loops) whole → IsPrinted set (all_pieces loops) image im
    → StartsBegin (model_for host set whole other loops image z) (all_pieces loops) (image_of z.made.placed) im

-- so with no parts it is built
abbrev pub CompiledIsBuilt : Host → Type 0
CompiledIsBuilt host =
    (set : TraceSet) (whole : List Piece) (other : PieceId → Setting) (loops : List OptTrace) (image : Imaged) (z : Compiled set loops image) (im : Printed)
    → HostServes host set.table → HostStarts host set → Keeps (all_pieces loops) whole → IsPrinted set (all_pieces loops) image im → im.parts ≡ []
    → IsBuilt (model_for host set whole other loops image z) (λ j. all_pieces loops) (λ j. image_of z.made.placed) im
