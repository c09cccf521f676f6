-- Sound pieces are such as selection asks for.
use Rattle.std.specs.Prelude.{◌≡◌, ◌≢◌, ℕ, ◌+◌, ◌^◌, ◌<◌, List, ◌∷◌, length, map, slice_get, Option, Some, None}
use Rattle.std.specs.List.{All}
use Rattle.trace_ops.specs.declared.code.OpCode.{OpCode}
use Rattle.trace_ops.specs.declared.trace.BoxId.{BoxId}
use Rattle.trace_ops.specs.declared.trace.Arg.{Arg}
use Rattle.trace_ops.specs.declared.trace.Arg.TheVariants.{Func}
use Rattle.trace_ops.specs.declared.piece.Spot.TheVariants as spot
use Rattle.arena_objects.specs.Spots.{spot_offset}
use Rattle.trace_ops.specs.declared.trace.Descr.{Descr}
use Rattle.trace_ops.specs.declared.trace.TraceSet.{TraceSet}
use Rattle.trace_ops.specs.declared.table.Table.{Table}
use Rattle.trace_ops.specs.declared.table.ShapeOf.TheVariants.{Size}
use Rattle.trace_ops.specs.declared.piece.PieceId.{PieceId}
use Rattle.trace_ops.specs.declared.piece.OptOp.{OptOp}
use Rattle.trace_ops.specs.declared.piece.OptOp.TheVariants as opt
use Rattle.trace_ops.specs.declared.piece.Piece.{Piece}
use Rattle.trace_ops.specs.InRange.{IsTableInRange}
use Rattle.trace_ops.specs.Sound.{IsSound}
use Rattle.trace_meaning.specs.declared.value.Value.{Value}
use Rattle.trace_meaning.specs.declared.value.Object.{Object}
use Rattle.trace_meaning.specs.Boxes.{bind}
use Rattle.trace_meaning.specs.World.{World}
use Rattle.trace_meaning.specs.Recorded.{prebuilt_object}
use Rattle.trace_meaning.specs.Growing.{IsLonger, extent}
use Rattle.opt_meaning.specs.Step.{Opt}
use Rattle.arena_objects.specs.Layout.{header_of, address_of, word_of}
use Rattle.arena_objects.specs.Standing.{IsPart, Stands}
use Rattle.x64_machine.specs.State.{State}
use Rattle.asm_select.specs.declared.told.Told.{Told}
use Rattle.asm_select.specs.declared.told.Told.TheVariants as tell
use Rattle.asm_select.specs.Valued.{value, IsFit}
use Rattle.asm_select.specs.Chosen.{Setting, address_in, for_call}
use Rattle.asm_select.specs.Reached.{AreKept, Uses, Holds, HasWords, PrebuiltsStand}
use Rattle.asm_select.specs.Ended.{AreMoved, TableServes}
use Rattle.asm_select.specs.Asked.{AreChosen}

-- Sound pieces are such as selection asks for, where their moves are: operation k is the first.
abbrev pub SoundPiecesSuit : Type 0
SoundPiecesSuit =
    (set : TraceSet) (label_of : PieceId → Option (List BoxId)) (piece : Piece) (c : Setting) (k : ℕ)
    → IsSound set label_of piece → c.table ≡ set.table → IsTableInRange c.table → All (HasWords c.table) piece.ops
    → ((i : ℕ) (to : PieceId) (args : List Arg) → slice_get piece.ops i ≡ Some (opt.Jump to args) → AreMoved c args)
    → ((i f : ℕ) (operation : OpCode) (r : Option BoxId) (args : List Arg) (d : Descr) → slice_get piece.ops i ≡ Some (opt.Plain operation r (Func f ∷ args) d) → AreMoved (for_call c (k + i) args) args)
    → AreChosen c k tell.Nothing piece.ops

-- ---- tables in range, and the objects of runs

abbrev pub TableNumbersFit : Type 0
TableNumbersFit =
    (t : Table) → IsTableInRange t
    → ((n : ℕ) → header_of t (Size n) < 2 ^ 31) × ((k : ℕ) → k < length t.prebuilts → address_in t k < 2 ^ 31)

abbrev pub TablesServe : Type 0
TablesServe = (t : Table) → IsTableInRange t → TableServes t × ((f : ℕ) → spot_offset t (spot.Field f) < 2 ^ 31)

-- the prebuilt objects are where they were, where all objects since stand behind them
abbrev pub PrebuiltsStayPut : Type 0
PrebuiltsStayPut =
    (t : Table) (objects : List Object)
    → IsLonger (map (λ row. extent (prebuilt_object row)) t.prebuilts) (map extent objects) → PrebuiltsStand t objects

-- ---- operations on objects

-- Behind an operation on objects that gives a value, the boxes stand where the value stands at its place and the others where
-- they stood.
abbrev pub ObjectResultHolds : Type 0
ObjectResultHolds =
    (c : Setting) (told : Told) (operation : OpCode) (r : BoxId) (args : List Arg) (d : Descr) (ops : List OptOp) (env : Opt) (x : Value) (w : World) (s t : State)
    → Holds c told (opt.Plain operation (Some r) args d ∷ ops) env s → AreKept env.world.objects w.objects → IsFit t → Stands c.table w.objects t.arena
    → IsPart (length w.objects) x → value t (c.at r.number) ≡ word_of (address_of w.objects) x
    → ((b : BoxId) → Uses tell.Nothing ops b → b ≢ r → value t (c.at b.number) ≡ value s (c.at b.number))
    → Holds c tell.Nothing ops (record { boxes = bind r x env.boxes; world = w }) t

-- and so behind one that gives none
abbrev pub ObjectStoreHolds : Type 0
ObjectStoreHolds =
    (c : Setting) (told : Told) (operation : OpCode) (args : List Arg) (d : Descr) (ops : List OptOp) (env : Opt) (w : World) (s t : State)
    → Holds c told (opt.Plain operation None args d ∷ ops) env s → AreKept env.world.objects w.objects → IsFit t → Stands c.table w.objects t.arena
    → ((b : BoxId) → Uses tell.Nothing ops b → value t (c.at b.number) ≡ value s (c.at b.number))
    → Holds c tell.Nothing ops (record { boxes = env.boxes; world = w }) t
