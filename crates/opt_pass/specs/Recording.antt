-- What the entries of a piece keep of its trace's guards, and where a piece jumps.
use Rattle.std.specs.Prelude.{◌≡◌, ℕ, List, Some, map}
use Rattle.std.specs.Option.{IsSomeAnd}
use Rattle.std.specs.List.{AllByRecursion}
use Rattle.trace_ops.specs.declared.facts.Part.TheVariants as part
use Rattle.trace_ops.specs.declared.trace.Arg.{Arg}
use Rattle.trace_ops.specs.declared.trace.Op.{Op}
use Rattle.trace_ops.specs.declared.piece.PieceId.{PieceId}
use Rattle.trace_ops.specs.declared.piece.OptOp.{OptOp}
use Rattle.trace_ops.specs.declared.piece.OptOp.TheVariants as opt
use Rattle.trace_ops.specs.declared.piece.Entry.{Entry}
use Rattle.trace_ops.specs.Facts.{part_of}
use Rattle.trace_ops.specs.Kinds.{kind_of_arg, kind_of_val}
use Rattle.trace_meaning.specs.Recorded.{last_of as last_recorded, slots_of}
use Rattle.trace_meaning.specs.Observed.{guard_in}
use Rattle.opt_meaning.specs.Pieces.{last_of}

-- a value for each slot of the guard of this number, of the slot's kind
abbrev pub HasSlotsOf : List Op → (ℕ × Entry) → Type 0
HasSlotsOf recorded x = IsSomeAnd (guard_in recorded x.0) (λ (op : Op). map kind_of_val x.1.values ≡ map kind_of_arg (slots_of op.snapshot))

abbrev pub HaveSlots : List Op → List (ℕ × Entry) → Type 0
HaveSlots recorded entries = AllByRecursion (HasSlotsOf recorded) entries

-- a piece ends with a jump only where its trace does
abbrev pub JumpsWithTrace : List Op → List OptOp → Type 0
JumpsWithTrace recorded ops =
    (to : PieceId) (args : List Arg) → last_of ops ≡ Some (opt.Jump to args)
    → (op : Op) × (last_recorded recorded ≡ Some op) × (part_of op.code ≡ part.Jump)
