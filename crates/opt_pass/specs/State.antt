-- The state of the pass, and its single changes.
use Rattle.std.specs.Prelude.{◌+◌, true, false, List, [], ◌∷◌, ◌++◌, Option, Some, None, map}
use Rattle.trace_ops.specs.declared.code.OpCode.{OpCode}
use Rattle.trace_ops.specs.declared.trace.BoxId.{BoxId}
use Rattle.trace_ops.specs.declared.trace.Arg.{Arg}
use Rattle.trace_ops.specs.declared.trace.Arg.TheVariants.{Of}
use Rattle.trace_ops.specs.declared.trace.Descr.{Descr}
use Rattle.trace_ops.specs.declared.trace.Frame.{Frame}
use Rattle.trace_ops.specs.declared.piece.Val.{Val}
use Rattle.trace_ops.specs.declared.piece.Val.TheVariants.{Known}
use Rattle.trace_ops.specs.declared.piece.OptFrame.{OptFrame}
use Rattle.trace_ops.specs.declared.piece.Snapshot.{Snapshot}
use Rattle.trace_ops.specs.declared.piece.Half.{Half}
use Rattle.trace_ops.specs.declared.piece.Half.TheVariants as half
use Rattle.trace_ops.specs.declared.piece.OptOp.TheVariants as opt
use Rattle.trace_ops.specs.declared.piece.Entry.{Entry}
use Rattle.trace_ops.specs.Classes.{is_overflowing}
use Rattle.trace_ops.specs.Parts.{parts_of}
use Rattle.opt_meaning.specs.Step.{resume_args}
use Rattle.opt_meaning.specs.Admits.{slots_of, plain_entry}
use Rattle.opt_pass.specs.declared.state.Pass.{Pass}
use Rattle.opt_pass.specs.Tables.{Names, with_name, meant}

-- What stands at a guard

abbrev pub slot_val : Names → Names → Arg → Val
slot_val names forward a = Known (meant names forward a)

abbrev pub opt_frame : Names → Names → Frame → OptFrame
opt_frame names forward f = record { name = f.name; pc = f.pc; slots = map (slot_val names forward) f.slots }

-- nothing is virtual and nothing is pending
abbrev pub snap_of : Names → Names → List Frame → Snapshot
snap_of names forward frames = record { frames = map (opt_frame names forward) frames; shapes = []; pending = [] }

-- the entry of a bridge from there
abbrev pub entry_at : Snapshot → Entry
entry_at snap = record { label = parts_of snap; values = slots_of snap.frames; shapes = []; pending = []; facts = [] }

-- Single changes

abbrev pub args_of : Pass → List Arg → List Arg
args_of o args = map (meant o.names o.forward) args

abbrev pub next_box : Pass → BoxId → BoxId
next_box o b = record { kind = b.kind; number = o.next }

-- the piece makes an operation, whose result is the next box
abbrev pub with_giving : Pass → OpCode → BoxId → List Arg → Descr → Pass
with_giving o operation b args d =
    record o {
      names = with_name o.names b (Known (Of (next_box o b)));
      next = o.next + 1;
      ops = o.ops ++ opt.Plain operation (Some (next_box o b)) args d ∷ [];
      checked = is_overflowing operation;
    }

abbrev pub with_done : Pass → OpCode → List Arg → Descr → Pass
with_done o operation args d = record o { ops = o.ops ++ opt.Plain operation None args d ∷ []; checked = is_overflowing operation }

abbrev pub with_plain : Pass → OpCode → Option BoxId → List Arg → Descr → Pass
with_plain o operation (Some b) args d = with_giving o operation b args d
with_plain o operation None args d = with_done o operation args d

abbrev pub with_guard : Pass → OpCode → List Arg → Snapshot → Entry → Pass
with_guard o operation args snap e =
    record o {
      ops = o.ops ++ opt.Guard operation args o.guard snap ∷ [];
      guards = o.guards ++ (o.guard, e) ∷ [];
      guard = o.guard + 1;
    }

-- the guard isn't needed
abbrev pub skipped : Pass → Pass
skipped o = record o { guard = o.guard + 1 }

-- the guard always fails
abbrev pub with_exit : Pass → Snapshot → Entry → Pass
with_exit o snap e = record o { ops = o.ops ++ opt.Exit o.guard snap ∷ []; guards = o.guards ++ (o.guard, e) ∷ []; ended = true }

-- a jump into a preamble passes each input
abbrev pub with_jump : Pass → List Arg → Pass
with_jump o args = record o { ops = o.ops ++ opt.Jump o.to args ∷ []; ended = true; at_end = plain_entry o.target }

-- a jump into a body passes each box that is left of what the trace passes
abbrev pub jump_frame : List Arg → Frame
jump_frame args = record { name = []; pc = 0; slots = args }

abbrev pub passed_in : Pass → List Arg → Snapshot
passed_in o args = snap_of o.names o.forward (jump_frame args ∷ [])

abbrev pub with_body : Pass → Snapshot → Pass
with_body o snap = record o { ops = o.ops ++ opt.Jump o.to (resume_args snap) ∷ []; ended = true; at_end = entry_at snap }

abbrev pub jumped_in : Half → Pass → List Arg → Pass
jumped_in half.Pre o args = with_jump o (args_of o args)
jumped_in half.Body o args = with_body o (passed_in o args)

abbrev pub jumped : Pass → List Arg → Pass
jumped o args = jumped_in o.to.half o args

abbrev pub with_finish : Pass → Option Arg → Pass
with_finish o value = record o { ops = o.ops ++ opt.Finish value ∷ []; ended = true }

-- a recorded box is this
abbrev pub named_as : Pass → BoxId → Arg → Pass
named_as o b x = record o { names = with_name o.names b (Known x); checked = false }

-- a box of the piece is this from here on
abbrev pub standing_for : Pass → BoxId → Arg → Pass
standing_for o b x = record o { forward = with_name o.forward b (Known x) }

-- Whole operations by the plain handler

abbrev pub kept_at : Pass → OpCode → List Arg → List Frame → Pass
kept_at o operation args frames = let snap = snap_of o.names o.forward frames in with_guard o operation args snap (entry_at snap)

abbrev pub exited_at : Pass → List Frame → Pass
exited_at o frames = let snap = snap_of o.names o.forward frames in with_exit o snap (entry_at snap)
