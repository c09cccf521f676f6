-- What holds of the pieces of any trace.
use Rattle.std.specs.Prelude.{◌≡◌, ℕ, Some}
use Rattle.std.specs.Option.{IsSomeAnd}
use Rattle.trace_ops.specs.declared.trace.TraceSet.{TraceSet}
use Rattle.trace_ops.specs.declared.piece.Half.{Half}
use Rattle.trace_ops.specs.declared.piece.Entry.{Entry}
use Rattle.opt_meaning.specs.Admits.{entry_for}
use Rattle.opt_meaning.specs.Meeting.{Made}
use Rattle.opt_meaning.specs.Rebuilding.{snapshot_in}
use Rattle.opt_meaning.specs.Showing.{FitsGuard}
use Rattle.loop_peel.specs.Peeling.{IsPieceOf}

-- the entry that is found for a guard of a piece is that of its snapshot, whose frames are those that were recorded there
abbrev pub GuardsFit : Type 0
GuardsFit =
    (set : TraceSet) (p : ℕ) (h : Half) (from : Entry) (m : Made) → IsPieceOf set p h from m
    → (n : ℕ) (e : Entry) → entry_for m.guards n ≡ Some e → IsSomeAnd (snapshot_in m.piece.ops n) (FitsGuard set p n e)
