-- What is seen where no value is shown: cells and numbers don't count.
use Rattle.std.proofs.Common.{◌≡◌, ℕ, false, List, length, drop, refl}
use Rattle.trace_ops.specs.declared.trace.TraceSet.{TraceSet}
use Rattle.trace_meaning.specs.declared.call.CallEvent.{CallEvent}
use Rattle.trace_meaning.specs.declared.value.Object.{Object}
use Rattle.trace_meaning.specs.declared.state.RecFrame.{RecFrame}
use Rattle.heap_shape.specs.declared.cell.Ref.{Ref}
use Rattle.heap_shape.specs.declared.cell.Cell.{Cell}
use Rattle.seen_text.specs.declared.seen.Seen.{Seen}
use Rattle.seen_text.specs.declared.seen.Seen.TheVariants as seen
use Rattle.seen_text.specs.States.{shows_values, listed, listed_text, seen_text, state_text}

pub listed_text-unshown :
    (name : List ℕ) (set : TraceSet) (s : Seen) (frames : List RecFrame) (calls : List CallEvent) (cells more : List Cell) (refs others : List Ref)
    → shows_values s ≡ false → listed_text name set s frames calls cells refs ≡ listed_text name set s frames calls more others
unfolding listed_text state_text
listed_text-unshown name set seen.Going frames calls cells more refs others h = refl
listed_text-unshown name set (seen.Finished x) frames calls cells more refs others h = absurd (cc)
listed_text-unshown name set (seen.Exited p n) frames calls cells more refs others h = absurd (cc)
listed_text-unshown name set seen.Waits frames calls cells more refs others h = absurd (cc)
listed_text-unshown name set (seen.Misfit call) frames calls cells more refs others h = absurd (cc)
listed_text-unshown name set (seen.Full asked left) frames calls cells more refs others h = refl
listed_text-unshown name set (seen.Wrong at) frames calls cells more refs others h = refl

pub seen_text-hidden :
    (name : List ℕ) (set : TraceSet) (s : Seen) (frames : List RecFrame) (calls : List CallEvent) (objects others : List Object)
    → shows_values s ≡ false → seen_text name set s frames calls objects ≡ seen_text name set s frames calls others
unfolding seen_text
seen_text-hidden name set s frames calls objects others h =
    listed_text-unshown name set s frames calls (listed set s frames calls objects).0 (listed set s frames calls others).0
    (drop (length set.table.prebuilts) (listed set s frames calls objects).1) (drop (length set.table.prebuilts) (listed set s frames calls others).1) h
