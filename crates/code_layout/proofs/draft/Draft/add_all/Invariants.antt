use Rattle.std.proofs.Common.{◌≡◌, ◌+◌, ◌<◌, drop, length}
use Rattle.code_layout.specs.Emitting.{listed}
use Rattle.code_layout.proofs.Emitted.{Emits}
use Rattle.code_layout.proofs.draft.Draft.add_all.Given as goal

abbrev pub invariant-loop-n : goal.invariant-loop-n
invariant-loop-n l =
    (l.self.from ≡ l.initial.self.from)
    × (l.next < l.n + 1)
    × Emits (listed l.to) (length l.to) l.initial.self.from l.initial.self.bytes.items l.initial.self.jumps.items l.instrs l.jumps l.n (drop l.n l.instrs) (drop l.next l.jumps) l.self.bytes.items l.self.jumps.items
