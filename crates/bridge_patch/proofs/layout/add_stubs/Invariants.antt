use Rattle.bridge_patch.proofs.Stubs.{AddsStubs}
use Rattle.bridge_patch.proofs.layout.add_stubs.Given as goal

abbrev pub invariant-loop-k : goal.invariant-loop-k
invariant-loop-k l = AddsStubs l.initial.draft.from l.initial.draft.bytes.items l.initial.draft.jumps.items l.exit l.count l.k l.draft.from l.draft.bytes.items l.draft.jumps.items
