use Rattle.std.proofs.Common.{◌≡◌, ◌+◌, [], length, arith}
use Rattle.code_layout.specs.Emitting.{listed}
use Rattle.bridge_patch.proofs.Stubs.{stub_added}
use Rattle.bridge_patch.proofs.layout.add_stubs.Goals as goal

pub loop-k-preserved : goal.loop-k-preserved
loop-k-preserved c =
    let d = c.loop-k.draft in
    let e : c.loop-k.draft.from + c.len.result + 16 ≡ d.from + length d.bytes.items + 16 = omega (arith, c.len.ensures) in
    stub_added (listed []) c.args.draft.now.from c.args.draft.now.bytes.items c.args.draft.now.jumps.items c.args.exit c.args.count c.loop-k.k d.from (d.from + c.len.result + 16) d.bytes.items d.jumps.items
    c.add_all.new.self.from c.add_all.new.self.bytes.items c.add_all.new.self.jumps.items c.stub_before.result c.loop-k.invariant (omega (arith, c.loop-k-test.true)) c.requires.few e c.stub_before.ensures
    c.in_ok-add_all.ensures.from c.in_ok-add_all.ensures.bytes c.in_ok-add_all.ensures.jumps
