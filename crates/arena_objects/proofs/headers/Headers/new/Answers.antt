use Rattle.std.proofs.Common.{◌≡◌, subst, arith}
use Rattle.arena_objects.proofs.Heads.{AreSet, sets_back, all_set}
use Rattle.arena_objects.proofs.headers.Headers.new.Goals as goal

pub loop-k-preserved : goal.loop-k-preserved
loop-k-preserved c = (
  c.loop-k.invariant.0,
  sets_back c.args.table.now _ c.loop-k.k _ c.loop-k.headers c.set.new.self c.loop-k.invariant.0 c.loop-k-test.true c.loop-k.invariant.1 c.set.ensures,
)

pub returns : goal.returns
returns c s has named =
    let none : c.loop-k.k ≡ 0 = omega (arith, c.loop-k-test.false) in
    all_set c.args.table.now c.loop-k.headers (subst (λ k. AreSet c.args.table.now k c.loop-k.headers) none c.loop-k.invariant.1) s has named
