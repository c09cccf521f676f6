use Rattle.std.proofs.Common.{◌≡◌, ◌+◌, sym, ◌∙◌, subst, arith, w64}
use Rattle.std.proofs.lemmas.Int.{to_z_pos}
use Rattle.arena_objects.specs.Walk.{begins_at}
use Rattle.run_session.proofs.Nths.{Passed, starts, none_there, passes_on, there, none_begins, one_begins}
use Rattle.run_session.proofs.reading.nth_address.Goals as goal

pub loop-init : goal.loop-init
loop-init c = (starts c.args.table.now c.args.arena.now, omega arith)

pub returns-in-None : goal.returns-in-None
returns-in-None c =
    none_there c.args.table.now c.args.arena.now c.loop.counter c.loop.at c.args.k c.loop.invariant.0 c.loop.invariant.1
    (none_begins (begins_at c.args.table.now c.args.arena.now c.loop.at) (sym c.behind.ensures ∙ c.in-None.is))

pub loop-preserved : goal.loop-preserved
loop-preserved c =
    let one = one_begins (begins_at c.args.table.now c.args.arena.now c.loop.at) c.in-Some.next (sym c.behind.ensures ∙ c.in-Some.is) in (
      subst (Passed c.args.table.now c.args.arena.now (c.loop.counter + 1)) one.2
          (passes_on c.walk_finds.ensures.taken c.args.table.now c.args.arena.now c.loop.counter c.loop.at one.0 c.loop.invariant.0 one.1),
      omega (arith, c.loop-test.true),
    )

pub returns-in-None-begins_at : goal.returns-in-None-begins_at
returns-in-None-begins_at c =
    none_there c.args.table.now c.args.arena.now c.loop.counter c.loop.at c.args.k c.loop.invariant.0 c.loop.invariant.1 (sym c.begins_at.ensures ∙ c.in-None-begins_at.is)

pub returns-in-Some-begins_at : goal.returns-in-Some-begins_at
returns-in-Some-begins_at c =
    let last : c.loop.counter ≡ c.args.k = omega (arith, c.loop-test.false, c.loop.invariant.1) in
    let passed = subst (λ n. Passed c.args.table.now c.args.arena.now n c.loop.at) last c.loop.invariant.0 in
    let high = passed.high in
    to_z_pos w64 c.loop.at (omega (arith, high, c.taken-bound.ensures.value, c.taken-bound.ensures.bound))
    ∙ there c.walk_finds.ensures.taken c.args.table.now c.args.arena.now c.args.k c.loop.at c.in-Some-begins_at._found passed (sym c.begins_at.ensures ∙ c.in-Some-begins_at.is)
