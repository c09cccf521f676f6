use Rattle.std.proofs.Common.{◌+◌, slice_get, sym, subst, rules}
use Rattle.std.specs.Option.{IsSomeAnd}
use Rattle.trace_ops.specs.declared.trace.Trace.{Trace}
use Rattle.loop_peel.specs.Peeling.{IsLoop}
use Rattle.opt_set.specs.Loops.{IsMadeTo}
use Rattle.opt_set.proofs.Stepping.{over, made_one}
use Rattle.opt_set.proofs.pieces.OptimisedSet.add_loop.Goals as goal

pub returns-then-not-is_loop : goal.returns-then-not-is_loop
returns-then-not-is_loop c =
    let other : IsSomeAnd (slice_get c.set-set.result.now.traces c.args.trace) (λ (t : Trace). IsLoop t.origin) → ⊥ = search rules in
    over c.equality_decides.ensures.piece_id c.args.checked.now c.set-set.result.now c.set-set.ensures.value c.args.trace c.args.self.now c.requires.made c.requires.trace other

pub returns : goal.returns
returns c =
    let loop : IsSomeAnd (slice_get c.set-set.result.now.traces c.args.trace) (λ (t : Trace). IsLoop t.origin) = search rules in
    subst (IsMadeTo c.args.checked.now (c.args.trace + 1)) (sym c.in_ok-add.ensures.ok)
    (made_one c.equality_decides.ensures.piece_id c.args.checked.now c.set-set.result.now c.set-set.ensures.value c.args.trace c.args.self.now c.requires.made c.requires.trace
    loop c.in_ok-made.made.opt c.in_ok-made.made.at_guards c.in_ok-made.ensures)
