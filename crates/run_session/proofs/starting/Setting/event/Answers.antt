use Rattle.std.proofs.Common.{◌↔◌, IsTrue, subst}
use Rattle.opt_meaning.specs.Pieces.{all_pieces}
use Rattle.x64_machine.specs.State.{acted}
use Rattle.x64_machine.specs.Step.{MachineStep}
use Rattle.image_runs.specs.Counted.{CountsFailure}
use Rattle.run_session.proofs.Events.{makes_event}
use Rattle.run_session.proofs.Kept.{given_kept, makes_one, stays_kept}
use Rattle.run_session.proofs.starting.Setting.event.Goals as goal

pub returns : goal.returns
returns c =
    let set = c.args.self.now.set.now in
    let ps = all_pieces c.args.self.now.opt.now in
    let image = c.args.self.now.image.now in
    let old = c.args.active.now in
    let new = c.settle.new.active in
    let m = c.step-turn.new.self in
    let turn = c.step-turn.result in
    let counts = c.takes_guard-counts.result in
    let x = c.settle.result in
    let counted = subst (λ code. IsTrue counts ↔ CountsFailure code image.exits old.machine) c.code.ensures (c.takes_guard-counts.ensures image.exits c.requires.places) in
    let step = subst (λ code. MachineStep code old.machine (acted turn m)) c.code-2.ensures c.step-turn.ensures.step in
    record {
      event = makes_event set ps image.pieces image.bytes image.exits old new m counts x turn c.requires.kept c.requires.going counted step c.step-turn.ensures.kept c.settle.ensures;
      kept = stays_kept set ps image.pieces image.exits old new m counts x c.instructions_are_counted.ensures c.answers_are_quiet.ensures image.bytes turn c.requires.kept c.requires.going step c.settle.ensures;
      made = makes_one set ps image.pieces image.exits old new m counts x c.instructions_are_counted.ensures c.answers_are_quiet.ensures image.bytes turn step c.settle.ensures;
      given = given_kept set ps image.pieces image.exits old new m counts x turn c.settle.ensures;
    }
