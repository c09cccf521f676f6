use Rattle.std.proofs.Common.{◌∙◌}
use Rattle.opt_meaning.specs.Pieces.{preamble}
use Rattle.bridge_patch.specs.Image.{entry_in}
use Rattle.x64_machine.specs.State.{State}
use Rattle.x64_machine.specs.Start.{IsStart}
use Rattle.session_host.specs.Hosting.{IsStarted}
use Rattle.run_session.proofs.Begun.{if_ok, is_started}
use Rattle.run_session.proofs.starting.Setting.machine.Goals as goal

pub returns : goal.returns
returns c =
    let self = c.args.self.now in
    let entry = entry_in self.image.now.pieces (preamble c.args.trace) in
    if_ok (λ (m : State). IsStart self.arena_bytes c.deref.result.now c.entry-entry.result c.deref-2.result.now m) (λ (m : State). IsStarted self.set.now self.arena_bytes c.args.trace entry c.args.inputs.now m) c.start.result c.start.ensures
    (λ m start. is_started self.set.now self.arena_bytes c.args.trace entry c.entry-entry.result c.args.inputs.now self.host.now c.deref.result.now c.deref-2.result.now m c.requires.fits c.in_ok-words.ensures.are c.requires.host (c.deref.ensures.value ∙ c.in_ok-prebuilt.ensures.words) (c.deref-2.ensures.value ∙ c.in_ok-words.ensures.words) c.entry-entry.ensures start)
