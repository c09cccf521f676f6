use Rattle.std.proofs.Common.{ap, ◌∙◌}
use Rattle.tj_app.specs.Counting.{ok_text}
use Rattle.tj_app.proofs.counting.counts.Goals as goal

pub returns-in-Ok : goal.returns-in-Ok
returns-in-Ok c = record {
  set = c.in_ok-told.told.checked;
  session = c.in_ok-told.told.session;
  told = c.in_ok-told.ensures.0;
  written = c.in-Ok.ensures ∙ ap ok_text c.set.ensures.value;
}
