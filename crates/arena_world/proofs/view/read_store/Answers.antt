use Rattle.std.proofs.Common.{◌≡◌, ◌∙◌}
use Rattle.arena_world.proofs.view.read_store.Goals as goal

pub returns-clause-back : goal.returns-clause-back
returns-clause-back c = λ objects r st h. c.of.ensures ∙ c.in_ok-objects.ensures ∙ c.stores_are_read_back.ensures c.args.table.now objects c.args.arena.now r st h
