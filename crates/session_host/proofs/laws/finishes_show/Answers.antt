use Rattle.session_host.proofs.Finishes.{finishes_show}
use Rattle.session_host.proofs.laws.finishes_show.Goals as goal

pub returns : goal.returns
returns c =
    finishes_show
    (record {
      told = c.walk_finds.ensures.references;
      read = c.walk_finds.ensures.read;
      number = c.walk_finds.ensures.addresses;
      back = c.objects_are_read_back.ensures;
      kinds = c.prebuilts_stand.ensures.kinds;
      walk = c.walk_finds.ensures.walk;
    })
