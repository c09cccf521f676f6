use Rattle.session_host.proofs.Serving.{hosts_serve}
use Rattle.session_host.proofs.laws.hosts_serve.Goals as goal

pub returns : goal.returns
returns c =
    hosts_serve
    (record {
      making = record { leave = c.allocations_leave.ensures; there = c.bytes_are_taken.ensures.there; added = c.allocations_stand.ensures.words };
      functions = record { fits = c.answers_do_alike.ensures.fits; answers = c.answers_do_alike.ensures.done; told = c.walk_finds.ensures.references; added = c.allocations_stand.ensures.words; binds = c.boxes_keep_their_values.ensures };
      reads = c.walk_finds.ensures.read;
      back = c.objects_are_read_back.ensures;
      kinds = c.prebuilts_stand.ensures.kinds;
    })
