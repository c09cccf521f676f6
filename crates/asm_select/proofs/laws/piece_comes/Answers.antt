use Rattle.asm_select.proofs.Relying.{Relied}
use Rattle.asm_select.proofs.Travels.{piece_comes}
use Rattle.asm_select.proofs.laws.piece_comes.Goals as goal

pub returns : goal.returns
returns c =
    let relied : Relied = record {
      shifts = c.shifts_multiply.ensures;
      apart = c.addresses_are_apart.ensures;
      headers = c.loads_find.ensures.headers;
      tell = c.spots_lie.ensures.headers;
      found = c.spots_lie.ensures.found;
      written = c.spots_lie.ensures.written;
      lengths = c.spots_lie.ensures.lengths;
    } in
    piece_comes c.spellings_are_short.ensures.most relied
