use Rattle.asm_select.proofs.Relying.{Relied}
use Rattle.asm_select.proofs.Follows.{code_follows}
use Rattle.asm_select.proofs.laws.code_follows.Goals as goal

pub returns : goal.returns
returns c =
    let relied : Relied = record {
      shifts = c.shifts_multiply.ensures;
      apart = c.addresses_are_apart.ensures;
      headers = c.loads_find.ensures.headers;
      tell = c.spots_lie.ensures.headers;
      found = c.spots_lie.ensures.found;
      written = c.spots_lie.ensures.written;
      lengths = c.spots_lie.ensures.lengths;
    } in
    code_follows c.spellings_are_short.ensures.most relied
