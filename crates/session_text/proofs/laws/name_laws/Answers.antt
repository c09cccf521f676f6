use Rattle.std.proofs.Common.{map, Some}
use Rattle.session_text.specs.Names.{loop_name, bridge_name}
use Rattle.session_text.proofs.Firsts.{look_is_first}
use Rattle.session_text.proofs.laws.name_laws.Goals as goal

pub returns-clause-loops : goal.returns-clause-loops
returns-clause-loops c = λ set name. look_is_first name (map loop_name set.traces)

pub returns-clause-bridges : goal.returns-clause-bridges
returns-clause-bridges c = λ set name. look_is_first name (map bridge_name set.traces)

pub returns-clause-prebuilts : goal.returns-clause-prebuilts
returns-clause-prebuilts c = λ set name. look_is_first name (map (λ r. Some r.name) set.table.prebuilts)

pub returns-clause-sizes : goal.returns-clause-sizes
returns-clause-sizes c = λ set name. look_is_first name (map (λ r. Some r.name) set.table.sizes)

pub returns-clause-fields : goal.returns-clause-fields
returns-clause-fields c = λ set name. look_is_first name (map (λ r. Some r.name) set.table.fields)
