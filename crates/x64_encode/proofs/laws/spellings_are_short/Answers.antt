use Rattle.x64_encode.proofs.Short.{short, some_bytes}
use Rattle.x64_encode.proofs.laws.spellings_are_short.Goals as goal

pub returns-clause-most : goal.returns-clause-most
returns-clause-most c = short

pub returns-clause-least : goal.returns-clause-least
returns-clause-least c = some_bytes
