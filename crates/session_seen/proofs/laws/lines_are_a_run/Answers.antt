use Rattle.session_host.specs.Hosting.{host_of}
use Rattle.session_seen.proofs.Ran.{lines_run}
use Rattle.session_seen.proofs.laws.lines_are_a_run.Goals as goal

pub returns : goal.returns
returns c = λ set ps arena_bytes. lines_run (host_of set ps arena_bytes) set
