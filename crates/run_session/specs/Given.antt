-- What an answer of the host comes to.
use Rattle.std.specs.Prelude.{◌≡◌, ◌≢◌, ℕ}
use Rattle.trace_ops.specs.declared.table.Table.{Table}
use Rattle.image_runs.specs.Session.{Answered}
use Rattle.session_host.specs.Answering.{IsAnswered}
use Rattle.run_session.specs.declared.active.Active.{Active as Kept}
use Rattle.run_session.specs.declared.now.Now.{Now}
use Rattle.run_session.specs.declared.now.Now.TheVariants as now
use Rattle.run_session.specs.Answers.{calls_in, KeptFor}
use Rattle.run_session.specs.Outcomes.{CameOut}

-- the host answers so by an activation's calls and machine, and that came out
abbrev pub Hosted : Table → ℕ → Kept → Kept → Now → Type 0
Hosted t entry old new x = (o : Answered) × IsAnswered t entry (calls_in old.log) old.machine o × CameOut o x (calls_in new.log) new.machine

-- all else stays, and so does the machine of one that has ended
pub record HostAnswers (t : Table) (entry : ℕ) (old new : Kept) (x : Now) : Type 0 where
  pub answered : Hosted t entry old new x
  pub same : new ≡ record old { machine = new.machine; log = new.log; rebuilt = record old.rebuilt { found = new.rebuilt.found } }
  pub log : KeptFor x old.log new.log
  pub stays : x ≢ now.Going → new.machine ≡ old.machine
