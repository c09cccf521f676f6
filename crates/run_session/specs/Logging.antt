-- What is seen of the calls of an activation, and the room for those to come.
use Rattle.std.specs.Prelude.{◌≡◌, ℕ, ◌*◌, ◌-◌, ◌<◌, ◌≤◌, List, [], length}
use Rattle.std.specs.List.{All}
use Rattle.std.specs.Vec.{vec_capacity}
use Rattle.trace_ops.specs.declared.table.CallRow.{CallRow}
use Rattle.trace_ops.specs.declared.table.Table.{Table}
use Rattle.trace_meaning.specs.declared.call.Answer.{Answer}
use Rattle.trace_meaning.specs.declared.call.CallEvent.{CallEvent}
use Rattle.run_session.specs.declared.log.Sheet.{Sheet}

-- the answers that were given, how many of them are used, and the calls so far; the sheets, the calls that may still be put, and
-- for how many arguments and fields each sheet has room
pub record Logging : Type 0 where
  pub answers : List Answer
  pub used : ℕ
  pub calls : List CallEvent
  pub sheets : ℕ
  pub room : ℕ
  pub args : ℕ
  pub seen : ℕ

-- nothing stands on the sheet, and there is room for so much
pub record IsBlank (args seen : ℕ) (s : Sheet) : Type 0 where
  pub no_args : s.args.items ≡ []
  pub no_seen : s.seen.items ≡ []
  pub args_fit : args ≤ vec_capacity s.args
  pub seen_fit : seen ≤ vec_capacity s.seen

-- a sheet has room for the call of a row
pub record Serves (l : Logging) (row : CallRow) : Type 0 where
  pub args : length row.args ≤ l.args
  pub seen : length row.args * length row.reads ≤ l.seen

-- for each row of a table
abbrev pub ServesAll : Table → Logging → Type 0
ServesAll t l = All (Serves l) t.calls

-- there is a sheet for each answer that is left, and one more
abbrev pub HasSheets : Logging → Type 0
HasSheets l = length l.answers - l.used < l.sheets
