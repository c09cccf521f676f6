use Rattle.std.proofs.Common.{◌≡◌}
use Rattle.std.specs.List.{All}
use Rattle.std.specs.Vec.{vec_len}
use Rattle.run_session.specs.Logging.{IsBlank}
use Rattle.run_session.proofs.log.blank_sheets.Given as goal

abbrev pub invariant-loop : goal.invariant-loop
invariant-loop l = record {
  count : vec_len l.sheets ≡ l.counter;
  each : All (IsBlank l.args l.seen) l.sheets.items;
}
