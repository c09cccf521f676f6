-- The rows of a printed image, and a host of which only they show an end.
use Rattle.std.specs.Prelude.{List, length}
use Rattle.std.specs.List.{Contains}
use Rattle.guard_exit.specs.declared.row.ExitRow.{ExitRow}
use Rattle.image_runs.specs.Printed.{Printed, rows_at}
use Rattle.image_runs.specs.Session.{Host}

-- all rows that are printed
abbrev pub printed_rows : Printed → List ExitRow
printed_rows im = rows_at im (length im.parts)

-- The same host, of which only these rows show an end.
abbrev pub only_by : List ExitRow → Host → Host
only_by rows h = record {
  starts = λ trace entry inputs s. h.starts trace entry inputs s;
  answers = λ entry c s o. h.answers entry c s o;
  shows = λ row c s end. h.shows row c s end × Contains rows row;
}

-- only rows that are printed: no other return of a session ends an activation so
abbrev pub by_rows : Printed → Host → Host
by_rows im h = only_by (printed_rows im) h
