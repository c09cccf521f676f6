-- The sections of a text, and the set that it stands for.
use Rattle.std.specs.Prelude.{◌≡◌, ◌⊎◌, ℕ, ◌+◌, min, Bool, false, not, ◌&&◌, Option, Some, None, Result, Ok, Err, List, [], ◌∷◌, length, take, drop, codes, if◌then◌else◌}
use Rattle.std.specs.Str.{bytes_eq}
use Rattle.std.specs.List.{position_or_len}
use Rattle.text_lines.specs.Words.{words, is_plain}
use Rattle.text_lines.specs.Lines.{lines}
use Rattle.lists.specs.Refused.{ok_then}
use Rattle.text_lines.specs.Reading.{is_skipped, is_end}
use Rattle.trace_ops.specs.declared.trace.TraceSet.{TraceSet}
use Rattle.trace_ops.specs.declared.table.Table.{Table}
use Rattle.descr_table.specs.declared.fault.TableFault.{TableFault}
use Rattle.descr_table.specs.Meaning.{nothing}
use Rattle.descr_table.specs.Reading.{table_at}
use Rattle.trace_text.specs.declared.fault.TextFault.{TextFault}
use Rattle.trace_text.specs.declared.cut.Until.{Until}
use Rattle.trace_text.specs.declared.cut.Until.TheVariants as until
use Rattle.trace_text.specs.Faults.{table_fault}
use Rattle.trace_text.specs.Names.{names_of}
use Rattle.trace_text.specs.Draft.{lines_at, finished, is_section}

-- the line is this word alone
abbrev pub is_alone : List ℕ → List (List ℕ) → Bool
is_alone key [] = false
is_alone key (w ∷ ws) = bytes_eq w key && is_end ws

-- a line says something where it is not skipped; one with another byte does too
abbrev pub stops : Until → List ℕ → Bool
stops until.Session line = is_alone (codes "%session") (words line)
stops until.Section line = is_section (words line)
stops until.Said line = not (is_plain line && is_skipped (words line))

-- ---- cutting a text in front of a line

-- the number of lines in front of the first that passes the test
abbrev pub lines_before : (List ℕ → Bool) → List ℕ → ℕ
lines_before test text = position_or_len test (lines text)

-- how many bytes stand in front of that line, behind so many others; each line has its line feed
unfoldable pub bytes_before : (List ℕ → Bool) → ℕ → List (List ℕ) → ℕ
bytes_before test k [] = k
bytes_before test k (l ∷ ls) = if test l then k else bytes_before test (k + (length l + 1)) ls

-- the place of that line, or the text's length; the last line may lack its line feed
abbrev pub place_of : (List ℕ → Bool) → List ℕ → ℕ
place_of test text = min (bytes_before test 0 (lines text)) (length text)

abbrev pub front : Until → List ℕ → List ℕ
front u text = take (place_of (stops u) text) text

abbrev pub back : Until → List ℕ → List ℕ
back u text = drop (place_of (stops u) text) text

-- ---- the sections

-- the traces of the lines from number n on, over a table; the line behind them has the number `end`
abbrev pub set_over : Table → ℕ → ℕ → List ℕ → Result TraceSet TextFault
set_over t end n text =
    ok_then (ok_then (lines_at (names_of t) n text) (finished end)) (λ traces. Ok (record { table = t; traces = traces }))

-- a refusal of the table is one of the text
abbrev pub table_read : Result Table TableFault → Result Table TextFault
table_read (Ok t) = Ok t
table_read (Err e) = Err (table_fault e)

-- the table's lines go up to the next that begins with %
abbrev pub set_with_table : ℕ → ℕ → List ℕ → Result TraceSet TextFault
set_with_table end n text =
    ok_then (table_read (table_at n (front until.Section text))) (λ t. set_over t end (n + lines_before (stops until.Section) text) (back until.Section text))

-- a text whose first line says something: it opens the table, or there is none
abbrev pub set_opened : ℕ → ℕ → List ℕ → List (List ℕ) → Result TraceSet TextFault
set_opened end n text [] = set_over nothing end n text
set_opened end n text (l ∷ ls) = if is_alone (codes "%table") (words l) then set_with_table end (n + 1) (drop (length l + 1) text) else set_over nothing end n text

-- the set of a text without a session
abbrev pub set_of : ℕ → List ℕ → Result TraceSet TextFault
set_of end text = set_opened end (1 + lines_before (stops until.Said) text) (back until.Said text) (lines (back until.Said text))

-- the set, and the place of the session's line; the lines behind that are not read
unfoldable pub set_at : List ℕ → Result (TraceSet × ℕ) TextFault
set_at text = ok_then (set_of (1 + lines_before (stops until.Session) text) (front until.Session text)) (λ set. Ok (set, place_of (stops until.Session) text))

-- there is no table, or lines of the text stand for it
abbrev pub IsTableOfText : Table → Type 0
IsTableOfText t = (t ≡ nothing) ⊎ ((first : ℕ) × (part : List ℕ) × (table_at first part ≡ Ok t))

-- ---- the session

-- what stands behind the first of these lines, whose number is n
abbrev pub part_behind : ℕ → List ℕ → List (List ℕ) → Option (List ℕ × ℕ)
part_behind n text [] = None
part_behind n text (l ∷ ls) = Some (drop (length l + 1) text, n + 1)

-- the lines behind the session's line, where there is one, and the number of the first
abbrev pub session_part : List ℕ → Option (List ℕ × ℕ)
session_part text = part_behind (1 + lines_before (stops until.Session) text) (back until.Session text) (lines (back until.Session text))
