-- The session of an input that has none: every bridge is attached.
use Rattle.std.specs.Prelude.{ℕ, zero, suc, Bool, true, false, not, ◌&&◌, Option, Some, None, List, [], ◌∷◌, length, map, position, slice_get, slice_set, slice_index_or}
use Rattle.trace_ops.specs.declared.trace.Origin.{Origin}
use Rattle.trace_ops.specs.declared.trace.Origin.TheVariants.{Loop, Bridge}
use Rattle.trace_ops.specs.declared.trace.Trace.{Trace}
use Rattle.trace_ops.specs.declared.trace.TraceSet.{TraceSet}
use Rattle.trace_ops.specs.Weights.{parent_named}
use Rattle.session_text.specs.declared.attaching.Row.{Row}
use Rattle.session_text.specs.declared.session.Line.{Line}
use Rattle.session_text.specs.declared.session.Line.TheVariants as line
use Rattle.session_text.specs.declared.session.SessionText.{SessionText}

abbrev pub is_loop : Origin → Bool
is_loop Loop = true
is_loop (Bridge name guard) = false

-- a row a trace: where its parent stands, and whether the trace is a loop or an attached bridge
abbrev pub row_of : List Trace → Trace → Row
row_of traces t = record { parent = parent_named traces t.origin; is_there = is_loop t.origin }

abbrev pub rows_of : TraceSet → List Row
rows_of set = map (row_of set.traces) set.traces

abbrev pub is_there : Option Row → Bool
is_there None = false
is_there (Some row) = row.is_there

abbrev pub parent_is_there : List Row → Option ℕ → Bool
parent_is_there rows None = false
parent_is_there rows (Some place) = is_there (slice_get rows place)

-- a bridge that isn't attached yet, and whose parent is a loop or an attached bridge
abbrev pub can_attach : List Row → Row → Bool
can_attach rows row = not row.is_there && parent_is_there rows row.parent

-- the first such bridge of the input
abbrev pub first_bridge : List Row → Option ℕ
first_bridge rows = position (can_attach rows) rows

abbrev pub no_row : Row
no_row = record { parent = None; is_there = false }

-- the bridge at this place is there from now on
abbrev pub with_bridge : ℕ → List Row → List Row
with_bridge k rows = slice_set rows k (record { parent = (slice_index_or rows k no_row).parent; is_there = true })

-- at most so many bridges, of which this is the first: each time the first that can be attached
unfoldable pub turns : ℕ → List Row → Option ℕ → List ℕ
turns zero rows bridge = []
turns (suc n) rows None = []
turns (suc n) rows (Some k) = k ∷ turns n (with_bridge k rows) (first_bridge (with_bridge k rows))

abbrev pub in_turn : ℕ → List Row → List ℕ
in_turn n rows = turns n rows (first_bridge rows)

-- every bridge is attached
abbrev pub session_of_all : TraceSet → SessionText
session_of_all set = record { lines = map line.Attach (in_turn (length set.traces) (rows_of set)); names = [] }
