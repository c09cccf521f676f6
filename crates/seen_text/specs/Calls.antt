-- The text of calls, whose values are numbered in order: those of a call's arguments, of what was seen, and of what was given.
use Rattle.std.specs.Prelude.{ℕ, Option, Some, None, List, [], ◌∷◌, ◌++◌, codes, length, take, drop}
use Rattle.trace_ops.specs.declared.table.Table.{Table}
use Rattle.trace_meaning.specs.declared.value.Value.{Value}
use Rattle.trace_meaning.specs.declared.call.CallEvent.{CallEvent}
use Rattle.heap_shape.specs.declared.cell.Ref.{Ref}
use Rattle.descr_table.specs.Names.{function_name}
use Rattle.seen_text.specs.Values.{values_text, count_text}

abbrev pub behind_given : Option Value → List Ref → List Ref
behind_given None rs = rs
behind_given (Some x) rs = drop 1 rs

abbrev pub args_of : CallEvent → List Ref → List Ref
args_of c rs = take (length c.args) rs

abbrev pub seen_of : CallEvent → List Ref → List Ref
seen_of c rs = take (length c.seen) (drop (length c.args) rs)

-- what is left behind the numbers of a call
abbrev pub behind_call : CallEvent → List Ref → List Ref
behind_call c rs = behind_given c.gives (drop (length c.seen) (drop (length c.args) rs))

abbrev pub behind_calls : List CallEvent → List Ref → List Ref
behind_calls [] rs = rs
behind_calls (c ∷ cs) rs = behind_calls cs (behind_call c rs)

-- f(v, v) sees [v, v]
unfoldable pub call_line : Table → CallEvent → List Ref → List ℕ
call_line t c rs = ((((function_name t c.function ++ 40 ∷ []) ++ values_text (args_of c rs)) ++ codes ") sees [") ++ values_text (seen_of c rs)) ++ codes "]\n"

abbrev pub call_lines : Table → List CallEvent → List Ref → List ℕ
call_lines t [] rs = []
call_lines t (c ∷ cs) rs = call_line t c rs ++ call_lines t cs (behind_call c rs)

-- how many calls there are, and a line for each
unfoldable pub calls_text : Table → List CallEvent → List Ref → List ℕ
calls_text t cs rs = count_text (codes "calls ") (length cs) ++ call_lines t cs rs
