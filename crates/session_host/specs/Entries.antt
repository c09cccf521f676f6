-- The host's entries, what a call passes to them in registers, and how a call returns.
use Rattle.std.specs.Prelude.{ℕ, ◌-◌, ◌==◌, ◌&&◌, ◌||◌, Bool, true, false, if◌then◌else◌, nat_le, nat_lt, is_some, ℤ, pos, negsuc, List, [], ◌∷◌, Option, Some, None, length}
use Rattle.std.specs.Ordering.{int_eq}
use Rattle.trace_ops.specs.declared.table.Table.{Table}
use Rattle.trace_ops.specs.declared.trace.Kind.{Kind}
use Rattle.trace_ops.specs.declared.trace.Kind.TheVariants as kind
use Rattle.target_base.specs.declared.reg.Reg.{Reg}
use Rattle.target_base.specs.Arena.{Arena}
use Rattle.guard_exit.specs.Codes.{register}
use Rattle.arena_objects.specs.Walk.{object_at}
use Rattle.arena_objects.specs.ReadBack.{or_zero}
use Rattle.x64_machine.specs.Words.{unsigned}
use Rattle.x64_machine.specs.State.{State, reg, rsp, word_at, resumed}

-- ---- entries

-- entry 1 makes a structure, entry 2 an array, and from entry 16 on each function of the table has one
pub data Entered : Type 0 where
  Structure : Entered
  Items : Entered
  Function : (function : ℕ) → Entered
  Nowhere : Entered

abbrev pub function_if : Bool → ℕ → Entered
function_if true f = Function f
function_if false f = Nowhere

abbrev pub entered : Table → ℕ → Entered
entered t entry =
    if entry == 1 then Structure else if entry == 2 then Items else function_if (nat_le 16 entry && nat_lt (entry - 16) (length t.functions)) (entry - 16)

-- ---- what is passed

-- the registers of a function's arguments, in order
abbrev pub arg_registers : List Reg
arg_registers = register 7 ∷ register 6 ∷ register 2 ∷ register 1 ∷ register 8 ∷ register 9 ∷ []

-- the words of as many arguments as there are kinds
abbrev pub words_in : State → List Kind → List Reg → List ℤ
words_in s [] rs = []
words_in s (k ∷ ks) [] = []
words_in s (k ∷ ks) (r ∷ rs) = reg s r ∷ words_in s ks rs

-- null, or the address of an object of the arena
abbrev pub is_address : Table → Arena → ℤ → Bool
is_address t arena w = int_eq w (pos 0) || is_some (object_at t arena w)

abbrev pub or_else : Bool → ℤ → Option ℤ → Option ℤ
or_else true w later = later
or_else false w later = Some w

-- the first word that is passed as a reference and is none
abbrev pub stray_in : Table → Arena → List Kind → List ℤ → Option ℤ
stray_in t arena [] ws = None
stray_in t arena (k ∷ ks) [] = None
stray_in t arena (kind.Int ∷ ks) (w ∷ ws) = stray_in t arena ks ws
stray_in t arena (kind.Ref ∷ ks) (w ∷ ws) = or_else (is_address t arena w) w (stray_in t arena ks ws)

-- ---- the return

-- the word at the top of the stack is the address to return to
abbrev pub back_of : State → ℤ
back_of s = or_zero (word_at s (unsigned (reg s rsp)))

-- the call gives a word and leaves an arena; the registers that calls lose hold -1
abbrev pub gives_back : ℤ → Arena → State → State
gives_back given arena s = resumed given (negsuc 0) (back_of s) (record s { arena = arena })
