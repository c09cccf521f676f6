-- Operations that call the host: the run comes to the call, with what is asked in registers, and goes on from whatever the
-- host leaves. An allocation for which no bytes are left ends there, and so does a call without an answer that fits.
use Rattle.std.specs.Prelude.{◌≡◌, ◌⊎◌, ℕ, ◌+◌, ◌*◌, ◌^◌, ◌<◌, ◌≤◌, true, ℤ, pos, List, [], ◌∷◌, ◌++◌, length, slice_get, Option, Some, None, IsTrue}
use Rattle.std.specs.List.{Contains}
use Rattle.trace_ops.specs.Words.{IsWord}
use Rattle.trace_ops.specs.declared.table.Table.{Table}
use Rattle.trace_ops.specs.declared.table.ShapeOf.{ShapeOf}
use Rattle.trace_ops.specs.declared.table.ShapeOf.TheVariants.{Size, Array}
use Rattle.trace_ops.specs.declared.trace.BoxId.{BoxId}
use Rattle.trace_ops.specs.declared.trace.Arg.{Arg}
use Rattle.trace_ops.specs.declared.trace.Arg.TheVariants.{Func}
use Rattle.trace_ops.specs.declared.trace.Descr.{Descr}
use Rattle.trace_ops.specs.declared.trace.Descr.TheVariants as descr
use Rattle.trace_ops.specs.declared.piece.OptOp.{OptOp}
use Rattle.trace_ops.specs.declared.piece.OptOp.TheVariants as opt
use Rattle.trace_ops.specs.Pieces.{results_of}
use Rattle.trace_meaning.specs.declared.value.Value.{Value}
use Rattle.trace_meaning.specs.declared.value.Value.TheVariants as v
use Rattle.trace_meaning.specs.declared.value.Object.{Object}
use Rattle.trace_meaning.specs.Boxes.{has_value, value_in}
use Rattle.trace_meaning.specs.World.{World}
use Rattle.trace_meaning.specs.Legs.{Leave, Turn, Waits, Misfits, Wrong, On, Off, drive}
use Rattle.opt_meaning.specs.Step.{Opt, opt_step, opt_values}
use Rattle.arena_objects.specs.Layout.{header_of, address_of, word_of, words_in}
use Rattle.arena_objects.specs.Standing.{IsPart, Stands}
use Rattle.arena_objects.specs.Making.{zeroed_of, arena_with}
use Rattle.guard_exit.specs.Codes.{register}
use Rattle.linear_scan.specs.Living.{is_calling}
use Rattle.x64_encode.specs.declared.instr.Instr.TheVariants.{CallReg}
use Rattle.target_base.specs.declared.place.Place.TheVariants.{In}
use Rattle.target_base.specs.Arena.{Arena}
use Rattle.x64_encode.specs.Form.{spelling}
use Rattle.x64_encode.specs.Listing.{Stands as StandsInCode}
use Rattle.x64_machine.specs.declared.state.Stop.TheVariants.{HostCall}
use Rattle.x64_machine.specs.declared.state.Turn.TheVariants.{Stopped}
use Rattle.x64_machine.specs.Running.{Along}
use Rattle.x64_machine.specs.State.{State, acted}
use Rattle.x64_machine.specs.Step.{MachineStep}
use Rattle.asm_select.specs.declared.form.Access.{Access}
use Rattle.asm_select.specs.declared.form.Access.TheVariants as access
use Rattle.asm_select.specs.declared.told.Told.{Told}
use Rattle.asm_select.specs.declared.told.Told.TheVariants as tell
use Rattle.asm_select.specs.Slots.{Slot, Put, Lists, sizes_of}
use Rattle.asm_select.specs.Slots as slot
use Rattle.asm_select.specs.Valued.{value, MayHold, IsFit}
use Rattle.asm_select.specs.Chosen.{Where, Setting, entry_of, entry_number, access_form, arg_places, places_for, for_call, told_by, code_of, all_code}
use Rattle.asm_select.specs.Reached.{Reach, IsNamed, Uses, IsApart, AreApart, PrebuiltsStand, AreKept, Holds, HasWords}
use Rattle.asm_select.specs.Calls.{called, answered, Survives}
use Rattle.asm_select.specs.Ended.{AreValued, AreMoved, AreParts, PlacesStand, Counts, ComesTo, TableServes, IsHere}
use Rattle.asm_select.specs.Ended as ended

-- ---- what is asked of an operation

-- the moves bring a function's arguments to their registers
abbrev pub IsAskedAs : Setting → ℕ → Access → Option BoxId → List Arg → Descr → Type 0
IsAskedAs c k access.Structure (Some r) [] (descr.Size n) = Contains c.table.shapes (Size n)
IsAskedAs c k access.Array (Some r) (a ∷ []) (descr.Array x) = Contains c.table.shapes (Array x) × (has_value a ≡ true)
IsAskedAs c k access.Call r (Func f ∷ args) (descr.Call row) = AreMoved (for_call c k args) args × AreValued args × (row < 2 ^ 31)
IsAskedAs c k form r args d = ⊥

abbrev pub IsAskedIf : Setting → ℕ → Option Access → Option BoxId → List Arg → Descr → Type 0
IsAskedIf c k None r args d = ⊥
IsAskedIf c k (Some form) r args d = IsAskedAs c k form r args d

abbrev pub IsAsked : Setting → ℕ → OptOp → Type 0
IsAsked c k (opt.Plain operation r args d) = IsAskedIf c k (access_form operation) r args d
IsAsked c k op = ⊥

-- a box that lives across a call has a place that calls keep
abbrev pub IsSafe : Where → OptOp → List OptOp → Type 0
IsSafe at op ops = IsTrue (is_calling op) → (b : BoxId) → (IsNamed (results_of op) b → ⊥) → Uses tell.Nothing ops b → Survives (at b.number)

abbrev pub AreSafe : Where → List OptOp → Type 0
AreSafe at [] = Unit {0}
AreSafe at (op ∷ ops) = IsSafe at op ops × AreSafe at ops

-- ---- at the call

abbrev pub call_size : ℕ
call_size = length (spelling (CallReg (register 11)))

abbrev pub entry_as : Access → List Arg → ℕ
entry_as access.Structure args = 1
entry_as access.Array args = 2
entry_as access.Call (Func f ∷ args) = entry_number f
entry_as form args = 0

abbrev pub entry_if : Option Access → List Arg → ℕ
entry_if None args = 0
entry_if (Some form) args = entry_as form args

-- the number of the entry that the operation calls
abbrev pub entry_by : OptOp → ℕ
entry_by (opt.Plain operation r args d) = entry_if (access_form operation) args
entry_by op = 0

-- the header number, and an array's length; or the number of the call's row, and the arguments
abbrev pub AsksAs : Table → Access → List Arg → Descr → Option (List Value) → World → State → Type 0
AsksAs t access.Structure args (descr.Size n) vs w u = value u (In (register 7)) ≡ pos (header_of t (Size n))
AsksAs t access.Array args (descr.Array x) (Some (v.Int z ∷ [])) w u = (value u (In (register 7)) ≡ pos (header_of t (Array x))) × (value u (In (register 6)) ≡ z)
AsksAs t access.Call (Func f ∷ args) (descr.Call row) (Some vs) w u =
    (value u (In (register 10)) ≡ pos row) × PlacesStand (address_of w.objects) u (places_for args arg_places) vs × AreParts (length w.objects) vs
AsksAs t form args d vs w u = ⊥

abbrev pub AsksIf : Table → Option Access → List Arg → Descr → Option (List Value) → World → State → Type 0
AsksIf t None args d vs w u = ⊥
AsksIf t (Some form) args d vs w u = AsksAs t form args d vs w u

abbrev pub Asks : Table → OptOp → Opt → State → Type 0
Asks t (opt.Plain operation r args d) env u = AsksIf t (access_form operation) args d (opt_values env args) env.world u
Asks t op env u = ⊥

-- a run over slots to a place and a state
pub record Path (p : ℕ) (xs : List Slot) (s : State) (ys : List Slot) (q : ℕ) (t : State) : Type 0 where
  pub path : List State
  pub few : length path + length ys ≤ length xs
  pub comes : (by : slot.Jumps) (code : List ℕ) → length code < 2 ^ 32 → Lists by code p xs → Along code path s t
  pub front : List Slot
  pub split : xs ≡ front ++ ys
  pub place : q ≡ p + sizes_of front
  pub at : t.at ≡ 0x40000000 + q

-- the state in the host, from one at a call at q
abbrev pub in_host : OptOp → ℕ → State → State
in_host op q u = called (entry_of (entry_by op)) (0x40000000 + (q + call_size)) u

-- The state at q is at a call that asks the host what the operation asks; the objects stand in its arena.
pub record AtCall (c : Setting) (op : OptOp) (env : Opt) (q : ℕ) (u : State) : Type 0 where
  pub asks : Asks c.table op env u
  pub fit : IsFit u
  pub arena : Stands c.table env.world.objects u.arena
  pub prebuilts : PrebuiltsStand c.table env.world.objects
  pub calls : (code : List ℕ) → length code < 2 ^ 32 → StandsInCode code q (CallReg (register 11)) → MachineStep code u (acted (Stopped (HostCall (entry_by op))) (in_host op q u))

-- ---- from the host's return on

-- What the host leaves: the objects after it stand in the arena, none is lost or moved, and its word is that of what is given.
pub record HostLeft (t : Table) (given : Option Value) (old new : List Object) (z : ℤ) (arena : Arena) : Type 0 where
  pub word : IsWord z
  pub stands : Stands t new arena
  pub kept : AreKept old new
  pub result : (x : Value) → given ≡ Some x → z ≡ word_of (address_of new) x
  pub part : (x : Value) → given ≡ Some x → IsPart (length new) x

-- what an operation has given
abbrev pub given_in : Option BoxId → Opt → Option Value
given_in None after = None
given_in (Some r) after = value_in after.boxes r

abbrev pub given_by : OptOp → Opt → Option Value
given_by (opt.Plain operation r args d) after = given_in r after
given_by op after = None

-- the state behind the call at q
abbrev pub returned : OptOp → ℕ → State → ℤ → ℤ → Arena → State
returned op q u z lost arena = answered z lost (0x40000000 + (q + call_size)) arena (in_host op q u)

-- the run comes to a call
pub record Stops (also : State → Type 0) (c : Setting) (op : OptOp) (env : Opt) (xs : List Slot) (p : ℕ) (s : State) : Type 0 where
  pub q : ℕ
  pub u : State
  pub rest : List Slot
  pub path : Path p xs s (Put (CallReg (register 11)) ∷ rest) q u
  pub there : AtCall c op env q u
  pub holds : also u

-- and goes on behind it
abbrev pub Resumes : (State → Type 0) → Setting → OptOp → List OptOp → Opt → Opt → List Slot → List Slot → ℕ → State → Type 0
Resumes also c op ops env after rest more q u =
    (z lost : ℤ) (arena : Arena) → IsWord lost → q + call_size < 2 ^ 32 → HostLeft c.table (given_by op after) env.world.objects after.world.objects z arena
    → Reach (q + call_size) rest (returned op q u z lost arena) more (λ t. Holds c (told_by op ops) ops after t × also t)

-- where the operation goes on, the run does so behind the call; where no answer fits, it comes to the call
abbrev pub CallsBy : (State → Type 0) → Setting → OptOp → List OptOp → List Slot → List Slot → ℕ → State → Opt → Turn Opt → Type 0
CallsBy also c op ops xs more p s env (On after) = (f : Stops also c op env xs p s) × Resumes also c op ops env after f.rest more f.q f.u
CallsBy also c op ops xs more p s env (Off (Waits w)) = Stops also c op env xs p s
CallsBy also c op ops xs more p s env (Off (Misfits w)) = Stops also c op env xs p s
CallsBy also c op ops xs more p s env (Off (Wrong w)) = Unit {0}
CallsBy also c op ops xs more p s env (Off l) = ⊥

abbrev pub CallsFollow : Type 0
CallsFollow =
    (c : Setting) (k : ℕ) (told : Told) (op : OptOp) (ops : List OptOp) (env : Opt) (more : List Slot) (p : ℕ) (s : State)
    → TableServes c.table → ((b : ℕ) → MayHold (c.at b)) → IsApart c.at op ops → IsSafe c.at op ops → HasWords c.table op → IsAsked c k op
    → Holds c told (op ∷ ops) env s → s.at ≡ 0x40000000 + p
    → CallsBy (Counts 0 0 s) c op ops (code_of c k told op ops ++ more) more p s env (opt_step c.table op env)

-- where enough bytes are left, an allocation leaves this
abbrev pub AllocationsLeave : Type 0
AllocationsLeave =
    (t : Table) (shape : ShapeOf) (n : ℕ) (objects : List Object) (arena : Arena)
    → Stands t objects arena → Contains t.shapes shape → 8 * words_in (zeroed_of t shape n) + arena.taken ≤ 8 * length arena.words
    → HostLeft t (Some (v.Obj (length objects))) objects (objects ++ zeroed_of t shape n ∷ []) (pos (0x10000000 + arena.taken)) (arena_with t shape n arena)

-- ---- a whole piece

-- an operation of those from key k on, by its key
abbrev pub IsAmong : ℕ → List OptOp → ℕ → OptOp → Type 0
IsAmong k ops key op = (j : ℕ) × (slice_get ops j ≡ Some op) × (key ≡ k + j)

-- A run from before some slots of a piece whose first operation is operation k. It comes straight to where the piece is left, or
-- to a call of the host; from what the host leaves there it goes on. With it go the loads and stores still to be made.
pub data Trip (c : Setting) (k : ℕ) (ops : List OptOp) (l : Leave) : ℕ → ℕ → List Slot → ℕ → State → Type 0 where
  arrives : (n m : ℕ) (xs : List Slot) (p : ℕ) (s : State) (key : ℕ) (op : OptOp) → IsAmong k ops key op → ComesTo (Counts n m s) c key op xs p s l → Trip c k ops l n m xs p s
  calls : (n m : ℕ) (xs : List Slot) (p : ℕ) (s : State) (key : ℕ) (op : OptOp) (env after : Opt) (a b i j : ℕ) → IsAmong k ops key op → opt_step c.table op env ≡ On after
      → n ≡ a + i → m ≡ b + j → (f : Stops (Counts a b s) c op env xs p s)
      → ((z lost : ℤ) (arena : Arena) → IsWord lost → f.q + call_size < 2 ^ 32 → HostLeft c.table (given_by op after) env.world.objects after.world.objects z arena → Trip c k ops l i j f.rest (f.q + call_size) (returned op f.q f.u z lost arena))
      → Trip c k ops l n m xs p s
  -- the answer is missing, or doesn't fit
  stands : (n m : ℕ) (xs : List Slot) (p : ℕ) (s : State) (key : ℕ) (op : OptOp) (env : Opt) → IsAmong k ops key op → opt_step c.table op env ≡ Off l
      → Stops (Counts n m s) c op env xs p s → Trip c k ops l n m xs p s
  -- nothing is said of where a wrong operation leads
  errs : (n m : ℕ) (xs : List Slot) (p : ℕ) (s : State) (w : World) → l ≡ Wrong w → Trip c k ops l n m xs p s

-- an operation that leaves the flags and the arena as this says, or one that calls
abbrev pub AreChosen : Setting → ℕ → Told → List OptOp → Type 0
AreChosen c k told [] = Unit {0}
AreChosen c k told (op ∷ ops) = (IsHere c told op ⊎ IsAsked c k op) × HasWords c.table op × AreChosen c (k + 1) (told_by op ops) ops

abbrev pub PieceComes : Type 0
PieceComes =
    (c : Setting) (k : ℕ) (told : Told) (ops : List OptOp) (env : Opt) (p : ℕ) (s : State)
    → TableServes c.table → ((b : ℕ) → MayHold (c.at b)) → AreApart c.at ops → AreSafe c.at ops → AreChosen c k told ops
    → Holds c told ops env s → s.at ≡ 0x40000000 + p
    → Trip c k ops (drive (opt_step c.table) (λ (x : Opt). x.world) ops env) (ended.loads_in c.table ops env) (ended.stores_in c.table ops env) (all_code c k told ops) p s
