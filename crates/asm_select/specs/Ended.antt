-- How a piece goes on, and how it is left.
use Rattle.std.specs.Prelude.{◌≡◌, ◌≢◌, ℕ, ◌+◌, ◌<◌, ◌≤◌, ◌^◌, Bool, true, List, [], ◌∷◌, ◌++◌, length, slice_get, Option, Some, None, IsTrue}
use Rattle.std.specs.Option.{is_some}
use Rattle.std.specs.List.{AllZip}
use Rattle.trace_ops.specs.declared.code.OpCode.{OpCode}
use Rattle.trace_ops.specs.declared.code.OpCode.TheVariants as code
use Rattle.trace_ops.specs.declared.table.Table.{Table}
use Rattle.trace_ops.specs.declared.trace.BoxId.{BoxId}
use Rattle.trace_ops.specs.declared.trace.Arg.{Arg}
use Rattle.trace_ops.specs.declared.trace.Arg.TheVariants.{Class}
use Rattle.trace_ops.specs.declared.trace.Descr.{Descr}
use Rattle.trace_ops.specs.declared.trace.Descr.TheVariants as descr
use Rattle.trace_ops.specs.declared.piece.Spot.TheVariants as spot
use Rattle.arena_objects.specs.Spots.{spot_offset, ListsItsFields}
use Rattle.asm_select.specs.declared.form.Access.{Access}
use Rattle.asm_select.specs.declared.form.Access.TheVariants as access
use Rattle.trace_ops.specs.declared.piece.OptOp.{OptOp}
use Rattle.trace_ops.specs.declared.piece.OptOp.TheVariants as opt
use Rattle.trace_ops.specs.Classes.{reads_overflow}
use Rattle.trace_ops.specs.Parts.{parts_of}
use Rattle.trace_ops.specs.Pieces.{finished}
use Rattle.trace_meaning.specs.declared.value.Value.{Value}
use Rattle.trace_meaning.specs.declared.value.Value.TheVariants as v
use Rattle.trace_meaning.specs.Boxes.{has_value}
use Rattle.trace_meaning.specs.World.{World}
use Rattle.trace_meaning.specs.Legs.{Leave, Turn, Fails, Jumps, Finishes, Waits, Misfits, Wrong, On, Off}
use Rattle.opt_meaning.specs.Step.{Opt, opt_step, opt_values}
use Rattle.arena_objects.specs.Layout.{address_of, word_of}
use Rattle.arena_objects.specs.Standing.{IsPart, Stands}
use Rattle.parallel_move.specs.Moving.{HasDistinctTargets, MovePlaces, at_once, after}
use Rattle.parallel_move.specs.Moving as moving
use Rattle.target_base.specs.declared.place.Place.{Place}
use Rattle.x64_machine.specs.State.{State}
use Rattle.x64_machine.specs.Words.{holds}
use Rattle.asm_select.specs.declared.told.Told.{Told}
use Rattle.asm_select.specs.declared.told.Told.TheVariants as tell
use Rattle.asm_select.specs.Slots.{Slot, Put, Go}
use Rattle.asm_select.specs.Slots as slot
use Rattle.asm_select.specs.Valued.{value, MayHold, IsFit}
use Rattle.asm_select.specs.Chosen.{Where, Setting, operand_of, unary_form, binary_form, access_form, told_by, pairs_of, code_of}
use Rattle.asm_select.specs.Reached.{Reach, IsApart, PrebuiltsStand, Holds, HasWords, read}

-- ---- where a piece is left

-- the slot is the jump of operation k, and it is taken
abbrev pub IsTaken : ℕ → Slot → State → Type 0
IsTaken k (Put i) t = ⊥
IsTaken k (slot.Leave cond e) t = (e ≡ k) × (holds cond t.flags ≡ Some true)
IsTaken k (Go e) t = e ≡ k

-- boxes, arguments and places have these values, where objects have these addresses
abbrev pub BoxesStand : Where → (ℕ → ℕ) → State → List BoxId → List Value → Type 0
BoxesStand at addresses t bs vs = AllZip (λ (b : BoxId) (x : Value). value t (at b.number) ≡ word_of addresses x) bs vs

abbrev pub ArgsStand : Setting → (ℕ → ℕ) → State → List Arg → List Value → Type 0
ArgsStand c addresses t args vs = AllZip (λ (a : Arg) (x : Value). read t (operand_of c a) ≡ word_of addresses x) args vs

abbrev pub PlacesStand : (ℕ → ℕ) → State → List Place → List Value → Type 0
PlacesStand addresses t ps vs = AllZip (λ (p : Place) (x : Value). value t p ≡ word_of addresses x) ps vs

-- the guard's boxes stand at their places, the jump's values at those of the label, and the finish's value where it is read
abbrev pub LeavesWith : Setting → OptOp → Leave → State → Type 0
LeavesWith c (opt.Guard operation args n snap) (Fails m vs w) t = (m ≡ n) × BoxesStand c.at (address_of w.objects) t (parts_of snap) vs
LeavesWith c (opt.Exit n snap) (Fails m vs w) t = (m ≡ n) × BoxesStand c.at (address_of w.objects) t (parts_of snap) vs
LeavesWith c (opt.Jump to args) (Jumps vs w) t = PlacesStand (address_of w.objects) t c.to vs
LeavesWith c (opt.Finish a) (Finishes vs w) t = ArgsStand c (address_of w.objects) t (finished a) vs
LeavesWith c op l t = ⊥

abbrev pub world_of : Leave → World
world_of (Fails n vs w) = w
world_of (Jumps vs w) = w
world_of (Finishes vs w) = w
world_of (Waits w) = w
world_of (Misfits w) = w
world_of (Wrong w) = w

abbrev pub values_of : Leave → List Value
values_of (Fails n vs w) = vs
values_of (Jumps vs w) = vs
values_of (Finishes vs w) = vs
values_of (Waits w) = []
values_of (Misfits w) = []
values_of (Wrong w) = []

-- where there are so many objects: each is a word, null, or one of them
abbrev pub AreParts : ℕ → List Value → Type 0
AreParts n [] = Unit {0}
AreParts n (x ∷ xs) = IsPart n x × AreParts n xs

pub record IsLeft (c : Setting) (k : ℕ) (op : OptOp) (x : Slot) (l : Leave) (t : State) : Type 0 where
  pub taken : IsTaken k x t
  pub fit : IsFit t
  pub arena : Stands c.table (world_of l).objects t.arena
  pub prebuilts : PrebuiltsStand c.table (world_of l).objects
  pub parts : AreParts (length (world_of l).objects) (values_of l)
  pub with : LeavesWith c op l t

-- ---- loads and stores of the arena

abbrev pub reads_of : OpCode → ℕ
reads_of code.GetfieldGcI = 1
reads_of code.GetfieldGcR = 1
reads_of code.GetarrayitemGcI = 1
reads_of code.GetarrayitemGcR = 1
reads_of code.ArraylenGc = 1
reads_of operation = 0

abbrev pub writes_of : OpCode → ℕ
writes_of code.SetfieldGc = 1
writes_of code.SetarrayitemGc = 1
writes_of operation = 0

-- a guard on a class reads the header, where there is an object
abbrev pub headers_of : OpCode → Option (List Value) → ℕ
headers_of code.GuardClass vs = 1
headers_of code.GuardNonnullClass (Some (v.Obj n ∷ [])) = 1
headers_of operation vs = 0

abbrev pub loads_of : OptOp → Opt → ℕ
loads_of (opt.Plain operation r args d) env = reads_of operation
loads_of (opt.Guard operation args n snap) env = headers_of operation (opt_values env args)
loads_of op env = 0

abbrev pub stores_of : OptOp → Opt → ℕ
stores_of (opt.Plain operation r args d) env = writes_of operation
stores_of op env = 0

-- of the operations to come, where one goes on
abbrev pub where_on : Turn Opt → (Opt → ℕ) → ℕ
where_on (On after) count = count after
where_on (Off l) count = 0

abbrev pub loads_in : Table → List OptOp → Opt → ℕ
loads_in t [] env = 0
loads_in t (op ∷ ops) env = loads_of op env + where_on (opt_step t op env) (loads_in t ops)

abbrev pub stores_in : Table → List OptOp → Opt → ℕ
stores_in t [] env = 0
stores_in t (op ∷ ops) env = stores_of op env + where_on (opt_step t op env) (stores_in t ops)

-- so many loads and stores more
pub record Counts (loads stores : ℕ) (s t : State) : Type 0 where
  pub loads_more : t.loads ≡ s.loads + loads
  pub stores_more : t.stores ≡ s.stores + stores

-- ---- one operation

-- the run comes to a slot of operation k at which it is left so, in a state of which this holds as well
abbrev pub ComesTo : (State → Type 0) → Setting → ℕ → OptOp → List Slot → ℕ → State → Leave → Type 0
ComesTo also c k op xs p s l = (x : Slot) × (rest : List Slot) × Reach p xs s (x ∷ rest) (λ t. IsLeft c k op x l t × also t)

-- an operation's code goes on to the next one with its effect, or leaves; it stands at no call, and of a wrong one nothing is
-- said
abbrev pub FollowsBy : (State → Type 0) → Setting → ℕ → OptOp → List OptOp → List Slot → List Slot → ℕ → State → Turn Opt → Type 0
FollowsBy also c k op ops xs more p s (On after) = Reach p xs s more (λ t. Holds c (told_by op ops) ops after t × also t)
FollowsBy also c k op ops xs more p s (Off (Fails n vs w)) = ComesTo also c k op xs p s (Fails n vs w)
FollowsBy also c k op ops xs more p s (Off (Jumps vs w)) = ComesTo also c k op xs p s (Jumps vs w)
FollowsBy also c k op ops xs more p s (Off (Finishes vs w)) = ComesTo also c k op xs p s (Finishes vs w)
FollowsBy also c k op ops xs more p s (Off (Waits w)) = ⊥
FollowsBy also c k op ops xs more p s (Off (Misfits w)) = ⊥
FollowsBy also c k op ops xs more p s (Off (Wrong w)) = Unit {0}

abbrev pub Follows : (State → Type 0) → Setting → ℕ → Told → OptOp → List OptOp → List Slot → ℕ → State → Turn Opt → Type 0
Follows also c k told op ops more p s turn = FollowsBy also c k op ops (code_of c k told op ops ++ more) more p s turn

-- ---- what is asked of an operation

abbrev pub has_unary : OpCode → Bool
has_unary operation = is_some (unary_form operation)

abbrev pub has_binary : OpCode → Bool
has_binary operation = is_some (binary_form operation)

abbrev pub AreValued : List Arg → Type 0
AreValued [] = Unit {0}
AreValued (a ∷ more) = (has_value a ≡ true) × AreValued more

-- an operation of words or of references
abbrev pub IsPlainHere : OpCode → Option BoxId → List Arg → Type 0
IsPlainHere operation (Some r) (a ∷ []) = IsTrue (has_unary operation)
IsPlainHere operation (Some r) (a ∷ b ∷ []) = IsTrue (has_binary operation)
IsPlainHere operation r args = ⊥

-- an operation on an object
abbrev pub IsAccess : Table → Access → Option BoxId → List Arg → Descr → Type 0
IsAccess t access.GetField (Some r) (a ∷ []) (descr.Field f) = spot_offset t (spot.Field f) < 2 ^ 31
IsAccess t access.SetField None (a ∷ b ∷ []) (descr.Field f) = spot_offset t (spot.Field f) < 2 ^ 31
IsAccess t access.GetItem (Some r) (a ∷ i ∷ []) (descr.Array x) = Unit {0}
IsAccess t access.SetItem None (a ∷ i ∷ b ∷ []) (descr.Array x) = Unit {0}
IsAccess t access.Length (Some r) (a ∷ []) (descr.Array x) = Unit {0}
IsAccess t form r args d = ⊥

abbrev pub IsPlain : Table → OpCode → Option Access → Option BoxId → List Arg → Descr → Type 0
IsPlain t operation None r args d = IsPlainHere operation r args
IsPlain t operation (Some form) r args d = IsAccess t form r args d

-- a guard on words, references, overflow or classes; no call raises, so that a guard on an exception passes
abbrev pub IsGuardHere : OpCode → List Arg → Type 0
IsGuardHere code.GuardTrue (a ∷ []) = Unit {0}
IsGuardHere code.GuardFalse (a ∷ []) = Unit {0}
IsGuardHere code.GuardValue (a ∷ b ∷ []) = Unit {0}
IsGuardHere code.GuardNonnull (a ∷ []) = Unit {0}
IsGuardHere code.GuardIsnull (a ∷ []) = Unit {0}
IsGuardHere code.GuardClass (a ∷ Class n ∷ []) = has_value a ≡ true
IsGuardHere code.GuardNonnullClass (a ∷ Class n ∷ []) = has_value a ≡ true
IsGuardHere code.GuardNoOverflow args = Unit {0}
IsGuardHere code.GuardOverflow args = Unit {0}
IsGuardHere code.GuardNoException args = Unit {0}
IsGuardHere operation args = ⊥

-- a class has no value
abbrev pub AreGuarded : OpCode → List Arg → Type 0
AreGuarded code.GuardClass args = Unit {0}
AreGuarded code.GuardNonnullClass args = Unit {0}
AreGuarded operation args = AreValued args

-- the moves bring a jump's arguments to the label's places at once
pub record AreMoved (c : Setting) (args : List Arg) : Type 0 where
  pub count : length args ≡ length c.to
  pub lawful : (p : Place) (i : ℕ) → slice_get c.to i ≡ Some p → MayHold p
  pub distinct : (i j : ℕ) (p q : Place) → i < j → slice_get c.to i ≡ Some p → slice_get c.to j ≡ Some q → p ≢ q
  pub acts : (words : moving.State) (p : Place) → after c.moves words p ≡ at_once (pairs_of c args c.to) words p
  pub among : moving.MovesAmong (pairs_of c args c.to) c.moves
  pub few : length c.moves ≤ length (pairs_of c args c.to)

abbrev pub IsHere : Setting → Told → OptOp → Type 0
IsHere c told (opt.Plain operation r args d) = IsPlain c.table operation (access_form operation) r args d × AreValued args
IsHere c told (opt.Guard operation args n snap) =
    IsGuardHere operation args × AreGuarded operation args × (IsTrue (reads_overflow operation) → told ≡ tell.Overflow)
IsHere c told (opt.Exit n snap) = Unit {0}
IsHere c told (opt.Jump to args) = AreMoved c args × AreValued args
IsHere c told (opt.Finish a) = AreValued (finished a)

-- fields are listed by their own size, and shapes are few
pub record TableServes (t : Table) : Type 0 where
  pub lists : ListsItsFields t
  pub few : length t.shapes ≤ 1024

abbrev pub CodeFollows : Type 0
CodeFollows =
    (c : Setting) (k : ℕ) (told : Told) (op : OptOp) (ops : List OptOp) (env : Opt) (more : List Slot) (p : ℕ) (s : State)
    → TableServes c.table → ((b : ℕ) → MayHold (c.at b)) → IsApart c.at op ops → HasWords c.table op → IsHere c told op
    → Holds c told (op ∷ ops) env s → s.at ≡ 0x40000000 + p
    → Follows (Counts (loads_of op env) (stores_of op env) s) c k told op ops more p s (opt_step c.table op env)
