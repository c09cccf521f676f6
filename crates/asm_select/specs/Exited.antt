-- How a run leaves a piece's code: by a jump to where it leads now, and, where that is a stub, by the common exit.
use Rattle.std.specs.Prelude.{◌≡◌, ℕ, ◌+◌, ◌^◌, ◌<◌, ◌≤◌, ℤ, pos, negsuc, List, [], ◌∷◌, length, slice_index_or}
use Rattle.std.specs.List.{All, AllZip}
use Rattle.trace_ops.specs.declared.trace.BoxId.{BoxId}
use Rattle.trace_ops.specs.declared.piece.OptOp.{OptOp}
use Rattle.trace_ops.specs.declared.piece.OptOp.TheVariants as opt
use Rattle.trace_ops.specs.Parts.{parts_of}
use Rattle.trace_meaning.specs.declared.value.Value.{Value}
use Rattle.trace_meaning.specs.World.{World, failed}
use Rattle.trace_meaning.specs.Legs.{Leave, Fails, Jumps}
use Rattle.opt_meaning.specs.Step.{opt_begin}
use Rattle.arena_objects.specs.Layout.{address_of}
use Rattle.arena_objects.specs.Standing.{Stands}
use Rattle.guard_exit.specs.Codes.{register, stub_code, common_code}
use Rattle.x64_encode.specs.declared.instr.AluOp.TheVariants as alu
use Rattle.x64_encode.specs.declared.instr.Instr.{Instr}
use Rattle.x64_encode.specs.declared.instr.Instr.TheVariants.{AluImm}
use Rattle.target_base.specs.declared.place.Place.{Place}
use Rattle.target_base.specs.declared.place.Place.TheVariants.{In, Word}
use Rattle.x64_machine.specs.declared.state.Stop.TheVariants.{Returned}
use Rattle.x64_machine.specs.declared.state.Turn.TheVariants.{Went}
use Rattle.trace_ops.specs.Words.{IsWord}
use Rattle.x64_machine.specs.Start.{IsStart}
use Rattle.x64_machine.specs.Running.{Along}
use Rattle.x64_machine.specs.State.{State, acted, stops, target}
use Rattle.x64_machine.specs.Step.{MachineStep}
use Rattle.asm_select.specs.declared.told.Told.TheVariants as tell
use Rattle.asm_select.specs.Slots.{Slot, Put, Go, Lists, puts, size_of, sizes_of}
use Rattle.asm_select.specs.Slots as slot
use Rattle.asm_select.specs.Valued.{value, MayHold, IsFit}
use Rattle.asm_select.specs.Chosen.{Setting}
use Rattle.asm_select.specs.Reached.{Reach, PrebuiltsStand, Holds, SameArena}
use Rattle.asm_select.specs.Ended.{IsTaken, BoxesStand, PlacesStand, LeavesWith, AreParts, world_of, values_of, Counts, ComesTo}
use Rattle.asm_select.specs.Asked.{IsAmong, Path, call_size}
use Rattle.x64_encode.specs.declared.instr.Instr.TheVariants as instr
use Rattle.x64_encode.specs.Listing.{Stands as StandsInCode}

-- ---- stubs

-- where a word is found after the common exit: that of a register in the frame word of its number
abbrev pub saved_at : State → Place → ℤ
saved_at t (In r) = value t (Word r.0)
saved_at t (Word k) = value t (Word k)

-- From a stub at ps a run comes to the return at the end of the common exit at pc, in every code in which both stand.
pub record Exits (ps pc exit : ℕ) (to : ℤ) (u : State) : Type 0 where
  pub path : List State
  pub few : length path ≤ 15
  pub t : State
  pub along : (by : slot.Jumps) (code : List ℕ) → length code < 2 ^ 32 → Lists by code ps (puts (stub_code to exit)) → Lists by code pc (puts common_code) → Along code path u t
  pub returned : (by : slot.Jumps) (code : List ℕ) → length code < 2 ^ 32 → Lists by code pc (puts common_code) → MachineStep code t (stops Returned t)
  pub number : value t (In (register 0)) ≡ pos exit
  pub places : (p : Place) → MayHold p → saved_at t p ≡ value u p
  pub same : SameArena u t

abbrev pub StubExits : Type 0
StubExits =
    (ps pc exit : ℕ) (to : ℤ) (u : State) → exit < 2 ^ 32 → IsFit u → u.at ≡ 0x40000000 + ps → target (0x40000000 + (ps + sizes_of (puts (stub_code to exit)))) to ≡ 0x40000000 + pc → Exits ps pc exit to u

-- ---- jumps that are taken

-- an operation's jump, at a place, leads to a place
abbrev pub LeadsTo : slot.Jumps → (ℕ → ℕ) → ℕ → Slot → Type 0
LeadsTo by to p (Put i) = Unit {0}
LeadsTo by to p (slot.Leave cond k) = target (0x40000000 + (p + 6)) (by k) ≡ 0x40000000 + to k
LeadsTo by to p (Go k) = target (0x40000000 + (p + 5)) (by k) ≡ 0x40000000 + to k

-- and so does each jump of the slots from a place on
abbrev pub AllLead : slot.Jumps → (ℕ → ℕ) → ℕ → List Slot → Type 0
AllLead by to p [] = Unit {0}
AllLead by to p (x ∷ xs) = LeadsTo by to p x × AllLead by to (p + size_of x) xs

-- one instruction leads to a place, and changes nothing else
pub record Enters (code : List ℕ) (t : State) (place : ℕ) : Type 0 where
  pub u : State
  pub made : MachineStep code t (acted Went u)
  pub at : u.at ≡ 0x40000000 + place
  pub values : (q : Place) → value u q ≡ value t q
  pub flags : u.flags ≡ t.flags
  pub same : SameArena t u
  pub fit : IsFit t → IsFit u

abbrev pub JumpsEnter : Type 0
JumpsEnter =
    (by : slot.Jumps) (code : List ℕ) (to : ℕ → ℕ) (q k : ℕ) (x : Slot) (rest : List Slot) (t : State)
    → length code < 2 ^ 32 → Lists by code q (x ∷ rest) → LeadsTo by to q x → IsTaken k x t → t.at ≡ 0x40000000 + q → Enters code t (to k)

-- A run over some slots of a piece comes to where the jump of the operation that is left leads now, as it is left.
pub record Lands (loads stores : ℕ) (c : Setting) (k : ℕ) (ops : List OptOp) (xs : List Slot) (code : List ℕ) (to : ℕ → ℕ) (s : State) (l : Leave) : Type 0 where
  pub key : ℕ
  pub op : OptOp
  pub among : IsAmong k ops key op
  pub path : List State
  pub few : length path ≤ length xs
  pub u : State
  pub along : Along code path s u
  pub at : u.at ≡ 0x40000000 + to key
  pub fit : IsFit u
  pub arena : Stands c.table (world_of l).objects u.arena
  pub prebuilts : PrebuiltsStand c.table (world_of l).objects
  pub parts : AreParts (length (world_of l).objects) (values_of l)
  pub with : LeavesWith c op l u
  pub counts : Counts loads stores s u

abbrev pub PieceLands : Type 0
PieceLands =
    (loads stores : ℕ) (c : Setting) (k : ℕ) (ops : List OptOp) (xs : List Slot) (by : slot.Jumps) (code : List ℕ) (to : ℕ → ℕ) (p : ℕ) (s : State) (key : ℕ) (op : OptOp) (l : Leave)
    → IsAmong k ops key op → ComesTo (Counts loads stores s) c key op xs p s l → length code < 2 ^ 32 → Lists by code p xs → AllLead by to p xs
    → Lands loads stores c k ops xs code to s l

-- In a code in which a stretch stands and leads, so do the call at which it stops, and what is behind the call.
abbrev pub StretchesGoOn : Type 0
StretchesGoOn =
    (by : slot.Jumps) (code : List ℕ) (to : ℕ → ℕ) (p q : ℕ) (xs rest : List Slot) (s u : State)
    → Path p xs s (Put (instr.CallReg (register 11)) ∷ rest) q u → Lists by code p xs → AllLead by to p xs
    → StandsInCode code q (instr.CallReg (register 11)) × Lists by code (q + call_size) rest × AllLead by to (q + call_size) rest

-- ---- entries

-- where the values of a label stand at its places, the piece may begin
abbrev pub LabelHolds : Type 0
LabelHolds =
    (c : Setting) (label : List BoxId) (ops : List OptOp) (vs : List Value) (w : World) (t : State)
    → IsFit t → Stands c.table w.objects t.arena → PrebuiltsStand c.table w.objects → AreParts (length w.objects) vs
    → BoxesStand c.at (address_of w.objects) t label vs → Holds c tell.Nothing ops (opt_begin label vs w) t

-- the places to which a jump brings its values are those of the label
abbrev pub LabelStands : Type 0
LabelStands =
    (c : Setting) (to : List Place) (label : List BoxId) (addresses : ℕ → ℕ) (vs : List Value) (t : State)
    → AllZip (λ (p : Place) (b : BoxId). c.at b.number ≡ p) to label → PlacesStand addresses t to vs → BoxesStand c.at addresses t label vs

-- the boxes of an operation's snapshot, each once
abbrev pub shown_by : OptOp → List BoxId
shown_by (opt.Guard operation args n snap) = parts_of snap
shown_by (opt.Exit n snap) = parts_of snap
shown_by op = []

-- A jump that has landed at another piece of the same table, the places of whose label are `c.to`, begins that piece.
abbrev pub JumpBegins : Type 0
JumpBegins =
    (loads stores : ℕ) (c d : Setting) (k : ℕ) (ops next : List OptOp) (xs : List Slot) (code : List ℕ) (to : ℕ → ℕ) (s : State) (label : List BoxId) (vs : List Value) (w : World)
    → (f : Lands loads stores c k ops xs code to s (Jumps vs w)) → d.table ≡ c.table
    → AllZip (λ (p : Place) (b : BoxId). d.at b.number ≡ p) c.to label → Holds d tell.Nothing next (opt_begin label vs w) f.u

-- So does a guard that has failed, at a piece whose label has a box for each of the guard's, at the same place.
abbrev pub BridgeBegins : Type 0
BridgeBegins =
    (loads stores : ℕ) (c d : Setting) (k n : ℕ) (ops next : List OptOp) (xs : List Slot) (code : List ℕ) (to : ℕ → ℕ) (s : State) (label : List BoxId) (vs : List Value) (w : World)
    → (f : Lands loads stores c k ops xs code to s (Fails n vs w)) → d.table ≡ c.table
    → AllZip (λ (a b : BoxId). d.at b.number ≡ c.at a.number) (shown_by f.op) label → Holds d tell.Nothing next (opt_begin label vs (failed w)) f.u

-- the first instruction of a loop: rbp goes on to frame word 16, so that words 0 to 31 have short displacements
abbrev pub entry_instr : Instr
entry_instr = AluImm alu.Sub (register 5) (negsuc 127)

-- behind it a machine is fit for code, with the inputs from frame word 16 on
abbrev pub StartFits : Type 0
StartFits =
    (arena_bytes : ℕ) (prebuilt : List ℤ) (entry : ℕ) (inputs : List ℤ) (ys : List Slot) (s : State)
    → IsStart arena_bytes prebuilt entry inputs s → length inputs ≤ 64 → All IsWord inputs
    → Reach entry (Put entry_instr ∷ ys) s ys (λ t. IsFit t × SameArena s t × ((k : ℕ) → k < length inputs → value t (Word (16 + k)) ≡ slice_index_or inputs k (pos 0)))
