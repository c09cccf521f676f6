-- The model of a printed image: slots and displacements, the pieces that stand in them, and where each jump leads.
use Rattle.std.specs.Prelude.{◌≡◌, ℕ, ◌+◌, ◌^◌, ◌<◌, ◌≤◌, ℤ, pos, List, ◌∷◌, ◌++◌, length, Option, Some, None, true, ◌⊎◌}
use Rattle.std.specs.List.{Contains, AllByRecursion}
use Rattle.lists.specs.Has.{Has}
use Rattle.x64_machine.specs.declared.state.Stop.TheVariants.{Returned}
use Rattle.x64_machine.specs.State.{State, reg, stops, target}
use Rattle.x64_machine.specs.Step.{MachineStep}
use Rattle.asm_select.specs.Slots.{Slot, Put, Leave, Go, Jumps, Lists, HaveRows, bytes_of, sizes_of, size_of, puts}
use Rattle.x64_machine.specs.Running.{Along}
use Rattle.guard_exit.specs.Codes.{stub_code, common_code}
use Rattle.trace_meaning.specs.declared.value.Value.{Value}
use Rattle.trace_meaning.specs.World.{World, failed}
use Rattle.trace_meaning.specs.Legs.{Leave as Left, Fails, Jumps as Jumping_off}
use Rattle.trace_ops.specs.declared.piece.PieceId.{PieceId}
use Rattle.trace_ops.specs.declared.piece.OptOp.{OptOp}
use Rattle.image_runs.specs.Bridges.{attached_piece}
use Rattle.guard_exit.specs.declared.row.ExitRow.{ExitRow}
use Rattle.image_runs.specs.Counted.{IsGuards}
use Rattle.image_runs.specs.Session.{Calls}
use Rattle.image_runs.specs.Reached.{Comes, IsSpot, IsJumpOf}
use Rattle.image_runs.specs.Selection.{Exit, Guarded, Jumping, Finishing, Inside, Model, Placed, joined, code_of, start_of, PieceDoes, exit_of}
use Rattle.opt_meaning.specs.Pieces.{jump_target, ops_at, begin_at, bridge_piece}
use Rattle.trace_meaning.specs.Cuts.{is_bridge_of}

-- keys are global: operation k of a piece with first key b has key b + k
pub record Image : Type 0 where
  pub slots : List Slot
  pub by : Jumps
  pub placed : List Placed
  pub exit : ℕ → Exit  -- of each key
  pub owner : ℕ → PieceId  -- the piece of each key
  pub number : ℕ → ℕ  -- the exit's number
  pub stub : ℕ → ℕ
  pub leap : ℕ → ℤ
  pub common : ℕ

-- the bytes
abbrev pub code_in : Image → List ℕ
code_in g = bytes_of g.by g.slots

-- these slots stand at this offset
abbrev pub HasSlots : List Slot → ℕ → List Slot → Type 0
HasSlots slots p xs = (before : List Slot) × (behind : List Slot) × (slots ≡ before ++ (xs ++ behind)) × (p ≡ sizes_of before)

-- the state behind a jump
abbrev pub moved : ℕ → State → State
moved n t = record t { at = n; instructions = t.instructions + 1 }

-- from a stub a run comes to the return
pub record Exits (m : Model) (q : PieceId) (j : ℕ) (l : Left) (c : Calls) (ps pc exit : ℕ) (to : ℤ) (u : State) : Type 0 where
  pub path : List State
  pub few : length path ≤ 15
  pub t : State
  pub spots : m.followed → AllByRecursion (λ (x : State). IsSpot ps (puts (stub_code to exit)) x ⊎ IsSpot pc (puts common_code) x) path
  pub along : (by : Jumps) (code : List ℕ) → length code < 2 ^ 32 → Lists by code ps (puts (stub_code to exit)) → Lists by code pc (puts common_code) → Along code path u t
  pub returned : (by : Jumps) (code : List ℕ) → length code < 2 ^ 32 → Lists by code pc (puts common_code) → MachineStep code t (stops Returned t)
  pub number : reg t (record { 0 = 0 }) ≡ pos exit
  pub gone : m.gone q j l c t

-- an exit's jump leads to its stub, which leads to the common exit
pub record ToStub (m : Model) (g : Image) (pl : Placed) (j next : ℕ) : Type 0 where
  pub goes : target next (g.by (pl.key + j)) ≡ 0x40000000 + g.stub (pl.key + j)
  pub here : HasSlots g.slots (g.stub (pl.key + j)) (puts (stub_code (g.leap (pl.key + j)) (g.number (pl.key + j))))
  pub exits : (l : Left) (c : Calls) (n : ℕ) (t : State) → m.left pl.id j l c t → n ≡ 0x40000000 + g.stub (pl.key + j)
      → Exits m pl.id j l c (g.stub (pl.key + j)) g.common (g.number (pl.key + j)) (g.leap (pl.key + j)) (moved n t)

-- a guard's jump leads to the entry moves of the bridge's piece of the same half
pub record ToBridge (m : Model) (g : Image) (pl : Placed) (j n : ℕ) (r : PieceId) (next : ℕ) : Type 0 where
  pub to : Placed
  pub there : Contains g.placed to
  pub named : to.id ≡ r
  pub goes : target next (g.by (pl.key + j)) ≡ 0x40000000 + to.at
  pub enters : (vs : List Value) (w : World) (c : Calls) (a : ℕ) (t : State) → m.left pl.id j (Fails n vs w) c t → a ≡ 0x40000000 + to.at
      → Comes m.followed to.at (code_of to) (moved a t) (joined to.codes) (λ u. m.holds to.id 0 (begin_at m.pieces to.id vs (failed w)) c u)

-- a jump leads to its target's first operation
pub record ToPiece (m : Model) (g : Image) (pl : Placed) (j next : ℕ) : Type 0 where
  pub to : Placed
  pub there : Contains g.placed to
  pub named : to.id ≡ jump_target m.pieces pl.id
  pub goes : target next (g.by (pl.key + j)) ≡ 0x40000000 + start_of to
  pub enters : (vs : List Value) (w : World) (c : Calls) (a : ℕ) (t : State) → m.left pl.id j (Jumping_off vs w) c t → a ≡ 0x40000000 + start_of to
      → m.holds to.id 0 (begin_at m.pieces to.id vs w) c (moved a t)

-- to the stub, or to the piece of the bridge that is attached
abbrev pub GuardLeads : Model → Image → Placed → ℕ → ℕ → ℕ → Option PieceId → Type 0
GuardLeads m g pl j n next None = ToStub m g pl j next
GuardLeads m g pl j n next (Some r) = ToBridge m g pl j n r next

-- where the jump of operation j leads, when these bridges are attached
abbrev pub Leads : Model → Image → List ℕ → Placed → ℕ → ℕ → Exit → Type 0
Leads m g bs pl j next (Guarded n) = GuardLeads m g pl j n next (attached_piece m.set.traces m.pieces bs pl.id n)
Leads m g bs pl j next Jumping = ToPiece m g pl j next
Leads m g bs pl j next Finishing = ToStub m g pl j next
Leads m g bs pl j next Inside = Unit {0}

-- the piece stands in the code, its keys are told, and each of its jumps leads where it should
pub record IsPlaced (m : Model) (g : Image) (bs : List ℕ) (pl : Placed) : Type 0 where
  pub here : HasSlots g.slots pl.at (code_of pl)
  pub does : PieceDoes m pl
  pub exits : (done rest : List OptOp) (op : OptOp) → ops_at m.pieces pl.id ≡ done ++ op ∷ rest → (g.exit (pl.key + length done) ≡ exit_of op) × (g.owner (pl.key + length done) ≡ pl.id)
  pub leads : (done rest : List OptOp) (op : OptOp) (front behind : List Slot) (x : Slot) → ops_at m.pieces pl.id ≡ done ++ op ∷ rest
      → g.slots ≡ front ++ x ∷ behind → IsJumpOf x (pl.key + length done)
      → Leads m g bs pl (length done) (0x40000000 + (sizes_of front + size_of x)) (exit_of op)

-- the displacement's place in a jump
abbrev pub disp_in : Slot → ℕ
disp_in (Put i) = 0
disp_in (Leave cond e) = 2
disp_in (Go e) = 1

-- a slot that is the jump of a key
pub record JumpAt (g : Image) (e : ℕ) : Type 0 where
  pub front : List Slot
  pub slot : Slot
  pub behind : List Slot
  pub split : g.slots ≡ front ++ slot ∷ behind
  pub jump : IsJumpOf slot e

-- the exit's row says its number, its piece and its guard
abbrev pub RowOf : Image → List ExitRow → ℕ → Option ℕ → ExitRow → Type 0
RowOf g rows e guard row = Contains rows row × (row.exit ≡ g.number e) × (row.id ≡ g.owner e) × (row.guard ≡ guard)

-- the rows are those of the guards' and the finishes' jumps, and say the place of a guard's displacement
pub record RowsAre (g : Image) (rows : List ExitRow) : Type 0 where
  pub each : (row : ExitRow) → Contains rows row → IsGuards row → (e n : ℕ) × (x : JumpAt g e) × (row.at ≡ sizes_of x.front + disp_in x.slot) × (g.exit e ≡ Guarded n)
  pub guards : (e n : ℕ) (x : JumpAt g e) → g.exit e ≡ Guarded n → (row : ExitRow) × (row.at ≡ sizes_of x.front + disp_in x.slot) × RowOf g rows e (Some n) row
  pub finishes : (e : ℕ) → JumpAt g e → g.exit e ≡ Finishing → (row : ExitRow) × RowOf g rows e None row
  pub one : (a b : ExitRow) → Contains rows a → Contains rows b → a.exit ≡ b.exit → a ≡ b

-- there is a piece of this name
abbrev pub IsHere : Image → PieceId → Type 0
IsHere g q = (pl : Placed) × Contains g.placed pl × (pl.id ≡ q)

-- what is here leads to what is here
pub record IsClosed (m : Model) (g : Image) (bs : List ℕ) : Type 0 where
  pub targets : (q : PieceId) → IsHere g q → IsHere g (jump_target m.pieces q)
  pub bridges : (q r : PieceId) (n b : ℕ) → IsHere g q → Has bs b → is_bridge_of m.set.traces q.trace n b ≡ true → bridge_piece m.pieces q.half b ≡ Some r → IsHere g r

-- The bytes, the pieces, the rows and the jumps belong together, when these bridges are attached.
pub record IsImage (m : Model) (g : Image) (bs : List ℕ) (rows : List ExitRow) : Type 0 where
  pub have : HaveRows g.by g.slots
  pub small : length (code_in g) < 2 ^ 32
  pub pieces : (pl : Placed) → Contains g.placed pl → IsPlaced m g bs pl
  pub common : HasSlots g.slots g.common (puts common_code)
  pub rows_are : RowsAre g rows
  pub closed : IsClosed m g bs
