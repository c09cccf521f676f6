-- Where an activation stands, beside the run of its pieces. Paths are data and the same for all displacements and for all code
-- that lists the slots, so an attachment changes nothing in them.
use Rattle.std.specs.Prelude.{◌≡◌, ℕ, ◌+◌, ◌^◌, ◌<◌, ◌≤◌, pos, List, [], ◌∷◌, ◌++◌, length}
use Rattle.std.specs.List.{Contains, AllByRecursion}
use Rattle.target_base.specs.declared.reg.Reg.{Reg}
use Rattle.x64_encode.specs.declared.instr.Instr.TheVariants.{CallReg}
use Rattle.x64_machine.specs.declared.state.Stop.TheVariants.{Returned}
use Rattle.x64_machine.specs.State.{State, reg, stops}
use Rattle.x64_machine.specs.Step.{MachineStep}
use Rattle.asm_select.specs.Slots.{Slot, Put, Jumps, Lists, size_of, sizes_of}
use Rattle.x64_machine.specs.Running.{Along}
use Rattle.trace_meaning.specs.Legs.{Leave, Off, In, Over}
use Rattle.opt_meaning.specs.Pieces.{PiecesNow}
use Rattle.trace_ops.specs.declared.piece.OptOp.{OptOp}
use Rattle.opt_meaning.specs.Step.{Opt, opt_step}
use Rattle.image_runs.specs.Session.{Calls}
use Rattle.image_runs.specs.Reached.{IsSpot}
use Rattle.asm_select.specs.Ended.{IsTaken}
use Rattle.image_runs.specs.Selection.{Model, Placed, At, AtCall, LeaveIs, EndsAs, joined, start_of, ended, exit_of}
use Rattle.image_runs.specs.Image.{Image, HasSlots, JumpAt}
use Rattle.opt_meaning.specs.Pieces.{ops_at}

-- the machine goes along the path, whatever the displacements are
abbrev pub Way : List Slot → List State → State → State → Type 0
Way slots path s t = (by : Jumps) (code : List ℕ) → length code < 2 ^ 32 → Lists by code 0 slots → Along code path s t

-- On the way to the front of an operation: on the path of the one before, behind its call, or on a bridge's entry moves.
-- Not more instructions than todo are to come in this leg.
pub record Walking (m : Model) (g : Image) (x : PiecesNow) (c : Calls) (s : State) (path : List State) (todo : ℕ) : Type 0 where
  pub pl : Placed
  pub there : Contains g.placed pl
  pub rest : List OptOp
  pub env : Opt
  pub now : x ≡ In pl.id rest env
  pub some : (op : OptOp) × (ops : List OptOp) × (rest ≡ op ∷ ops)
  pub spot : At m pl rest
  pub t : State
  pub way : Way g.slots path s t
  pub spots : m.followed → AllByRecursion (IsSpot 0 g.slots) (s ∷ path)
  pub at : t.at ≡ 0x40000000 + (start_of pl + sizes_of (joined spot.before))
  pub holds : m.holds pl.id (length spot.before) env c t
  pub few : length path + length (joined spot.more) ≤ todo

-- on the way to the slot at which an operation is left
pub record Leaving (m : Model) (g : Image) (x : PiecesNow) (c : Calls) (s : State) (path : List State) (todo : ℕ) : Type 0 where
  pub pl : Placed
  pub there : Contains g.placed pl
  pub op : OptOp
  pub rest : List OptOp
  pub env : Opt
  pub now : x ≡ In pl.id (op ∷ rest) env
  pub done : List OptOp
  pub ops : ops_at m.pieces pl.id ≡ done ++ op ∷ rest
  pub leave : Leave
  pub off : opt_step m.set.table op env ≡ Off leave
  pub told : m.called env.world c
  pub kind : LeaveIs (exit_of op) leave
  pub front : List Slot
  pub slot : Slot
  pub behind : List Slot
  pub split : g.slots ≡ front ++ slot ∷ behind
  pub t : State
  pub way : Way g.slots path s t
  pub spots : m.followed → AllByRecursion (IsSpot 0 g.slots) (s ∷ path)
  pub at : t.at ≡ 0x40000000 + sizes_of front
  pub taken : IsTaken (pl.key + length done) slot t
  pub left : m.left pl.id (length done) leave c t
  pub few : length path + 1 ≤ todo

-- on the way to a call
pub record Calling (m : Model) (g : Image) (x : PiecesNow) (c : Calls) (s : State) (path : List State) (todo : ℕ) : Type 0 where
  pub pl : Placed
  pub there : Contains g.placed pl
  pub op : OptOp
  pub rest : List OptOp
  pub env : Opt
  pub now : x ≡ In pl.id (op ∷ rest) env
  pub done : List OptOp
  pub before : List (List Slot)
  pub xs : List Slot
  pub more : List (List Slot)
  pub ops : ops_at m.pieces pl.id ≡ done ++ op ∷ rest
  pub codes : pl.codes ≡ before ++ xs ∷ more
  pub same : length done ≡ length before
  pub ahead : length rest ≡ length more
  pub told : m.called env.world c
  pub register : Reg
  pub behind : List Slot
  pub t : State
  pub q : ℕ
  pub way : Way g.slots path s t
  pub spots : m.followed → AllByRecursion (IsSpot 0 g.slots) (s ∷ path)
  pub at : t.at ≡ 0x40000000 + q
  pub stands : HasSlots g.slots q (Put (CallReg register) ∷ behind)
  pub meets : q + (size_of (Put (CallReg register)) + sizes_of behind) ≡ start_of pl + (sizes_of (joined (before ++ xs ∷ [])) + sizes_of (joined more))
  pub call : AtCall m pl (length before) register behind (joined more) env.world (opt_step m.set.table op env) c q t
  pub few : length path + (1 + length behind) ≤ todo

-- in a stub or in the common exit, on the way to the return
pub record Returning (m : Model) (g : Image) (x : PiecesNow) (c : Calls) (s : State) (path : List State) (todo : ℕ) : Type 0 where
  pub pl : Placed
  pub there : Contains g.placed pl
  pub op : OptOp
  pub rest : List OptOp
  pub done : List OptOp
  pub ops : ops_at m.pieces pl.id ≡ done ++ op ∷ rest
  pub leave : Leave
  pub kind : EndsAs (exit_of op) leave
  pub now : x ≡ Over pl.id (ended leave)
  pub t : State
  pub way : Way g.slots path s t
  pub spots : m.followed → AllByRecursion (IsSpot 0 g.slots) (s ∷ path)
  pub returned : (by : Jumps) (code : List ℕ) → length code < 2 ^ 32 → Lists by code 0 g.slots → MachineStep code t (stops Returned t)
  pub jump : JumpAt g (pl.key + length done)
  pub number : reg t (record { 0 = 0 }) ≡ pos (g.number (pl.key + length done))
  pub gone : m.gone pl.id (length done) leave c t
  pub few : length path + 1 ≤ todo

-- one of the four
pub data Stands (m : Model) (g : Image) (x : PiecesNow) (c : Calls) (s : State) (path : List State) (todo : ℕ) : Type 0 where
  Walks : Walking m g x c s path todo → Stands m g x c s path todo
  Leaves : Leaving m g x c s path todo → Stands m g x c s path todo
  Asks : Calling m g x c s path todo → Stands m g x c s path todo
  Returns : Returning m g x c s path todo → Stands m g x c s path todo
