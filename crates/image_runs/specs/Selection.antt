-- What selection shows of a piece's code. What holds in front of an operation, where it is left, and what is found after a
-- return are relations that the argument about events never looks into.
use Rattle.std.specs.Prelude.{◌≡◌, ℕ, ◌+◌, ◌-◌, ◌^◌, ◌<◌, ◌⊎◌, List, [], ◌∷◌, ◌++◌, length}
use Rattle.target_base.specs.declared.reg.Reg.{Reg}
use Rattle.x64_encode.specs.declared.instr.Instr.TheVariants.{CallReg}
use Rattle.x64_machine.specs.declared.state.Stop.TheVariants.{HostCall}
use Rattle.x64_machine.specs.declared.state.Turn.TheVariants.{Stopped}
use Rattle.x64_machine.specs.State.{State, acted}
use Rattle.x64_machine.specs.Step.{MachineStep}
use Rattle.asm_select.specs.Slots.{Slot, Put, Jumps, Lists, size_of, sizes_of}
use Rattle.trace_meaning.specs.World.{World, failed}
use Rattle.trace_meaning.specs.Legs.{Leave, Fails, Jumps as Jumping_off, Finishes, Waits, Misfits, Wrong, Turn, On, Off}
use Rattle.trace_ops.specs.declared.piece.PieceId.{PieceId}
use Rattle.trace_ops.specs.declared.piece.OptOp.{OptOp}
use Rattle.opt_meaning.specs.Step.{Opt, opt_step}
use Rattle.trace_ops.specs.declared.trace.TraceSet.{TraceSet}
use Rattle.trace_ops.specs.declared.piece.Piece.{Piece}
use Rattle.trace_ops.specs.declared.piece.OptOp.TheVariants as opt
use Rattle.trace_meaning.specs.Observed.{world_left}
use Rattle.opt_meaning.specs.Pieces.{ops_at}
use Rattle.image_runs.specs.Session.{Calls, Answered, Resumes, Stops, End, Waiting, Misfitting, Full, Host}
use Rattle.image_runs.specs.Reached.{Comes}
use Rattle.asm_select.specs.Ended.{IsTaken}

-- How a piece is left at an operation: at a guard, which may hold or is none, at its jump, or at its finish.
pub data Exit : Type 0 where
  Guarded : (guard : ℕ) → Exit
  Jumping : Exit
  Finishing : Exit
  Inside : Exit

-- of an operation
abbrev pub exit_of : OptOp → Exit
exit_of (opt.Plain operation result args d) = Inside
exit_of (opt.Guard operation args n snap) = Guarded n
exit_of (opt.Exit n snap) = Guarded n
exit_of (opt.Jump to args) = Jumping
exit_of (opt.Finish value) = Finishing

-- a guard that fails for good has counted its failure
abbrev pub ended : Leave → Leave
ended (Fails n vs w) = Fails n vs (failed w)
ended l = l

-- The traces of a set and the pieces that are made of them, the host, and what selection says of places.
pub record Model : Type 1 where
  pub set : TraceSet
  pub pieces : List Piece
  pub host : Host
  -- the instruction pointer is followed: selection says that each state of a path stands in front of or behind a slot
  pub followed : Type 0
  -- in front of operation j the boxes, the flags and the arena stand
  pub holds : PieceId → ℕ → Opt → Calls → State → Type 0
  -- at the slot of operation j, which is left so: the snapshot's boxes, the label's or the finish's value stand
  pub left : PieceId → ℕ → Leave → Calls → State → Type 0
  -- at the return: they are found where the row says
  pub gone : PieceId → ℕ → Leave → Calls → State → Type 0
  -- more bytes are asked for than are left, where an operation that begins in this world and turns out so has called the host
  pub fills : World → Turn Opt → State → (asked left : ℕ) → Type 0
  -- the host's calls are those of the world, and each of these says so
  pub called : World → Calls → Type 0
  pub tells : (q : PieceId) (j : ℕ) (env : Opt) (c : Calls) (s : State) → holds q j env c s → called env.world c
  pub tells_gone : (q : PieceId) (j : ℕ) (l : Leave) (c : Calls) (s : State) → gone q j l c s → called (world_left (ended l)) c

-- A piece in the code: its offset, the key of its first operation, the instructions by which it is entered (a bridge's moves from
-- the guard's places, or what a loop begins with), and the slots of each operation.
pub record Placed : Type 0 where
  pub id : PieceId
  pub at : ℕ
  pub key : ℕ
  pub moves : List Slot
  pub codes : List (List Slot)

-- the slots of all operations
abbrev pub joined : List (List Slot) → List Slot
joined [] = []
joined (x ∷ xs) = x ++ joined xs

-- the slots of the piece
abbrev pub code_of : Placed → List Slot
code_of pl = pl.moves ++ joined pl.codes

-- where its first operation stands
abbrev pub start_of : Placed → ℕ
start_of pl = pl.at + sizes_of pl.moves

-- an operation of this kind is left so
abbrev pub LeaveIs : Exit → Leave → Type 0
LeaveIs (Guarded n) (Fails m vs w) = m ≡ n
LeaveIs Jumping (Jumping_off vs w) = Unit {0}
LeaveIs Finishing (Finishes vs w) = Unit {0}
LeaveIs e l = ⊥

-- the run of pieces can end so
abbrev pub EndsAs : Exit → Leave → Type 0
EndsAs (Guarded n) (Fails m vs w) = m ≡ n
EndsAs Finishing (Finishes vs w) = Unit {0}
EndsAs e l = ⊥

-- The run comes to a slot of operation j, which is taken, as the operation is left.
pub record ComesOff (m : Model) (pl : Placed) (j : ℕ) (op : OptOp) (xs : List Slot) (p : ℕ) (s : State) (c : Calls) (l : Leave) : Type 0 where
  pub slot : Slot
  pub behind : List Slot
  pub reach : Comes m.followed p xs s (slot ∷ behind) (λ t. IsTaken (pl.key + j) slot t × m.left pl.id j l c t)
  pub kind : LeaveIs (exit_of op) l

-- the answer that ends a call is the operation's; where the arena is full, that is so beside the pieces
abbrev pub EndsBy : Model → World → Turn Opt → Calls → State → End → Type 0
EndsBy m u turn c s (Full asked left) = m.fills u turn s asked left
EndsBy m u (Off (Waits w)) c s Waiting = m.called w c
EndsBy m u (Off (Misfits w)) c s (Misfitting n) = m.called w c × (n ≡ length w.log - 1)
EndsBy m u turn c s end = ⊥

-- Where the host answers, the operation goes on, and the run comes to the next one; or it ends as the operation does.
abbrev pub AnswerDoes : Model → Placed → ℕ → ℕ → List Slot → List Slot → World → Turn Opt → State → Answered → Type 0
AnswerDoes m pl j q rest more w turn s (Resumes c u) = (after : Opt) × (turn ≡ On after) × Comes m.followed q rest u more (λ v. m.holds pl.id (j + 1) after c v) × (u.at ≡ 0x40000000 + q)
AnswerDoes m pl j q rest more w turn s (Stops c end) = EndsBy m w turn c s end

-- the machine stands in front of the call of operation j
pub record AtCall (m : Model) (pl : Placed) (j : ℕ) (r : Reg) (rest more : List Slot) (world : World) (turn : Turn Opt) (c : Calls) (q : ℕ) (t : State) : Type 0 where
  pub entry : ℕ
  pub stopped : State
  pub stops : (by : Jumps) (code : List ℕ) → length code < 2 ^ 32 → Lists by code q (Put (CallReg r) ∷ rest) → MachineStep code t (acted (Stopped (HostCall entry)) stopped)
  pub answered : (o : Answered) → m.host.answers entry c stopped o → AnswerDoes m pl j (q + size_of (Put (CallReg r))) rest more world turn stopped o

-- the run comes to the call of operation j
pub record CallsHost (m : Model) (pl : Placed) (j : ℕ) (xs more : List Slot) (p : ℕ) (s : State) (c : Calls) (world : World) (turn : Turn Opt) : Type 0 where
  pub register : Reg
  pub rest : List Slot
  pub reach : Comes m.followed p xs s (Put (CallReg register) ∷ rest) (λ t. (q : ℕ) × (t.at ≡ 0x40000000 + q) × AtCall m pl j register rest more world turn c q t)

-- an operation goes on to the next one, comes to the slot at which it is left, or stands at a call; of a wrong one nothing is said
abbrev pub Does : Model → Placed → ℕ → OptOp → List Slot → List Slot → ℕ → State → Calls → World → Turn Opt → Type 0
Does m pl j op xs more p s c u (On after) = Comes m.followed p xs s more (λ t. m.holds pl.id (j + 1) after c t) ⊎ CallsHost m pl j xs more p s c u (On after)
Does m pl j op xs more p s c u (Off (Fails n vs w)) = ComesOff m pl j op xs p s c (Fails n vs w)
Does m pl j op xs more p s c u (Off (Jumping_off vs w)) = ComesOff m pl j op xs p s c (Jumping_off vs w)
Does m pl j op xs more p s c u (Off (Finishes vs w)) = ComesOff m pl j op xs p s c (Finishes vs w)
Does m pl j op xs more p s c u (Off (Waits w)) = CallsHost m pl j xs more p s c u (Off (Waits w))
Does m pl j op xs more p s c u (Off (Misfits w)) = CallsHost m pl j xs more p s c u (Off (Misfits w))
Does m pl j op xs more p s c u (Off (Wrong w)) = Unit {0}

-- A place in a piece: operations and slots behind and ahead.
pub record At (m : Model) (pl : Placed) (rest : List OptOp) : Type 0 where
  pub done : List OptOp
  pub before : List (List Slot)
  pub more : List (List Slot)
  pub ops : ops_at m.pieces pl.id ≡ done ++ rest
  pub codes : pl.codes ≡ before ++ more
  pub same : length done ≡ length before
  pub ahead : length rest ≡ length more

-- what selection has to show of each piece
pub record PieceDoes (m : Model) (pl : Placed) : Type 0 where
  pub some : (op : OptOp) × (ops : List OptOp) × (ops_at m.pieces pl.id ≡ op ∷ ops)
  pub counts : length (ops_at m.pieces pl.id) ≡ length pl.codes
  pub each : (done rest : List OptOp) (op : OptOp) (before more : List (List Slot)) (xs : List Slot) (env : Opt) (c : Calls) (s : State)
      → ops_at m.pieces pl.id ≡ done ++ op ∷ rest → pl.codes ≡ before ++ xs ∷ more → length done ≡ length before
      → m.holds pl.id (length before) env c s → s.at ≡ 0x40000000 + (start_of pl + sizes_of (joined before))
      → Does m pl (length before) op (xs ++ joined more) (joined more) (start_of pl + sizes_of (joined before)) s c env.world (opt_step m.set.table op env)
  -- the last operation never goes on
  pub ends : (done : List OptOp) (op : OptOp) (env after : Opt) → ops_at m.pieces pl.id ≡ done ++ op ∷ [] → opt_step m.set.table op env ≡ On after → ⊥
