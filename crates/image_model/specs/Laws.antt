-- Selected pieces do what their operations do.
use Rattle.std.specs.Prelude.{◌≡◌, ℕ, ◌+◌, ◌-◌, ◌^◌, ◌<◌, ℤ, IsTrue, Bool, true, false, List, [], ◌∷◌, ◌++◌, length, Some, slice_get}
use Rattle.trace_ops.specs.Words.{IsWord}
use Rattle.trace_ops.specs.declared.table.Table.{Table}
use Rattle.trace_ops.specs.declared.trace.TraceSet.{TraceSet}
use Rattle.trace_ops.specs.declared.piece.Piece.{Piece}
use Rattle.trace_ops.specs.declared.piece.PieceId.{PieceId}
use Rattle.trace_ops.specs.declared.piece.OptOp.{OptOp}
use Rattle.trace_ops.specs.declared.piece.OptOp.TheVariants as opt
use Rattle.target_base.specs.Arena.{Arena}
use Rattle.trace_meaning.specs.Legs.{Leave, Fails, Jumps, Waits, Misfits, Wrong, Turn, On, Off}
use Rattle.opt_meaning.specs.Step.{Opt, opt_step}
use Rattle.opt_meaning.specs.Pieces.{ops_at, label_at, begin_at}
use Rattle.x64_machine.specs.State.{State, target}
use Rattle.asm_select.specs.declared.told.Told.{Told}
use Rattle.asm_select.specs.declared.told.Told.TheVariants as tell
use Rattle.asm_select.specs.Slots.{Slot, puts, sizes_of}
use Rattle.asm_select.specs.Valued.{value, IsFit, MayHold}
use Rattle.asm_select.specs.Chosen.{Setting, told_by, code_of}
use Rattle.asm_select.specs.Reached.{AreApart, SameArena}
use Rattle.asm_select.specs.Exited.{shown_by}
use Rattle.asm_select.specs.Ended.{TableServes}
use Rattle.asm_select.specs.Asked.{AreSafe, AreChosen, AtCall, HostLeft, given_by, entry_by, in_host, returned}
use Rattle.image_runs.specs.Session.{Calls, Answered, Resumes, Stops, End, Full, Waiting, Misfitting, Host}
use Rattle.image_runs.specs.Selection.{Placed, joined, start_of, PieceDoes}
use Rattle.image_runs.specs.Image.{moved, Exits}
use Rattle.guard_exit.specs.Codes.{stub_code}
use Rattle.trace_ops.specs.declared.trace.BoxId.{BoxId}
use Rattle.target_base.specs.declared.place.Place.{Place}
use Rattle.trace_meaning.specs.declared.value.Value.{Value}
use Rattle.trace_meaning.specs.World.{World, failed}
use Rattle.std.specs.List.{AllZip}
use Rattle.image_model.specs.Ready.{IsReady, StaysReady}
use Rattle.image_model.specs.Modelled.{SameCalls, Fills, HoldsAt, LeftAt, model_of}

-- the slots of each operation, of which the first has this key
abbrev pub codes_from : Setting → ℕ → Told → List OptOp → List (List Slot)
codes_from st k told [] = []
codes_from st k told (op ∷ ops) = code_of st k told op ops ∷ codes_from st (k + 1) (told_by op ops) ops

-- a piece ends with a jump, an exit or a finish
abbrev pub closes : OptOp → Bool
closes (opt.Plain operation r args d) = false
closes (opt.Guard operation args n snap) = false
closes (opt.Exit n snap) = true
closes (opt.Jump to args) = true
closes (opt.Finish value) = true

-- a piece whose operations are chosen, in a code that isn't too long
pub record IsSelected (set : TraceSet) (whole ps : List Piece) (settings : PieceId → Setting) (pl : Placed) : Type 0 where
  pub same : ops_at ps pl.id ≡ ops_at whole pl.id
  pub table : (settings pl.id).table ≡ set.table
  pub serves : TableServes (settings pl.id).table
  pub hold : (b : ℕ) → MayHold ((settings pl.id).at b)
  pub apart : AreApart (settings pl.id).at (ops_at whole pl.id)
  pub safe : AreSafe (settings pl.id).at (ops_at whole pl.id)
  pub chosen : AreChosen (settings pl.id) pl.key tell.Nothing (ops_at whole pl.id)
  pub codes : pl.codes ≡ codes_from (settings pl.id) pl.key tell.Nothing (ops_at whole pl.id)
  pub small : start_of pl + sizes_of (joined pl.codes) < 2 ^ 32
  pub some : (op : OptOp) × (ops : List OptOp) × (ops_at whole pl.id ≡ op ∷ ops)
  pub closed : (done : List OptOp) (op : OptOp) → ops_at whole pl.id ≡ done ++ op ∷ [] → IsTrue (closes op)

-- a call that ends the run ends it as the operation does, or for want of bytes
abbrev pub EndsSo : Table → World → Turn Opt → Calls → State → End → Type 0
EndsSo t u turn c s (Full asked left) = Fills t u turn s asked left
EndsSo t u (Off (Waits w)) c s Waiting = SameCalls w c
EndsSo t u (Off (Misfits w)) c s (Misfitting n) = SameCalls w c × (n ≡ length w.log - 1)
EndsSo t u turn c s end = ⊥

-- what the host answers, where an operation asks it and turns out so; of a wrong one nothing is said
abbrev pub ServedSo : Table → OptOp → Opt → ℕ → State → Turn Opt → Answered → Type 0
ServedSo t op env q u (Off (Wrong w)) o = Unit {0}
ServedSo t op env q u (On after) (Resumes c v) =
    (z lost : ℤ) × (arena : Arena) × IsWord lost × HostLeft t (given_by op after) env.world.objects after.world.objects z arena × (v ≡ returned op q u z lost arena) × SameCalls after.world c
ServedSo t op env q u (Off l) (Resumes c v) = ⊥
ServedSo t op env q u turn (Stops c end) = EndsSo t env.world turn c (in_host op q u) end

-- a host serves each operation that asks it and may do so
abbrev pub HostServes : Host → Table → Type 0
HostServes host t =
    (st : Setting) (op : OptOp) (env : Opt) (p : ℕ) (u : State) (c : Calls) (o : Answered)
    → st.table ≡ t → IsReady t op env → AtCall st op env p u → SameCalls env.world c → host.answers (entry_by op) c (in_host op p u) o → ServedSo t op env p u (opt_step t op env) o

-- so selected pieces do what an image asks of a piece
abbrev pub SelectedPiecesDo : Host → Type 0
SelectedPiecesDo host =
    (set : TraceSet) (whole ps : List Piece) (settings : PieceId → Setting) (pl : Placed)
    → HostServes host set.table → IsSelected set whole ps settings pl → PieceDoes (model_of host set whole settings ps) pl

-- ---- behind a jump that was taken

-- into a stub: the run comes to the return, where each word is found
abbrev pub StubsExit : Host → Type 0
StubsExit host =
    (set : TraceSet) (whole ps : List Piece) (settings : PieceId → Setting) (q : PieceId) (j : ℕ) (l : Leave) (c : Calls) (at common exit n : ℕ) (to : ℤ) (t : State)
    → LeftAt (settings q) (ops_at whole q) j l c t → exit < 2 ^ 32 → n ≡ 0x40000000 + at → target (0x40000000 + (at + sizes_of (puts (stub_code to exit)))) to ≡ 0x40000000 + common
    → Exits (model_of host set whole settings ps) q j l c at common exit to (moved n t)

-- into a piece to whose label's places the values were brought: it begins, where it stays ready from these values
abbrev pub JumpsHold : Type 0
JumpsHold =
    (whole ps : List Piece) (settings : PieceId → Setting) (q r : PieceId) (j : ℕ) (vs : List Value) (w : World) (c : Calls) (n : ℕ) (t : State)
    → (settings r).table ≡ (settings q).table → AllZip (λ (p : Place) (b : BoxId). (settings r).at b.number ≡ p) (settings q).to (label_at ps r)
    → LeftAt (settings q) (ops_at whole q) j (Jumps vs w) c t → StaysReady (settings r).table (ops_at whole r) (begin_at ps r vs w)
    → HoldsAt (settings r) (ops_at whole r) 0 (begin_at ps r vs w) c (moved n t)

-- into a bridge's piece, when its entry moves have brought the guard's boxes to the places of its label: it begins
abbrev pub GuardsHold : Type 0
GuardsHold =
    (whole ps : List Piece) (settings : PieceId → Setting) (q r : PieceId) (j k : ℕ) (op : OptOp) (vs : List Value) (w : World) (c : Calls) (t u : State)
    → (settings r).table ≡ (settings q).table → slice_get (ops_at whole q) j ≡ Some op → LeftAt (settings q) (ops_at whole q) j (Fails k vs w) c t
    → IsFit u → SameArena t u → AllZip (λ (a b : BoxId). value u ((settings r).at b.number) ≡ value t ((settings q).at a.number)) (shown_by op) (label_at ps r)
    → StaysReady (settings r).table (ops_at whole r) (begin_at ps r vs (failed w)) → HoldsAt (settings r) (ops_at whole r) 0 (begin_at ps r vs (failed w)) c u
