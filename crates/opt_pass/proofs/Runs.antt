-- Runs, one operation after another.
use Rattle.std.proofs.Common.{◌≡◌, ℕ, Bool, true, false, cond, List, [], ◌∷◌, ◌++◌, Option, Some, None, length, refl, sym, ap, ◌∙◌, append_assoc}
use Rattle.std.specs.Prelude.{◌==◌}
use Rattle.trace_ops.specs.declared.trace.BoxId.{BoxId}
use Rattle.trace_ops.specs.declared.table.Table.{Table}
use Rattle.trace_ops.specs.declared.piece.Snapshot.{Snapshot}
use Rattle.trace_ops.specs.declared.piece.OptOp.{OptOp}
use Rattle.trace_ops.specs.declared.piece.OptOp.TheVariants as opt
use Rattle.trace_ops.specs.declared.piece.Entry.{Entry}
use Rattle.trace_ops.specs.Pieces.{finished}
use Rattle.trace_meaning.specs.declared.value.Value.{Value}
use Rattle.trace_meaning.specs.World.{World, Logged}
use Rattle.trace_meaning.specs.Legs.{Leave, Fails, Jumps, Finishes, Waits, Misfits, Wrong, Turn, On, Off, go_on, drive}
use Rattle.trace_meaning.specs.Growing.{IsLonger}
use Rattle.trace_meaning.specs.Observed.{world_left}
use Rattle.trace_meaning.specs.Performing.{Done, Gave, Bad, Waited, Misfitted, perform}
use Rattle.trace_meaning.specs.Passing.{passes}
use Rattle.trace_meaning.specs.Recorded.{Rec}
use Rattle.opt_meaning.specs.Step.{Opt, opt_values, resume_args, opt_result, opt_plain, opt_leave, opt_guard, opt_perform, opt_test, opt_step}
use Rattle.opt_meaning.specs.Along.{BeginsCalls}
use Rattle.opt_meaning.specs.Admits.{entry_for}
use Rattle.opt_meaning.specs.Leaving.{SameLeave}
use Rattle.lists.proofs.Options.{none_some}
use Rattle.opt_pass.specs.declared.state.Pass.{Pass}
use Rattle.trace_meaning.specs.Legs.{then_turn, drive_to}
use Rattle.opt_pass.specs.Standing.{known_of, at_states, Stands, world_now, SameTurn}
use Rattle.std.proofs.lemmas.List.{append-nil}
use Rattle.trace_meaning.specs.Growing.{GrowsTo}
use Rattle.opt_pass.specs.Laws.{Laws}

-- Runs

pub drive_to-append : {O S : Type 0} (step : O → S → Turn S) (xs ys : List O) (s : S) → drive_to step (xs ++ ys) s ≡ then_turn (drive_to step xs s) (drive_to step ys)
drive_to-append step [] ys s = refl
drive_to-append {S = S} step (x ∷ xs) ys s = there (step x s) (λ q. drive_to-append step xs ys q)
  where
    there : (q : Turn S) → ((s : S) → drive_to step (xs ++ ys) s ≡ then_turn (drive_to step xs s) (drive_to step ys)) → then_turn q (drive_to step (xs ++ ys)) ≡ then_turn (then_turn q (drive_to step xs)) (drive_to step ys)
    there (On u) i = i u
    there (Off l) i = refl

-- what has no end is wrong
abbrev pub ended_by : {S : Type 0} → (S → World) → Turn S → Leave
ended_by world (On s) = Wrong (world s)
ended_by world (Off l) = l

pub drive-is : {O S : Type 0} (step : O → S → Turn S) (world : S → World) (xs : List O) (s : S) → drive step world xs s ≡ ended_by world (drive_to step xs s)
drive-is step world [] s = refl
drive-is {S = S} step world (x ∷ xs) s = there (step x s) (λ q. drive-is step world xs q)
  where
    there : (q : Turn S) → ((s : S) → drive step world xs s ≡ ended_by world (drive_to step xs s)) → go_on q (drive step world xs) ≡ ended_by world (then_turn q (drive_to step xs))
    there (On u) i = i u
    there (Off l) i = refl

pub then_on : {S : Type 0} (q : Turn S) → then_turn q On ≡ q
then_on (On s) = refl
then_on (Off l) = refl

-- Calls come behind those that there are

pub longer_twice : {X : Type 0} (a b c : List X) → IsLonger a b → IsLonger b c → IsLonger a c
longer_twice a b c g h = (g.0 ++ h.0, h.1 ∙ ap (λ l. l ++ h.0) g.1 ∙ append_assoc a g.0 h.0)

abbrev Grows : World → World → Type 0
Grows w u = IsLonger w.log u.log

grows_same : (w : World) → Grows w w
grows_same w = ([], sym (append-nil w.log))

abbrev pub TurnGrows : World → Turn Opt → Type 0
TurnGrows w x = IsLonger w.log (world_now x).log

result_grows : (to : Option BoxId) (s : Opt) (x : Option Value) (w u : World) → Grows w u → TurnGrows w (opt_result to s x u)
result_grows (Some b) s (Some x) w u h = h
result_grows (Some b) s None w u h = h
result_grows None s x w u h = h

plain_grows : (to : Option BoxId) (s : Opt) (d : Done) → GrowsTo s.world d → TurnGrows s.world (opt_plain to s d)
plain_grows to s (Gave x w) h = result_grows to s x s.world w (h.calls, h.log)
plain_grows to s Bad h = grows_same s.world
plain_grows to s (Waited w) h = (h.calls, h.log)
plain_grows to s (Misfitted w) h = (h.calls, h.log)

fail_grows : (n : ℕ) (s : Opt) (vs : Option (List Value)) → TurnGrows s.world (opt_leave (Fails n) s vs)
fail_grows n s None = grows_same s.world
fail_grows n s (Some vs) = grows_same s.world

jump_grows : (s : Opt) (vs : Option (List Value)) → TurnGrows s.world (opt_leave Jumps s vs)
jump_grows s None = grows_same s.world
jump_grows s (Some vs) = grows_same s.world

finish_grows : (s : Opt) (vs : Option (List Value)) → TurnGrows s.world (opt_leave Finishes s vs)
finish_grows s None = grows_same s.world
finish_grows s (Some vs) = grows_same s.world

guard_grows : (n : ℕ) (snap : Snapshot) (s : Opt) (x : Option Bool) → TurnGrows s.world (opt_guard n snap s x)
guard_grows n snap s None = grows_same s.world
guard_grows n snap s (Some true) = grows_same s.world
guard_grows n snap s (Some false) = fail_grows n s (opt_values s (resume_args snap))

step_grows : (laws : Laws) (t : Table) (op : OptOp) (s : Opt) → TurnGrows s.world (opt_step t op s)
step_grows laws t (opt.Plain operation to args d) s = made (opt_values s args)
  where
    made : (vs : Option (List Value)) → TurnGrows s.world (opt_perform t operation to args d s vs)
    made None = grows_same s.world
    made (Some vs) = plain_grows to s (perform t operation d args vs s.world) (laws.operations_grow t operation d args vs s.world)
step_grows laws t (opt.Guard operation args n snap) s = tested (opt_values s args)
  where
    tested : (vs : Option (List Value)) → TurnGrows s.world (opt_test operation args n snap s vs)
    tested None = grows_same s.world
    tested (Some vs) = guard_grows n snap s (passes operation args vs s.world)
step_grows laws t (opt.Exit n snap) s = fail_grows n s (opt_values s (resume_args snap))
step_grows laws t (opt.Jump to args) s = jump_grows s (opt_values s args)
step_grows laws t (opt.Finish value) s = finish_grows s (opt_values s (finished value))

then_grows : (t : Table) (ops : List OptOp) (w : World) (x : Turn Opt) → ((s : Opt) → TurnGrows s.world (drive_to (opt_step t) ops s)) → TurnGrows w x → TurnGrows w (then_turn x (drive_to (opt_step t) ops))
then_grows t ops w (On s) more h = longer_twice w.log s.world.log (world_now (drive_to (opt_step t) ops s)).log h (more s)
then_grows t ops w (Off l) more h = h

pub run_grows : (laws : Laws) (t : Table) (ops : List OptOp) (s : Opt) → TurnGrows s.world (drive_to (opt_step t) ops s)
run_grows laws t [] s = grows_same s.world
run_grows laws t (op ∷ ops) s = then_grows t ops s.world (opt_step t op s) (run_grows laws t ops) (step_grows laws t op s)

pub more_grows : (laws : Laws) (t : Table) (ops : List OptOp) (x : Turn Opt) → IsLonger (world_now x).log (world_now (then_turn x (drive_to (opt_step t) ops))).log
more_grows laws t ops (On s) = run_grows laws t ops s
more_grows laws t ops (Off l) = grows_same (world_left l)

-- A trace that went wrong

pub begins_longer : (n : ℕ) (rec one other : List Logged) → IsLonger one other → BeginsCalls n rec one → BeginsCalls n rec other
begins_longer n rec one other more h = record { first = h.first; later = h.later ++ more.0; splits = more.1 ∙ ap (λ l. l ++ more.0) h.splits ∙ append_assoc h.first h.later more.0; same = h.same }

pub begins_now : (laws : Laws) (t : Table) (o : Pass) (r : Rec) (p : Opt) → Stands t o r p → BeginsCalls (length t.prebuilts) r.world.log p.world.log
begins_now laws t o r p h = record { first = p.world.log; later = []; splits = sym (append-nil p.world.log); same = laws.calls_are_same t (known_of o) r.boxes (at_states r p h.mapped h.virtuals) h.agrees }

-- where the trace is wrong here, whatever the piece does later
pub wrong_here : (laws : Laws) (t : Table) (o new : Pass) (r : Rec) (p : Opt) (ops : List OptOp) → Stands t o r p → SameTurn t new (Off (Wrong r.world)) (drive_to (opt_step t) ops p)
wrong_here laws t o new r p ops h = begins_longer (length t.prebuilts) r.world.log p.world.log (world_now (drive_to (opt_step t) ops p)).log (run_grows laws t ops p) (begins_now laws t o r p h)

abbrev pub IsJump : Leave → Type 0
IsJump (Jumps vs w) = Unit {0}
IsJump l = ⊥

-- Later guards change no earlier entry

pub entry_for-front : (xs ys : List (ℕ × Entry)) (n : ℕ) (e : Entry) → entry_for xs n ≡ Some e → entry_for (xs ++ ys) n ≡ Some e
entry_for-front [] ys n e h = absurd (none_some h)
entry_for-front (x ∷ xs) ys n e h = both (x.0 == n) h (entry_for-front xs ys n e)
  where
    both : (q : Bool) → cond q (Some x.1) (entry_for xs n) ≡ Some e → (entry_for xs n ≡ Some e → entry_for (xs ++ ys) n ≡ Some e) → cond q (Some x.1) (entry_for (xs ++ ys) n) ≡ Some e
    both true h i = h
    both false h i = i h

-- what comes later changes no way to leave but a jump
pub leave_late : (t : Table) (guards late : List (ℕ × Entry)) (one other : Entry) (x y : Leave) → (IsJump x → ⊥) → SameLeave t guards one x y → SameLeave t (guards ++ late) other x y
leave_late t guards late one other (Wrong w) y apart h = h
leave_late t guards late one other (Fails n vs w) (Fails m us u) apart h = (h.0, h.1, entry_for-front guards late n h.1 h.2, h.3)
leave_late t guards late one other (Jumps vs w) y apart h = absurd (apart tt)
leave_late t guards late one other (Finishes vs w) (Finishes us u) apart h = h
leave_late t guards late one other (Waits w) (Waits u) apart h = h
leave_late t guards late one other (Misfits w) (Misfits u) apart h = h
leave_late t guards late one other x y apart h = absurd h
