-- A session over a printed image: each return is by a row that is printed, and each machine was started.
use Rattle.std.proofs.Common.{inl, inr, ℕ, zero, suc, List, [], ◌∷◌, length, take, arith}
use Rattle.std.specs.List.{All, Contains, flat_map}
use Rattle.std.proofs.lemmas.List.Elements.{All-append, All-map}
use Rattle.lists.specs.Has.{Has}
use Rattle.lists.proofs.Alls.{all_at, all_set, all_weaker}
use Rattle.guard_exit.specs.declared.row.ExitRow.{ExitRow}
use Rattle.x64_machine.specs.State.{State}
use Rattle.image_runs.specs.Printed.{Part, Printed, code_at, rows_at}
use Rattle.image_runs.specs.Session.{Host, Activation, Event, Goes, Fails, Calls_on, Calls_ends, Returns, NoRow, NoWord, NoCode, NoFlag, Stays, Session, SessionStep, Start, Step, Attach, SessionRun, Done, Then, first, with_cut}
use Rattle.image_built.specs.Printing.{printed_rows, by_rows}
use Rattle.image_built.proofs.Rowing.{has_of, contains_of, has_left, has_right, has_cases}

-- ---- rows

parts_have : (j : ℕ) (parts : List Part) (row : ExitRow) → Has (flat_map (λ (x : Part). x.rows) (take j parts)) row → Has (flat_map (λ (x : Part). x.rows) (take (length parts) parts)) row
parts_have zero [] row h = absurd h
parts_have zero (x ∷ parts) row h = absurd h
parts_have (suc j) [] row h = absurd h
parts_have (suc j) (x ∷ parts) row h = elim (has_cases x.rows (flat_map (λ (y : Part). y.rows) (take j parts)) row h) [
  | inl a ↦ has_left x.rows (flat_map (λ (y : Part). y.rows) (take (length parts) parts)) row a
  | inr b ↦ has_right x.rows (flat_map (λ (y : Part). y.rows) (take (length parts) parts)) row (parts_have j parts row b)
]

-- the rows of a moment are printed
rows_printed : (im : Printed) (j : ℕ) (row : ExitRow) → Contains (rows_at im j) row → Contains (printed_rows im) row
rows_printed im j row c =
    let all = flat_map (λ (x : Part). x.rows) (take (length im.parts) im.parts) in
    contains_of (printed_rows im) row (elim (has_cases im.rows (flat_map (λ (x : Part). x.rows) (take j im.parts)) row (has_of (rows_at im j) row c)) [
      | inl a ↦ has_left im.rows all row a
      | inr b ↦ has_right im.rows all row (parts_have j im.parts row b)
    ])

-- ---- the session of that host

event_by : (im : Printed) (h : Host) (code : List ℕ) (j : ℕ) (a b : Activation) → Event h code (rows_at im j) a b → Event (by_rows im h) code (rows_at im j) a b
event_by im h code j a b (Goes t e m n) = Goes t e m n
event_by im h code j a b (Fails t e m n) = Fails t e m n
event_by im h code j a b (Calls_on entry t u calls e m x) = Calls_on entry t u calls e m x
event_by im h code j a b (Calls_ends entry t calls end e m x) = Calls_ends entry t calls end e m x
event_by im h code j a b (Returns row end e m has number shows) = Returns row end e m has number (shows, rows_printed im j row has)
event_by im h code j a b (NoRow e m none) = NoRow e m none
event_by im h code j a b (NoWord at e m) = NoWord at e m
event_by im h code j a b (NoCode at e m) = NoCode at e m
event_by im h code j a b (NoFlag at e m) = NoFlag at e m
event_by im h code j a b (Stays end e) = Stays end e

step_by : (im : Printed) (h : Host) (s t : Session) → SessionStep h im s t → SessionStep (by_rows im h) im s t
step_by im h s t (Start trace entry inputs given m has starts) = Start trace entry inputs given m has starts
step_by im h s t (Step i a b e event) = Step i a b e (event_by im h (code_at im s.parts) s.parts a b event)
step_by im h s t (Attach x e) = Attach x e

pub run_by : (im : Printed) (h : Host) (s t : Session) → SessionRun h im s t → SessionRun (by_rows im h) im s t
run_by im h s t (Done u) = Done u
run_by im h s t (Then u v w step rest) = Then u v w (step_by im h u v step) (run_by im h v w rest)

-- ---- starts

-- the machine was started with these inputs
abbrev pub IsStartedBy : Host → Activation → Type 0
IsStartedBy h act = (entry : ℕ) × (s : State) × h.starts act.trace entry act.inputs s

one_all : (P : Activation → Type 0) (x : Activation) → P x → All P (x ∷ [])
one_all P x h zero d lt = h
one_all P x h (suc k) d lt = absurd (omega (arith, lt))

started_on : (h : Host) (code : List ℕ) (rows : List ExitRow) (a b : Activation) → Event h code rows a b → IsStartedBy h a → IsStartedBy h b
started_on h code rows a b (Goes t e m n) y = y
started_on h code rows a b (Fails t e m n) y = y
started_on h code rows a b (Calls_on entry t u calls e m x) y = y
started_on h code rows a b (Calls_ends entry t calls end e m x) y = y
started_on h code rows a b (Returns row end e m has number shows) y = y
started_on h code rows a b (NoRow e m none) y = y
started_on h code rows a b (NoWord at e m) y = y
started_on h code rows a b (NoCode at e m) y = y
started_on h code rows a b (NoFlag at e m) y = y
started_on h code rows a b (Stays end e) y = y

step_starts : (im : Printed) (h : Host) (s t : Session) → SessionStep h im s t → All (IsStartedBy h) s.activations → All (IsStartedBy h) t.activations
step_starts im h s t (Start trace entry inputs given m has starts) all =
    let act = first im s.parts trace inputs given m in
    All-append (IsStartedBy h) s.activations (act ∷ []) all (one_all (IsStartedBy h) act (entry, m, starts))
step_starts im h s t (Step i a b e event) all =
    all_set (IsStartedBy h) s.activations i b (started_on h (code_at im s.parts) (rows_at im s.parts) a b event (all_at (IsStartedBy h) s.activations i a all e)) all
step_starts im h s t (Attach x e) all = All-map (IsStartedBy h) (with_cut x.bridge) s.activations (all_weaker (IsStartedBy h) (λ (a : Activation). IsStartedBy h (with_cut x.bridge a)) s.activations (λ a y. y) all)

pub run_starts : (im : Printed) (h : Host) (s t : Session) → SessionRun h im s t → All (IsStartedBy h) s.activations → All (IsStartedBy h) t.activations
run_starts im h s t (Done u) all = all
run_starts im h s t (Then u v w step rest) all = run_starts im h v w rest (step_starts im h u v step all)
