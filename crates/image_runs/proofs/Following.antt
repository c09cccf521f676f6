-- An event of an activation keeps it beside its pieces.
use Rattle.std.proofs.Common.{◌≡◌, ℕ, zero, suc, ◌+◌, ◌*◌, ◌≤◌, List, [], ◌∷◌, ◌++◌, length, map, refl, sym, ap, ◌∙◌, subst, inl, inr, ◌⊎◌, arith, ℤ, pos, negsuc, Option, Some, None}
use Rattle.std.specs.List.{Contains}
use Rattle.x64_machine.specs.declared.state.Stop.TheVariants.{Returned, HostCall, BadAddress, BadCode, UndefinedFlag}
use Rattle.x64_machine.specs.declared.state.Turn.{Turn as MachineTurn}
use Rattle.x64_machine.specs.declared.state.Turn.TheVariants.{Went, Stopped}
use Rattle.x64_machine.specs.Words.{unsigned}
use Rattle.x64_machine.specs.State.{State, Acted, acted, stops, reg}
use Rattle.x64_machine.specs.Step.{MachineStep}
use Rattle.asm_select.specs.Slots.{sizes_of, puts}
use Rattle.guard_exit.specs.Codes.{common_code}
use Rattle.trace_meaning.specs.declared.value.Value.{Value}
use Rattle.trace_meaning.specs.World.{World}
use Rattle.trace_meaning.specs.Legs.{Leave, Fails, Finishes, Wrong, In, Over, next, run, Leg, At, drive, leg, legs}
use Rattle.trace_ops.specs.declared.piece.PieceId.{PieceId}
use Rattle.trace_ops.specs.declared.piece.OptOp.{OptOp}
use Rattle.trace_meaning.specs.Cuts.{Cuts}
use Rattle.image_runs.specs.Runs.{PieceProgram, world_now, Steady}
use Rattle.guard_exit.specs.declared.row.ExitRow.{ExitRow}
use Rattle.image_runs.specs.Counted.{CountsFailure}
use Rattle.image_runs.specs.Session.{Calls, End, Resumes, Stops, Activation, Event, Goes as EventGoes, Fails as EventFails, Calls_on, Calls_ends, Returns as EventReturns, NoRow, NoWord, NoCode, NoFlag, Stays, is_wrong_at}
use Rattle.image_runs.specs.Selection.{ended, Exit, Guarded, Jumping, Finishing, Inside, Model, Placed, EndsAs, exit_of, EndsBy}
use Rattle.image_runs.specs.Image.{Image, code_in, JumpAt, IsImage}
use Rattle.opt_meaning.specs.Pieces.{PiecesNow, pieces, ops_at}
use Rattle.image_runs.specs.Standing.{Stands, Walks, Leaves, Asks, Returns}
use Rattle.image_runs.specs.Kept.{AreUpTo, first_of, leg_left, rest_of, StaysOpen, over, Ready, Ahead, Slots, Hosts, Stubs, Settled, Led, Within, Begins, Ends, Replied, Goes_on, Ends_by, Kept, Plainly, Failing, Asking, Returning_by, Straying}
use Rattle.image_runs.specs.Following.{AnswersMakeNone, Begun, first_now, first_leg, Reached, Beside, guard_of, Follows, Goes, Shows_end, Refuses, Strays, IsActive}
use Rattle.image_runs.proofs.Settling.{settles}
use Rattle.image_runs.proofs.Stepping.{keeps}
use Rattle.image_runs.specs.Relying.{Relies}
use Rattle.image_runs.proofs.Bytes.{length-bytes, sizes-append, slots_few}
use Rattle.opt_meaning.specs.Step.{opt_step}

-- ---- runs and legs

pub run_on : (a : PieceProgram) (i n : ℕ) (x : PiecesNow) → run a (i + n) x ≡ run a n (run a i x)
run_on a zero n x =
    let e : 0 + n ≡ n = omega arith in
    ap (λ (k : ℕ). run a k x) e
run_on a (suc i) n x =
    let e : suc i + n ≡ suc (i + n) = omega arith in
    ap (λ (k : ℕ). run a k x) e ∙ run_on a i n (next a x)

legs_last : (a : PieceProgram) (c : ℕ) (x : Leg PieceId) → legs a (suc c) x ≡ leg a (legs a c x)
legs_last a zero x = refl
legs_last a (suc c) x = legs_last a c (leg a x)

pub legs_suc : (a : PieceProgram) (c : ℕ) (x : Leg PieceId) → legs a (c + 1) x ≡ leg a (legs a c x)
legs_suc a c x =
    let e : c + 1 ≡ suc c = omega arith in
    ap (λ (k : ℕ). legs a k x) e ∙ legs_last a c x

run_over : (a : PieceProgram) (n : ℕ) (q : PieceId) (l : Leave) → run a n (Over q l) ≡ Over q l
run_over a zero q l = refl
run_over a (suc n) q l = run_over a n q l

over_up : (a : PieceProgram) (n : ℕ) (x y : PiecesNow) → run a n x ≡ y → over x ≤ over y
over_up a n (In q rest s) y e = omega arith
over_up a n (Over q l) y e =
    let h : over (Over q l) ≡ over y = ap over (sym (run_over a n q l) ∙ e) in
    omega (arith, h)

pub times_up : (a b n : ℕ) → a ≤ b → a * n ≤ b * n
times_up a b n h = grind arith

times_more : (a n : ℕ) → (a + 1) * n ≡ a * n + n
times_more a n = grind arith

-- what a machine's act was
abbrev no_of : MachineTurn → ℕ
no_of Went = 0
no_of (Stopped (HostCall e)) = 1
no_of (Stopped Returned) = 2
no_of (Stopped (BadAddress at)) = 3
no_of (Stopped (BadCode at)) = 4
no_of (Stopped (UndefinedFlag at)) = 5

abbrev entry_no : MachineTurn → ℕ
entry_no (Stopped (HostCall e)) = e
entry_no t = 0

pub opens : (a : PieceProgram) (x y : PiecesNow) (p : PieceId × Leave) → (rest_of a x ≡ Some p) ⊎ (rest_of a x ≡ None) → StaysOpen a x y → (rest_of a y ≡ Some p) ⊎ (rest_of a y ≡ None)
opens a x y p r (inr h) = inr h
opens a x y p (inl f) (inl h) = inl (h ∙ f)
opens a x y p (inr f) (inl h) = inr (h ∙ f)

-- so many operations later, in the same leg
abbrev pub later : (a : PieceProgram) (b : Begun) (x y : PiecesNow) (made more f h n : ℕ) → Reached a b x made f → run a n x ≡ y → leg_left a y ≡ leg_left a x → StaysOpen a x y → made ≤ more → (world_now a y).failures ≤ h → Reached a b y more h
later a b x y made more f h n r e l o up few = record {
  operations = r.operations + n;
  ran = run_on a r.operations n (first_now a b) ∙ ap (run a n) r.ran ∙ e;
  whole = r.whole;
  piece = r.piece;
  values = r.values;
  world = r.world;
  begun = r.begun;
  within = l ∙ r.within;
  stays = opens a x y (r.piece, drive a.step a.world (a.ops r.piece) (a.begin r.piece r.values r.world)) r.stays o;
  backward = omega (arith, r.backward);
  counted = few;
}

-- in the next leg
abbrev next_leg : (a : PieceProgram) (b : Begun) (x y : PiecesNow) (made f h n : ℕ) (q : PieceId) (vs : List Value) (w : World) → Reached a b x made f → run a n x ≡ y → leg_left a x ≡ At q vs w → leg_left a y ≡ leg a (At q vs w) → rest_of a y ≡ Some (q, drive a.step a.world (a.ops q) (a.begin q vs w)) → (world_now a y).failures ≤ h → Reached a b y (made + 1) h
next_leg a b x y made f h n q vs w r e l k o few = record {
  operations = r.operations + n;
  ran = run_on a r.operations n (first_now a b) ∙ ap (run a n) r.ran ∙ e;
  whole = r.whole + 1;
  piece = q;
  values = vs;
  world = w;
  begun = legs_suc a r.whole (first_leg b) ∙ ap (leg a) r.begun ∙ sym r.within ∙ l;
  within = k;
  stays = inl o;
  backward = omega (arith, r.backward);
  counted = few;
}

abbrev pub some_no : Option End → ℕ
some_no None = 0
some_no (Some e) = 1

pub no_end : (e : End) → Some e ≡ None → ⊥
no_end e h = (let n : 1 ≡ 0 = ap some_no h in omega (arith, n))

sizes_common : 16 ≤ sizes_of (puts common_code)
sizes_common = omega arith

module _ (law : Relies) (m : Model) (quiet : AnswersMakeNone m.host) (g : Image) (bs : List ℕ) (rows : List ExitRow) (image : IsImage m g bs rows) (b : Begun) where
  long : 16 ≤ length (code_in g)
  long = omega (arith, sizes_common, length-bytes g.by g.slots, ap sizes_of image.common.2, sizes-append image.common.0 (puts common_code ++ image.common.1), sizes-append (puts common_code) image.common.1)

  wide : length g.slots ≤ length (code_in g)
  wide = omega (arith, length-bytes g.by g.slots, slots_few law g.slots)

  -- in front of an instruction
  pub record Prepared (act : Activation) : Type 0 where
    pub x : PiecesNow
    pub reached : Reached (pieces m.set m.pieces act.cuts) b x act.machine.instructions act.failures
    pub todo : ℕ
    pub ready : Ready m g x act.calls act.machine todo
    pub exact : (world_now (pieces m.set m.pieces act.cuts) x).failures ≡ act.failures
    pub forward : act.machine.instructions + todo ≤ (reached.whole + 1 + over x) * length (code_in g)

  Strayed : Activation → Type 0
  Strayed act = (q : PieceId) × (w : World) × Reached (pieces m.set m.pieces act.cuts) b (Over q (Wrong w)) act.machine.instructions act.failures

  module _ (act : Activation) (steady : Steady (pieces m.set m.pieces act.cuts)) where
    settled_of : (x : PiecesNow) (c : Calls) (s : State) (path : List State) (todo : ℕ) → Stands m g x c s path todo → Settled m g (pieces m.set m.pieces act.cuts) x c s todo
    settled_of x c s [] todo (Walks z) = settles law m g bs rows image act.cuts steady x c s todo z
    settled_of x c s (w ∷ path) todo (Walks z) = record { n = 0; y = x; ran = refl; leg = refl; stays = inl refl; failures = refl; ready = Ahead w path z }
    settled_of x c s path todo (Leaves z) = record { n = 0; y = x; ran = refl; leg = refl; stays = inl refl; failures = refl; ready = Slots path z }
    settled_of x c s path todo (Asks z) = record { n = 0; y = x; ran = refl; leg = refl; stays = inl refl; failures = refl; ready = Hosts path z }
    settled_of x c s path todo (Returns z) = record { n = 0; y = x; ran = refl; leg = refl; stays = inl refl; failures = refl; ready = Stubs path z }

    pub prepare : Beside m g b act → Prepared act
    prepare z =
        let h = settled_of z.x act.calls act.machine z.path z.todo z.stands in
        let a = pieces m.set m.pieces act.cuts in
        let r = later a b z.x h.y act.machine.instructions act.machine.instructions act.failures act.failures h.n z.reached h.ran h.leg h.stays (omega arith) (omega (arith, h.failures, z.exact)) in
        record {
          x = h.y;
          reached = r;
          todo = z.todo;
          ready = h.ready;
          exact = h.failures ∙ z.exact;
          forward = omega (arith, z.forward, times_up (z.reached.whole + 1 + over z.x) (z.reached.whole + 1 + over h.y) (length (code_in g)) (omega (arith, over_up a h.n z.x h.y h.ran)));
        }

    -- one instruction, or a call with its answer, later
    advanced : (z : Prepared act) (y : PiecesNow) (n : ℕ) (path : List State) (left : ℕ) (t : State) (c : Calls) (k : ℕ) → run (pieces m.set m.pieces act.cuts) n z.x ≡ y → Stands m g y c t path left → Led (pieces m.set m.pieces act.cuts) z.x y (length g.slots) z.todo left → t.instructions ≡ act.machine.instructions + 1 → (world_now (pieces m.set m.pieces act.cuts) y).failures ≡ k → Beside m g b (record act { machine = t; calls = c; failures = k })
    advanced z y n path left t c k ran stands (Within l o f) one exact =
        let a = pieces m.set m.pieces act.cuts in
        let r = later a b z.x y act.machine.instructions t.instructions act.failures k n z.reached ran l o (omega (arith, one)) (omega (arith, exact)) in
        record {
          x = y;
          reached = r;
          path = path;
          todo = left;
          stands = stands;
          exact = exact;
          forward = omega (arith, f, one, z.forward, times_up (z.reached.whole + 1 + over z.x) (z.reached.whole + 1 + over y) (length (code_in g)) (omega (arith, over_up a n z.x y ran)));
        }
    advanced z y n path left t c k ran stands (Begins q vs w l1 l2 o f some) one exact =
        let a = pieces m.set m.pieces act.cuts in
        let r = next_leg a b z.x y act.machine.instructions act.failures k n q vs w z.reached ran l1 l2 o (omega (arith, exact)) in
        record {
          x = y;
          reached = subst (λ (i : ℕ). Reached a b y i k) (sym one) r;
          path = path;
          todo = left;
          stands = stands;
          exact = exact;
          forward = omega (arith, f, some, wide, one, z.forward, times_more (z.reached.whole + 1 + over z.x) (length (code_in g)), times_up (z.reached.whole + 1 + over z.x + 1) (z.reached.whole + 1 + 1 + over y) (length (code_in g)) (omega (arith, over_up a n z.x y ran)));
        }
    advanced z y n path left t c k ran stands (Ends q l none l1 is f some) one exact =
        let a = pieces m.set m.pieces act.cuts in
        let r = later a b z.x y act.machine.instructions t.instructions act.failures k n z.reached ran (ap (leg_left a) is ∙ sym l1) (inr (ap (rest_of a) is)) (omega (arith, one)) (omega (arith, exact)) in
        let past : over y ≡ 1 = ap over is in
        record {
          x = y;
          reached = r;
          path = path;
          todo = left;
          stands = stands;
          exact = exact;
          forward = omega (arith, f, some, long, one, z.forward, times_more (z.reached.whole + 1 + over z.x) (length (code_in g)), times_up (z.reached.whole + 1 + over z.x + 1) (z.reached.whole + 1 + over y) (length (code_in g)) (omega (arith, past, none)));
        }

    abbrev After : Activation → Type 0
    After = Follows m g b

    went_counts : (t : State) → MachineStep (code_in g) act.machine (acted Went t) → t.instructions ≡ act.machine.instructions + 1
    went_counts t step = law.counted (code_in g) act.machine (acted Went t) step

    called_counts : (entry : ℕ) (t : State) → MachineStep (code_in g) act.machine (acted (Stopped (HostCall entry)) t) → t.instructions ≡ act.machine.instructions + 1
    called_counts entry t step = law.counted (code_in g) act.machine (acted (Stopped (HostCall entry)) t) step

    -- the pieces are wrong
    astray : (z : Prepared act) (act2 : Activation) (q : PieceId) (w : World) → z.x ≡ Over q (Wrong w) → act2.cuts ≡ act.cuts → act.machine.instructions ≤ act2.machine.instructions → act.failures ≤ act2.failures → After act2
    astray z act2 q w is same up more =
        let a = pieces m.set m.pieces act.cuts in
        let r = later a b z.x (Over q (Wrong w)) act.machine.instructions act2.machine.instructions act.failures act2.failures 0 z.reached is (ap (leg_left a) (sym is)) (inr refl) up (omega (arith, more, z.exact, ap (λ (y : PiecesNow). (world_now a y).failures) is)) in
        Strays q w (subst (λ (cuts : Cuts). Reached (pieces m.set m.pieces cuts) b (Over q (Wrong w)) act2.machine.instructions act2.failures) (sym same) r)

    turns_apart : (x y : Acted) (i j : ℕ) → x ≡ y → no_of x.turn ≡ i → no_of y.turn ≡ j → i ≡ j
    turns_apart x y i j e f h = sym f ∙ ap (λ (d : Acted). no_of d.turn) e ∙ h

    -- an instruction that counts no failure
    goes_on : (z : Prepared act) (t : State) → MachineStep (code_in g) act.machine (acted Went t) → (CountsFailure (code_in g) rows act.machine → ⊥) → act.end ≡ None → Kept m g (pieces m.set m.pieces act.cuts) rows z.x act.calls act.machine z.todo (acted Went t) → After (record act { machine = t })
    goes_on z t step not none (Plainly t2 y n path left did off ran stands led same) =
        let is : t2 ≡ t = ap (λ (d : Acted). d.state) (sym did) in
        Goes none (advanced z y n path left t act.calls act.failures ran (subst (λ (u : State). Stands m g y act.calls u path left) is stands) led (went_counts t step) (same ∙ z.exact))
    goes_on z t step not none (Failing t2 y path left did yes_it ran stands led same) = absurd (not yes_it)
    goes_on z t step not none (Asking entry t2 did replies) = absurd (let n : 0 ≡ 1 = ap (λ (d : Acted). no_of d.turn) did in omega (arith, n))
    goes_on z t step not none (Returning_by pl op before rest l did there ops kind jump is number gone) = absurd (let n : 0 ≡ 2 = ap (λ (d : Acted). no_of d.turn) did in omega (arith, n))
    goes_on z t step not none (Straying q w is) = astray z (record act { machine = t }) q w is refl (omega (arith, went_counts t step)) (omega arith)

    -- one that counts one
    fails_on : (z : Prepared act) (t : State) → MachineStep (code_in g) act.machine (acted Went t) → CountsFailure (code_in g) rows act.machine → act.end ≡ None → Kept m g (pieces m.set m.pieces act.cuts) rows z.x act.calls act.machine z.todo (acted Went t) → After (record act { machine = t; failures = act.failures + 1 })
    fails_on z t step counts none (Plainly t2 y n path left did off ran stands led same) = absurd (off counts)
    fails_on z t step counts none (Failing t2 y path left did yes_it ran stands led same) =
        let is : t2 ≡ t = ap (λ (d : Acted). d.state) (sym did) in
        Goes none (advanced z y 1 path left t act.calls (act.failures + 1) ran (subst (λ (u : State). Stands m g y act.calls u path left) is stands) led (went_counts t step) (same ∙ ap (λ (k : ℕ). k + 1) z.exact))
    fails_on z t step counts none (Asking entry t2 did replies) = absurd (let n : 0 ≡ 1 = ap (λ (d : Acted). no_of d.turn) did in omega (arith, n))
    fails_on z t step counts none (Returning_by pl op before rest l did there ops kind jump is number gone) = absurd (let n : 0 ≡ 2 = ap (λ (d : Acted). no_of d.turn) did in omega (arith, n))
    fails_on z t step counts none (Straying q w is) = astray z (record act { machine = t; failures = act.failures + 1 }) q w is refl (omega (arith, went_counts t step)) (omega arith)

    -- a call that is answered
    calls_on : (z : Prepared act) (entry : ℕ) (t u : State) (c : Calls) → MachineStep (code_in g) act.machine (acted (Stopped (HostCall entry)) t) → m.host.answers entry act.calls t (Resumes c u) → act.end ≡ None → Kept m g (pieces m.set m.pieces act.cuts) rows z.x act.calls act.machine z.todo (acted (Stopped (HostCall entry)) t) → After (record act { machine = u; calls = c })
    calls_on z entry t u c step answer none (Plainly t2 y n path left did off ran stands led same) = absurd (let n : 1 ≡ 0 = ap (λ (d : Acted). no_of d.turn) did in omega (arith, n))
    calls_on z entry t u c step answer none (Failing t2 y path left did yes_it ran stands led same) = absurd (let n : 1 ≡ 0 = ap (λ (d : Acted). no_of d.turn) did in omega (arith, n))
    calls_on z entry t u c step answer none (Asking e2 t2 did replies) =
        let e : entry ≡ e2 = ap (λ (d : Acted). entry_no d.turn) did in
        let s : t ≡ t2 = ap (λ (d : Acted). d.state) did in
        let there : m.host.answers e2 act.calls t2 (Resumes c u) = subst (λ (k : ℕ). m.host.answers k act.calls t2 (Resumes c u)) e (subst (λ (k : State). m.host.answers entry act.calls k (Resumes c u)) s answer) in
        replied (replies (Resumes c u) there)
      where
        replied : Replied m g (pieces m.set m.pieces act.cuts) z.x t2 z.todo (Resumes c u) → After (record act { machine = u; calls = c })
        replied (Goes_on c2 u2 y path left ran stands led o few same) =
            Goes none (advanced z y 1 path left u c act.failures ran stands (Within led (inl o) few) (quiet entry act.calls c t u answer ∙ called_counts entry t step) (same ∙ z.exact))
    calls_on z entry t u c step answer none (Returning_by pl op before rest l did there ops kind jump is number gone) = absurd (let n : 1 ≡ 2 = ap (λ (d : Acted). no_of d.turn) did in omega (arith, n))
    calls_on z entry t u c step answer none (Straying q w is) = astray z (record act { machine = u; calls = c }) q w is refl (omega (arith, quiet entry act.calls c t u answer, called_counts entry t step)) (omega arith)

    -- one that ends the run
    calls_end : (z : Prepared act) (entry : ℕ) (t : State) (c : Calls) (end : End) → MachineStep (code_in g) act.machine (acted (Stopped (HostCall entry)) t) → m.host.answers entry act.calls t (Stops c end) → Kept m g (pieces m.set m.pieces act.cuts) rows z.x act.calls act.machine z.todo (acted (Stopped (HostCall entry)) t) → After (record act { machine = t; calls = c; end = Some end })
    calls_end z entry t c end step answer (Plainly t2 y n path left did off ran stands led same) = absurd (let n : 1 ≡ 0 = ap (λ (d : Acted). no_of d.turn) did in omega (arith, n))
    calls_end z entry t c end step answer (Failing t2 y path left did yes_it ran stands led same) = absurd (let n : 1 ≡ 0 = ap (λ (d : Acted). no_of d.turn) did in omega (arith, n))
    calls_end z entry t c end step answer (Asking e2 t2 did replies) =
        let e : entry ≡ e2 = ap (λ (d : Acted). entry_no d.turn) did in
        let s : t ≡ t2 = ap (λ (d : Acted). d.state) did in
        let there : m.host.answers e2 act.calls t2 (Stops c end) = subst (λ (k : ℕ). m.host.answers k act.calls t2 (Stops c end)) e (subst (λ (k : State). m.host.answers entry act.calls k (Stops c end)) s answer) in
        replied (replies (Stops c end) there)
      where
        replied : Replied m g (pieces m.set m.pieces act.cuts) z.x t2 z.todo (Stops c end) → After (record act { machine = t; calls = c; end = Some end })
        replied (Ends_by c2 end2 q op rest env is ends) =
            let a = pieces m.set m.pieces act.cuts in
            let r = later a b z.x (In q (op ∷ rest) env) act.machine.instructions t.instructions act.failures act.failures 0 z.reached is (ap (leg_left a) (sym is)) (inl (ap (rest_of a) (sym is))) (omega (arith, called_counts entry t step)) (omega (arith, z.exact, ap (λ (y : PiecesNow). (world_now a y).failures) is)) in
            Refuses end refl (record { piece = q; op = op; rest = rest; env = env; reached = r; ends = subst (λ (k : State). EndsBy m env.world (opt_step m.set.table op env) c2 k end2) (sym (ap (λ (d : Acted). d.state) did)) ends })
    calls_end z entry t c end step answer (Returning_by pl op before rest l did there ops kind jump is number gone) = absurd (let n : 1 ≡ 2 = ap (λ (d : Acted). no_of d.turn) did in omega (arith, n))
    calls_end z entry t c end step answer (Straying q w is) = astray z (record act { machine = t; calls = c; end = Some end }) q w is refl (omega (arith, called_counts entry t step)) (omega arith)

    -- the row of an exit's number
    row_of : (pl : Placed) (there : Contains g.placed pl) (op : OptOp) (before rest : List OptOp) (l : Leave) (e : Exit) → ops_at m.pieces pl.id ≡ before ++ op ∷ rest → exit_of op ≡ e → EndsAs e l → JumpAt g (pl.key + length before) → (row : ExitRow) × Contains rows row × (row.exit ≡ g.number (pl.key + length before)) × (row.id ≡ pl.id) × (row.guard ≡ guard_of l)
    row_of pl there op before rest (Fails n vs w) (Guarded k) ops is kind jump =
        let x = (image.pieces pl there).exits before rest op ops in
        let r = image.rows_are.guards (pl.key + length before) k jump (x.0 ∙ is) in
        (r.0, r.2.0, r.2.1, r.2.2 ∙ x.1, r.2.3 ∙ ap Some (sym kind))
    row_of pl there op before rest (Finishes vs w) Finishing ops is kind jump =
        let x = (image.pieces pl there).exits before rest op ops in
        let r = image.rows_are.finishes (pl.key + length before) jump (x.0 ∙ is) in
        (r.0, r.1.0, r.1.1, r.1.2 ∙ x.1, r.1.3)
    row_of pl there op before rest l (Guarded k) ops is kind jump = absurd kind
    row_of pl there op before rest l Jumping ops is kind jump = absurd kind
    row_of pl there op before rest l Finishing ops is kind jump = absurd kind
    row_of pl there op before rest l Inside ops is kind jump = absurd kind

    shows : (z : Prepared act) (row : ExitRow) (end : End) → Contains rows row → reg act.machine (record { 0 = 0 }) ≡ pos row.exit → m.host.shows row act.calls act.machine end → Kept m g (pieces m.set m.pieces act.cuts) rows z.x act.calls act.machine z.todo (stops Returned act.machine) → After (record act { end = Some end })
    shows z row end inside here seen (Plainly t2 y n path left did off ran stands led same) = absurd (let n : 2 ≡ 0 = ap (λ (d : Acted). no_of d.turn) did in omega (arith, n))
    shows z row end inside here seen (Failing t2 y path left did yes_it ran stands led same) = absurd (let n : 2 ≡ 0 = ap (λ (d : Acted). no_of d.turn) did in omega (arith, n))
    shows z row end inside here seen (Asking e2 t2 did replies) = absurd (let n : 2 ≡ 1 = ap (λ (d : Acted). no_of d.turn) did in omega (arith, n))
    shows z row end inside here seen (Returning_by pl op before rest l did there ops kind jump is number gone) =
        let a = pieces m.set m.pieces act.cuts in
        let r = row_of pl there op before rest l (exit_of op) ops refl kind jump in
        let e : row.exit ≡ r.0.exit = ap nat_of (sym here ∙ number) ∙ sym r.2 in
        let same : r.0 ≡ row = image.rows_are.one r.0 row r.1 inside (sym e) in
        let x = later a b z.x (Over pl.id (ended l)) act.machine.instructions act.machine.instructions act.failures act.failures 0 z.reached is (ap (leg_left a) (sym is)) (inr refl) (omega arith) (omega (arith, z.exact, ap (λ (y : PiecesNow). (world_now a y).failures) is)) in
        Shows_end end refl (record {
          pl = pl;
          place = length before;
          leave = l;
          reached = x;
          gone = gone;
          row = row;
          row_is = (ap (λ (y : ExitRow). y.id) (sym same) ∙ r.3, ap (λ (y : ExitRow). y.guard) (sym same) ∙ r.4);
          shows = seen;
        })
      where
        nat_of : ℤ → ℕ
        nat_of (pos n) = n
        nat_of (negsuc n) = 0
    shows z row end inside here seen (Straying q w is) = astray z (record act { end = Some end }) q w is refl (omega arith) (omega arith)

    -- the other stops come only where the pieces are wrong
    no_row : (z : Prepared act) (at : ℕ) → ((row : ExitRow) → Contains rows row → reg act.machine (record { 0 = 0 }) ≡ pos row.exit → ⊥) → Kept m g (pieces m.set m.pieces act.cuts) rows z.x act.calls act.machine z.todo (stops Returned act.machine) → After (is_wrong_at act at)
    no_row z at none (Plainly t2 y n path left did off ran stands led same) = absurd (let n : 2 ≡ 0 = ap (λ (d : Acted). no_of d.turn) did in omega (arith, n))
    no_row z at none (Failing t2 y path left did yes_it ran stands led same) = absurd (let n : 2 ≡ 0 = ap (λ (d : Acted). no_of d.turn) did in omega (arith, n))
    no_row z at none (Asking e2 t2 did replies) = absurd (let n : 2 ≡ 1 = ap (λ (d : Acted). no_of d.turn) did in omega (arith, n))
    no_row z at none (Returning_by pl op before rest l did there ops kind jump is number gone) =
        let r = row_of pl there op before rest l (exit_of op) ops refl kind jump in
        absurd (none r.0 r.1 (number ∙ ap (λ (k : ℕ). pos k) (sym r.2)))
    no_row z at none (Straying q w is) = astray z (is_wrong_at act at) q w is refl (omega arith) (omega arith)

    stops_wrong : (z : Prepared act) (at : ℕ) (turn : MachineTurn) → 3 ≤ no_of turn → Kept m g (pieces m.set m.pieces act.cuts) rows z.x act.calls act.machine z.todo (acted turn act.machine) → After (is_wrong_at act at)
    stops_wrong z at turn high (Plainly t2 y n path left did off ran stands led same) = absurd (let n : no_of turn ≡ 0 = ap (λ (d : Acted). no_of d.turn) did in omega (arith, n, high))
    stops_wrong z at turn high (Failing t2 y path left did yes_it ran stands led same) = absurd (let n : no_of turn ≡ 0 = ap (λ (d : Acted). no_of d.turn) did in omega (arith, n, high))
    stops_wrong z at turn high (Asking e2 t2 did replies) = absurd (let n : no_of turn ≡ 1 = ap (λ (d : Acted). no_of d.turn) did in omega (arith, n, high))
    stops_wrong z at turn high (Returning_by pl op before rest l did there ops kind jump is number gone) = absurd (let n : no_of turn ≡ 2 = ap (λ (d : Acted). no_of d.turn) did in omega (arith, n, high))
    stops_wrong z at turn high (Straying q w is) = astray z (is_wrong_at act at) q w is refl (omega arith) (omega arith)

  -- ---- an event

  module _ (act : Activation) (steady : Steady (pieces m.set m.pieces act.cuts)) (here : map first_of act.cuts ≡ bs) (upto : AreUpTo act.failures act.cuts) where
    kept_by : (z : Prepared act) (done : Acted) → MachineStep (code_in g) act.machine done → Kept m g (pieces m.set m.pieces act.cuts) rows z.x act.calls act.machine z.todo done
    kept_by z done step = keeps law m g bs rows image act.cuts here steady z.x act.calls act.machine z.todo done (subst (λ (k : ℕ). AreUpTo k act.cuts) (sym z.exact) upto) z.ready step

    -- one that has ended stays
    ended_event : (P : Activation → Type 0) (end : End) (act2 : Activation) → act.end ≡ Some end → P act → Event m.host (code_in g) rows act act2 → P act2
    ended_event P end act2 is p (EventGoes t none step off) = absurd (no_end end (sym is ∙ none))
    ended_event P end act2 is p (EventFails t none step counts) = absurd (no_end end (sym is ∙ none))
    ended_event P end act2 is p (Calls_on entry t u calls none step answer) = absurd (no_end end (sym is ∙ none))
    ended_event P end act2 is p (Calls_ends entry t calls e none step answer) = absurd (no_end end (sym is ∙ none))
    ended_event P end act2 is p (EventReturns row e none step inside number seen) = absurd (no_end end (sym is ∙ none))
    ended_event P end act2 is p (NoRow none step nothing) = absurd (no_end end (sym is ∙ none))
    ended_event P end act2 is p (NoWord at none step) = absurd (no_end end (sym is ∙ none))
    ended_event P end act2 is p (NoCode at none step) = absurd (no_end end (sym is ∙ none))
    ended_event P end act2 is p (NoFlag at none step) = absurd (no_end end (sym is ∙ none))
    ended_event P end act2 is p (Stays e same) = p

    -- what every event keeps
    record Kept_by (act2 : Activation) : Type 0 where
      cuts : act2.cuts ≡ act.cuts
      instructions : act.machine.instructions ≤ act2.machine.instructions
      failures : act.failures ≤ act2.failures

    kept_event : (act2 : Activation) → Event m.host (code_in g) rows act act2 → Kept_by act2
    kept_event act2 (EventGoes t none step off) = record { cuts = refl; instructions = omega (arith, went_counts act steady t step); failures = omega arith }
    kept_event act2 (EventFails t none step counts) = record { cuts = refl; instructions = omega (arith, went_counts act steady t step); failures = omega arith }
    kept_event act2 (Calls_on entry t u calls none step answer) = record { cuts = refl; instructions = omega (arith, called_counts act steady entry t step, quiet entry act.calls calls t u answer); failures = omega arith }
    kept_event act2 (Calls_ends entry t calls e none step answer) = record { cuts = refl; instructions = omega (arith, called_counts act steady entry t step); failures = omega arith }
    kept_event act2 (EventReturns row e none step inside number seen) = record { cuts = refl; instructions = omega arith; failures = omega arith }
    kept_event act2 (NoRow none step nothing) = record { cuts = refl; instructions = omega arith; failures = omega arith }
    kept_event act2 (NoWord at none step) = record { cuts = refl; instructions = omega arith; failures = omega arith }
    kept_event act2 (NoCode at none step) = record { cuts = refl; instructions = omega arith; failures = omega arith }
    kept_event act2 (NoFlag at none step) = record { cuts = refl; instructions = omega arith; failures = omega arith }
    kept_event act2 (Stays e same) = record { cuts = refl; instructions = omega arith; failures = omega arith }

    going_event : Beside m g b act → (act2 : Activation) → act.end ≡ None → Event m.host (code_in g) rows act act2 → Follows m g b act2
    going_event z act2 none (EventGoes t is step off) = let p = prepare act steady z in goes_on act steady p t step off none (kept_by p (acted Went t) step)
    going_event z act2 none (EventFails t is step counts) = let p = prepare act steady z in fails_on act steady p t step counts none (kept_by p (acted Went t) step)
    going_event z act2 none (Calls_on entry t u calls is step answer) = let p = prepare act steady z in calls_on act steady p entry t u calls step answer none (kept_by p (acted (Stopped (HostCall entry)) t) step)
    going_event z act2 none (Calls_ends entry t calls end is step answer) = let p = prepare act steady z in calls_end act steady p entry t calls end step answer (kept_by p (acted (Stopped (HostCall entry)) t) step)
    going_event z act2 none (EventReturns row end is step inside number seen) = let p = prepare act steady z in shows act steady p row end inside number seen (kept_by p (stops Returned act.machine) step)
    going_event z act2 none (NoRow is step nothing) = let p = prepare act steady z in no_row act steady p (unsigned (reg act.machine (record { 0 = 0 }))) nothing (kept_by p (stops Returned act.machine) step)
    going_event z act2 none (NoWord at is step) = let p = prepare act steady z in stops_wrong act steady p at (Stopped (BadAddress at)) (omega arith) (kept_by p (stops (BadAddress at) act.machine) step)
    going_event z act2 none (NoCode at is step) = let p = prepare act steady z in stops_wrong act steady p at (Stopped (BadCode at)) (omega arith) (kept_by p (stops (BadCode at) act.machine) step)
    going_event z act2 none (NoFlag at is step) = let p = prepare act steady z in stops_wrong act steady p at (Stopped (UndefinedFlag at)) (omega arith) (kept_by p (stops (UndefinedFlag at) act.machine) step)
    going_event z act2 none (Stays end is) = absurd (no_end end (sym is ∙ none))

    strays_event : (q : PieceId) (w : World) → Reached (pieces m.set m.pieces act.cuts) b (Over q (Wrong w)) act.machine.instructions act.failures → (act2 : Activation) → Kept_by act2 → Follows m g b act2
    strays_event q w r act2 k =
        let a = pieces m.set m.pieces act.cuts in
        let x = later a b (Over q (Wrong w)) (Over q (Wrong w)) act.machine.instructions act2.machine.instructions act.failures act2.failures 0 r refl refl (inr refl) k.instructions (omega (arith, r.counted, k.failures)) in
        Strays q w (subst (λ (cuts : Cuts). Reached (pieces m.set m.pieces cuts) b (Over q (Wrong w)) act2.machine.instructions act2.failures) (sym k.cuts) x)

    any_event : Follows m g b act → (act2 : Activation) → Event m.host (code_in g) rows act act2 → Follows m g b act2
    any_event (Goes none z) act2 e = going_event z act2 none e
    any_event (Shows_end end is z) act2 e = ended_event (Follows m g b) end act2 is (Shows_end end is z) e
    any_event (Refuses end is z) act2 e = ended_event (Follows m g b) end act2 is (Refuses end is z) e
    any_event (Strays q w r) act2 e = strays_event q w r act2 (kept_event act2 e)

upto_more : (k h : ℕ) (cuts : Cuts) → AreUpTo k cuts → k ≤ h → AreUpTo h cuts
upto_more k h [] u le = tt
upto_more k h (c ∷ cs) u le = (omega (arith, u.0, le), upto_more k h cs u.1 le)

pub steady_under : (m : Model) (cuts : Cuts) → Steady (pieces m.set m.pieces []) → Steady (pieces m.set m.pieces cuts)
steady_under m cuts s = record { begins = s.begins; goes = s.goes; leaves = s.leaves }

-- an event of an activation keeps it active
pub event_keeps : Relies → (m : Model) → AnswersMakeNone m.host → Steady (pieces m.set m.pieces []) → (g : Image) (bs : List ℕ) (rows : List ExitRow) → IsImage m g bs rows → (b : Begun) (act act2 : Activation) → IsActive m g bs b act → Event m.host (code_in g) rows act act2 → IsActive m g bs b act2
event_keeps law m quiet steady g bs rows image b act act2 z e =
    let s = steady_under m act.cuts steady in
    let k = kept_event law m quiet g bs rows image b act s z.cuts z.upto act2 e in
    record {
      follows = any_event law m quiet g bs rows image b act s z.cuts z.upto z.follows act2 e;
      cuts = ap (map first_of) k.cuts ∙ z.cuts;
      upto = upto_more act.failures act2.failures act2.cuts (subst (AreUpTo act.failures) (sym k.cuts) z.upto) k.failures;
    }
