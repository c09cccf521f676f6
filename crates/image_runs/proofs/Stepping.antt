-- One instruction keeps an activation beside its pieces.
use Rattle.std.proofs.Common.{◌≡◌, ℕ, ◌+◌, ◌≤◌, Bool, true, false, cond, List, [], ◌∷◌, ◌++◌, length, map, append_assoc, refl, sym, ap, ◌∙◌, subst, inl, inr, ◌⊎◌, arith, Option, Some, None}
use Rattle.std.specs.Prelude.{nat_le, ◌&&◌, option_and_then}
use Rattle.std.specs.List.{Contains, AllByRecursion}
use Rattle.std.proofs.lemmas.List.{length-append}
use Rattle.std.proofs.lemmas.Bool.{le-leb}
use Rattle.x64_encode.specs.declared.instr.Instr.TheVariants as instr
use Rattle.x64_machine.specs.declared.state.Stop.TheVariants.{Returned, HostCall}
use Rattle.x64_machine.specs.declared.state.Turn.TheVariants.{Went, Stopped}
use Rattle.x64_machine.specs.State.{State, Acted, acted, stops, went, target, reg}
use Rattle.x64_machine.specs.Step.{MachineStep}
use Rattle.x64_encode.specs.Listing.{Stands as StandsIn}
use Rattle.asm_select.specs.Slots.{Slot, Put, Leave as LeaveSlot, Go, Jumps as Displacements, instr_of, size_of, sizes_of, puts}
use Rattle.guard_exit.specs.Codes.{stub_code, common_code}
use Rattle.trace_meaning.specs.declared.value.Value.{Value}
use Rattle.trace_meaning.specs.World.{World, failed}
use Rattle.trace_meaning.specs.Legs.{Leave, Fails, Jumps, Finishes, Turn, Off, go_on, drive, In, Over, begins, into, enter, settle, next, At as AtLeg, into_leg, land}
use Rattle.trace_ops.specs.declared.piece.PieceId.{PieceId}
use Rattle.trace_ops.specs.declared.piece.OptOp.{OptOp}
use Rattle.opt_meaning.specs.Step.{Opt, opt_step}
use Rattle.trace_meaning.specs.Cuts.{Cuts, seen_bridge, is_bridge_of}
use Rattle.trace_ops.specs.declared.trace.Trace.{Trace}
use Rattle.opt_meaning.specs.Pieces.{seen_piece, PiecesNow, ops_at, begin_at, bridge_piece}
use Rattle.image_runs.specs.Bridges.{attached_bridge, attached_piece}
use Rattle.guard_exit.specs.declared.row.ExitRow.{ExitRow}
use Rattle.image_runs.specs.Counted.{CountsFailure, JumpsBy, TakesJump}
use Rattle.image_runs.specs.Session.{Calls, Answered, Resumes, Stops}
use Rattle.image_runs.specs.Reached.{IsSpot, IsJumpOf}
use Rattle.asm_select.specs.Ended.{IsTaken}
use Rattle.image_runs.specs.Selection.{ended, Exit, Guarded, Jumping, Finishing, Inside, Model, Placed, LeaveIs, EndsAs, AnswerDoes, joined, code_of, start_of, exit_of}
use Rattle.trace_meaning.specs.Observed.{world_left}
use Rattle.image_runs.specs.Image.{Image, code_in, HasSlots, moved, ToStub, ToPiece, GuardLeads, Leads, disp_in, JumpAt, IsImage}
use Rattle.image_runs.specs.Standing.{Way, Walking, Leaving, Calling, Returning, Walks, Leaves, Asks, Returns}
use Rattle.image_runs.specs.Runs.{world_now, Steady}
use Rattle.image_runs.specs.Kept.{AreUpTo, first_of, leg_left, rest_of, Ready, Ahead, Slots, Hosts, Stubs, Lost, Within, Begins, Ends, Replied, Goes_on, Ends_by, Kept, Plainly, Failing, Asking, Returning_by, Straying}
use Rattle.image_runs.proofs.Ways.{spot_in, spots_reached, part, in_code, way_reached, way_tail, stands_slot, taken_goes, no_failure, counted_at}
use Rattle.image_runs.proofs.Settling.{Spot, prog, some_rest, behind, walks}
use Rattle.image_runs.proofs.Bytes.{sizes-append, step_one, size_some}
use Rattle.lists.proofs.Eaches.{each_weaker}
use Rattle.image_runs.specs.Relying.{Relies}

-- ---- cuts

-- a failure now sees exactly what is attached
pub sees_now : (b : List Trace) (cuts : Cuts) (p n k : ℕ) → AreUpTo k cuts → seen_bridge b cuts p n k ≡ attached_bridge b (map first_of cuts) p n
sees_now b [] p n k h = refl
sees_now b (c ∷ cs) p n k h =
    let t : nat_le c.1 k ≡ true = le-leb c.1 k h.0 in
    ap (λ (x : Bool). cond (is_bridge_of b p n c.0 && x) (Some c.0) (seen_bridge b cs p n k)) t ∙ and_true (is_bridge_of b p n c.0) ∙ ap (λ (o : Option ℕ). cond (is_bridge_of b p n c.0) (Some c.0) o) (sees_now b cs p n k h.1)
  where
    and_true : (x : Bool) → cond (x && true) (Some c.0) (seen_bridge b cs p n k) ≡ cond x (Some c.0) (seen_bridge b cs p n k)
    and_true true = refl
    and_true false = refl

-- ---- slots by their places

abbrev slot_tail : List Slot → List Slot
slot_tail [] = []
slot_tail (x ∷ xs) = xs

abbrev slot_head : Slot → List Slot → Slot
slot_head d [] = d
slot_head d (x ∷ xs) = x

pub same_slot : Relies → (f1 f2 b1 b2 : List Slot) (x y : Slot) → f1 ++ x ∷ b1 ≡ f2 ++ y ∷ b2 → sizes_of f1 ≡ sizes_of f2 → x ≡ y
same_slot law [] [] b1 b2 x y e n = ap (slot_head x) e
same_slot law [] (z ∷ f2) b1 b2 x y e n = absurd (omega (arith, n, size_some law z))
same_slot law (z ∷ f1) [] b1 b2 x y e n = absurd (omega (arith, n, size_some law z))
same_slot law (z ∷ f1) (u ∷ f2) b1 b2 x y e n =
    let h : z ≡ u = ap (slot_head z) e in
    let m : size_of z ≡ size_of u = ap size_of h in
    same_slot law f1 f2 b1 b2 x y (ap slot_tail e) (omega (arith, n, m))

abbrev key_of : Slot → ℕ
key_of (Put i) = 0
key_of (LeaveSlot c e) = e
key_of (Go e) = e

pub one_key : (x y : Slot) (d e : ℕ) → x ≡ y → IsJumpOf x d → IsJumpOf y e → d ≡ e
one_key (Put i) y d e h a b = absurd a
one_key (LeaveSlot c k) (Put i) d e h a b = absurd b
one_key (LeaveSlot c k) (LeaveSlot c2 k2) d e h a b = sym a ∙ ap key_of h ∙ b
one_key (LeaveSlot c k) (Go k2) d e h a b = sym a ∙ ap key_of h ∙ b
one_key (Go k) (Put i) d e h a b = absurd b
one_key (Go k) (LeaveSlot c2 k2) d e h a b = sym a ∙ ap key_of h ∙ b
one_key (Go k) (Go k2) d e h a b = sym a ∙ ap key_of h ∙ b

pub jump_of : (e : ℕ) (x : Slot) (t : State) → IsTaken e x t → IsJumpOf x e
jump_of e (Put i) t h = h
jump_of e (LeaveSlot c k) t h = h.0
jump_of e (Go k) t h = h

jumps_by : (by : Displacements) (e f : ℕ) (x : Slot) (s : State) → IsTaken e x s → JumpsBy (instr_of by x) f (f + disp_in x) s.flags
jumps_by by e f (Put i) s h = absurd h
jumps_by by e f (LeaveSlot c k) s h = (refl, h.1)
jumps_by by e f (Go k) s h = refl

pub has_length : (slots : List Slot) (p : ℕ) (xs : List Slot) → HasSlots slots p xs → length xs ≤ length slots
has_length slots p xs h = omega (arith, ap length h.2, length-append h.0 (xs ++ h.1), length-append xs h.1)

has_behind : (slots : List Slot) (p : ℕ) (x : Slot) (xs : List Slot) → HasSlots slots p (x ∷ xs) → HasSlots slots (p + size_of x) xs
has_behind slots p x xs h = (h.0 ++ x ∷ [], h.1, h.2 ∙ sym (append_assoc h.0 (x ∷ []) (xs ++ h.1)), omega (arith, h.3, sizes-append h.0 (x ∷ [])))

abbrev guards : Exit → ℕ
guards (Guarded n) = 1
guards e = 0

module _ (law : Relies) (m : Model) (g : Image) (bs : List ℕ) (rows : List ExitRow) (image : IsImage m g bs rows) (cuts : Cuts) (here : map first_of cuts ≡ bs) (steady : Steady (prog m cuts)) where
  abbrev K : PiecesNow → Calls → State → ℕ → Acted → Type 0
  K x c s todo done = Kept m g (prog m cuts) rows x c s todo done

  stood : (s t : State) → Way g.slots [] s t → s ≡ t
  stood s t way = way g.by (code_in g) image.small (in_code law g.by g.slots image.have)

  -- the machine goes along its path
  went_to : (s w t : State) (us : List State) (done : Acted) → Way g.slots (w ∷ us) s t → MachineStep (code_in g) s done → done ≡ acted Went w
  went_to s w t us done way step = step_one (code_in g) s done (acted Went w) law step (way g.by (code_in g) image.small (in_code law g.by g.slots image.have)).0

  uncounted : (s w t : State) (us : List State) → Way g.slots (w ∷ us) s t → CountsFailure (code_in g) rows s → ⊥
  uncounted s w t us way = no_failure law g rows s w t us image.have image.small image.rows_are way

  -- ---- on a path

  walking_on : (x : PiecesNow) (c : Calls) (s w : State) (us : List State) (todo : ℕ) (done : Acted) → Walking m g x c s (w ∷ us) todo → MachineStep (code_in g) s done → K x c s todo done
  walking_on x c s w us todo done z step =
      let y : Walking m g x c w us (length us + length (joined z.spot.more)) = record {
        pl = z.pl;
        there = z.there;
        rest = z.rest;
        env = z.env;
        now = z.now;
        some = z.some;
        spot = z.spot;
        t = z.t;
        way = way_tail g.slots w us s z.t z.way;
        spots = λ f. (z.spots f).1;
        at = z.at;
        holds = z.holds;
        few = omega arith;
      } in
      Plainly w x 0 us (length us + length (joined z.spot.more)) (went_to s w z.t us done z.way step) (uncounted s w z.t us z.way) refl (Walks y) (Within refl (inl refl) (omega (arith, z.few))) refl

  leaving_on : (x : PiecesNow) (c : Calls) (s w : State) (us : List State) (todo : ℕ) (done : Acted) → Leaving m g x c s (w ∷ us) todo → MachineStep (code_in g) s done → K x c s todo done
  leaving_on x c s w us todo done z step =
      let y : Leaving m g x c w us (length us + 1) = record {
        pl = z.pl;
        there = z.there;
        op = z.op;
        rest = z.rest;
        env = z.env;
        now = z.now;
        done = z.done;
        ops = z.ops;
        leave = z.leave;
        off = z.off;
        told = z.told;
        kind = z.kind;
        front = z.front;
        slot = z.slot;
        behind = z.behind;
        split = z.split;
        t = z.t;
        way = way_tail g.slots w us s z.t z.way;
        spots = λ f. (z.spots f).1;
        at = z.at;
        taken = z.taken;
        left = z.left;
        few = omega arith;
      } in
      Plainly w x 0 us (length us + 1) (went_to s w z.t us done z.way step) (uncounted s w z.t us z.way) refl (Leaves y) (Within refl (inl refl) (omega (arith, z.few))) refl

  calling_on : (x : PiecesNow) (c : Calls) (s w : State) (us : List State) (todo : ℕ) (done : Acted) → Calling m g x c s (w ∷ us) todo → MachineStep (code_in g) s done → K x c s todo done
  calling_on x c s w us todo done z step =
      let y : Calling m g x c w us (length us + (1 + length z.behind)) = record {
        pl = z.pl;
        there = z.there;
        op = z.op;
        rest = z.rest;
        env = z.env;
        now = z.now;
        done = z.done;
        before = z.before;
        xs = z.xs;
        more = z.more;
        ops = z.ops;
        codes = z.codes;
        same = z.same;
        ahead = z.ahead;
        told = z.told;
        register = z.register;
        behind = z.behind;
        t = z.t;
        q = z.q;
        way = way_tail g.slots w us s z.t z.way;
        spots = λ f. (z.spots f).1;
        at = z.at;
        stands = z.stands;
        meets = z.meets;
        call = z.call;
        few = omega arith;
      } in
      Plainly w x 0 us (length us + (1 + length z.behind)) (went_to s w z.t us done z.way step) (uncounted s w z.t us z.way) refl (Asks y) (Within refl (inl refl) (omega (arith, z.few))) refl

  returning_on : (x : PiecesNow) (c : Calls) (s w : State) (us : List State) (todo : ℕ) (done : Acted) → Returning m g x c s (w ∷ us) todo → MachineStep (code_in g) s done → K x c s todo done
  returning_on x c s w us todo done z step =
      let y : Returning m g x c w us (length us + 1) = record {
        pl = z.pl;
        there = z.there;
        op = z.op;
        rest = z.rest;
        done = z.done;
        ops = z.ops;
        leave = z.leave;
        kind = z.kind;
        now = z.now;
        t = z.t;
        way = way_tail g.slots w us s z.t z.way;
        spots = λ f. (z.spots f).1;
        returned = z.returned;
        jump = z.jump;
        number = z.number;
        gone = z.gone;
        few = omega arith;
      } in
      Plainly w x 0 us (length us + 1) (went_to s w z.t us done z.way step) (uncounted s w z.t us z.way) refl (Returns y) (Within refl (inl refl) (omega (arith, z.few))) refl

  -- ---- at the return

  returns : (x : PiecesNow) (c : Calls) (s : State) (todo : ℕ) (done : Acted) → Returning m g x c s [] todo → MachineStep (code_in g) s done → K x c s todo done
  returns x c s todo done z step =
      let same = stood s z.t z.way in
      let back : MachineStep (code_in g) s (stops Returned s) = subst (λ (y : State). MachineStep (code_in g) y (stops Returned y)) (sym same) (z.returned g.by (code_in g) image.small (in_code law g.by g.slots image.have)) in
      Returning_by z.pl z.op z.done z.rest z.leave (step_one (code_in g) s done (stops Returned s) law step back) z.there z.ops z.kind z.jump z.now
      (ap (λ (y : State). reg y (record { 0 = 0 })) same ∙ z.number) (subst (λ (y : State). m.gone z.pl.id (length z.done) z.leave c y) (sym same) z.gone)

  -- ---- at a call

  asks : (x : PiecesNow) (c : Calls) (s : State) (todo : ℕ) (done : Acted) → Calling m g x c s [] todo → MachineStep (code_in g) s done → K x c s todo done
  asks x c s todo done z step =
      let same = stood s z.t z.way in
      let listed = part g.by (code_in g) g.slots z.q (Put (instr.CallReg z.register) ∷ z.behind) z.stands (in_code law g.by g.slots image.have) in
      let stop : MachineStep (code_in g) s (acted (Stopped (HostCall z.call.entry)) z.call.stopped) = subst (λ (y : State). MachineStep (code_in g) y (acted (Stopped (HostCall z.call.entry)) z.call.stopped)) (sym same) (z.call.stops g.by (code_in g) image.small listed) in
      Asking z.call.entry z.call.stopped (step_one (code_in g) s done (acted (Stopped (HostCall z.call.entry)) z.call.stopped) law step stop) (λ o h. replied o (z.call.answered o h))
    where
      replied : (o : Answered) → AnswerDoes m z.pl (length z.before) (z.q + size_of (Put (instr.CallReg z.register))) z.behind (joined z.more) z.env.world (opt_step m.set.table z.op z.env) z.call.stopped o → Replied m g (prog m cuts) x z.call.stopped todo o
      replied (Stops c2 end) h = Ends_by c2 end z.pl.id z.op z.rest z.env z.now h
      replied (Resumes c2 u) h =
          let a = prog m cuts in
          let after = h.0 in
          let r = h.2 in
          let q2 = z.q + size_of (Put (instr.CallReg z.register)) in
          let stands : HasSlots g.slots q2 z.behind = has_behind g.slots z.q (Put (instr.CallReg z.register)) z.behind z.stands in
          let way = way_reached g.slots q2 z.behind (joined z.more) u stands r in
          let front : sizes_of z.behind ≡ sizes_of r.run.front + sizes_of (joined z.more) = ap sizes_of r.run.split ∙ sizes-append r.run.front (joined z.more) in
          let at : r.run.t.at ≡ 0x40000000 + (start_of z.pl + sizes_of (joined (z.before ++ z.xs ∷ []))) = omega (arith, r.run.at, r.run.place, front, z.meets) in
          let spot : Spot m z.pl z.op z.rest = record { done = z.done; before = z.before; xs = z.xs; more = z.more; ops = z.ops; codes = z.codes; same = z.same; ahead = z.ahead } in
          let w = walks law m g bs rows image cuts steady z.pl z.there z.op z.rest z.env after c2 u r.run.t r.run.path (length z.behind) spot h.1 way at (subst (λ (n : ℕ). m.holds z.pl.id n after c2 r.run.t) (omega (arith, length-append z.before (z.xs ∷ []))) r.run.holds) r.run.few (spots_reached g.slots q2 z.behind (joined z.more) u stands h.3 r) in
          let gone : next a x ≡ In z.pl.id z.rest after = ap (next a) z.now ∙ ap (settle a z.pl.id z.rest) h.1 in
          let left : leg_left a (In z.pl.id z.rest after) ≡ leg_left a x = ap (λ (t : Turn Opt). land a z.pl.id (go_on t (drive a.step a.world z.rest))) (sym h.1) ∙ ap (leg_left a) (sym z.now) in
          Goes_on c2 u (In z.pl.id z.rest after) r.run.path (length z.behind) gone (Walks w) left (ap (λ (t : Turn Opt). some_rest z.pl.id (go_on t (drive a.step a.world z.rest))) (sym h.1) ∙ ap (rest_of a) (sym z.now)) (omega (arith, z.few)) (steady.goes z.op z.env after h.1 ∙ ap (λ (y : PiecesNow). (world_now a y).failures) (sym z.now))

  -- ---- at a jump

  start_spot : (to : Placed) → HasSlots g.slots to.at (code_of to) → (u : State) → u.at ≡ 0x40000000 + start_of to → IsSpot 0 g.slots u
  start_spot to h u at = spot_in g.slots to.at (code_of to) h u (to.moves, joined to.codes, refl, at ∙ omega arith)

  -- a place at which an operation is left
  record Slotted (pl : Placed) (op : OptOp) (rest : List OptOp) (env : Opt) (l : Leave) (c : Calls) (s : State) : Type 0 where
    there : Contains g.placed pl
    done : List OptOp
    ops : ops_at m.pieces pl.id ≡ done ++ op ∷ rest
    off : opt_step m.set.table op env ≡ Off l
    front : List Slot
    slot : Slot
    back : List Slot
    split : g.slots ≡ front ++ slot ∷ back
    at : s.at ≡ 0x40000000 + sizes_of front
    taken : IsTaken (pl.key + length done) slot s
    left : m.left pl.id (length done) l c s

  slotted : (x : PiecesNow) (c : Calls) (s : State) (todo : ℕ) (z : Leaving m g x c s [] todo) → Slotted z.pl z.op z.rest z.env z.leave c s
  slotted x c s todo z =
      let same = stood s z.t z.way in record {
        there = z.there;
        done = z.done;
        ops = z.ops;
        off = z.off;
        front = z.front;
        slot = z.slot;
        back = z.behind;
        split = z.split;
        at = ap (λ (y : State). y.at) same ∙ z.at;
        taken = subst (λ (y : State). IsTaken (z.pl.key + length z.done) z.slot y) (sym same) z.taken;
        left = subst (λ (y : State). m.left z.pl.id (length z.done) z.leave c y) (sym same) z.left;
      }

  module _ (pl : Placed) (op : OptOp) (rest : List OptOp) (env : Opt) (l : Leave) (c : Calls) (s : State) (z : Slotted pl op rest env l c s) where
    abbrev j : ℕ
    j = length z.done

    abbrev behind_slot : ℕ
    behind_slot = 0x40000000 + (sizes_of z.front + size_of z.slot)

    abbrev goal : ℕ
    goal = target behind_slot (g.by (pl.key + j))

    stands_here : StandsIn (code_in g) (sizes_of z.front) (instr_of g.by z.slot)
    stands_here = stands_slot g.by (code_in g) g.slots z.front z.back z.slot z.split (in_code law g.by g.slots image.have)

    jumps_there : (done : Acted) → MachineStep (code_in g) s done → done ≡ acted Went (moved goal s)
    jumps_there done step = step_one (code_in g) s done (went goal s) law step (taken_goes g.by (code_in g) (sizes_of z.front) (pl.key + j) z.slot s image.small z.at z.taken stands_here)

    exit_here : g.exit (pl.key + j) ≡ exit_of op
    exit_here = ((image.pieces pl z.there).exits z.done rest op z.ops).0

    jump_here : JumpAt g (pl.key + j)
    jump_here = record { front = z.front; slot = z.slot; behind = z.back; split = z.split; jump = jump_of (pl.key + j) z.slot s z.taken }

    counts : (n : ℕ) → exit_of op ≡ Guarded n → CountsFailure (code_in g) rows s
    counts n e =
        let x : JumpAt g (pl.key + j) = record { front = z.front; slot = z.slot; behind = z.back; split = z.split; jump = jump_of (pl.key + j) z.slot s z.taken } in
        let r = image.rows_are.guards (pl.key + j) n x (exit_here ∙ e) in
        let takes : TakesJump (code_in g) r.0.at s = record {
          place = sizes_of z.front;
          instr = instr_of g.by z.slot;
          here = z.at;
          stands = stands_here;
          jumps = subst (λ (k : ℕ). JumpsBy (instr_of g.by z.slot) (sizes_of z.front) k s.flags) (sym r.1) (jumps_by g.by (pl.key + j) (sizes_of z.front) z.slot s z.taken);
        } in
        (r.0, r.2.0, (n, r.2.3), takes)

    counts_not : (e : Exit) → exit_of op ≡ e → ((n : ℕ) → e ≡ Guarded n → ⊥) → CountsFailure (code_in g) rows s → ⊥
    counts_not e is other h =
        let y = counted_at law g rows s image.have image.rows_are h in
        let n : sizes_of z.front ≡ sizes_of y.x.front = omega (arith, z.at, y.at) in
        let same = same_slot law z.front y.x.front z.back y.x.behind z.slot y.x.slot (sym z.split ∙ y.x.split) n in
        let key = one_key z.slot y.x.slot (pl.key + j) y.e same (jump_of (pl.key + j) z.slot s z.taken) y.x.jump in
        other y.n (sym is ∙ sym exit_here ∙ ap g.exit key ∙ y.exit)

    leads_here : Leads m g bs pl j behind_slot (exit_of op)
    leads_here = (image.pieces pl z.there).leads z.done rest op z.front z.back z.slot z.ops z.split (jump_of (pl.key + j) z.slot s z.taken)

    abbrev x : PiecesNow
    x = In pl.id (op ∷ rest) env

    goes_by : next (prog m cuts) x ≡ enter (prog m cuts) pl.id l
    goes_by = ap (settle (prog m cuts) pl.id rest) z.off

    leg_by : leg_left (prog m cuts) x ≡ land (prog m cuts) pl.id l
    leg_by = ap (λ (t : Turn Opt). land (prog m cuts) pl.id (go_on t (drive (opt_step m.set.table) (λ (x : Opt). x.world) rest))) z.off

    world_by : (world_left l).failures ≡ (world_now (prog m cuts) x).failures
    world_by = steady.leaves op env l z.off

    -- into a piece
    enters_piece : (to : Placed) → Contains g.placed to → (vs : List Value) (w : World) (u t : State) (path : List State) → Way g.slots path u t → t.at ≡ 0x40000000 + start_of to → m.holds to.id 0 (begin_at m.pieces to.id vs w) c t → (m.followed → AllByRecursion (IsSpot 0 g.slots) (u ∷ path)) → Walking m g (begins (prog m cuts) to.id vs w) c u path (length path + length (joined to.codes))
    enters_piece to there vs w u t path way at holds spots =
        let does = (image.pieces to there).does in record {
          pl = to;
          there = there;
          rest = ops_at m.pieces to.id;
          env = begin_at m.pieces to.id vs w;
          now = refl;
          some = does.some;
          spot = record { done = []; before = []; more = to.codes; ops = refl; codes = refl; same = refl; ahead = does.counts };
          t = t;
          way = way;
          spots = spots;
          at = omega (arith, at);
          holds = holds;
          few = omega arith;
        }

    -- into a stub
    enters_stub : ToStub m g pl j behind_slot → EndsAs (exit_of op) l → (n : ℕ) → n ≡ goal → (path : List State) × Returning m g (Over pl.id (ended l)) c (moved n s) path 16
    enters_stub to kind n is =
        let here : n ≡ 0x40000000 + g.stub (pl.key + j) = is ∙ to.goes in
        let r = to.exits l c n s z.left here in (
          r.path,
          record {
            pl = pl;
            there = z.there;
            op = op;
            rest = rest;
            done = z.done;
            ops = z.ops;
            leave = l;
            kind = kind;
            now = refl;
            t = r.t;
            way = λ by code small listed. r.along by code small (part by code g.slots (g.stub (pl.key + j)) (puts (stub_code (g.leap (pl.key + j)) (g.number (pl.key + j)))) to.here listed) (part by code g.slots g.common (puts common_code) image.common listed);
            spots = λ followed. (
              spot_in g.slots (g.stub (pl.key + j)) (puts (stub_code (g.leap (pl.key + j)) (g.number (pl.key + j)))) to.here (moved n s) ([], puts (stub_code (g.leap (pl.key + j)) (g.number (pl.key + j))), refl, omega (arith, here)),
              each_weaker (λ (x : State). IsSpot (g.stub (pl.key + j)) (puts (stub_code (g.leap (pl.key + j)) (g.number (pl.key + j)))) x ⊎ IsSpot g.common (puts common_code) x) (IsSpot 0 g.slots) either_spot r.path (r.spots followed),
            );
            returned = λ by code small listed. r.returned by code small (part by code g.slots g.common (puts common_code) image.common listed);
            jump = jump_here;
            number = r.number;
            gone = r.gone;
            few = omega (arith, r.few);
          },
        )
      where
        either_spot : (x : State) → IsSpot (g.stub (pl.key + j)) (puts (stub_code (g.leap (pl.key + j)) (g.number (pl.key + j)))) x ⊎ IsSpot g.common (puts common_code) x → IsSpot 0 g.slots x
        either_spot x (inl k) = spot_in g.slots (g.stub (pl.key + j)) (puts (stub_code (g.leap (pl.key + j)) (g.number (pl.key + j)))) to.here x k
        either_spot x (inr k) = spot_in g.slots g.common (puts common_code) image.common x k

  seen_now : (q : PieceId) (n k : ℕ) → AreUpTo k cuts → seen_piece m.set m.pieces cuts q n k ≡ attached_piece m.set.traces m.pieces bs q n
  seen_now q n k upto = ap (option_and_then (bridge_piece m.pieces q.half)) (sees_now m.set.traces cuts q.trace n k upto ∙ ap (λ (l : List ℕ). attached_bridge m.set.traces l q.trace n) here)

  fails : (pl : Placed) (op : OptOp) (rest : List OptOp) (env : Opt) (vs : List Value) (w : World) (n : ℕ) (c : Calls) (s : State) (todo : ℕ) (z : Slotted pl op rest env (Fails n vs w) c s) (done : Acted) → AreUpTo (world_now (prog m cuts) (In pl.id (op ∷ rest) env)).failures cuts → MachineStep (code_in g) s done → exit_of op ≡ Guarded n → 1 ≤ todo
      → (o : Option PieceId) → attached_piece m.set.traces m.pieces bs pl.id n ≡ o → GuardLeads m g pl (length z.done) n (0x40000000 + (sizes_of z.front + size_of z.slot)) o → K (In pl.id (op ∷ rest) env) c s todo done
  fails pl op rest env vs w n c s todo z done upto step is some o seen leads =
      let a = prog m cuts in
      let l = Fails n vs w in
      let sees : seen_piece m.set m.pieces cuts pl.id n w.failures ≡ o = ap (seen_piece m.set m.pieces cuts pl.id n) (world_by pl op rest env l c s z) ∙ seen_now pl.id n _ upto ∙ seen in
      let went_there = jumps_there pl op rest env l c s z done step in
      let counted = counts pl op rest env l c s z n is in
      let gone = goes_by pl op rest env l c s z ∙ ap (into a pl.id n vs w) sees in
      let led = leg_by pl op rest env l c s z ∙ ap (into_leg pl.id n vs w) sees in
      goes o leads went_there counted gone led
    where
      goes : (o : Option PieceId) → GuardLeads m g pl (length z.done) n (0x40000000 + (sizes_of z.front + size_of z.slot)) o → done ≡ acted Went (moved (goal pl op rest env (Fails n vs w) c s z) s) → CountsFailure (code_in g) rows s
          → next (prog m cuts) (In pl.id (op ∷ rest) env) ≡ into (prog m cuts) pl.id n vs w o → leg_left (prog m cuts) (In pl.id (op ∷ rest) env) ≡ into_leg pl.id n vs w o → K (In pl.id (op ∷ rest) env) c s todo done
      goes None to did counted gone led =
          let l = Fails n vs w in
          let r = enters_stub pl op rest env l c s z to (subst (λ (e : Exit). EndsAs e l) (sym is) refl) (goal pl op rest env l c s z) refl in
          Failing (moved (goal pl op rest env l c s z) s) (Over pl.id (Fails n vs (failed w))) r.0 16 did counted gone (Returns r.1)
          (Ends pl.id (Fails n vs (failed w)) refl led refl (omega arith) some)
          (ap (λ (k : ℕ). k + 1) (world_by pl op rest env l c s z))
      goes (Some q) to did counted gone led =
          let a = prog m cuts in
          let l = Fails n vs w in
          let there = to.there in
          let r = to.enters vs w c (goal pl op rest env l c s z) s z.left to.goes in
          let has = (image.pieces to.to there).here in
          let at : r.run.t.at ≡ 0x40000000 + start_of to.to = omega (arith, r.run.at, r.run.place, behind to.to.moves r.run.front (joined to.to.codes) r.run.split) in
          let walk = enters_piece pl op rest env l c s z to.to there vs (failed w) (moved (goal pl op rest env l c s z) s) r.run.t r.run.path (way_reached g.slots to.to.at (code_of to.to) (joined to.to.codes) _ has r) at r.run.holds (spots_reached g.slots to.to.at (code_of to.to) (joined to.to.codes) (moved (goal pl op rest env l c s z) s) has to.goes r) in
          Failing (moved (goal pl op rest env l c s z) s) (begins a to.to.id vs (failed w)) r.run.path (length r.run.path + length (joined to.to.codes)) did counted (gone ∙ ap (λ (i : PieceId). begins a i vs (failed w)) (sym to.named)) (Walks walk)
          (Begins to.to.id vs (failed w) (led ∙ ap (λ (i : PieceId). AtLeg i vs (failed w)) (sym to.named)) refl refl (omega (arith, r.run.few, has_length g.slots to.to.at (code_of to.to) has)) some)
          (ap (λ (u : World). u.failures) (steady.begins to.to.id vs (failed w)) ∙ ap (λ (k : ℕ). k + 1) (world_by pl op rest env l c s z))

  jumps_off : (pl : Placed) (op : OptOp) (rest : List OptOp) (env : Opt) (vs : List Value) (w : World) (c : Calls) (s : State) (todo : ℕ) (z : Slotted pl op rest env (Jumps vs w) c s) (done : Acted) → MachineStep (code_in g) s done → exit_of op ≡ Jumping → 1 ≤ todo
      → ToPiece m g pl (length z.done) (0x40000000 + (sizes_of z.front + size_of z.slot)) → K (In pl.id (op ∷ rest) env) c s todo done
  jumps_off pl op rest env vs w c s todo z done step is some to =
      let a = prog m cuts in
      let l = Jumps vs w in
      let n = goal pl op rest env l c s z in
      let does = (image.pieces to.to to.there) in
      let walk = enters_piece pl op rest env l c s z to.to to.there vs w (moved n s) (moved n s) [] (λ by code small listed. refl) to.goes (to.enters vs w c n s z.left to.goes) (λ f. (start_spot to.to does.here (moved n s) to.goes, tt)) in
      Plainly (moved n s) (begins a to.to.id vs w) 1 [] (0 + length (joined to.to.codes)) (jumps_there pl op rest env l c s z done step)
      (counts_not pl op rest env l c s z Jumping is (λ k e. no_jump k e))
      (goes_by pl op rest env l c s z ∙ ap (λ (i : PieceId). begins a i vs w) (sym to.named))
      (Walks walk)
      (Begins to.to.id vs w (leg_by pl op rest env l c s z ∙ ap (λ (i : PieceId). AtLeg i vs w) (sym to.named)) refl refl (omega (arith, length-append to.to.moves (joined to.to.codes), has_length g.slots to.to.at (code_of to.to) does.here)) some)
      (ap (λ (u : World). u.failures) (steady.begins to.to.id vs w) ∙ world_by pl op rest env l c s z)
    where
      no_jump : (k : ℕ) → Jumping ≡ Guarded k → ⊥
      no_jump k e = (let n : 0 ≡ 1 = ap guards e in omega (arith, n))

  finishes : (pl : Placed) (op : OptOp) (rest : List OptOp) (env : Opt) (vs : List Value) (w : World) (c : Calls) (s : State) (todo : ℕ) (z : Slotted pl op rest env (Finishes vs w) c s) (done : Acted) → MachineStep (code_in g) s done → exit_of op ≡ Finishing → 1 ≤ todo
      → ToStub m g pl (length z.done) (0x40000000 + (sizes_of z.front + size_of z.slot)) → K (In pl.id (op ∷ rest) env) c s todo done
  finishes pl op rest env vs w c s todo z done step is some to =
      let l = Finishes vs w in
      let n = goal pl op rest env l c s z in
      let r = enters_stub pl op rest env l c s z to (subst (λ (e : Exit). EndsAs e l) (sym is) tt) n refl in
      Plainly (moved n s) (Over pl.id l) 1 r.0 16 (jumps_there pl op rest env l c s z done step)
      (counts_not pl op rest env l c s z Finishing is (λ k e. no_finish k e))
      (goes_by pl op rest env l c s z)
      (Returns r.1)
      (Ends pl.id l refl (leg_by pl op rest env l c s z) refl (omega arith) some)
      (world_by pl op rest env l c s z)
    where
      no_finish : (k : ℕ) → Finishing ≡ Guarded k → ⊥
      no_finish k e = (let n : 0 ≡ 1 = ap guards e in omega (arith, n))

  leaves : (pl : Placed) (op : OptOp) (rest : List OptOp) (env : Opt) (l : Leave) (c : Calls) (s : State) (todo : ℕ) (z : Slotted pl op rest env l c s) (done : Acted) → AreUpTo (world_now (prog m cuts) (In pl.id (op ∷ rest) env)).failures cuts → MachineStep (code_in g) s done → 1 ≤ todo → (e : Exit) → exit_of op ≡ e → LeaveIs e l → Leads m g bs pl (length z.done) (0x40000000 + (sizes_of z.front + size_of z.slot)) e → K (In pl.id (op ∷ rest) env) c s todo done
  leaves pl op rest env (Fails n vs w) c s todo z done upto step some (Guarded k) is kind leads =
      let same : k ≡ n = sym kind in
      fails pl op rest env vs w n c s todo z done upto step (is ∙ ap Guarded same) some (attached_piece m.set.traces m.pieces bs pl.id n) refl (subst (λ (i : ℕ). GuardLeads m g pl (length z.done) i (0x40000000 + (sizes_of z.front + size_of z.slot)) (attached_piece m.set.traces m.pieces bs pl.id i)) same leads)
  leaves pl op rest env (Jumps vs w) c s todo z done upto step some Jumping is kind leads = jumps_off pl op rest env vs w c s todo z done step is some leads
  leaves pl op rest env (Finishes vs w) c s todo z done upto step some Finishing is kind leads = finishes pl op rest env vs w c s todo z done step is some leads
  leaves pl op rest env l c s todo z done upto step some (Guarded k) is kind leads = absurd kind
  leaves pl op rest env l c s todo z done upto step some Jumping is kind leads = absurd kind
  leaves pl op rest env l c s todo z done upto step some Finishing is kind leads = absurd kind
  leaves pl op rest env l c s todo z done upto step some Inside is kind leads = absurd kind

  leaving : (x : PiecesNow) (c : Calls) (s : State) (todo : ℕ) (done : Acted) → AreUpTo (world_now (prog m cuts) x).failures cuts → Leaving m g x c s [] todo → MachineStep (code_in g) s done → K x c s todo done
  leaving x c s todo done upto y step =
      let z = slotted x c s todo y in
      let upto2 = subst (λ (v : PiecesNow). AreUpTo (world_now (prog m cuts) v).failures cuts) y.now upto in
      subst (λ (v : PiecesNow). K v c s todo done) (sym y.now)
      (leaves y.pl y.op y.rest y.env y.leave c s todo z done upto2 step (omega (arith, y.few)) (exit_of y.op) refl y.kind (leads_here y.pl y.op y.rest y.env y.leave c s z))

  -- ---- one instruction

  pub keeps : (x : PiecesNow) (c : Calls) (s : State) (todo : ℕ) (done : Acted) → AreUpTo (world_now (prog m cuts) x).failures cuts → Ready m g x c s todo → MachineStep (code_in g) s done → K x c s todo done
  keeps x c s todo done upto (Ahead w path z) step = walking_on x c s w path todo done z step
  keeps x c s todo done upto (Slots [] z) step = leaving x c s todo done upto z step
  keeps x c s todo done upto (Slots (w ∷ path) z) step = leaving_on x c s w path todo done z step
  keeps x c s todo done upto (Hosts [] z) step = asks x c s todo done z step
  keeps x c s todo done upto (Hosts (w ∷ path) z) step = calling_on x c s w path todo done z step
  keeps x c s todo done upto (Stubs [] z) step = returns x c s todo done z step
  keeps x c s todo done upto (Stubs (w ∷ path) z) step = returning_on x c s w path todo done z step
  keeps x c s todo done upto (Lost q w e) step = Straying q w e
