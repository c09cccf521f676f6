-- Selected pieces do what their operations do.
use Rattle.std.proofs.Common.{◌≡◌, ℕ, ◌+◌, ◌^◌, ◌<◌, List, [], ◌∷◌, ◌++◌, length, drop, append_assoc, refl, sym, ap, ◌∙◌, subst, inl, inr, arith, ◌⊎◌, Some}
use Rattle.std.specs.Prelude.{slice_get}
use Rattle.lists.proofs.Appends.{get_middle}
use Rattle.trace_ops.specs.declared.trace.TraceSet.{TraceSet}
use Rattle.trace_ops.specs.declared.piece.Piece.{Piece}
use Rattle.trace_ops.specs.declared.piece.PieceId.{PieceId}
use Rattle.trace_ops.specs.declared.piece.OptOp.{OptOp}
use Rattle.trace_ops.specs.declared.piece.OptOp.TheVariants as opt
use Rattle.trace_meaning.specs.World.{World, events}
use Rattle.trace_meaning.specs.Legs.{Leave, Fails, Jumps, Finishes, Waits, Misfits, Wrong, Turn, On, Off}
use Rattle.trace_meaning.specs.Observed.{world_left}
use Rattle.opt_meaning.specs.Step.{Opt, opt_step}
use Rattle.opt_meaning.specs.Pieces.{ops_at}
use Rattle.guard_exit.specs.Codes.{register}
use Rattle.x64_machine.specs.State.{State}
use Rattle.asm_select.specs.declared.told.Told.{Told}
use Rattle.asm_select.specs.declared.told.Told.TheVariants as tell
use Rattle.x64_encode.specs.declared.instr.Instr.TheVariants as instr
use Rattle.trace_ops.specs.declared.table.Table.{Table}
use Rattle.asm_select.specs.Slots.{Slot, Put, sizes_of}
use Rattle.asm_select.specs.Chosen.{Setting, told_by}
use Rattle.asm_select.specs.Reached.{Reach, Holds, AreApart}
use Rattle.asm_select.specs.Ended.{IsHere, LeavesWith, Counts, ComesTo, FollowsBy, CodeFollows, loads_of, stores_of}
use Rattle.asm_select.specs.Asked.{AreSafe, AreChosen, CallsBy, CallsFollow, HostLeft, given_by, call_size, entry_by, in_host, returned}
use Rattle.asm_select.specs.Asked as asked
use Rattle.image_runs.specs.Session.{Calls, Answered, Resumes, Stops, End, Shows, Full, Waiting, Misfitting, Lost, Host}
use Rattle.image_runs.specs.Reached.{Comes}
use Rattle.image_runs.specs.Selection.{Model, Placed, LeaveIs, ComesOff, CallsHost, AnswerDoes, Does, EndsBy, PieceDoes, exit_of, joined, start_of}
use Rattle.image_model.specs.Ready.{IsReady, LeavesKinds, ReadyOn, StaysReady}
use Rattle.image_model.specs.Modelled.{SameCalls, HoldsAt, told_at, model_of}
use Rattle.image_model.specs.Laws.{codes_from, IsSelected, EndsSo, ServedSo, HostServes}
use Rattle.image_model.proofs.CallsKept.{Alike, TurnKeeps, step_keeps_calls, closes_off}
use Rattle.image_model.proofs.Splitting.{Split, split_at, codes_count}

sizes-append : (xs ys : List Slot) → sizes_of (xs ++ ys) ≡ sizes_of xs + sizes_of ys
sizes-append [] ys = omega arith
sizes-append (x ∷ xs) ys = omega (arith, sizes-append xs ys)

joined-append : (xs ys : List (List Slot)) → joined (xs ++ ys) ≡ joined xs ++ joined ys
joined-append [] ys = refl
joined-append (x ∷ xs) ys = ap (λ (l : List Slot). x ++ l) (joined-append xs ys) ∙ sym (append_assoc x (joined xs) (joined ys))

-- nothing is said of the instruction pointer
comes_of : {R Q : State → Type 0} (p : ℕ) (xs : List Slot) (s : State) (ys : List Slot) → ((t : State) → R t → Q t) → Reach p xs s ys R → Comes ⊥ p xs s ys Q
comes_of p xs s ys f r = record {
  run = record { path = r.path; few = r.few; t = r.t; q = r.q; comes = r.comes; front = r.front; split = r.split; place = r.place; at = r.at; holds = f r.t r.holds };
  spots = λ x. absurd x;
}

leave_is : (st : Setting) (op : OptOp) (l : Leave) (t : State) → LeavesWith st op l t → LeaveIs (exit_of op) l
leave_is st (opt.Plain operation r args d) (Fails k vs w) t h = absurd h
leave_is st (opt.Plain operation r args d) (Jumps vs w) t h = absurd h
leave_is st (opt.Plain operation r args d) (Finishes vs w) t h = absurd h
leave_is st (opt.Plain operation r args d) (Waits w) t h = absurd h
leave_is st (opt.Plain operation r args d) (Misfits w) t h = absurd h
leave_is st (opt.Plain operation r args d) (Wrong w) t h = absurd h
leave_is st (opt.Guard operation args n snap) (Fails k vs w) t h = h.0
leave_is st (opt.Guard operation args n snap) (Jumps vs w) t h = absurd h
leave_is st (opt.Guard operation args n snap) (Finishes vs w) t h = absurd h
leave_is st (opt.Guard operation args n snap) (Waits w) t h = absurd h
leave_is st (opt.Guard operation args n snap) (Misfits w) t h = absurd h
leave_is st (opt.Guard operation args n snap) (Wrong w) t h = absurd h
leave_is st (opt.Exit n snap) (Fails k vs w) t h = h.0
leave_is st (opt.Exit n snap) (Jumps vs w) t h = absurd h
leave_is st (opt.Exit n snap) (Finishes vs w) t h = absurd h
leave_is st (opt.Exit n snap) (Waits w) t h = absurd h
leave_is st (opt.Exit n snap) (Misfits w) t h = absurd h
leave_is st (opt.Exit n snap) (Wrong w) t h = absurd h
leave_is st (opt.Jump to args) (Fails k vs w) t h = absurd h
leave_is st (opt.Jump to args) (Jumps vs w) t h = tt
leave_is st (opt.Jump to args) (Finishes vs w) t h = absurd h
leave_is st (opt.Jump to args) (Waits w) t h = absurd h
leave_is st (opt.Jump to args) (Misfits w) t h = absurd h
leave_is st (opt.Jump to args) (Wrong w) t h = absurd h
leave_is st (opt.Finish value) (Fails k vs w) t h = absurd h
leave_is st (opt.Finish value) (Jumps vs w) t h = absurd h
leave_is st (opt.Finish value) (Finishes vs w) t h = tt
leave_is st (opt.Finish value) (Waits w) t h = absurd h
leave_is st (opt.Finish value) (Misfits w) t h = absurd h
leave_is st (opt.Finish value) (Wrong w) t h = absurd h

same_calls : (w u : World) (c : Calls) → Alike w u → SameCalls w c → SameCalls u c
same_calls w u c k h = record { log = h.log ∙ ap events (sym k.0); answers = h.answers ∙ sym k.1 }

module _ (code_follows : CodeFollows) (calls_follow : CallsFollow) (host : Host) (set : TraceSet) (whole ps : List Piece) (settings : PieceId → Setting) (pl : Placed) (serves : HostServes host set.table) (z : IsSelected set whole ps settings pl) where
  abbrev m : Model
  m = model_of host set whole settings ps

  abbrev st : Setting
  st = settings pl.id

  abbrev told : List OptOp → ℕ → Told
  told ops n = told_at tell.Nothing ops n

  -- ---- one operation

  module _ (done : List OptOp) (op : OptOp) (rest : List OptOp) (before more : List (List Slot)) (xs : List Slot) (env : Opt) (c : Calls) (s : State)
      (e : ops_at whole pl.id ≡ done ++ op ∷ rest) (codes : pl.codes ≡ before ++ xs ∷ more) (same : length done ≡ length before) (y : Split st pl.key tell.Nothing (done ++ op ∷ rest) done op rest xs more) where
    abbrev all : List OptOp
    all = done ++ op ∷ rest

    abbrev j : ℕ
    j = length before

    abbrev p : ℕ
    p = start_of pl + sizes_of (joined before)

    abbrev X : List Slot
    X = xs ++ joined more

    abbrev Y : List Slot
    Y = joined more

    now : HoldsAt st (ops_at whole pl.id) j env c s → Holds st (told all (length done)) (op ∷ rest) env s
    now h =
        let a = subst (λ (l : List OptOp). Holds st (told l j) (drop j l) env s) e h.0 in
        let b = subst (λ (n : ℕ). Holds st (told all n) (drop n all) env s) (sym same) a in
        subst (λ (l : List OptOp). Holds st (told all (length done)) l env s) y.here b

    ready_now : HoldsAt st (ops_at whole pl.id) j env c s → StaysReady st.table (op ∷ rest) env
    ready_now h =
        let a = subst (λ (l : List OptOp). StaysReady st.table (drop j l) env) e h.2 in
        let b = subst (λ (n : ℕ). StaysReady st.table (drop n all) env) (sym same) a in
        subst (λ (l : List OptOp). StaysReady st.table l env) y.here b

    ready_next : (after : Opt) → StaysReady st.table rest after → StaysReady st.table (drop (j + 1) (ops_at whole pl.id)) after
    ready_next after k =
        let a = subst (λ (l : List OptOp). StaysReady st.table l after) (sym y.after) k in
        let b = subst (λ (n : ℕ). StaysReady st.table (drop (n + 1) all) after) same a in
        subst (λ (l : List OptOp). StaysReady st.table (drop (j + 1) l) after) (sym e) b

    next : (after : Opt) (t : State) (d : Calls) → Holds st (told_by op rest) rest after t → SameCalls after.world d → StaysReady st.table rest after → HoldsAt st (ops_at whole pl.id) (j + 1) after d t
    next after t d k calls ready =
        let a = subst (λ (l : List OptOp). Holds st (told_by op rest) l after t) (sym y.after) k in
        let b = subst (λ (x : Told). Holds st x (drop (length done + 1) all) after t) (sym y.told_next) a in
        let g = subst (λ (n : ℕ). Holds st (told all (n + 1)) (drop (n + 1) all) after t) same b in
        (subst (λ (l : List OptOp). Holds st (told l (j + 1)) (drop (j + 1) l) after t) (sym e) g, calls, ready_next after ready)

    named : slice_get (ops_at whole pl.id) j ≡ Some op
    named = ap (λ (l : List OptOp). slice_get l j) e ∙ ap (slice_get all) (sym same) ∙ get_middle done op rest

    comes : (also : State → Type 0) (l : Leave) → ComesTo also st (pl.key + j) op X p s l → SameCalls (world_left l) c → LeavesKinds st.table op l → ComesOff m pl j op X p s c l
    comes also l f h kinds = record {
      slot = f.0;
      behind = f.1;
      reach = comes_of p X s (f.0 ∷ f.1) (λ t r. (r.0.taken, (op, named, record { fit = r.0.fit; arena = r.0.arena; prebuilts = r.0.prebuilts; parts = r.0.parts; with = r.0.with; kinds = kinds }, h))) f.2;
      kind = leave_is st op l f.2.t f.2.holds.0.with;
    }

    follows : (also : State → Type 0) (turn : Turn Opt) → FollowsBy also st (pl.key + j) op rest X Y p s turn → TurnKeeps env.world turn → SameCalls env.world c → ReadyOn st.table op (StaysReady st.table rest) turn → Does m pl j op X Y p s c env.world turn
    follows also (On after) f k h r = inl (comes_of p X s Y (λ t x. next after t c x.0 (same_calls env.world after.world c k h) r) f)
    follows also (Off (Fails n vs w)) f k h r = comes also (Fails n vs w) f (same_calls env.world w c k h) r
    follows also (Off (Jumps vs w)) f k h r = comes also (Jumps vs w) f (same_calls env.world w c k h) r
    follows also (Off (Finishes vs w)) f k h r = comes also (Finishes vs w) f (same_calls env.world w c k h) r
    follows also (Off (Waits w)) f k h r = absurd f
    follows also (Off (Misfits w)) f k h r = absurd f
    follows also (Off (Wrong w)) f k h r = tt

    -- ---- a call

    few : (q : ℕ) (front tail : List Slot) → X ≡ front ++ Put (instr.CallReg (register 11)) ∷ tail → q ≡ p + sizes_of front → q + call_size < 2 ^ 32
    few q front tail split place =
        let whole : sizes_of (joined pl.codes) ≡ sizes_of (joined before) + sizes_of X = ap (λ (l : List (List Slot)). sizes_of (joined l)) codes ∙ ap sizes_of (joined-append before (xs ∷ more)) ∙ sizes-append (joined before) X in
        let part : sizes_of X ≡ sizes_of front + (call_size + sizes_of tail) = ap sizes_of split ∙ sizes-append front (Put (instr.CallReg (register 11)) ∷ tail) in
        omega (arith, whole, part, place, z.small)

    calls : (also : State → Type 0) (turn : Turn Opt) (f : asked.Stops also st op env X p s) → ((o : Answered) → host.answers (entry_by op) c (in_host op f.q f.u) o → AnswerDoes m pl j (f.q + call_size) f.rest Y env.world turn (in_host op f.q f.u) o) → CallsHost m pl j X Y p s c env.world turn
    calls also turn f answered = record {
      register = register 11;
      rest = f.rest;
      reach = record {
        run = record {
          path = f.path.path;
          few = f.path.few;
          t = f.u;
          q = f.q;
          comes = f.path.comes;
          front = f.path.front;
          split = f.path.split;
          place = f.path.place;
          at = f.path.at;
          holds = (f.q, f.path.at, record { entry = entry_by op; stopped = in_host op f.q f.u; stops = λ by code small l. f.there.calls code small l.0; answered = answered });
        };
        spots = λ x. absurd x;
      };
    }

    served : (also : State → Type 0) (f : asked.Stops also st op env X p s) (turn : Turn Opt) → opt_step set.table op env ≡ turn → IsReady set.table op env → SameCalls env.world c → (o : Answered) → host.answers (entry_by op) c (in_host op f.q f.u) o → ServedSo set.table op env f.q f.u turn o
    served also f turn is ready h o a = subst (λ (t : Turn Opt). ServedSo set.table op env f.q f.u t o) is (serves st op env f.q f.u c o z.table ready f.there h a)

    ends_so : (turn : Turn Opt) (d : Calls) (u : State) (end : End) → EndsSo set.table env.world turn d u end → EndsBy m env.world turn d u end
    ends_so (On after) d u (Shows state store) h = h
    ends_so (On after) d u (Full asked left) h = h
    ends_so (On after) d u Waiting h = h
    ends_so (On after) d u (Misfitting n) h = h
    ends_so (On after) d u (Lost at) h = h
    ends_so (Off (Fails k vs w)) d u (Shows state store) h = h
    ends_so (Off (Fails k vs w)) d u (Full asked left) h = h
    ends_so (Off (Fails k vs w)) d u Waiting h = h
    ends_so (Off (Fails k vs w)) d u (Misfitting n) h = h
    ends_so (Off (Fails k vs w)) d u (Lost at) h = h
    ends_so (Off (Jumps vs w)) d u (Shows state store) h = h
    ends_so (Off (Jumps vs w)) d u (Full asked left) h = h
    ends_so (Off (Jumps vs w)) d u Waiting h = h
    ends_so (Off (Jumps vs w)) d u (Misfitting n) h = h
    ends_so (Off (Jumps vs w)) d u (Lost at) h = h
    ends_so (Off (Finishes vs w)) d u (Shows state store) h = h
    ends_so (Off (Finishes vs w)) d u (Full asked left) h = h
    ends_so (Off (Finishes vs w)) d u Waiting h = h
    ends_so (Off (Finishes vs w)) d u (Misfitting n) h = h
    ends_so (Off (Finishes vs w)) d u (Lost at) h = h
    ends_so (Off (Waits w)) d u (Shows state store) h = h
    ends_so (Off (Waits w)) d u (Full asked left) h = h
    ends_so (Off (Waits w)) d u Waiting h = h
    ends_so (Off (Waits w)) d u (Misfitting n) h = h
    ends_so (Off (Waits w)) d u (Lost at) h = h
    ends_so (Off (Misfits w)) d u (Shows state store) h = h
    ends_so (Off (Misfits w)) d u (Full asked left) h = h
    ends_so (Off (Misfits w)) d u Waiting h = h
    ends_so (Off (Misfits w)) d u (Misfitting n) h = h
    ends_so (Off (Misfits w)) d u (Lost at) h = h
    ends_so (Off (Wrong w)) d u (Shows state store) h = h
    ends_so (Off (Wrong w)) d u (Full asked left) h = h
    ends_so (Off (Wrong w)) d u Waiting h = h
    ends_so (Off (Wrong w)) d u (Misfitting n) h = h
    ends_so (Off (Wrong w)) d u (Lost at) h = h

    waits : (w : World) (q : ℕ) (u : State) (tail : List Slot) (o : Answered) → ServedSo set.table op env q u (Off (Waits w)) o → AnswerDoes m pl j (q + call_size) tail Y env.world (Off (Waits w)) (in_host op q u) o
    waits w q u tail (Resumes d v) h = absurd h
    waits w q u tail (Stops d end) h = ends_so (Off (Waits w)) d (in_host op q u) end h

    misfits : (w : World) (q : ℕ) (u : State) (tail : List Slot) (o : Answered) → ServedSo set.table op env q u (Off (Misfits w)) o → AnswerDoes m pl j (q + call_size) tail Y env.world (Off (Misfits w)) (in_host op q u) o
    misfits w q u tail (Resumes d v) h = absurd h
    misfits w q u tail (Stops d end) h = ends_so (Off (Misfits w)) d (in_host op q u) end h

    on : (also : State → Type 0) (after : Opt) (f : asked.Stops also st op env X p s) → asked.Resumes also st op rest env after f.rest Y f.q f.u → StaysReady st.table rest after → (o : Answered) → ServedSo set.table op env f.q f.u (On after) o → AnswerDoes m pl j (f.q + call_size) f.rest Y env.world (On after) (in_host op f.q f.u) o
    on also after f g ready (Resumes d v) (n, lost, arena, word, left, is, calls) =
        let r = g n lost arena word (few f.q f.path.front f.rest f.path.split f.path.place) (subst (λ (t : Table). HostLeft t (given_by op after) env.world.objects after.world.objects n arena) (sym z.table) left) in
        let back = comes_of (f.q + call_size) f.rest (returned op f.q f.u n lost arena) Y (λ t k. next after t d k.0 calls ready) r in
        (after, refl, subst (λ (x : State). Comes ⊥ (f.q + call_size) f.rest x Y (λ (t : State). HoldsAt st (ops_at whole pl.id) (j + 1) after d t)) (sym is) back, ap (λ (x : State). x.at) is)
    on also after f g ready (Stops d end) h = ends_so (On after) d (in_host op f.q f.u) end h

    asks : (also : State → Type 0) (turn : Turn Opt) → opt_step set.table op env ≡ turn → CallsBy also st op rest X Y p s env turn → IsReady set.table op env → ReadyOn st.table op (StaysReady st.table rest) turn → SameCalls env.world c → Does m pl j op X Y p s c env.world turn
    asks also (On after) is f ready k h = inr (calls also (On after) f.0 (λ o a. on also after f.0 f.1 k o (served also f.0 (On after) is ready h o a)))
    asks also (Off (Waits w)) is f ready k h = calls also (Off (Waits w)) f (λ o a. waits w f.q f.u f.rest o (served also f (Off (Waits w)) is ready h o a))
    asks also (Off (Misfits w)) is f ready k h = calls also (Off (Misfits w)) f (λ o a. misfits w f.q f.u f.rest o (served also f (Off (Misfits w)) is ready h o a))
    asks also (Off (Wrong w)) is f ready k h = tt
    asks also (Off (Fails n vs w)) is f ready k h = absurd f
    asks also (Off (Jumps vs w)) is f ready k h = absurd f
    asks also (Off (Finishes vs w)) is f ready k h = absurd f

    -- ---- either

    does : HoldsAt st (ops_at whole pl.id) j env c s → s.at ≡ 0x40000000 + p → Does m pl j op X Y p s c env.world (opt_step set.table op env)
    does h at = by_choice y.chosen
      where
        ready : StaysReady st.table (op ∷ rest) env
        ready = ready_now h

        goes : ReadyOn st.table op (StaysReady st.table rest) (opt_step set.table op env)
        goes = subst (λ (t : Table). ReadyOn st.table op (StaysReady st.table rest) (opt_step t op env)) z.table ready.1

        by_choice : IsHere st (told all (length done)) op ⊎ asked.IsAsked st (pl.key + length done) op → Does m pl j op X Y p s c env.world (opt_step set.table op env)
        by_choice (inl here) =
            let also = Counts (loads_of op env) (stores_of op env) s in
            let a = code_follows st (pl.key + length done) (told all (length done)) op rest env Y p s z.serves z.hold y.apart y.words here (now h) at in
            let b = subst (λ (l : List Slot). FollowsBy also st (pl.key + length done) op rest (l ++ Y) Y p s (opt_step st.table op env)) (sym y.code) a in
            let g = subst (λ (n : ℕ). FollowsBy also st (pl.key + n) op rest X Y p s (opt_step st.table op env)) same b in
            let d = subst (λ (t : Table). FollowsBy also st (pl.key + j) op rest X Y p s (opt_step t op env)) z.table g in
            follows also (opt_step set.table op env) d (step_keeps_calls st (told all (length done)) set.table op env here) h.1 goes
        by_choice (inr asked) =
            let also = Counts 0 0 s in
            let a = calls_follow st (pl.key + length done) (told all (length done)) op rest env Y p s z.serves z.hold y.apart y.safe y.words asked (now h) at in
            let b = subst (λ (l : List Slot). CallsBy also st op rest (l ++ Y) Y p s env (opt_step st.table op env)) (sym y.code) a in
            let d = subst (λ (t : Table). CallsBy also st op rest X Y p s env (opt_step t op env)) z.table b in
            asks also (opt_step set.table op env) refl d (subst (λ (t : Table). IsReady t op env) z.table ready.0) goes h.1

  pub piece_does : PieceDoes m pl
  piece_does = record {
    some = (z.some.0, z.some.1, z.same ∙ z.some.2);
    counts = ap length z.same ∙ sym (ap length z.codes ∙ codes_count st pl.key tell.Nothing (ops_at whole pl.id));
    each = λ done rest op before more xs env c s e0 codes same h at. (let e = sym z.same ∙ e0 in
        let apart = subst (AreApart st.at) e z.apart in
        let safe = subst (AreSafe st.at) e z.safe in
        let chosen = subst (AreChosen st pl.key tell.Nothing) e z.chosen in
        let listed = ap (codes_from st pl.key tell.Nothing) (sym e) ∙ sym z.codes ∙ codes in
        let y = split_at st pl.key tell.Nothing done op rest before more xs listed same apart safe chosen in
        does done op rest before more xs env c s e codes same y h at);
    ends = λ done op env after e is. closes_off set.table op env after (z.closed done op (sym z.same ∙ e)) is;
  }
