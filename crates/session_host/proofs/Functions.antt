-- Calls of functions are served.
use Rattle.std.proofs.Common.{◌≡◌, ℕ, ◌+◌, ◌*◌, ◌-◌, ◌^◌, ◌<◌, ◌≤◌, Bool, true, false, List, [], ◌∷◌, ◌++◌, length, drop, Option, Some, None, refl, sym, ap, ◌∙◌, subst, arith, ℤ, pos, negsuc, min, ◌⊎◌, inl, inr}
use Rattle.std.specs.Prelude.{nat_le, slice_get}
use Rattle.std.proofs.Math.Nat.{min-le_left}
use Rattle.std.proofs.lemmas.Bool.{leb-true, leb-false}
use Rattle.std.proofs.lemmas.List.{length-map, map-append, length_push}
use Rattle.lists.proofs.Options.{none_some}
use Rattle.trace_ops.specs.InRange.{IsTableInRange}
use Rattle.trace_ops.specs.declared.table.Table.{Table}
use Rattle.trace_ops.specs.declared.table.CallRow.{CallRow}
use Rattle.trace_ops.specs.declared.table.ShapeOf.TheVariants.{Size}
use Rattle.trace_ops.specs.declared.trace.BoxId.{BoxId}
use Rattle.trace_ops.specs.declared.trace.Arg.{Arg}
use Rattle.trace_ops.specs.declared.trace.Descr.{Descr}
use Rattle.trace_ops.specs.declared.code.OpCode.{OpCode}
use Rattle.trace_ops.specs.declared.piece.OptOp.{OptOp}
use Rattle.trace_ops.specs.declared.piece.OptOp.TheVariants as opt
use Rattle.trace_meaning.specs.declared.value.Value.{Value}
use Rattle.trace_meaning.specs.declared.value.Value.TheVariants as v
use Rattle.trace_meaning.specs.declared.value.Object.{Object}
use Rattle.trace_meaning.specs.declared.call.Give.{Give}
use Rattle.trace_meaning.specs.declared.call.Give.TheVariants as give
use Rattle.trace_meaning.specs.declared.call.Answer.{Answer}
use Rattle.trace_meaning.specs.declared.call.CallEvent.{CallEvent}
use Rattle.trace_meaning.specs.Answers.{fits, value_given, new_object, with_fresh, answer_done}
use Rattle.trace_meaning.specs.Boxes.{BindingLaws, bind}
use Rattle.trace_meaning.specs.Legs.{Turn, On, Off, Wrong}
use Rattle.trace_meaning.specs.Objects.{zeroed}
use Rattle.trace_meaning.specs.Performing.{event_of, with_call, answered_if, called_first, called}
use Rattle.trace_meaning.specs.Sound.{AnswersWords}
use Rattle.trace_meaning.specs.Values.{references}
use Rattle.trace_meaning.specs.World.{World, Logged, events, bytes_in}
use Rattle.opt_meaning.specs.Step.{Opt, opt_result, opt_plain}
use Rattle.target_base.specs.Arena.{Arena}
use Rattle.arena_objects.specs.Layout.{words_in, words_of}
use Rattle.arena_objects.specs.Making.{bytes_left}
use Rattle.arena_objects.specs.ReadBack.{reference_to, objects_in}
use Rattle.arena_objects.specs.Walk.{object_at}
use Rattle.arena_objects.specs.Laws.{ReferencesAreTold, WordsAreAdded}
use Rattle.arena_world.specs.Prebuilt.{prebuilt_addresses}
use Rattle.arena_world.specs.Fitting.{fits_words}
use Rattle.arena_world.specs.Answering.{given_word, fresh_bytes, answered_arena, answered_word}
use Rattle.arena_world.specs.Laws.{words_of_refs, AreReferences, FitsAlike, AnswersAlike, IsAnswered}
use Rattle.x64_machine.specs.State.{State}
use Rattle.asm_select.specs.Asked.{HostLeft, given_in, in_host}
use Rattle.image_runs.specs.Session.{Calls, Answered, Resumes}
use Rattle.image_model.specs.Modelled.{SameCalls, Fills}
use Rattle.image_model.specs.Laws.{ServedSo}
use Rattle.session_host.specs.Entries.{gives_back}
use Rattle.session_host.specs.Answering.{Passed, refs_of, values_of, event_in, given_in as gives_in, with_event, done_by, done_if, fitted_if, first_of}
use Rattle.session_host.proofs.Registers.{returns_so}
use Rattle.session_host.proofs.Worlds.{Alike, stores_keep}
use Rattle.session_host.proofs.Making.{StandsThere, minus_one, less_min, zeroed_words}

pub record FunctionLaws : Type 0 where
  pub fits : FitsAlike
  pub answers : AnswersAlike
  pub told : ReferencesAreTold
  pub added : WordsAreAdded
  pub binds : BindingLaws

-- ---- the result

-- an operation's result has what is given, or the operation is wrong
record Resulted (r : Option BoxId) (env after : Opt) (g : Option Value) (w : World) : Type 0 where
  is : opt_result r env g w ≡ On after
  world : after.world ≡ w
  given : (x : Value) → given_in r after ≡ Some x → g ≡ Some x

result_is : BindingLaws → (r : Option BoxId) (env : Opt) (g : Option Value) (w : World) → (opt_result r env g w ≡ Off (Wrong w)) ⊎ ((after : Opt) × Resulted r env after g w)
result_is binds (Some b) env (Some y) w = inr (record { boxes = bind b y env.boxes; world = w }, record { is = refl; world = refl; given = λ x h. sym (binds.same b y env.boxes) ∙ h })
result_is binds (Some b) env None w = inl refl
result_is binds None env g w = inr (record env { world = w }, record { is = refl; world = refl; given = λ x h. absurd (none_some h) })

-- ---- what is given

given_same : (t : Table) (after : Arena) (refs : List Value) (fresh : ℤ) (n : ℕ) (g : Give) → ((k : ℕ) → g ≡ give.New k → object_at t after fresh ≡ Some n) → gives_in t after refs fresh g ≡ value_given refs n g
given_same t after refs fresh n give.Nothing h = refl
given_same t after refs fresh n (give.Int z) h = refl
given_same t after refs fresh n give.Null h = refl
given_same t after refs fresh n (give.Arg k) h = refl
given_same t after refs fresh n (give.Prebuilt k) h = refl
given_same t after refs fresh n (give.New k) h = ap (λ (o : Option ℕ). Some (reference_to o)) (h k refl)

-- ---- bytes

-- the new object's words are added
fresh_words : WordsAreAdded → (t : Table) (g : Give) (w : World) → 8 * words_of w.objects + fresh_bytes t g ≡ 8 * words_of (with_fresh (new_object t g) w).objects
fresh_words added t give.Nothing w = omega arith
fresh_words added t (give.Int z) w = omega arith
fresh_words added t give.Null w = omega arith
fresh_words added t (give.Arg k) w = omega arith
fresh_words added t (give.Prebuilt k) w = omega arith
fresh_words added t (give.New k) w =
    let more : words_of (w.objects ++ zeroed t k ∷ []) ≡ words_of w.objects + words_in (zeroed t k) = added w.objects (zeroed t k) in
    let bytes : fresh_bytes t (give.New k) ≡ 8 * words_in (zeroed t k) = zeroed_words t (Size k) 0 in
    omega (arith, more, bytes)

-- ---- a call

module _ (l : FunctionLaws) (t : Table) (range : IsTableInRange t) (operation : OpCode) (r : Option BoxId) (args : List Arg) (d : Descr) (env : Opt) (q : ℕ) (u : State) (c : Calls) (f : ℕ) (row : CallRow) (vs : List Value) (p : Passed)
    (at : StandsThere t env u) (same : SameCalls env.world c) (function : p.function ≡ f) (row_is : p.row ≡ row)
    (objects : objects_in t u.arena ≡ env.world.objects) (values : values_of t u.arena p ≡ vs)
    (refs : refs_of p ≡ words_of_refs env.world.objects (references vs)) (are : AreReferences (length env.world.objects) (references vs)) where
  abbrev op : OptOp
  op = opt.Plain operation r args d

  abbrev w : World
  w = env.world

  abbrev host : State
  host = in_host op q u

  abbrev zs : List ℤ
  zs = words_of_refs w.objects (references vs)

  event_same : (gives : Option Value) → event_in t u.arena p gives ≡ event_of t row f vs gives w
  event_same gives =
      let shown = λ (k : ℕ) (x : CallRow) (os : List Object) (xs : List Value). event_of t x k xs gives (record w { objects = os }) in
      ap (λ (k : ℕ). shown k p.row (objects_in t u.arena) (values_of t u.arena p)) function
      ∙ ap (λ (x : CallRow). shown f x (objects_in t u.arena) (values_of t u.arena p)) row_is
      ∙ ap (λ (os : List Object). shown f row os (values_of t u.arena p)) objects
      ∙ ap (shown f row w.objects) values

  -- the calls with this one
  logged : (gives : Option Value) → (with_event (event_in t u.arena p gives) c).log ≡ events (with_call t (event_of t row f vs gives w) w).log
  logged gives =
      ap (λ (e : CallEvent). c.log ++ e ∷ []) (event_same gives)
      ∙ ap (λ (es : List CallEvent). es ++ event_of t row f vs gives w ∷ []) same.log
      ∙ sym (map-append (λ (x : Logged). x.event) w.log (record { event = event_of t row f vs gives w; bytes = bytes_in t w } ∷ []))

  not_given : SameCalls (with_call t (event_of t row f vs None w) w) (with_event (event_in t u.arena p None) c)
  not_given = record { log = logged None; answers = same.answers }

  number : length c.log ≡ length (with_call t (event_of t row f vs None w) w).log - 1
  number =
      let many : length c.log ≡ length w.log = ap length same.log ∙ length-map w.log (λ (x : Logged). x.event) in
      let more = length_push w.log (record { event = event_of t row f vs None w; bytes = bytes_in t w }) in
      omega (arith, many, more)

  -- ---- an answer that fits

  module _ (a : Answer) (words : AnswersWords a) (fit : fits t row (references vs) w.objects a ≡ true) where
    abbrev gives : Option Value
    gives = value_given (references vs) (length w.objects) a.gives

    abbrev w1 : World
    w1 = record (with_call t (event_of t row f vs gives w) w) { answers = drop 1 w.answers }

    abbrev w2 : World
    w2 = answer_done t (references vs) a w1

    abbrev after_arena : Arena
    after_arena = answered_arena t zs a u.arena

    abbrev word : ℤ
    word = answered_word t zs a u.arena

    kept : Alike (with_fresh (new_object t a.gives) w1) w2
    kept = stores_keep t (references vs) a.stores (with_fresh (new_object t a.gives) w1)

    fresh_log : (g : Give) (x : World) → ((with_fresh (new_object t g) x).log ≡ x.log) × ((with_fresh (new_object t g) x).answers ≡ x.answers)
    fresh_log give.Nothing x = (refl, refl)
    fresh_log (give.Int z) x = (refl, refl)
    fresh_log give.Null x = (refl, refl)
    fresh_log (give.Arg k) x = (refl, refl)
    fresh_log (give.Prebuilt k) x = (refl, refl)
    fresh_log (give.New k) x = (refl, refl)

    -- where there is room for the new object

    module _ (room : fresh_bytes t a.gives ≤ bytes_left u.arena) where
      answered : IsAnswered t gives w.objects w2.objects word after_arena
      answered = l.answers t row (references vs) w1 u.arena a range at.arena at.prebuilts are words fit room

      fresh_at : (k : ℕ) → a.gives ≡ give.New k → object_at t after_arena (pos (0x10000000 + u.arena.taken)) ≡ Some (length w.objects)
      fresh_at k e =
          let n = length w.objects in
          let given : gives ≡ Some (v.Obj n) = ap (value_given (references vs) n) e in
          let own : word ≡ pos (0x10000000 + u.arena.taken) = ap (given_word (prebuilt_addresses t) zs (pos (0x10000000 + u.arena.taken))) e in
          let is = answered.result (v.Obj n) given in
          let told = l.told t w2.objects after_arena n answered.stands (answered.part (v.Obj n) given) in
          ap (object_at t after_arena) (sym own ∙ is) ∙ told

      abbrev done_with : List ℤ → CallEvent → Answered
      done_with rs e = Resumes (record (with_event e c) { answers = drop 1 c.answers }) (gives_back (answered_word t rs a u.arena) (answered_arena t rs a u.arena) host)

      done_is : done_by t p a c host ≡ done_with zs (event_in t u.arena p gives)
      done_is =
          let fresh = pos (0x10000000 + u.arena.taken) in
          let event = λ (rs : List ℤ) (xs : List Value). event_in t u.arena p (gives_in t (answered_arena t rs a u.arena) (references xs) fresh a.gives) in
          ap (λ (rs : List ℤ). done_with rs (event rs (values_of t u.arena p))) refs
          ∙ ap (λ (xs : List Value). done_with zs (event zs xs)) values
          ∙ ap (λ (g : Option Value). done_with zs (event_in t u.arena p g)) (given_same t after_arena (references vs) fresh (length w.objects) a.gives fresh_at)

      calls : (after : Opt) → after.world ≡ w2 → SameCalls after.world (record (with_event (event_in t u.arena p gives) c) { answers = drop 1 c.answers })
      calls after e =
          let same_fresh = fresh_log a.gives w1 in
          subst (λ (x : World). SameCalls x (record (with_event (event_in t u.arena p gives) c) { answers = drop 1 c.answers })) (sym e) (record {
            log = logged gives ∙ ap events (sym (kept.0 ∙ same_fresh.0));
            answers = ap (drop 1) same.answers ∙ sym (kept.1 ∙ same_fresh.1);
          })

      left : (after : Opt) → Resulted r env after gives w2 → HostLeft t (given_in r after) w.objects after.world.objects word after_arena
      left after x =
          subst (λ (y : World). HostLeft t (given_in r after) w.objects y.objects word after_arena) (sym x.world) (record {
            word = answered.word;
            stands = answered.stands;
            kept = record { more = answered.more; addresses = answered.addresses };
            result = λ y i. answered.result y (x.given y i);
            part = λ y i. answered.part y (x.given y i);
          })

      done_serves : (after : Opt) → Resulted r env after gives w2 → ServedSo t op env q u (On after) (done_by t p a c host)
      done_serves after x =
          subst (ServedSo t op env q u (On after)) (sym done_is) (word, negsuc 0, after_arena, minus_one, left after x, returns_so op q u word after_arena at.fit, calls after x.world)

    full_serves : bytes_left u.arena < fresh_bytes t a.gives → (after : Opt) → Resulted r env after gives w2 → Fills t w (On after) host (min (fresh_bytes t a.gives) (2 ^ 64 - 1)) (bytes_left u.arena)
    full_serves over after x =
        let few : bytes_left u.arena < 2 ^ 64 - 1 = omega (arith, at.arena.few) in
        let least : min (fresh_bytes t a.gives) (2 ^ 64 - 1) ≤ fresh_bytes t a.gives = min-le_left (fresh_bytes t a.gives) (2 ^ 64 - 1) in
        let more : 8 * words_of w.objects + fresh_bytes t a.gives ≡ 8 * words_of (with_fresh (new_object t a.gives) w1).objects = fresh_words l.added t a.gives w1 in
        let end : words_of after.world.objects ≡ words_of (with_fresh (new_object t a.gives) w1).objects = ap (λ (y : World). words_of y.objects) x.world ∙ kept.2 in
        (at.arena, refl, less_min (bytes_left u.arena) (fresh_bytes t a.gives) (2 ^ 64 - 1) over few, omega (arith, least, more, end))

    goes : (after : Opt) → Resulted r env after gives w2 → (b : Bool) → nat_le (fresh_bytes t a.gives) (bytes_left u.arena) ≡ b → ServedSo t op env q u (On after) (done_if b t p a c host)
    goes after x true enough = done_serves (leb-true (fresh_bytes t a.gives) (bytes_left u.arena) enough) after x
    goes after x false less = full_serves (leb-false (fresh_bytes t a.gives) (bytes_left u.arena) less) after x

    fitting_serves : ServedSo t op env q u (opt_result r env gives w2) (done_if (nat_le (fresh_bytes t a.gives) (bytes_left u.arena)) t p a c host)
    fitting_serves = which (result_is l.binds r env gives w2)
      where
        which : (opt_result r env gives w2 ≡ Off (Wrong w2)) ⊎ ((after : Opt) × Resulted r env after gives w2) → ServedSo t op env q u (opt_result r env gives w2) (done_if (nat_le (fresh_bytes t a.gives) (bytes_left u.arena)) t p a c host)
        which (inl wrong) = subst (λ (x : Turn Opt). ServedSo t op env q u x (done_if (nat_le (fresh_bytes t a.gives) (bytes_left u.arena)) t p a c host)) (sym wrong) tt
        which (inr (after, x)) = subst (λ (y : Turn Opt). ServedSo t op env q u y (done_if (nat_le (fresh_bytes t a.gives) (bytes_left u.arena)) t p a c host)) (sym x.is) (goes after x (nat_le (fresh_bytes t a.gives) (bytes_left u.arena)) refl)

  -- ---- any answer

  fitted : (a : Answer) → AnswersWords a → (b : Bool) → fits t row (references vs) w.objects a ≡ b → ServedSo t op env q u (opt_plain r env (answered_if b t row f vs a (drop 1 w.answers) w)) (fitted_if b t p a c host)
  fitted a words true fit = fitting_serves a words fit
  fitted a words false fit = (not_given, number)

  fits_same : (a : Answer) → fits_words t p.row (refs_of p) u.arena a ≡ fits t row (references vs) w.objects a
  fits_same a =
      ap (λ (x : CallRow). fits_words t x (refs_of p) u.arena a) row_is
      ∙ ap (λ (rs : List ℤ). fits_words t row rs u.arena a) refs
      ∙ l.fits t row (references vs) w.objects u.arena a range at.arena at.prebuilts are

  first_serves : (o : Option Answer) → ((a : Answer) → o ≡ Some a → AnswersWords a) → ServedSo t op env q u (opt_plain r env (called_first t row f vs o (drop 1 w.answers) w)) (first_of t p c host o)
  first_serves None words = not_given
  first_serves (Some a) words =
      let b = fits t row (references vs) w.objects a in
      subst (λ (x : Bool). ServedSo t op env q u (opt_plain r env (answered_if b t row f vs a (drop 1 w.answers) w)) (fitted_if x t p a c host)) (sym (fits_same a)) (fitted a (words a refl) b refl)

  pub call_serves : ((a : Answer) → slice_get c.answers 0 ≡ Some a → AnswersWords a) → ServedSo t op env q u (opt_plain r env (called t row f vs w)) (first_of t p c host (slice_get c.answers 0))
  call_serves words =
      let first : slice_get c.answers 0 ≡ slice_get w.answers 0 = ap (λ (xs : List Answer). slice_get xs 0) same.answers in
      subst (λ (o : Option Answer). ServedSo t op env q u (opt_plain r env (called t row f vs w)) (first_of t p c host o)) (sym first) (first_serves (slice_get w.answers 0) (λ a e. words a (first ∙ e)))
