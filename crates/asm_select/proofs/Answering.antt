-- What the host leaves of an answer to a function's call.
use Rattle.std.proofs.Common.{◌≡◌, ℕ, ◌+◌, ◌*◌, ◌≤◌, Bool, true, false, ◌&&◌, IsTrue, ℤ, pos, Option, Some, None, List, [], ◌∷◌, ◌++◌, length, refl, sym, ap, ◌∙◌, subst, arith}
use Rattle.std.specs.Prelude.{slice_get, drop}
use Rattle.std.specs.List.{list_all}
use Rattle.std.proofs.lemmas.Bool.{ltb-true}
use Rattle.lists.proofs.Appends.{get_before}
use Rattle.lists.proofs.Options.{some_same}
use Rattle.std.proofs.lemmas.List.{length_push}
use Rattle.lists.proofs.Places.{get_some}
use Rattle.trace_ops.specs.declared.code.OpCode.{OpCode}
use Rattle.trace_ops.specs.declared.code.OpCode.TheVariants as code
use Rattle.trace_ops.specs.declared.table.Table.{Table}
use Rattle.trace_ops.specs.declared.table.CallRow.{CallRow}
use Rattle.trace_ops.specs.declared.table.ShapeOf.TheVariants.{Size}
use Rattle.trace_ops.specs.declared.trace.Kind.{Kind}
use Rattle.trace_ops.specs.declared.trace.BoxId.{BoxId}
use Rattle.trace_ops.specs.declared.trace.Arg.{Arg}
use Rattle.trace_ops.specs.Classes.{is_call}
use Rattle.trace_ops.specs.InRange.{IsTableInRange}
use Rattle.trace_ops.specs.Words.{IsWord}
use Rattle.trace_meaning.specs.declared.value.Value.{Value}
use Rattle.trace_meaning.specs.declared.value.Value.TheVariants as v
use Rattle.trace_meaning.specs.declared.value.Object.{Object}
use Rattle.trace_meaning.specs.declared.call.Give.{Give}
use Rattle.trace_meaning.specs.declared.call.Give.TheVariants as give
use Rattle.trace_meaning.specs.declared.call.Answer.{Answer}
use Rattle.trace_meaning.specs.Answers.{kind_given, same_result, is_named, store_fits, fits, value_given, new_object, with_fresh, answer_done}
use Rattle.trace_meaning.specs.Legs.{On}
use Rattle.trace_meaning.specs.Objects.{zeroed}
use Rattle.trace_meaning.specs.Performing.{event_of, with_call, answered_if, called_first, call_row}
use Rattle.trace_meaning.specs.Sound.{GivesWord}
use Rattle.trace_meaning.specs.Values.{references}
use Rattle.trace_meaning.specs.World.{World}
use Rattle.trace_meaning.specs.Boxes.{bind, value_in}
use Rattle.opt_meaning.specs.Step.{Opt, opt_step, opt_perform, opt_plain, opt_result, opt_values}
use Rattle.target_base.specs.Arena.{Arena}
use Rattle.arena_objects.specs.Layout.{address_of, word_of}
use Rattle.arena_objects.specs.Standing.{IsPart, Stands}
use Rattle.arena_objects.specs.Making.{arena_with}
use Rattle.arena_objects.specs.ReadBack.{objects_in}
use Rattle.arena_objects.specs.Laws.{AllocationsStand, AllocationsAddress, ReferencesAreRead, ObjectsAreReadBack, KindsInRange}
use Rattle.x64_machine.specs.State.{State}
use Rattle.asm_select.specs.Chosen.{Setting, arg_places, places_for}
use Rattle.asm_select.specs.Reached.{PrebuiltsStand}
use Rattle.asm_select.specs.Ended.{AreParts}
use Rattle.asm_select.specs.Asked.{AtCall, AsksAs, HostLeft, given_in}
use Rattle.asm_select.specs.declared.form.Access.TheVariants as access
use Rattle.trace_ops.specs.declared.trace.Arg.TheVariants.{Func}
use Rattle.trace_ops.specs.declared.trace.Descr.TheVariants as descr
use Rattle.asm_select.specs.Answering.{asked_words, reference_words, values_read, word_given, object_made, bytes_given, answer_made, call_of, ArgumentsAreRead, EventsAreShown, AnswersAreTaken, AnswersLeave}
use Rattle.asm_select.proofs.Performing.{word_fits}
use Rattle.asm_select.proofs.Relying.{Relied}
use Rattle.asm_select.proofs.Suiting.{contains_at}
use Rattle.asm_select.proofs.Values.{bound_same}
use Rattle.asm_select.proofs.Storing.{on_same, AreWords, references_stand, references_are_parts, part_at, word_at, all_read, Later, Kept, word_is, all_stored}

-- ---- the new object

-- the objects with the new one, and what of them is asked for
record Begun (t : Table) (old : List Object) (g : Give) (arena : Arena) (w : World) : Type 0 where
  kept : Kept t old w.objects
  later : Later t w.objects w.objects (object_made t g arena)

same_later : (t : Table) (objects : List Object) (arena : Arena) → Stands t objects arena → Later t objects objects arena
same_later t objects arena st = record { stands = st; more = omega arith; places = λ n lt. refl; shapes = λ n o e. (o, e, refl) }

unchanged : (t : Table) (w : World) (g : Give) (arena : Arena) → PrebuiltsStand t w.objects → Stands t w.objects arena → object_made t g arena ≡ arena → Begun t w.objects g arena w
unchanged t w g arena pre st e = record {
  kept = record { prebuilts = pre; more = omega arith; places = λ n lt. refl; objects = λ n o q. q };
  later = subst (Later t w.objects w.objects) (sym e) (same_later t w.objects arena st);
}

object_begun : AllocationsStand → AllocationsAddress → (t : Table) (args : ℕ) (w : World) (g : Give) (arena : Arena) → IsTableInRange t → PrebuiltsStand t w.objects → Stands t w.objects arena → is_named t args g ≡ true → bytes_given t g + arena.taken ≤ 8 * length arena.words → Begun t w.objects g arena (with_fresh (new_object t g) w)
object_begun stand address t args w give.Nothing arena r pre st n room = unchanged t w give.Nothing arena pre st refl
object_begun stand address t args w (give.Int z) arena r pre st n room = unchanged t w (give.Int z) arena pre st refl
object_begun stand address t args w give.Null arena r pre st n room = unchanged t w give.Null arena pre st refl
object_begun stand address t args w (give.Arg k) arena r pre st n room = unchanged t w (give.Arg k) arena pre st refl
object_begun stand address t args w (give.Prebuilt k) arena r pre st n room = unchanged t w (give.Prebuilt k) arena pre st refl
object_begun stand address t args w (give.New k) arena r pre st n room =
    let o = zeroed t k in
    let there = contains_at t.shapes (Size k) (r.each_size_once k (ltb-true k (length t.sizes) n)) in
    let places = address t w.objects arena o st in
    let long : length (w.objects ++ o ∷ []) ≡ length w.objects + 1 = length_push w.objects o in
    record {
      kept = record { prebuilts = pre; more = omega (arith, long); places = places.1; objects = λ m p e. get_before w.objects (o ∷ []) m p e };
      later = same_later t (w.objects ++ o ∷ []) (arena_with t (Size k) 0 arena) (stand t w.objects arena (Size k) 0 st there room);
    }

-- ---- what is given

none_is : {X : Type 0} (x : X) → None ≡ Some x → ⊥
none_is x e = cc

given_word : AllocationsAddress → (t : Table) (old new : List Object) (arena : Arena) (w : World) (refs : List Value) (zs : List ℤ) (g : Give) (arena2 : Arena) (x : Value) → w.objects ≡ old → Stands t old arena → Kept t old (with_fresh (new_object t g) w).objects → Later t (with_fresh (new_object t g) w).objects new arena2 → AreParts (length old) refs → AreWords (address_of old) zs refs → GivesWord g → is_named t (length refs) g ≡ true → value_given refs (length old) g ≡ Some x
    → IsPart (length new) x × (word_given t zs (0x10000000 + arena.taken) g ≡ word_of (address_of new) x)
given_word address t old new arena w refs zs give.Nothing arena2 x o st k l parts words gw n e = absurd (none_is x e)
given_word address t old new arena w refs zs (give.Int z) arena2 x o st k l parts words gw n e =
    let same : v.Int z ≡ x = some_same e in
    (subst (IsPart (length new)) same gw, ap (word_of (address_of new)) same)
given_word address t old new arena w refs zs give.Null arena2 x o st k l parts words gw n e =
    let same : v.Null ≡ x = some_same e in
    (subst (IsPart (length new)) same tt, ap (word_of (address_of new)) same)
given_word address t old new arena w refs zs (give.Arg j) arena2 x o st k l parts words gw n e =
    let z = word_is t old w.objects new arena2 x k l (part_at (length old) refs j x parts e) in
    (z.0, word_at (address_of old) zs refs j x words e ∙ z.1)
given_word address t old new arena w refs zs (give.Prebuilt j) arena2 x o st k l parts words gw n e =
    let same : v.Obj j ≡ x = some_same e in
    let p = k.prebuilts j (ltb-true j (length t.prebuilts) n) in
    let z = word_is t old w.objects new arena2 (v.Obj j) k l p.0 in
    (subst (IsPart (length new)) same z.0, ap pos (sym p.1) ∙ z.1 ∙ ap (word_of (address_of new)) same)
given_word address t old new arena w refs zs (give.New j) arena2 x o st k l parts words gw n e =
    let same : v.Obj (length old) ≡ x = some_same e in
    let mid = w.objects ++ zeroed t j ∷ [] in
    let many : length old + 1 ≡ length mid = sym (length_push w.objects (zeroed t j) ∙ ap (λ (xs : List Object). length xs + 1) o) in
    let at : address_of mid (length old) ≡ 0x10000000 + arena.taken =
    ap (λ (xs : List Object). address_of (xs ++ zeroed t j ∷ []) (length old)) o ∙ (address t old arena (zeroed t j) st).0 in (
      subst (IsPart (length new)) same (omega (arith, many, l.more)),
      ap pos (sym (l.places (length old) (omega (arith, many)) ∙ at)) ∙ ap (word_of (address_of new)) same,
    )

-- ---- a call that goes on

-- the answer that a call takes, and what it leaves
record Took (t : Table) (row : CallRow) (vs : List Value) (r : Option BoxId) (env after : Opt) (a : Answer) : Type 0 where
  fit : fits t row (references vs) env.world.objects a ≡ true
  world : World
  same : world.objects ≡ env.world.objects
  left : after.world ≡ answer_done t (references vs) a world
  gave : (x : Value) → given_in r after ≡ Some x → value_given (references vs) (length env.world.objects) a.gives ≡ Some x

result_in : (r : Option BoxId) (env after : Opt) (g : Option Value) (w : World) → opt_result r env g w ≡ On after → (after.world ≡ w) × ((x : Value) → given_in r after ≡ Some x → g ≡ Some x)
result_in None env after g w e =
    let same = on_same (record env { world = w }) after e in
    (ap (λ (o : Opt). o.world) (sym same), λ x h. absurd (none_is x h))
result_in (Some b) env after None w e = absurd (cc)
result_in (Some b) env after (Some y) w e =
    let same = on_same (record { boxes = bind b y env.boxes; world = w }) after e in
    (ap (λ (o : Opt). o.world) (sym same), λ x h. sym (bound_same b y env.boxes) ∙ ap (λ (o : Opt). value_in o.boxes b) same ∙ h)

answered_so : (t : Table) (row : CallRow) (f : ℕ) (vs : List Value) (r : Option BoxId) (env after : Opt) (a : Answer) (rest : List Answer) → opt_plain r env (answered_if (fits t row (references vs) env.world.objects a) t row f vs a rest env.world) ≡ On after → Took t row vs r env after a
answered_so t row f vs r env after a rest e = which (fits t row (references vs) env.world.objects a) refl e
  where
    which : (b : Bool) → fits t row (references vs) env.world.objects a ≡ b → opt_plain r env (answered_if b t row f vs a rest env.world) ≡ On after → Took t row vs r env after a
    which false q g = absurd (cc)
    which true q g =
        let gives = value_given (references vs) (length env.world.objects) a.gives in
        let w = record (with_call t (event_of t row f vs gives env.world) env.world) { answers = rest } in
        let z = result_in r env after gives (answer_done t (references vs) a w) g in
        record { fit = q; world = w; same = refl; left = z.0; gave = z.1 }

first_answer : (t : Table) (row : CallRow) (f : ℕ) (vs : List Value) (r : Option BoxId) (env after : Opt) (o : Option Answer) (rest : List Answer) → opt_plain r env (called_first t row f vs o rest env.world) ≡ On after → (a : Answer) × (o ≡ Some a) × Took t row vs r env after a
first_answer t row f vs r env after None rest e = absurd (cc)
first_answer t row f vs r env after (Some a) rest e = (a, refl, answered_so t row f vs r env after a rest e)

abbrev TakesFirst : Table → CallRow → List Value → Option BoxId → Opt → Opt → Type 0
TakesFirst t row vs r env after = (a : Answer) × (slice_get env.world.answers 0 ≡ Some a) × Took t row vs r env after a

row_taken : (t : Table) (f k : ℕ) (vs : List Value) (r : Option BoxId) (env after : Opt) (row : CallRow) → slice_get t.calls k ≡ Some row → opt_plain r env (call_row t (slice_get t.calls k) f vs env.world) ≡ On after → TakesFirst t row vs r env after
row_taken t f k vs r env after row e g =
    first_answer t row f vs r env after (slice_get env.world.answers 0) (drop 1 env.world.answers)
    (subst (λ (o : Option CallRow). opt_plain r env (call_row t o f vs env.world) ≡ On after) e g)

step_taken : (t : Table) (operation : OpCode) (r : Option BoxId) (f k : ℕ) (args : List Arg) (env after : Opt) (row : CallRow) (vs : List Value) → IsTrue (is_call operation) → opt_step t (call_of operation r f args k) env ≡ On after → slice_get t.calls k ≡ Some row → opt_values env args ≡ Some vs → TakesFirst t row vs r env after
step_taken t code.CallI r f k args env after row vs h g e w = row_taken t f k vs r env after row e (subst (λ (o : Option (List Value)). opt_perform t code.CallI r (Func f ∷ args) (descr.Call k) env o ≡ On after) w g)
step_taken t code.CallR r f k args env after row vs h g e w = row_taken t f k vs r env after row e (subst (λ (o : Option (List Value)). opt_perform t code.CallR r (Func f ∷ args) (descr.Call k) env o ≡ On after) w g)
step_taken t code.CallN r f k args env after row vs h g e w = row_taken t f k vs r env after row e (subst (λ (o : Option (List Value)). opt_perform t code.CallN r (Func f ∷ args) (descr.Call k) env o ≡ On after) w g)
step_taken t _ r f k args env after row vs h g e w = absurd (cc)

pub answers_are_taken : AnswersAreTaken
answers_are_taken c operation r f k args env after row vs h g e w =
    let z = step_taken c.table operation r f k args env after row vs h g e w in (z.0, z.1, z.2.fit)

-- ---- what is asked

abbrev IsAskedSo : Setting → ℕ → List Arg → ℕ → List Value → Opt → State → Type 0
IsAskedSo c f args k vs env u = AsksAs c.table access.Call (Func f ∷ args) (descr.Call k) (Some vs) env.world u

asked_so : (c : Setting) (operation : OpCode) (r : Option BoxId) (f k : ℕ) (args : List Arg) (env : Opt) (q : ℕ) (u : State) (vs : List Value) → IsTrue (is_call operation) → AtCall c (call_of operation r f args k) env q u → opt_values env args ≡ Some vs → IsAskedSo c f args k vs env u
asked_so c code.CallI r f k args env q u vs h at w = subst (λ (o : Option (List Value)). AsksAs c.table access.Call (Func f ∷ args) (descr.Call k) o env.world u) w at.asks
asked_so c code.CallR r f k args env q u vs h at w = subst (λ (o : Option (List Value)). AsksAs c.table access.Call (Func f ∷ args) (descr.Call k) o env.world u) w at.asks
asked_so c code.CallN r f k args env q u vs h at w = subst (λ (o : Option (List Value)). AsksAs c.table access.Call (Func f ∷ args) (descr.Call k) o env.world u) w at.asks
asked_so c _ r f k args env q u vs h at w = absurd (cc)

pub arguments_are_read : ReferencesAreRead → ArgumentsAreRead
arguments_are_read reads c operation r f k args env q u row vs h at w kinds =
    let asks = asked_so c operation r f k args env q u vs h at w in
    subst (λ (ks : List Kind). values_read c.table u.arena ks (asked_words u args) ≡ vs) kinds
    (all_read reads c.table env.world.objects u.arena u (places_for args arg_places) vs at.arena asks.1 asks.2)

pub events_are_shown : ReferencesAreRead → ObjectsAreReadBack → KindsInRange → EventsAreShown
events_are_shown reads back kinds_in c operation r f k args env q u row vs gives h range holds at w kinds =
    let t = c.table in
    let there : objects_in t u.arena ≡ env.world.objects = back t env.world.objects u.arena at.arena holds (kinds_in t env.world.objects u.arena range at.arena) in
    ap (λ (xs : List Value). event_of t row f xs gives (record env.world { objects = objects_in t u.arena })) (arguments_are_read reads c operation r f k args env q u row vs h at w kinds)
    ∙ ap (λ (os : List Object). event_of t row f vs gives (record env.world { objects = os })) there

pub answers_leave : Relied → AllocationsStand → AllocationsAddress → AnswersLeave
answers_leave relied stand address c operation r f k args env after q u row vs a h range at g e w kinds first gives room =
    let t = c.table in
    let old = env.world.objects in
    let refs = references vs in
    let asks = asked_so c operation r f k args env q u vs h at w in
    let zs = reference_words row.args (asked_words u args) in
    let words : AreWords (address_of old) zs refs = subst (λ (ks : List Kind). AreWords (address_of old) (reference_words ks (asked_words u args)) refs) kinds (references_stand (address_of old) u (places_for args arg_places) vs asks.1) in
    let parts = references_are_parts (length old) vs asks.2 in
    let took : Took t row vs r env after a = (
    let z = step_taken t operation r f k args env after row vs h g e w in
    subst (Took t row vs r env after) (some_same (sym z.1 ∙ first)) z.2
    ) in
    let fit = three_true (same_result (kind_given a.gives) row.result) (is_named t (length refs) a.gives) (list_all (store_fits t row refs old) a.stores) took.fit in
    let start = took.world in
    let st : Stands t start.objects u.arena = subst (λ (xs : List Object). Stands t xs u.arena) (sym took.same) at.arena in
    let pre : PrebuiltsStand t start.objects = subst (PrebuiltsStand t) (sym took.same) at.prebuilts in
    let mid = with_fresh (new_object t a.gives) start in
    let begun = object_begun stand address t (length refs) start a.gives u.arena range pre st fit.0 room in
    let kept : Kept t old mid.objects = subst (λ (xs : List Object). Kept t xs mid.objects) took.same begun.kept in
    let later = all_stored relied.written t row old mid.objects mid (object_made t a.gives u.arena) refs zs a.stores range kept begun.later parts words gives.1 fit.1 in
    let new = (answer_done t refs a start).objects in
    let last = answer_made t zs a u.arena in
    let z = word_given t zs (0x10000000 + u.arena.taken) a.gives in
    let given = λ (x : Value) (i : value_given refs (length old) a.gives ≡ Some x). given_word address t old new u.arena start refs zs a.gives last x took.same at.arena kept later parts words gives.0 fit.0 i in
    let is_given = λ (x : Value) (i : given_in r after ≡ Some x). given x (took.gave x i) in
    subst (λ (o : World). HostLeft t (given_in r after) old o.objects z last) (sym took.left) (record {
      word = any_word relied t new last zs (0x10000000 + u.arena.taken) a.gives refs (length old) later.stands fit.0 given;
      stands = later.stands;
      kept = record { more = omega (arith, kept.more, later.more); addresses = λ n lt. later.places n (omega (arith, lt, kept.more)) ∙ kept.places n lt };
      result = λ x i. (is_given x i).1;
      part = λ x i. (is_given x i).0;
    })
  where
    three_true : (x y d : Bool) → (x && y && d) ≡ true → (y ≡ true) × (d ≡ true)
    three_true true true d p = (refl, p)
    three_true true false d p = absurd (cc)
    three_true false true d p = absurd (cc)
    three_true false false d p = absurd (cc)

    of_value : (rel : Relied) (t : Table) (new : List Object) (last : Arena) (z : ℤ) (x : Value) → Stands t new last → IsPart (length new) x × (z ≡ word_of (address_of new) x) → IsWord z
    of_value rel t new last z x st p = subst IsWord (sym p.1) (word_fits rel t new last x st p.0)

    any_word : (rel : Relied) (t : Table) (new : List Object) (last : Arena) (zs : List ℤ) (fresh : ℕ) (g : Give) (refs : List Value) (many : ℕ) → Stands t new last → is_named t (length refs) g ≡ true → ((x : Value) → value_given refs many g ≡ Some x → IsPart (length new) x × (word_given t zs fresh g ≡ word_of (address_of new) x)) → IsWord (word_given t zs fresh g)
    any_word rel t new last zs fresh give.Nothing refs many st n h = record { sfits = omega arith }
    any_word rel t new last zs fresh (give.Int z) refs many st n h = of_value rel t new last z (v.Int z) st (h (v.Int z) refl)
    any_word rel t new last zs fresh give.Null refs many st n h = record { sfits = omega arith }
    any_word rel t new last zs fresh (give.Arg j) refs many st n h =
        let x = get_some refs j (ltb-true j (length refs) n) in of_value rel t new last (word_given t zs fresh (give.Arg j)) x.0 st (h x.0 x.1)
    any_word rel t new last zs fresh (give.Prebuilt j) refs many st n h = of_value rel t new last (word_given t zs fresh (give.Prebuilt j)) (v.Obj j) st (h (v.Obj j) refl)
    any_word rel t new last zs fresh (give.New j) refs many st n h = of_value rel t new last (pos fresh) (v.Obj many) st (h (v.Obj many) refl)
