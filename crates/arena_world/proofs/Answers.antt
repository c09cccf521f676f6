-- An answer does in the arena what it does in the world.
use Rattle.std.proofs.Common.{◌≡◌, ℕ, zero, suc, ◌+◌, ◌-◌, ◌*◌, ◌<◌, ◌≤◌, Bool, true, false, ◌&&◌, Option, Some, None, List, [], ◌∷◌, ◌++◌, length, map, slice_get, refl, ap, sym, ◌∙◌, subst, arith, ℤ, pos}
use Rattle.std.specs.List.{All, Contains, list_all}
use Rattle.std.proofs.lemmas.Option.{same_Some, slice_get_within}
use Rattle.std.proofs.lemmas.List.{length-append, length-map}
use Rattle.std.proofs.lemmas.List.Elements.{All-head, All-tail}
use Rattle.std.proofs.lemmas.Bool.{and_parts}
use Rattle.trace_ops.specs.Words.{IsWord}
use Rattle.trace_ops.specs.declared.table.Table.{Table}
use Rattle.trace_ops.specs.declared.table.CallRow.{CallRow}
use Rattle.trace_ops.specs.declared.table.ShapeOf.TheVariants.{Size}
use Rattle.trace_ops.specs.InRange.{IsTableInRange}
use Rattle.trace_meaning.specs.declared.value.Value.{Value}
use Rattle.trace_meaning.specs.declared.value.Value.TheVariants as v
use Rattle.trace_meaning.specs.declared.value.Object.{Object}
use Rattle.trace_meaning.specs.declared.call.Give.{Give}
use Rattle.trace_meaning.specs.declared.call.Give.TheVariants as give
use Rattle.trace_meaning.specs.declared.call.Answer.{Answer}
use Rattle.trace_meaning.specs.Sound.{GivesWord, AnswersWords}
use Rattle.trace_meaning.specs.Values.{is_reference}
use Rattle.trace_meaning.specs.World.{World}
use Rattle.trace_meaning.specs.Objects.{fields_of, zeroed, with_new, zero_field}
use Rattle.trace_meaning.specs.Answers.{same_result, kind_given, is_named, store_fits, fits, value_given, value_stored, new_object, with_fresh, stores_done, answer_done}
use Rattle.target_base.specs.Arena.{Arena}
use Rattle.arena_objects.specs.Layout.{words_in, address_of, bytes_for, word_of}
use Rattle.arena_objects.specs.Standing.{IsPart, Stands}
use Rattle.arena_objects.specs.Making.{bytes_left, zeroed_of, arena_with}
use Rattle.arena_objects.specs.Laws.{AllocationsStand, AllocationsAddress, PartsStay, TakenIsThere, AddressesAreApart}
use Rattle.lists.proofs.Appends.{get_before}
use Rattle.lists.proofs.Alls.{all_weaker}
use Rattle.lists.proofs.Places.{get_some}
use Rattle.arena_world.specs.Prebuilt.{prebuilt_addresses, HasPrebuilts}
use Rattle.arena_world.specs.Answering.{given_word, fresh_bytes, with_fresh_words, stores_put, answered_arena, answered_word}
use Rattle.arena_world.specs.Laws.{words_of_refs, IsOne, AreReferences, IsAnswered, AnswersAlike}
use Rattle.arena_world.proofs.Firsts.{size_there}
use Rattle.arena_world.proofs.Fitted.{lt-is_true}
use Rattle.arena_world.proofs.Stores.{Cited, Keeps, keeps_all, stored_word, stores_alike}

-- what is cited of allocations
pub record Making : Type 0 where
  pub stand : AllocationsStand
  pub address : AllocationsAddress
  pub parts : PartsStay
  pub there : TakenIsThere
  pub apart : AddressesAreApart

-- ---- the new object

-- The objects before the stores: those that were there, at their addresses, and the new one at the next address.
pub record Freshly (t : Table) (g : Give) (old new : List Object) (before after : Arena) : Type 0 where
  pub stands : Stands t new after
  pub more : length old ≤ length new
  pub same : (n : ℕ) (o : Object) → slice_get old n ≡ Some o → slice_get new n ≡ Some o
  pub addresses : (n : ℕ) → n < length old → address_of new n ≡ address_of old n
  pub next : (k : ℕ) → g ≡ give.New k → (length old < length new) × (address_of new (length old) ≡ 0x10000000 + before.taken)

kept_here : (t : Table) (g : Give) (objects : List Object) (arena : Arena) → ((k : ℕ) → g ≡ give.New k → ⊥) → Stands t objects arena → Freshly t g objects objects arena arena
kept_here t g objects arena other st = record { stands = st; more = omega arith; same = λ n o e. e; addresses = λ n lt. refl; next = λ k e. absurd (other k e) }

made_new : Making → (t : Table) (k : ℕ) (objects : List Object) (arena : Arena) → IsTableInRange t → Stands t objects arena → k < length t.sizes → fresh_bytes t (give.New k) ≤ bytes_left arena → Freshly t (give.New k) objects (objects ++ zeroed t k ∷ []) arena (arena_with t (Size k) 0 arena)
made_new m t k objects arena r st lt room =
    let o = zeroed t k in
    let parts : length o.parts ≡ length (fields_of t k) = length-map (fields_of t k) (λ f. zero_field (slice_get t.fields f)) in
    let taken : arena.taken ≤ 8 * length arena.words = m.there t objects arena st in
    let some : 8 * (1 + length (fields_of t k)) ≤ 8 * length arena.words - arena.taken = room in
    let fits : 8 * (1 + length o.parts) + arena.taken ≤ 8 * length arena.words = omega arith in
    let count : length (objects ++ o ∷ []) ≡ length objects + 1 = length-append objects (o ∷ []) in
    let at = m.address t objects arena o st in
    record {
      stands = m.stand t objects arena (Size k) 0 st (size_there t k r lt) fits;
      more = omega arith;
      same = λ n x e. get_before objects (o ∷ []) n x e;
      addresses = at.1;
      next = λ j e. (omega arith, at.0);
    }

fresh_alike : Making → (t : Table) (refs : ℕ) (g : Give) (w : World) (arena : Arena) → IsTableInRange t → Stands t w.objects arena → is_named t refs g ≡ true → fresh_bytes t g ≤ bytes_left arena → Freshly t g w.objects (with_fresh (new_object t g) w).objects arena (with_fresh_words t g arena)
fresh_alike m t refs give.Nothing w arena r st n room = kept_here t give.Nothing w.objects arena (λ k e. cc) st
fresh_alike m t refs (give.Int z) w arena r st n room = kept_here t (give.Int z) w.objects arena (λ k e. cc) st
fresh_alike m t refs give.Null w arena r st n room = kept_here t give.Null w.objects arena (λ k e. cc) st
fresh_alike m t refs (give.Arg i) w arena r st n room = kept_here t (give.Arg i) w.objects arena (λ k e. cc) st
fresh_alike m t refs (give.Prebuilt i) w arena r st n room = kept_here t (give.Prebuilt i) w.objects arena (λ k e. cc) st
fresh_alike m t refs (give.New k) w arena r st n room = made_new m t k w.objects arena r st (lt-is_true k (length t.sizes) n) room

-- ---- what is given

-- a value that is given and no new object is one that may be stored
given_word_is : Cited → (t : Table) (old base now : List Object) (before after end : Arena) (refs : List Value) (g : Give) → HasPrebuilts t base → AreReferences (length base) refs → Keeps t base now end → Freshly t g old base before after → is_named t (length refs) g ≡ true → GivesWord g → (x : Value) → value_given refs (length old) g ≡ Some x → (given_word (prebuilt_addresses t) (words_of_refs base refs) (pos (0x10000000 + before.taken)) g ≡ word_of (address_of now) x) × IsPart (length now) x
given_word_is k t old base now before after end refs give.Nothing h are s f n w x e = absurd (cc)
given_word_is k t old base now before after end refs (give.Int z) h are s f n w x e = stored_word k t base now end refs (pos (0x10000000 + before.taken)) (give.Int z) x h are s n w e
given_word_is k t old base now before after end refs give.Null h are s f n w x e = stored_word k t base now end refs (pos (0x10000000 + before.taken)) give.Null x h are s n w e
given_word_is k t old base now before after end refs (give.Arg i) h are s f n w x e = stored_word k t base now end refs (pos (0x10000000 + before.taken)) (give.Arg i) x h are s n w e
given_word_is k t old base now before after end refs (give.Prebuilt i) h are s f n w x e = stored_word k t base now end refs (pos (0x10000000 + before.taken)) (give.Prebuilt i) x h are s n w e
given_word_is k t old base now before after end refs (give.New i) h are s f n w x e =
    let same : v.Obj (length old) ≡ x = same_Some (v.Obj (length old)) x e in
    let next = f.next i refl in (
      ap (λ a. pos a) (sym next.1 ∙ sym (s.addresses (length old))) ∙ ap (word_of (address_of now)) same,
      subst (IsPart (length now)) same (subst (λ c. length old < c) (sym s.count) next.0),
    )

-- the word of a part is a word
part_word : Making → (t : Table) (objects : List Object) (arena : Arena) (x : Value) → Stands t objects arena → IsPart (length objects) x → IsWord (word_of (address_of objects) x)
part_word m t objects arena (v.Int z) st h = h
part_word m t objects arena v.Null st h = record { sfits = omega arith }
part_word m t objects arena (v.Obj n) st h =
    let high : address_of objects n < 0x20000000 = (m.apart t objects arena n st h).high in
    record { sfits = omega arith }

given_is_word : Cited → Making → (t : Table) (old base now : List Object) (before after end : Arena) (refs : List Value) (g : Give) → HasPrebuilts t base → AreReferences (length base) refs → Keeps t base now end → Freshly t g old base before after → is_named t (length refs) g ≡ true → GivesWord g → (q : Option Value) → value_given refs (length old) g ≡ q → IsWord (given_word (prebuilt_addresses t) (words_of_refs base refs) (pos (0x10000000 + before.taken)) g)
given_is_word k m t old base now before after end refs g h are s f n w (Some x) e =
    let both = given_word_is k t old base now before after end refs g h are s f n w x e in
    subst IsWord (sym both.0) (part_word m t now end x s.stands both.1)
given_is_word k m t old base now before after end refs give.Nothing h are s f n w None e = record { sfits = omega arith }
given_is_word k m t old base now before after end refs (give.Int z) h are s f n w None e = absurd (cc)
given_is_word k m t old base now before after end refs give.Null h are s f n w None e = absurd (cc)
given_is_word k m t old base now before after end refs (give.Arg i) h are s f n w None e =
    let there = get_some refs i (lt-is_true i (length refs) n) in
    absurd (let no : None ≡ Some there.0 = sym e ∙ there.1 in cc)
given_is_word k m t old base now before after end refs (give.Prebuilt i) h are s f n w None e = absurd (cc)
given_is_word k m t old base now before after end refs (give.New i) h are s f n w None e = absurd (cc)

-- ---- the whole answer

words_same : Cited → (old new : List Object) (refs : List Value) → ((n : ℕ) → n < length old → address_of new n ≡ address_of old n) → AreReferences (length old) refs → words_of_refs new refs ≡ words_of_refs old refs
words_same k old new [] same are = refl
words_same k old new (x ∷ xs) same are =
    ap (λ z. z ∷ words_of_refs new xs) (k.keeps old new x same (All-head (IsOne (length old)) x xs are).1)
    ∙ ap (λ zs. word_of (address_of old) x ∷ zs) (words_same k old new xs same (All-tail (IsOne (length old)) x xs are))

pub answers_alike : Cited → Making → AnswersAlike
answers_alike k m t row refs w arena a r st h are words e room =
    let outer = and_parts (same_result (kind_given a.gives) row.result && is_named t (length refs) a.gives) (list_all (store_fits t row refs w.objects) a.stores) e in
    let named = (and_parts (same_result (kind_given a.gives) row.result) (is_named t (length refs) a.gives) outer.0).1 in
    let first = with_fresh (new_object t a.gives) w in
    let base = first.objects in
    let mid = with_fresh_words t a.gives arena in
    let f = fresh_alike m t (length refs) a.gives w arena r st named room in
    let have : HasPrebuilts t base = λ j lt. (omega (arith, (h j lt).0, f.more), f.addresses j (h j lt).0 ∙ (h j lt).1) in
    let they : AreReferences (length base) refs = all_weaker (IsOne (length w.objects)) (IsOne (length base)) refs (λ x p. (p.0, m.parts (length w.objects) (length base) x f.more p.1)) are in
    let same : words_of_refs base refs ≡ words_of_refs w.objects refs = words_same k w.objects base refs f.addresses are in
    let all = stores_alike k t row base w.objects refs a.stores first mid have they f.same outer.1 words.1 (keeps_all t base mid f.stands) in
    let now = (answer_done t refs a w).objects in
    let end = stores_put t (words_of_refs base refs) a.stores mid in
    let whole : IsAnswered t (value_given refs (length w.objects) a.gives) w.objects now (answered_word t (words_of_refs base refs) a arena) (answered_arena t (words_of_refs base refs) a arena) =
    record {
      word = given_is_word k m t w.objects base now arena mid end refs a.gives have they all f named words.0 (value_given refs (length w.objects) a.gives) refl;
      stands = all.stands;
      prebuilts = λ j lt. (omega (arith, (have j lt).0, all.count), all.addresses j ∙ (have j lt).1);
      more = omega (arith, f.more, all.count);
      addresses = λ n lt. all.addresses n ∙ f.addresses n lt;
      result = λ x g. (given_word_is k t w.objects base now arena mid end refs a.gives have they all f named words.0 x g).0;
      part = λ x g. (given_word_is k t w.objects base now arena mid end refs a.gives have they all f named words.0 x g).1;
    } in
    subst (λ ws. IsAnswered t (value_given refs (length w.objects) a.gives) w.objects now (answered_word t ws a arena) (answered_arena t ws a arena)) same whole
