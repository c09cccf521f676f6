-- The object of a number, and the address at which the walk finds it.
use Rattle.std.proofs.Common.{◌≡◌, ℕ, zero, suc, ◌+◌, ◌*◌, Bool, true, false, cond, nat_lt, Option, Some, None, List, ◌∷◌, length, slice_get, refl, ap, sym, ◌∙◌, subst, arith, ℤ, pos, negsuc}
use Rattle.std.specs.Prelude.{nat_eq, is_some, option_and_then}
use Rattle.std.specs.Option.{option_map}
use Rattle.std.proofs.lemmas.Option.{same_Some, slice_get-map}
use Rattle.std.proofs.lemmas.Bool.{eqb-true}
use Rattle.trace_ops.specs.declared.table.Table.{Table}
use Rattle.trace_ops.specs.declared.piece.Spot.{Spot}
use Rattle.trace_meaning.specs.declared.value.Object.{Object}
use Rattle.trace_meaning.specs.Objects.{place_of, place_within, within}
use Rattle.target_base.specs.Arena.{Arena}
use Rattle.arena_objects.specs.declared.walk.Found.{Found}
use Rattle.arena_objects.specs.Walk.{words_found, begins_at, onward, walk, objects_found, number_from, object_at}
use Rattle.arena_objects.specs.Walked.{number_in, addresses_found, AddressesNumber}
use Rattle.arena_objects.specs.ReadBack.{parts_from, object_in, objects_in}
use Rattle.arena_objects.specs.Laws.{FoundAreTaken}
use Rattle.session_host.specs.Showing.{has_spot}
use Rattle.run_session.specs.Read.{begins_by, is_within}

-- the object of a number counted from n stands at its place, and begins at the address
abbrev There : Table → Arena → List Found → ℕ → ℕ → ℕ → Type 0
There t arena fs n b j = (k : ℕ) × (f : Found) × (j ≡ n + k) × (slice_get fs k ≡ Some f) × (begins_at t arena b ≡ Some f)

front : FoundAreTaken → (t : Table) (arena : Arena) (rest : ℕ → List Found) (n a b j : ℕ) (o : Option Found) → begins_at t arena a ≡ o
    → ((x : ℕ) → number_from (suc n) (pos b) (rest x) ≡ Some j → There t arena (rest x) (suc n) b j)
    → number_from n (pos b) (onward rest o) ≡ Some j → There t arena (onward rest o) n b j
front taken t arena rest n a b j None q more e = absurd (cc)
front taken t arena rest n a b j (Some f) q more e =
    elim (nat_eq f.at b) as (λ x. nat_eq f.at b ≡ x → cond x (Some n) (number_from (suc n) (pos b) (rest (f.at + 8 * words_found f))) ≡ Some j → There t arena (f ∷ rest (f.at + 8 * words_found f)) n b j) [
      | true ↦ λ p h. (
          let same : f.at ≡ b = eqb-true f.at b p in
          let it : n ≡ j = same_Some n j h in
          let at : f.at ≡ a = (taken t arena a f q).0 in
          (0, f, omega arith, refl, subst (λ x. begins_at t arena x ≡ Some f) (sym at ∙ same) q))
      | false ↦ λ p h. (
          let r = more (f.at + 8 * words_found f) h in
          let one : j ≡ suc n + r.0 = r.2 in
          (suc r.0, r.1, omega arith, r.3, r.4))
    ]
    refl e

number_found : FoundAreTaken → (t : Table) (arena : Arena) (m n a b j : ℕ) → number_from n (pos b) (walk m t arena a) ≡ Some j → There t arena (walk m t arena a) n b j
number_found taken t arena zero n a b j e = absurd (cc)
number_found taken t arena (suc m) n a b j e = front taken t arena (walk m t arena) n a b j (begins_at t arena a) refl (λ x h. number_found taken t arena m (suc n) x b j h) e

-- the object of a number begins at its address
pub begins_there : FoundAreTaken → (t : Table) (arena : Arena) (b k : ℕ) → object_at t arena (pos b) ≡ Some k → (f : Found) × (slice_get (objects_found t arena) k ≡ Some f) × (begins_at t arena b ≡ Some f)
unfolding objects_found
begins_there taken t arena b k e =
    let r = number_found taken t arena arena.taken 0 0x10000000 b k e in
    let none : k ≡ 0 + r.0 = r.2 in
    let same : r.0 ≡ k = omega arith in
    (r.1, subst (λ i. slice_get (walk arena.taken t arena 0x10000000) i ≡ Some r.1) same r.3, r.4)

length_parts : (t : Table) (arena : Arena) (f : Found) (i n : ℕ) → length (parts_from t arena f i n) ≡ n
length_parts t arena f i zero = refl
length_parts t arena f i (suc n) = ap suc (length_parts t arena f (suc i) n)

pub object_read : (t : Table) (arena : Arena) (k : ℕ) (f : Found) → slice_get (objects_found t arena) k ≡ Some f → slice_get (objects_in t arena) k ≡ Some (object_in t arena f)
unfolding objects_in
object_read t arena k f e = slice_get-map (object_in t arena) (objects_found t arena) k ∙ ap (option_map (object_in t arena)) e

within_parts : (o : Object) (n : ℕ) (i : Option ℕ) → length o.parts ≡ n → is_some (option_and_then (within o) i) ≡ is_within n i
within_parts o n None e = refl
within_parts o n (Some i) e = by (nat_lt i (length o.parts)) refl
  where
    by : (b : Bool) → nat_lt i (length o.parts) ≡ b → is_some (within o i) ≡ nat_lt i n
    by true q = ap (λ (x : Bool). is_some (cond x (Some i) None)) q ∙ sym q ∙ ap (nat_lt i) e
    by false q = ap (λ (x : Bool). is_some (cond x (Some i) None)) q ∙ sym q ∙ ap (nat_lt i) e

spot_of : (t : Table) (arena : Arena) (spot : Spot) (k : ℕ) (f : Found) → slice_get (objects_found t arena) k ≡ Some f → has_spot t arena spot (Some k) ≡ is_within f.parts (place_of t f.of spot)
spot_of t arena spot k f e =
    ap (λ (o : Option Object). is_some (option_and_then (place_within t spot) o)) (object_read t arena k f e)
    ∙ within_parts (object_in t arena f) f.parts (place_of t f.of spot) (length_parts t arena f 0 f.parts)

-- where no object begins there is no spot
pub no_spot : FoundAreTaken → (t : Table) (arena : Arena) (spot : Spot) (w : ℤ) → begins_by t arena w ≡ None → has_spot t arena spot (object_at t arena w) ≡ false
no_spot taken t arena spot (negsuc n) e = refl
no_spot taken t arena spot (pos b) e = by (object_at t arena (pos b)) refl
  where
    by : (o : Option ℕ) → object_at t arena (pos b) ≡ o → has_spot t arena spot o ≡ false
    by None q = refl
    by (Some k) q = (let r = begins_there taken t arena b k q in let no : Some r.0 ≡ None = sym r.2 ∙ e in absurd (cc))

-- a numbered object has those of the object that begins at its address
pub spot_there : FoundAreTaken → (t : Table) (arena : Arena) (spot : Spot) (w : ℤ) (k : ℕ) (f : Found) → object_at t arena w ≡ Some k → begins_by t arena w ≡ Some f → is_within f.parts (place_of t f.of spot) ≡ has_spot t arena spot (object_at t arena w)
spot_there taken t arena spot (negsuc n) k f q e = absurd (cc)
spot_there taken t arena spot (pos b) k f q e =
    let r = begins_there taken t arena b k q in
    let same : r.0 ≡ f = same_Some r.0 f (sym r.2 ∙ e) in
    sym (ap (has_spot t arena spot) q ∙ spot_of t arena spot k f (subst (λ (x : Found). slice_get (objects_found t arena) k ≡ Some x) same r.1))

-- the same, where the word has a number among the addresses that were found
pub spot_by : FoundAreTaken → AddressesNumber → (t : Table) (arena : Arena) (found : List ℕ) (spot : Spot) (w : ℤ) (f : Found) (o : Option ℕ) → o ≡ number_in w found → found ≡ addresses_found t arena → (o ≡ None → ⊥) → begins_by t arena w ≡ Some f → is_within f.parts (place_of t f.of spot) ≡ has_spot t arena spot (object_at t arena w)
spot_by taken numbers t arena found spot w f None n e some b = absurd (some refl)
spot_by taken numbers t arena found spot w f (Some k) n e some b =
    spot_there taken t arena spot w k f (sym (numbers t arena w) ∙ ap (number_in w) (sym e) ∙ sym n) b
