-- Places get numbers, and pairs are counted by them.
use Rattle.std.proofs.Common.{◌≡◌, ℕ, zero, suc, ◌+◌, ◌-◌, ◌<◌, ◌≤◌, Bool, true, false, cond, eqb, List, [], ◌∷◌, ◌++◌, Option, Some, None, length, slice_get, get_or, slice_set, map, drop, take, replicate, refl, ap, sym, subst, ◌∙◌, inl, inr, arith}
use Rattle.std.specs.List.{list_any, AllByRecursion, IsDistinct}
use Rattle.std.specs.Prelude.{IfNone}
use Rattle.std.proofs.lemmas.Bool.Decides.{eqb_tells}
use Rattle.std.proofs.lemmas.List.{get_or-set_same, get_or-set_other, take_more, length_push}
use Rattle.std.proofs.lemmas.Option.{get_or_from_slice_get}
use Rattle.target_base.specs.declared.place.Place.{Place}
use Rattle.target_base.specs.declared.place.Place.TheVariants.{Word}
use Rattle.parallel_move.specs.Moving.{same}
use Rattle.parallel_move.specs.Resting.{Numbered, name, named, pairs_of, IsBelow, targets_at, sources_at, CountTargets, CountSources, IsRest}
use Rattle.parallel_move.proofs.Same.{place_same}
use Rattle.parallel_move.proofs.RestLemmas.{apart_of, rest_next}

get_or-left : {X : Type 0} (xs ys : List X) (k : ℕ) (d : X) → k < length xs → get_or (xs ++ ys) k d ≡ get_or xs k d
get_or-left [] ys k d h = absurd (omega (arith, h))
get_or-left (x ∷ xs) ys zero d h = refl
get_or-left (x ∷ xs) ys (suc k) d h = get_or-left xs ys k d (omega (arith, h))

-- ---- a place's number

abbrev pub put : List Place → Place → List Place
put names p = cond (list_any (same p) names) names (names ++ p ∷ [])

pub put_more : (names new : List Place) (p : Place) → new ≡ put names p → length names ≤ length new
put_more names new p e = subst (λ (ps : List Place). length names ≤ length ps) (sym e) (by (list_any (same p) names))
  where
    by : (b : Bool) → length names ≤ length (cond b names (names ++ p ∷ []))
    by true = omega arith
    by false = omega (arith, length_push names p)

pub put_kept : (names new : List Place) (p : Place) → new ≡ put names p → (k : ℕ) → k < length names → name new k ≡ name names k
put_kept names new p e k h = ap (λ (ps : List Place). name ps k) e ∙ by (list_any (same p) names)
  where
    by : (b : Bool) → name (cond b names (names ++ p ∷ [])) k ≡ name names k
    by true = refl
    by false = get_or-left names (p ∷ []) k (Word 0) h

pub put_is : (new : List Place) (p q : Place) (k : ℕ) → slice_get new k ≡ Some q → same p q ≡ true → name new k ≡ p
put_is new p q k at e = get_or_from_slice_get new k q (Word 0) at ∙ sym (place_same p q e)

-- ---- pairs by number

all_push : {X : Type 0} (P : X → Type 0) (xs : List X) (x : X) → AllByRecursion P xs → P x → AllByRecursion P (xs ++ x ∷ [])
all_push P [] x all h = (h, tt)
all_push P (y ∷ ys) x all h = (all.0, all_push P ys x all.1 h)

below_more : (n m : ℕ) (pairs : List (ℕ × ℕ)) → n ≤ m → AllByRecursion (IsBelow n) pairs → AllByRecursion (IsBelow m) pairs
below_more n m [] h all = tt
below_more n m (pair ∷ pairs) h all = ((omega (arith, all.0.0, h), omega (arith, all.0.1, h)), below_more n m pairs h all.1)

named_kept : (names new : List Place) (pairs : List (ℕ × ℕ)) → ((k : ℕ) → k < length names → name new k ≡ name names k) → AllByRecursion (IsBelow (length names)) pairs
    → map (named new) pairs ≡ map (named names) pairs
named_kept names new [] kept below = refl
named_kept names new (pair ∷ pairs) kept below =
    ap (λ (p : Place). (p, name new pair.1) ∷ map (named new) pairs) (kept pair.0 below.0.0) ∙ ap (λ (p : Place). (name names pair.0, p) ∷ map (named new) pairs) (kept pair.1 below.0.1)
    ∙ ap (λ (ps : List (Place × Place)). named names pair ∷ ps) (named_kept names new pairs kept below.1)

map_push : {X Y : Type 0} (f : X → Y) (xs : List X) (x : X) → map f (xs ++ x ∷ []) ≡ map f xs ++ f x ∷ []
map_push f [] x = refl
map_push {X} {Y} f (y ∷ ys) x = ap (λ (zs : List Y). f y ∷ zs) (map_push f ys x)

module _ (old mid new : List Place) (t s : ℕ) (kept : (k : ℕ) → k < length old → name mid k ≡ name old k) (more : length old ≤ length mid) (t_in : t < length mid)
    (kept2 : (k : ℕ) → k < length mid → name new k ≡ name mid k) (more2 : length mid ≤ length new) (s_in : s < length new) (out : List (ℕ × ℕ)) (below : AllByRecursion (IsBelow (length old)) out) where
  pub numbered_below : (all : List (ℕ × ℕ)) → all ≡ out ++ (t, s) ∷ [] → AllByRecursion (IsBelow (length new)) all
  numbered_below all e =
      subst (AllByRecursion (IsBelow (length new))) (sym e)
      (all_push (IsBelow (length new)) out (t, s) (below_more (length old) (length new) out (omega (arith, more, more2)) below) (omega (arith, t_in, more2), s_in))

  pub numbered_step : (pairs : List (Place × Place)) (i : ℕ) (d : Place × Place) (all : List (ℕ × ℕ)) → i < length pairs → all ≡ out ++ (t, s) ∷ [] → map (named old) out ≡ take i pairs
      → name mid t ≡ (get_or pairs i d).0 → name new s ≡ (get_or pairs i d).1 → map (named new) all ≡ take (i + 1) pairs
  numbered_step pairs i d all within e had t_is s_is =
      ap (map (named new)) e ∙ map_push (named new) out (t, s)
      ∙ ap (λ (ps : List (Place × Place)). ps ++ named new (t, s) ∷ [])
      (named_kept old new out (λ k h. kept2 k (omega (arith, h, more)) ∙ kept k h) below ∙ had)
      ∙ ap (λ (p : Place). take i pairs ++ (p, name new s) ∷ []) (kept2 t t_in ∙ t_is) ∙ ap (λ (p : Place). take i pairs ++ ((get_or pairs i d).0, p) ∷ []) s_is
      ∙ sym (take_more pairs i d within)

-- ---- lists that are made by pushes

pub push_at : (xs : List ℕ) (x : ℕ) → ((k : ℕ) → k < length xs → get_or xs k 0 ≡ k) → x ≡ length xs → (k : ℕ) → k < length (xs ++ x ∷ []) → get_or (xs ++ x ∷ []) k 0 ≡ k
push_at xs x h e k w = elim (eqb_tells k (length xs)) [
  | inl t ↦ ap (λ j. get_or (xs ++ x ∷ []) j 0) t.1 ∙ last xs ∙ e ∙ sym t.1
  | inr t ↦ let low : k < length xs = omega (arith, w, length_push xs x, t.1) in get_or-left xs (x ∷ []) k 0 low ∙ h k low
]
  where
    last : (ys : List ℕ) → get_or (ys ++ x ∷ []) (length ys) 0 ≡ x
    last [] = refl
    last (y ∷ ys) = last ys

-- ---- counts

abbrev number : Bool → ℕ
number b = cond b 1 0

zero_at : (n k : ℕ) → get_or (replicate {A = ℕ} n 0) k 0 ≡ zero
zero_at zero k = refl
zero_at (suc n) zero = refl
zero_at (suc n) (suc k) = zero_at n k

pub zeros_are : (n k : ℕ) → get_or (replicate {A = ℕ} n 0) k 0 ≡ zero
zeros_are = zero_at

pub below_at : (n : ℕ) (pairs : List (ℕ × ℕ)) (i : ℕ) (d : ℕ × ℕ) → i < length pairs → AllByRecursion (IsBelow n) pairs → IsBelow n (get_or pairs i d)
below_at n [] i d h all = absurd (omega (arith, h))
below_at n (pair ∷ pairs) zero d h all = all.0
below_at n (pair ∷ pairs) (suc i) d h all = below_at n pairs i d (omega (arith, h)) all.1

at_most_one : (b : Bool) → number b ≤ suc zero
at_most_one true = omega arith
at_most_one false = omega arith

targets_push : (k : ℕ) (pairs : List (ℕ × ℕ)) (pair : ℕ × ℕ) → targets_at k (pairs ++ pair ∷ []) ≡ targets_at k pairs + number (eqb pair.0 k)
targets_push k [] pair = omega arith
targets_push k (p ∷ ps) pair = omega (arith, targets_push k ps pair)

sources_push : (k : ℕ) (pairs : List (ℕ × ℕ)) (pair : ℕ × ℕ) → sources_at k (pairs ++ pair ∷ []) ≡ sources_at k pairs + number (eqb pair.1 k)
sources_push k [] pair = omega arith
sources_push k (p ∷ ps) pair = omega (arith, sources_push k ps pair)

targets_few : (k : ℕ) (pairs : List (ℕ × ℕ)) (i : ℕ) → targets_at k (take i pairs) ≤ i
targets_few k pairs zero = omega arith
targets_few k [] (suc i) = omega arith
targets_few k (p ∷ ps) (suc i) = omega (arith, targets_few k ps i, at_most_one (eqb p.0 k))

sources_few : (k : ℕ) (pairs : List (ℕ × ℕ)) (i : ℕ) → sources_at k (take i pairs) ≤ i
sources_few k pairs zero = omega arith
sources_few k [] (suc i) = omega arith
sources_few k (p ∷ ps) (suc i) = omega (arith, sources_few k ps i, at_most_one (eqb p.1 k))

pub target_few : (counts : List ℕ) (pairs : List (ℕ × ℕ)) (i k most : ℕ) → get_or counts k 0 ≡ targets_at k (take i pairs) → i < most → get_or counts k 0 < most
target_few counts pairs i k most e h = omega (arith, e, h, targets_few k pairs i)

pub source_few : (counts : List ℕ) (pairs : List (ℕ × ℕ)) (i k most : ℕ) → get_or counts k 0 ≡ sources_at k (take i pairs) → i < most → get_or counts k 0 < most
source_few counts pairs i k most e h = omega (arith, e, h, sources_few k pairs i)

raised_at : (counts : List ℕ) (k j : ℕ) → k < length counts → get_or (slice_set counts k (get_or counts k 0 + 1)) j 0 ≡ get_or counts j 0 + number (eqb k j)
raised_at counts k j h = elim (eqb_tells k j) [
  | inl t ↦
      let one : number (eqb k j) ≡ suc zero = ap (λ (b : Bool). number b) t.0 in
      let same : get_or counts k 0 ≡ get_or counts j 0 = ap (λ m. get_or counts m 0) t.1 in
      ap (λ m. get_or (slice_set counts k (get_or counts k 0 + 1)) m 0) (sym t.1) ∙ get_or-set_same counts k (get_or counts k 0 + 1) 0 h ∙ omega (arith, one, same)
  | inr t ↦
      let none : number (eqb k j) ≡ zero = ap (λ (b : Bool). number b) t.0 in
      get_or-set_other counts k j (get_or counts k 0 + 1) 0 (λ e. t.1 (sym e)) ∙ omega (arith, none)
]

pub targets_step : (counts new : List ℕ) (pairs : List (ℕ × ℕ)) (i : ℕ) (d : ℕ × ℕ) (j : ℕ) → i < length pairs → new ≡ slice_set counts (get_or pairs i d).0 (get_or counts (get_or pairs i d).0 0 + 1)
    → (get_or pairs i d).0 < length counts → get_or counts j 0 ≡ targets_at j (take i pairs) → get_or new j 0 ≡ targets_at j (take (i + 1) pairs)
targets_step counts new pairs i d j within e h had =
    ap (λ (xs : List ℕ). get_or xs j 0) e ∙ raised_at counts (get_or pairs i d).0 j h ∙ ap (λ n. n + number (eqb (get_or pairs i d).0 j)) had
    ∙ sym (ap (targets_at j) (take_more pairs i d within) ∙ targets_push j (take i pairs) (get_or pairs i d))

pub sources_step : (counts new : List ℕ) (pairs : List (ℕ × ℕ)) (i : ℕ) (d : ℕ × ℕ) (j : ℕ) → i < length pairs → new ≡ slice_set counts (get_or pairs i d).1 (get_or counts (get_or pairs i d).1 0 + 1)
    → (get_or pairs i d).1 < length counts → get_or counts j 0 ≡ sources_at j (take i pairs) → get_or new j 0 ≡ sources_at j (take (i + 1) pairs)
sources_step counts new pairs i d j within e h had =
    ap (λ (xs : List ℕ). get_or xs j 0) e ∙ raised_at counts (get_or pairs i d).1 j h ∙ ap (λ n. n + number (eqb (get_or pairs i d).1 j)) had
    ∙ sym (ap (sources_at j) (take_more pairs i d within) ∙ sources_push j (take i pairs) (get_or pairs i d))

pub take_all : {X : Type 0} (xs : List X) (i : ℕ) → length xs ≤ i → take i xs ≡ xs
take_all [] zero h = refl
take_all [] (suc i) h = refl
take_all (x ∷ xs) zero h = absurd (omega (arith, h))
take_all {X} (x ∷ xs) (suc i) h = ap (λ (ys : List X). x ∷ ys) (take_all xs i (omega (arith, h)))

pub drop_all : {X : Type 0} (xs : List X) (i : ℕ) → length xs ≤ i → drop i xs ≡ []
drop_all [] zero h = refl
drop_all [] (suc i) h = refl
drop_all (x ∷ xs) zero h = absurd (omega (arith, h))
drop_all (x ∷ xs) (suc i) h = drop_all xs i (omega (arith, h))

pub drop_next : {X : Type 0} (xs : List X) (i : ℕ) (d : X) → i < length xs → drop i xs ≡ get_or xs i d ∷ drop (i + 1) xs
drop_next [] i d h = absurd (omega (arith, h))
drop_next (x ∷ xs) zero d h = refl
drop_next {X} (x ∷ xs) (suc i) d h =
    let e : suc (i + 1) ≡ suc i + 1 = omega arith in
    drop_next xs i d (omega (arith, h)) ∙ ap (λ k. get_or xs i d ∷ drop k (x ∷ xs)) e

-- ---- at first

pub rest_begins : (names : List Place) (pairs : List (ℕ × ℕ)) (targets sources at holds : List ℕ) → IsDistinct same names → AllByRecursion (IsBelow (length names)) pairs
    → CountTargets targets pairs → CountSources sources pairs → length targets ≡ length names → length sources ≡ length names
    → ((k : ℕ) → k < length names → get_or at k 0 ≡ k) → length at ≡ length names → ((k : ℕ) → k < length names → get_or holds k 0 ≡ k) → length holds ≡ length names
    → IsRest names pairs targets sources at holds
rest_begins names pairs targets sources at holds once below ts ss tl sl at_is al holds_is hl = record {
  apart = apart_of names once;
  below = below;
  forth = λ k h. (subst (λ j. j < length names) (sym (at_is k h)) h, ap (λ j. get_or holds j 0) (at_is k h) ∙ holds_is k h);
  back = λ k h. (subst (λ j. j < length names) (sym (holds_is k h)) h, ap (λ j. get_or at j 0) (holds_is k h) ∙ at_is k h);
  targets_counted = ts;
  sources_counted = ss;
  each_target = tl;
  each_source = sl;
  each_at = al;
  each_held = hl;
}

-- pairs that no exchange has moved
pub unmoved : (names : List Place) (at : List ℕ) (pairs : List (ℕ × ℕ)) → ((k : ℕ) → k < length names → get_or at k 0 ≡ k) → AllByRecursion (IsBelow (length names)) pairs
    → map (named names) (map (λ (pair : ℕ × ℕ). (pair.0, get_or at pair.1 0)) pairs) ≡ map (named names) pairs
unmoved names at [] h below = refl
unmoved names at (pair ∷ pairs) h below =
    ap (λ j. (name names pair.0, name names j) ∷ map (named names) (map (λ (pair : ℕ × ℕ). (pair.0, get_or at pair.1 0)) pairs)) (h pair.1 below.0.1)
    ∙ ap (λ (ps : List (Place × Place)). named names pair ∷ ps) (unmoved names at pairs h below.1)

-- ---- the first pair

pub next_pairs : (old new : Numbered) (pair : ℕ × ℕ) → old.pairs ≡ pair ∷ new.pairs → new.names ≡ old.names → pairs_of old ≡ named new.names pair ∷ pairs_of new
next_pairs old new pair e same_names =
    ap (map (named old.names)) e ∙ ap (λ (ns : List Place). named ns pair ∷ map (named ns) new.pairs) (sym same_names)

pub no_pairs : (rest : Numbered) → rest.pairs ≡ [] → pairs_of rest ≡ []
no_pairs rest e = ap (map (named rest.names)) e

pub rest_after : (names : List Place) (pairs : List (ℕ × ℕ)) (next : ℕ) (p : ℕ × ℕ) (targets sources at holds less_targets less_sources : List ℕ) → next < length pairs → p ≡ get_or pairs next p
    → IsRest names (drop next pairs) targets sources at holds → less_targets ≡ slice_set targets p.0 (get_or targets p.0 0 - 1) → less_sources ≡ slice_set sources p.1 (get_or sources p.1 0 - 1)
    → IsRest names (drop (next + 1) pairs) less_targets less_sources at holds
rest_after names pairs next p targets sources at holds less_targets less_sources within is rest et es =
    let first : drop next pairs ≡ p ∷ drop (next + 1) pairs = drop_next pairs next p within ∙ ap (λ (x : ℕ × ℕ). x ∷ drop (next + 1) pairs) (sym is) in
    subst (λ (ts : List ℕ). IsRest names (drop (next + 1) pairs) ts less_sources at holds) (sym et)
    (subst (λ (ss : List ℕ). IsRest names (drop (next + 1) pairs) (slice_set targets p.0 (get_or targets p.0 0 - 1)) ss at holds) (sym es)
    (rest_next names p (drop (next + 1) pairs) targets sources at holds (subst (λ (ps : List (ℕ × ℕ)). IsRest names ps targets sources at holds) first rest)))

pub none_left : (o : Option (ℕ × ℕ)) (P : Type 0) → ((pair : ℕ × ℕ) → o ≡ Some pair → ⊥) → IfNone o P → P
none_left None P never h = h
none_left (Some pair) P never h = absurd (never pair refl)
