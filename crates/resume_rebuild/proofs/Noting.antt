-- Places of boxes, noted from the last one back.
use Rattle.std.proofs.Common.{◌≡◌, ℕ, zero, suc, ◌+◌, ◌-◌, ◌<◌, ◌≤◌, Bool, true, false, not, cond, nat_lt, Option, Some, None, List, [], ◌∷◌, ◌==◌, ◌≢◌, eq-eqb, drop, length, slice_get, slice_index_or, refl, ap, sym, ◌∙◌, subst, arith}
use Rattle.std.specs.Prelude.{position, option_and_then, slice_set}
use Rattle.std.specs.List.{position_or_len}
use Rattle.std.proofs.Math.ListN.{length-set}
use Rattle.std.proofs.lemmas.Bool.{eqb-true, ltb-true}
use Rattle.std.proofs.lemmas.List.{drop_all, drop_more}
use Rattle.std.proofs.lemmas.List.Quantifiers.{position-Some}
use Rattle.std.proofs.lemmas.Option.{same_Some, slice_get_within, get_or_from_slice_get}
use Rattle.lists.proofs.Places.{get_some, get_set_within, get_set_other}
use Rattle.trace_ops.specs.declared.trace.BoxId.{BoxId}
use Rattle.target_base.specs.declared.place.Place.{Place}
use Rattle.resume_rebuild.specs.Noted.{has_number, AreNoted, entry_if}
use Rattle.resume_rebuild.specs.Rebuilding.{entry_in}
use Rattle.resume_rebuild.proofs.RowFinding.{hit, missed}

-- the place of the first is the one that position gives
place_of_first : {X : Type 0} (p : X → Bool) (xs : List X) (j : ℕ) → position p xs ≡ Some j → (j ≡ position_or_len p xs) × (position_or_len p xs < length xs)
place_of_first p xs j e = by (nat_lt (position_or_len p xs) (length xs)) refl e
  where
    by : (b : Bool) → nat_lt (position_or_len p xs) (length xs) ≡ b → cond b (Some (position_or_len p xs)) None ≡ Some j → (j ≡ position_or_len p xs) × (position_or_len p xs < length xs)
    by true q f = (sym (same_Some (position_or_len p xs) j f), ltb-true (position_or_len p xs) (length xs) q)
    by false q f = absurd (cc)

-- the boxes from place k on are noted
abbrev pub AreNotedIn : List (BoxId × Place) → ℕ → List ℕ → Type 0
AreNotedIn rest k noted =
    (n : ℕ) → n < length noted → position_or_len (has_number n) rest < length rest → slice_get noted n ≡ Some (k + position_or_len (has_number n) rest)

abbrev pub AreNotedFrom : List (BoxId × Place) → ℕ → List ℕ → Type 0
AreNotedFrom places k noted = AreNotedIn (drop k places) k noted

pub noted_none : (places : List (BoxId × Place)) (k : ℕ) (noted : List ℕ) → length places ≤ k → AreNotedFrom places k noted
noted_none places k noted le = subst (λ l. AreNotedIn l k noted) (sym (drop_all k places le)) (λ n lt within. absurd (omega arith))

noted_one : (p : BoxId × Place) (rest : List (BoxId × Place)) (k : ℕ) (noted : List ℕ) → AreNotedIn rest (k + 1) noted → AreNotedIn (p ∷ rest) k (slice_set noted p.0.number k)
noted_one p rest k noted h n lt within = by (has_number n p) refl within
  where
    few : n < length noted
    few = (let same : length (slice_set noted p.0.number k) ≡ length noted = length-set noted p.0.number k in omega (arith, lt, same))

    by : (b : Bool) → has_number n p ≡ b → cond (not b) (1 + position_or_len (has_number n) rest) 0 < length (p ∷ rest) → slice_get (slice_set noted p.0.number k) n ≡ Some (k + cond (not b) (1 + position_or_len (has_number n) rest) 0)
    by true e w =
        let same : p.0.number ≡ n = eqb-true p.0.number n e in
        let here : k ≡ k + 0 = omega arith in
        ap (λ j. slice_get (slice_set noted j k) n) same ∙ get_set_within noted n k few ∙ ap Some here
    by false e w =
        let other : n ≢ p.0.number = λ same. absurd (let wrong : has_number n p ≡ true = eq-eqb p.0.number n (sym same) in cc) in
        let inside : position_or_len (has_number n) rest < length rest = omega (arith, w) in
        let next : k + 1 + position_or_len (has_number n) rest ≡ k + (1 + position_or_len (has_number n) rest) = omega arith in
        get_set_other noted p.0.number n k other ∙ h n few inside ∙ ap Some next

pub noted_step : (places : List (BoxId × Place)) (k : ℕ) (d : BoxId × Place) (noted new : List ℕ) → 0 < k → k ≤ length places → AreNotedFrom places k noted → new ≡ slice_set noted (slice_index_or places (k - 1) d).0.number (k - 1) → AreNotedFrom places (k - 1) new
noted_step places k d noted new some le h e =
    let lt : k - 1 < length places = omega arith in
    let next : k ≡ k - 1 + 1 = omega arith in
    let p = slice_index_or places (k - 1) d in
    let one = noted_one p (drop (k - 1 + 1) places) (k - 1) noted (subst (λ j. AreNotedFrom places j noted) next h) in
    subst (AreNotedFrom places (k - 1)) (sym e) (subst (λ l. AreNotedIn l (k - 1) (slice_set noted p.0.number (k - 1))) (sym (drop_more places (k - 1) d lt)) one)

pub noted_all : (places : List (BoxId × Place)) (noted : List ℕ) → AreNotedFrom places 0 noted → AreNoted places noted
noted_all places noted h n lt within =
    let none : 0 + position_or_len (has_number n) places ≡ position_or_len (has_number n) places = omega arith in
    h n lt within ∙ ap Some none

absent : (places : List (BoxId × Place)) (n i : ℕ) (o : Option (BoxId × Place)) → slice_get places i ≡ o → position (has_number n) places ≡ None → entry_if n o ≡ None
absent places n i None g f = refl
absent places n i (Some p) g f = of (has_number n p) refl
  where
    of : (b : Bool) → has_number n p ≡ b → cond b (Some p) None ≡ None
    of true q = absurd (missed (has_number n) places f (hit (has_number n) places i p g q))
    of false q = refl

present : (n : ℕ) (p : BoxId × Place) → has_number n p ≡ true → entry_if n (Some p) ≡ Some p
present n p e = ap (λ b. cond b (Some p) None) e

-- an entry that has its number at the noted place is the first one
pub entry_noted : (places : List (BoxId × Place)) (noted : List ℕ) (n i : ℕ) → AreNoted places noted → slice_get noted n ≡ Some i → entry_if n (slice_get places i) ≡ entry_in places n
entry_noted places noted n i h e = by (position (has_number n) places) refl
  where
    by : (o : Option ℕ) → position (has_number n) places ≡ o → entry_if n (slice_get places i) ≡ option_and_then (slice_get places) o
    by None f = absent places n i (slice_get places i) refl f
    by (Some j) f =
        let place = place_of_first (has_number n) places j f in
        let same : j ≡ i = same_Some j i (ap Some place.0 ∙ sym (h n (slice_get_within noted n i e) place.1) ∙ e) in
        let there = get_some places j (let within : position_or_len (has_number n) places < length places = place.1 in omega (arith, within, place.0)) in
        let at = position-Some (has_number n) places j there.0 f in
        let own : has_number n there.0 ≡ true = ap (has_number n) (sym (get_or_from_slice_get places j there.0 there.0 there.1)) ∙ at.1 in
        ap (λ k. entry_if n (slice_get places k)) (sym same) ∙ ap (entry_if n) there.1 ∙ present n there.0 own ∙ sym there.1
