-- Runs over operations, and the legs that they make.
use Rattle.std.proofs.Common.{◌≡◌, ℕ, zero, suc, ◌+◌, ◌*◌, ◌<◌, ◌≤◌, List, refl, sym, ap, ◌∙◌, subst, arith, ◌⊎◌, inl, inr}
use Rattle.trace_meaning.specs.declared.value.Value.{Value}
use Rattle.trace_meaning.specs.World.{World}
use Rattle.trace_meaning.specs.Legs.{Leave, Program, Now, Over, Leg, At, Ended, begins, run, leg, legs, at_leg}
use Rattle.trace_meaning.specs.RunLaws.{IsInside, IsShort, StandsIn, IsAmidLegs, RunLaws}
use Rattle.trace_meaning.proofs.LegRuns.{leg-made, leg-made_within}
use Rattle.trace_meaning.proofs.Running.{run-over, run-run}
use Rattle.trace_meaning.proofs.GrowingPrograms.{all-grow}

-- a run over so many operations that has ended has made at most so many legs
abbrev HasEnded : {P O S : Type 0} → Program P O S → ℕ → Leg P → P → Leave → Type 0
HasEnded a n x p l = (k : ℕ) × (k ≤ n) × (legs a k x ≡ Ended p l)

pub legs-ended : {P O S : Type 0} (a : Program P O S) (p : P) (l : Leave) (n : ℕ) → legs a n (Ended p l) ≡ Ended p l
legs-ended a p l zero = refl
legs-ended a p l (suc n) = legs-ended a p l n

module _ {P O S : Type 0} (a : Program P O S) where
  at_or_after : (n c : ℕ) → (n < c) ⊎ ((r : ℕ) × (n ≡ c + r))
  at_or_after zero zero = inr (0, refl)
  at_or_after zero (suc c) = inl (omega arith)
  at_or_after (suc n) zero = inr (suc n, omega arith)
  at_or_after (suc n) (suc c) = elim (at_or_after n c) [ inl h ↦ inl (omega arith) | inr h ↦ inr (h.0, let e : n ≡ c + h.0 = h.1 in omega arith) ]

  over_outside : (p r : P) (x : Now P O S) (l : Leave) → x ≡ Over r l → IsInside p x → ⊥
  over_outside p r x l e h = subst (λ (y : Now P O S). IsInside p y) e h

  -- what is left of a run behind its first leg, where the rest has ended by so many legs
  after_leg : (bound n c r : ℕ) → ((k : ℕ) (x : Leg P) (p : P) (l : Leave) → k ≤ bound → run a k (at_leg a x) ≡ Over p l → HasEnded a k x p l) → n ≡ c + r → n ≤ suc bound → 1 ≤ c
      → (q : P) (vs : List Value) (w : World) (p : P) (l : Leave) → run a c (begins a q vs w) ≡ at_leg a (leg a (At q vs w)) → run a n (begins a q vs w) ≡ Over p l → HasEnded a n (At q vs w) p l
  after_leg bound n c r more is few some q vs w p l makes e =
      let split : run a r (run a c (begins a q vs w)) ≡ run a n (begins a q vs w) = run-run a (begins a q vs w) c r ∙ ap (λ k. run a k (begins a q vs w)) (sym is) in
      let onward : run a r (at_leg a (leg a (At q vs w))) ≡ Over p l = ap (λ y. run a r y) (sym makes) ∙ split ∙ e in
      let less : r ≤ bound = omega arith in
      let rest = more r (leg a (At q vs w)) p l less onward in
      let f : rest.0 ≤ r = rest.1 in
      (suc rest.0, omega arith, rest.2)

  same_ended : (q p : P) (k l : Leave) → ◌≡◌ {A = Now P O S} (Over q k) (Over p l) → Ended q k ≡ Ended p l
  same_ended q p k l h = cc

  not_begun : (q : P) (vs : List Value) (w : World) (p : P) (l : Leave) → run a 0 (begins a q vs w) ≡ Over p l → ⊥
  not_begun q vs w p l h = cc

  -- by the most operations that there may be
  ended_within : (bound n : ℕ) (x : Leg P) (p : P) (l : Leave) → n ≤ bound → run a n (at_leg a x) ≡ Over p l → HasEnded a n x p l
  ended_within bound n (Ended q k) p l few e = (0, omega arith, same_ended q p k l (sym (run-over a q k n) ∙ e))
  ended_within zero n (At q vs w) p l few e = let none : n ≡ 0 = omega arith in absurd (not_begun q vs w p l (ap (λ k. run a k (begins a q vs w)) (sym none) ∙ e))
  ended_within (suc bound) n (At q vs w) p l few e =
      let m = leg-made a q vs w in
      elim (at_or_after n m.count) [
        | inl h ↦ absurd (over_outside q p (run a n (begins a q vs w)) l e (m.inside n h))
        | inr h ↦ after_leg bound n m.count h.0 (λ k x p' l' f g. ended_within bound k x p' l' f g) h.1 few m.some q vs w p l m.makes e
      ]

  pub legs-when_over : (n : ℕ) (x : Leg P) (p : P) (l : Leave) → run a n (at_leg a x) ≡ Over p l → HasEnded a n x p l
  legs-when_over n x p l e = ended_within n n x p l (omega arith) e

module _ {P O S : Type 0} (a : Program P O S) (most : ℕ) (short : IsShort a most) where
  -- legs that have ended are a run that has ended, after so many operations for each leg
  pub over-when_legs : (count : ℕ) (x : Leg P) (p : P) (l : Leave) → legs a count x ≡ Ended p l → (n : ℕ) → count * most ≤ n → run a n (at_leg a x) ≡ Over p l
  over-when_legs zero x p l e n few = ap (λ (y : Leg P). run a n (at_leg a y)) e ∙ run-over a p l n
  over-when_legs (suc count) (Ended q k) p l e n few =
      let same : Ended q k ≡ Ended p l = sym (legs-ended a q k count) ∙ e in
      ap (λ (y : Leg P). run a n (at_leg a y)) same ∙ run-over a p l n
  over-when_legs (suc count) (At q vs w) p l e n few =
      let m = short q vs w in
      let mf : m.count ≤ most = m.few in
      let room : m.count ≤ n = omega arith in
      let split = at_or_after a n m.count in
      elim split [
        | inl h ↦ absurd (omega arith)
        | inr h ↦
            let is : n ≡ m.count + h.0 = h.1 in
            let left : count * most ≤ h.0 = omega arith in
            ap (λ k. run a k (begins a q vs w)) is ∙ sym (run-run a (begins a q vs w) m.count h.0) ∙ ap (λ y. run a h.0 y) m.makes
            ∙ over-when_legs count (leg a (At q vs w)) p l e h.0 left
      ]

module _ {P O S : Type 0} (a : Program P O S) where
  -- a leg is made by an operation at least
  pub legs-after : (count : ℕ) (x : Leg P) → (k : ℕ) × (count ≤ k) × (run a k (at_leg a x) ≡ at_leg a (legs a count x))
  legs-after zero x = (0, omega arith, refl)
  legs-after (suc count) (Ended p l) =
      let h = legs-after count (Ended p l) in
      (suc count, omega arith, run-over a p l (suc count) ∙ sym (run-over a p l h.0) ∙ h.2)
  legs-after (suc count) (At p vs w) =
      let m = leg-made a p vs w in
      let h = legs-after count (leg a (At p vs w)) in
      let some : 1 ≤ m.count = m.some in
      let more : count ≤ h.0 = h.1 in
      (m.count + h.0, omega arith, sym (run-run a (begins a p vs w) m.count h.0) ∙ ap (λ y. run a h.0 y) m.makes ∙ h.2)

  pub legs-within : (most : ℕ) → IsShort a most → (count : ℕ) (x : Leg P) → (k : ℕ) × (k ≤ count * most) × (run a k (at_leg a x) ≡ at_leg a (legs a count x))
  legs-within most short zero x = (0, omega arith, refl)
  legs-within most short (suc count) (Ended p l) = let h = legs-within most short count (Ended p l) in (0, omega arith, sym (run-over a p l h.0) ∙ h.2)
  legs-within most short (suc count) (At p vs w) =
      let m = short p vs w in
      let h = legs-within most short count (leg a (At p vs w)) in
      let few : m.count ≤ most = m.few in
      let more : h.0 ≤ count * most = h.1 in
      (m.count + h.0, omega arith, sym (run-run a (begins a p vs w) m.count h.0) ∙ ap (λ y. run a h.0 y) m.makes ∙ h.2)

module _ {P O S : Type 0} (a : Program P O S) where
  -- what is left of a run behind its first leg stands in a leg
  amid_later : (n c r : ℕ) (p : P) (vs : List Value) (w : World) → n ≡ c + r → 1 ≤ c → run a c (begins a p vs w) ≡ at_leg a (leg a (At p vs w)) → IsAmidLegs a r (leg a (At p vs w)) → IsAmidLegs a n (At p vs w)
  amid_later n c r p vs w is some makes h =
      let past : h.before ≤ r = h.past in
      let few : h.made ≤ h.before = h.few in
      let onward : run a r (at_leg a (leg a (At p vs w))) ≡ run a n (begins a p vs w) = ap (λ y. run a r y) (sym makes) ∙ run-run a (begins a p vs w) c r ∙ ap (λ k. run a k (begins a p vs w)) (sym is) in
      record {
        made = suc h.made;
        before = c + h.before;
        few = omega arith;
        past = omega arith;
        makes = sym (run-run a (begins a p vs w) c h.before) ∙ ap (λ y. run a h.before y) makes ∙ h.makes;
        stands = subst (λ y. StandsIn (legs a h.made (leg a (At p vs w))) y) onward h.stands;
      }

  -- by the most operations that there may be
  amid_within : (bound n : ℕ) (x : Leg P) → n ≤ bound → IsAmidLegs a n x
  amid_within bound n (Ended p l) few = record { made = 0; before = 0; few = omega arith; past = omega arith; makes = refl; stands = run-over a p l n }
  amid_within zero n (At p vs w) few =
      let none : 0 ≡ n = omega arith in
      record { made = 0; before = 0; few = omega arith; past = omega arith; makes = refl; stands = subst (λ k. IsInside p (run a k (begins a p vs w))) none refl }
  amid_within (suc bound) n (At p vs w) few =
      let m = leg-made a p vs w in
      let some : 1 ≤ m.count = m.some in
      elim (at_or_after a n m.count) [
        | inl h ↦ record { made = 0; before = 0; few = omega arith; past = omega arith; makes = refl; stands = m.inside n h }
        | inr h ↦ (let is : n ≡ m.count + h.0 = h.1 in let less : h.0 ≤ bound = omega arith in amid_later n m.count h.0 p vs w is some m.makes (amid_within bound h.0 (leg a (At p vs w)) less))
      ]

  pub run-laws : RunLaws a
  run-laws = record {
    ended_stays = λ p l n. run-over a p l n;
    runs_on = λ x m n. run-run a x m n;
    leg_made = λ p vs w. leg-made a p vs w;
    leg_made_within = λ p vs w h. leg-made_within a p vs w h;
    legs_ended = λ p l n. legs-ended a p l n;
    legs_after = λ n x. legs-after a n x;
    legs_within = λ most short n x. legs-within a most short n x;
    amid_legs = λ n x. amid_within n n x (omega arith);
    legs_when_over = λ n x p l e. legs-when_over a n x p l e;
    over_when_legs = λ most short k x p l e n room. over-when_legs a most short k x p l e n room;
    grows = λ h. all-grow a h;
  }
