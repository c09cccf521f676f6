-- Operations that make a leg.
use Rattle.std.proofs.Common.{◌≡◌, ℕ, zero, suc, ◌+◌, ◌<◌, ◌≤◌, Option, Some, None, List, [], ◌∷◌, length, refl, ap, sym, ◌∙◌, subst, arith, add-one}
use Rattle.trace_meaning.specs.declared.value.Value.{Value}
use Rattle.trace_meaning.specs.World.{World}
use Rattle.trace_meaning.specs.Legs.{Leave, Fails, Jumps, Finishes, Waits, Misfits, Wrong, Turn, On, Off, go_on, drive, Program, In, run, settle, into, into_leg, enter, land, at_leg}
use Rattle.trace_meaning.specs.RunLaws.{IsInside, Leaves, EndsByLeaving, MakesLeg}

module _ {P O S : Type 0} (a : Program P O S) (p : P) where
  into_landed : (n : ℕ) (vs : List Value) (w : World) (q : Option P) → into a p n vs w q ≡ at_leg a (into_leg p n vs w q)
  into_landed n vs w None = refl
  into_landed n vs w (Some q) = refl

  landed : (l : Leave) → enter a p l ≡ at_leg a (land a p l)
  landed (Fails n vs w) = into_landed n vs w (a.sees p n w.failures)
  landed (Jumps vs w) = refl
  landed (Finishes vs w) = refl
  landed (Waits w) = refl
  landed (Misfits w) = refl
  landed (Wrong w) = refl

  -- so many operations from here make what is left of the leg
  record Made (ops : List O) (s : S) : Type 0 where
    count : ℕ
    some : 1 ≤ count
    few : count ≤ length ops + 1
    sharp : EndsByLeaving a ops → count ≤ length ops
    makes : run a count (In p ops s) ≡ at_leg a (land a p (drive a.step a.world ops s))
    inside : (k : ℕ) → k < count → IsInside p (run a k (In p ops s))

  stays_inside : (x : O) (xs : List O) (s : S) (k : ℕ) → k < 1 → IsInside p (run a k (In p (x ∷ xs) s))
  stays_inside x xs s zero h = refl
  stays_inside x xs s (suc k) h = absurd (omega arith)

  goes_inside : (x : O) (xs : List O) (s t : S) (n : ℕ) → a.step x s ≡ On t → ((k : ℕ) → k < n → IsInside p (run a k (In p xs t))) → (k : ℕ) → k < n + 1 → IsInside p (run a k (In p (x ∷ xs) s))
  goes_inside x xs s t n is inside zero h = refl
  goes_inside x xs s t n is inside (suc k) h =
      let less : k < n = omega arith in
      let Q : Turn S → Type 0 = λ u. IsInside p (run a k (settle a p xs u)) in
      subst Q (sym is) (inside k less)

  sharper : (x : O) (xs : List O) (s t : S) (n : ℕ) → a.step x s ≡ On t → (EndsByLeaving a xs → n ≤ length xs) → EndsByLeaving a (x ∷ xs) → n + 1 ≤ length (x ∷ xs)
  sharper x [] s t n is few leaves = absurd (subst (λ (u : Turn S). Leaves u) is (leaves s))
  sharper x (y ∷ ys) s t n is few leaves = let less : n ≤ length (y ∷ ys) = few leaves in omega arith

  made_turn : (x : O) (xs : List O) (s : S) → ((t : S) → Made xs t) → (t : Turn S) → a.step x s ≡ t → Made (x ∷ xs) s
  made_turn x xs s later (Off l) is = record {
    count = 1;
    some = omega arith;
    few = omega arith;
    sharp = λ h. omega arith;
    makes = ap (λ (t : Turn S). settle a p xs t) is ∙ landed l ∙ ap (λ (t : Turn S). at_leg a (land a p (go_on t (drive a.step a.world xs)))) (sym is);
    inside = stays_inside x xs s;
  }
  made_turn x xs s later (On t) is =
      let m = later t in
      record {
        count = m.count + 1;
        some = omega arith;
        few = let h : m.count ≤ length xs + 1 = m.few in omega arith;
        sharp = sharper x xs s t m.count is m.sharp;
        makes =
            ap (λ n. run a n (In p (x ∷ xs) s)) (add-one m.count)
            ∙ ap (λ (u : Turn S). run a m.count (settle a p xs u)) is
            ∙ m.makes
            ∙ ap (λ (u : Turn S). at_leg a (land a p (go_on u (drive a.step a.world xs)))) (sym is);
        inside = goes_inside x xs s t m.count is m.inside;
      }

  inside_empty : (s : S) (k : ℕ) → k < 1 → IsInside p (run a k (In p [] s))
  inside_empty s zero h = refl
  inside_empty s (suc k) h = absurd (omega arith)

  made : (ops : List O) (s : S) → Made ops s
  made [] s = record { count = 1; some = omega arith; few = omega arith; sharp = λ h. absurd h; makes = refl; inside = inside_empty s }
  made (x ∷ xs) s = made_turn x xs s (made xs) (a.step x s) refl

  -- the leg of any code, by at most one operation more than it has
  pub leg-made : (vs : List Value) (w : World) → MakesLeg a p vs w (length (a.ops p) + 1)
  leg-made vs w = let m = made (a.ops p) (a.begin p vs w) in record { count = m.count; some = m.some; few = m.few; makes = m.makes; inside = m.inside }

  -- the leg of code whose last operation leaves
  pub leg-made_within : (vs : List Value) (w : World) → EndsByLeaving a (a.ops p) → MakesLeg a p vs w (length (a.ops p))
  leg-made_within vs w ends = let m = made (a.ops p) (a.begin p vs w) in record { count = m.count; some = m.some; few = m.sharp ends; makes = m.makes; inside = m.inside }
