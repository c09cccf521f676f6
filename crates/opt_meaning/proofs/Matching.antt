-- A run that has ended, on one side, and what the other side has done then.
use Rattle.std.proofs.Common.{◌≡◌, ℕ, zero, suc, ap, ◌∙◌, ◌+◌, ◌*◌, ◌≤◌, refl, subst, arith, ◌⊎◌, inl, inr}
use Rattle.std.proofs.lemmas.Nat.{mul-le}
use Rattle.trace_ops.specs.declared.table.Table.{Table}
use Rattle.trace_meaning.specs.Legs.{Leave, Fails, Jumps, Finishes, Waits, Misfits, Wrong, Program, Over, Leg, At, Ended, run, leg, legs, at_leg}
use Rattle.trace_meaning.specs.RunLaws.{IsShort, RunLaws}
use Rattle.trace_meaning.specs.Sound.{Beginnings}
use Rattle.opt_meaning.specs.Composing.{Joined, Composes, EndedAlike, IsWrong, Paired}
use Rattle.opt_meaning.proofs.Chain.{paired}

module _ {P Q O U S V : Type 0} (t : Table) (a : Program P O S) (b : Program Q U V) (k : Joined P Q) (can : Beginnings P) (h : Composes t a b k can) (la : RunLaws a) (lb : RunLaws b) where
  -- the other leg has ended too, alike
  abbrev EndsToo : P → Leave → Leg Q → Type 0
  EndsToo p l y = (q : Q) × (m : Leave) × (y ≡ Ended q m) × EndedAlike t k p l q m

  too : (p : P) (l : Leave) (y : Leg Q) → ¬ IsWrong l → Paired t k can (Ended p l) y → EndsToo p l y
  too p (Wrong w) y not z = absurd (not tt)
  too p (Fails n vs w) (Ended q m) not z = (q, m, refl, z)
  too p (Jumps vs w) (Ended q m) not z = (q, m, refl, z)
  too p (Finishes vs w) (Ended q m) not z = (q, m, refl, z)
  too p (Waits w) (Ended q m) not z = (q, m, refl, z)
  too p (Misfits w) (Ended q m) not z = (q, m, refl, z)
  too p _ (At q us u) not z = absurd z

  abbrev WrongOr : Leg P → Q → Leave → Type 0
  WrongOr x q m = (p : P) × (l : Leave) × (x ≡ Ended p l) × (IsWrong l ⊎ EndedAlike t k p l q m)

  back : (x : Leg P) (q : Q) (m : Leave) → Paired t k can x (Ended q m) → WrongOr x q m
  back (At p vs w) q m z = absurd z
  back (Ended p (Wrong w)) q m z = (p, Wrong w, refl, inl tt)
  back (Ended p (Fails n vs w)) q m z = (p, Fails n vs w, refl, inr z)
  back (Ended p (Jumps vs w)) q m z = (p, Jumps vs w, refl, inr z)
  back (Ended p (Finishes vs w)) q m z = (p, Finishes vs w, refl, inr z)
  back (Ended p (Waits w)) q m z = (p, Waits w, refl, inr z)
  back (Ended p (Misfits w)) q m z = (p, Misfits w, refl, inr z)

  pub ends-forward : (s : ℕ) → IsShort b s → (x : Leg P) (y : Leg Q) → Paired t k can x y → (n : ℕ) (r : P) (l : Leave) → run a n (at_leg a x) ≡ Over r l → ¬ IsWrong l
      → (m : ℕ) → (n + 1) * s ≤ m → (q : Q) × (e : Leave) × (run b m (at_leg b y) ≡ Over q e) × EndedAlike t k r l q e
  ends-forward s shortb x y z n r l over not m room =
      let done = la.legs_when_over n x r l over in
      let pair = paired t a b k can h done.0 x y z in
      let ended : Paired t k can (Ended r l) (legs b done.0 y) = subst (λ (g : Leg P). Paired t k can g (legs b done.0 y)) done.2 pair in
      let also = too r l (legs b done.0 y) not ended in
      let few : done.0 ≤ n = done.1 in
      let enough : done.0 * s ≤ m = times_few done.0 n s m few room in
      (also.0, also.1, lb.over_when_legs s shortb done.0 y also.0 also.1 also.2 m enough, also.3)
    where
      times_few : (c n s m : ℕ) → c ≤ n → (n + 1) * s ≤ m → c * s ≤ m
      times_few c n s m few room = let less : c * s ≤ n * s = mul-le c s n s few (omega arith) in omega arith

  pub ends-backward : (s : ℕ) → IsShort a s → (x : Leg P) (y : Leg Q) → Paired t k can x y → (m : ℕ) (q : Q) (e : Leave) → run b m (at_leg b y) ≡ Over q e
      → (n : ℕ) → 2 * (m + 1) * s ≤ n → (r : P) × (l : Leave) × (run a n (at_leg a x) ≡ Over r l) × (IsWrong l ⊎ EndedAlike t k r l q e)
  ends-backward s shorta x y z m q e over n room =
      let done = lb.legs_when_over m y q e over in
      let pair = paired t a b k can h done.0 x y z in
      let ended : Paired t k can (legs a done.0 x) (Ended q e) = subst (λ (g : Leg Q). Paired t k can (legs a done.0 x) g) done.2 pair in
      let also = back (legs a done.0 x) q e ended in
      let few : done.0 ≤ m = done.1 in
      let enough : done.0 * s ≤ n = times_few done.0 m s n few room in
      (also.0, also.1, la.over_when_legs s shorta done.0 x also.0 also.1 also.2 n enough, also.3)
    where
      times_few : (c m s n : ℕ) → c ≤ m → 2 * (m + 1) * s ≤ n → c * s ≤ n
      times_few c m s n few room = let less : c * s ≤ m * s = mul-le c s m s few (omega arith) in omega arith

  -- in legs of the second
  pub legs-forward : (x : Leg P) (y : Leg Q) → Paired t k can x y → (n : ℕ) (r : P) (l : Leave) → run a n (at_leg a x) ≡ Over r l → ¬ IsWrong l → EndsToo r l (legs b n y)
  legs-forward x y z n r l over not =
      let done = la.legs_when_over n x r l over in
      let ended : legs a n x ≡ Ended r l = stays done.0 n x r l done.1 done.2 in
      too r l (legs b n y) not (subst (λ (g : Leg P). Paired t k can g (legs b n y)) ended (paired t a b k can h n x y z))
    where
      stays : (c n : ℕ) (x : Leg P) (r : P) (l : Leave) → c ≤ n → legs a c x ≡ Ended r l → legs a n x ≡ Ended r l
      stays zero n x r l few e = ap (λ (g : Leg P). legs a n g) e ∙ la.legs_ended r l n
      stays (suc c) zero x r l few e = absurd (omega arith)
      stays (suc c) (suc n) x r l few e = let less : c ≤ n = omega arith in stays c n (leg a x) r l less e

  pub legs-backward : (s : ℕ) → IsShort a s → (x : Leg P) (y : Leg Q) → Paired t k can x y → (c : ℕ) (q : Q) (e : Leave) → legs b c y ≡ Ended q e
      → (n : ℕ) → c * s ≤ n → (r : P) × (l : Leave) × (run a n (at_leg a x) ≡ Over r l) × (IsWrong l ⊎ EndedAlike t k r l q e)
  legs-backward s shorta x y z c q e ended n room =
      let also = back (legs a c x) q e (subst (λ (g : Leg Q). Paired t k can (legs a c x) g) ended (paired t a b k can h c x y z)) in
      (also.0, also.1, la.over_when_legs s shorta c x also.0 also.1 also.2 n room, also.3)
