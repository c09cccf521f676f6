-- What narrowing by one relation says of another.
use Rattle.std.proofs.Common.{ℤ, Option, Some, None, arith}
use Rattle.std.specs.Option.{IfSome}
use Rattle.std.specs.Int.Signed.{≤ℤ_refl}
use Rattle.std.proofs.lemmas.Int.{ints}
use Rattle.int_bounds.specs.declared.interval.Interval.{Interval}
use Rattle.int_bounds.specs.Within.{IsWithin, IsPart}
use Rattle.int_bounds.specs.Narrows.{Narrows, IsTight, turned}

pub IsPart_refl : (a : Interval) → IsPart a a
IsPart_refl a = (≤ℤ_refl a.low, ≤ℤ_refl a.high)

IsPart_trans : (a b c : Interval) → IsPart a b → IsPart b c → IsPart a c
IsPart_trans a b c p q = (omega (arith, ints), omega (arith, ints))

-- a relation that says more, of parts that hold all of its pairs
pub narrows_by : (P Q : ℤ → ℤ → Type 0) (a b a' b' : Interval) (r : Option (Interval × Interval)) → IsPart a' a → IsPart b' b
    → ((x y : ℤ) → IsWithin a x → IsWithin b y → Q x y → IsWithin a' x × IsWithin b' y × P x y)
    → Narrows P a' b' r → Narrows Q a b r
narrows_by P Q a b a' b' None p q more n = λ x y in_a in_b agree.
    let h = more x y in_a in_b agree in n x y h.0 h.1 h.2
narrows_by P Q a b a' b' (Some r) p q more n = (
  λ x y in_a in_b agree. let h = more x y in_a in_b agree in n.0 x y h.0 h.1 h.2,
  IsPart_trans r.0 a' a n.1 p,
  IsPart_trans r.1 b' b n.2 q,
)

-- the same intervals
pub narrows_as : (P Q : ℤ → ℤ → Type 0) (a b : Interval) (r : Option (Interval × Interval)) → ((x y : ℤ) → Q x y → P x y) → Narrows P a b r → Narrows Q a b r
narrows_as P Q a b r says n = narrows_by P Q a b a b r (IsPart_refl a) (IsPart_refl b) (λ x y in_a in_b agree. (in_a, in_b, says x y agree)) n

pub tight_as : (P Q : ℤ → ℤ → Type 0) (r : Option (Interval × Interval)) → ((x y : ℤ) → P x y → Q x y) → IfSome r (IsTight P) → IfSome r (IsTight Q)
tight_as P Q None says t = t
tight_as P Q (Some r) says t = (says r.0.low r.1.low t.0, says r.0.high r.1.high t.1)

-- the turned relation
pub narrows_turned : (P : ℤ → ℤ → Type 0) (a b : Interval) (r : Option (Interval × Interval)) → Narrows P b a r → Narrows (λ x y. P y x) a b (turned r)
narrows_turned P a b None n = λ x y in_a in_b agree. n y x in_b in_a agree
narrows_turned P a b (Some r) n = (
  λ x y in_a in_b agree. let h = n.0 y x in_b in_a agree in (h.1, h.0),
  n.2,
  n.1,
)

pub tight_turned : (P : ℤ → ℤ → Type 0) (r : Option (Interval × Interval)) → IfSome r (IsTight P) → IfSome (turned r) (IsTight (λ x y. P y x))
tight_turned P None t = t
tight_turned P (Some r) t = t
