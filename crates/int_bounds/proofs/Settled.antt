-- A test of two words whose answers are always, never or for some pairs 1.
use Rattle.std.proofs.Common.{◌≡◌, ◌≢◌, ◌∙◌, ℕ, ℤ, pos, ◌≤ℤ◌, Bool, true, false, not, refl, sym, ap, subst, arith}
use Rattle.std.specs.Prelude.{◌<ℤ◌, int_lt, int_le, nat_lt, nat_le}
use Rattle.std.specs.Ordering.{int_eq}
use Rattle.std.proofs.lemmas.Bool.Decides.{nat_tests}
use Rattle.std.proofs.lemmas.Int.{ints}
use Rattle.trace_ops.specs.Words.{truth, unsigned, less, at_most, equal, unequal, unsigned_less, unsigned_at_most}
use Rattle.int_bounds.specs.declared.interval.Interval.{Interval}
use Rattle.int_bounds.specs.Within.{IsWithin, IsOnly}
use Rattle.int_bounds.specs.Near.{Settles, SettlesOne}
use Rattle.int_bounds.proofs.Equal.{equal-same, equal-apart}
use Rattle.int_bounds.proofs.Fitting.{within-low}

zero-one : (w : ℤ) → pos 0 ≡ w → pos 1 ≡ w → ⊥
zero-one w a b = cc

-- a pair that answers as `always` and one that answers as `not never` settle what the answer can be
pub settled-by : (test : ℤ → ℤ → ℤ) (a b r : Interval) (always never : Bool)
    → (always ≡ true → IsOnly r (pos 1)) → (always ≡ false → never ≡ true → IsOnly r (pos 0))
    → (p q s t : ℤ) → IsWithin a p → IsWithin b q → IsWithin a s → IsWithin b t → test p q ≡ truth always → test s t ≡ truth (not never) → Settles test a b r
settled-by test a b r true never one_is zero_is p q s t wp wq ws wt e f = λ w all.
    let one : pos 1 ≡ w = sym e ∙ all p q wp wq in
    let (low, high) = one_is refl in (low ∙ one, high ∙ one)
settled-by test a b r false true one_is zero_is p q s t wp wq ws wt e f = λ w all.
    let zero : pos 0 ≡ w = sym e ∙ all p q wp wq in
    let (low, high) = zero_is refl refl in (low ∙ zero, high ∙ zero)
settled-by test a b r false false one_is zero_is p q s t wp wq ws wt e f = λ w all.
    absurd (zero-one w (sym e ∙ all p q wp wq) (sym f ∙ all s t ws wt))

-- tests by what they tell

pub less-told : (x y : ℤ) (b : Bool) → (b ≡ true → x <ℤ y) → (b ≡ false → y ≤ℤ x) → less x y ≡ truth b
less-told x y true p q = let h = p refl in let e : int_lt x y ≡ true = grind (arith, ints) in ap truth e
less-told x y false p q = let h = q refl in let e : int_lt x y ≡ false = grind (arith, ints) in ap truth e

pub at_most-told : (x y : ℤ) (b : Bool) → (b ≡ true → x ≤ℤ y) → (b ≡ false → y <ℤ x) → at_most x y ≡ truth b
at_most-told x y true p q = let h = p refl in let e : int_le x y ≡ true = grind (arith, ints) in ap truth e
at_most-told x y false p q = let h = q refl in let e : int_le x y ≡ false = grind (arith, ints) in ap truth e

-- equal words, and two that differ
pub equal-there : (a b : Interval) (one : Bool) → a.low ≤ℤ a.high → b.low ≤ℤ b.high
    → (one ≡ true → (x y : ℤ) → IsWithin a x → IsWithin b y → x ≡ y) → (one ≡ false → (x : ℤ) × (y : ℤ) × IsWithin a x × IsWithin b y × (x ≢ y))
    → (p : ℤ) × (q : ℤ) × IsWithin a p × IsWithin b q × (equal p q ≡ truth one) × (unequal p q ≡ truth (not one))
equal-there a b true oa ob same differ =
    let e : int_eq a.low b.low ≡ true = equal-same a.low b.low (same refl a.low b.low (within-low a oa) (within-low b ob)) in
    (a.low, b.low, within-low a oa, within-low b ob, ap truth e, ap (λ x. truth (not x)) e)
equal-there a b false oa ob same differ =
    let (x, y, wx, wy, n) = differ refl in
    let e : int_eq x y ≡ false = equal-apart x y n in
    (x, y, wx, wy, ap truth e, ap (λ x. truth (not x)) e)

pub apart-there : (a b : Interval) (apart : Bool) → a.low ≤ℤ a.high → b.low ≤ℤ b.high
    → (apart ≡ true → (x : ℤ) → IsWithin a x → IsWithin b x → ⊥) → (apart ≡ false → (x : ℤ) × IsWithin a x × IsWithin b x)
    → (p : ℤ) × (q : ℤ) × IsWithin a p × IsWithin b q × (equal p q ≡ truth (not apart)) × (unequal p q ≡ truth apart)
apart-there a b true oa ob none shared =
    let wa = within-low a oa in
    let wb = within-low b ob in
    let e : int_eq a.low b.low ≡ false = equal-apart a.low b.low (λ same. none refl a.low wa (rw same wb)) in
    (a.low, b.low, wa, wb, ap (λ x. truth x) e, ap (λ x. truth (not x)) e)
apart-there a b false oa ob none shared =
    let (x, wa, wb) = shared refl in
    let e : int_eq x x ≡ true = equal-same x x refl in
    (x, x, wa, wb, ap (λ x. truth x) e, ap (λ x. truth (not x)) e)

-- words read without sign
pub unsigned-told : (x y : ℤ) (m n : ℕ) → unsigned x ≡ m → unsigned y ≡ n → unsigned_less x y ≡ truth (nat_lt m n)
unsigned-told x y m n e f = ap (λ k. truth (nat_lt k (unsigned y))) e ∙ ap (λ k. truth (nat_lt m k)) f

pub unsigned_at_most-told : (x y : ℤ) (m n : ℕ) → unsigned x ≡ m → unsigned y ≡ n → unsigned_at_most x y ≡ truth (nat_le m n)
unsigned_at_most-told x y m n e f = ap (λ k. truth (nat_le k (unsigned y))) e ∙ ap (λ k. truth (nat_le m k)) f

pub unsigned-flipped : (x y : ℤ) (m n : ℕ) → unsigned x ≡ m → unsigned y ≡ n → unsigned_less x y ≡ truth (not (nat_le n m))
unsigned-flipped x y m n e f =
    let same : nat_lt m n ≡ not (nat_le n m) = grind (arith, nat_tests) in
    unsigned-told x y m n e f ∙ ap truth same

pub unsigned_at_most-flipped : (x y : ℤ) (m n : ℕ) → unsigned x ≡ m → unsigned y ≡ n → unsigned_at_most x y ≡ truth (not (nat_lt n m))
unsigned_at_most-flipped x y m n e f =
    let same : nat_le m n ≡ not (nat_lt n m) = grind (arith, nat_tests) in
    unsigned_at_most-told x y m n e f ∙ ap truth same

-- one known pair settles every test
pub settles-known : (test : ℤ → ℤ → ℤ) (a b r : Interval) (x y z : ℤ) → a.low ≡ x → a.high ≡ x → b.low ≡ y → b.high ≡ y
    → a.low ≤ℤ a.high → b.low ≤ℤ b.high → z ≡ test x y → r.low ≡ z → r.high ≡ z → Settles test a b r
settles-known test a b r x y z al ah bl bh oa ob e low high = λ w all.
    let same : test a.low b.low ≡ w = all a.low b.low (within-low a oa) (within-low b ob) in
    let here : test x y ≡ w = subst (λ u. test u y ≡ w) al (subst (λ v. test a.low v ≡ w) bl same) in
    (low ∙ e ∙ here, high ∙ e ∙ here)

pub settles-known_one : (test : ℤ → ℤ) (a r : Interval) (x z : ℤ) → a.low ≡ x → a.high ≡ x → a.low ≤ℤ a.high → z ≡ test x → r.low ≡ z → r.high ≡ z → SettlesOne test a r
settles-known_one test a r x z al ah oa e low high = λ w all.
    let here : test x ≡ w = subst (λ u. test u ≡ w) al (all a.low (within-low a oa)) in
    (low ∙ e ∙ here, high ∙ e ∙ here)

-- the pairs the other way round
pub settles-turned : (test : ℤ → ℤ → ℤ) (a b r : Interval) → Settles test b a r → Settles (λ x y. test y x) a b r
settles-turned test a b r settled = λ w all. settled w (λ x y wx wy. all y x wy wx)

-- a test against one known word
pub settles-one : (test : ℤ → ℤ → ℤ) (a b r : Interval) (k : ℤ) → ((y : ℤ) → IsWithin b y → y ≡ k) → Settles test a b r → SettlesOne (λ x. test x k) a r
settles-one test a b r k only settled = λ w all. settled w (λ x y wx wy. ap (test x) (only y wy) ∙ all x wx)
