-- How many traces are attached, and how much room is left for the others, once one more is attached.
use Rattle.std.proofs.Common.{◌≡◌, ℕ, zero, suc, ◌+◌, ◌*◌, ◌<◌, ◌≤◌, Bool, true, false, cond, nat_eq, nat_lt, ltb-true, ltb-false, List, [], ◌∷◌, ◌++◌, length, refl, ap, arith, ◌||◌}
use Rattle.std.specs.List.{Contains}
use Rattle.std.proofs.lemmas.Bool.{eq-eqb}
use Rattle.trace_ops.specs.declared.trace.TraceSet.{TraceSet}
use Rattle.trace_ops.specs.Weights.{trace_weight, sum_below}
use Rattle.bridge_patch.specs.Attached.{taken, is_among, words_for, bytes_unless, room_left}
use Rattle.bridge_patch.proofs.Allowed.{among_contains}

false_true : false ≡ true → ⊥
false_true e = cc

-- ---- among

or_kept : (a b c : Bool) → (b ≡ true → c ≡ true) → a || b ≡ true → a || c ≡ true
or_kept true b c f e = refl
or_kept false b c f e = f e

or_right : (a b : Bool) → b ≡ true → a || b ≡ true
or_right true b e = refl
or_right false b e = e

or_left : (a b : Bool) → a ≡ true → a || b ≡ true
or_left a b e = ap (λ (c : Bool). c || b) e

pub among_kept : (bs : List ℕ) (b k : ℕ) → is_among bs k ≡ true → is_among (bs ++ b ∷ []) k ≡ true
among_kept [] b k e = absurd (false_true e)
among_kept (c ∷ cs) b k e = or_kept (nat_eq c k) (is_among cs k) (is_among (cs ++ b ∷ []) k) (among_kept cs b k) e

pub among_new : (bs : List ℕ) (b : ℕ) → is_among (bs ++ b ∷ []) b ≡ true
among_new [] b = or_left (nat_eq b b) false (eq-eqb b b refl)
among_new (c ∷ cs) b = or_right (nat_eq c b) (is_among (cs ++ b ∷ []) b) (among_new cs b)

pub among_not : (bs : List ℕ) (b : ℕ) → ¬ Contains bs b → is_among bs b ≡ false
among_not bs b fresh = by (is_among bs b) refl
  where
    by : (q : Bool) → is_among bs b ≡ q → q ≡ false
    by true e = absurd (fresh (among_contains bs b e))
    by false e = refl

-- ---- sums

sum_least : (f g : ℕ → ℕ) (n : ℕ) → ((k : ℕ) → f k ≤ g k) → sum_below f n ≤ sum_below g n
unfolding sum_below
sum_least f g zero le = omega arith
sum_least f g (suc n) le = omega (arith, sum_least f g n le, le n)

more_by : (f g : ℕ → ℕ) (n b c : ℕ) (q : Bool) → nat_lt b n ≡ q → b < suc n → ((k : ℕ) → f k ≤ g k) → f b + c ≤ g b → (b < n → sum_below f n + c ≤ sum_below g n) → sum_below f n + f n + c ≤ sum_below g n + g n
more_by f g n b c true e lt le here later = omega (arith, later (ltb-true b n e), le n)
more_by f g n b c false e lt le here later =
    let same : b ≡ n = omega (arith, lt, ltb-false b n e) in
    omega (arith, sum_least f g n le, here, ap f same, ap g same)

pub sum_more : (f g : ℕ → ℕ) (n b c : ℕ) → ((k : ℕ) → f k ≤ g k) → b < n → f b + c ≤ g b → sum_below f n + c ≤ sum_below g n
unfolding sum_below
sum_more f g zero b c le lt here = absurd (omega (arith, lt))
sum_more f g (suc n) b c le lt here = more_by f g n b c (nat_lt b n) refl lt le here (λ l. sum_more f g n b c le l here)

-- ---- one more is attached

abbrev one_if : Bool → ℕ
one_if b = cond b 1 0

one_least : (p q : Bool) → (p ≡ true → q ≡ true) → one_if p ≤ one_if q
one_least true true f = omega arith
one_least true false f = absurd (false_true (f refl))
one_least false true f = omega arith
one_least false false f = omega arith

pub taken_more : (set : TraceSet) (bs : List ℕ) (b : ℕ) → b < length set.traces → ¬ Contains bs b → taken set bs + 1 ≤ taken set (bs ++ b ∷ [])
taken_more set bs b lt fresh =
    let was : one_if (is_among bs b) ≡ 0 = ap one_if (among_not bs b fresh) in
    let is : one_if (is_among (bs ++ b ∷ []) b) ≡ 1 = ap one_if (among_new bs b) in
    sum_more (λ (k : ℕ). one_if (is_among bs k)) (λ (k : ℕ). one_if (is_among (bs ++ b ∷ []) k)) (length set.traces) b 1 (λ k. one_least (is_among bs k) (is_among (bs ++ b ∷ []) k) (among_kept bs b k)) lt (omega (arith, was, is))

pub words_more : (set : TraceSet) (bs : List ℕ) (b : ℕ) → b < length set.traces → ¬ Contains bs b → words_for set bs + 16 ≤ words_for set (bs ++ b ∷ [])
words_more set bs b lt fresh = omega (arith, taken_more set bs b lt fresh)

bytes_least : (p q : Bool) (w : ℕ) → (p ≡ true → q ≡ true) → bytes_unless q w ≤ bytes_unless p w
bytes_least true true w f = omega arith
bytes_least true false w f = absurd (false_true (f refl))
bytes_least false true w f = omega arith
bytes_least false false w f = omega arith

pub room_less : (set : TraceSet) (bs : List ℕ) (b : ℕ) → b < length set.traces → ¬ Contains bs b → room_left set (bs ++ b ∷ []) + (128 + 256 * trace_weight set b) ≤ room_left set bs
room_less set bs b lt fresh =
    let w = trace_weight set in
    let was : bytes_unless (is_among bs b) (w b) ≡ 128 + 256 * w b = ap (λ (q : Bool). bytes_unless q (w b)) (among_not bs b fresh) in
    let is : bytes_unless (is_among (bs ++ b ∷ []) b) (w b) ≡ 0 = ap (λ (q : Bool). bytes_unless q (w b)) (among_new bs b) in
    sum_more (λ (k : ℕ). bytes_unless (is_among (bs ++ b ∷ []) k) (w k)) (λ (k : ℕ). bytes_unless (is_among bs k) (w k)) (length set.traces) b (128 + 256 * w b)
    (λ k. bytes_least (is_among bs k) (is_among (bs ++ b ∷ []) k) (w k) (among_kept bs b k)) lt (omega (arith, was, is))
