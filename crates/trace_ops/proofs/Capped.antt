-- Sums that stop at 2^64 - 1.
use Rattle.std.proofs.Common.{◌≡◌, ℕ, zero, suc, ◌+◌, ◌-◌, ◌<◌, Option, Some, None, refl, arith, ap, ◌∙◌}
use Rattle.std.specs.Option.{IfSome}
use Rattle.trace_ops.specs.Weights.{capped, along, sum_below}

pub capped-add_left : (a b : ℕ) → capped (capped a + b) ≡ capped (a + b)
capped-add_left a b = omega arith

pub capped-add_right : (a b : ℕ) → capped (a + capped b) ≡ capped (a + b)
capped-add_right a b = omega arith

pub capped-step : (total x rest all : ℕ) → capped (total + (x + rest)) ≡ all → capped (capped (total + x) + rest) ≡ all
capped-step total x rest all h = omega arith

pub capped-both : (a x y : ℕ) → capped x ≡ capped y → capped (capped a + x) ≡ capped (a + y)
capped-both a x y h = omega arith

pub ruleset capping = (capped-add_left, capped-add_right, capped-step)

pub along-end : (own : ℕ → ℕ) (parent : ℕ → Option ℕ) (left : ℕ) (at : Option ℕ) → left ≡ 0 → along own parent left at ≡ 0
unfolding along
along-end own parent zero at e = refl
along-end own parent (suc left) at e = absurd (omega arith)

pub along-none : (own : ℕ → ℕ) (parent : ℕ → Option ℕ) (left : ℕ) → along own parent left None ≡ 0
unfolding along
along-none own parent zero = refl
along-none own parent (suc left) = refl

pub along-some : (own : ℕ → ℕ) (parent : ℕ → Option ℕ) (left k : ℕ) → 0 < left → along own parent left (Some k) ≡ own k + along own parent (left - 1) (parent k)
unfolding along
along-some own parent zero k h = absurd (omega arith)
along-some own parent (suc left) k h =
    let e : left ≡ suc left - 1 = omega arith in
    ap (λ n. own k + along own parent n (parent k)) e

-- the same path over weights that are capped
pub along-same : (own own' : ℕ → ℕ) (parent parent' : ℕ → Option ℕ) (m : ℕ) → ((k : ℕ) → k < m → own' k ≡ capped (own k)) → ((k : ℕ) → k < m → parent' k ≡ parent k) → ((k : ℕ) → IfSome (parent k) (λ j. j < m)) → (n : ℕ) (at : Option ℕ) → IfSome at (λ j. j < m) → capped (along own' parent' n at) ≡ capped (along own parent n at)
unfolding along
along-same own own' parent parent' m owns parents below zero at h = refl
along-same own own' parent parent' m owns parents below (suc n) None h = refl
along-same own own' parent parent' m owns parents below (suc n) (Some k) h =
    let rest : capped (along own' parent' n (parent k)) ≡ capped (along own parent n (parent k)) = along-same own own' parent parent' m owns parents below n (parent k) (below k) in
    ap (λ o. capped (o + along own' parent' n (parent' k))) (owns k h)
    ∙ ap (λ p. capped (capped (own k) + along own' parent' n p)) (parents k h)
    ∙ capped-both (own k) (along own' parent' n (parent k)) (along own parent n (parent k)) rest

pub sum_below-more : (f : ℕ → ℕ) (n : ℕ) → sum_below f (n + 1) ≡ sum_below f n + f n
unfolding sum_below
sum_below-more f n =
    let e : n + 1 ≡ suc n = omega arith in
    ap (sum_below f) e

pub sum_below-none : (f : ℕ → ℕ) → sum_below f 0 ≡ 0
unfolding sum_below
sum_below-none f = refl

-- one trace more
pub weighed_more : (f : ℕ → ℕ) (k total more : ℕ) → total ≡ capped (sum_below f k) → more ≡ capped (f k) → capped (total + more) ≡ capped (sum_below f (k + 1))
weighed_more f k total more h e = omega (arith, sum_below-more f k)

-- one step up a path
pub along_up : (own : ℕ → ℕ) (parent : ℕ → Option ℕ) (left : ℕ) (at : Option ℕ) (k : ℕ) (up : Option ℕ) (first rest total : ℕ) → (left ≡ 0 → ⊥) → at ≡ Some k → first ≡ own k → up ≡ parent k → rest ≡ capped (along own parent (left - 1) up) → total ≡ capped (first + rest) → total ≡ capped (along own parent left at)
along_up own parent left at k up first rest total some e f u r h =
    let more : 0 < left = omega arith in
    let q : along own parent left at ≡ own k + along own parent (left - 1) (parent k) = ap (along own parent left) e ∙ along-some own parent left k more in
    let r' : rest ≡ capped (along own parent (left - 1) (parent k)) = r ∙ ap (λ p. capped (along own parent (left - 1) p)) u in
    omega arith
