-- Weights of traces, of their parents, and of all.
use Rattle.std.proofs.Common.{◌≡◌, ℕ, zero, suc, ◌+◌, ◌-◌, ◌<◌, ◌≤◌, ◌⊎◌, inl, inr, List, Option, Some, None, length, slice_get, refl, sym, ap, ◌∙◌, arith}
use Rattle.std.specs.Option.{option_and_then}
use Rattle.trace_ops.specs.declared.trace.TraceSet.{TraceSet}
use Rattle.trace_ops.specs.Weights.{own_weight, parent_at, along, sum_below, trace_weight, weight_of}
use Rattle.trace_ops.specs.Rules.{above}

-- Sums

last_or_less : (k n : ℕ) → k < suc n → (k ≡ n) ⊎ (k < n)
last_or_less zero zero lt = inl refl
last_or_less zero (suc n) lt = inr (omega arith)
last_or_less (suc k) zero lt = absurd (none k lt)
  where
    none : (k : ℕ) → suc k < suc 0 → ⊥
    none k h = omega (arith, h)
last_or_less (suc k) (suc n) lt = more (last_or_less k n (omega (arith, lt)))
  where
    more : (k ≡ n) ⊎ (k < n) → (suc k ≡ suc n) ⊎ (suc k < suc n)
    more (inl e) = inl (ap suc e)
    more (inr h) = inr (omega (arith, h))

last_term : (f : ℕ → ℕ) (n k s : ℕ) → k ≡ n → f k ≤ s + f n
last_term f n k s e = let same : f k ≡ f n = ap f e in omega (arith, same)

term_below : (f : ℕ → ℕ) (n k : ℕ) → k < n → f k ≤ sum_below f n
unfolding sum_below
term_below f zero k lt = absurd (none k lt)
  where
    none : (k : ℕ) → k < 0 → ⊥
    none k h = omega (arith, h)
term_below f (suc n) k lt = elim (last_or_less k n lt) [
  | inl e ↦ last_term f n k (sum_below f n) e
  | inr h ↦ let rest : f k ≤ sum_below f n = term_below f n k h in omega (arith, rest)
]

-- no trace weighs more than all
pub weight_in_all : (set : TraceSet) (k : ℕ) → k < length set.traces → trace_weight set k ≤ weight_of set
weight_in_all set k lt = term_below (trace_weight set) (length set.traces) k lt

-- Along a path

pub along_next : (own : ℕ → ℕ) (parent : ℕ → Option ℕ) (n k : ℕ) → along own parent (suc n) (Some k) ≡ own k + along own parent n (parent k)
unfolding along
along_next own parent n k = refl

none_along : (own : ℕ → ℕ) (parent : ℕ → Option ℕ) (n : ℕ) → along own parent n None ≡ 0
unfolding along
none_along own parent zero = refl
none_along own parent (suc n) = refl

no_way : (own : ℕ → ℕ) (parent : ℕ → Option ℕ) (at : Option ℕ) → along own parent zero at ≡ 0
unfolding along
no_way own parent at = refl

-- n parents up from there
abbrev up : (ℕ → Option ℕ) → ℕ → Option ℕ → Option ℕ
up parent zero at = at
up parent (suc n) at = up parent n (option_and_then parent at)

-- a path that ends isn't longer where more places are allowed
path_ends : (own : ℕ → ℕ) (parent : ℕ → Option ℕ) (n : ℕ) (at : Option ℕ) → up parent n at ≡ None → along own parent (suc n) at ≡ along own parent n at
path_ends own parent n None e = none_along own parent (suc n) ∙ sym (none_along own parent n)
path_ends own parent zero (Some k) e = absurd (some_none e)
  where
    some_none : {x : ℕ} → Some x ≡ None → ⊥
    some_none h = cc
path_ends own parent (suc n) (Some k) e = along_next own parent (suc n) k ∙ ap (λ z. own k + z) (path_ends own parent n (parent k) e) ∙ sym (along_next own parent n k)

up_last : (parent : ℕ → Option ℕ) (n : ℕ) (at : Option ℕ) → option_and_then parent (up parent n at) ≡ up parent n (option_and_then parent at)
up_last parent zero at = refl
up_last parent (suc n) at = up_last parent n (option_and_then parent at)

above_up : (set : TraceSet) (b n : ℕ) → above set b n ≡ up (parent_at set) n (Some b)
above_up set b zero = refl
above_up set b (suc n) = ap (option_and_then (parent_at set)) (above_up set b n) ∙ up_last (parent_at set) n (Some b)

-- Parents

weight_split : (set : TraceSet) (b : ℕ) (p : Option ℕ) (n : ℕ) → length set.traces ≡ suc n → parent_at set b ≡ p → trace_weight set b ≡ own_weight set b + along (own_weight set) (parent_at set) n p
weight_split set b p n long is =
    ap (λ z. along (own_weight set) (parent_at set) z (Some b)) long
    ∙ along_next (own_weight set) (parent_at set) n b
    ∙ ap (λ z. own_weight set b + along (own_weight set) (parent_at set) n z) is

-- a trace weighs what its own operations do, and more
pub own_in_weight : (set : TraceSet) (b n : ℕ) → length set.traces ≡ suc n → own_weight set b ≤ trace_weight set b
own_in_weight set b n long =
    let s : trace_weight set b ≡ own_weight set b + along (own_weight set) (parent_at set) n (parent_at set b) = weight_split set b (parent_at set b) n long refl in
    omega (arith, s)

-- the weight of a bridge less its own is that of its parent
pub parents_weigh : (set : TraceSet) (b p n : ℕ) → length set.traces ≡ suc n → parent_at set b ≡ Some p → above set b (length set.traces) ≡ None → trace_weight set b - own_weight set b ≡ trace_weight set p
parents_weigh set b p n long is ends =
    let s : trace_weight set b ≡ own_weight set b + along (own_weight set) (parent_at set) n (Some p) = weight_split set b (Some p) n long is in
    let none : up (parent_at set) n (Some p) ≡ None = ap (up (parent_at set) n) (sym is) ∙ sym (above_up set b (suc n)) ∙ ap (above set b) (sym long) ∙ ends in
    let same : along (own_weight set) (parent_at set) (length set.traces) (Some p) ≡ along (own_weight set) (parent_at set) n (Some p) = ap (λ z. along (own_weight set) (parent_at set) z (Some p)) long ∙ path_ends (own_weight set) (parent_at set) n (Some p) none in
    omega (arith, s, same)
