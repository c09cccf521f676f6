-- Runs over numbers of operations.
use Rattle.std.proofs.Common.{◌≡◌, ℕ, zero, suc, ◌+◌, refl, ap, ◌∙◌, arith}
use Rattle.trace_meaning.specs.Legs.{Leave, Program, Now, Over, run, next}

pub run-over : {P O S : Type 0} (a : Program P O S) (p : P) (l : Leave) (n : ℕ) → run a n (Over p l) ≡ Over p l
run-over a p l zero = refl
run-over a p l (suc n) = run-over a p l n

pub run-run : {P O S : Type 0} (a : Program P O S) (x : Now P O S) (m n : ℕ) → run a n (run a m x) ≡ run a (m + n) x
run-run a x zero n = let e : n ≡ 0 + n = omega arith in ap (λ k. run a k x) e
run-run a x (suc m) n = let e : suc (m + n) ≡ suc m + n = omega arith in run-run a (next a x) m n ∙ ap (λ k. run a k x) e
