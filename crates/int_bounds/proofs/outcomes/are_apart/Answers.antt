use Rattle.std.proofs.Common.{◌≡◌, ◌≤ℤ◌, ℤ, Bool, true, false, arith, refl}
use Rattle.std.specs.Prelude.{int_lt}
use Rattle.std.proofs.lemmas.Int.{ints}
use Rattle.int_bounds.specs.declared.interval.Interval.{Interval}
use Rattle.int_bounds.specs.Within.{IsWithin}
use Rattle.int_bounds.proofs.outcomes.are_apart.Goals as goal

-- the greater of the lower bounds is in both
greater-shared : (a b : Interval) (first : Bool) → (first ≡ true → a.low ≤ℤ b.low) → (first ≡ false → b.low ≤ℤ a.low)
    → a.low ≤ℤ a.high → b.low ≤ℤ b.high → b.low ≤ℤ a.high → a.low ≤ℤ b.high → (x : ℤ) × IsWithin a x × IsWithin b x
greater-shared a b true p q oa ob h k = let l = p refl in (b.low, (l, h), (omega (arith, ints), ob))
greater-shared a b false p q oa ob h k = let l = q refl in (a.low, (omega (arith, ints), oa), (l, k))

pub returns-else-a-b-clause-shared : goal.returns-else-a-b-clause-shared
returns-else-a-b-clause-shared c = λ h. greater-shared c.args.a c.args.b (int_lt c.args.a.low c.args.b.low) (λ e. grind (arith, ints)) (λ e. grind (arith, ints)) c.args.a.ordered c.args.b.ordered (grind (arith, ints)) (grind (arith, ints))
