use Rattle.std.proofs.Common.{◌≡◌, rules, FitsSigned}
use Rattle.std.specs.Int.{w64}
use Rattle.std.proofs.lemmas.Int.{to_z-of_z}
use Rattle.trace_ops.specs.Words.{shifted_left}
use Rattle.int_bounds.specs.Within.{IsWithin}
use Rattle.int_bounds.proofs.Wraps.{least-wrap, wrap-most}
use Rattle.int_bounds.proofs.shifts.left_shifts.Goals as goal

pub returns : goal.returns
returns c = λ x y a b.
    let same : y ≡ c.in-Some.by = c.in-Some.ensures.some y b in
    let fits : FitsSigned w64 c.in-Some.by = search rules in
    let there : IsWithin c.left_by.result (shifted_left x c.in-Some.by) = rw (to_z-of_z w64 c.in-Some.by fits) at (c.left_by.ensures x a) in
    rw same there

pub returns-in_default : goal.returns-in_default
returns-in_default c = λ x y a b. (least-wrap _, wrap-most _)
