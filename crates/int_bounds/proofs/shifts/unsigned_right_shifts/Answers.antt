use Rattle.std.proofs.Common.{◌≡◌, rules, FitsSigned}
use Rattle.std.specs.Int.{w64}
use Rattle.std.proofs.lemmas.Int.{to_z-of_z}
use Rattle.trace_ops.specs.Words.{unsigned_right}
use Rattle.int_bounds.specs.Within.{IsWithin}
use Rattle.int_bounds.proofs.shifts.unsigned_right_shifts.Goals as goal

pub returns : goal.returns
returns c = λ x y a b.
    let same : y ≡ c.in-Some.by = c.in-Some.ensures.some y b in
    let fits : FitsSigned w64 c.in-Some.by = search rules in
    let there : IsWithin c.unsigned_right_by.result (unsigned_right x c.in-Some.by) = rw (to_z-of_z w64 c.in-Some.by fits) at (c.unsigned_right_by.ensures x a) in
    rw same there
