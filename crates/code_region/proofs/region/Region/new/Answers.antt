use Rattle.std.proofs.Common.{ℕ, List, ap, sym, subst, refl, arith}
use Rattle.code_region.specs.Chunks.{joined, IsFilled}
use Rattle.code_region.proofs.region.Region.new.Goals as goal

pub invariant_of-result : goal.invariant_of-result
invariant_of-result c = record {
  filled = subst (λ (cs : List (List ℕ)). IsFilled 0 cs) (sym c.in_ok-with_capacity.ensures.items) refl;
  room = omega arith;
  few = omega arith;
}

pub returns-clause-bytes : goal.returns-clause-bytes
returns-clause-bytes c = ap joined c.in_ok-with_capacity.ensures.items
