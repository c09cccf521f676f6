use Rattle.std.proofs.Common.{arith, rules, FitsSigned, ◌≤ℤ◌, pos}
use Rattle.std.specs.Int.{w64}
use Rattle.std.proofs.lemmas.Int.{ints}
use Rattle.trace_ops.specs.Words.{conjoined}
use Rattle.int_bounds.proofs.Bitwise.{conjoined-first, conjoined-second, words-between}
use Rattle.int_bounds.proofs.bits.conjunctions.Goals as goal

pub returns-then-b-a-clause-contains : goal.returns-then-b-a-clause-contains
returns-then-b-a-clause-contains c = λ x y a b.
    let low : FitsSigned w64 c.args.b.low = search rules in
    let high : FitsSigned w64 c.args.b.high = search rules in
    let lies : (pos 0 ≤ℤ conjoined x y) × (conjoined x y ≤ℤ y) = conjoined-second x y (words-between _ _ y low high b.0 b.1) (omega (arith, ints)) in
    (omega (arith, ints), omega (arith, ints))

pub returns-then-a-ge0-clause-contains : goal.returns-then-a-ge0-clause-contains
returns-then-a-ge0-clause-contains c = λ x y a b.
    let low : FitsSigned w64 c.args.a.low = search rules in
    let high : FitsSigned w64 c.args.a.high = search rules in
    let lies : (pos 0 ≤ℤ conjoined x y) × (conjoined x y ≤ℤ x) = conjoined-first x y (words-between _ _ x low high a.0 a.1) (omega (arith, ints)) in
    (omega (arith, ints), omega (arith, ints))

pub returns-then-b-ge0-2-clause-contains : goal.returns-then-b-ge0-2-clause-contains
returns-then-b-ge0-2-clause-contains c = λ x y a b.
    let low : FitsSigned w64 c.args.b.low = search rules in
    let high : FitsSigned w64 c.args.b.high = search rules in
    let lies : (pos 0 ≤ℤ conjoined x y) × (conjoined x y ≤ℤ y) = conjoined-second x y (words-between _ _ y low high b.0 b.1) (omega (arith, ints)) in
    (omega (arith, ints), omega (arith, ints))
