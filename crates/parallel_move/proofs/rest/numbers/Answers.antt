use Rattle.std.proofs.Common.{ℕ, ◌<◌, List, length, get_or, ap, sym, subst, ◌∙◌, arith}
use Rattle.std.proofs.lemmas.List.{length_push}
use Rattle.parallel_move.proofs.NumberLemmas.{push_at}
use Rattle.parallel_move.proofs.rest.numbers.Goals as goal

pub loop-k-preserved : goal.loop-k-preserved
loop-k-preserved c =
    let had = c.loop-k.out.items in
    let e = c.in_ok-push.ensures.items in record {
      each = λ k w. ap (λ (xs : List ℕ). get_or xs k 0) e
          ∙ push_at had c.loop-k.k c.loop-k.invariant.each (sym c.loop-k.invariant.count) k (subst (λ (xs : List ℕ). k < length xs) e w);
      count = omega (arith, ap length e, length_push had c.loop-k.k, c.loop-k.invariant.count);
    }

pub returns-clause-each : goal.returns-clause-each
returns-clause-each c = λ k h. c.loop-k.invariant.each k (omega (arith, h, c.loop-k.invariant.count))
