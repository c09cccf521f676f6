use Rattle.trace_ops.specs.Words.{unsigned_less}
use Rattle.int_bounds.proofs.Settled.{settled-by, unsigned-told, unsigned-flipped}
use Rattle.int_bounds.proofs.outcomes.unsigned_lesses.Goals as goal

pub returns-clause-settled : goal.returns-clause-settled
returns-clause-settled c =
    let (p, wp, e) = c.unsigned_high.ensures.there in
    let (q, wq, f) = c.unsigned_low.ensures.there in
    let (s, ws, g) = c.unsigned_low-2.ensures.there in
    let (t, wt, h) = c.unsigned_high-2.ensures.there in
    settled-by unsigned_less c.args.a c.args.b c.outcomes.result _ _ c.outcomes.ensures.yes c.outcomes.ensures.no p q s t wp wq ws wt
    (unsigned-told p q _ _ e f) (unsigned-flipped s t _ _ g h)
