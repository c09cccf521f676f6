use Rattle.std.proofs.Common.{◌≡◌, subst, true, false, [], List, Option}
use Rattle.std.specs.Prelude.{MatchOption}
use Rattle.trace_ops.specs.declared.trace.BoxId.{BoxId}
use Rattle.trace_check.specs.Boxes.{repeats}
use Rattle.trace_check.proofs.Walking.{begun}
use Rattle.trace_check.proofs.walk.begin.Goals as goal

pub returns-in-Ok-Some : goal.returns-in-Ok-Some
returns-in-Ok-Some c =
    let both = subst (λ (o : Option (List BoxId)). MatchOption o (repeats [] c.items.result.now ≡ true) (λ b. (repeats [] c.items.result.now ≡ false) × (b ≡ c.items.result.now))) c.in-Ok-Some.field-0-is c.in-Ok-Some.ensures in
    begun c.equality_decides.ensures c.args.trace.now c.items.result.now c.in-Ok-Some.seen c.items.ensures both.0 both.1
