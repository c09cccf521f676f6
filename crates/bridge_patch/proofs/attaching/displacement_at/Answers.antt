use Rattle.std.proofs.Common.{ℤ, sym, subst, rules}
use Rattle.std.specs.Prelude.{FitsSigned}
use Rattle.std.specs.Int.{w32}
use Rattle.std.proofs.lemmas.Int.{to_z-of_z}
use Rattle.bridge_patch.specs.Attached.{StandsAt}
use Rattle.bridge_patch.proofs.Patching.{displacement_stands}
use Rattle.bridge_patch.proofs.attaching.displacement_at.Goals as goal

pub returns : goal.returns
returns c =
    let code = c.args.code.now.bytes in
    let buf = c.fetch-count.new.buf in
    let z = c.displacement_of.result in
    let fits : FitsSigned w32 z = search rules in
    let stands = displacement_stands code buf c.args.at c.fetch-count.result z c.fetch-count.array_long c.fetch-count.ensures.count c.fetch-count.ensures.bytes c.requires c.displacement_of.ensures in
    subst (λ (v : ℤ). StandsAt code c.args.at v) (sym (to_z-of_z w32 z fits)) stands
