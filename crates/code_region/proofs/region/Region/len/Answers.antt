use Rattle.std.proofs.Common.{length, ap, sym, ◌∙◌, arith}
use Rattle.code_region.proofs.Filled.{length-joined}
use Rattle.code_region.proofs.region.Region.len.Goals as goal

pub returns-clause-len : goal.returns-clause-len
returns-clause-len c = sym (length-joined c.self.inside.chunks.items c.self.inside.len c.self.invariant.filled) ∙ ap (λ v. length v.bytes) c.self.view_is

pub returns-clause-few : goal.returns-clause-few
returns-clause-few c =
    let all = length-joined c.self.inside.chunks.items c.self.inside.len c.self.invariant.filled in
    omega (arith, all, ap (λ v. length v.bytes) c.self.view_is, ap (λ v. v.spare) c.self.view_is, c.self.invariant.few)
