use Rattle.std.proofs.Common.{◌≡◌, ℕ, ◌+◌, ◌++◌, List, [], length, replicate, ap, sym, subst, ◌∙◌, arith, length-append}
use Rattle.std.proofs.lemmas.List.{length-replicate}
use Rattle.std.proofs.lemmas.Grind.{div_ceil_times}
use Rattle.code_region.specs.Chunks.{joined, IsFilled}
use Rattle.code_region.proofs.Filled.{length-joined, joined-more, filled-more}
use Rattle.code_region.proofs.region.Region.reserve.Goals as goal

pub returns-then-n-self-clause-few : goal.returns-then-n-self-clause-few
returns-then-n-self-clause-few c =
    omega (arith, length-joined c.self.inside.chunks.items c.self.inside.len c.self.invariant.filled, ap (λ v. length v.bytes) c.self.view_is, ap (λ v. v.spare) c.self.view_is, c.self.invariant.few)

pub invariant_of-self-2 : goal.invariant_of-self-2
invariant_of-self-2 c =
    let i = c.self.inside in let m = c.saturating_sub-missing.result in
    let all = length-joined i.chunks.items i.len c.self.invariant.filled in
    let items : c.append.new.self.items ≡ i.chunks.items ++ replicate m [] = c.in_ok-append.ensures.items ∙ ap (λ (es : List (List ℕ)). i.chunks.items ++ es) c.in_ok-more.ensures in
    let empty : List ℕ = [] in let none : List (List ℕ) = replicate m empty in
    let count = ap length items in record {
      filled = subst (λ (cs : List (List ℕ)). IsFilled i.len cs) (sym items) (filled-more i.chunks.items i.len m c.self.invariant.filled);
      room = omega (arith, count, length-append i.chunks.items none, length-replicate m empty, c.saturating_sub-missing.ensures, c.len.ensures, c.div_ceil-wanted.ensures, (div_ceil_times (i.len + c.args.n) 65536 (omega arith)).0);
      few = omega (arith, all, ap (λ v. length v.bytes) c.self.view_is, c.requires);
    }

pub returns-clause-bytes : goal.returns-clause-bytes
returns-clause-bytes c =
    let i = c.self.inside in let m = c.saturating_sub-missing.result in
    let items : c.append.new.self.items ≡ i.chunks.items ++ replicate m [] = c.in_ok-append.ensures.items ∙ ap (λ (es : List (List ℕ)). i.chunks.items ++ es) c.in_ok-more.ensures in
    ap joined items ∙ joined-more i.chunks.items m ∙ ap (λ v. v.bytes) c.self.view_is

pub returns-clause-few : goal.returns-clause-few
returns-clause-few c =
    let i = c.self.inside in let m = c.saturating_sub-missing.result in
    let items : c.append.new.self.items ≡ i.chunks.items ++ replicate m [] = c.in_ok-append.ensures.items ∙ ap (λ (es : List (List ℕ)). i.chunks.items ++ es) c.in_ok-more.ensures in
    let same = ap joined items ∙ joined-more i.chunks.items m ∙ ap (λ v. v.bytes) c.self.view_is in
    omega (arith, ap length same, c.requires)
