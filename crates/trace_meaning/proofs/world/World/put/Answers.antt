use Rattle.std.proofs.Common.{◌≡◌, ◌∙◌, List, Some, slice_get, ap, sym, subst}
use Rattle.trace_meaning.specs.declared.value.Object.{Object}
use Rattle.trace_meaning.specs.Kept.{Kept, AreCounted}
use Rattle.trace_meaning.proofs.Sizes.{counted-with_part}
use Rattle.trace_meaning.proofs.world.World.put.Goals as goal

pub invariant_of-self : goal.invariant_of-self
invariant_of-self c =
    let there : slice_get c.self.inside.store.objects c.args.n ≡ Some c.requires.0 = ap (λ (k : Kept). slice_get k.world.objects c.args.n) c.self.view_is ∙ c.requires.1 in
    let moved : c.into_items-objects.result.items ≡ c.self.inside.store.objects = cc in
    let found : slice_get c.into_items-objects.result.items c.args.n ≡ Some c.requires.0 = ap (λ (xs : List Object). slice_get xs c.args.n) moved ∙ there in
    let result_is = c.of-2.ensures ∙ c.with_part.ensures c.requires.0 found in
    let P : List Object → Type 0 = λ xs. AreCounted xs c.self.inside.prebuilts c.self.inside.bytes in
    record {
      counted = subst P (sym result_is) (counted-with_part _ c.args.n c.args.i _ _ c.requires.0 c.args.value found (subst P (sym moved) c.self.invariant.counted));
      used = c.self.invariant.used;
      calls = c.self.invariant.calls;
    }
