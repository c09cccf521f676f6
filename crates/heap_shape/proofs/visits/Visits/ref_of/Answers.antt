use Rattle.std.proofs.Common.{◌<◌, Option, ℕ, length, ap, sym, subst, ◌∙◌, arith}
use Rattle.std.specs.Option.{IsSome, unwrap_or}
use Rattle.trace_meaning.specs.declared.value.Value.{Value}
use Rattle.heap_shape.specs.declared.cell.Ref.TheVariants as r
use Rattle.heap_shape.specs.Visiting.{IsVisited}
use Rattle.heap_shape.specs.Listing.{ref_of}
use Rattle.heap_shape.proofs.Numbers.{number_some, number_told}
use Rattle.heap_shape.proofs.visits.Visits.ref_of.Goals as goal

pub index-requires : goal.index-requires
index-requires c =
    let below : c.in-Obj.object < length c.args.self.now.numbers.items =
    c.requires.numbered.below c.in-Obj.object (subst (λ (x : Value). IsVisited c.args.self.now.order.items x) c.in-Obj.is c.requires.visited) in
    omega (arith, below)

pub unwrap-requires : goal.unwrap-requires
unwrap-requires c =
    let seen = c.args.self.now.order.items in let numbers = c.args.self.now.numbers.items in
    let has = subst (λ (x : Value). IsVisited seen x) c.in-Obj.is c.requires.visited in
    let told = number_told seen numbers c.in-Obj.object c.index.result.now c.requires.numbered (c.requires.numbered.below c.in-Obj.object has) c.index.ensures in
    subst (λ (o : Option ℕ). IsSome o) (sym told) (number_some seen c.in-Obj.object has)

pub returns-in-Obj : goal.returns-in-Obj
returns-in-Obj c =
    let seen = c.args.self.now.order.items in let numbers = c.args.self.now.numbers.items in
    let has = subst (λ (x : Value). IsVisited seen x) c.in-Obj.is c.requires.visited in
    let told = number_told seen numbers c.in-Obj.object c.index.result.now c.requires.numbered (c.requires.numbered.below c.in-Obj.object has) c.index.ensures in
    sym (ap (λ (o : Option ℕ). r.Num (unwrap_or o 0)) (sym told ∙ c.unwrap.ensures)) ∙ ap (ref_of seen) (sym c.in-Obj.is)
