use Rattle.std.proofs.Common.{◌≡◌, ℕ, ◌<◌, List, Option, Some, length, slice_get, get_or, refl, ap, sym, subst, ◌∙◌}
use Rattle.std.proofs.lemmas.Option.{slice_get_read, slice_get-get_or}
use Rattle.trace_meaning.specs.declared.value.Object.{Object}
use Rattle.heap_shape.specs.Visiting.{AllVisited, parts_in}
use Rattle.heap_shape.proofs.Lists.{has_get}
use Rattle.heap_shape.proofs.Steps.{cells_rest}
use Rattle.heap_shape.proofs.walk.cells.Goals as goal

-- the next of the list
next_at : (seen items : List ℕ) (i : ℕ) → i < length items → items ≡ seen → slice_get seen i ≡ Some (get_or items i 0)
next_at seen items i within same =
    slice_get-get_or seen i 0 (subst (λ (ns : List ℕ). i < length ns) same within) ∙ ap (λ (ns : List ℕ). Some (get_or ns i 0)) (sym same)

pub bounds-objects-object : goal.bounds-objects-object
bounds-objects-object c =
    let seen = c.args.visits.now.order.items in let items = c.deref-object-items.result.now in let i = c.loop-object.object-index in
    subst (λ (k : ℕ). get_or items i 0 < k) c.requires.count
    (c.requires.numbered.below (get_or items i 0) (has_get seen i (get_or items i 0) (next_at seen items i c.loop-object-test.true c.deref-object-items.ensures.value)))

pub cell-requires-clause-visited : goal.cell-requires-clause-visited
cell-requires-clause-visited c =
    let seen = c.args.visits.now.order.items in
    let items = c.deref-object-items.result.now in
    let i = c.loop-object.object-index in
    let objects = c.args.objects.now in
    let has = has_get seen i (get_or items i 0) (next_at seen items i c.loop-object-test.true c.deref-object-items.ensures.value) in
    let inside = subst (λ (k : ℕ). get_or items i 0 < k) c.requires.count (c.requires.numbered.below (get_or items i 0) has) in
    let found = slice_get_read objects (length objects) (get_or items i 0) c.index-objects-object.result refl inside c.index-objects-object.is in
    subst (λ (o : Option Object). AllVisited seen (parts_in o)) found (c.requires.visited (get_or items i 0) has)

pub loop-object-preserved : goal.loop-object-preserved
loop-object-preserved c =
    let seen = c.args.visits.now.order.items in let items = c.deref-object-items.result.now in let i = c.loop-object.object-index in let objects = c.args.objects.now in
    let at = next_at seen items i c.loop-object-test.true c.deref-object-items.ensures.value in
    let inside = subst (λ (k : ℕ). get_or items i 0 < k) c.requires.count (c.requires.numbered.below (get_or items i 0) (has_get seen i (get_or items i 0) at)) in
    let found = slice_get_read objects (length objects) (get_or items i 0) c.index-objects-object.result refl inside c.index-objects-object.is in
    cells_rest objects seen seen i (get_or items i 0) c.index-objects-object.result c.loop-object.made.items c.push.new.self.items _ c.in_ok-cell.field-0
    at found c.in_ok-cell.ensures c.in_ok-push.ensures.items c.loop-object.invariant
