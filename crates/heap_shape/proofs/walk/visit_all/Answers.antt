use Rattle.std.proofs.Common.{◌≡◌, ℕ, ◌<◌, ◌≤◌, List, Option, Some, length, slice_get, refl, ap, sym, subst, ◌∙◌, arith}
use Rattle.std.proofs.lemmas.Option.{slice_get_read}
use Rattle.trace_meaning.specs.declared.value.Value.{Value}
use Rattle.trace_meaning.specs.declared.value.Object.{Object}
use Rattle.heap_shape.specs.Visiting.{AllVisited, AreWithin, IsNumbered, PartsVisited}
use Rattle.heap_shape.proofs.Lists.{has_get}
use Rattle.heap_shape.proofs.Numbers.{numbered_few}
use Rattle.heap_shape.proofs.Walks.{walk_ends, parts_within}
use Rattle.heap_shape.proofs.Steps.{walk_goes}
use Rattle.heap_shape.proofs.InOrder.{visits_in_order, roots_visited, parts_visited}
use Rattle.heap_shape.proofs.walk.visit_all.Goals as goal

-- what is next is an object
next_within : (seen : List ℕ) (numbers : List (Option ℕ)) (done n count : ℕ) → IsNumbered seen numbers → length numbers ≡ count → slice_get seen done ≡ Some n → n < count
next_within seen numbers done n count h same at = subst (λ (k : ℕ). n < k) same (h.below n (has_get seen done n at))

few_within : (seen : List ℕ) (numbers : List (Option ℕ)) (done count : ℕ) → IsNumbered seen numbers → length numbers ≡ count → done < length seen → done < count
few_within seen numbers done count h same less =
    let few : length seen ≤ length numbers = numbered_few seen numbers h in
    omega (arith, few, same, less)

pub bounds-objects-object : goal.bounds-objects-object
bounds-objects-object c =
    let seen = c.loop-done.visits.order.items in
    let within : c.loop-done.done < length seen = omega (arith, c.len.ensures, c.loop-done-test.true) in
    next_within seen c.loop-done.visits.numbers.items c.loop-done.done c.index.result.now (length c.args.objects.now) c.loop-done.invariant.numbered c.loop-done.invariant.count
    (slice_get_read seen (length seen) c.loop-done.done c.index.result.now refl within c.index.ensures)

pub add_values-requires-in-loop-done-clause-within : goal.add_values-requires-in-loop-done-clause-within
add_values-requires-in-loop-done-clause-within c =
    let seen = c.loop-done.visits.order.items in let objects = c.args.objects.now in
    let within : c.loop-done.done < length seen = omega (arith, c.len.ensures, c.loop-done-test.true) in
    let inside = next_within seen c.loop-done.visits.numbers.items c.loop-done.done c.index.result.now (length objects) c.loop-done.invariant.numbered c.loop-done.invariant.count
    (slice_get_read seen (length seen) c.loop-done.done c.index.result.now refl within c.index.ensures) in
    let found = slice_get_read objects (length objects) c.index.result.now c.index-objects-object.result refl inside c.index-objects-object.is in
    let same = c.items.ensures ∙ sym (ap (λ (x : Object). x.parts) c.index-objects-object.is) in
    subst (λ (k : ℕ). AreWithin k c.items.result.now) (sym c.loop-done.invariant.count)
    (subst (λ (xs : List Value). AreWithin (length objects) xs) (sym same) (parts_within objects c.index.result.now c.index-objects-object.result c.requires.closed found))

pub loop-done-smaller : goal.loop-done-smaller
loop-done-smaller c =
    let seen = c.loop-done.visits.order.items in
    let within : c.loop-done.done < length seen = omega (arith, c.len.ensures, c.loop-done-test.true) in
    let fits : c.loop-done.done < length c.args.objects.now =
    few_within seen c.loop-done.visits.numbers.items c.loop-done.done (length c.args.objects.now) c.loop-done.invariant.numbered c.loop-done.invariant.count within in
    omega arith

pub loop-done-preserved : goal.loop-done-preserved
loop-done-preserved c =
    let seen = c.loop-done.visits.order.items in let objects = c.args.objects.now in
    let within : c.loop-done.done < length seen = omega (arith, c.len.ensures, c.loop-done-test.true) in
    let fits = few_within seen c.loop-done.visits.numbers.items c.loop-done.done (length objects) c.loop-done.invariant.numbered c.loop-done.invariant.count within in
    let at = slice_get_read seen (length seen) c.loop-done.done c.index.result.now refl within c.index.ensures in
    let inside = next_within seen c.loop-done.visits.numbers.items c.loop-done.done c.index.result.now (length objects) c.loop-done.invariant.numbered c.loop-done.invariant.count at in
    let found = slice_get_read objects (length objects) c.index.result.now c.index-objects-object.result refl inside c.index-objects-object.is in
    record {
      order = walk_goes objects (length objects) c.loop-done.done c.index.result.now seen c.add_values-in-loop-done.new.self.order.items _ c.items.result.now c.index-objects-object.result
          fits at found (c.items.ensures ∙ sym (ap (λ (x : Object). x.parts) c.index-objects-object.is)) c.in_ok-add_values-2.ensures.order c.loop-done.invariant.order;
      count = c.in_ok-add_values-2.ensures.count ∙ c.loop-done.invariant.count;
      numbered = c.in_ok-add_values-2.ensures.numbered;
    }

pub returns-clause-order : goal.returns-clause-order
returns-clause-order c =
    let past : length c.loop-done.visits.order.items ≤ c.loop-done.done = omega (arith, c.len.ensures, c.loop-done-test.false) in
    sym (walk_ends _ c.args.objects.now c.loop-done.done c.loop-done.visits.order.items past) ∙ c.loop-done.invariant.order

pub returns-clause-roots : goal.returns-clause-roots
returns-clause-roots c =
    let past : length c.loop-done.visits.order.items ≤ c.loop-done.done = omega (arith, c.len.ensures, c.loop-done-test.false) in
    let all = sym (walk_ends _ c.args.objects.now c.loop-done.done c.loop-done.visits.order.items past) ∙ c.loop-done.invariant.order in
    subst (λ (ns : List ℕ). AllVisited ns c.args.roots.now) (sym all)
    (roots_visited c.args.objects.now c.args.roots.now _ (visits_in_order c.args.objects.now c.args.roots.now c.requires.closed c.requires.roots))

pub returns-clause-parts : goal.returns-clause-parts
returns-clause-parts c =
    let past : length c.loop-done.visits.order.items ≤ c.loop-done.done = omega (arith, c.len.ensures, c.loop-done-test.false) in
    let all = sym (walk_ends _ c.args.objects.now c.loop-done.done c.loop-done.visits.order.items past) ∙ c.loop-done.invariant.order in
    subst (λ (ns : List ℕ). PartsVisited c.args.objects.now ns) (sym all)
    (parts_visited c.args.objects.now c.args.roots.now _ (visits_in_order c.args.objects.now c.args.roots.now c.requires.closed c.requires.roots))
