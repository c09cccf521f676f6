use Rattle.std.proofs.Common.{◌≡◌, ℕ, ◌+◌, ◌<◌, ◌≤◌, List, Some, length, slice_get, get_or, ap, sym, subst, ◌∙◌, arith}
use Rattle.std.proofs.lemmas.Option.{slice_get-get_or}
use Rattle.virtuals.specs.Order.{IsSearch, added_parts}
use Rattle.virtuals.proofs.Lists.{has_get}
use Rattle.virtuals.proofs.Search.{search_goes, search_ends, search_fits}
use Rattle.virtuals.proofs.order.reachable.Goals as goal

-- the next of the work list
next_at : (work seen : List ℕ) (done : ℕ) → done < length work → seen ≡ work → slice_get work done ≡ Some (get_or seen done 0)
next_at work seen done within same = slice_get-get_or work done 0 within ∙ ap (λ (ns : List ℕ). Some (get_or ns done 0)) (sym same)

pub parts_at-requires : goal.parts_at-requires
parts_at-requires c =
    let work = c.loop-done.work.items in
    let within : c.loop-done.done < length work = omega (arith, c.len.ensures.value, c.loop-done-test.true) in
    c.loop-done.invariant.found.live _ (has_get work c.loop-done.done _ (next_at work c.as_slice.result.now c.loop-done.done within c.as_slice.ensures))

pub loop-done-smaller : goal.loop-done-smaller
loop-done-smaller c =
    let work = c.loop-done.work.items in
    let within : c.loop-done.done < length work = omega (arith, c.len.ensures.value, c.loop-done-test.true) in
    let fits : length work ≤ length c.args.shapes.now = search_fits c.args.shapes.now c.args.id c.loop-done.done work c.loop-done.invariant.found in
    omega arith

pub loop-done-preserved : goal.loop-done-preserved
loop-done-preserved c =
    let shapes = c.args.shapes.now in let work = c.loop-done.work.items in let done = c.loop-done.done in
    let within : done < length work = omega (arith, c.len.ensures.value, c.loop-done-test.true) in record {
      found = subst (IsSearch shapes c.args.id (done + 1)) (sym (c.in_ok-add_parts.ensures.listed ∙ ap (added_parts work) c.parts_at.ensures))
          (search_goes shapes c.args.id done (get_or c.as_slice.result.now done 0) work c.requires.sound c.loop-done.invariant.found (next_at work c.as_slice.result.now done within c.as_slice.ensures));
      marked = c.in_ok-add_parts.ensures.marked;
    }

pub returns : goal.returns
returns c = search_ends c.args.shapes.now c.args.id c.loop-done.done c.loop-done.work.items c.loop-done.invariant.found (omega (arith, c.len.ensures.value, c.loop-done-test.false))
