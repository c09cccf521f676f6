use Rattle.std.proofs.Common.{◌≡◌, ◌≤◌, List, Some, length, slice_set, sym, subst, ◌∙◌, arith}
use Rattle.std.proofs.Common.{ℕ}
use Rattle.heap_shape.specs.Visiting.{IsNumbered}
use Rattle.heap_shape.proofs.Numbers.{number_untold, note_push, numbered_few, numbered_push}
use Rattle.heap_shape.proofs.visits.Visits.add.Goals as goal

pub overflow_cast-number : goal.overflow_cast-number
overflow_cast-number c =
    let few : length c.args.self.now.order.items ≤ length c.args.self.now.numbers.items = numbered_few _ _ c.requires.numbered in
    omega (arith, few, c.requires.numbered.short, c.len-number.ensures)

pub returns-clause-order : goal.returns-clause-order
returns-clause-order c =
    let seen = c.args.self.now.order.items in
    let new = number_untold seen c.args.self.now.numbers.items c.args.object c.index.result.now c.requires.numbered c.requires.within c.index.ensures (sym c.is_some.ensures ∙ c.if-is_some.false) in
    c.in_ok-push.ensures.items ∙ sym (note_push seen c.args.object new)

pub returns-clause-numbered : goal.returns-clause-numbered
returns-clause-numbered c =
    let seen = c.args.self.now.order.items in let numbers = c.args.self.now.numbers.items in
    let new = number_untold seen numbers c.args.object c.index.result.now c.requires.numbered c.requires.within c.index.ensures (sym c.is_some.ensures ∙ c.if-is_some.false) in
    let next : c.len-number.result ≡ length seen = omega (arith, c.len-number.ensures) in
    subst (λ (ns : List ℕ). IsNumbered ns (slice_set numbers c.args.object (Some c.len-number.result))) (sym c.in_ok-push.ensures.items)
    (numbered_push seen numbers c.args.object c.len-number.result c.requires.numbered c.requires.within new next)
