use Rattle.std.proofs.Common.{◌≡◌, ◌<◌, List, Bool, Option, Some, true, false, length, slice_get, ap, sym, subst, ◌∙◌, arith}
use Rattle.trace_ops.specs.declared.trace.Arg.{Arg}
use Rattle.trace_ops.specs.declared.trace.Arg.TheVariants.{Of}
use Rattle.box_forward.specs.Forwarding.{followed, IsWithin, IsSettledAt}
use Rattle.box_forward.proofs.TableLemmas.{within_marks, followed_true, followed_false, false_own, value_settled}
use Rattle.box_forward.proofs.forward.Forward.follow.Goals as goal

pub is_marked-requires : goal.is_marked-requires
is_marked-requires c =
    let within : c.in-Of.b.number < length c.args.self.now = subst (IsWithin c.args.self.now) c.in-Of.is c.requires in
    subst (λ (bs : List Bool). c.in-Of.b.number < length bs) (sym c.deref.ensures.value)
    (within_marks c.self.inside.classes c.self.inside.stood.items c.in-Of.b.number (subst (λ (t : List (Option Arg)). c.in-Of.b.number < length t) (sym c.self.view_is) within))

pub value-requires : goal.value-requires
value-requires c =
    let within : c.in-Of.b.number < length c.args.self.now = subst (IsWithin c.args.self.now) c.in-Of.is c.requires in
    let marks : c.in-Of.b.number < length c.self.inside.stood.items =
    within_marks c.self.inside.classes c.self.inside.stood.items c.in-Of.b.number (subst (λ (t : List (Option Arg)). c.in-Of.b.number < length t) (sym c.self.view_is) within) in
    omega (arith, marks, c.self.invariant.count)

pub returns-then-is_marked-clause-value : goal.returns-then-is_marked-clause-value
returns-then-is_marked-clause-value c =
    let mark : slice_get c.self.inside.stood.items c.in-Of.b.number ≡ Some true =
    ap (λ (bs : List Bool). slice_get bs c.in-Of.b.number) (sym c.deref.ensures.value) ∙ c.is_marked.ensures ∙ ap Some c.if-is_marked.true in
    followed_true c.self.inside.classes c.self.inside.stood.items c.in-Of.b c.value.result mark c.value.ensures
    ∙ ap (λ (t : List (Option Arg)). followed t (Of c.in-Of.b)) c.self.view_is ∙ ap (followed c.args.self.now) (sym c.in-Of.is)

pub returns-then-is_marked-clause-settled : goal.returns-then-is_marked-clause-settled
returns-then-is_marked-clause-settled c =
    subst (λ (t : List (Option Arg)). IsSettledAt t c.value.result) c.self.view_is
    (value_settled c.self.inside.classes c.self.inside.stood.items c.in-Of.b.number c.value.result c.self.invariant c.value.ensures)

pub returns-else-is_marked-clause-value : goal.returns-else-is_marked-clause-value
returns-else-is_marked-clause-value c =
    let mark : slice_get c.self.inside.stood.items c.in-Of.b.number ≡ Some false =
    ap (λ (bs : List Bool). slice_get bs c.in-Of.b.number) (sym c.deref.ensures.value) ∙ c.is_marked.ensures ∙ ap Some c.if-is_marked.false in
    followed_false c.self.inside.classes c.self.inside.stood.items c.in-Of.b mark
    ∙ ap (λ (t : List (Option Arg)). followed t (Of c.in-Of.b)) c.self.view_is ∙ ap (followed c.args.self.now) (sym c.in-Of.is)

pub returns-else-is_marked-clause-settled : goal.returns-else-is_marked-clause-settled
returns-else-is_marked-clause-settled c =
    let mark : slice_get c.self.inside.stood.items c.in-Of.b.number ≡ Some false =
    ap (λ (bs : List Bool). slice_get bs c.in-Of.b.number) (sym c.deref.ensures.value) ∙ c.is_marked.ensures ∙ ap Some c.if-is_marked.false in
    ap (λ (t : List (Option Arg)). slice_get t c.in-Of.b.number) (sym c.self.view_is) ∙ false_own c.self.inside.classes c.self.inside.stood.items c.in-Of.b.number mark
