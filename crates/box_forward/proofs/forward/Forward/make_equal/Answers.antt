use Rattle.std.proofs.Common.{List, Bool, Option, length, map, slice_get, ap, sym, subst, ◌∙◌}
use Rattle.std.proofs.lemmas.Option.{slice_get_within}
use Rattle.trace_ops.specs.declared.trace.Arg.{Arg}
use Rattle.box_forward.specs.Forwarding.{followed, instead, IsApart, IsSettledAt, IsKeptBut}
use Rattle.box_forward.specs.Tables.{table_from, IsTable, IsOwnAt, IsValueAt}
use Rattle.box_forward.proofs.TableLemmas.{own_nodes, own_mark, settled_value, changed_table, changed_followed, changed_kept}
use Rattle.box_forward.proofs.forward.Forward.make_equal.Goals as goal

pub rename-requires-clause-own : goal.rename-requires-clause-own
rename-requires-clause-own c =
    let own = ap (λ (t : List (Option Arg)). slice_get t c.args.from) c.self.view_is ∙ c.requires.own in
    subst (λ (bs : List Bool). IsOwnAt c.self.inside.classes (length bs) c.args.from) (sym c.deref.ensures.value)
    (own_nodes c.self.inside.classes c.self.inside.stood.items c.args.from c.self.invariant own)

pub rename-requires-clause-other : goal.rename-requires-clause-other
rename-requires-clause-other c =
    let settled = subst (λ (t : List (Option Arg)). IsSettledAt t c.follow-to.result) (sym c.self.view_is) c.follow-to.ensures.settled in
    subst (λ (bs : List Bool). IsValueAt c.self.inside.classes (length bs) c.follow-to.result) (sym c.deref.ensures.value)
    (settled_value c.self.inside.classes c.self.inside.stood.items c.follow-to.result c.self.invariant settled)

pub rename-requires-clause-apart : goal.rename-requires-clause-apart
rename-requires-clause-apart c = subst (IsApart c.args.from) (sym c.follow-to.ensures.value) c.requires.apart

pub mark-requires : goal.mark-requires
mark-requires c =
    let own = ap (λ (t : List (Option Arg)). slice_get t c.args.from) c.self.view_is ∙ c.requires.own in
    slice_get_within c.self.inside.stood.items c.args.from _ (own_mark c.self.inside.classes c.self.inside.stood.items c.args.from c.self.invariant own)

pub invariant_of-self : goal.invariant_of-self
invariant_of-self c =
    let own = ap (λ (t : List (Option Arg)). slice_get t c.args.from) c.self.view_is ∙ c.requires.own in
    let apart = subst (IsApart c.args.from) (sym c.follow-to.ensures.value) c.requires.apart in
    let settled = subst (λ (t : List (Option Arg)). IsSettledAt t c.follow-to.result) (sym c.self.view_is) c.follow-to.ensures.settled in
    subst (λ (vs : List Arg). IsTable vs c.mark.new.stood.items) (sym c.rename.ensures)
    (subst (IsTable (map (instead c.args.from c.follow-to.result) c.self.inside.classes)) (sym c.mark.ensures)
    (changed_table c.self.inside.classes c.self.inside.stood.items c.self.invariant c.args.from c.follow-to.result own apart settled))

pub returns-clause-becomes : goal.returns-clause-becomes
returns-clause-becomes c = λ a.
    let own = ap (λ (t : List (Option Arg)). slice_get t c.args.from) c.self.view_is ∙ c.requires.own in
    let apart = subst (IsApart c.args.from) (sym c.follow-to.ensures.value) c.requires.apart in
    let settled = subst (λ (t : List (Option Arg)). IsSettledAt t c.follow-to.result) (sym c.self.view_is) c.follow-to.ensures.settled in
    ap (λ (vs : List Arg). followed (table_from 0 vs c.mark.new.stood.items) a) c.rename.ensures
    ∙ ap (λ (bs : List Bool). followed (table_from 0 (map (instead c.args.from c.follow-to.result) c.self.inside.classes) bs) a) c.mark.ensures
    ∙ changed_followed c.self.inside.classes c.self.inside.stood.items c.self.invariant c.args.from c.follow-to.result own apart settled a
    ∙ ap (λ (t : List (Option Arg)). instead c.args.from c.follow-to.result (followed t a)) c.self.view_is
    ∙ ap (λ (x : Arg). instead c.args.from x (followed c.args.self.now a)) c.follow-to.ensures.value

pub returns-clause-others : goal.returns-clause-others
returns-clause-others c =
    let own = ap (λ (t : List (Option Arg)). slice_get t c.args.from) c.self.view_is ∙ c.requires.own in
    let apart = subst (IsApart c.args.from) (sym c.follow-to.ensures.value) c.requires.apart in
    let settled = subst (λ (t : List (Option Arg)). IsSettledAt t c.follow-to.result) (sym c.self.view_is) c.follow-to.ensures.settled in
    subst (λ (t : List (Option Arg)). IsKeptBut c.args.from t (table_from 0 c.rename.new.classes c.mark.new.stood.items)) c.self.view_is
    (subst (λ (vs : List Arg). IsKeptBut c.args.from (table_from 0 c.self.inside.classes c.self.inside.stood.items) (table_from 0 vs c.mark.new.stood.items)) (sym c.rename.ensures)
    (subst (λ (bs : List Bool). IsKeptBut c.args.from (table_from 0 c.self.inside.classes c.self.inside.stood.items) (table_from 0 (map (instead c.args.from c.follow-to.result) c.self.inside.classes) bs)) (sym c.mark.ensures)
    (changed_kept c.self.inside.classes c.self.inside.stood.items c.self.invariant c.args.from c.follow-to.result own apart settled)))
