use Rattle.std.proofs.Common.{◌≡◌, ◌≤◌, ◌^◌, ◌++◌, ap, ◌∙◌, subst}
use Rattle.lists.proofs.Alls.{all_at}
use Rattle.lists.proofs.Results.{on_ok}
use Rattle.seen_text.specs.Lines.{ended_text}
use Rattle.run_session.specs.Calls.{Shows as Has}
use Rattle.run_session.specs.Sessions.{Active}
use Rattle.session_seen.specs.Keeping.{kept_text}
use Rattle.session_seen.proofs.Moves.{told_now, rests, acts}
use Rattle.session_seen.proofs.Lining.{may_make}
use Rattle.session_seen.proofs.lines.put_moves.Goals as goal

pub returns-then-has_ended : goal.returns-then-has_ended
returns-then-has_ended c =
    on_ok c.put_ended.result _ _ (λ e. rests c.args.names.now c.args.activation c.args.most c.args.session.now c.now.result.now c.args.out.now.items _
    (told_now c.args.activation c.args.session.now c.now.result.now c.now.ensures) (c.has_ended.ensures.ended c.if-has_ended.true) (e ∙ ap (λ z. c.args.out.now.items ++ ended_text z) c.name_of-name.ensures)) c.put_ended.ensures

pub steps-requires-clause-count : goal.steps-requires-clause-count
steps-requires-clause-count c a at =
    may_make a.machine.instructions c.args.most (all_at (λ (x : Active). x.machine.instructions ≤ 2 ^ 62) c.args.session.now.activations c.args.activation a c.requires.made at) c.requires.most

pub returns : goal.returns
returns c =
    on_ok c.put_activation.result _ _ (λ e. acts c.args.names.now c.args.activation c.args.most c.args.session.now c.steps.new.self c.now.result.now c.steps.result c.args.out.now.items c.put_activation.new.out.items
    (told_now c.args.activation c.args.session.now c.now.result.now c.now.ensures) (c.has_ended.ensures.going c.if-has_ended.false) c.requires.most c.steps.ensures.events c.steps.ensures.others c.steps.ensures.made
    (subst (λ z. Has c.args.activation c.steps.new.self (λ (x : Active). c.put_activation.new.out.items ≡ c.args.out.now.items ++ kept_text c.steps.new.self.set z x)) c.name_of-name.ensures e)) c.put_activation.ensures
