use Rattle.std.proofs.Common.{sym, ◌∙◌}
use Rattle.text_lines.specs.Words.{words}
use Rattle.session_text.proofs.Steps.{goes_on, stops, ends, ends_not}
use Rattle.session_text.proofs.start.start_at.Goals as goal

pub returns-then-not-branch : goal.returns-then-not-branch
returns-then-not-branch c = stops c.args.names.now c.loop-word.start c.step.new.start c.in-Some.word.now (words c.loop-word.rest.now) (words c.in-Some.after.now) (words c.args.text.now) c.in_ok-step.field-0 c.in-Some.ensures.cases c.in_ok-step.ensures c.if-not-branch.true c.loop-word.invariant

pub loop-word-preserved : goal.loop-word-preserved
loop-word-preserved c = goes_on c.args.names.now c.loop-word.start c.step.new.start c.in-Some.word.now (words c.loop-word.rest.now) (words c.in-Some.after.now) c.in_ok-step.field-0 _ c.in-Some.ensures.cases c.in_ok-step.ensures c.if-not-branch.false c.loop-word.invariant

pub returns-then-is_done : goal.returns-then-is_done
returns-then-is_done c = ends c.args.names.now c.loop-word.start (words c.loop-word.rest.now) (words c.args.text.now) c.in_default.ensures.cases c.loop-word.invariant (sym c.is_done.ensures ∙ c.if-is_done.true)

pub returns : goal.returns
returns c = ends_not c.args.names.now c.loop-word.start (words c.loop-word.rest.now) (words c.args.text.now) c.in_default.ensures.cases c.loop-word.invariant (sym c.is_done.ensures ∙ c.if-is_done.false)
