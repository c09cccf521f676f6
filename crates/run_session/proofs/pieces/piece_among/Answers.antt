use Rattle.std.proofs.Common.{◌∙◌, sym, ap}
use Rattle.std.specs.Option.{option_copied}
use Rattle.opt_meaning.specs.Pieces.{piece_at}
use Rattle.run_session.proofs.Naming.{among-some, among-none}
use Rattle.run_session.proofs.pieces.piece_among.Goals as goal

pub returns-in-Some : goal.returns-in-Some
returns-in-Some c =
    let at = ap (λ ps. piece_at ps c.args.id) (sym c.items.ensures) ∙ sym c.piece_at.ensures ∙ ap option_copied c.in-Some.is in
    sym (among-some c.args.opt.now c.loop-one.one-index c.one-item.result c.args.id c.in-Some.piece.now c.loop-one-test.true c.one-item.is at) ∙ c.loop-one.invariant

pub loop-one-preserved : goal.loop-one-preserved
loop-one-preserved c =
    let at = ap (λ ps. piece_at ps c.args.id) (sym c.items.ensures) ∙ sym c.piece_at.ensures ∙ ap option_copied c.in_default.is in
    sym (among-none c.args.opt.now c.loop-one.one-index c.one-item.result c.args.id c.loop-one-test.true c.one-item.is at) ∙ c.loop-one.invariant
