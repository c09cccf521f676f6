use Rattle.std.proofs.Common.{List, sym, subst}
use Rattle.std.specs.List.{All}
use Rattle.session_text.specs.declared.session.Line.{Line}
use Rattle.tj_app.specs.Opting.{AttachesBridge, IsTextOf}
use Rattle.tj_app.proofs.Opted.{bridges_attached, opted}
use Rattle.tj_app.proofs.opting.opt_text.Goals as goal

pub text_of-requires : goal.text_of-requires
text_of-requires c =
    let told = c.in_ok-told.told in
    subst (λ (ls : List Line). All (AttachesBridge told.checked) ls) (sym c.items.ensures) (bridges_attached told.checked 0 told.session.lines c.in_ok-told.ensures.1.lines)

pub returns-in-Ok : goal.returns-in-Ok
returns-in-Ok c =
    let told = c.in_ok-told.told in
    opted c.text_laws.ensures.words c.made_pieces_promise.ensures c.pieces_are_made.ensures c.pieces_are_sound.ensures c.args.bytes.now c.in-Ok.text.items told.checked told.session c.in_ok-told.ensures.0
    (subst (λ (ls : List Line). IsTextOf told.checked ls c.in-Ok.text.items) c.items.ensures c.in-Ok.ensures)
