use Rattle.tj_app.specs.declared.words.Command.TheVariants as command
use Rattle.tj_app.proofs.OnlyBuilt.{nothing_attached, attach_none}
use Rattle.tj_app.proofs.Ran.{ran}
use Rattle.tj_app.proofs.running.run_text.Goals as goal

pub text_of-requires-clause-none : goal.text_of-requires-clause-none
text_of-requires-clause-none c =
    let told = c.in_ok-checked.field-0 in
    attach_none told.session.lines (nothing_attached (command.Run c.args.arena c.args.registers) told.session c.in_ok-checked.ensures.0.1)

pub returns-in-Ok : goal.returns-in-Ok
returns-in-Ok c =
    let told = c.in_ok-checked.field-0 in
    ran c.text_laws.ensures.words c.made_pieces_promise.ensures c.pieces_are_made.ensures c.pieces_are_sound.ensures c.compiled_images_show.ensures c.lines_are_a_run.ensures c.args.arena c.args.registers c.args.bytes.now c.in-Ok.text.items
    told.checked told.session c.requires.arena c.in_ok-checked.ensures.0 c.in-Ok.ensures
