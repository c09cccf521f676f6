use Rattle.std.proofs.Common.{◌∙◌, w64, FitsSigned, rules, sym}
use Rattle.std.proofs.lemmas.Int.{to_z-of_z}
use Rattle.run_session.proofs.Straying.{word_none, word_some}
use Rattle.run_session.proofs.exit.Exit.box_word.Goals as goal

pub returns-in-None : goal.returns-in-None
returns-in-None c = word_none c.args.self.now.frame.now c.args.self.now.places.now c.args.number (sym c.entry_of.ensures ∙ c.in-None.is)

pub returns-in-Some : goal.returns-in-Some
returns-in-Some c =
    let self = c.args.self.now in
    let fits : FitsSigned w64 c.word_at.result = search rules in
    to_z-of_z w64 c.word_at.result fits ∙ word_some self.frame.now self.places.now c.args.number c.in-Some.k _ c.word_at.result (sym c.entry_of.ensures ∙ c.in-Some.is) c.word_at.ensures
