use Rattle.std.proofs.Common.{[], w64, FitsSigned, rules}
use Rattle.std.proofs.lemmas.Int.{to_z-of_z}
use Rattle.resume_rebuild.specs.Rebuilding.{sources}
use Rattle.run_session.proofs.Straying.{arg_by_reference}
use Rattle.run_session.proofs.exit.Exit.arg_value.Goals as goal

pub returns-in_default : goal.returns-in_default
returns-in_default c =
    let self = c.args.self.now in
    let w = c.arg_word.result in
    let fits : FitsSigned w64 w = search rules in
    arg_by_reference self.rebuilt.now.found (sources self.table.now [] self.places.now self.frame.now self.arena.now) c.args.arg c.reference.result w _ c.in_default.not-Of c.in_default.not-Const (to_z-of_z w64 w fits) (c.arg_word.ensures []) c.reference.ensures
