use Rattle.std.proofs.Common.{◌∙◌, sym}
use Rattle.resume_rebuild.proofs.Noting.{entry_noted}
use Rattle.resume_rebuild.proofs.places.entry_of.Goals as goal

pub returns-in-Some : goal.returns-in-Some
returns-in-Some c =
    c.entry_at.ensures ∙ entry_noted c.args.places.now c.args.noted.now c.args.number c.in-Some.at c.requires (sym c.noted_at.ensures ∙ c.in-Some.is)
