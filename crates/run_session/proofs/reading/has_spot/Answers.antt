use Rattle.std.proofs.Common.{rules, ◌≡◌, true, false, not, to_z, of_z, w64, None, sym, ap, ◌∙◌}
use Rattle.std.specs.Prelude.{is_some}
use Rattle.std.proofs.lemmas.Int.{to_z-of_z}
use Rattle.arena_objects.specs.Walked.{number_in}
use Rattle.run_session.specs.Read.{begins_by}
use Rattle.run_session.proofs.Walks.{no_spot, spot_by}
use Rattle.run_session.proofs.reading.has_spot.Goals as goal

pub returns-in-None : goal.returns-in-None
returns-in-None c =
    let same : to_z w64 (of_z w64 c.args.word) ≡ c.args.word = to_z-of_z w64 c.args.word (search rules) in
    sym (no_spot c.walk_finds.ensures.taken c.args.table.now c.args.arena.now c.args.spot c.args.word (ap (begins_by c.args.table.now c.args.arena.now) (sym same) ∙ sym c.begins.ensures.value ∙ c.in-None.is))

pub returns-in-Some : goal.returns-in-Some
returns-in-Some c =
    let same : to_z w64 (of_z w64 c.args.word) ≡ c.args.word = to_z-of_z w64 c.args.word (search rules) in
    let there : c.number_of.result ≡ None → ⊥ = λ e. (let no : false ≡ true = sym (ap is_some e) ∙ c.is_none.ensures ∙ ap not c.if-is_none.false in absurd (cc)) in
    c.has_spot_in.ensures
    ∙ spot_by c.walk_finds.ensures.taken c.walk_finds.ensures.addresses c.args.table.now c.args.arena.now c.args.rebuilt.now.found c.args.spot c.args.word c.in-Some.found c.number_of.result
    (c.number_of.ensures ∙ ap (λ w. number_in w c.args.rebuilt.now.found) same) c.requires.walked there (ap (begins_by c.args.table.now c.args.arena.now) (sym same) ∙ sym c.begins.ensures.value ∙ c.in-Some.is)
