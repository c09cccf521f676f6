use Rattle.std.proofs.Common.{◌∙◌, sym, ap}
use Rattle.trace_meaning.specs.declared.value.Store.{Store}
use Rattle.piece_tests.specs.Rooms.{has_exited}
use Rattle.piece_tests.proofs.Rooms.{bytes_fit}
use Rattle.piece_tests.proofs.running.is_small.Goals as goal

pub returns-clause-bytes : goal.returns-clause-bytes
returns-clause-bytes c = λ are.
    let run = c.args.run.now in
    bytes_fit run.set run.pieces run.now c.items-objects.result.now
    (ap has_exited (sym c.state.ensures) ∙ sym c.has_rebuilt.ensures ∙ c.if-has_rebuilt.false) (c.items-objects.ensures ∙ ap (λ (s : Store). s.objects) c.store.ensures) c.if-objects-ge1000.false (c.are_short.ensures are)
