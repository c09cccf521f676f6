use Rattle.std.proofs.Common.{◌≡◌}
use Rattle.std.specs.Prelude.{vec_capacity}
use Rattle.arena_objects.proofs.Addresses.{Finding}
use Rattle.arena_objects.proofs.walked.find_all.Given as goal

abbrev pub invariant-loop : goal.invariant-loop
invariant-loop l = Finding l.table l.arena l.counter l.at l.addresses.items × (vec_capacity l.addresses ≡ vec_capacity l.initial.addresses)
