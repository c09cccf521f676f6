use Rattle.std.proofs.Common.{◌≡◌, ◌++◌, ◌-◌, length}
use Rattle.session_text.specs.Attaching.{first_bridge, in_turn, turns}
use Rattle.session_text.proofs.attaching.bridges_in_turn.Given as goal

abbrev pub invariant-loop : goal.invariant-loop
invariant-loop l =
    (length l.rows.items ≡ length l.initial.rows.items)
    × (l.bridges.items ++ turns (length l.initial.rows.items - l.counter) l.rows.items (first_bridge l.rows.items) ≡ in_turn (length l.initial.rows.items) l.initial.rows.items)
