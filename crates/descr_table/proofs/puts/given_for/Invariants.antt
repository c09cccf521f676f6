use Rattle.std.proofs.Common.{◌≡◌, drop}
use Rattle.descr_table.specs.Meaning.{given_for}
use Rattle.descr_table.proofs.puts.given_for.Given as goal

abbrev pub invariant-loop-part : goal.invariant-loop-part
invariant-loop-part l = given_for l.name (drop l.part-index l.parts) ≡ given_for l.name l.parts
