use Rattle.std.proofs.Common.{◌≡◌, ◌++◌, drop, map}
use Rattle.session_text.specs.declared.session.Line.TheVariants as line
use Rattle.session_text.proofs.attaching.attachments.Given as goal

abbrev pub invariant-loop-bridge : goal.invariant-loop-bridge
invariant-loop-bridge l = l.lines.items ++ map line.Attach (drop l.bridge-index l.bridges) ≡ map line.Attach l.bridges
