use Rattle.linear_scan.specs.Choosing.{ArePassed}
use Rattle.linear_scan.proofs.frame_words.first_fresh.Given as goal

abbrev pub invariant-loop-word : goal.invariant-loop-word
invariant-loop-word l = ArePassed l.until l.word
