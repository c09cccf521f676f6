use Rattle.std.proofs.Common.{◌≡◌, ◌+◌, ◌-◌, take, drop, ap, arith}
use Rattle.std.proofs.lemmas.List.{length-take, length-drop}
use Rattle.code_region.proofs.Runs.{added_run}
use Rattle.code_region.proofs.region.Region.append.Goals as goal

pub loop-done-preserved : goal.loop-done-preserved
loop-done-preserved c =
    let xs = c.args.bytes.now in let i = c.loop-done.done in let m = c.min-run.result in
    let count : i + m - i ≡ m = omega arith in record {
      bytes = added_run c.add_run.new.self.bytes c.args.self.now.bytes c.loop-done.self.bytes (take (i + m - i) (drop i xs)) xs i m c.add_run.ensures.bytes c.loop-done.invariant.bytes (ap (λ k. take k (drop i xs)) count);
      spare = omega (arith, c.add_run.ensures.spare, c.loop-done.invariant.spare, length-take (i + m - i) (drop i xs), length-drop i xs, c.min-run.ensures, c.loop-done.invariant.within);
      within = omega (arith, c.min-run.ensures, c.loop-done.invariant.within);
    }
