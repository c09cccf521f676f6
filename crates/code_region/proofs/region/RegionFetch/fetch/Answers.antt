use Rattle.std.proofs.Common.{ℕ, ◌+◌, ◌<◌, ◌++◌, List, length, ap, ◌∙◌, arith}
use Rattle.code_region.proofs.Runs.{two_runs}
use Rattle.code_region.proofs.region.RegionFetch.fetch.Goals as goal

pub returns-clause-bytes : goal.returns-clause-bytes
returns-clause-bytes c =
    let bytes = c.args.self.now.bytes in let first = c.run-first.result.now in let second = c.run-second.result.now in
    let p = c.spot_of-place.result in
    let more : c.args.at + length first < length bytes = omega (arith, c.if-len-at-2.false, c.len-len.ensures.len) in
    c.put_run.ensures ∙ ap (λ (y : List ℕ). y ++ second) c.put_first.ensures
    ∙ two_runs bytes first second c.args.at p.chunk p.at c.spot_of-place.ensures.at c.spot_of-place.ensures.within c.if-n-eq16.false more c.run-first.ensures c.run-second.ensures
