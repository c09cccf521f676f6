use Rattle.std.proofs.Common.{ℕ, ◌++◌, ◌+◌, ◌-◌, ◌≤◌, length, take, drop, List, ap, sym, ◌∙◌, arith}
use Rattle.std.proofs.Math.Nat.{min-le_right}
use Rattle.std.proofs.Math.Seq.{take-add}
use Rattle.image_text.proofs.reading.read_all.Goals as goal

pub loop-bytes-preserved : goal.loop-bytes-preserved
loop-bytes-preserved g c =
    let code : List ℕ = g.C.Fetch.code c.args.code.now in
    let room : c.loop-bytes.at + 16 ≤ length code =
    omega (arith, c.fetch-n.ensures.count, min-le_right 16 (length code - c.loop-bytes.at), c.if-n-lt16.false, c.loop-bytes.invariant.1) in (
      c.in_ok-extend_from_slice.ensures.items
          ∙ ap (λ (x : List ℕ). c.loop-bytes.bytes.items ++ x) c.fetch-n.ensures.bytes
          ∙ ap (λ (x : List ℕ). x ++ take 16 (drop c.loop-bytes.at code)) c.loop-bytes.invariant.0
          ∙ sym (take-add c.loop-bytes.at 16 code),
      room,
    )
