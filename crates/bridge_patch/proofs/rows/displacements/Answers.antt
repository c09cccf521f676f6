use Rattle.std.proofs.Common.{ℕ, ◌+◌, ◌<◌, List, length, drop, get_or, subst, arith, rules}
use Rattle.bridge_patch.proofs.Displaced.{Displaces, displaces_more, first_at, front_at}
use Rattle.bridge_patch.proofs.rows.displacements.Goals as goal

abbrev none : ℕ × ℕ
none = (0, 0)

pub index_mut-requires : goal.index_mut-requires
index_mut-requires c =
    let lt : c.loop-i.i < length c.args.jumps.now = omega arith in
    let h = subst (λ (l : List (ℕ × ℕ)). Displaces c.args.jumps.now c.args.count l c.loop-i.ats.items) (front_at c.args.jumps.now c.loop-i.i none lt) c.loop-i.invariant in
    omega (arith, first_at c.args.count (get_or c.args.jumps.now c.loop-i.i none) (drop (c.loop-i.i + 1) c.args.jumps.now) h.below, h.long)

pub loop-i-preserved : goal.loop-i-preserved
loop-i-preserved c =
    let lt : c.loop-i.i < length c.args.jumps.now = omega arith in
    let j = get_or c.args.jumps.now c.loop-i.i none in
    let h = subst (λ (l : List (ℕ × ℕ)). Displaces c.args.jumps.now c.args.count l c.loop-i.ats.items) (front_at c.args.jumps.now c.loop-i.i none lt) c.loop-i.invariant in
    displaces_more c.args.jumps.now c.args.count j (drop (c.loop-i.i + 1) c.args.jumps.now) c.loop-i.ats.items _ h (search rules)
