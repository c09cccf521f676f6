use Rattle.std.proofs.Common.{◌≡◌, ℕ, ◌+◌, ◌<◌, ◌^◌, ◌++◌, ◌∙◌, List, length, subst, ap, sym, arith}
use Rattle.std.specs.List.{All}
use Rattle.trace_ops.specs.declared.piece.OptOp.{OptOp}
use Rattle.code_layout.specs.Emitting.{KeysBelow, total_size, noted, listed}
use Rattle.bridge_patch.specs.Pieces.{FirstsBelow, place_among, rows_from}
use Rattle.std.specs.Prelude.{slice_index_or}
use Rattle.guard_exit.specs.declared.row.ExitRow.{ExitRow}
use Rattle.asm_select.specs.Given.{where_in}
use Rattle.bridge_patch.specs.Planning.{start_listed, targets_from}
use Rattle.bridge_patch.proofs.Plans.{ops_few, instrs_few}
use Rattle.bridge_patch.proofs.Displaced.{noted_below}
use Rattle.bridge_patch.proofs.Targets.{starts_near, targets_near, targets_long, rows_same}
use Rattle.bridge_patch.proofs.laying.add_piece.Goals as goal

pub exits_in-exits-requires : goal.exits_in-exits-requires
exits_in-exits-requires c =
    let n : length c.items-ops.result.now ≡ length c.args.piece.now.ops = ap length c.items-ops.ensures in
    omega (arith, n, ops_few c.args.piece.now.ops, c.requires.ready.small)

pub lay_out-requires-clause-keys : goal.lay_out-requires-clause-keys
lay_out-requires-clause-keys c =
    let s = start_listed c.args.starts.now in
    let to : length c.deref.result.now ≡ length c.args.piece.now.ops =
    ap length c.deref.ensures.value ∙ ap length (c.in_ok-to.ensures {u = tt}) ∙ targets_long s c.args.plan.now.stubs c.items-ops.result.now ∙ ap length c.items-ops.ensures in
    subst (λ (k : ℕ). KeysBelow k c.args.plan.now.selected.jumps) (sym to) c.requires.ready.keys

pub lay_out-requires-clause-near : goal.lay_out-requires-clause-near
lay_out-requires-clause-near c =
    let s = start_listed c.args.starts.now in
    let ops = c.args.piece.now.ops in
    let e : c.deref.result.now ≡ targets_from s c.args.plan.now.stubs ops = c.deref.ensures.value ∙ c.in_ok-to.ensures {u = tt} ∙ ap (targets_from s c.args.plan.now.stubs) c.items-ops.ensures in
    subst (All (λ (place : ℕ). place < 2 ^ 31)) (sym e) (targets_near s c.args.plan.now.stubs ops (λ q. starts_near c.args.starts.now q c.requires.starts) (omega (arith, c.requires.ready.short, c.requires.ready.stubs, c.requires.ready.start, c.requires.ready.front.short, c.requires.room)))

pub lay_out-requires-clause-short : goal.lay_out-requires-clause-short
lay_out-requires-clause-short c =
    let instrs = c.args.plan.now.selected.instrs in (
      c.requires.ready.front.few,
      omega (arith, instrs_few c.spellings_are_short.ensures.least instrs, c.requires.ready.short, c.requires.ready.small),
    )

pub displacements-requires : goal.displacements-requires
displacements-requires c =
    let plan = c.args.plan.now in
    let p = c.args.draft.now.from + length c.args.draft.now.bytes.items + total_size plan.front in
    let e : c.deref-2.result.now ≡ noted p 0 plan.selected.instrs plan.selected.jumps = c.deref-2.ensures.value ∙ c.in_ok-lay_out.ensures.jumps in
    let n : length c.args.piece.now.ops ≡ length c.items-ops.result.now = ap length (sym c.items-ops.ensures) in
    subst (FirstsBelow (length c.items-ops.result.now)) (sym e) (subst (λ (k : ℕ). FirstsBelow k (noted p 0 plan.selected.instrs plan.selected.jumps)) n (noted_below (length c.args.piece.now.ops) p 0 plan.selected.instrs plan.selected.jumps c.requires.ready.keys))

pub returns-clause-rows : goal.returns-clause-rows
returns-clause-rows c =
    let plan = c.args.plan.now in
    let ops = c.args.piece.now.ops in
    let at = where_in plan.places.at in
    let p = c.args.draft.now.from + length c.args.draft.now.bytes.items + total_size plan.front in
    let start : p ≡ plan.start = omega (arith, c.requires.place, c.requires.ready.start) in
    let ns = noted plan.start 0 plan.selected.instrs plan.selected.jumps in
    let e : c.deref-2.result.now ≡ ns = c.deref-2.ensures.value ∙ c.in_ok-lay_out.ensures.jumps ∙ ap (λ (q : ℕ). noted q 0 plan.selected.instrs plan.selected.jumps) start in
    let n : length c.items-ops.result.now ≡ length ops = ap length c.items-ops.ensures in
    let f : ℕ → ℕ = listed c.deref-3.result.now in
    let g : ℕ → ℕ = λ (k : ℕ). place_among k 0 ns in
    let same : (j : ℕ) → j < length ops → f j ≡ g j =
    λ (j : ℕ) (lt : j < length ops).
    ap (λ (l : List ℕ). slice_index_or l j 0) c.deref-3.ensures.value ∙ c.in_ok-ats.ensures {u = tt} j (omega (arith, lt, n)) ∙ ap (place_among j 0) e in
    c.in_ok-add_rows.ensures {u = tt}
    ∙ ap (λ (l : List OptOp). c.args.rows.now.items ++ rows_from at plan.id f plan.exit 0 l) c.items-ops.ensures
    ∙ ap (λ (l : List ExitRow). c.args.rows.now.items ++ l) (rows_same at plan.id f g plan.exit 0 (length ops) ops same (omega arith))
