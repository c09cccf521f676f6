-- Where the jumps of a planned piece lead.
use Rattle.std.proofs.Common.{◌≡◌, ℕ, zero, suc, ◌+◌, ◌*◌, ◌<◌, ◌≤◌, ◌^◌, Bool, true, false, cond, List, [], ◌∷◌, ◌++◌, length, get_or, refl, ap, ◌∙◌, arith}
use Rattle.std.specs.List.{All}
use Rattle.std.proofs.lemmas.List.Elements.{All-from_get_or}
use Rattle.trace_ops.specs.declared.piece.PieceId.{PieceId}
use Rattle.trace_ops.specs.declared.piece.OptOp.{OptOp}
use Rattle.trace_ops.specs.declared.piece.OptOp.TheVariants as opt
use Rattle.opt_meaning.specs.Pieces.{same_piece}
use Rattle.asm_select.specs.Chosen.{Where}
use Rattle.asm_select.specs.Laid.{has_stub}
use Rattle.guard_exit.specs.declared.row.ExitRow.{ExitRow}
use Rattle.bridge_patch.specs.Pieces.{exits_in, rows_of_op, rows_from}
use Rattle.bridge_patch.specs.Planning.{start_listed, target_of, targets_from, StartsBelow}

if_near : (b : Bool) (x y : ℕ) → x < 2 ^ 31 → y < 2 ^ 31 → cond b x y < 2 ^ 31
if_near true x y hx hy = hx
if_near false x y hx hy = hy

pub starts_near : (xs : List (PieceId × ℕ)) (q : PieceId) → StartsBelow xs → start_listed xs q < 2 ^ 31
starts_near [] q h = omega arith
starts_near (x ∷ xs) q h = if_near (same_piece q x.0) x.1 (start_listed xs q) h.0 (starts_near xs q h.1)

target_near : (s : PieceId → ℕ) (stub : ℕ) (op : OptOp) → ((q : PieceId) → s q < 2 ^ 31) → stub < 2 ^ 31 → target_of s stub op < 2 ^ 31
target_near s stub (opt.Plain operation r args d) hs lt = omega arith
target_near s stub (opt.Guard operation args n snap) hs lt = lt
target_near s stub (opt.Exit n snap) hs lt = lt
target_near s stub (opt.Jump to args) hs lt = hs to
target_near s stub (opt.Finish value) hs lt = lt

targets_at_near : (s : PieceId → ℕ) (stub : ℕ) (ops : List OptOp) (i : ℕ) → ((q : PieceId) → s q < 2 ^ 31) → stub + 16 * exits_in ops < 2 ^ 31 → get_or (targets_from s stub ops) i 0 < 2 ^ 31
targets_at_near s stub [] i hs lt = omega arith
targets_at_near s stub (op ∷ ops) zero hs lt = target_near s stub op hs (omega (arith, lt))
targets_at_near s stub (op ∷ ops) (suc i) hs lt = targets_at_near s (stub + 16 * cond (has_stub op) 1 0) ops i hs (omega (arith, lt))

pub targets_near : (s : PieceId → ℕ) (stub : ℕ) (ops : List OptOp) → ((q : PieceId) → s q < 2 ^ 31) → stub + 16 * exits_in ops < 2 ^ 31 → All (λ place. place < 2 ^ 31) (targets_from s stub ops)
targets_near s stub ops hs lt = All-from_get_or (λ (place : ℕ). place < 2 ^ 31) (targets_from s stub ops) 0 (λ i within. targets_at_near s stub ops i hs lt)

pub targets_long : (s : PieceId → ℕ) (stub : ℕ) (ops : List OptOp) → length (targets_from s stub ops) ≡ length ops
targets_long s stub [] = refl
targets_long s stub (op ∷ ops) = ap suc (targets_long s (stub + 16 * cond (has_stub op) 1 0) ops)

exit_few : (b : Bool) → cond b 1 0 ≤ 1
exit_few true = omega arith
exit_few false = omega arith

pub exits_few : (ops : List OptOp) → exits_in ops ≤ length ops
exits_few [] = omega arith
exits_few (op ∷ ops) = omega (arith, exit_few (has_stub op), exits_few ops)

pub rows_same : (at : Where) (id : PieceId) (f g : ℕ → ℕ) (exit k m : ℕ) (ops : List OptOp) → ((j : ℕ) → j < m → f j ≡ g j) → k + length ops ≤ m → rows_from at id f exit k ops ≡ rows_from at id g exit k ops
rows_same at id f g exit k m [] same le = refl
rows_same at id f g exit k m (op ∷ ops) same le =
    let next = exit + cond (has_stub op) 1 0 in
    ap (λ (place : ℕ). rows_of_op at id exit place op ++ rows_from at id f next (k + 1) ops) (same k (omega (arith, le)))
    ∙ ap (λ (l : List ExitRow). rows_of_op at id exit (g k) op ++ l) (rows_same at id f g next (k + 1) m ops same (omega (arith, le)))
