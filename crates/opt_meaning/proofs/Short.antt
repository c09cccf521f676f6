-- How many operations the legs of pieces make.
use Rattle.std.proofs.Common.{◌≡◌, ℕ, zero, suc, ◌+◌, ◌<◌, ◌≤◌, Option, Some, None, List, [], ◌∷◌, length, slice_get, refl, sym, subst, arith, ◌⊎◌, inl, inr}
use Rattle.std.specs.Prelude.{IsTrue}
use Rattle.trace_ops.specs.declared.trace.TraceSet.{TraceSet}
use Rattle.trace_ops.specs.declared.table.Table.{Table}
use Rattle.trace_ops.specs.declared.piece.PieceId.{PieceId}
use Rattle.trace_ops.specs.declared.piece.OptOp.{OptOp}
use Rattle.trace_ops.specs.declared.piece.OptOp.TheVariants as opt
use Rattle.trace_ops.specs.declared.piece.Piece.{Piece}
use Rattle.trace_ops.specs.Pieces.{is_end, finished}
use Rattle.trace_meaning.specs.declared.value.Value.{Value}
use Rattle.trace_meaning.specs.World.{World}
use Rattle.trace_meaning.specs.Cuts.{Cuts}
use Rattle.trace_meaning.specs.Legs.{Leave, Fails, Jumps, Finishes}
use Rattle.opt_meaning.specs.Step.{Opt, opt_values, resume_args, opt_leave, opt_step}
use Rattle.opt_meaning.specs.Pieces.{ops_at, piece_at, pieces}
use Rattle.opt_meaning.specs.Pieces.{ops_of as piece_ops}
use Rattle.opt_meaning.specs.Meeting.{EndsOnce}
use Rattle.trace_meaning.specs.RunLaws.{Leaves, EndsByLeaving, MakesLeg, IsShort, RunLaws}

leaves_by : (leave : List Value → World → Leave) (s : Opt) (vs : Option (List Value)) → Leaves (opt_leave leave s vs)
leaves_by leave s None = tt
leaves_by leave s (Some vs) = tt

end_leaves : (t : Table) (op : OptOp) → IsTrue (is_end op) → (s : Opt) → Leaves (opt_step t op s)
end_leaves t (opt.Plain operation to args d) h s = absurd (cc)
end_leaves t (opt.Guard operation args n snap) h s = absurd (cc)
end_leaves t (opt.Exit n snap) h s = leaves_by (Fails n) s (opt_values s (resume_args snap))
end_leaves t (opt.Jump to args) h s = leaves_by Jumps s (opt_values s args)
end_leaves t (opt.Finish value) h s = leaves_by Finishes s (opt_values s (finished value))

module _ (set : TraceSet) (ps : List Piece) (cuts : Cuts) (laws : RunLaws (pieces set ps cuts)) where
  last_leaves : (ops : List OptOp) → 0 < length ops → ((k : ℕ) (op : OptOp) → slice_get ops k ≡ Some op → k + 1 ≡ length ops → IsTrue (is_end op)) → EndsByLeaving (pieces set ps cuts) ops
  last_leaves [] h last = absurd (omega arith)
  last_leaves (x ∷ []) h last = λ s. end_leaves set.table x (last 0 x refl (omega arith)) s
  last_leaves (x ∷ y ∷ ys) h last = last_leaves (y ∷ ys) (omega arith) (λ k op at end. last (suc k) op at (omega arith))

  at_most : (q : PieceId) (vs : List Value) (w : World) (m n : ℕ) → m ≤ n → MakesLeg (pieces set ps cuts) q vs w m → MakesLeg (pieces set ps cuts) q vs w n
  at_most q vs w m n le h = record { count = h.count; some = h.some; few = let f : h.count ≤ m = h.few in omega arith; makes = h.makes; inside = h.inside }

  piece_short : (s : ℕ) → 1 ≤ s → (q : PieceId) (vs : List Value) (w : World) (p : Option Piece) → piece_at ps q ≡ p → ((r : Piece) → p ≡ Some r → EndsOnce r.ops × (length r.ops ≤ s)) → MakesLeg (pieces set ps cuts) q vs w s
  piece_short s some q vs w None is each =
      let none : ops_at ps q ≡ [] = λ i. piece_ops (is i) in
      let short : length (ops_at ps q) + 1 ≤ s = subst (λ (ops : List OptOp). length ops + 1 ≤ s) (sym none) (omega arith) in
      at_most q vs w (length (ops_at ps q) + 1) s short (laws.leg_made q vs w)
  piece_short s some q vs w (Some r) is each =
      let one = each r refl in
      let same : ops_at ps q ≡ r.ops = λ i. piece_ops (is i) in
      let ends : EndsByLeaving (pieces set ps cuts) (ops_at ps q) = subst (λ (ops : List OptOp). EndsByLeaving (pieces set ps cuts) ops) (sym same) (last_leaves r.ops one.0.some (λ k op at end. (one.0.last k op at).1 end)) in
      let short : length (ops_at ps q) ≤ s = subst (λ (ops : List OptOp). length ops ≤ s) (sym same) one.1 in
      at_most q vs w (length (ops_at ps q)) s short (laws.leg_made_within q vs w ends)

  pub pieces-short : (s : ℕ) → 1 ≤ s → ((q : PieceId) (p : Piece) → piece_at ps q ≡ Some p → EndsOnce p.ops × (length p.ops ≤ s)) → IsShort (pieces set ps cuts) s
  pieces-short s some each q vs w = piece_short s some q vs w (piece_at ps q) refl (each q)
