-- Traces of well-formed sets leave at their last operation.
use Rattle.std.proofs.Common.{◌≡◌, ℕ, zero, suc, ◌+◌, ◌<◌, ◌≤◌, Option, Some, None, List, [], ◌∷◌, length, refl, arith, slice_get}
use Rattle.std.specs.Prelude.{IsTrue}
use Rattle.trace_ops.specs.declared.facts.Part.{Part}
use Rattle.trace_ops.specs.declared.facts.Part.TheVariants as part
use Rattle.trace_ops.specs.declared.trace.Op.{Op}
use Rattle.trace_ops.specs.declared.trace.Trace.{Trace}
use Rattle.trace_ops.specs.declared.trace.TraceSet.{TraceSet}
use Rattle.trace_ops.specs.declared.table.Table.{Table}
use Rattle.trace_ops.specs.Facts.{part_of}
use Rattle.trace_ops.specs.Rules.{ends}
use Rattle.trace_ops.specs.WellFormed.{IsWellFormed}
use Rattle.trace_meaning.specs.declared.value.Value.{Value}
use Rattle.trace_meaning.specs.Cuts.{Cuts}
use Rattle.trace_meaning.specs.Recorded.{Rec, ops_of, ops_at, recorded, recorded_with, recorded_part, values_of}
use Rattle.trace_meaning.specs.RunLaws.{Leaves, EndsByLeaving}

part_leaves : (p : Part) (t : Table) (op : Op) (s : Rec) (vs : List Value) → IsTrue (ends p) → Leaves (recorded_part p t op s vs)
part_leaves part.Jump t op s vs h = tt
part_leaves part.Finish t op s vs h = tt
part_leaves part.Guard t op s vs h = absurd (cc)
part_leaves part.OverflowGuard t op s vs h = absurd (cc)
part_leaves part.Plain t op s vs h = absurd (cc)
part_leaves part.Overflowing t op s vs h = absurd (cc)

end_leaves : (t : Table) (op : Op) (s : Rec) (vs : Option (List Value)) → IsTrue (ends (part_of op.code)) → Leaves (recorded_with t op s vs)
end_leaves t op s None h = tt
end_leaves t op s (Some vs) h = part_leaves (part_of op.code) t op s vs h

none_past : (traces : List Trace) (k : ℕ) → slice_get traces k ≡ None → length traces ≤ k
none_past [] k h = omega arith
none_past (x ∷ xs) zero h = absurd (cc)
none_past (x ∷ xs) (suc k) h = let rest : length xs ≤ k = none_past xs k h in omega arith

module _ (set : TraceSet) (cuts : Cuts) where
  last_leaves : (ops : List Op) → 0 < length ops → ((k : ℕ) (op : Op) → slice_get ops k ≡ Some op → k + 1 ≡ length ops → IsTrue (ends (part_of op.code))) → EndsByLeaving (recorded set cuts) ops
  last_leaves [] h last = absurd (omega arith)
  last_leaves (x ∷ []) h last = λ s. end_leaves set.table x s (values_of s x.args) (last 0 x refl (omega arith))
  last_leaves (x ∷ y ∷ ys) h last = last_leaves (y ∷ ys) (omega arith) (λ k op at end. last (suc k) op at (omega arith))

  trace_leaves : (p : ℕ) (x : Option Trace) → slice_get set.traces p ≡ x → IsWellFormed set → p < length set.traces → EndsByLeaving (recorded set cuts) (ops_of x)
  trace_leaves p None is well there = absurd (let past : length set.traces ≤ p = none_past set.traces p is in omega arith)
  trace_leaves p (Some t) is well there = last_leaves t.ops (well.has_operations p t is) (λ k op at end. (well.ends_at_end p t is k op at).1 end)

  pub recorded-ends : (p : ℕ) → IsWellFormed set → p < length set.traces → EndsByLeaving (recorded set cuts) (ops_at set p)
  recorded-ends p well there = trace_leaves p (slice_get set.traces p) refl well there
