-- Where an operation leads, from the place of it.
use Rattle.std.proofs.Common.{◌≡◌, ℕ, zero, suc, ◌+◌, Option, Some, None, List, [], ◌∷◌, drop, refl, ap, sym, ◌∙◌, slice_get, add-one}
use Rattle.std.proofs.Math.Seq.{drop-nil}
use Rattle.trace_ops.specs.declared.trace.BoxId.{BoxId}
use Rattle.trace_ops.specs.declared.trace.Op.{Op}
use Rattle.trace_ops.specs.declared.trace.TraceSet.{TraceSet}
use Rattle.trace_meaning.specs.Cuts.{Cuts}
use Rattle.trace_meaning.specs.Legs.{In, Over, Wrong, settle, next}
use Rattle.trace_meaning.specs.Performing.{Done, Gave, Bad, Waited, Misfitted}
use Rattle.trace_meaning.specs.Recorded.{Rec, recorded, recorded_plain, recorded_step}
use Rattle.trace_meaning.specs.Standing.{turned}

module _ (set : TraceSet) (cuts : Cuts) (p : ℕ) (rest : List Op) where
  pub turned_settles : (to : Option BoxId) (s : Rec) (m : Done) → turned p rest (recorded_plain to s m) ≡ settle (recorded set cuts) p rest (recorded_plain to s m)
  turned_settles (Some b) s (Gave (Some x) w) = refl
  turned_settles (Some b) s (Gave None w) = refl
  turned_settles None s (Gave x w) = refl
  turned_settles to s Bad = refl
  turned_settles to s (Waited w) = refl
  turned_settles to s (Misfitted w) = refl

drop_at : (ops : List Op) (k : ℕ) (op : Op) → slice_get ops k ≡ Some op → drop k ops ≡ op ∷ drop (suc k) ops
drop_at [] k op h = cc
drop_at (x ∷ xs) zero op h = let same : x ≡ op = cc in ap (λ o. o ∷ xs) same
drop_at (x ∷ xs) (suc k) op h = drop_at xs k op h

drop_past : (ops : List Op) (k : ℕ) → slice_get ops k ≡ None → drop k ops ≡ []
drop_past [] k h = drop-nil k
drop_past (x ∷ xs) zero h = cc
drop_past (x ∷ xs) (suc k) h = drop_past xs k h

module _ (set : TraceSet) (cuts : Cuts) (p : ℕ) (s : Rec) where
  -- past the last operation
  pub next_past : (ops : List Op) (k : ℕ) → slice_get ops k ≡ None → next (recorded set cuts) (In p (drop k ops) s) ≡ Over p (Wrong s.world)
  next_past ops k h = ap (λ l. next (recorded set cuts) (In p l s)) (drop_past ops k h)

  -- at an operation
  pub next_at : (ops : List Op) (k : ℕ) (op : Op) → slice_get ops k ≡ Some op → next (recorded set cuts) (In p (drop k ops) s) ≡ settle (recorded set cuts) p (drop (k + 1) ops) (recorded_step set.table op s)
  next_at ops k op h = ap (λ l. next (recorded set cuts) (In p l s)) (drop_at ops k op h) ∙ ap (λ j. settle (recorded set cuts) p (drop j ops) (recorded_step set.table op s)) (sym (add-one k))
