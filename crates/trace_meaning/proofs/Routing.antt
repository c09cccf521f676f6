-- What is noted of jumps and of cuts is what the definitions say.
use Rattle.std.proofs.Common.{◌≡◌, ℕ, ◌≤◌, inl, inr, Bool, true, false, cond, Option, Some, None, List, [], ◌∷◌, length, slice_get, filter, refl, ap, sym, ◌∙◌, arith}
use Rattle.std.specs.Prelude.{◌&&◌, nat_le, if◌then◌else◌}
use Rattle.std.specs.Option.{unwrap_or, option_and_then}
use Rattle.std.proofs.lemmas.Bool.{cases_lt}
use Rattle.std.proofs.lemmas.Option.{slice_get_past}
use Rattle.trace_ops.specs.declared.trace.Trace.{Trace}
use Rattle.trace_ops.specs.declared.trace.TraceSet.{TraceSet}
use Rattle.trace_ops.specs.declared.trace.Op.{Op}
use Rattle.trace_ops.specs.Rules.{target_of}
use Rattle.trace_meaning.specs.declared.routes.Routes.{Routes}
use Rattle.trace_meaning.specs.Cuts.{Cuts, is_bridge_of, seen_bridge}
use Rattle.trace_meaning.specs.Recorded.{ops_of, last_of, jump_target}
use Rattle.trace_meaning.specs.Routes.{leaves, cuts_at, first_due, AreTargets, AreRoutes}

no_target : (set : TraceSet) (p : ℕ) (x : Option Trace) → slice_get set.traces p ≡ x → x ≡ None → unwrap_or (option_and_then (λ (op : Op). target_of set p op.descr) (last_of (ops_of x))) p ≡ p
no_target set p None e h = refl
no_target set p (Some t) e h = absurd (cc)

-- the targets of all traces
pub targets-found : (set : TraceSet) (ts : List ℕ) (p : ℕ) → AreTargets set (length set.traces) ts → unwrap_or (slice_get ts p) p ≡ jump_target set p
targets-found set ts p h = elim (cases_lt p (length set.traces)) [
  | inl inside ↦ ap (λ (x : Option ℕ). unwrap_or x p) (h.1 p inside)
  | inr past ↦ (let count : length ts ≡ length set.traces = h.0 in let gone : length ts ≤ p = omega arith in ap (λ (x : Option ℕ). unwrap_or x p) (slice_get_past ts p gone) ∙ sym (no_target set p (slice_get set.traces p) refl (slice_get_past set.traces p past)))
]

-- the bridge that a failure sees, among the cuts of its guard
module _ (traces : List Trace) (p n k : ℕ) where
  due_first : (mine late : Bool) (cut : ℕ × ℕ) (cuts : Cuts) (rest : Option ℕ) → nat_le cut.1 k ≡ late → first_due cuts k ≡ rest → first_due (cond mine (cut ∷ cuts) cuts) k ≡ (if mine && late then Some cut.0 else rest)
  due_first true true cut cuts rest e h = ap (λ (t : Bool). if t then Some cut.0 else first_due cuts k) e
  due_first true false cut cuts rest e h = ap (λ (t : Bool). if t then Some cut.0 else first_due cuts k) e ∙ h
  due_first false late cut cuts rest e h = h

  due-seen : (cuts : Cuts) → first_due (filter (leaves traces (record { trace = p; guard = n })) cuts) k ≡ seen_bridge traces cuts p n k
  due-seen [] = refl
  due-seen (cut ∷ cuts) = due_first (is_bridge_of traces p n cut.0) (nat_le cut.1 k) cut (filter (leaves traces (record { trace = p; guard = n })) cuts) (seen_bridge traces cuts p n k) refl (due-seen cuts)

-- what is noted of a guard gives the bridge that a failure sees
pub bridge-seen : (set : TraceSet) (r : Routes) (p n k : ℕ) → AreRoutes set r → first_due (cuts_at r.bridges.entries (record { trace = p; guard = n })) k ≡ seen_bridge set.traces r.cuts.items p n k
bridge-seen set r p n k h = ap (λ (l : Cuts). first_due l k) (h.bridges (record { trace = p; guard = n })) ∙ due-seen set.traces p n k r.cuts.items
