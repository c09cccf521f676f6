-- What there is where a guard fails is what its bridge asks.
use Rattle.std.proofs.Common.{◌≡◌, ℕ, zero, suc, ◌+◌, ◌-◌, ◌<◌, ◌≤◌, Bool, true, false, ◌&&◌, ◌==◌, List, [], Option, Some, None, length, map, slice_get, refl, sym, ap, ◌∙◌, subst, arith}
use Rattle.std.specs.Option.{IsSomeAnd, option_and_then}
use Rattle.std.proofs.lemmas.Bool.{eqb-true}
use Rattle.std.proofs.lemmas.Option.{slice_get_within}
use Rattle.lists.proofs.Options.{some_same, none_some}
use Rattle.trace_ops.specs.declared.trace.BoxId.{BoxId}
use Rattle.trace_ops.specs.declared.trace.Op.{Op}
use Rattle.trace_ops.specs.declared.trace.Origin.{Origin}
use Rattle.trace_ops.specs.declared.trace.Origin.TheVariants as origin
use Rattle.trace_ops.specs.declared.trace.Trace.{Trace}
use Rattle.trace_ops.specs.declared.trace.TraceSet.{TraceSet}
use Rattle.trace_ops.specs.declared.piece.Entry.{Entry}
use Rattle.trace_ops.specs.Kinds.{kind_of_arg, kind_of_val}
use Rattle.trace_ops.specs.Rules.{guard_op, guard_named, Receives}
use Rattle.trace_ops.specs.Weights.{place_of, parent_of, parent_named, parent_at, own_weight, trace_weight}
use Rattle.trace_ops.specs.WellFormed.{IsWellFormed}
use Rattle.trace_meaning.specs.Cuts.{is_at, leaves_from, trace_leaves_from, is_bridge_of}
use Rattle.trace_meaning.specs.Recorded.{ops_at, ops_of, inputs_of, slots_of}
use Rattle.trace_meaning.specs.Observed.{guard_in}
use Rattle.opt_pass.specs.Recording.{HasSlotsOf}
use Rattle.loop_peel.specs.Serving.{IsBounded, weight_above, CanEnter, IsLeft, EntriesServe}
use Rattle.loop_peel.proofs.Weighing.{parents_weigh}

false_true : false ≡ true → ⊥
false_true e = cc

-- a bridge with its parent and guard
pub record Bridging (set : TraceSet) (p n b : ℕ) : Type 0 where
  pub trace : Trace
  pub there : slice_get set.traces b ≡ Some trace
  pub name : List ℕ
  pub comes : trace.origin ≡ origin.Bridge name n
  pub parent : place_of name set.traces ≡ Some p

and_parts : (a b : Bool) → (a && b) ≡ true → (a ≡ true) × (b ≡ true)
and_parts true b e = (refl, e)
and_parts false b e = absurd (false_true e)

at_place : (p : ℕ) (o : Option ℕ) → is_at p o ≡ true → o ≡ Some p
at_place p None e = absurd (false_true e)
at_place p (Some q) e = ap Some (eqb-true q p e)

leaves_so : (set : TraceSet) (p n b : ℕ) (t : Trace) (o : Origin) → slice_get set.traces b ≡ Some t → t.origin ≡ o → leaves_from set.traces p n o ≡ true → Bridging set p n b
leaves_so set p n b t origin.Loop there is e = absurd (false_true e)
leaves_so set p n b t (origin.Bridge name guard) there is e =
    let both = and_parts (guard == n) (is_at p (place_of name set.traces)) e in
    let same : guard ≡ n = eqb-true guard n both.0 in
    record { trace = t; there = there; name = name; comes = is ∙ ap (λ g. origin.Bridge name g) same; parent = at_place p (place_of name set.traces) both.1 }

bridge_so : (set : TraceSet) (p n b : ℕ) (o : Option Trace) → slice_get set.traces b ≡ o → trace_leaves_from set.traces p n o ≡ true → Bridging set p n b
bridge_so set p n b None there e = absurd (false_true e)
bridge_so set p n b (Some t) there e = leaves_so set p n b t t.origin there refl e

pub bridging : (set : TraceSet) (p n b : ℕ) → is_bridge_of set.traces p n b ≡ true → Bridging set p n b
bridging set p n b e = bridge_so set p n b (slice_get set.traces b) refl e

-- Kinds

no_guard : (n : ℕ) (op : Op) → guard_in [] n ≡ Some op → ⊥
no_guard n op e = cc

guard_found : (n : ℕ) (op : Op) (o : Option Trace) → guard_in (ops_of o) n ≡ Some op → option_and_then (λ (t : Trace). guard_op t n) o ≡ Some op
guard_found n op None e = absurd (no_guard n op e)
guard_found n op (Some t) e = e

received : (set : TraceSet) (p n b : ℕ) (w : Bridging set p n b) (op : Op) → IsWellFormed set → guard_in (ops_at set p) n ≡ Some op → map kind_of_arg (slots_of op.snapshot) ≡ map (λ (x : BoxId). Some x.kind) (inputs_of (slice_get set.traces b))
received set p n b w op well e =
    let named : guard_named set w.trace.origin ≡ Some op =
    ap (guard_named set) w.comes
    ∙ ap (λ (q : Option ℕ). option_and_then (λ (t : Trace). guard_op t n) (option_and_then (slice_get set.traces) q)) w.parent
    ∙ guard_found n op (slice_get set.traces p) e in
    let gets : Receives w.trace.inputs (Some op) = subst (Receives w.trace.inputs) named (well.inputs_fit b w.trace w.there).0 in
    gets ∙ ap (λ z. map (λ (x : BoxId). Some x.kind) (inputs_of z)) (sym w.there)

kinds_so : (set : TraceSet) (p n b : ℕ) (w : Bridging set p n b) (e : Entry) → IsWellFormed set → (o : Option Op) → guard_in (ops_at set p) n ≡ o → IsSomeAnd o (λ (op : Op). map kind_of_val e.values ≡ map kind_of_arg (slots_of op.snapshot))
    → map kind_of_val e.values ≡ map (λ (x : BoxId). Some x.kind) (inputs_of (slice_get set.traces b))
kinds_so set p n b w e well None is h = absurd h
kinds_so set p n b w e well (Some op) is h = h ∙ received set p n b w op well is

-- Weights

weighs : (set : TraceSet) (p n b : ℕ) (w : Bridging set p n b) → IsWellFormed set → weight_above set b ≡ trace_weight set p
weighs set p n b w well =
    let lt : b < length set.traces = slice_get_within set.traces b w.trace w.there in
    let up : parent_at set b ≡ Some p = ap (parent_of set.traces) w.there ∙ ap (parent_named set.traces) w.comes ∙ w.parent in
    parents_weigh set b p (length set.traces - 1) (omega (arith, lt)) up (well.ordered b w.trace w.there).ends_above

pub entries_serve : EntriesServe
entries_serve set p n b e well is left =
    let w = bridging set p n b is in
    record {
      lawful = left.lawful;
      values = kinds_so set p n b w e well (guard_in (ops_at set p) n) refl left.values;
      bounded = subst (λ k. IsBounded k e) (sym (weighs set p n b w well)) left.bounded;
    }
