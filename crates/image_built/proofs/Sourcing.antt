-- A bridge comes from one guard, and a guard has one bridge.
use Rattle.std.proofs.Common.{◌≡◌, inl, inr, ℕ, ◌<◌, Bool, true, false, cond, List, [], ◌∷◌, ◌++◌, Option, Some, None, refl, sym, ap, ◌∙◌, subst, arith}
use Rattle.std.specs.Prelude.{◌==◌, slice_get, slice_index_or}
use Rattle.std.specs.Str.{bytes_eq}
use Rattle.std.proofs.lemmas.Bool.{eqb-true, and_parts}
use Rattle.std.proofs.lemmas.List.Quantifiers.{position-Some}
use Rattle.std.proofs.lemmas.Slice.Eq.{bytes_eq-Decides}
use Rattle.lists.specs.Has.{Has}
use Rattle.trace_ops.specs.declared.trace.Origin.{Origin}
use Rattle.trace_ops.specs.declared.trace.Origin.TheVariants.{Loop, Bridge}
use Rattle.trace_ops.specs.declared.trace.Trace.{Trace}
use Rattle.trace_ops.specs.declared.trace.TraceSet.{TraceSet}
use Rattle.trace_ops.specs.Rules.{IsFirstFrom}
use Rattle.trace_ops.specs.WellFormed.{IsWellFormed}
use Rattle.trace_ops.specs.Weights.{place_of}
use Rattle.trace_meaning.specs.Cuts.{is_at, leaves_from, trace_leaves_from, is_bridge_of}
use Rattle.bridge_patch.specs.Bridged.{bridge_on}
use Rattle.image_built.proofs.Naming.{some_is}

-- where a bridge comes from
pub record IsFrom (traces : List Trace) (p n b : ℕ) : Type 0 where
  pub t : Trace
  pub here : slice_get traces b ≡ Some t
  pub name : List ℕ
  pub origin : t.origin ≡ Bridge name n
  pub place : place_of name traces ≡ Some p

is_at_place : (p : ℕ) (o : Option ℕ) → is_at p o ≡ true → o ≡ Some p
is_at_place p None e = absurd (cc)
is_at_place p (Some q) e = ap Some (eqb-true q p e)

from_origin : (traces : List Trace) (p n b : ℕ) (t : Trace) (o : Origin) → slice_get traces b ≡ Some t → t.origin ≡ o → leaves_from traces p n o ≡ true → IsFrom traces p n b
from_origin traces p n b t Loop here is e = absurd (cc)
from_origin traces p n b t (Bridge name g) here is e =
    let z = and_parts (g == n) (is_at p (place_of name traces)) e in
    record { t = t; here = here; name = name; origin = is ∙ ap (Bridge name) (eqb-true g n z.0); place = is_at_place p (place_of name traces) z.1 }

from_trace : (traces : List Trace) (p n b : ℕ) (o : Option Trace) → slice_get traces b ≡ o → trace_leaves_from traces p n o ≡ true → IsFrom traces p n b
from_trace traces p n b None here e = absurd (cc)
from_trace traces p n b (Some t) here e = from_origin traces p n b t t.origin here refl e

pub is_from : (traces : List Trace) (p n b : ℕ) → is_bridge_of traces p n b ≡ true → IsFrom traces p n b
is_from traces p n b e = from_trace traces p n b (slice_get traces b) refl e

abbrev name_in : Origin → List ℕ
name_in Loop = []
name_in (Bridge name g) = name

abbrev guard_in : Origin → ℕ
guard_in Loop = 0
guard_in (Bridge name g) = g

pub one_source : (traces : List Trace) (p n q k b : ℕ) → is_bridge_of traces p n b ≡ true → is_bridge_of traces q k b ≡ true → (p ≡ q) × (n ≡ k)
one_source traces p n q k b e f =
    let x = is_from traces p n b e in
    let y = is_from traces q k b f in
    let same : x.t ≡ y.t = some_is (sym x.here ∙ y.here) in
    let origin : Bridge x.name n ≡ Bridge y.name k = sym x.origin ∙ ap (λ (t : Trace). t.origin) same ∙ y.origin in
    let place : Some p ≡ Some q = sym x.place ∙ ap (λ (name : List ℕ). place_of name traces) (ap name_in origin) ∙ y.place in
    (some_is place, ap guard_in origin)

-- the trace at the place of a name has it
named : (traces : List Trace) (name : List ℕ) (p : ℕ) (t : Trace) → place_of name traces ≡ Some p → (slice_index_or traces p t).name ≡ name
named traces name p t e = (bytes_eq-Decides (slice_index_or traces p t).name name).0 (position-Some (λ (x : Trace). bytes_eq x.name name) traces p t e).1

apart : (set : TraceSet) (p n a b : ℕ) → IsWellFormed set → IsFrom set.traces p n a → IsFrom set.traces p n b → a < b → ⊥
apart set p n a b formed x y lt =
    let same : x.name ≡ y.name = sym (named set.traces x.name p x.t x.place) ∙ named set.traces y.name p x.t y.place in
    let first : IsFirstFrom set b (Bridge y.name n) = subst (IsFirstFrom set b) y.origin (formed.inputs_fit b y.t y.here).1 in
    first a x.t lt x.here (x.origin ∙ ap (λ (m : List ℕ). Bridge m n) same)

one_of : (a b : ℕ) → (a < b → ⊥) → (b < a → ⊥) → a ≡ b
one_of a b f g = omega (arith, f, g)

pub one_bridge : (set : TraceSet) (p n a b : ℕ) → IsWellFormed set → is_bridge_of set.traces p n a ≡ true → is_bridge_of set.traces p n b ≡ true → a ≡ b
one_bridge set p n a b formed e f =
    let x = is_from set.traces p n a e in
    let y = is_from set.traces p n b f in
    one_of a b (apart set p n a b formed x y) (apart set p n b a formed y x)

-- ---- the bridge that is attached

-- one of these
pub record IsOn (traces : List Trace) (bs : List ℕ) (p n b : ℕ) : Type 0 where
  pub has : Has bs b
  pub is : is_bridge_of traces p n b ≡ true

on_if : (traces : List Trace) (c : ℕ) (bs : List ℕ) (p n b : ℕ) (t : Bool) → is_bridge_of traces p n c ≡ t → (bridge_on traces bs p n ≡ Some b → IsOn traces bs p n b) → cond t (Some c) (bridge_on traces bs p n) ≡ Some b → IsOn traces (c ∷ bs) p n b
on_if traces c bs p n b true is more e =
    let same : c ≡ b = some_is e in
    record { has = inl same; is = subst (λ (x : ℕ). is_bridge_of traces p n x ≡ true) same is }
on_if traces c bs p n b false is more e = (let z = more e in record { has = inr z.has; is = z.is })

pub is_on : (traces : List Trace) (bs : List ℕ) (p n b : ℕ) → bridge_on traces bs p n ≡ Some b → IsOn traces bs p n b
is_on traces [] p n b e = absurd (cc)
is_on traces (c ∷ bs) p n b e = on_if traces c bs p n b (is_bridge_of traces p n c) refl (is_on traces bs p n b) e

abbrev pub is_some_on : Option ℕ → Bool
is_some_on None = false
is_some_on (Some b) = true

-- with one more bridge
pub on_append : (traces : List Trace) (bs : List ℕ) (c p n : ℕ) (o : Option ℕ) → bridge_on traces bs p n ≡ o → bridge_on traces (bs ++ c ∷ []) p n ≡ (cond (is_some_on o) o (cond (is_bridge_of traces p n c) (Some c) None))
on_append traces [] c p n o e = subst (λ (x : Option ℕ). cond (is_bridge_of traces p n c) (Some c) None ≡ cond (is_some_on x) x (cond (is_bridge_of traces p n c) (Some c) None)) e refl
on_append traces (b ∷ bs) c p n o e = either (is_bridge_of traces p n b) e (on_append traces bs c p n o)
  where
    either : (t : Bool) → cond t (Some b) (bridge_on traces bs p n) ≡ o → (bridge_on traces bs p n ≡ o → bridge_on traces (bs ++ c ∷ []) p n ≡ cond (is_some_on o) o (cond (is_bridge_of traces p n c) (Some c) None)) → cond t (Some b) (bridge_on traces (bs ++ c ∷ []) p n) ≡ cond (is_some_on o) o (cond (is_bridge_of traces p n c) (Some c) None)
    either true h more = subst (λ (x : Option ℕ). Some b ≡ cond (is_some_on x) x (cond (is_bridge_of traces p n c) (Some c) None)) h refl
    either false h more = more h
