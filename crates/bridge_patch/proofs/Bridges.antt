-- The bridge of a guard, in a well-formed set: there is one at most, and it isn't in a circle.
use Rattle.std.proofs.Common.{◌≡◌, ℕ, zero, suc, ◌<◌, Bool, true, false, cond, nat_eq, nat_lt, eqb-true, ltb-true, ltb-false, List, [], ◌∷◌, ◌++◌, length, get_or, Option, Some, None, refl, sym, ap, ◌∙◌, subst, arith, inl, inr, ◌⊎◌}
use Rattle.std.specs.Prelude.{slice_get, option_and_then}
use Rattle.std.specs.List.{Contains}
use Rattle.std.specs.Str.{bytes_eq}
use Rattle.std.proofs.lemmas.List.Quantifiers.{position-Some}
use Rattle.std.proofs.lemmas.List.Elements.{Contains-append_cases}
use Rattle.std.proofs.lemmas.Slice.Eq.{bytes_eq-Decides}
use Rattle.trace_ops.specs.declared.trace.Origin.{Origin}
use Rattle.trace_ops.specs.declared.trace.Origin.TheVariants.{Loop, Bridge}
use Rattle.trace_ops.specs.declared.trace.Trace.{Trace}
use Rattle.trace_ops.specs.declared.trace.TraceSet.{TraceSet}
use Rattle.trace_ops.specs.Weights.{place_of, parent_named, parent_of, parent_at}
use Rattle.trace_ops.specs.Rules.{IsFirstFrom, above}
use Rattle.trace_ops.specs.WellFormed.{IsWellFormed}
use Rattle.trace_meaning.specs.Cuts.{is_at, leaves_from, trace_leaves_from, is_bridge_of}
use Rattle.bridge_patch.specs.Bridged.{IsBridge, LacksParent, bridge_on}
use Rattle.bridge_patch.proofs.RowsOf.{and_left, and_right}

false_true : false ≡ true → ⊥
false_true e = cc

none_some : {X : Type 0} {x : X} → None ≡ Some x → ⊥
none_some e = cc

-- ---- where a bridge comes from

pub record FromGuard (set : TraceSet) (p n b : ℕ) : Type 0 where
  pub t : Trace
  pub here : slice_get set.traces b ≡ Some t
  pub name : List ℕ
  pub origin : t.origin ≡ Bridge name n
  pub place : place_of name set.traces ≡ Some p

at_some : (p : ℕ) (o : Option ℕ) → is_at p o ≡ true → o ≡ Some p
at_some p None e = absurd (false_true e)
at_some p (Some q) e = ap Some (eqb-true q p e)

pub from_guard : (set : TraceSet) (p n b : ℕ) → is_bridge_of set.traces p n b ≡ true → FromGuard set p n b
from_guard set p n b e = by (slice_get set.traces b) refl e
  where
    origin_is : (t : Trace) → slice_get set.traces b ≡ Some t → (o : Origin) → t.origin ≡ o → leaves_from set.traces p n o ≡ true → FromGuard set p n b
    origin_is t here Loop o h = absurd (false_true h)
    origin_is t here (Bridge name guard) o h = record {
      t = t;
      here = here;
      name = name;
      origin = o ∙ ap (λ (k : ℕ). Bridge name k) (eqb-true guard n (and_left (nat_eq guard n) (is_at p (place_of name set.traces)) h));
      place = at_some p (place_of name set.traces) (and_right (nat_eq guard n) (is_at p (place_of name set.traces)) h);
    }

    by : (o : Option Trace) → slice_get set.traces b ≡ o → trace_leaves_from set.traces p n o ≡ true → FromGuard set p n b
    by None here h = absurd (false_true h)
    by (Some t) here h = origin_is t here t.origin refl h

names_same : (traces : List Trace) (p : ℕ) (a b : List ℕ) (d : Trace) → place_of a traces ≡ Some p → place_of b traces ≡ Some p → a ≡ b
names_same traces p a b d e f =
    let x = position-Some (λ (t : Trace). bytes_eq t.name a) traces p d e in
    let y = position-Some (λ (t : Trace). bytes_eq t.name b) traces p d f in
    sym ((bytes_eq-Decides (get_or traces p d).name a).0 x.1) ∙ (bytes_eq-Decides (get_or traces p d).name b).0 y.1

not_before : (set : TraceSet) (p n b c : ℕ) → IsWellFormed set → FromGuard set p n b → FromGuard set p n c → b < c → ⊥
not_before set p n b c formed x y lt =
    let first : IsFirstFrom set c (Bridge y.name n) = subst (IsFirstFrom set c) y.origin (formed.inputs_fit c y.t y.here).1 in
    first b x.t lt x.here (x.origin ∙ ap (λ (name : List ℕ). Bridge name n) (names_same set.traces p x.name y.name x.t x.place y.place))

-- a guard has one bridge at most
pub one_bridge : (set : TraceSet) (p n b c : ℕ) → IsWellFormed set → is_bridge_of set.traces p n b ≡ true → is_bridge_of set.traces p n c ≡ true → b ≡ c
one_bridge set p n b c formed e f = by (nat_lt b c) (nat_lt c b) refl refl
  where
    x : FromGuard set p n b
    x = from_guard set p n b e

    y : FromGuard set p n c
    y = from_guard set p n c f

    by : (q r : Bool) → nat_lt b c ≡ q → nat_lt c b ≡ r → b ≡ c
    by true r lt gt = absurd (not_before set p n b c formed x y (ltb-true b c lt))
    by false true lt gt = absurd (not_before set p n c b formed y x (ltb-true c b gt))
    by false false lt gt = omega (arith, ltb-false b c lt, ltb-false c b gt)

-- none is its own parent
pub no_circle : (set : TraceSet) (n b : ℕ) → IsWellFormed set → is_bridge_of set.traces b n b ≡ true → ⊥
no_circle set n b formed e = none_some (sym (formed.ordered b x.t x.here).ends_above ∙ stays (length set.traces))
  where
    x : FromGuard set b n b
    x = from_guard set b n b e

    parent : parent_at set b ≡ Some b
    parent = ap (parent_of set.traces) x.here ∙ ap (parent_named set.traces) x.origin ∙ x.place

    stays : (k : ℕ) → above set b k ≡ Some b
    stays zero = refl
    stays (suc k) = ap (option_and_then (parent_at set)) (stays k) ∙ parent

-- ---- of a guard, among attached bridges

pub on_more : (traces : List Trace) (bs : List ℕ) (b p n : ℕ) → is_bridge_of traces p n b ≡ false → bridge_on traces (bs ++ b ∷ []) p n ≡ bridge_on traces bs p n
on_more traces [] b p n e = ap (λ (q : Bool). cond q (Some b) None) e
on_more traces (c ∷ cs) b p n e = ap (λ (o : Option ℕ). cond (is_bridge_of traces p n c) (Some c) o) (on_more traces cs b p n e)

head_in : (c : ℕ) (cs : List ℕ) → Contains (c ∷ cs) c
head_in c cs = (0, omega arith, refl)

tail_in : (c : ℕ) (cs : List ℕ) (d : ℕ) → Contains cs d → Contains (c ∷ cs) d
tail_in c cs d (i, lt, e) = (suc i, omega (arith, lt), e)

pub on_none : (traces : List Trace) (bs : List ℕ) (p n : ℕ) → ((c : ℕ) → Contains bs c → is_bridge_of traces p n c ≡ false) → bridge_on traces bs p n ≡ None
on_none traces [] p n away = refl
on_none traces (c ∷ cs) p n away =
    ap (λ (q : Bool). cond q (Some c) (bridge_on traces cs p n)) (away c (head_in c cs)) ∙ on_none traces cs p n (λ d h. away d (tail_in c cs d h))

pub on_new : (traces : List Trace) (bs : List ℕ) (b p n : ℕ) → ((c : ℕ) → Contains bs c → is_bridge_of traces p n c ≡ false) → is_bridge_of traces p n b ≡ true → bridge_on traces (bs ++ b ∷ []) p n ≡ Some b
on_new traces [] b p n away e = ap (λ (q : Bool). cond q (Some b) None) e
on_new traces (c ∷ cs) b p n away e =
    ap (λ (q : Bool). cond q (Some c) (bridge_on traces (cs ++ b ∷ []) p n)) (away c (head_in c cs)) ∙ on_new traces cs b p n (λ d h. away d (tail_in c cs d h)) e

pub on_some : (traces : List Trace) (bs : List ℕ) (p n c : ℕ) → bridge_on traces bs p n ≡ Some c → Contains bs c
on_some traces [] p n c e = absurd (none_some e)
on_some traces (b ∷ bs) p n c e = by (is_bridge_of traces p n b) e (on_some traces bs p n c)
  where
    some_inj : {x y : ℕ} → Some x ≡ Some y → x ≡ y
    some_inj e = cc

    by : (q : Bool) → cond q (Some b) (bridge_on traces bs p n) ≡ Some c → (bridge_on traces bs p n ≡ Some c → Contains bs c) → Contains (b ∷ bs) c
    by true e later = (0, omega arith, some_inj e)
    by false e later = tail_in b bs c (later e)

-- the guard of an attached bridge has no other
pub others_away : (set : TraceSet) (bs : List ℕ) (b p n : ℕ) → IsWellFormed set → ¬ Contains bs b → is_bridge_of set.traces p n b ≡ true → (c : ℕ) → Contains bs c → is_bridge_of set.traces p n c ≡ false
others_away set bs b p n formed fresh e c h = by (is_bridge_of set.traces p n c) refl
  where
    by : (q : Bool) → is_bridge_of set.traces p n c ≡ q → q ≡ false
    by true f = absurd (fresh (subst (Contains bs) (one_bridge set p n c b formed f e) h))
    by false f = refl

-- no attached bridge comes from one that isn't
pub none_from : (set : TraceSet) (bs : List ℕ) (b n : ℕ) → IsWellFormed set → IsBridge set b → ¬ Contains bs b → ((c : ℕ) → Contains bs c → ¬ LacksParent set bs c)
    → (c : ℕ) → Contains (bs ++ b ∷ []) c → is_bridge_of set.traces b n c ≡ false
none_from set bs b n formed is fresh parents c h = by (is_bridge_of set.traces b n c) refl (Contains-append_cases bs (b ∷ []) c h)
  where
    by : (q : Bool) → is_bridge_of set.traces b n c ≡ q → Contains bs c ⊎ Contains (b ∷ []) c → q ≡ false
    by false e k = refl
    by true e (inl k) = absurd (parents c k (record { parent = b; guard = n; from = e; bridge = is; away = fresh }))
    by true e (inr (zero, lt, same)) = absurd (no_circle set n b formed (subst (λ (x : ℕ). is_bridge_of set.traces b n x ≡ true) (sym same) e))
    by true e (inr (suc i, lt, same)) = absurd (omega (arith, lt))
