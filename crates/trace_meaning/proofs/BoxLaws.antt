-- Boxes that have got values.
use Rattle.std.proofs.Common.{◌≡◌, suc, Bool, true, false, cond, List, [], ◌∷◌, Some, None, length, refl, ap, sym, ◌∙◌, arith}
use Rattle.std.specs.List.{AllZip, Contains}
use Rattle.trace_ops.specs.declared.trace.BoxId.{BoxId}
use Rattle.trace_ops.specs.Lawful.{AreDistinct}
use Rattle.trace_meaning.specs.declared.value.Value.{Value}
use Rattle.trace_meaning.specs.Boxes.{Boxes, BoxesDecide, BindingLaws, same_box, value_in, bind, bind_all}

pub not_here : {X : Type 0} (x : X) (xs : List X) (y : X) → ¬ Contains (x ∷ xs) y → ¬ (y ≡ x)
not_here x xs y h = λ e. h (0, omega arith, sym e)

pub not_there : {X : Type 0} (x : X) (xs : List X) (y : X) → ¬ Contains (x ∷ xs) y → ¬ Contains xs y
not_there x xs y h = λ c. h (suc c.0, omega (arith, c.1), c.2)

module _ (decides : BoxesDecide) where
  same_itself : (b : BoxId) → same_box b b ≡ true
  same_itself b = (decides b b).1 refl

  not_same_box : (b c : BoxId) (t : Bool) → same_box b c ≡ t → ¬ (b ≡ c) → same_box b c ≡ false
  not_same_box b c true e h = absurd (h ((decides b c).0 e))
  not_same_box b c false e h = e

  -- the box has the value
  pub value_in-bind_same : (b : BoxId) (x : Value) (es : Boxes) → value_in (bind b x es) b ≡ Some x
  value_in-bind_same b x [] = ap (λ t. cond t (Some x) None) (same_itself b)
  value_in-bind_same b x (e ∷ es) = elim (same_box b e.0) as (λ t. same_box b e.0 ≡ t → value_in (cond t ((e.0, x) ∷ es) (e ∷ bind b x es)) b ≡ Some x) [
    | true ↦ λ h. ap (λ t. cond t (Some x) (value_in es b)) h
    | false ↦ λ h. ap (λ t. cond t (Some e.1) (value_in (bind b x es) b)) h ∙ value_in-bind_same b x es
  ] refl

  -- no other box has another value
  pub value_in-bind_other : (b c : BoxId) (x : Value) (es : Boxes) → ¬ (c ≡ b) → value_in (bind b x es) c ≡ value_in es c
  value_in-bind_other b c x [] h = ap (λ t. cond t (Some x) None) (not_same_box c b (same_box c b) refl h)
  value_in-bind_other b c x (e ∷ es) h = elim (same_box b e.0) as (λ t. same_box b e.0 ≡ t → value_in (cond t ((e.0, x) ∷ es) (e ∷ bind b x es)) c ≡ value_in (e ∷ es) c) [
    | true ↦ λ own.
        let apart : same_box c e.0 ≡ false = not_same_box c e.0 (same_box c e.0) refl (λ same. h (same ∙ sym ((decides b e.0).0 own))) in
        ap (λ t. cond t (Some x) (value_in es c)) apart ∙ sym (ap (λ t. cond t (Some e.1) (value_in es c)) apart)
    | false ↦ λ own. ap (λ r. cond (same_box c e.0) (Some e.1) r) (value_in-bind_other b c x es h)
  ] refl

  -- a box that isn't among them
  pub value_in-bind_all_other : (es : Boxes) (bs : List BoxId) (vs : List Value) (c : BoxId) → ¬ Contains bs c → value_in (bind_all es bs vs) c ≡ value_in es c
  value_in-bind_all_other es [] vs c h = refl
  value_in-bind_all_other es (b ∷ bs) [] c h = refl
  value_in-bind_all_other es (b ∷ bs) (x ∷ xs) c h = value_in-bind_all_other (bind b x es) bs xs c (not_there b bs c h) ∙ value_in-bind_other b c x es (not_here b bs c h)

  -- each of distinct boxes has its value
  pub bind_all-each : (es : Boxes) (bs : List BoxId) (vs : List Value) → AreDistinct bs → length vs ≡ length bs → AllZip (λ b x. value_in (bind_all es bs vs) b ≡ Some x) bs vs
  bind_all-each es [] [] d l = tt
  bind_all-each es [] (x ∷ xs) d l = absurd (omega (arith, l))
  bind_all-each es (b ∷ bs) [] d l = absurd (omega (arith, l))
  bind_all-each es (b ∷ bs) (x ∷ xs) d l =
      (value_in-bind_all_other (bind b x es) bs xs b d.0 ∙ value_in-bind_same b x es, bind_all-each (bind b x es) bs xs d.1 (omega (arith, l)))

  pub binding-laws : BindingLaws
  binding-laws = record { same = value_in-bind_same; other = value_in-bind_other; all_other = value_in-bind_all_other; all_each = bind_all-each }
