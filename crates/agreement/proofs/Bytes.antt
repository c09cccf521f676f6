-- The piece has allocated no more bytes than the trace.
use Rattle.std.proofs.Common.{◌≡◌, ℕ, zero, suc, ◌+◌, ◌<◌, ◌≤◌, Bool, true, false, ltb, List, [], ◌∷◌, Some, length, slice_get, refl, sym, ap, ◌∙◌, arith, inl, inr}
use Rattle.std.specs.Prelude.{slice_set}
use Rattle.std.specs.List.{AllZip}
use Rattle.std.proofs.lemmas.Bool.{ltb-true, ltb-false}
use Rattle.std.proofs.lemmas.Option.{slice_get_within}
use Rattle.lists.proofs.Options.{some_same, none_some}
use Rattle.lists.proofs.Places.{get_some, get_set_other}
use Rattle.trace_ops.specs.declared.table.Table.{Table}
use Rattle.trace_meaning.specs.declared.value.Object.{Object}
use Rattle.trace_meaning.specs.Boxes.{Boxes}
use Rattle.opt_meaning.specs.Agrees.{Facts, Place, Agrees}
use Rattle.std.specs.Prelude.{drop, sum_by}
use Rattle.std.proofs.lemmas.List.Sums.{sum_by-cons}
use Rattle.trace_ops.specs.InRange.{bytes_of_object}
use Rattle.trace_meaning.specs.World.{size_of, bytes_in}
use Rattle.heap_shape.specs.Visiting.{Has, IsOnce}
use Rattle.opt_meaning.specs.Admits.{at_entry, place_with}
use Rattle.opt_meaning.specs.Laws.{AdmittedBytes}
use Rattle.agreement.specs.Making.{BytesAgree}
use Rattle.agreement.proofs.Wrote.{below_along}

abbrev total : List ℕ → ℕ
total [] = 0
total (x ∷ xs) = x + total xs

-- one number taken out
total_without : (ys : List ℕ) (j x : ℕ) → slice_get ys j ≡ Some x → total ys ≡ x + total (slice_set ys j 0)
total_without [] j x e = absurd (none_some e)
total_without (y ∷ ys) zero x e = let same : y ≡ x = some_same e in omega (arith, same)
total_without (y ∷ ys) (suc j) x e = let rest = total_without ys j x e in omega (arith, rest)

-- numbers that stand at places of a list, each place once, are no more than the list
still_there : (ys : List ℕ) (k : ℕ) (js xs : List ℕ) → (Has js k → ⊥) → AllZip (λ j x. slice_get ys j ≡ Some x) js xs → AllZip (λ j x. slice_get (slice_set ys k 0) j ≡ Some x) js xs
still_there ys k [] [] none h = tt
still_there ys k [] (x ∷ xs) none h = absurd h
still_there ys k (j ∷ js) [] none h = absurd h
still_there ys k (j ∷ js) (x ∷ xs) none h = (get_set_other ys k j 0 (λ e. none (inl e)) ∙ h.0, still_there ys k js xs (λ w. none (inr w)) h.1)

no_more : (js xs ys : List ℕ) → IsOnce js → AllZip (λ j x. slice_get ys j ≡ Some x) js xs → total xs ≤ total ys
no_more [] [] ys once h = omega arith
no_more [] (x ∷ xs) ys once h = absurd h
no_more (j ∷ js) [] ys once h = absurd h
no_more (j ∷ js) (x ∷ xs) ys once h =
    let first = total_without ys j x h.0 in
    let rest = no_more js xs (slice_set ys j 0) once.1 (still_there ys j js xs once.0 h.1) in
    omega (arith, first, rest)

-- sizes, but 0 for the first ones
abbrev weights : ℕ → List Object → List ℕ
weights p [] = []
weights zero (o ∷ os) = size_of o ∷ weights zero os
weights (suc p) (o ∷ os) = 0 ∷ weights p os

weight_below : (p : ℕ) (os : List Object) (i : ℕ) (o : Object) → i < p → slice_get os i ≡ Some o → slice_get (weights p os) i ≡ Some 0
weight_below p [] i o less e = absurd (none_some e)
weight_below zero (x ∷ os) i o less e = absurd (omega (arith, less))
weight_below (suc p) (x ∷ os) zero o less e = refl
weight_below (suc p) (x ∷ os) (suc i) o less e = weight_below p os i o (omega (arith, less)) e

weight_above : (p : ℕ) (os : List Object) (i : ℕ) (o : Object) → p ≤ i → slice_get os i ≡ Some o → slice_get (weights p os) i ≡ Some (size_of o)
weight_above p [] i o le e = absurd (none_some e)
weight_above zero (x ∷ os) zero o le e = ap (λ z. Some (size_of z)) (some_same e)
weight_above zero (x ∷ os) (suc i) o le e = weight_above zero os i o (omega arith) e
weight_above (suc p) (x ∷ os) zero o le e = absurd (omega (arith, le))
weight_above (suc p) (x ∷ os) (suc i) o le e = weight_above p os i o (omega (arith, le)) e

weights_long : (p : ℕ) (os : List Object) → length (weights p os) ≡ length os
weights_long p [] = refl
weights_long zero (o ∷ os) = ap suc (weights_long zero os)
weights_long (suc p) (o ∷ os) = ap suc (weights_long p os)

weights_total : (p : ℕ) (os : List Object) → total (weights p os) ≡ sum_by size_of (drop p os)
weights_total zero [] = refl
weights_total (suc p) [] = refl
weights_total zero (o ∷ os) = ap (λ n. size_of o + n) (weights_total zero os) ∙ sym (sum_by-cons size_of o os)
weights_total (suc p) (o ∷ os) = let e : 0 + total (weights p os) ≡ total (weights p os) = omega arith in e ∙ weights_total p os

zip_from : {X Y : Type 0} (P : X → Y → Type 0) (xs : List X) (ys : List Y) → length xs ≡ length ys → ((i : ℕ) (x : X) (y : Y) → slice_get xs i ≡ Some x → slice_get ys i ≡ Some y → P x y) → AllZip P xs ys
zip_from P [] [] long f = tt
zip_from P [] (y ∷ ys) long f = absurd (omega (arith, long))
zip_from P (x ∷ xs) [] long f = absurd (omega (arith, long))
zip_from P (x ∷ xs) (y ∷ ys) long f = (f 0 x y refl refl, zip_from P xs ys (omega (arith, long)) (λ i. f (suc i)))

has_place : (ns : List ℕ) (n : ℕ) → Has ns n → (k : ℕ) × (slice_get ns k ≡ Some n)
has_place [] n h = absurd h
has_place (m ∷ ms) n (inl e) = (0, ap Some e)
has_place (m ∷ ms) n (inr h) = let s = has_place ms n h in (suc s.0, s.1)

once_from : (ns : List ℕ) → ((x y j : ℕ) → slice_get ns x ≡ Some j → slice_get ns y ≡ Some j → x ≡ y) → IsOnce ns
once_from [] one = tt
once_from (n ∷ ns) one = (
  λ w. let s = has_place ns n w in let e : 0 ≡ suc s.0 = one 0 (suc s.0) n refl s.1 in omega (arith, e),
  once_from ns (λ x y j ex ey. let e : suc x ≡ suc y = one (suc x) (suc y) j ex ey in omega (arith, e)),
)

module _ (t : Table) (known : Facts) (boxes : Boxes) (at : Place) (h : Agrees t known boxes at) where
  weight_along : (i j x : ℕ) → slice_get at.mapped i ≡ Some j → slice_get (weights (length t.prebuilts) at.opt.objects) i ≡ Some x → slice_get (weights (length t.prebuilts) at.rec.objects) j ≡ Some x
  weight_along i j x em ex = by (ltb i (length t.prebuilts)) refl
    where
      less : i < length at.opt.objects
      less = omega (arith, slice_get_within at.mapped i j em, h.covers)

      by : (c : Bool) → ltb i (length t.prebuilts) ≡ c → slice_get (weights (length t.prebuilts) at.rec.objects) j ≡ Some x
      by true c =
          let a = get_some at.opt.objects i less in
          let b = h.alike i j a.0 a.1 em in
          let zero_here = weight_below (length t.prebuilts) at.opt.objects i a.0 (ltb-true i (length t.prebuilts) c) a.1 in
          let below : ltb j (length t.prebuilts) ≡ true = sym (below_along (length t.prebuilts) at.mapped h.injective i j em) ∙ c in
          weight_below (length t.prebuilts) at.rec.objects j b.0 (ltb-true j (length t.prebuilts) below) b.1 ∙ sym zero_here ∙ ex
      by false c =
          let a = get_some at.opt.objects i less in
          let b = h.alike i j a.0 a.1 em in
          let here = weight_above (length t.prebuilts) at.opt.objects i a.0 (ltb-false i (length t.prebuilts) c) a.1 in
          let above : ltb j (length t.prebuilts) ≡ false = sym (below_along (length t.prebuilts) at.mapped h.injective i j em) ∙ c in
          let same : size_of b.0 ≡ size_of a.0 = ap (λ m. bytes_of_object m (length b.0.parts)) (sym b.2.of) ∙ ap (bytes_of_object a.0.of) (sym b.2.parts) in
          weight_above (length t.prebuilts) at.rec.objects j b.0 (ltb-false j (length t.prebuilts) above) b.1 ∙ ap Some same ∙ sym here ∙ ex

  bytes : bytes_in t at.opt ≤ bytes_in t at.rec
  bytes =
      let p = length t.prebuilts in
      let first = weights_total p at.opt.objects in
      let second = weights_total p at.rec.objects in
      let most = no_more at.mapped (weights p at.opt.objects) (weights p at.rec.objects) (once_from at.mapped h.injective.one_to_one)
      (zip_from (λ j x. slice_get (weights p at.rec.objects) j ≡ Some x) at.mapped (weights p at.opt.objects) (h.covers ∙ sym (weights_long p at.opt.objects)) weight_along) in
      omega (arith, first, second, most)

pub bytes_agree : BytesAgree
bytes_agree t known boxes at h = bytes t known boxes at h

pub admitted_bytes : AdmittedBytes
admitted_bytes t e vs w us u a = bytes_agree t (at_entry e) [] (place_with e w us u a.mapped a.virtuals) a.agrees
