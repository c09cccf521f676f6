-- Guards on both sides.
use Rattle.std.proofs.Common.{◌≡◌, ℕ, true, false, List, [], ◌∷◌, Option, Some, None, slice_get, refl, sym, ap, ◌∙◌}
use Rattle.std.proofs.lemmas.Bool.{eqb-true}
use Rattle.lists.proofs.Options.{some_same, none_some}
use Rattle.trace_ops.specs.declared.trace.BoxId.{BoxId}
use Rattle.trace_ops.specs.declared.trace.Arg.{Arg}
use Rattle.trace_ops.specs.declared.table.Table.{Table}
use Rattle.trace_ops.specs.declared.piece.Fact.TheVariants as fact
use Rattle.trace_meaning.specs.declared.value.Value.{Value}
use Rattle.trace_meaning.specs.declared.value.Value.TheVariants as v
use Rattle.trace_meaning.specs.declared.value.Object.{Object}
use Rattle.trace_meaning.specs.Boxes.{Boxes}
use Rattle.opt_meaning.specs.Agrees.{Facts, Place, FactHolds, Agrees}
use Rattle.std.specs.Prelude.{not}
use Rattle.trace_ops.specs.declared.code.OpCode.{OpCode}
use Rattle.trace_ops.specs.declared.code.OpCode.TheVariants as code
use Rattle.trace_ops.specs.declared.table.ShapeOf.{ShapeOf}
use Rattle.trace_ops.specs.declared.table.ShapeOf.TheVariants as shape
use Rattle.trace_meaning.specs.Passing.{is_zero_word, are_equal, is_null, class_in, is_structure_of, object_has_class, has_class, has_class_or_null, negated, passes}
use Rattle.agreement.specs.Guarding.{reads_overflow, PassesAlike, PassedTells}
use Rattle.agreement.proofs.Folding.{int, null, obj, Pairs, nil, cons, pairs_of, OneToOne, equal_along}
use Rattle.agreement.proofs.Reading.{twins}

zero_along : (m : ℕ → Option ℕ) {us ys : List Value} → Pairs m us ys → is_zero_word us ≡ is_zero_word ys
zero_along m nil = refl
zero_along m (cons (int a) nil) = refl
zero_along m (cons (int a) (cons b rest)) = refl
zero_along m (cons null rest) = refl
zero_along m (cons (obj x j e) rest) = refl

null_along : (m : ℕ → Option ℕ) {us ys : List Value} → Pairs m us ys → is_null us ≡ is_null ys
null_along m nil = refl
null_along m (cons (int a) rest) = refl
null_along m (cons null nil) = refl
null_along m (cons null (cons b rest)) = refl
null_along m (cons (obj x j e) nil) = refl
null_along m (cons (obj x j e) (cons b rest)) = refl

equals_along : (m : ℕ → Option ℕ) → OneToOne m → {us ys : List Value} → Pairs m us ys → are_equal us ≡ are_equal ys
equals_along m one nil = refl
equals_along m one (cons (int a) nil) = refl
equals_along m one (cons (int a) (cons (int b) nil)) = refl
equals_along m one (cons (int a) (cons (int b) (cons c rest))) = refl
equals_along m one (cons (int a) (cons null rest)) = refl
equals_along m one (cons (int a) (cons (obj x j e) rest)) = refl
equals_along m one (cons null nil) = refl
equals_along m one (cons null (cons (int b) rest)) = refl
equals_along m one (cons null (cons null nil)) = refl
equals_along m one (cons null (cons null (cons c rest))) = refl
equals_along m one (cons null (cons (obj x j e) nil)) = refl
equals_along m one (cons null (cons (obj x j e) (cons c rest))) = refl
equals_along m one (cons (obj x j e) nil) = refl
equals_along m one (cons (obj x j e) (cons (int b) rest)) = refl
equals_along m one (cons (obj x j e) (cons null nil)) = refl
equals_along m one (cons (obj x j e) (cons null (cons c rest))) = refl
equals_along m one (cons (obj x j e) (cons (obj y k f) nil)) = ap Some (equal_along m one x j y k e f)
equals_along m one (cons (obj x j e) (cons (obj y k f) (cons c rest))) = refl

module _ (t : Table) (known : Facts) (boxes : Boxes) (at : Place) (h : Agrees t known boxes at) where
  object_class : (size n j : ℕ) → slice_get at.mapped n ≡ Some j → object_has_class size (slice_get at.opt.objects n) ≡ object_has_class size (slice_get at.rec.objects j)
  object_class size n j e =
      let w = twins t known boxes at h n j e in
      ap (object_has_class size) w.here ∙ ap (λ o. Some (is_structure_of size o)) w.alike.of ∙ sym (ap (object_has_class size) w.there)

  class_along : (c : Option ℕ) {us ys : List Value} → Pairs (slice_get at.mapped) us ys → has_class at.opt.objects c us ≡ has_class at.rec.objects c ys
  class_along None p = refl
  class_along (Some size) nil = refl
  class_along (Some size) (cons (int a) rest) = refl
  class_along (Some size) (cons null rest) = refl
  class_along (Some size) (cons (obj x j e) nil) = object_class size x j e
  class_along (Some size) (cons (obj x j e) (cons b rest)) = refl

  class_or_null_along : (c : Option ℕ) {us ys : List Value} → Pairs (slice_get at.mapped) us ys → has_class_or_null at.opt.objects c us ≡ has_class_or_null at.rec.objects c ys
  class_or_null_along None p = refl
  class_or_null_along (Some size) nil = refl
  class_or_null_along (Some size) (cons (int a) rest) = refl
  class_or_null_along (Some size) (cons null nil) = refl
  class_or_null_along (Some size) (cons null (cons b rest)) = refl
  class_or_null_along (Some size) (cons (obj x j e) nil) = object_class size x j e
  class_or_null_along (Some size) (cons (obj x j e) (cons b rest)) = refl

  alike : (operation : OpCode) (args others : List Arg) (us ys : List Value) → class_in args ≡ class_in others → Pairs (slice_get at.mapped) us ys → (reads_overflow operation ≡ true → at.opt.overflow ≡ at.rec.overflow)
      → passes operation args us at.opt ≡ passes operation others ys at.rec
  alike code.GuardTrue args others us ys same p over = ap negated (zero_along (slice_get at.mapped) p)
  alike code.GuardFalse args others us ys same p over = zero_along (slice_get at.mapped) p
  alike code.GuardValue args others us ys same p over = equals_along (slice_get at.mapped) h.injective.one_to_one p
  alike code.GuardNonnull args others us ys same p over = ap negated (null_along (slice_get at.mapped) p)
  alike code.GuardIsnull args others us ys same p over = null_along (slice_get at.mapped) p
  alike code.GuardClass args others us ys same p over = ap (λ c. has_class at.opt.objects c us) same ∙ class_along (class_in others) p
  alike code.GuardNonnullClass args others us ys same p over = ap (λ c. has_class_or_null at.opt.objects c us) same ∙ class_or_null_along (class_in others) p
  alike code.GuardNoOverflow args others us ys same p over = ap (λ c. Some (not c)) (over refl)
  alike code.GuardOverflow args others us ys same p over = ap Some (over refl)
  alike _ args others us ys same p over = refl

pub passes_alike : PassesAlike
passes_alike t known boxes at h operation args others us ys same maps over = alike t known boxes at h operation args others us ys same (pairs_of (slice_get at.mapped) us ys maps) over

-- What a passed guard tells

pub is_of : (size : ℕ) (of : ShapeOf) → is_structure_of size of ≡ true → of ≡ shape.Size size
is_of size (shape.Size s) e = ap shape.Size (eqb-true s size e)
is_of size (shape.Array a) e = absurd (cc)

class_told : (t : Table) (at : Place) (b : BoxId) (n size : ℕ) → at.box b ≡ Some (v.Obj n) → (o : Option Object) → slice_get at.opt.objects n ≡ o → object_has_class size o ≡ Some true → FactHolds t at (fact.ClassOf b size)
class_told t at b n size eb None eo e = absurd (none_some e)
class_told t at b n size eb (Some o) eo e = (n, eb, o, eo, is_of size o.of (some_same e))

not_some : Some false ≡ Some true → ⊥
not_some e = cc

pub passed_tells : PassedTells
passed_tells t at b (v.Int z) args eb = (
  λ size e p. absurd (none_some (sym (ap (λ c. has_class at.opt.objects c (v.Int z ∷ [])) e) ∙ p)),
  λ size e p. absurd (none_some (sym (ap (λ c. has_class_or_null at.opt.objects c (v.Int z ∷ [])) e) ∙ p)),
  λ p. absurd (none_some p),
)
passed_tells t at b v.Null args eb = (
  λ size e p. absurd (none_some (sym (ap (λ c. has_class at.opt.objects c (v.Null ∷ [])) e) ∙ p)),
  λ size e p. absurd (not_some (sym (ap (λ c. has_class_or_null at.opt.objects c (v.Null ∷ [])) e) ∙ p)),
  λ p. absurd (not_some p),
)
passed_tells t at b (v.Obj n) args eb = (
  λ size e p. class_told t at b n size eb (slice_get at.opt.objects n) refl (sym (ap (λ c. has_class at.opt.objects c (v.Obj n ∷ [])) e) ∙ p),
  λ size e p. class_told t at b n size eb (slice_get at.opt.objects n) refl (sym (ap (λ c. has_class_or_null at.opt.objects c (v.Obj n ∷ [])) e) ∙ p),
  λ p. (n, eb),
)
