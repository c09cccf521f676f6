-- Boxes and their values: a box has the value that it got last, and no other box another one.
use Rattle.std.proofs.Common.{◌≡◌, true, false, Option, Some, None, refl, sym, ◌∙◌}
use Rattle.std.specs.Bool.{Decides}
use Rattle.trace_ops.specs.declared.trace.BoxId.{BoxId}
use Rattle.trace_meaning.specs.declared.value.Value.{Value}
use Rattle.trace_meaning.specs.Boxes.{Boxes, same_box, value_in, bind}
use Rattle.opt_pass.specs.Laws.{Laws}

pub box_decides : (laws : Laws) (b c : BoxId) → Decides (same_box b c) (b ≡ c)
box_decides laws b c = laws.equality.box b c

pub same_itself : (laws : Laws) (b : BoxId) → same_box b b ≡ true
same_itself laws b = (laws.equality.box b b).1 refl

pub bound_same : (laws : Laws) (b : BoxId) (x : Value) (es : Boxes) → value_in (bind b x es) b ≡ Some x
bound_same laws b x es = laws.binding.same b x es

true_false : true ≡ false → ⊥
true_false e = cc

pub bound_other : (laws : Laws) (b c : BoxId) (x : Value) (es : Boxes) → same_box c b ≡ false → value_in (bind b x es) c ≡ value_in es c
bound_other laws b c x es q = laws.binding.other b c x es (λ e. true_false (sym ((laws.equality.box c b).1 e) ∙ q))
