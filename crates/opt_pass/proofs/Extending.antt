-- Values of arguments, where more boxes have one.
use Rattle.std.proofs.Common.{◌≡◌, Bool, true, false, cond, List, [], ◌∷◌, Option, Some, None, refl, ap, ◌∙◌}
use Rattle.lists.proofs.Options.{some_same, none_some}
use Rattle.trace_ops.specs.declared.trace.BoxId.{BoxId}
use Rattle.trace_ops.specs.declared.trace.Arg.{Arg}
use Rattle.trace_ops.specs.declared.trace.Arg.TheVariants as arg
use Rattle.trace_meaning.specs.declared.value.Value.{Value}
use Rattle.trace_meaning.specs.Boxes.{arg_value, has_value, with_first, all_values}
use Rattle.agreement.specs.Growing.{Extends}

pub arg_value-extends : (f g : BoxId → Option Value) → Extends f g → (a : Arg) (y : Value) → arg_value f a ≡ Some y → arg_value g a ≡ Some y
arg_value-extends f g more (arg.Of b) y e = more b y e
arg_value-extends f g more (arg.Const z) y e = e
arg_value-extends f g more arg.Null y e = e
arg_value-extends f g more (arg.Class k) y e = e
arg_value-extends f g more (arg.Func k) y e = e
arg_value-extends f g more (arg.Ptr k) y e = e

pub first_parts : (x : Option Value) (xs : Option (List Value)) (ys : List Value) → with_first x xs ≡ Some ys → (u : Value) × (x ≡ Some u) × (us : List Value) × (xs ≡ Some us) × (u ∷ us ≡ ys)
first_parts (Some u) (Some us) ys e = (u, refl, us, refl, some_same e)
first_parts (Some u) None ys e = absurd (none_some e)
first_parts None xs ys e = absurd (none_some e)

step_values : (f g : BoxId → Option Value) (a : Arg) (rest : List Arg) (ys : List Value) → ((y : Value) → arg_value f a ≡ Some y → arg_value g a ≡ Some y) → ((zs : List Value) → all_values (arg_value f) rest ≡ Some zs → all_values (arg_value g) rest ≡ Some zs) → (h : Bool)
    → cond h (with_first (arg_value f a) (all_values (arg_value f) rest)) (all_values (arg_value f) rest) ≡ Some ys
    → cond h (with_first (arg_value g a) (all_values (arg_value g) rest)) (all_values (arg_value g) rest) ≡ Some ys
step_values f g a rest ys one next false e = next ys e
step_values f g a rest ys one next true e =
    let s = first_parts (arg_value f a) (all_values (arg_value f) rest) ys e in
    ap (λ x. with_first x (all_values (arg_value g) rest)) (one s.0 s.1) ∙ ap (with_first (Some s.0)) (next s.2 s.3) ∙ ap Some s.4

pub all_values-extends : (f g : BoxId → Option Value) → Extends f g → (args : List Arg) (ys : List Value) → all_values (arg_value f) args ≡ Some ys → all_values (arg_value g) args ≡ Some ys
all_values-extends f g more [] ys e = e
all_values-extends f g more (a ∷ rest) ys e = step_values f g a rest ys (arg_value-extends f g more a) (λ zs. all_values-extends f g more rest zs) (has_value a) e
