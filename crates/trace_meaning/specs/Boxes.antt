-- The values of boxes and of arguments.
use Rattle.std.specs.Prelude.{◌≡◌, ◌++◌, length, Bool, true, false, if◌then◌else◌, List, [], ◌∷◌, Option, Some, None, IsSome}
use Rattle.std.specs.Map.{lookup}
use Rattle.std.specs.Bool.{Decides}
use Rattle.std.specs.List.{AllZip, Contains}
use Rattle.indexmap.specs.IndexMap.{insert_entry}
use Rattle.trace_ops.specs.declared.trace.BoxId.{BoxId}
use Rattle.trace_ops.specs.declared.trace.Arg.{Arg}
use Rattle.trace_ops.specs.Lawful.{AreDistinct}
use Rattle.trace_ops.specs.declared.trace.Arg.TheVariants as arg
use Rattle.trace_ops.specs.contracts.trace.BoxIdPartialEq.TheImpl as box
use Rattle.trace_meaning.specs.declared.value.Value.{Value}
use Rattle.trace_meaning.specs.declared.value.Value.TheVariants as v

-- boxes with their values, in the order in which they got one
abbrev pub Boxes : Type 0
Boxes = List (BoxId × Value)

abbrev pub same_box : BoxId → BoxId → Bool
same_box b c = box.ghosts.eq b c

abbrev pub value_in : Boxes → BoxId → Option Value
value_in boxes b = lookup (same_box b) boxes

-- the box has a value
abbrev pub HasValue : Boxes → BoxId → Type 0
HasValue boxes b = IsSome (value_in boxes b)

-- the box has this value
abbrev pub bind : BoxId → Value → Boxes → Boxes
bind b x boxes = insert_entry same_box boxes b x

-- the boxes have these values, one after another
abbrev pub bind_all : Boxes → List BoxId → List Value → Boxes
bind_all boxes [] vs = boxes
bind_all boxes (b ∷ bs) [] = boxes
bind_all boxes (b ∷ bs) (x ∷ xs) = bind_all (bind b x boxes) bs xs

abbrev pub bound_to : List BoxId → List Value → Boxes
bound_to bs vs = bind_all [] bs vs

abbrev pub BoxesDecide : Type 0
BoxesDecide = (b c : BoxId) → Decides (same_box b c) (b ≡ c)

-- a box has the value that it got last, and no other box another one
pub record BindingLaws : Type 0 where
  pub same : (b : BoxId) (x : Value) (es : Boxes) → value_in (bind b x es) b ≡ Some x
  pub other : (b c : BoxId) (x : Value) (es : Boxes) → ¬ (c ≡ b) → value_in (bind b x es) c ≡ value_in es c
  pub all_other : (es : Boxes) (bs : List BoxId) (vs : List Value) (c : BoxId) → ¬ Contains bs c → value_in (bind_all es bs vs) c ≡ value_in es c
  -- each of distinct boxes has its value
  pub all_each : (es : Boxes) (bs : List BoxId) (vs : List Value) → AreDistinct bs → length vs ≡ length bs → AllZip (λ b x. value_in (bind_all es bs vs) b ≡ Some x) bs vs

-- the value of an argument, from those of boxes; a class and a function have none
abbrev pub arg_value : (BoxId → Option Value) → Arg → Option Value
arg_value value (arg.Of b) = value b
arg_value value (arg.Const z) = Some (v.Int z)
arg_value value arg.Null = Some v.Null
arg_value value (arg.Class k) = None
arg_value value (arg.Func k) = None
arg_value value (arg.Ptr k) = Some (v.Obj k)

abbrev pub has_value : Arg → Bool
has_value (arg.Class k) = false
has_value (arg.Func k) = false
has_value _ = true

abbrev pub with_first : Option Value → Option (List Value) → Option (List Value)
with_first (Some x) (Some xs) = Some (x ∷ xs)
with_first _ _ = None

-- the values of those arguments that have one, in order; none where a box has no value
abbrev pub all_values : (Arg → Option Value) → List Arg → Option (List Value)
all_values value [] = Some []
all_values value (a ∷ rest) = if has_value a then with_first (value a) (all_values value rest) else all_values value rest

-- What one argument adds to values that are put together

-- the value stands behind the others
abbrev pub IsPushed : Option Value → Bool → List Value → List Value → Type 0
IsPushed (Some x) true before after = after ≡ before ++ x ∷ []
IsPushed (Some x) false before after = ⊥
IsPushed None true before after = ⊥
IsPushed None false before after = Unit {0}

abbrev pub IsAddedIf : Bool → Option Value → Bool → List Value → List Value → Type 0
IsAddedIf true value there before after = IsPushed value there before after
IsAddedIf false value there before after = (there ≡ true) × (after ≡ before)

abbrev pub IsAdded : (BoxId → Option Value) → Arg → Bool → List Value → List Value → Type 0
IsAdded value a there before after = IsAddedIf (has_value a) (arg_value value a) there before after
