-- What a pure operation gives, from the values of its arguments.
use Rattle.std.specs.Prelude.{Bool, not, List, [], ◌∷◌, Option, Some, None, ℤ}
use Rattle.std.specs.Option.{option_map}
use Rattle.trace_ops.specs.declared.code.OpCode.{OpCode}
use Rattle.trace_ops.specs.declared.code.OpCode.TheVariants as code
use Rattle.trace_ops.specs.Words.{truth}
use Rattle.trace_ops.specs.Folds.{unary, binary}
use Rattle.trace_meaning.specs.declared.value.Value.{Value}
use Rattle.trace_meaning.specs.declared.value.Value.TheVariants as v
use Rattle.trace_meaning.specs.Values.{same_reference}

-- of one word or two
abbrev pub fold_words : OpCode → List Value → Option ℤ
fold_words operation (v.Int a ∷ []) = unary operation a
fold_words operation (v.Int a ∷ v.Int b ∷ []) = binary operation a b
fold_words operation _ = None

abbrev pub reference_in : Value → Option Value
reference_in (v.Int z) = None
reference_in v.Null = Some v.Null
reference_in (v.Obj n) = Some (v.Obj n)

-- a reference, itself
abbrev pub one_reference : List Value → Option Value
one_reference (x ∷ []) = reference_in x
one_reference _ = None

-- whether two references are the same
abbrev pub compared : List Value → Option Bool
compared (v.Null ∷ v.Null ∷ []) = Some (same_reference v.Null v.Null)
compared (v.Null ∷ v.Obj n ∷ []) = Some (same_reference v.Null (v.Obj n))
compared (v.Obj m ∷ v.Null ∷ []) = Some (same_reference (v.Obj m) v.Null)
compared (v.Obj m ∷ v.Obj n ∷ []) = Some (same_reference (v.Obj m) (v.Obj n))
compared _ = None

-- the value of a pure operation
abbrev pub fold : OpCode → List Value → Option Value
fold code.SameAsR vs = one_reference vs
fold code.PtrEq vs = option_map (λ b. v.Int (truth b)) (compared vs)
fold code.PtrNe vs = option_map (λ b. v.Int (truth (not b))) (compared vs)
fold operation vs = option_map v.Int (fold_words operation vs)
