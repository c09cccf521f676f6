-- The arguments of calls.
use Rattle.std.proofs.Common.{◌≡◌, ℕ, List, [], ◌∷◌, ◌++◌, refl, ap, ◌∙◌}
use Rattle.trace_ops.specs.declared.trace.Arg.{Arg}
use Rattle.trace_ops.specs.declared.trace.Arg.TheVariants.{Of, Const, Null, Class, Func, Ptr}
use Rattle.target_base.specs.declared.place.Place.{Place}
use Rattle.asm_select.specs.Chosen.{Setting, operand_of, set_operand, moves_code, constants_code, places_for, arg_places, for_call, jump_code}

pub operand_same : (c : Setting) (k : ℕ) (all : List Arg) (a : Arg) → operand_of (for_call c k all) a ≡ operand_of c a
operand_same c k all (Of b) = refl
operand_same c k all (Const w) = refl
operand_same c k all Null = refl
operand_same c k all (Class n) = refl
operand_same c k all (Func f) = refl
operand_same c k all (Ptr n) = refl

constants_same : (c : Setting) (k : ℕ) (all args : List Arg) (ps : List Place) → constants_code (for_call c k all) args (places_for args ps) ≡ constants_code c args ps
constants_same c k all [] [] = refl
constants_same c k all [] (p ∷ ps) = refl
constants_same c k all (a ∷ args) [] = refl
constants_same c k all (a ∷ args) (p ∷ ps) =
    ap (λ o. set_operand p o ++ constants_code (for_call c k all) args (places_for args ps)) (operand_same c k all a)
    ∙ ap (λ l. set_operand p (operand_of c a) ++ l) (constants_same c k all args ps)

pub calls_same : (c : Setting) (k : ℕ) (args : List Arg) → jump_code (for_call c k args) args ≡ moves_code (c.call_moves k) ++ constants_code c args arg_places
calls_same c k args = ap (λ l. moves_code (c.call_moves k) ++ l) (constants_same c k args args arg_places)
