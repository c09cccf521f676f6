-- What a pure integer operation gives.
use Rattle.std.specs.Prelude.{ℕ, ℤ, pos, neg_ℤ, ◌+ℤ◌, ◌-ℤ◌, ◌*ℤ◌, Option, Some, None, List, [], ◌∷◌}
use Rattle.trace_ops.specs.declared.code.OpCode.{OpCode}
use Rattle.trace_ops.specs.declared.code.OpCode.TheVariants as code
use Rattle.trace_ops.specs.declared.facts.Want.TheVariants as want
use Rattle.trace_ops.specs.declared.facts.Takes.{Takes}
use Rattle.trace_ops.specs.declared.facts.Takes.TheVariants as takes
use Rattle.trace_ops.specs.declared.facts.Cites.{Cites}
use Rattle.trace_ops.specs.declared.facts.Cites.TheVariants as cites
use Rattle.trace_ops.specs.declared.facts.Part.{Part}
use Rattle.trace_ops.specs.declared.facts.Part.TheVariants as part
use Rattle.trace_ops.specs.Facts.{takes_of, cites_of, part_of}
use Rattle.trace_ops.specs.Words.{wrap, conjoined, disjoined, toggled, shifted_left, shifted_right, unsigned_right, less, at_most, equal, unequal, unsigned_less, unsigned_at_most, inverted, at_least_zero}

-- of one word
abbrev pub unary : OpCode → ℤ → Option ℤ
unary code.IntIsZero a = Some (equal a (pos 0))
unary code.IntIsTrue a = Some (unequal a (pos 0))
unary code.IntNeg a = Some (wrap (neg_ℤ a))
unary code.IntInvert a = Some (inverted a)
unary code.IntForceGeZero a = Some (at_least_zero a)
unary code.SameAsI a = Some a
unary _ a = None

-- of two words
abbrev pub binary : OpCode → ℤ → ℤ → Option ℤ
binary code.IntAdd a b = Some (wrap (a +ℤ b))
binary code.IntSub a b = Some (wrap (a -ℤ b))
binary code.IntMul a b = Some (wrap (a *ℤ b))
binary code.IntAnd a b = Some (conjoined a b)
binary code.IntOr a b = Some (disjoined a b)
binary code.IntXor a b = Some (toggled a b)
binary code.IntLshift a b = Some (shifted_left a b)
binary code.IntRshift a b = Some (shifted_right a b)
binary code.UintRshift a b = Some (unsigned_right a b)
binary code.IntLt a b = Some (less a b)
binary code.IntLe a b = Some (at_most a b)
binary code.IntEq a b = Some (equal a b)
binary code.IntNe a b = Some (unequal a b)
binary code.IntGt a b = Some (less b a)
binary code.IntGe a b = Some (at_most b a)
binary code.UintLt a b = Some (unsigned_less a b)
binary code.UintLe a b = Some (unsigned_at_most a b)
binary code.UintGt a b = Some (unsigned_less b a)
binary code.UintGe a b = Some (unsigned_at_most b a)
binary _ a b = None

-- of as many words as the operation takes
abbrev pub word_of : OpCode → List ℤ → Option ℤ
word_of operation (a ∷ []) = unary operation a
word_of operation (a ∷ b ∷ []) = binary operation a b
word_of operation _ = None

-- how many words an operation of this part takes, where it takes words alone and cites nothing
abbrev pub words_taken : Part → Cites → Takes → Option ℕ
words_taken part.Plain cites.Nothing (takes.One want.Int) = Some 1
words_taken part.Plain cites.Nothing (takes.Two want.Int want.Int) = Some 2
words_taken _ _ _ = None

-- how many words a pure integer operation takes
abbrev pub integer_arity : OpCode → Option ℕ
integer_arity operation = words_taken (part_of operation) (cites_of operation) (takes_of operation)
