-- What an integer operation gives.
use Rattle.std.specs.Prelude.{ℕ, ℤ, Option, List}
use Rattle.trace_ops.specs.declared.code.OpCode.{OpCode}
use Rattle.trace_ops.specs.declared.code.OpCode.TheVariants as code
use Rattle.trace_ops.specs.Folds.{word_of, integer_arity}

-- the operation that gives the same word and doesn't look for overflow
abbrev pub plain_of : OpCode → OpCode
plain_of code.IntAddOvf = code.IntAdd
plain_of code.IntSubOvf = code.IntSub
plain_of code.IntMulOvf = code.IntMul
plain_of operation = operation

-- how many words an integer operation takes, with overflow or without
abbrev pub arity_of : OpCode → Option ℕ
arity_of operation = integer_arity (plain_of operation)

-- the word that an integer operation gives on words
abbrev pub value_of : OpCode → List ℤ → Option ℤ
value_of operation words = word_of (plain_of operation) words
