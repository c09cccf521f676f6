-- In which order guards and what sets overflow stand.
use Rattle.std.specs.Prelude.{◌≡◌, ℕ, Bool, true, false, if◌then◌else◌, List, [], ◌∷◌}
use Rattle.trace_ops.specs.declared.code.OpCode.{OpCode}
use Rattle.trace_ops.specs.declared.trace.Op.{Op}
use Rattle.trace_ops.specs.declared.piece.OptOp.{OptOp}
use Rattle.trace_ops.specs.Classes.{is_overflowing, reads_overflow}
use Rattle.trace_ops.specs.Pieces.{sets_overflow, tests_overflow}

-- one guard counts one
abbrev pub counted : Bool → ℕ
counted q = if q then 1 else 0

-- each operation reads overflow exactly where the one before it set it; p and q say whether one is set before and behind
abbrev pub Pairs : Bool → List OptOp → Bool → Type 0
Pairs p [] q = p ≡ q
Pairs p (x ∷ xs) q = (tests_overflow x ≡ p) × Pairs (sets_overflow x) xs q

-- the last operation sets overflow
abbrev pub sets_behind : List Op → Bool
sets_behind [] = false
sets_behind (op ∷ []) = is_overflowing op.code
sets_behind (op ∷ next ∷ ops) = sets_behind (next ∷ ops)

-- what is printed of an operation sets and reads overflow where it does
abbrev pub IsPairOf : OpCode → List OptOp → Type 0
IsPairOf operation [] = (is_overflowing operation ≡ false) × (reads_overflow operation ≡ false)
IsPairOf operation (x ∷ more) = (sets_overflow x ≡ is_overflowing operation) × (tests_overflow x ≡ reads_overflow operation)
