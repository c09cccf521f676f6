-- How many distinct constants there are.
use Rattle.std.specs.Prelude.{ℕ, ◌+◌, ◌*◌, ◌≤◌, List, [], ◌∷◌, ◌++◌, length}
use Rattle.std.specs.List.{All, AllByRecursion, Contains, flat_map}
use Rattle.trace_ops.specs.declared.trace.Arg.{Arg}
use Rattle.trace_ops.specs.declared.trace.Arg.TheVariants as arg
use Rattle.trace_ops.specs.declared.trace.TraceSet.{TraceSet}
use Rattle.trace_ops.specs.declared.piece.Shape.{Shape}
use Rattle.trace_ops.specs.declared.piece.Pending.{Pending}
use Rattle.trace_ops.specs.declared.piece.Fact.{Fact}
use Rattle.trace_ops.specs.declared.piece.Fact.TheVariants as fact
use Rattle.trace_ops.specs.declared.piece.Entry.{Entry}
use Rattle.trace_ops.specs.declared.piece.Piece.{Piece}
use Rattle.trace_ops.specs.Sound.{AreApart, constants_in_arg, constants_in_val, constants_in, snapshots_in}
use Rattle.trace_ops.specs.Weights.{own_weight}

-- what a fact names besides boxes
abbrev pub constants_in_fact : Fact → List Arg
constants_in_fact (fact.Between b low high) = arg.Const low ∷ arg.Const high ∷ []
constants_in_fact (fact.Nonnull b) = []
constants_in_fact (fact.ClassOf b k) = arg.Class k ∷ []
constants_in_fact (fact.Holds base spot value) = constants_in_arg base ++ constants_in_arg value
constants_in_fact (fact.Same code args value) = flat_map constants_in_arg args ++ constants_in_arg value

-- the constants of an entry, as often as they stand there
abbrev pub constants_of : Entry → List Arg
constants_of e =
    flat_map constants_in_val e.values
    ++ flat_map (λ (s : Shape). flat_map constants_in_val s.parts) e.shapes
    ++ flat_map (λ (p : Pending). constants_in_arg p.base ++ constants_in_val p.value) e.pending
    ++ flat_map constants_in_fact e.facts

-- at most n of these are distinct
abbrev pub AreAtMost : ℕ → List Arg → Type 0
AreAtMost n xs = (some : List Arg) → AreApart some → All (Contains xs) some → length some ≤ n

-- the second has at most so many distinct ones more than the first
abbrev pub AreFewMore : ℕ → List Arg → List Arg → Type 0
AreFewMore m before after = (n : ℕ) → AreAtMost n before → AreAtMost (n + m) after

-- each entry that is given, and all snapshots together, have at most eight times the weight of the trace's own operations
-- distinct constants more than the entry
pub record AddsFewConstants (set : TraceSet) (trace : ℕ) (e : Entry) (piece : Piece) (entries : List (ℕ × Entry)) (at_end : Entry) : Type 0 where
  pub guards : AllByRecursion (λ x. AreFewMore (8 * own_weight set trace) (constants_of e) (constants_of x.1)) entries
  pub ending : AreFewMore (8 * own_weight set trace) (constants_of e) (constants_of at_end)
  pub snapshots : AreFewMore (8 * own_weight set trace) (constants_of e) (flat_map constants_in (snapshots_in piece))
