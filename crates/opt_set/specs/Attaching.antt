-- When a bridge is attached, when it isn't, and what there is then.
use Rattle.std.specs.Prelude.{◌≡◌, ℕ, List, Some, None, slice_get}
use Rattle.std.specs.Option.{IsSomeAnd}
use Rattle.trace_ops.specs.declared.trace.TraceSet.{TraceSet}
use Rattle.trace_ops.specs.Weights.{parent_at}
use Rattle.trace_ops.specs.declared.piece.OptTrace.{OptTrace}
use Rattle.lists.specs.Has.{Has}
use Rattle.loop_peel.specs.Peeling.{IsBridge}
use Rattle.opt_set.specs.Optimised.{Left, Optimised, with_bridge}

-- the guard's trace is a bridge that isn't attached
abbrev pub LacksParent : TraceSet → List ℕ → ℕ → Type 0
LacksParent set attached b = IsSomeAnd (parent_at set b) (λ p. IsBridge set p × (Has attached p → ⊥))

-- it isn't attached, and its guard's trace is a loop or an attached bridge
abbrev pub IsGranted : TraceSet → List ℕ → ℕ → Type 0
IsGranted set attached b = (Has attached b → ⊥) × (LacksParent set attached b → ⊥)

-- a bridge that had no pieces was attached
pub record IsOneMore (old new : Optimised) : Type 0 where
  pub bridge : ℕ
  pub pieces : OptTrace
  pub left : Left
  pub free : slice_get old.left bridge ≡ Some None
  pub is : new ≡ with_bridge old bridge pieces left
