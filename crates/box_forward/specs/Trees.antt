-- Nodes in trees. The value at a root is the value of each node of its tree.
use Rattle.std.specs.Prelude.{◌≡◌, ℕ, zero, suc, ◌+◌, ◌-◌, ◌<◌, ◌≤◌, ◌^◌, Bool, true, false, ◌&&◌, ◌==◌, nat_lt, if◌then◌else◌, List, [], ◌∷◌, Some, length, slice_get, slice_index, slice_index_or, slice_set, ◌⊎◌}
use Rattle.trace_ops.specs.declared.trace.Arg.{Arg}
use Rattle.trace_ops.specs.declared.trace.Arg.TheVariants.{Of, Const, Null, Class, Func, Ptr}
use Rattle.trace_ops.specs.declared.trace.BoxId.{BoxId}
use Rattle.trace_ops.specs.declared.trace.Kind.{Kind}
use Rattle.trace_ops.specs.declared.trace.Kind.TheVariants.{Int, Ref}

-- what is n parents above a node; a root is its own parent
abbrev pub root : ℕ → List ℕ → ℕ → ℕ
root zero parents k = k
root (suc n) parents k = root n parents (slice_index parents k)

abbrev pub value_in : ℕ → List ℕ → List Arg → ℕ → Arg
value_in n parents values k = slice_index_or values (root n parents k) Null

-- the values of so many nodes from k on
abbrev pub values_from : ℕ → List ℕ → List Arg → ℕ → ℕ → List Arg
values_from n parents values k zero = []
values_from n parents values k (suc count) = value_in n parents values k ∷ values_from n parents values (suc k) count

-- how many of these parents, counted from k, are their own
abbrev pub count_roots : ℕ → List ℕ → ℕ
count_roots k [] = 0
count_roots k (p ∷ ps) = (if p == k then 1 else 0) + count_roots (suc k) ps

abbrev pub AreWithin : List ℕ → Type 0
AreWithin parents = (k : ℕ) → k < length parents → slice_index parents k < length parents

-- no path is longer than n, and no box is the value of two trees
pub record IsForest (n : ℕ) (parents sizes : List ℕ) (values : List Arg) : Type 0 where
  pub each_size : length sizes ≡ length parents
  pub each_value : length values ≡ length parents
  pub small : length parents < 2 ^ 34
  pub within : AreWithin parents
  pub roots : (k : ℕ) → k < length parents → slice_index parents (root n parents k) ≡ root n parents k
  pub few : n + count_roots 0 parents ≤ length parents
  pub one : (j k : ℕ) (b : BoxId) → j < length parents → k < length parents → value_in n parents values j ≡ Of b → value_in n parents values k ≡ Of b
      → root n parents j ≡ root n parents k

-- one of two trees is a part of the other
abbrev pub IsLinked : List ℕ → ℕ → ℕ → List ℕ → ℕ → Type 0
IsLinked old a b new top = ((top ≡ b) × (new ≡ slice_set old a b)) ⊎ ((top ≡ a) × (new ≡ slice_set old b a))

abbrev pub same_kind : Kind → Kind → Bool
same_kind Int Int = true
same_kind Ref Ref = true
same_kind Int Ref = false
same_kind Ref Int = false

abbrev pub same_box : BoxId → BoxId → Bool
same_box a b = same_kind a.kind b.kind && (b.number == a.number)

-- `to` in place of that box
abbrev pub renamed : BoxId → Arg → Arg → Arg
renamed b to (Of c) = if same_box b c then to else Of c
renamed b to (Const w) = Const w
renamed b to Null = Null
renamed b to (Class n) = Class n
renamed b to (Func n) = Func n
renamed b to (Ptr n) = Ptr n

-- the value of a node at first: the integers' nodes stand before the references'
abbrev pub own_at : ℕ → ℕ → Arg
own_at boxes k = if nat_lt k boxes then Of (record { kind = Int; number = k }) else Of (record { kind = Ref; number = k - boxes })

pub record AreOwn (boxes : ℕ) (values : List Arg) : Type 0 where
  pub count : length values ≡ boxes + boxes
  pub each : (k : ℕ) → k < boxes + boxes → slice_get values k ≡ Some (own_at boxes k)
