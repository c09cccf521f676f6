-- What a table of representatives is where nodes have values and marks tell which boxes stand for another.
use Rattle.std.specs.Prelude.{◌≡◌, ℕ, suc, ◌+◌, ◌<◌, ◌^◌, Bool, false, if◌then◌else◌, List, [], ◌∷◌, Option, Some, None, length, slice_get}
use Rattle.trace_ops.specs.declared.trace.Arg.{Arg}
use Rattle.trace_ops.specs.declared.trace.Arg.TheVariants.{Of, Const, Null, Class, Func, Ptr}
use Rattle.trace_ops.specs.declared.trace.BoxId.{BoxId}
use Rattle.trace_ops.specs.declared.trace.Kind.{Kind}
use Rattle.trace_ops.specs.declared.trace.Kind.TheVariants.{Int, Ref}

-- the entries from box k on
abbrev pub table_from : ℕ → List Arg → List Bool → List (Option Arg)
table_from k values [] = []
table_from k values (b ∷ bs) = (if b then slice_get values k else None) ∷ table_from (suc k) values bs

-- the nodes of a box that stands for itself have it, and what any node has stands for itself
pub record IsTable (values : List Arg) (stood : List Bool) : Type 0 where
  pub count : length values ≡ length stood + length stood
  pub few : length stood < 2 ^ 32
  pub integers : (k : ℕ) → slice_get stood k ≡ Some false → slice_get values k ≡ Some (Of (record { kind = Int; number = k }))
  pub references : (k : ℕ) → slice_get stood k ≡ Some false → slice_get values (length stood + k) ≡ Some (Of (record { kind = Ref; number = k }))
  pub settled : (k : ℕ) (b : BoxId) → slice_get values k ≡ Some (Of b) → slice_get stood b.number ≡ Some false

abbrev pub node_by : Kind → ℕ → ℕ → ℕ
node_by Int boxes k = k
node_by Ref boxes k = boxes + k

-- where a box stands among nodes
abbrev pub node_at : ℕ → BoxId → ℕ
node_at boxes b = node_by b.kind boxes b.number

-- the two nodes of a box have it
abbrev pub IsOwnAt : List Arg → ℕ → ℕ → Type 0
IsOwnAt values boxes k = (slice_get values k ≡ Some (Of (record { kind = Int; number = k }))) × (slice_get values (boxes + k) ≡ Some (Of (record { kind = Ref; number = k })))

-- the node of a box has it
abbrev pub IsValueAt : List Arg → ℕ → Arg → Type 0
IsValueAt values boxes (Of b) = slice_get values (node_at boxes b) ≡ Some (Of b)
IsValueAt values boxes (Const w) = Unit {0}
IsValueAt values boxes Null = Unit {0}
IsValueAt values boxes (Class n) = Unit {0}
IsValueAt values boxes (Func n) = Unit {0}
IsValueAt values boxes (Ptr n) = Unit {0}
