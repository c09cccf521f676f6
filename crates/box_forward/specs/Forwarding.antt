-- The meaning of a table of what stands for each box.
use Rattle.std.specs.Prelude.{◌≡◌, ◌≢◌, ℕ, ◌<◌, List, Option, Some, None, length, slice_get, if◌then◌else◌, ◌==◌}
use Rattle.trace_ops.specs.declared.trace.Arg.{Arg}
use Rattle.trace_ops.specs.declared.trace.Arg.TheVariants.{Of, Const, Null, Class, Func, Ptr}

-- an entry of the table, for the argument a
abbrev pub entry_or : Option (Option Arg) → Arg → Arg
entry_or None a = a
entry_or (Some None) a = a
entry_or (Some (Some r)) a = r

-- what stands for an argument
abbrev pub followed : List (Option Arg) → Arg → Arg
followed table (Of b) = entry_or (slice_get table b.number) (Of b)
followed table (Const w) = Const w
followed table Null = Null
followed table (Class n) = Class n
followed table (Func n) = Func n
followed table (Ptr n) = Ptr n

-- `to` in place of the box `from`
abbrev pub instead : ℕ → Arg → Arg → Arg
instead from to (Of b) = if b.number == from then to else Of b
instead from to (Const w) = Const w
instead from to Null = Null
instead from to (Class n) = Class n
instead from to (Func n) = Func n
instead from to (Ptr n) = Ptr n

-- the same of an entry
abbrev pub redirected : ℕ → Arg → Option Arg → Option Arg
redirected from to None = None
redirected from to (Some a) = Some (instead from to a)

-- a box of the table, or no box
abbrev pub IsWithin : List (Option Arg) → Arg → Type 0
IsWithin table (Of b) = b.number < length table
IsWithin table (Const w) = Unit {0}
IsWithin table Null = Unit {0}
IsWithin table (Class n) = Unit {0}
IsWithin table (Func n) = Unit {0}
IsWithin table (Ptr n) = Unit {0}

-- not the box `from`
abbrev pub IsApart : ℕ → Arg → Type 0
IsApart from (Of b) = b.number ≢ from
IsApart from (Const w) = Unit {0}
IsApart from Null = Unit {0}
IsApart from (Class n) = Unit {0}
IsApart from (Func n) = Unit {0}
IsApart from (Ptr n) = Unit {0}

-- no box
abbrev pub IsConstant : Arg → Type 0
IsConstant (Of b) = ⊥
IsConstant (Const w) = Unit {0}
IsConstant Null = Unit {0}
IsConstant (Class n) = Unit {0}
IsConstant (Func n) = Unit {0}
IsConstant (Ptr n) = Unit {0}

-- a box of the table that stands for itself, or no box
abbrev pub IsSettledAt : List (Option Arg) → Arg → Type 0
IsSettledAt table (Of b) = slice_get table b.number ≡ Some None
IsSettledAt table (Const w) = Unit {0}
IsSettledAt table Null = Unit {0}
IsSettledAt table (Class n) = Unit {0}
IsSettledAt table (Func n) = Unit {0}
IsSettledAt table (Ptr n) = Unit {0}

-- what stands for a box stands for itself
abbrev pub IsSettled : List (Option Arg) → Type 0
IsSettled table = (k : ℕ) (r : Arg) → slice_get table k ≡ Some (Some r) → IsSettledAt table r

-- the new table has the same boxes, and each that stood for itself still does, but the box `from`
pub record IsKeptBut (from : ℕ) (old new : List (Option Arg)) : Type 0 where
  pub same_length : length new ≡ length old
  pub own : (k : ℕ) → k ≢ from → slice_get old k ≡ Some None → slice_get new k ≡ Some None
