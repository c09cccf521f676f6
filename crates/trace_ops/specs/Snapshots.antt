-- What holds of each snapshot of a piece.
use Rattle.std.specs.Prelude.{◌≡◌, ℕ, ◌+◌, ◌<◌, Option, Some, None, List, [], ◌∷◌, length, drop, nat_eq, nat_lt, if◌then◌else◌, IsSome}
use Rattle.std.specs.List.{All, flat_map}
use Rattle.trace_ops.specs.declared.table.Table.{Table}
use Rattle.trace_ops.specs.declared.piece.Val.{Val}
use Rattle.trace_ops.specs.declared.piece.Val.TheVariants.{Known, Virtual}
use Rattle.trace_ops.specs.declared.piece.Shape.{Shape}
use Rattle.trace_ops.specs.declared.piece.OptFrame.{OptFrame}
use Rattle.trace_ops.specs.declared.piece.Pending.{Pending}
use Rattle.trace_ops.specs.declared.piece.Snapshot.{Snapshot}
use Rattle.trace_ops.specs.Kinds.{kind_of_arg, kind_of_val, NamesShape, NamesVal}
use Rattle.trace_ops.specs.Lawful.{IsNumbered, IsShapeLawful, IsPendingLawful, NamesPending}

abbrev pub and_then : Option ℕ → (ℕ → Option ℕ) → Option ℕ
and_then None f = None
and_then (Some n) f = f n

-- where n virtuals have a number: a further one has the number n, and none is skipped
abbrev pub numbered : ℕ → Val → Option ℕ
numbered n (Known a) = Some n
numbered n (Virtual k) = if nat_lt k n then Some n else (if nat_eq k n then Some (n + 1) else None)

abbrev pub numbered_all : ℕ → List Val → Option ℕ
numbered_all n [] = Some n
numbered_all n (v ∷ vs) = and_then (numbered n v) (λ m. numbered_all m vs)

-- the parts of each numbered shape from place s on, those that are numbered on the way among them
abbrev pub numbered_parts : ℕ → ℕ → List Shape → Option ℕ
numbered_parts s n [] = Some n
numbered_parts s n (h ∷ hs) = if nat_lt s n then and_then (numbered_all n h.parts) (λ m. numbered_parts (s + 1) m hs) else Some n

-- a stored value, and the parts of what is numbered by it
abbrev pub numbered_store : List Shape → ℕ → Pending → Option ℕ
numbered_store shapes n p = and_then (numbered n p.value) (λ m. numbered_parts n m (drop n shapes))

abbrev pub numbered_stores : List Shape → ℕ → List Pending → Option ℕ
numbered_stores shapes n [] = Some n
numbered_stores shapes n (p ∷ ps) = and_then (numbered_store shapes n p) (λ m. numbered_stores shapes m ps)

-- how many virtuals get a number where a snapshot is read in its order: what the frames name, then the parts of what has a
-- number, and then each stored value with the parts that it brings
abbrev pub count_of_virtuals : Snapshot → Option ℕ
count_of_virtuals s =
    and_then (numbered_all 0 (flat_map (λ (f : OptFrame). f.slots) s.frames)) (λ n.
    and_then (numbered_parts 0 n s.shapes) (λ m.
    numbered_stores s.shapes m s.pending))

-- an integer, a reference or a virtual: no class and no function
abbrev pub IsValue : Val → Type 0
IsValue v = IsSome (kind_of_val v)

-- a snapshot that a guard of a piece may have
pub record IsSnapshotSound (t : Table) (s : Snapshot) : Type 0 where
  pub has_a_frame : 0 < length s.frames
  pub slots_numbered : All (λ (f : OptFrame). All (IsNumbered (length s.shapes)) f.slots) s.frames
  pub parts_numbered : All (λ (h : Shape). All (IsNumbered (length s.shapes)) h.parts) s.shapes
  pub stores_numbered : All (λ (p : Pending). IsNumbered (length s.shapes) p.value) s.pending
  pub virtuals_in_order : count_of_virtuals s ≡ Some (length s.shapes)
  pub shapes_lawful : All (IsShapeLawful t) s.shapes
  pub slots_are_values : All (λ (f : OptFrame). All IsValue f.slots) s.frames
  pub parts_are_values : All (λ (h : Shape). All IsValue h.parts) s.shapes
  pub stored_are_values : All (λ (p : Pending). IsValue p.value) s.pending
  pub bases_are_values : All (λ (p : Pending). IsSome (kind_of_arg p.base)) s.pending
  pub stores_lawful : All (IsPendingLawful t) s.pending

-- the rows that a snapshot names are there: those of prebuilt objects, of shapes and of the spots of pending stores
pub record NamesSnapshot (t : Table) (s : Snapshot) : Type 0 where
  pub slots : All (λ (f : OptFrame). All (NamesVal t) f.slots) s.frames
  pub shapes : All (λ (h : Shape). NamesShape t h.of) s.shapes
  pub parts : All (λ (h : Shape). All (NamesVal t) h.parts) s.shapes
  pub stores : All (NamesPending t) s.pending
