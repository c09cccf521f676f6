-- The order in which virtual objects are made and filled.
use Rattle.std.specs.Prelude.{◌≡◌, ℕ, suc, ◌<◌, ◌==◌, if◌then◌else◌, List, [], ◌∷◌, ◌++◌, Option, Some, map, slice_get}
use Rattle.std.specs.List.{list_any}
use Rattle.trace_ops.specs.declared.piece.Val.{Val}
use Rattle.trace_ops.specs.declared.piece.Val.TheVariants as l
use Rattle.trace_ops.specs.declared.piece.Shape.{Shape}
use Rattle.virtuals.specs.Shapes.{Has, is_zero, parts_of, IsLive}
use Rattle.virtuals.specs.declared.order.Forced.{Forced}
use Rattle.virtuals.specs.declared.order.Forced.TheVariants.{Make, Fill}

-- a virtual object leads to another by a path of parts
abbrev pub Leads : List (Option Shape) → ℕ → ℕ → List ℕ → Type 0
Leads shapes from to [] = from ≡ to
Leads shapes from to (n ∷ ns) = Has (parts_of shapes from) (l.Virtual n) × Leads shapes n to ns

abbrev pub Reaches : List (Option Shape) → ℕ → ℕ → Type 0
Reaches shapes from to = (path : List ℕ) × Leads shapes from to path

-- no number stands twice
abbrev pub IsOnce : List ℕ → Type 0
IsOnce [] = Unit {0}
IsOnce (n ∷ ns) = (Has ns n → ⊥) × IsOnce ns

-- each virtual object to which one leads, once
pub record IsReach (shapes : List (Option Shape)) (id : ℕ) (made : List ℕ) : Type 0 where
  pub distinct : IsOnce made
  pub complete : (n : ℕ) → Reaches shapes id n → Has made n
  pub sound : (n : ℕ) → Has made n → Reaches shapes id n
  pub live : (n : ℕ) → Has made n → IsLive shapes n

-- the stores of the parts other than 0 and NULL, from part k on
abbrev pub fills_from : ℕ → ℕ → List Val → List Forced
fills_from n k [] = []
fills_from n k (x ∷ xs) = if is_zero x then fills_from n (suc k) xs else Fill n k x ∷ fills_from n (suc k) xs

abbrev pub all_fills : List (Option Shape) → List ℕ → List Forced
all_fills shapes [] = []
all_fills shapes (n ∷ ns) = fills_from n 0 (parts_of shapes n) ++ all_fills shapes ns

-- each virtual object to which one leads is made once, and then all are filled
abbrev pub IsOrder : List (Option Shape) → ℕ → List Forced → Type 0
IsOrder shapes id order = (made : List ℕ) × IsReach shapes id made × (order ≡ map Make made ++ all_fills shapes made)

-- What the work list becomes

abbrev pub added : List ℕ → ℕ → List ℕ
added work n = if list_any (λ m. m == n) work then work else work ++ n ∷ []

abbrev pub added_part : List ℕ → Val → List ℕ
added_part work (l.Known x) = work
added_part work (l.Virtual n) = added work n

abbrev pub added_parts : List ℕ → List Val → List ℕ
added_parts work [] = work
added_parts work (x ∷ xs) = added_parts (added_part work x) xs

-- whether a virtual object is on the work list
abbrev pub AreMarks : List ℕ → List ℕ → Type 0
AreMarks work marks = (n : ℕ) → list_any (λ m. n == m) marks ≡ list_any (λ m. m == n) work

-- a part names no virtual object past the marks
abbrev pub IsBelow : ℕ → Val → Type 0
IsBelow count (l.Known x) = Unit {0}
IsBelow count (l.Virtual n) = n < count

abbrev pub AreBelow : ℕ → List Val → Type 0
AreBelow count [] = Unit {0}
AreBelow count (x ∷ xs) = IsBelow count x × AreBelow count xs

-- the parts of the first of the work list are on it too
pub record IsSearch (shapes : List (Option Shape)) (id done : ℕ) (work : List ℕ) : Type 0 where
  pub distinct : IsOnce work
  pub live : (n : ℕ) → Has work n → IsLive shapes n
  pub sound : (n : ℕ) → Has work n → Reaches shapes id n
  pub starts : Has work id
  pub closed : (k n m : ℕ) → k < done → slice_get work k ≡ Some n → Has (parts_of shapes n) (l.Virtual m) → Has work m
