-- Pairs of places by number, and tables that tell of them.
use Rattle.std.specs.Prelude.{◌≡◌, ℕ, ◌+◌, ◌<◌, ◌==◌, if◌then◌else◌, true, List, [], ◌∷◌, map, length, slice_index, slice_index_or}
use Rattle.std.specs.List.{AllByRecursion}
use Rattle.target_base.specs.declared.place.Place.{Place}
use Rattle.target_base.specs.declared.place.Place.TheVariants.{Word}
use Rattle.parallel_move.specs.Moving.{same}

-- places, each once, and pairs of a target and a source by their numbers
pub record Numbered : Type 0 where
  pub names : List Place
  pub pairs : List (ℕ × ℕ)

abbrev pub name : List Place → ℕ → Place
name names k = slice_index_or names k (Word 0)

abbrev pub named : List Place → ℕ × ℕ → Place × Place
named names pair = (name names pair.0, name names pair.1)

abbrev pub pairs_of : Numbered → List (Place × Place)
pairs_of rest = map (named rest.names) rest.pairs

-- each pair has its source where the word of that place is now
abbrev pub located : List ℕ → List (ℕ × ℕ) → List (ℕ × ℕ)
located at pairs = map (λ pair. (pair.0, slice_index at pair.1)) pairs

-- both numbers are below n
abbrev pub IsBelow : ℕ → ℕ × ℕ → Type 0
IsBelow n pair = (pair.0 < n) × (pair.1 < n)

-- one table leads back where the other leads
abbrev pub LeadsBack : ℕ → List ℕ → List ℕ → Type 0
LeadsBack n there back = (k : ℕ) → k < n → (slice_index there k < n) × (slice_index back (slice_index there k) ≡ k)

-- no two numbers are one place
abbrev pub AreApart : List Place → Type 0
AreApart names = (i j : ℕ) → i < length names → j < length names → same (name names i) (name names j) ≡ true → i ≡ j

-- how many pairs have that target, and that source
abbrev pub targets_at : ℕ → List (ℕ × ℕ) → ℕ
targets_at k [] = 0
targets_at k (pair ∷ pairs) = (if pair.0 == k then 1 else 0) + targets_at k pairs

abbrev pub sources_at : ℕ → List (ℕ × ℕ) → ℕ
sources_at k [] = 0
sources_at k (pair ∷ pairs) = (if pair.1 == k then 1 else 0) + sources_at k pairs

abbrev pub CountTargets : List ℕ → List (ℕ × ℕ) → Type 0
CountTargets counts pairs = (k : ℕ) → k < length counts → slice_index counts k ≡ targets_at k pairs

abbrev pub CountSources : List ℕ → List (ℕ × ℕ) → Type 0
CountSources counts pairs = (k : ℕ) → k < length counts → slice_index counts k ≡ sources_at k pairs

-- what is left of pairs: where the word of each place is now, whose word each place has, and counts
pub record IsRest (names : List Place) (pairs : List (ℕ × ℕ)) (targets sources at holds : List ℕ) : Type 0 where
  pub apart : AreApart names
  pub below : AllByRecursion (IsBelow (length names)) pairs
  pub forth : LeadsBack (length names) at holds
  pub back : LeadsBack (length names) holds at
  pub targets_counted : CountTargets targets pairs
  pub sources_counted : CountSources sources pairs
  pub each_target : length targets ≡ length names
  pub each_source : length sources ≡ length names
  pub each_at : length at ≡ length names
  pub each_held : length holds ≡ length names
