-- The laws of objects in arenas on which the lemmas rest, and words by other addresses.
use Rattle.std.proofs.Common.{◌≡◌, ℕ, ◌<◌, List, [], ◌∷◌, map, refl, ap, ◌∙◌, pos}
use Rattle.std.specs.List.{All}
use Rattle.std.proofs.lemmas.List.Elements.{All-head, All-tail}
use Rattle.trace_meaning.specs.declared.value.Value.{Value}
use Rattle.trace_meaning.specs.declared.value.Value.TheVariants as v
use Rattle.arena_objects.specs.Layout.{word_of}
use Rattle.arena_objects.specs.Standing.{IsPart}
use Rattle.arena_objects.specs.Walked.{AddressesNumber}
use Rattle.arena_objects.specs.Laws.{AddressesAreApart, AllocationsStand, FilledStands, ObjectsAreNumbered, PartsStay, ReferencesAreTold, SizesMoveNothing, SpotsAreWritten, TakenIsThere, WalkFinds, WordsAreAdded}

pub record ArenaLaws : Type 0 where
  pub apart : AddressesAreApart
  pub stand : AllocationsStand
  pub added : WordsAreAdded
  pub stay : PartsStay
  pub filled : FilledStands
  pub sizes : SizesMoveNothing
  pub written : SpotsAreWritten
  pub there : TakenIsThere
  pub walk : WalkFinds
  pub numbers : ObjectsAreNumbered
  pub told : ReferencesAreTold
  pub found : AddressesNumber

-- addresses agree below a number
abbrev pub Agree : ℕ → (ℕ → ℕ) → (ℕ → ℕ) → Type 0
Agree m f g = (k : ℕ) → k < m → f k ≡ g k

pub word_same : (m : ℕ) (f g : ℕ → ℕ) (x : Value) → Agree m f g → IsPart m x → word_of f x ≡ word_of g x
word_same m f g (v.Int z) h w = refl
word_same m f g v.Null h w = refl
word_same m f g (v.Obj n) h w = ap pos (h n w)

pub words_same : (m : ℕ) (f g : ℕ → ℕ) (xs : List Value) → Agree m f g → All (IsPart m) xs → map (word_of f) xs ≡ map (word_of g) xs
words_same m f g [] h a = refl
words_same m f g (x ∷ xs) h a =
    ap (λ w. w ∷ map (word_of f) xs) (word_same m f g x h (All-head (IsPart m) x xs a))
    ∙ ap (λ l. word_of g x ∷ l) (words_same m f g xs h (All-tail (IsPart m) x xs a))
