-- Rows in order of first use.
use Rattle.std.specs.Prelude.{◌≡◌, ℕ, ◌+◌, ◌<◌, ◌⊎◌, List, [], ◌∷◌, Option, Some, None, slice_get, reverse}
use Rattle.std.specs.List.{AllZip, flat_map}
use Rattle.resume_numbering.specs.declared.rows.FrameRow.{FrameRow}
use Rattle.resume_numbering.specs.declared.rows.GuardRow.{GuardRow}

-- where n numbers are in use, each use is of one of them or of the next; then m are in use
abbrev pub InOrder : ℕ → List ℕ → ℕ → Type 0
InOrder n [] m = n ≡ m
InOrder n (k ∷ ks) m = ((k < n) × InOrder n ks m) ⊎ ((k ≡ n) × InOrder (n + 1) ks m)

-- the rows from one on by parents
abbrev pub IsChain : List FrameRow → Option ℕ → List ℕ → Type 0
IsChain rows at [] = at ≡ None
IsChain rows at (k ∷ ks) = (row : FrameRow) × (at ≡ Some k) × (slice_get rows k ≡ Some row) × IsChain rows row.parent ks

-- the guards use the rows of their frames, outermost first, in order, from n to m rows in use
pub record UsesFrames (rows : List FrameRow) (guards : List GuardRow) (n m : ℕ) : Type 0 where
  pub uses : List (List ℕ)
  pub chains : AllZip (λ (g : GuardRow) ks. IsChain rows (Some g.frame) (reverse ks)) guards uses
  pub in_order : InOrder n (flat_map (λ ks. ks) uses) m

-- and those of their virtuals
abbrev pub UsesVirtuals : List GuardRow → ℕ → ℕ → Type 0
UsesVirtuals guards n m = InOrder n (flat_map (λ (g : GuardRow). g.virtuals) guards) m
