-- Calls that agree have the same root numbers, whatever the heaps hold.
use Rattle.std.proofs.Common.{◌≡◌, ℕ, zero, suc, ◌+◌, ◌<◌, ◌≤◌, List, [], ◌∷◌, Some, length, slice_get, refl, ap, sym, ◌∙◌, arith}
use Rattle.std.proofs.lemmas.Option.{same_Some, slice_get_within}
use Rattle.trace_ops.specs.declared.table.ShapeOf.TheVariants as shape
use Rattle.trace_meaning.specs.declared.value.Object.{Object}
use Rattle.heap_shape.specs.declared.cell.Cell.{Cell}
use Rattle.heap_shape.specs.declared.cell.Ref.{Ref}
use Rattle.heap_shape.specs.Listing.{listing}
use Rattle.heap_shape.specs.Roots.{roots}
use Rattle.heap_shape.specs.Sameness.{Alongside, IsOneToOne, SameRootNumbers}
use Rattle.heap_shape.proofs.Along.{same_listing}
use Rattle.heap_shape.proofs.InOrder.{roots_alone}
use Rattle.heap_shape.proofs.RootsAlong.{same_roots}

abbrev blank : Object
blank = record { of = shape.Size 0; parts = [] }

abbrev blanks : ℕ → List Object
blanks zero = []
blanks (suc n) = blank ∷ blanks n

blank_at : (n k : ℕ) → k < n → slice_get (blanks n) k ≡ Some blank
blank_at zero k h = absurd (omega arith)
blank_at (suc n) zero h = refl
blank_at (suc n) (suc k) h = blank_at n k (omega arith)

-- more than each of them
abbrev above : List ℕ → ℕ
above [] = 0
above (x ∷ xs) = (x + 1) + above xs

is_above : (m : List ℕ) (x j : ℕ) → slice_get m x ≡ Some j → j < above m
is_above [] x j h = absurd (cc)
is_above (y ∷ ys) zero j h = let same : y ≡ j = same_Some y j h in omega arith
is_above (y ∷ ys) (suc x) j h = let rest : j < above ys = is_above ys x j h in omega arith

blanks_along : (n : ℕ) (m : List ℕ) → IsOneToOne n m → Alongside (slice_get m) (blanks (length m)) (blanks (above m))
blanks_along n m h = record {
  one_to_one = h.one_to_one;
  same = λ x j e. (blank, blank_at (length m) x (slice_get_within m x j e), blank, blank_at (above m) j (is_above m x j e), refl, tt);
}

pub same_numbers : SameRootNumbers
same_numbers m n xs ys one other h calls =
    let along = same_roots (slice_get m) n xs ys [] [] h.prebuilt calls tt in
    roots_alone one (roots n xs [])
    ∙ sym (roots_alone (blanks (length m)) (roots n xs []))
    ∙ ap (λ (l : List Cell × List Ref). l.1) (same_listing (slice_get m) (blanks (length m)) (blanks (above m)) (roots n xs []) (roots n ys []) (blanks_along n m h) along)
    ∙ roots_alone (blanks (above m)) (roots n ys [])
    ∙ sym (roots_alone other (roots n ys []))
