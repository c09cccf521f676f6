-- A write of a part changes no size.
use Rattle.std.proofs.Common.{◌≡◌, ℕ, zero, suc, ◌+◌, List, [], ◌∷◌, Some, length, drop, refl, sym, ◌∙◌, ap, set, slice_get}
use Rattle.std.specs.Prelude.{sum_by}
use Rattle.std.proofs.lemmas.List.Sums.{sum_by-cons}
use Rattle.std.proofs.Math.ListN.{length-set}
use Rattle.trace_ops.specs.InRange.{bytes_of_object}
use Rattle.trace_meaning.specs.declared.value.Value.{Value}
use Rattle.trace_meaning.specs.declared.value.Object.{Object}
use Rattle.trace_meaning.specs.World.{size_of}
use Rattle.trace_meaning.specs.Objects.{with_part}
use Rattle.trace_meaning.specs.Kept.{AreCounted}

kept_sum : {X : Type 0} (f : X → ℕ) (xs : List X) (n p : ℕ) (x y : X) → slice_get xs n ≡ Some x → f y ≡ f x → sum_by f (drop p (set xs n y)) ≡ sum_by f (drop p xs)
kept_sum f [] n p x y h e = refl
kept_sum f (w ∷ xs) zero zero x y h e = let same : w ≡ x = cc in sum_by-cons f y xs ∙ ap (λ k. k + sum_by f xs) (e ∙ ap f (sym same)) ∙ sym (sum_by-cons f w xs)
kept_sum f (w ∷ xs) zero (suc p) x y h e = refl
kept_sum f (w ∷ xs) (suc n) zero x y h e = sum_by-cons f w (set xs n y) ∙ ap (λ k. f w + k) (kept_sum f xs n zero x y h e) ∙ sym (sum_by-cons f w xs)
kept_sum f (w ∷ xs) (suc n) (suc p) x y h e = kept_sum f xs n p x y h e

pub counted-with_part : (xs : List Object) (n i p bytes : ℕ) (o : Object) (value : Value) → slice_get xs n ≡ Some o → AreCounted xs p bytes → AreCounted (set xs n (with_part o i value)) p bytes
counted-with_part xs n i p bytes o value h counted =
    let many : length (set xs n (with_part o i value)) ≡ length xs = length-set xs n (with_part o i value) in
    record {
      total = counted.total ∙ sym (kept_sum size_of xs n p o (with_part o i value) h (ap (λ k. bytes_of_object o.of k) (length-set o.parts i value)));
      before = rw many counted.before;
      small = rw many counted.small;
    }
