-- Virtual objects in comparisons and guards of the trace.
use Rattle.std.specs.Prelude.{◌≡◌, ℕ, ◌==◌, false, [], ◌∷◌, Some, slice_get}
use Rattle.trace_ops.specs.declared.trace.Arg.{Arg}
use Rattle.trace_ops.specs.declared.piece.Val.TheVariants.{Virtual}
use Rattle.trace_ops.specs.declared.piece.Shape.{Shape}
use Rattle.trace_meaning.specs.declared.value.Value.{Value}
use Rattle.trace_meaning.specs.Values.{same_reference}
use Rattle.trace_meaning.specs.Passing.{is_null, has_class, has_class_or_null, is_structure_of}
use Rattle.opt_meaning.specs.Agrees.{ArgIs, ValIs, IsLive}
use Rattle.agreement.specs.Growing.{OfAgreeing}

-- a virtual object is no value of the piece, and is another one only where it has its number
abbrev pub VirtualsCompare : Type 0
VirtualsCompare = OfAgreeing (λ t known boxes at.
    (n : ℕ) (x : Value) → IsLive known.shapes n → ValIs at (Virtual n) x
    → ((a : Arg) (y : Value) → ArgIs at a y → (same_reference x y ≡ false) × (same_reference y x ≡ false))
    × ((m : ℕ) (y : Value) → IsLive known.shapes m → ValIs at (Virtual m) y → same_reference x y ≡ (n == m)))

-- it isn't null, and is of its shape's size
abbrev pub VirtualsPass : Type 0
VirtualsPass = OfAgreeing (λ t known boxes at.
    (n : ℕ) (s : Shape) (x : Value) → slice_get known.shapes n ≡ Some (Some s) → ValIs at (Virtual n) x
    → (is_null (x ∷ []) ≡ Some false)
    × ((size : ℕ) → has_class at.rec.objects (Some size) (x ∷ []) ≡ Some (is_structure_of size s.of))
    × ((size : ℕ) → has_class_or_null at.rec.objects (Some size) (x ∷ []) ≡ Some (is_structure_of size s.of)))
