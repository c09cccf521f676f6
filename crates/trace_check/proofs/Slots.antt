-- Kinds of slots, frame by frame.
use Rattle.std.proofs.Common.{◌≡◌, ◌<◌, ◌≤◌, ◌-◌, IsTrue, Bool, true, false, subst, slice_index_or, List, [], ◌∷◌, ◌++◌, length, map, take, drop, Option, Some, refl, sym, ap, ◌∙◌, arith, suc}
use Rattle.std.specs.List.{flat_map}
use Rattle.trace_ops.specs.declared.trace.Kind.{Kind}
use Rattle.trace_ops.specs.declared.trace.BoxId.{BoxId}
use Rattle.trace_ops.specs.declared.trace.Arg.{Arg}
use Rattle.trace_ops.specs.declared.trace.Frame.{Frame}
use Rattle.trace_ops.specs.declared.trace.Op.{Op}
use Rattle.trace_ops.specs.Rules.{Receives}
use Rattle.std.proofs.lemmas.List.{take_all}
use Rattle.trace_ops.specs.Kinds.{kind_of_arg}

abbrev pub kinds : List BoxId → List (Option Kind)
kinds bs = map (λ (b : BoxId). Some b.kind) bs

head_of : {A : Type 0} → A → List A → A
head_of x [] = x
head_of x (z ∷ zs) = z

rest_of : {A : Type 0} → List A → List A
rest_of [] = []
rest_of (z ∷ zs) = zs

head_same : {A : Type 0} (x y : A) (xs ys : List A) → x ∷ xs ≡ y ∷ ys → (x ≡ y) × (xs ≡ ys)
unfolding head_of rest_of
head_same x y xs ys e = (ap (head_of x) e, ap rest_of e)

joined : (xs ys : List Arg) (bs : List BoxId) → length xs ≤ length bs → map kind_of_arg xs ≡ kinds (take (length xs) bs) → map kind_of_arg ys ≡ kinds (drop (length xs) bs) → map kind_of_arg (xs ++ ys) ≡ kinds bs
joined [] ys bs le e f = f
joined (x ∷ xs) ys [] le e f = absurd (omega (arith, le))
joined (x ∷ xs) ys (b ∷ bs) le e f =
    let parts = head_same (kind_of_arg x) (Some b.kind) (map kind_of_arg xs) (kinds (take (length xs) bs)) e in
    let rest = joined xs ys bs (omega (arith, le)) parts.1 f in
    λ i. parts.0 i ∷ rest i

parted : (xs ys : List Arg) (bs : List BoxId) → map kind_of_arg (xs ++ ys) ≡ kinds bs → (length xs ≤ length bs) × (map kind_of_arg xs ≡ kinds (take (length xs) bs)) × (map kind_of_arg ys ≡ kinds (drop (length xs) bs))
parted [] ys bs e = (omega arith, refl, e)
parted (x ∷ xs) ys [] e = absurd cc
parted (x ∷ xs) ys (b ∷ bs) e =
    let parts = head_same (kind_of_arg x) (Some b.kind) (map kind_of_arg (xs ++ ys)) (kinds bs) e in
    let rest = parted xs ys bs parts.1 in
    (omega (arith, rest.0), (λ i. parts.0 i ∷ rest.1 i), rest.2)

abbrev slots : List Frame → List Arg
slots fs = flat_map (λ (f : Frame). f.slots) fs

pub short : (f : Frame) (fs : List Frame) (bs : List BoxId) → length bs < length f.slots → map kind_of_arg (slots (f ∷ fs)) ≡ kinds bs → ⊥
short f fs bs lt e = omega (arith, lt, (parted f.slots (slots fs) bs e).0)

pub cut : (frames : List Frame) (f : Frame) → 1 ≤ length frames → f ≡ slice_index_or frames 0 f → frames ≡ f ∷ take (length frames - 1) (drop 1 frames)
cut [] f le e = absurd (omega (arith, le))
cut (x ∷ xs) f le e =
    let n : suc (length xs) - 1 ≡ length xs = omega arith in
    rw n (let all : xs ≡ take (length xs) xs = sym (take_all (length xs) xs (omega arith)) in λ i. sym e i ∷ all i)

abbrev pub FitsFrames : List Frame → List BoxId → Type 0
FitsFrames frames inputs = map kind_of_arg (slots frames) ≡ kinds inputs

abbrev pub FitsSlots : List Arg → List BoxId → Type 0
FitsSlots xs bs = map kind_of_arg xs ≡ kinds bs

-- the first frame fits, so all do exactly where the rest does
pub then_rest : (frames rest : List Frame) (f : Frame) (xs : List Arg) (inputs front back : List BoxId) (r : Bool) → frames ≡ f ∷ rest → xs ≡ f.slots → front ≡ take (length xs) inputs → back ≡ drop (length xs) inputs → length xs ≤ length inputs → FitsSlots xs front → (IsTrue r → FitsFrames rest back) × (FitsFrames rest back → IsTrue r) → (IsTrue r → FitsFrames frames inputs) × (FitsFrames frames inputs → IsTrue r)
then_rest frames rest f xs inputs front back r e same a b le one more = subst (λ fs. (IsTrue r → FitsFrames fs inputs) × (FitsFrames fs inputs → IsTrue r)) (sym e) (subst (λ ys. (IsTrue r → FitsSlots (ys ++ slots rest) inputs) × (FitsSlots (ys ++ slots rest) inputs → IsTrue r)) same (
  (λ t. joined xs (slots rest) inputs le (one ∙ ap kinds a) (more.0 t ∙ ap kinds b)),
  (λ h. more.1 ((parted xs (slots rest) inputs h).2 ∙ sym (ap kinds b))),
))

-- the first frame doesn't fit, so all don't
pub else_rest : (frames rest : List Frame) (f : Frame) (xs : List Arg) (inputs front : List BoxId) (r : Bool) → frames ≡ f ∷ rest → xs ≡ f.slots → front ≡ take (length xs) inputs → r ≡ false → (FitsSlots xs front → IsTrue r) → (IsTrue r → FitsFrames frames inputs) × (FitsFrames frames inputs → IsTrue r)
else_rest frames rest f xs inputs front r e same a refused one = subst (λ fs. (IsTrue r → FitsFrames fs inputs) × (FitsFrames fs inputs → IsTrue r)) (sym e) (subst (λ ys. (IsTrue r → FitsSlots (ys ++ slots rest) inputs) × (FitsSlots (ys ++ slots rest) inputs → IsTrue r)) same (
  (λ t. absurd (let f : true ≡ false = sym t ∙ refused in cc)),
  (λ h. one ((parted xs (slots rest) inputs h).1 ∙ sym (ap kinds a))),
))

pub received : (inputs ins : List BoxId) (o : Option Op) (op : Op) (frames : List Frame) (r : Bool) → o ≡ Some op → frames ≡ op.snapshot → ins ≡ inputs → (IsTrue r → FitsFrames frames ins) × (FitsFrames frames ins → IsTrue r) → (IsTrue r → Receives inputs o) × (Receives inputs o → IsTrue r)
received inputs ins o op frames r e f g h = subst (λ p. (IsTrue r → Receives inputs p) × (Receives inputs p → IsTrue r)) (sym e) (subst (λ fs. (IsTrue r → FitsFrames fs inputs) × (FitsFrames fs inputs → IsTrue r)) f (subst (λ is. (IsTrue r → FitsFrames frames is) × (FitsFrames frames is → IsTrue r)) g h))
