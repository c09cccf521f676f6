-- The boxes of a snapshot are those of its values.
use Rattle.std.proofs.Common.{◌≡◌, List, [], ◌∷◌, ◌++◌, refl, sym, ap, subst, ◌∙◌}
use Rattle.std.specs.List.{All, flat_map}
use Rattle.std.proofs.lemmas.List.{append-nil}
use Rattle.std.proofs.lemmas.List.Concat.{flat_map-append}
use Rattle.std.proofs.lemmas.List.Elements.{All-nil, All-cons, All-head, All-tail, All-append}
use Rattle.lists.proofs.Alls.{all_left, all_right}
use Rattle.trace_ops.specs.declared.trace.BoxId.{BoxId}
use Rattle.trace_ops.specs.declared.piece.Val.{Val}
use Rattle.trace_ops.specs.declared.piece.OptFrame.{OptFrame}
use Rattle.trace_ops.specs.declared.piece.Shape.{Shape}
use Rattle.trace_ops.specs.declared.piece.Pending.{Pending}
use Rattle.trace_ops.specs.declared.piece.Snapshot.{Snapshot}
use Rattle.trace_ops.specs.Parts.{boxes_of_arg, boxes_of_val, boxes_of_frame, boxes_of_shape, boxes_of_pending, boxes_of}
use Rattle.resume_numbering.specs.Values.{values_of_store, values_in}

nested : {X : Type 0} (f : X → List Val) (xs : List X) → flat_map boxes_of_val (flat_map f xs) ≡ flat_map (λ x. flat_map boxes_of_val (f x)) xs
nested f [] = refl
nested f (x ∷ xs) = flat_map-append boxes_of_val (f x) (flat_map f xs) ∙ ap (λ (r : List BoxId). flat_map boxes_of_val (f x) ++ r) (nested f xs)

store_boxes : (p : Pending) → flat_map boxes_of_val (values_of_store p) ≡ boxes_of_pending p
store_boxes p = ap (λ (r : List BoxId). boxes_of_arg p.base ++ r) (append-nil (boxes_of_val p.value))

stores : (ps : List Pending) → flat_map boxes_of_val (flat_map values_of_store ps) ≡ flat_map boxes_of_pending ps
stores [] = refl
stores (p ∷ ps) =
    flat_map-append boxes_of_val (values_of_store p) (flat_map values_of_store ps)
    ∙ ap (λ (r : List BoxId). r ++ flat_map boxes_of_val (flat_map values_of_store ps)) (store_boxes p)
    ∙ ap (λ (r : List BoxId). boxes_of_pending p ++ r) (stores ps)

pub boxes_are : (s : Snapshot) → flat_map boxes_of_val (values_in s) ≡ boxes_of s
boxes_are s =
    let slots : OptFrame → List Val = λ (f : OptFrame). f.slots in
    let parts : Shape → List Val = λ (h : Shape). h.parts in
    let a = flat_map slots s.frames in
    let b = flat_map parts s.shapes in
    let d = flat_map values_of_store s.pending in
    flat_map-append boxes_of_val (a ++ b) d
    ∙ ap (λ (r : List BoxId). r ++ flat_map boxes_of_val d) (flat_map-append boxes_of_val a b)
    ∙ ap (λ (r : List BoxId). (r ++ flat_map boxes_of_val b) ++ flat_map boxes_of_val d) (nested slots s.frames)
    ∙ ap (λ (r : List BoxId). (flat_map boxes_of_frame s.frames ++ r) ++ flat_map boxes_of_val d) (nested parts s.shapes)
    ∙ ap (λ (r : List BoxId). (flat_map boxes_of_frame s.frames ++ flat_map boxes_of_shape s.shapes) ++ r) (stores s.pending)

-- what holds of each value whose boxes are such
pub values_from : (P : BoxId → Type 0) (Q : Val → Type 0) → ((v : Val) → All P (boxes_of_val v) → Q v) → (vs : List Val) → All P (flat_map boxes_of_val vs) → All Q vs
values_from P Q f [] h = All-nil Q
values_from P Q f (v ∷ vs) h =
    All-cons Q v vs (f v (all_left P (boxes_of_val v) (flat_map boxes_of_val vs) h)) (values_from P Q f vs (all_right P (boxes_of_val v) (flat_map boxes_of_val vs) h))

pub snapshot_from : (P : BoxId → Type 0) (Q : Val → Type 0) → ((v : Val) → All P (boxes_of_val v) → Q v) → (s : Snapshot) → All P (boxes_of s) → All Q (values_in s)
snapshot_from P Q f s h = values_from P Q f (values_in s) (subst (All P) (sym (boxes_are s)) h)

pub all_flat : {X Y : Type 0} (P : Y → Type 0) (f : X → List Y) (xs : List X) → All (λ x. All P (f x)) xs → All P (flat_map f xs)
all_flat P f [] h = All-nil P
all_flat P f (x ∷ xs) h = All-append P (f x) (flat_map f xs) (All-head (λ y. All P (f y)) x xs h) (all_flat P f xs (All-tail (λ y. All P (f y)) x xs h))

pub flat_parts : {X Y : Type 0} (P : Y → Type 0) (f : X → List Y) (xs : List X) → All P (flat_map f xs) → All (λ x. All P (f x)) xs
flat_parts P f [] h = All-nil (λ x. All P (f x))
flat_parts P f (x ∷ xs) h = All-cons (λ y. All P (f y)) x xs (all_left P (f x) (flat_map f xs) h) (flat_parts P f xs (all_right P (f x) (flat_map f xs) h))
