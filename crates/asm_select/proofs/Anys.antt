-- Whether any item of lists that are put together passes a test.
use Rattle.std.proofs.Common.{◌≡◌, Bool, true, false, List, [], ◌∷◌, ◌++◌, refl, sym, ap, ◌∙◌}
use Rattle.std.specs.Prelude.{◌||◌}
use Rattle.std.specs.List.{flat_map, list_any}
use Rattle.trace_ops.specs.declared.trace.BoxId.{BoxId}
use Rattle.trace_ops.specs.declared.trace.Arg.{Arg}
use Rattle.trace_ops.specs.declared.trace.Arg.TheVariants.{Of, Const, Null, Class, Func, Ptr}
use Rattle.trace_ops.specs.declared.piece.Val.{Val}
use Rattle.trace_ops.specs.declared.piece.Val.TheVariants.{Known, Virtual}
use Rattle.trace_ops.specs.declared.piece.OptFrame.{OptFrame}
use Rattle.trace_ops.specs.declared.piece.Shape.{Shape}
use Rattle.trace_ops.specs.declared.piece.Pending.{Pending}
use Rattle.trace_ops.specs.declared.piece.Snapshot.{Snapshot}
use Rattle.trace_ops.specs.Parts.{boxes_of_arg, boxes_of_val, boxes_of_frame, boxes_of_shape, boxes_of_pending, boxes_of}
use Rattle.trace_meaning.specs.Boxes.{same_box}
use Rattle.asm_select.specs.Needed.{arg_has, val_has, frame_has, shape_has, store_has, parts_have}

or_assoc : (a b c : Bool) → ((a || b) || c) ≡ (a || (b || c))
or_assoc true b c = refl
or_assoc false b c = refl

pub any_append : {X : Type 0} (p : X → Bool) (xs ys : List X) → list_any p (xs ++ ys) ≡ (list_any p xs || list_any p ys)
any_append p [] ys = refl
any_append p (x ∷ xs) ys = ap (λ b. p x || b) (any_append p xs ys) ∙ sym (or_assoc (p x) (list_any p xs) (list_any p ys))

or_false : (b : Bool) → b ≡ (b || false)
or_false true = refl
or_false false = refl

-- lists whose items pass a test where lists of theirs do
any_lists : {X Y : Type 0} (p : Y → Bool) (f : X → List Y) (q : X → Bool) (xs : List X) → ((x : X) → q x ≡ list_any p (f x)) → list_any q xs ≡ list_any p (flat_map f xs)
any_lists p f q [] h = refl
any_lists p f q (x ∷ xs) h = ap (λ b. b || list_any q xs) (h x) ∙ ap (λ b. list_any p (f x) || b) (any_lists p f q xs h) ∙ sym (any_append p (f x) (flat_map f xs))

arg_any : (r : BoxId) (a : Arg) → arg_has r a ≡ list_any (same_box r) (boxes_of_arg a)
arg_any r (Of b) = or_false (same_box r b)
arg_any r (Const w) = refl
arg_any r Null = refl
arg_any r (Class n) = refl
arg_any r (Func n) = refl
arg_any r (Ptr n) = refl

val_any : (r : BoxId) (x : Val) → val_has r x ≡ list_any (same_box r) (boxes_of_val x)
val_any r (Known a) = arg_any r a
val_any r (Virtual k) = refl

frame_any : (r : BoxId) (f : OptFrame) → frame_has r f ≡ list_any (same_box r) (boxes_of_frame f)
frame_any r f = any_lists (same_box r) boxes_of_val (val_has r) f.slots (val_any r)

shape_any : (r : BoxId) (s : Shape) → shape_has r s ≡ list_any (same_box r) (boxes_of_shape s)
shape_any r s = any_lists (same_box r) boxes_of_val (val_has r) s.parts (val_any r)

store_any : (r : BoxId) (p : Pending) → store_has r p ≡ list_any (same_box r) (boxes_of_pending p)
store_any r p =
    ap (λ b. b || val_has r p.value) (arg_any r p.base) ∙ ap (λ b. list_any (same_box r) (boxes_of_arg p.base) || b) (val_any r p.value)
    ∙ sym (any_append (same_box r) (boxes_of_arg p.base) (boxes_of_val p.value))

pub snapshot_any : (r : BoxId) (s : Snapshot) → parts_have r s ≡ list_any (same_box r) (boxes_of s)
snapshot_any r s =
    let p = same_box r in
    let fs = flat_map boxes_of_frame s.frames in
    let hs = flat_map boxes_of_shape s.shapes in
    let ps = flat_map boxes_of_pending s.pending in
    ap (λ b. b || (list_any (shape_has r) s.shapes || list_any (store_has r) s.pending)) (any_lists p boxes_of_frame (frame_has r) s.frames (frame_any r))
    ∙ ap (λ b. list_any p fs || (b || list_any (store_has r) s.pending)) (any_lists p boxes_of_shape (shape_has r) s.shapes (shape_any r))
    ∙ ap (λ b. list_any p fs || (list_any p hs || b)) (any_lists p boxes_of_pending (store_has r) s.pending (store_any r))
    ∙ sym (any_append p (fs ++ hs) ps ∙ ap (λ b. b || list_any p ps) (any_append p fs hs) ∙ or_assoc (list_any p fs) (list_any p hs) (list_any p ps))
