-- Objects that a sound snapshot rebuilds hold what they should.
use Rattle.std.proofs.Common.{◌≡◌, ◌⊎◌, inl, inr, ℕ, zero, suc, ◌+◌, ◌≤◌, Bool, true, false, List, [], ◌∷◌, ◌++◌, length, map, Option, Some, None, refl, sym, ap, ◌∙◌, subst, arith}
use Rattle.std.specs.Prelude.{slice_get, option_and_then, IsSome, IsSomeAnd}
use Rattle.std.specs.List.{All}
use Rattle.std.specs.Option.{option_map}
use Rattle.std.proofs.lemmas.List.{length-append}
use Rattle.std.proofs.lemmas.List.Elements.{All-head, All-tail}
use Rattle.lists.proofs.Alls.{all_at}
use Rattle.lists.proofs.Appends.{append_cases}
use Rattle.lists.proofs.Options.{some_same, none_some}
use Rattle.lists.proofs.Places.{get_map}
use Rattle.trace_ops.specs.Kinds.{kind_of_val, kind_of_field, kind_of_item, kind_of_spot, HasParts, NamesVal}
use Rattle.trace_ops.specs.Lawful.{IsNumbered, IsShapeLawful, IsPendingLawful, NamesPending}
use Rattle.trace_ops.specs.Rules.{IsStored}
use Rattle.trace_ops.specs.Parts.{parts_of}
use Rattle.trace_ops.specs.Snapshots.{IsSnapshotSound, NamesSnapshot}
use Rattle.trace_ops.specs.declared.code.OpCode.TheVariants as code
use Rattle.trace_ops.specs.declared.table.ArrayRow.{ArrayRow}
use Rattle.trace_ops.specs.declared.table.ShapeOf.{ShapeOf}
use Rattle.trace_ops.specs.declared.table.ShapeOf.TheVariants as shape
use Rattle.trace_ops.specs.declared.table.SizeRow.{SizeRow}
use Rattle.trace_ops.specs.declared.table.Table.{Table}
use Rattle.trace_ops.specs.declared.trace.Arg.TheVariants as arg
use Rattle.trace_ops.specs.declared.trace.BoxId.{BoxId}
use Rattle.trace_ops.specs.declared.trace.Descr.TheVariants as descr
use Rattle.trace_ops.specs.declared.trace.Kind.{Kind}
use Rattle.trace_ops.specs.declared.trace.Kind.TheVariants as kind
use Rattle.trace_ops.specs.declared.piece.Pending.{Pending}
use Rattle.trace_ops.specs.declared.piece.Shape.{Shape}
use Rattle.trace_ops.specs.declared.piece.Snapshot.{Snapshot}
use Rattle.trace_ops.specs.declared.piece.Spot.{Spot}
use Rattle.trace_ops.specs.declared.piece.Spot.TheVariants as spot
use Rattle.trace_ops.specs.declared.piece.Val.{Val}
use Rattle.trace_ops.specs.declared.piece.Val.TheVariants.{Known, Virtual}
use Rattle.trace_meaning.specs.Boxes.{Boxes, BoxesDecide, BindingLaws, same_box, value_in, bind, bind_all, bound_to, arg_value}
use Rattle.trace_meaning.specs.Holding.{Holds, Keeps, DoneHolds, OperationsKeepKinds}
use Rattle.trace_meaning.specs.Kept.{alone}
use Rattle.trace_meaning.specs.Kinds.{IsValueOf, AreOfKinds, kind_of_part, PartsHold, ObjectsHold}
use Rattle.trace_meaning.specs.Objects.{listed, write}
use Rattle.trace_meaning.specs.Performing.{write_done}
use Rattle.trace_meaning.specs.World.{World}
use Rattle.trace_meaning.specs.declared.state.RecFrame.{RecFrame}
use Rattle.trace_meaning.specs.declared.value.Object.{Object}
use Rattle.trace_meaning.specs.declared.value.Value.{Value}
use Rattle.trace_meaning.specs.declared.value.Value.TheVariants as v
use Rattle.opt_meaning.specs.Rebuilding.{Rebuilt, rebuilt, before_all, all_of, val_value, made_object, virtuals_made, with_objects, write_if, pending_done, stores_done, rebuilt_with, frame_made}

-- ---- values of kinds

value_more : (m n : ℕ) (k : Kind) (x : Value) → m ≤ n → IsValueOf m k x → IsValueOf n k x
value_more m n kind.Int (v.Int z) le h = h
value_more m n kind.Int v.Null le h = h
value_more m n kind.Int (v.Obj j) le h = h
value_more m n kind.Ref (v.Int z) le h = h
value_more m n kind.Ref v.Null le h = h
value_more m n kind.Ref (v.Obj j) le h = omega (arith, le, h)

of_kind : (n : ℕ) (k l : Kind) (x y : Value) → Some l ≡ Some k → Some y ≡ Some x → IsValueOf n l y → IsValueOf n k x
of_kind n k l x y ek ex h = subst (λ (z : Value). IsValueOf n k z) (some_same ex) (subst (λ (m : Kind). IsValueOf n m y) (some_same ek) h)

parts_more : (t : Table) (m n : ℕ) (o : Object) → m ≤ n → PartsHold t m o → PartsHold t n o
parts_more t m n o le h = λ i k x ek ex. value_more m n k x le (h i k x ek ex)

-- ---- boxes

bound_cases : BoxesDecide → BindingLaws → (b c : BoxId) (x y : Value) (es : Boxes) → value_in (bind b x es) c ≡ Some y → ((c ≡ b) × (y ≡ x)) ⊎ (value_in es c ≡ Some y)
bound_cases decide binding b c x y es h = by (same_box c b) refl
  where
    by : (t : Bool) → same_box c b ≡ t → ((c ≡ b) × (y ≡ x)) ⊎ (value_in es c ≡ Some y)
    by true e = (let same : c ≡ b = (decide c b).0 e in inl (same, some_same (sym h ∙ ap (value_in (bind b x es)) same ∙ binding.same b x es)))
    by false e = inr (sym (binding.other b c x es (λ same. absurd (let other : same_box c b ≡ true = (decide c b).1 same in cc))) ∙ h)

-- boxes that got values of their kinds hold such
boxes_hold : BoxesDecide → BindingLaws → (n : ℕ) (es : Boxes) (bs : List BoxId) (vs : List Value) → ((c : BoxId) (y : Value) → value_in es c ≡ Some y → IsValueOf n c.kind y)
    → AreOfKinds n (map (λ (b : BoxId). Some b.kind) bs) vs → (c : BoxId) (y : Value) → value_in (bind_all es bs vs) c ≡ Some y → IsValueOf n c.kind y
boxes_hold decide binding n es [] [] held h c y e = held c y e
boxes_hold decide binding n es [] (x ∷ vs) held h c y e = absurd h
boxes_hold decide binding n es (b ∷ bs) [] held h c y e = absurd h
boxes_hold decide binding n es (b ∷ bs) (x ∷ xs) held h c y e =
    boxes_hold decide binding n (bind b x es) bs xs (λ d z g. one d z (bound_cases decide binding b d x z es g)) h.1 c y e
  where
    one : (d : BoxId) (z : Value) → ((d ≡ b) × (z ≡ x)) ⊎ (value_in es d ≡ Some z) → IsValueOf n d.kind z
    one d z (inl same) = subst (λ (w : Value). IsValueOf n d.kind w) (sym same.1) (subst (λ (a : BoxId). IsValueOf n a.kind x) (sym same.0) h.0)
    one d z (inr there) = held d z there

-- ---- lists of what is there

record BothThere {X : Type 0} (o : Option X) (p : Option (List X)) (xs : List X) : Type 0 where
  x : X
  rest : List X
  first : o ≡ Some x
  later : p ≡ Some rest
  is : x ∷ rest ≡ xs

both_there : {X : Type 0} (o : Option X) (p : Option (List X)) (xs : List X) → before_all o p ≡ Some xs → BothThere o p xs
both_there (Some x) (Some rest) xs e = record { x = x; rest = rest; first = refl; later = refl; is = some_same e }
both_there (Some x) None xs e = absurd (none_some e)
both_there None (Some rest) xs e = absurd (none_some e)
both_there None None xs e = absurd (none_some e)

-- each comes of one
comes_of : {X Y : Type 0} (f : X → Option Y) (y : X) (ys : List X) (xs : List Y) (x : Y) (z : BothThere (f y) (all_of f ys) xs) (i : ℕ)
    → ((k : ℕ) → slice_get z.rest k ≡ Some x → (a : X) × (slice_get ys k ≡ Some a) × (f a ≡ Some x)) → slice_get (z.x ∷ z.rest) i ≡ Some x → (a : X) × (slice_get (y ∷ ys) i ≡ Some a) × (f a ≡ Some x)
comes_of f y ys xs x z zero more h = (y, refl, z.first ∙ h)
comes_of f y ys xs x z (suc k) more h = more k h

all_of_at : {X Y : Type 0} (f : X → Option Y) (ys : List X) (xs : List Y) (i : ℕ) (x : Y) → all_of f ys ≡ Some xs → slice_get xs i ≡ Some x → (y : X) × (slice_get ys i ≡ Some y) × (f y ≡ Some x)
all_of_at {Y = Y} f [] xs i x e g = absurd (none_some (ap (λ (l : List Y). slice_get l i) (some_same e) ∙ g))
all_of_at {Y = Y} f (y ∷ ys) xs i x e g =
    let z = both_there (f y) (all_of f ys) xs e in
    comes_of f y ys xs x z i (λ k h. all_of_at f ys z.rest k x z.later h) (ap (λ (l : List Y). slice_get l i) z.is ∙ g)

all_of_length : {X Y : Type 0} (f : X → Option Y) (ys : List X) (xs : List Y) → all_of f ys ≡ Some xs → length xs ≡ length ys
all_of_length f [] xs e = ap length (sym (some_same e))
all_of_length f (y ∷ ys) xs e = (let z = both_there (f y) (all_of f ys) xs e in ap length (sym z.is) ∙ ap suc (all_of_length f ys z.rest z.later))

-- ---- the values that a snapshot says

module _ (t : Table) (n m : ℕ) (box : BoxId → Option Value) (many : length t.prebuilts ≤ n) (boxes : (b : BoxId) (x : Value) → box b ≡ Some x → IsValueOf n b.kind x) where
  val_holds : (a : Val) (k : Kind) (x : Value) → kind_of_val a ≡ Some k → IsNumbered m a → NamesVal t a → val_value box n a ≡ Some x → IsValueOf (n + m) k x
  val_holds (Known (arg.Of b)) k x ek num name e = value_more n (n + m) k x (omega arith) (of_kind n k b.kind x x ek refl (boxes b x e))
  val_holds (Known (arg.Const z)) k x ek num name e = of_kind (n + m) k kind.Int x (v.Int z) ek e tt
  val_holds (Known arg.Null) k x ek num name e = of_kind (n + m) k kind.Ref x v.Null ek e tt
  val_holds (Known (arg.Class j)) k x ek num name e = absurd (none_some ek)
  val_holds (Known (arg.Func j)) k x ek num name e = absurd (none_some ek)
  val_holds (Known (arg.Ptr j)) k x ek num name e = of_kind (n + m) k kind.Ref x (v.Obj j) ek e (omega (arith, many, name))
  val_holds (Virtual j) k x ek num name e = of_kind (n + m) k kind.Ref x (v.Obj (n + j)) ek e (omega (arith, num))

  -- ---- virtual objects

  field_given : (fields : List ℕ) (vals : List Val) (i : ℕ) (a : Val) (k : Kind) (f : Option ℕ) → slice_get fields i ≡ f → map kind_of_val vals ≡ map (kind_of_field t) fields → slice_get vals i ≡ Some a → option_and_then (kind_of_field t) f ≡ Some k → kind_of_val a ≡ Some k
  field_given fields vals i a k None at e here is = absurd (none_some is)
  field_given fields vals i a k (Some f) at e here is =
      some_same (sym (get_map kind_of_val vals i a here) ∙ ap (λ (l : List (Option Kind)). slice_get l i) e ∙ get_map (kind_of_field t) fields i f at) ∙ is

  size_given : (o : Option SizeRow) (vals : List Val) (i : ℕ) (a : Val) (k : Kind) → IsSomeAnd o (λ (row : SizeRow). map kind_of_val vals ≡ map (kind_of_field t) row.fields) → slice_get vals i ≡ Some a → option_and_then (kind_of_field t) (slice_get (listed o) i) ≡ Some k → kind_of_val a ≡ Some k
  size_given None vals i a k h here is = absurd h
  size_given (Some row) vals i a k h here is = field_given row.fields vals i a k (slice_get row.fields i) refl h here is

  item_given : (o : Option ArrayRow) (vals : List Val) (i : ℕ) (a : Val) (k : Kind) → IsSomeAnd o (λ (row : ArrayRow). All (λ (x : Option Kind). x ≡ Some row.kind) (map kind_of_val vals)) → slice_get vals i ≡ Some a → option_map (λ (row : ArrayRow). row.kind) o ≡ Some k → kind_of_val a ≡ Some k
  item_given None vals i a k h here is = absurd h
  item_given (Some row) vals i a k h here is = all_at (λ (x : Option Kind). x ≡ Some row.kind) (map kind_of_val vals) i (kind_of_val a) h (get_map kind_of_val vals i a here) ∙ is

  -- a part is said with the kind of its place
  part_given : (of : ShapeOf) (vals : List Val) (i : ℕ) (a : Val) (k : Kind) → HasParts t of (map kind_of_val vals) → slice_get vals i ≡ Some a → kind_of_part t of i ≡ Some k → kind_of_val a ≡ Some k
  part_given (shape.Size s) vals i a k h here is = size_given (slice_get t.sizes s) vals i a k h here is
  part_given (shape.Array r) vals i a k h here is = item_given (slice_get t.arrays r) vals i a k h here is

  made_parts : (s : Shape) (o : Object) (xs : Option (List Value)) → IsShapeLawful t s → All (IsNumbered m) s.parts → All (NamesVal t) s.parts → all_of (val_value box n) s.parts ≡ xs
      → option_map (λ (parts : List Value). let x : Object = record { of = s.of; parts = parts } in x) xs ≡ Some o → PartsHold t (n + m) o
  made_parts s o None law num name e is = absurd (none_some is)
  made_parts s o (Some xs) law num name e is = subst (PartsHold t (n + m)) (some_same is) (λ i k x ek ex.
      (let z = all_of_at (val_value box n) s.parts xs i x e ex in
      val_holds z.0 k x (part_given s.of s.parts i z.0 k law.0 z.1 ek) (all_at (IsNumbered m) s.parts i z.0 num z.1) (all_at (NamesVal t) s.parts i z.0 name z.1) z.2))

  made_holds : (s : Shape) (o : Object) → IsShapeLawful t s → All (IsNumbered m) s.parts → All (NamesVal t) s.parts → made_object box n s ≡ Some o → PartsHold t (n + m) o
  made_holds s o law num name e = made_parts s o (all_of (val_value box n) s.parts) law num name refl e

  -- ---- stores

  module _ (ops : OperationsKeepKinds) where
    abbrev ref_box : BoxId
    ref_box = record { kind = kind.Ref; number = 0 }

    abbrev box_of : Kind → BoxId
    box_of k = record { kind = k; number = 0 }

    kept : (w u : World) (o : Option World) → o ≡ Some u → DoneHolds t w None (write_done o) → Keeps t w u
    kept w u o e h = (subst (λ (x : Option World). DoneHolds t w None (write_done x)) e h).0

    write_keeps : (at : Spot) (base x : Value) (w u : World) (k : Kind) → Holds t w → kind_of_spot t at ≡ Some k → IsValueOf (length w.objects) kind.Ref base → IsValueOf (length w.objects) k x → write t at base x w ≡ Some u → Keeps t w u
    write_keeps (spot.Field f) base x w u k h ek hb hx e =
        let stored : IsStored (kind_of_field t f) (arg.Of (box_of k)) = subst (λ (o : Option Kind). IsStored o (arg.Of (box_of k))) (sym ek) refl in
        kept w u (write t (spot.Field f) base x w) e
        (ops t w code.SetfieldGc (descr.Field f) (arg.Of ref_box ∷ arg.Of (box_of k) ∷ []) (base ∷ x ∷ []) h (refl, stored) (subst IsSome (sym ek) refl) (hb, (hx, tt)))
    write_keeps (spot.Item r i) base x w u k h ek hb hx e =
        let stored : IsStored (kind_of_item t r) (arg.Of (box_of k)) = subst (λ (o : Option Kind). IsStored o (arg.Of (box_of k))) (sym ek) refl in
        kept w u (write t (spot.Item r i) base x w) e
        (ops t w code.SetarrayitemGc (descr.Array r) (arg.Of ref_box ∷ arg.Const i ∷ arg.Of (box_of k) ∷ []) (base ∷ v.Int i ∷ x ∷ []) h (refl, refl, stored) (subst IsSome (sym ek) refl) (hb, (tt, (hx, tt))))

    -- the kind that a spot holds, where there is one
    spot_kind : (p : Pending) (o : Option Kind) → kind_of_spot t p.spot ≡ o → IsSome o → (k : Kind) × (kind_of_spot t p.spot ≡ Some k)
    spot_kind p None e h = absurd (cc)
    spot_kind p (Some k) e h = (k, e)

    store_keeps : (p : Pending) (w u : World) (b x : Option Value) → IsPendingLawful t p → IsSome (kind_of_val p.value) → NamesPending t p → IsNumbered m p.value → Holds t w → n + m ≤ length w.objects
        → arg_value box p.base ≡ b → val_value box n p.value ≡ x → write_if t p b x w ≡ Some u → Keeps t w u
    store_keeps p w u (Some b) (Some x) law some name num h le eb ex e =
        let z = spot_kind p (kind_of_spot t p.spot) refl (subst IsSome law.2 some) in
        let base : IsValueOf (n + m) kind.Ref b = val_holds (Known p.base) kind.Ref b law.0 tt name.0 eb in
        let value : IsValueOf (n + m) z.0 x = val_holds p.value z.0 x (law.2 ∙ z.1) num name.2 ex in
        write_keeps p.spot b x w u z.0 h z.1 (value_more (n + m) (length w.objects) kind.Ref b le base) (value_more (n + m) (length w.objects) z.0 x le value) e
    store_keeps p w u (Some b) None law some name num h le eb ex e = absurd (none_some e)
    store_keeps p w u None (Some x) law some name num h le eb ex e = absurd (none_some e)
    store_keeps p w u None None law some name num h le eb ex e = absurd (none_some e)

    stores_on : (p : Pending) (ps : List Pending) (w u : World) (o : Option World) → pending_done t box n p w ≡ o → option_and_then (stores_done t box n ps) o ≡ Some u → (a : World) × (pending_done t box n p w ≡ Some a) × (stores_done t box n ps a ≡ Some u)
    stores_on p ps w u None e is = absurd (none_some is)
    stores_on p ps w u (Some a) e is = (a, e, is)

    stores_hold : (ps : List Pending) (w u : World) → All (IsPendingLawful t) ps → All (λ (p : Pending). IsSome (kind_of_val p.value)) ps → All (NamesPending t) ps → All (λ (p : Pending). IsNumbered m p.value) ps
        → Holds t w → n + m ≤ length w.objects → stores_done t box n ps w ≡ Some u → ObjectsHold t u.objects
    stores_hold [] w u law some name num h le e = subst (λ (a : World). ObjectsHold t a.objects) (some_same e) h.objects
    stores_hold (p ∷ ps) w u law some name num h le e =
        let z = stores_on p ps w u (pending_done t box n p w) refl e in
        let one = store_keeps p w z.0 (arg_value box p.base) (val_value box n p.value) (All-head (IsPendingLawful t) p ps law) (All-head (λ (q : Pending). IsSome (kind_of_val q.value)) p ps some) (All-head (NamesPending t) p ps name) (All-head (λ (q : Pending). IsNumbered m q.value) p ps num) h le refl refl z.1 in
        stores_hold ps z.0 u (All-tail (IsPendingLawful t) p ps law) (All-tail (λ (q : Pending). IsSome (kind_of_val q.value)) p ps some) (All-tail (NamesPending t) p ps name) (All-tail (λ (q : Pending). IsNumbered m q.value) p ps num) one.holds (omega (arith, le, one.more)) z.2

-- ---- all of it

record Done (t : Table) (box : BoxId → Option Value) (snap : Snapshot) (w : World) (r : Rebuilt) : Type 0 where
  made : List Object
  after : World
  made_is : all_of (made_object box (length w.objects)) snap.shapes ≡ Some made
  stored : stores_done t box (length w.objects) snap.pending (with_objects w made) ≡ Some after
  objects : after.objects ≡ r.objects

done : (t : Table) (box : BoxId → Option Value) (snap : Snapshot) (w : World) (r : Rebuilt) (made : Option (List Object)) (after : Option World) (frames : Option (List RecFrame))
    → all_of (made_object box (length w.objects)) snap.shapes ≡ made → option_and_then (stores_done t box (length w.objects) snap.pending) (option_map (with_objects w) made) ≡ after → rebuilt_with after frames ≡ Some r → Done t box snap w r
done t box snap w r (Some made) (Some after) (Some frames) e is out = record { made = made; after = after; made_is = e; stored = is; objects = ap (λ (x : Rebuilt). x.objects) (some_same out) }
done t box snap w r None (Some after) (Some frames) e is out = absurd (none_some is)
done t box snap w r None None (Some frames) e is out = absurd (none_some out)
done t box snap w r None None None e is out = absurd (none_some out)
done t box snap w r None (Some after) None e is out = absurd (none_some out)
done t box snap w r (Some made) None (Some frames) e is out = absurd (none_some out)
done t box snap w r (Some made) None None e is out = absurd (none_some out)
done t box snap w r (Some made) (Some after) None e is out = absurd (none_some out)

pub rebuilt_holds : BoxesDecide → BindingLaws → OperationsKeepKinds → (t : Table) (snap : Snapshot) (vs : List Value) (w : World) (r : Rebuilt) → IsSnapshotSound t snap → NamesSnapshot t snap → Holds t w
    → AreOfKinds (length w.objects) (map (λ (b : BoxId). Some b.kind) (parts_of snap)) vs → rebuilt t snap vs w ≡ Some r → ObjectsHold t r.objects
rebuilt_holds decide binding ops t snap vs w r sound names holds kinds e =
    let n = length w.objects in
    let m = length snap.shapes in
    let bound = bound_to (parts_of snap) vs in
    let box : BoxId → Option Value = value_in bound in
    let own = alone w in
    let z = done t box snap own r (all_of (made_object box n) snap.shapes) (option_and_then (stores_done t box n snap.pending) (virtuals_made box snap.shapes own)) (all_of (frame_made box n) snap.frames) refl refl e in
    let boxes = boxes_hold decide binding n [] (parts_of snap) vs (λ c y none. absurd (none_some none)) kinds in
    let count : length z.made ≡ m = all_of_length (made_object box n) snap.shapes z.made z.made_is in
    let long : length (w.objects ++ z.made) ≡ n + length z.made = length-append w.objects z.made in
    let total : n + m ≤ length (w.objects ++ z.made) = omega (arith, count, long) in
    let each : ObjectsHold t (w.objects ++ z.made) = λ i o at. elim (append_cases w.objects z.made i o at) [
      | inl old ↦ parts_more t n (length (w.objects ++ z.made)) o (omega (arith, long)) (holds.objects i o old.1)
      | inr new ↦ (let s = all_of_at (made_object box n) snap.shapes z.made new.0 o z.made_is new.2 in
          parts_more t (n + m) (length (w.objects ++ z.made)) o total
          (made_holds t n m box holds.prebuilts boxes s.0 o (all_at (IsShapeLawful t) snap.shapes new.0 s.0 sound.shapes_lawful s.1) (all_at (λ (h : Shape). All (IsNumbered m) h.parts) snap.shapes new.0 s.0 sound.parts_numbered s.1) (all_at (λ (h : Shape). All (NamesVal t) h.parts) snap.shapes new.0 s.0 names.parts s.1) s.2))
    ] in
    let first : Holds t (with_objects own z.made) = record { prebuilts = omega (arith, holds.prebuilts, long); objects = each } in
    subst (ObjectsHold t) z.objects
    (stores_hold t n m box holds.prebuilts boxes ops snap.pending (with_objects own z.made) z.after sound.stores_lawful sound.stored_are_values names.stores sound.stores_numbered first total z.stored)
