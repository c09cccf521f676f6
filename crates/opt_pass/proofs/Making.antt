-- The objects that are made for the entry's virtual ones.
use Rattle.std.proofs.Common.{◌≡◌, ℕ, zero, suc, ◌+◌, ◌<◌, ◌≤◌, Bool, true, false, cond, List, [], ◌∷◌, ◌++◌, Option, Some, None, length, slice_get, map, refl, sym, ap, ◌∙◌, subst, arith, inl, inr}
use Rattle.std.specs.Prelude.{◌⊎◌, ◌==◌, nat_lt, ℤ, pos, replicate, slice_set}
use Rattle.std.specs.Ordering.{int_eq}
use Rattle.std.specs.Option.{option_map, IsSomeAnd}
use Rattle.std.specs.List.{All, AllByRecursion, AllZip}
use Rattle.std.proofs.lemmas.List.Elements.{recursion_from_All}
use Rattle.std.proofs.lemmas.Bool.Decides.{Decides-int_eq}
use Rattle.std.proofs.lemmas.Bool.{eqb-true, eq-eqb}
use Rattle.opt_pass.proofs.Ends.{cons_parts, long_map}
use Rattle.lists.proofs.Options.{some_same, none_some}
use Rattle.lists.proofs.Numbers.{nat_lt_true, nat_lt_false}
use Rattle.trace_ops.specs.declared.trace.Kind.{Kind}
use Rattle.trace_ops.specs.declared.trace.BoxId.{BoxId}
use Rattle.trace_ops.specs.declared.trace.Arg.{Arg}
use Rattle.trace_ops.specs.declared.trace.Arg.TheVariants as arg
use Rattle.trace_ops.specs.declared.trace.Descr.TheVariants as descr
use Rattle.trace_ops.specs.declared.code.OpCode.{OpCode}
use Rattle.trace_ops.specs.declared.code.OpCode.TheVariants as code
use Rattle.trace_ops.specs.declared.table.ShapeOf.{ShapeOf}
use Rattle.trace_ops.specs.declared.table.ShapeOf.TheVariants as shape
use Rattle.trace_ops.specs.declared.table.SizeRow.{SizeRow}
use Rattle.trace_ops.specs.declared.table.FieldRow.{FieldRow}
use Rattle.trace_ops.specs.declared.table.ArrayRow.{ArrayRow}
use Rattle.trace_ops.specs.declared.table.Table.{Table}
use Rattle.trace_ops.specs.declared.piece.Val.{Val}
use Rattle.trace_ops.specs.declared.piece.Val.TheVariants.{Known, Virtual}
use Rattle.trace_ops.specs.declared.piece.Shape.{Shape}
use Rattle.trace_ops.specs.declared.piece.Pending.{Pending}
use Rattle.trace_ops.specs.declared.piece.Spot.{Spot}
use Rattle.trace_ops.specs.declared.piece.OptOp.{OptOp}
use Rattle.trace_ops.specs.declared.piece.OptOp.TheVariants as opt
use Rattle.trace_ops.specs.Kinds.{kind_of_arg, kind_of_val, kind_of_field, HasParts}
use Rattle.trace_meaning.specs.declared.value.Value.{Value}
use Rattle.trace_meaning.specs.declared.value.Value.TheVariants as v
use Rattle.trace_meaning.specs.declared.value.Object.{Object}
use Rattle.trace_meaning.specs.Values.{zero_of}
use Rattle.trace_meaning.specs.Boxes.{bind}
use Rattle.trace_meaning.specs.Objects.{listed, fields_of, zero_field, zero_item, zeroed, cleared, with_new}
use Rattle.trace_meaning.specs.Legs.{On}
use Rattle.heap_shape.specs.Visiting.{IsOnce}
use Rattle.opt_meaning.specs.Step.{Opt, opt_step}
use Rattle.agreement.specs.Making.{is_zero, made_val, made_shape, made_pending, part_stores, constant_of, IsFresh, AreSpots}
use Rattle.agreement.specs.Spots.{spots_of, HasPartsOf}
use Rattle.opt_pass.specs.Laws.{Laws}
use Rattle.opt_pass.specs.declared.start.Entering.{Entering}
use Rattle.opt_pass.specs.Starting.{renamed_arg, made_box, vtable_code, structure_code, making}

false_true : false ≡ true → ⊥
false_true e = cc

-- One operation makes one object

abbrev pub new_object : Table → ShapeOf → ℕ → Object
new_object t (shape.Size s) n = zeroed t s
new_object t (shape.Array a) n = cleared t a n

vtable_is : (name : Option (List ℕ)) → (vtable_code name ≡ code.New) ⊎ (vtable_code name ≡ code.NewWithVtable)
vtable_is None = inl refl
vtable_is (Some name) = inr refl

structure_is : (row : Option SizeRow) → (structure_code row ≡ code.New) ⊎ (structure_code row ≡ code.NewWithVtable)
structure_is None = inl refl
structure_is (Some row) = vtable_is row.vtable

abbrev pub made_now : Table → BoxId → ShapeOf → ℕ → Opt → Opt
made_now t b of n p = record { boxes = bind b (v.Obj (length p.world.objects)) p.boxes; world = with_new (new_object t of n) p.world }

pub making_turns : (t : Table) (b : BoxId) (of : ShapeOf) (n : ℕ) (p : Opt) → opt_step t (making t b of n) p ≡ On (made_now t b of n p)
making_turns t b (shape.Size s) n p = by (structure_is (slice_get t.sizes s))
  where
    by : (structure_code (slice_get t.sizes s) ≡ code.New) ⊎ (structure_code (slice_get t.sizes s) ≡ code.NewWithVtable) → opt_step t (opt.Plain (structure_code (slice_get t.sizes s)) (Some b) [] (descr.Size s)) p ≡ On (made_now t b (shape.Size s) n p)
    by (inl e) = ap (λ c. opt_step t (opt.Plain c (Some b) [] (descr.Size s)) p) e
    by (inr e) = ap (λ c. opt_step t (opt.Plain c (Some b) [] (descr.Size s)) p) e
making_turns t b (shape.Array a) n p = refl

-- What a value of the entry is, once the first k are made

abbrev pub up : Entering → ℕ → Val → Val
up n k (Known a) = Known (renamed_arg n.boxes a)
up n k (Virtual m) = cond (nat_lt m k) (Known (arg.Of (made_box n.label m))) (Virtual m)

abbrev pub shape_up : Entering → ℕ → Shape → Shape
shape_up n k s = record { of = s.of; parts = map (up n k) s.parts }

below : (m k : ℕ) (s : Bool) → nat_lt m k ≡ s → m < k → s ≡ true
below m k true e lt = refl
below m k false e lt = let le : k ≤ m = nat_lt_false m k e in absurd (omega (arith, le, lt))

above : (m k : ℕ) (s : Bool) → nat_lt m k ≡ s → k ≤ m → s ≡ false
above m k true e le = let lt : m < k = nat_lt_true m k e in absurd (omega (arith, le, lt))
above m k false e le = refl

pub nat_below : (m k : ℕ) → m < k → nat_lt m k ≡ true
nat_below m k lt = below m k (nat_lt m k) refl lt

pub nat_above : (m k : ℕ) → k ≤ m → nat_lt m k ≡ false
nat_above m k le = above m k (nat_lt m k) refl le

-- one more is made
pub made_up : (n : Entering) (k : ℕ) (x : Val) → made_val k (made_box n.label k) (up n k x) ≡ up n (k + 1) x
made_up n k (Known a) = refl
made_up n k (Virtual m) = by (nat_lt m k) refl
  where
    by : (s : Bool) → nat_lt m k ≡ s → made_val k (made_box n.label k) (cond s (Known (arg.Of (made_box n.label m))) (Virtual m)) ≡ up n (k + 1) (Virtual m)
    by true e =
        let lt : m < k = nat_lt_true m k e in
        let more : nat_lt m (k + 1) ≡ true = nat_below m (k + 1) (omega (arith, lt)) in
        sym (ap (λ s. cond s (Known (arg.Of (made_box n.label m))) (Virtual m)) more)
    by false e = here (m == k) refl
      where
        here : (q : Bool) → m == k ≡ q → cond q (Known (arg.Of (made_box n.label k))) (Virtual m) ≡ up n (k + 1) (Virtual m)
        here true w =
            let same : m ≡ k = eqb-true m k w in
            let more : nat_lt m (k + 1) ≡ true = nat_below m (k + 1) (omega (arith, same)) in
            ap (λ z. Known (arg.Of (made_box n.label z))) (sym same) ∙ sym (ap (λ s. cond s (Known (arg.Of (made_box n.label m))) (Virtual m)) more)
        here false w =
            let le : k ≤ m = nat_lt_false m k e in
            let apart : m ≡ k → ⊥ = λ same. false_true (sym w ∙ eq-eqb m k same) in
            let more : nat_lt m (k + 1) ≡ false = nat_above m (k + 1) (behind m k le apart) in
            sym (ap (λ s. cond s (Known (arg.Of (made_box n.label m))) (Virtual m)) more)
          where
            behind : (m k : ℕ) → k ≤ m → (m ≡ k → ⊥) → k + 1 ≤ m
            behind m k le apart = omega (arith, le, apart)

pub parts_up : (n : Entering) (k : ℕ) (xs : List Val) → map (made_val k (made_box n.label k)) (map (up n k) xs) ≡ map (up n (k + 1)) xs
parts_up n k [] = refl
parts_up n k (x ∷ xs) = ap (λ y. y ∷ map (made_val k (made_box n.label k)) (map (up n k) xs)) (made_up n k x) ∙ ap (λ ys. up n (k + 1) x ∷ ys) (parts_up n k xs)

-- A new object is fresh for its shape

no_zero : (n : Entering) (k m : ℕ) (s : Bool) → is_zero (cond s (Known (arg.Of (made_box n.label m))) (Virtual m)) ≡ true → ⊥
no_zero n k m true e = false_true e
no_zero n k m false e = false_true e

-- a part that is 0 or NULL is what its kind begins with
pub zero_kind : (n : Entering) (k : ℕ) (x : Val) → is_zero (up n k x) ≡ true → (kd : Kind) × (kind_of_val x ≡ Some kd) × (constant_of (up n k x) ≡ Some (zero_of kd))
zero_kind n k (Known (arg.Const w)) e = (_, refl, ap (λ z. Some (v.Int z)) ((Decides-int_eq w (pos 0)).0 e))
zero_kind n k (Known arg.Null) e = (_, refl, refl)
zero_kind n k (Known (arg.Of b)) e = absurd (false_true e)
zero_kind n k (Known (arg.Class c)) e = absurd (false_true e)
zero_kind n k (Known (arg.Func c)) e = absurd (false_true e)
zero_kind n k (Known (arg.Ptr c)) e = absurd (false_true e)
zero_kind n k (Virtual m) e = absurd (no_zero n k m (nat_lt m k) e)

abbrev IsBegun : Val → Value → Type 0
IsBegun x z = is_zero x ≡ true → constant_of x ≡ Some z

field_begun : (n : Entering) (k : ℕ) (x : Val) (row : Option FieldRow) → kind_of_val x ≡ option_map (λ (r : FieldRow). r.kind) row → IsBegun (up n k x) (zero_field row)
field_begun n k x None e z = let q = zero_kind n k x z in absurd (none_some (sym e ∙ q.1))
field_begun n k x (Some row) e z = let q = zero_kind n k x z in q.2 ∙ ap (λ kd. Some (zero_of kd)) (some_same (sym q.1 ∙ e))

nil_cons : {X : Type 0} {x : X} {xs : List X} → [] ≡ x ∷ xs → ⊥
nil_cons e = cc

cons_nil : {X : Type 0} {x : X} {xs : List X} → x ∷ xs ≡ [] → ⊥
cons_nil e = cc

fields_begun : (t : Table) (n : Entering) (k : ℕ) (xs : List Val) (fields : List ℕ) → map kind_of_val xs ≡ map (kind_of_field t) fields → AllZip IsBegun (map (up n k) xs) (map (λ f. zero_field (slice_get t.fields f)) fields)
fields_begun t n k [] [] e = tt
fields_begun t n k [] (f ∷ fields) e = absurd (nil_cons e)
fields_begun t n k (x ∷ xs) [] e = absurd (cons_nil e)
fields_begun t n k (x ∷ xs) (f ∷ fields) e = let c = cons_parts e in (field_begun n k x (slice_get t.fields f) c.0, fields_begun t n k xs fields c.1)

item_begun : (n : Entering) (k : ℕ) (x : Val) (kd : Kind) → kind_of_val x ≡ Some kd → IsBegun (up n k x) (zero_of kd)
item_begun n k x kd e z = let q = zero_kind n k x z in q.2 ∙ ap (λ z. Some (zero_of z)) (some_same (sym q.1 ∙ e))

items_begun : (n : Entering) (k : ℕ) (xs : List Val) (kd : Kind) → AllByRecursion (λ z. z ≡ Some kd) (map kind_of_val xs) → AllZip IsBegun (map (up n k) xs) (replicate (length xs) (zero_of kd))
items_begun n k [] kd h = tt
items_begun n k (x ∷ xs) kd h = (item_begun n k x kd h.0, items_begun n k xs kd h.1)

pub is_fresh : (t : Table) (n : Entering) (k : ℕ) (s : Shape) → HasParts t s.of (map kind_of_val s.parts) → IsFresh (shape_up n k s) (new_object t s.of (length s.parts))
is_fresh t n k s h = by s.of h
  where
    size : (x : Option SizeRow) → IsSomeAnd x (λ (row : SizeRow). map kind_of_val s.parts ≡ map (kind_of_field t) row.fields) → AllZip IsBegun (map (up n k) s.parts) (map (λ f. zero_field (slice_get t.fields f)) (listed x))
    size None h = absurd h
    size (Some row) h = fields_begun t n k s.parts row.fields h

    array : (x : Option ArrayRow) → IsSomeAnd x (λ (row : ArrayRow). All (λ z. z ≡ Some row.kind) (map kind_of_val s.parts)) → AllZip IsBegun (map (up n k) s.parts) (replicate (length s.parts) (zero_item x))
    array None h = absurd h
    array (Some row) h = items_begun n k s.parts row.kind (recursion_from_All (λ z. z ≡ Some row.kind) (map kind_of_val s.parts) h)

    by : (of : ShapeOf) → HasParts t of (map kind_of_val s.parts) → IsFresh (record { of = of; parts = map (up n k) s.parts }) (new_object t of (length s.parts))
    by (shape.Size z) h = record { of = refl; zeros = size (slice_get t.sizes z) h }
    by (shape.Array a) h = record { of = refl; zeros = array (slice_get t.arrays a) h }

-- Its parts have spots

pub has_spots : (laws : Laws) (t : Table) (n : Entering) (k : ℕ) (s : Shape) → ((z : ℕ) → IsOnce (fields_of t z)) → HasParts t s.of (map kind_of_val s.parts) → AreSpots t (shape_up n k s) (spots_of t s.of (length s.parts))
has_spots laws t n k s once h =
    let long : length (map (up n k) s.parts) ≡ length s.parts = long_map (up n k) s.parts in
    subst (λ m. AreSpots t (shape_up n k s) (spots_of t s.of m)) long
    (laws.shapes_have_spots t (shape_up n k s) (subst (HasPartsOf t s.of) (sym long) (by s.of h)))
  where
    fields : (x : Option SizeRow) → IsSomeAnd x (λ (row : SizeRow). map kind_of_val s.parts ≡ map (kind_of_field t) row.fields) → length (listed x) ≡ length s.parts
    fields None h = absurd h
    fields (Some row) h = sym (sym (long_map kind_of_val s.parts) ∙ ap length h ∙ long_map (kind_of_field t) row.fields)

    by : (of : ShapeOf) → HasParts t of (map kind_of_val s.parts) → HasPartsOf t of (length s.parts)
    by (shape.Size z) h = (once z, fields (slice_get t.sizes z) h)
    by (shape.Array a) h = tt
