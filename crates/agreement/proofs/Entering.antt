-- The entry of where a piece goes on admits the pair.
use Rattle.lists.proofs.Eaches.{each_weaker}
use Rattle.lists.proofs.Options.{some_same, none_some}
use Rattle.lists.proofs.Zips.{zip_first}
use Rattle.heap_shape.specs.Sameness.{MapsIf}
use Rattle.std.proofs.Common.{◌≡◌, ℕ, zero, suc, Bool, true, false, cond, List, [], ◌∷◌, ◌++◌, Option, Some, length, slice_get, map, refl, sym, ap, ◌∙◌, subst, ◌⊎◌, inl, inr, arith}
use Rattle.std.specs.List.{AllZip, AllByRecursion, Contains}
use Rattle.trace_ops.specs.declared.trace.BoxId.{BoxId}
use Rattle.trace_ops.specs.declared.trace.Arg.{Arg}
use Rattle.trace_ops.specs.declared.trace.Arg.TheVariants as arg
use Rattle.trace_ops.specs.declared.table.Table.{Table}
use Rattle.trace_ops.specs.declared.piece.Val.{Val}
use Rattle.trace_ops.specs.declared.piece.Val.TheVariants.{Known, Virtual}
use Rattle.trace_ops.specs.declared.piece.Shape.{Shape}
use Rattle.trace_ops.specs.declared.piece.Pending.{Pending}
use Rattle.trace_ops.specs.declared.piece.Fact.{Fact}
use Rattle.trace_ops.specs.declared.piece.Fact.TheVariants as fact
use Rattle.trace_meaning.specs.declared.value.Value.{Value}
use Rattle.trace_meaning.specs.declared.value.Value.TheVariants as v
use Rattle.trace_meaning.specs.Boxes.{BoxesDecide, Boxes, value_in, arg_value}
use Rattle.opt_meaning.specs.Agrees.{Facts, Place, ArgIs, ValIs, IsPending, StoreIs, FactHolds, ShapeIs, Agrees, MapsAt}
use Rattle.std.specs.Prelude.{if◌then◌else◌, ◌||◌}
use Rattle.std.specs.List.{flat_map, list_any, Contains}
use Rattle.trace_ops.specs.declared.trace.Kind.{Kind}
use Rattle.trace_ops.specs.declared.piece.OptFrame.{OptFrame}
use Rattle.trace_ops.specs.declared.piece.Snapshot.{Snapshot}
use Rattle.trace_ops.specs.declared.piece.Entry.{Entry}
use Rattle.trace_ops.specs.contracts.trace.BoxIdPartialEq.TheImpl as box_eq
use Rattle.trace_ops.specs.Parts.{boxes_of_arg, boxes_of_val, boxes_of_frame, boxes_of_shape, boxes_of_pending, boxes_of, with_boxes, parts_of}
use Rattle.trace_ops.specs.Lawful.{AreDistinct, boxes_of_fact}
use Rattle.trace_meaning.specs.Values.{kind_of_value}
use Rattle.trace_meaning.specs.Boxes.{same_box, bind, bind_all, bound_to, has_value, all_values}
use Rattle.trace_meaning.specs.Objects.{read, place_of, is_frozen}
use Rattle.heap_shape.specs.Visiting.{Has, IsOnce}
use Rattle.opt_meaning.specs.Admits.{Admits, at_entry, place_with, IsEntryOf, slots_of, plain_entry}
use Rattle.agreement.specs.Entering.{AreAmong, IsRenamed, IsShapeOf, IsPendingOf, IsFactOf, Retells, IsOverLabel, EntryAdmits, GuardAdmits, PlainAdmits}
use Rattle.agreement.proofs.Further.{first_parts, step_values}
use Rattle.agreement.proofs.Growing.{bound_same, bound_other}

-- Boxes among others

has_left : {X : Type 0} (xs ys : List X) (x : X) → Has xs x → Has (xs ++ ys) x
has_left [] ys x h = absurd h
has_left (z ∷ xs) ys x (inl e) = inl e
has_left (z ∷ xs) ys x (inr h) = inr (has_left xs ys x h)

has_right : {X : Type 0} (xs ys : List X) (x : X) → Has ys x → Has (xs ++ ys) x
has_right [] ys x h = h
has_right (z ∷ xs) ys x h = inr (has_right xs ys x h)

any_has : BoxesDecide → (b : BoxId) (bs : List BoxId) → list_any (box_eq.ghosts.eq b) bs ≡ true → Has bs b
any_has d b [] e = absurd (cc)
any_has d b (c ∷ cs) e = by (box_eq.ghosts.eq b c) refl e (any_has d b cs)
  where
    by : (s : Bool) → box_eq.ghosts.eq b c ≡ s → (s || list_any (box_eq.ghosts.eq b) cs) ≡ true → (list_any (box_eq.ghosts.eq b) cs ≡ true → Has cs b) → Has (c ∷ cs) b
    by true q w next = inl (sym ((d b c).0 q))
    by false q w next = inr (next w)

-- what is kept stays, and all others are added
with_boxes_has : BoxesDecide → (bs kept : List BoxId) (b : BoxId) → Has kept b ⊎ Has bs b → Has (with_boxes kept bs) b
unfolding with_boxes
with_boxes_has d [] kept b (inl h) = h
with_boxes_has d [] kept b (inr h) = absurd h
with_boxes_has d (c ∷ cs) kept b h = with_boxes_has d cs (if list_any (box_eq.ghosts.eq c) kept then kept else kept ++ c ∷ []) b (by (list_any (box_eq.ghosts.eq c) kept) refl h)
  where
    by : (s : Bool) → list_any (box_eq.ghosts.eq c) kept ≡ s → Has kept b ⊎ Has (c ∷ cs) b → Has (cond s kept (kept ++ c ∷ [])) b ⊎ Has cs b
    by true e (inl k) = inl k
    by true e (inr (inl k)) = inl (subst (Has kept) k (any_has d c kept e))
    by true e (inr (inr k)) = inr k
    by false e (inl k) = inl (has_left kept (c ∷ []) b k)
    by false e (inr (inl k)) = inl (has_right kept (c ∷ []) b (inl k))
    by false e (inr (inr k)) = inr k

parts_have : BoxesDecide → (snap : Snapshot) → AreAmong (parts_of snap) (boxes_of snap)
parts_have d snap b h = with_boxes_has d (boxes_of snap) [] b (inr h)

-- all of a list, by what holds of the whole
all_flat : {X : Type 0} (f : X → List BoxId) (bs : List BoxId) (xs : List X) → AreAmong bs (flat_map f xs) → AllByRecursion (λ x. AreAmong bs (f x)) xs
all_flat f bs [] h = tt
all_flat f bs (x ∷ xs) h = (λ b w. h b (has_left (f x) (flat_map f xs) b w), all_flat f bs xs (λ b w. h b (has_right (f x) (flat_map f xs) b w)))

-- The values of a label

module _ (d : BoxesDecide) (box : BoxId → Option Value) where
  bound_ok : (bs : List BoxId) (us : List Value) → AllZip (λ (b : BoxId) (u : Value). box b ≡ Some u) bs us → (es : Boxes) (c : BoxId) (u : Value) → box c ≡ Some u → (value_in es c ≡ Some u) ⊎ Has bs c → value_in (bind_all es bs us) c ≡ Some u
  bound_ok [] [] h es c u e (inl k) = k
  bound_ok [] [] h es c u e (inr k) = absurd k
  bound_ok [] (x ∷ xs) h es c u e k = absurd h
  bound_ok (b ∷ bs) [] h es c u e k = absurd h
  bound_ok (b ∷ bs) (x ∷ xs) h es c u e k = bound_ok bs xs h.1 (bind b x es) c u e (by k (same_box c b) refl)
    where
      own : c ≡ b → value_in (bind b x es) c ≡ Some u
      own same = ap (value_in (bind b x es)) same ∙ bound_same d b x es ∙ sym h.0 ∙ ap box (sym same) ∙ e

      by : (value_in es c ≡ Some u) ⊎ Has (b ∷ bs) c → (s : Bool) → same_box c b ≡ s → (value_in (bind b x es) c ≡ Some u) ⊎ Has bs c
      by k true q = inl (own ((d c b).0 q))
      by (inl k) false q = inl (bound_other d b c x es q ∙ k)
      by (inr (inl k)) false q = inl (own (sym k))
      by (inr (inr k)) false q = inr k

  arg_seen : (bs : List BoxId) (us : List Value) → AllZip (λ (b : BoxId) (u : Value). box b ≡ Some u) bs us → (a : Arg) → AreAmong bs (boxes_of_arg a) → (u : Value) → arg_value box a ≡ Some u → arg_value (value_in (bound_to bs us)) a ≡ Some u
  arg_seen bs us h (arg.Of b) among u e = bound_ok bs us h [] b u e (inr (among b (inl refl)))
  arg_seen bs us h (arg.Const z) among u e = e
  arg_seen bs us h arg.Null among u e = e
  arg_seen bs us h (arg.Class k) among u e = e
  arg_seen bs us h (arg.Func k) among u e = e
  arg_seen bs us h (arg.Ptr k) among u e = e

  args_seen : (bs : List BoxId) (us : List Value) → AllZip (λ (b : BoxId) (u : Value). box b ≡ Some u) bs us → (args : List Arg) → AreAmong bs (flat_map boxes_of_arg args) → (ys : List Value) → all_values (arg_value box) args ≡ Some ys → all_values (arg_value (value_in (bound_to bs us))) args ≡ Some ys
  args_seen bs us h [] among ys e = e
  args_seen bs us h (a ∷ rest) among ys e =
      step_values box (value_in (bound_to bs us)) a rest ys (arg_seen bs us h a (λ b w. among b (has_left (boxes_of_arg a) (flat_map boxes_of_arg rest) b w)))
      (λ zs. args_seen bs us h rest (λ b w. among b (has_right (boxes_of_arg a) (flat_map boxes_of_arg rest) b w)) zs) (has_value a) e

  -- the values of a snapshot's boxes
  label_values : (bs : List BoxId) (us : List Value) → all_values (arg_value box) (map arg.Of bs) ≡ Some us → AllZip (λ (b : BoxId) (u : Value). box b ≡ Some u) bs us
  label_values [] [] e = tt
  label_values [] (u ∷ us) e = absurd (cc)
  label_values (b ∷ bs) us e =
      let s = first_parts (box b) (all_values (arg_value box) (map arg.Of bs)) us e in
      subst (AllZip (λ (b : BoxId) (u : Value). box b ≡ Some u) (b ∷ bs)) s.4 (s.1, label_values bs s.2 s.3)

  label_kinds : (bs : List BoxId) (us : List Value) → ((b : BoxId) (u : Value) → box b ≡ Some u → kind_of_value u ≡ b.kind) → AllZip (λ (b : BoxId) (u : Value). box b ≡ Some u) bs us → map kind_of_value us ≡ map (λ (b : BoxId). b.kind) bs
  label_kinds [] [] kinds h = refl
  label_kinds [] (u ∷ us) kinds h = absurd h
  label_kinds (b ∷ bs) [] kinds h = absurd h
  label_kinds (b ∷ bs) (u ∷ us) kinds h = ap (λ k. k ∷ map kind_of_value us) (kinds b u h.0) ∙ ap (λ (ks : List Kind). b.kind ∷ ks) (label_kinds bs us kinds h.1)

-- Lists

has_all : {X : Type 0} (P : X → Type 0) (xs : List X) (x : X) → AllByRecursion P xs → Has xs x → P x
has_all P [] x all h = absurd h
has_all P (z ∷ zs) x all (inl e) = subst P e all.0
has_all P (z ∷ zs) x all (inr h) = has_all P zs x all.1 h

get_has : (ns : List ℕ) (k n : ℕ) → slice_get ns k ≡ Some n → Has ns n
get_has [] k n e = absurd (none_some e)
get_has (m ∷ ms) zero n e = inl (some_same e)
get_has (m ∷ ms) (suc k) n e = inr (get_has ms k n e)

once_get : (ns : List ℕ) → IsOnce ns → (k l n : ℕ) → slice_get ns k ≡ Some n → slice_get ns l ≡ Some n → k ≡ l
once_get [] once k l n ek el = absurd (none_some ek)
once_get (m ∷ ms) once zero zero n ek el = refl
once_get (m ∷ ms) once zero (suc l) n ek el = absurd (once.0 (subst (Has ms) (sym (some_same ek)) (get_has ms l n el)))
once_get (m ∷ ms) once (suc k) zero n ek el = absurd (once.0 (subst (Has ms) (sym (some_same el)) (get_has ms k n ek)))
once_get (m ∷ ms) once (suc k) (suc l) n ek el = ap suc (once_get ms once.1 k l n ek el)

long_map : {X Y : Type 0} (f : X → Y) (xs : List X) → length (map f xs) ≡ length xs
long_map f [] = refl
long_map f (x ∷ xs) = ap suc (long_map f xs)

get_map_some : (shapes : List Shape) (k : ℕ) (s : Shape) → slice_get (map Some shapes) k ≡ Some (Some s) → slice_get shapes k ≡ Some s
get_map_some [] k s e = absurd (none_some e)
get_map_some (x ∷ xs) zero s e = some_same e
get_map_some (x ∷ xs) (suc k) s e = get_map_some xs k s e

zip_all : {X Y : Type 0} (P : X → Y → Type 0) (Q : X → Type 0) (R : Y → Type 0) (S : X → Type 0) → ((x : X) (y : Y) → P x y → Q x → R y → S x) → (xs : List X) (ys : List Y) → AllZip P xs ys → AllByRecursion Q xs → AllByRecursion R ys → AllByRecursion S xs
zip_all P Q R S f [] [] h q r = tt
zip_all P Q R S f [] (y ∷ ys) h q r = tt
zip_all P Q R S f (x ∷ xs) [] h q r = absurd h
zip_all P Q R S f (x ∷ xs) (y ∷ ys) h q r = (f x y h.0 q.0 r.0, zip_all P Q R S f xs ys h.1 q.1 r.1)

zip_chain : {X Y Z : Type 0} (P : X → Y → Type 0) (Q : X → Type 0) (R : Y → Z → Type 0) (S : X → Z → Type 0) → ((x : X) (y : Y) (z : Z) → P x y → Q x → R y z → S x z) → (xs : List X) (ys : List Y) (zs : List Z) → AllZip P xs ys → AllByRecursion Q xs → AllZip R ys zs → AllZip S xs zs
zip_chain P Q R S f [] [] [] p q r = tt
zip_chain P Q R S f [] [] (z ∷ zs) p q r = absurd r
zip_chain P Q R S f [] (y ∷ ys) zs p q r = absurd p
zip_chain P Q R S f (x ∷ xs) [] zs p q r = absurd p
zip_chain P Q R S f (x ∷ xs) (y ∷ ys) [] p q r = absurd r
zip_chain P Q R S f (x ∷ xs) (y ∷ ys) (z ∷ zs) p q r = (f x y z p.0 q.0 r.0, zip_chain P Q R S f xs ys zs p.1 q.1 r.1)

module _ (d : BoxesDecide) (t : Table) (known : Facts) (boxes : Boxes) (from : Place) (h : Agrees t known boxes from) (e : Entry) (us inputs : List Value) (ns : List ℕ) (xs : List Val) (tells : Retells known e ns xs) (over : IsOverLabel e)
    (label : AllZip (λ (b : BoxId) (u : Value). from.box b ≡ Some u) e.label us) where
  -- the recorded object of each virtual object of the entry
  objects_of : (ss : List Shape) (ms : List ℕ) → AllZip (IsShapeOf ns known) ss ms → (js : List ℕ) × (length js ≡ length ss) × ((k n : ℕ) → slice_get ms k ≡ Some n → (j : ℕ) × (slice_get js k ≡ Some j) × (slice_get from.virtuals n ≡ Some j))
  objects_of [] [] a = ([], refl, λ k n q. absurd (none_some q))
  objects_of [] (m ∷ ms) a = absurd a
  objects_of (s ∷ ss) [] a = absurd a
  objects_of (s ∷ ss) (m ∷ ms) a =
      let sh = h.shaped m a.0.0 a.0.1 in
      let rest = objects_of ss ms a.1 in
      (sh.object ∷ rest.0, ap suc rest.1, each sh.object rest.0 sh.names rest.2)
    where
      each : (j : ℕ) (js : List ℕ) → slice_get from.virtuals m ≡ Some j → ((k n : ℕ) → slice_get ms k ≡ Some n → (i : ℕ) × (slice_get js k ≡ Some i) × (slice_get from.virtuals n ≡ Some i)) → (k n : ℕ) → slice_get (m ∷ ms) k ≡ Some n → (i : ℕ) × (slice_get (j ∷ js) k ≡ Some i) × (slice_get from.virtuals n ≡ Some i)
      each j js names more zero n q = (j, refl, ap (slice_get from.virtuals) (sym (some_same q)) ∙ names)
      each j js names more (suc k) n q = more k n q

  module _ (js : List ℕ) (js_long : length js ≡ length e.shapes) (named : (k n : ℕ) → slice_get ns k ≡ Some n → (j : ℕ) × (slice_get js k ≡ Some j) × (slice_get from.virtuals n ≡ Some j)) where
    abbrev to : Place
    to = place_with e from.rec us from.opt from.mapped js

    seen : (a : Arg) → AreAmong e.label (boxes_of_arg a) → (y : Value) → ArgIs from a y → ArgIs to a y
    seen a among y w = (w.0, arg_seen d from.box e.label us label a among w.0 w.1, w.2)

    renamed : (x z : Val) (y : Value) → IsRenamed ns x z → AreAmong e.label (boxes_of_val x) → ValIs from z y → ValIs to x y
    renamed (Known a) (Known c) y same among w = seen a among y (subst (λ q. ArgIs from q y) (sym same) w)
    renamed (Virtual k) (Virtual n) y same among w = let j = named k n same in (j.0, j.1, w.2 ∙ ap v.Obj (some_same (sym w.1 ∙ j.2)))
    renamed (Known a) (Virtual n) y same among w = absurd same
    renamed (Virtual k) (Known c) y same among w = absurd same

    -- the piece's number of a virtual object of the entry, which is live there
    number_of : (k : ℕ) (s : Shape) → slice_get (map Some e.shapes) k ≡ Some (Some s) → (n : ℕ) × (slice_get ns k ≡ Some n) × IsShapeOf ns known s n
    number_of k s q = zip_first (IsShapeOf ns known) e.shapes ns tells.shapes k s (get_map_some e.shapes k s q)

    its_name : (k n j : ℕ) → slice_get ns k ≡ Some n → slice_get js k ≡ Some j → slice_get from.virtuals n ≡ Some j
    its_name k n j en ej = let w = named k n en in w.2 ∙ ap Some (some_same (sym w.1 ∙ ej))

    shape_parts : (ss : List Shape) (k : ℕ) (s : Shape) → AllByRecursion (λ (s : Shape). AllByRecursion (λ (x : Val). AreAmong e.label (boxes_of_val x)) s.parts) ss → slice_get ss k ≡ Some s → AllByRecursion (λ (x : Val). AreAmong e.label (boxes_of_val x)) s.parts
    shape_parts [] k s a q = absurd (none_some q)
    shape_parts (z ∷ ss) zero s a q = subst (λ (s : Shape). AllByRecursion (λ (x : Val). AreAmong e.label (boxes_of_val x)) s.parts) (some_same q) a.0
    shape_parts (z ∷ ss) (suc k) s a q = shape_parts ss k s a.1 q

    shaped : (k : ℕ) (s : Shape) → slice_get (map Some e.shapes) k ≡ Some (Some s) → ShapeIs t to k s
    shaped k s q =
        let m = number_of k s q in
        let sh = h.shaped m.0 m.2.0 m.2.1 in
        let j = named k m.0 m.1 in
        let same : j.0 ≡ sh.object = some_same (sym j.2 ∙ sh.names) in
        record {
          object = sh.object;
          names = j.1 ∙ ap Some same;
          recorded = sh.recorded;
          there = sh.there;
          of = sh.of ∙ sym m.2.2;
          parts = zip_chain (IsRenamed ns) (λ (x : Val). AreAmong e.label (boxes_of_val x)) (ValIs from) (ValIs to) (λ x z y p a w. renamed x z y p a w) s.parts m.2.0.parts sh.recorded.parts m.2.3 (shape_parts e.shapes k s over.shapes (get_map_some e.shapes k s q)) sh.parts;
        }

    pending_to : (ps qs : List Pending) → AllZip (IsPendingOf ns) ps qs → AllByRecursion (λ (p : Pending). AreAmong e.label (boxes_of_arg p.base) × AreAmong e.label (boxes_of_val p.value)) ps → (x i : ℕ) → IsPending t from qs x i → IsPending t to ps x i
    pending_to [] [] z a x i w = w
    pending_to [] (q ∷ qs) z a x i w = absurd z
    pending_to (p ∷ ps) [] z a x i w = absurd z
    pending_to (p ∷ ps) (q ∷ qs) z a x i (inl w) =
        inl (arg_seen d from.box e.label us label p.base a.0.0 (v.Obj x) (ap (arg_value from.box) z.0.0 ∙ w.0), w.1, w.2, ap (place_of t w.1.of) z.0.1 ∙ w.3)
    pending_to (p ∷ ps) (q ∷ qs) z a x i (inr w) = inr (pending_to ps qs z.1 a.1 x i w)

    store_to : (p q : Pending) → IsPendingOf ns p q → AreAmong e.label (boxes_of_arg p.base) × AreAmong e.label (boxes_of_val p.value) → StoreIs t from q → StoreIs t to p
    store_to p q z a w = (
      (w.0.0, seen p.base a.0 w.0.0 (subst (λ b. ArgIs from b w.0.0) (sym z.0) w.0.1), w.0.2, ap (λ s. read t s w.0.0 from.rec) z.1 ∙ w.0.3, renamed p.value q.value w.0.2 z.2 a.1 w.0.4),
      (w.1.0, arg_seen d from.box e.label us label p.base a.0 (v.Obj w.1.0) (ap (arg_value from.box) z.0 ∙ w.1.1), ap (λ s. is_frozen t s w.1.0) z.1 ∙ w.1.2),
    )

    fact_to : (x : Fact) → AreAmong e.label (boxes_of_fact x) → FactHolds t from x → FactHolds t to x
    fact_to (fact.Between b low high) among w = (w.0, bound_ok d from.box e.label us label [] b (v.Int w.0) w.1 (inr (among b (inl refl))), w.2, w.3)
    fact_to (fact.Nonnull b) among w = (w.0, bound_ok d from.box e.label us label [] b (v.Obj w.0) w.1 (inr (among b (inl refl))))
    fact_to (fact.ClassOf b n) among w = (w.0, bound_ok d from.box e.label us label [] b (v.Obj w.0) w.1 (inr (among b (inl refl))), w.2, w.3, w.4)
    fact_to (fact.Holds base s value) among w =
        (w.0, seen base (λ b q. among b (has_left (boxes_of_arg base) (boxes_of_arg value) b q)) w.0 w.1, w.2, w.3, seen value (λ b q. among b (has_right (boxes_of_arg base) (boxes_of_arg value) b q)) w.2 w.4)
    fact_to (fact.Same operation args value) among w = (
      w.0,
      args_seen d from.box e.label us label args (λ b q. among b (has_left (flat_map boxes_of_arg args) (boxes_of_arg value) b q)) w.0 w.1,
      w.2,
      w.3,
      arg_seen d from.box e.label us label value (λ b q. among b (has_right (flat_map boxes_of_arg args) (boxes_of_arg value) b q)) w.2 w.4,
    )

    admitted : Agrees t (at_entry e) [] to
    admitted = record {
      first = h.first;
      covers = h.covers;
      counts = js_long ∙ sym (long_map Some e.shapes);
      injective = h.injective;
      alike = h.alike;
      outside = λ k j x live ej. let m = number_of k live.0 live.1 in h.outside m.0 j x (m.2.0, m.2.1) (its_name k m.0 j m.1 ej);
      apart = λ k l j live other ek el.
          let m = number_of k live.0 live.1 in
          let n = number_of l other.0 other.1 in
          let same : m.0 ≡ n.0 = h.apart m.0 n.0 j (m.2.0, m.2.1) (n.2.0, n.2.1) (its_name k m.0 j m.1 ek) (its_name l n.0 j n.1 el) in
          once_get ns tells.once k l n.0 (m.1 ∙ ap Some same) n.1;
      shaped = shaped;
      names = λ b. tt;
      parts = λ x j i a b y e1 e2 e3 e4. elim (h.parts x j i a b y e1 e2 e3 e4) [
        | inl w ↦ inl (pending_to e.pending known.pending tells.pending over.pending x i w)
        | inr w ↦ inr w
      ];
      pending = zip_all (IsPendingOf ns) (λ (p : Pending). AreAmong e.label (boxes_of_arg p.base) × AreAmong e.label (boxes_of_val p.value)) (StoreIs t from) (StoreIs t to) store_to e.pending known.pending tells.pending over.pending h.pending;
      facts = each_weaker (IsFactOf e.label known.facts) (FactHolds t to) (λ x w. fact_to x w.1 (has_all (FactHolds t from) known.facts x h.facts w.0)) e.facts tells.facts;
      calls = h.calls;
      answers = h.answers;
      failures = h.failures;
    }

    admits : map kind_of_value us ≡ map (λ (b : BoxId). b.kind) e.label → AllZip (ValIs from) xs inputs → Admits t e inputs from.rec us from.opt
    admits kinds is = record {
      mapped = from.mapped;
      virtuals = js;
      label_fits = kinds;
      values = zip_chain (IsRenamed ns) (λ (x : Val). AreAmong e.label (boxes_of_val x)) (ValIs from) (ValIs to) (λ x z y p a w. renamed x z y p a w) e.values xs inputs tells.values over.values is;
      agrees = admitted;
    }

pub entry_admits : BoxesDecide → EntryAdmits
entry_admits d t known boxes at h e us inputs ns xs tells over label kinds is =
    let js = objects_of d t known boxes at h e us inputs ns xs tells over label e.shapes ns tells.shapes in
    admits d t known boxes at h e us inputs ns xs tells over label js.0 js.1 js.2 kinds is

-- Snapshots

frames_among : (bs : List BoxId) (frames : List OptFrame) → AreAmong bs (flat_map boxes_of_frame frames) → AllByRecursion (λ (x : Val). AreAmong bs (boxes_of_val x)) (slots_of frames)
frames_among bs [] h = tt
frames_among bs (f ∷ fs) h =
    append (λ (x : Val). AreAmong bs (boxes_of_val x)) f.slots (slots_of fs) (all_flat boxes_of_val bs f.slots (λ b w. h b (has_left (boxes_of_frame f) (flat_map boxes_of_frame fs) b w)))
    (frames_among bs fs (λ b w. h b (has_right (boxes_of_frame f) (flat_map boxes_of_frame fs) b w)))
  where
    append : {X : Type 0} (P : X → Type 0) (xs ys : List X) → AllByRecursion P xs → AllByRecursion P ys → AllByRecursion P (xs ++ ys)
    append P [] ys a b = b
    append P (x ∷ xs) ys a b = (a.0, append P xs ys a.1 b)

over_label : BoxesDecide → (snap : Snapshot) (e : Entry) → IsEntryOf snap e → IsOverLabel e
over_label d snap e is =
    let own : AreAmong e.label (boxes_of snap) = subst (λ bs. AreAmong bs (boxes_of snap)) (sym is.0) (parts_have d snap) in
    let frames : List BoxId = flat_map boxes_of_frame snap.frames in
    let shapes : List BoxId = flat_map boxes_of_shape snap.shapes in
    let stores : List BoxId = flat_map boxes_of_pending snap.pending in
    record {
      values = subst (AllByRecursion (λ (x : Val). AreAmong e.label (boxes_of_val x))) (sym is.1) (frames_among e.label snap.frames (λ b w. own b (first frames shapes stores b w)));
      shapes = subst (AllByRecursion (λ (s : Shape). AllByRecursion (λ (x : Val). AreAmong e.label (boxes_of_val x)) s.parts)) (sym is.2)
          (each_weaker (λ (s : Shape). AreAmong e.label (boxes_of_shape s)) (λ (s : Shape). AllByRecursion (λ (x : Val). AreAmong e.label (boxes_of_val x)) s.parts) (λ s w. all_flat boxes_of_val e.label s.parts w) snap.shapes
          (all_flat boxes_of_shape e.label snap.shapes (λ b w. own b (second frames shapes stores b w))));
      pending = subst (AllByRecursion (λ (p : Pending). AreAmong e.label (boxes_of_arg p.base) × AreAmong e.label (boxes_of_val p.value))) (sym is.3)
          (each_weaker (λ (p : Pending). AreAmong e.label (boxes_of_pending p)) (λ (p : Pending). AreAmong e.label (boxes_of_arg p.base) × AreAmong e.label (boxes_of_val p.value))
          (λ p w. (λ b q. w b (has_left (boxes_of_arg p.base) (boxes_of_val p.value) b q), λ b q. w b (has_right (boxes_of_arg p.base) (boxes_of_val p.value) b q))) snap.pending
          (all_flat boxes_of_pending e.label snap.pending (λ b w. own b (third frames shapes stores b w))));
    }
  where
    first : (xs ys zs : List BoxId) (b : BoxId) → Has xs b → Has (xs ++ ys ++ zs) b
    first xs ys zs b w = has_left (xs ++ ys) zs b (has_left xs ys b w)

    second : (xs ys zs : List BoxId) (b : BoxId) → Has ys b → Has (xs ++ ys ++ zs) b
    second xs ys zs b w = has_left (xs ++ ys) zs b (has_right xs ys b w)

    third : (xs ys zs : List BoxId) (b : BoxId) → Has zs b → Has (xs ++ ys ++ zs) b
    third xs ys zs b w = has_right (xs ++ ys) zs b w

pub guard_admits : BoxesDecide → GuardAdmits
guard_admits d t known boxes at h snap e us vs ns xs is tells values kinds slots =
    let label = subst (λ bs. AllZip (λ (b : BoxId) (u : Value). at.box b ≡ Some u) bs us) (sym is.0) (label_values d at.box (parts_of snap) us values) in
    entry_admits d t known boxes at h e us vs ns xs tells (over_label d snap e is) label (label_kinds d at.box e.label us kinds label) slots

-- Nothing else is known

not_here : {X : Type 0} (x : X) (xs : List X) (y : X) → ¬ Contains (x ∷ xs) y → ¬ (y ≡ x)
not_here x xs y h = λ e. h (0, omega arith, sym e)

not_there : {X : Type 0} (x : X) (xs : List X) (y : X) → ¬ Contains (x ∷ xs) y → ¬ Contains xs y
not_there x xs y h = λ c. h (suc c.0, omega (arith, c.1), c.2)

other_box : BoxesDecide → (b c : BoxId) → ¬ (c ≡ b) → same_box c b ≡ false
other_box d b c ne = by (same_box c b) refl
  where
    by : (s : Bool) → same_box c b ≡ s → same_box c b ≡ false
    by false e = e
    by true e = absurd (ne ((d c b).0 e))

unbound : BoxesDecide → (es : Boxes) (bs : List BoxId) (us : List Value) (c : BoxId) → ¬ Contains bs c → value_in (bind_all es bs us) c ≡ value_in es c
unbound d es [] us c h = refl
unbound d es (b ∷ bs) [] c h = refl
unbound d es (b ∷ bs) (x ∷ xs) c h = unbound d (bind b x es) bs xs c (not_there b bs c h) ∙ bound_other d b c x es (other_box d b c (not_here b bs c h))

each_bound : BoxesDecide → (at : Place) (es : Boxes) (bs : List BoxId) (us vs : List Value) → AreDistinct bs → length us ≡ length bs → AllZip (MapsAt at) us vs → (f : BoxId → Option Value) → ((b : BoxId) (u : Value) → value_in (bind_all es bs us) b ≡ Some u → f b ≡ Some u)
    → AllZip (ValIs (record at { box = f })) (map (λ b. Known (arg.Of b)) bs) vs
each_bound e at es [] [] [] d l m f k = tt
each_bound e at es [] [] (y ∷ ys) d l m f k = absurd m
each_bound e at es [] (x ∷ xs) vs d l m f k = absurd (omega (arith, l))
each_bound e at es (b ∷ bs) [] vs d l m f k = absurd (omega (arith, l))
each_bound e at es (b ∷ bs) (x ∷ xs) [] d l m f k = absurd m
each_bound e at es (b ∷ bs) (x ∷ xs) (y ∷ ys) d l m f k =
    ((x, k b x (unbound e (bind b x es) bs xs b d.0 ∙ bound_same e b x es), m.0), each_bound e at (bind b x es) bs xs ys d.1 (omega (arith, l)) m.1 f k)

no_shape : (n : ℕ) (s : Shape) → slice_get [] n ≡ Some (Some s) → ⊥
no_shape n s e = none_some e

pub plain_admits : BoxesDecide → PlainAdmits
plain_admits d t known boxes at h still bs us vs distinct kinds maps =
    let long : length us ≡ length bs = sym (long_map kind_of_value us) ∙ ap length kinds ∙ long_map (λ (b : BoxId). b.kind) bs in
    record {
      mapped = at.mapped;
      virtuals = [];
      label_fits = kinds;
      values = values (each_bound d at [] bs us vs distinct long maps (value_in (bound_to bs us)) (λ b u e. e));
      agrees = record {
        first = h.first;
        covers = h.covers;
        counts = refl;
        injective = h.injective;
        alike = h.alike;
        outside = λ n j x live. absurd (no_shape n live.0 live.1);
        apart = λ m n j live. absurd (no_shape m live.0 live.1);
        shaped = λ n s e. absurd (no_shape n s e);
        names = λ b. tt;
        parts = λ x j i a b y e1 e2 e3 e4. elim (subst (λ ps. IsPending t at ps x i ⊎ MapsIf (slice_get at.mapped) (slice_get a.parts i) (Some y)) still (h.parts x j i a b y e1 e2 e3 e4)) [ inl w ↦ absurd w | inr w ↦ inr w ];
        pending = tt;
        facts = tt;
        calls = h.calls;
        answers = h.answers;
        failures = h.failures;
      };
    }
  where
    values : AllZip (ValIs (record at { box = value_in (bound_to bs us) })) (map (λ b. Known (arg.Of b)) bs) vs → AllZip (ValIs (place_with (plain_entry bs) at.rec us at.opt at.mapped [])) (map (λ b. Known (arg.Of b)) bs) vs
    values w = known_zip (record at { box = value_in (bound_to bs us) }) (place_with (plain_entry bs) at.rec us at.opt at.mapped []) bs vs (λ b y q. q) w
      where
        known_zip : (from other : Place) (bs : List BoxId) (vs : List Value) → ((b : BoxId) (y : Value) → ArgIs from (arg.Of b) y → ArgIs other (arg.Of b) y) → AllZip (ValIs from) (map (λ b. Known (arg.Of b)) bs) vs → AllZip (ValIs other) (map (λ b. Known (arg.Of b)) bs) vs
        known_zip from other [] [] f w = tt
        known_zip from other [] (y ∷ ys) f w = absurd w
        known_zip from other (b ∷ bs) [] f w = absurd w
        known_zip from other (b ∷ bs) (y ∷ ys) f w = (f b y w.0, known_zip from other bs ys f w.1)
