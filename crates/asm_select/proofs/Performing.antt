-- Loads and stores of parts do what operations on objects do.
use Rattle.std.proofs.Common.{◌≡◌, ℕ, ◌+◌, ◌-◌, ◌*◌, ◌/◌, ◌^◌, ◌<◌, ◌≤◌, Bool, true, false, cond, List, ◌++◌, length, set, slice_get, Option, Some, None, refl, sym, ap, ◌∙◌, subst, arith, ℤ, pos, negsuc}
use Rattle.std.specs.Prelude.{◌==◌, option_and_then, IsSome}
use Rattle.std.specs.Option.{option_map}
use Rattle.std.proofs.Math.ListN.{length-set}
use Rattle.std.proofs.lemmas.Option.{same_Some, slice_get_within}
use Rattle.trace_ops.specs.Words.{IsWord}
use Rattle.trace_ops.specs.declared.piece.Spot.{Spot}
use Rattle.trace_ops.specs.declared.piece.Spot.TheVariants.{Item}
use Rattle.trace_ops.specs.declared.table.Table.{Table}
use Rattle.trace_ops.specs.declared.table.ShapeOf.{ShapeOf}
use Rattle.trace_ops.specs.declared.table.ShapeOf.TheVariants.{Size, Array}
use Rattle.trace_meaning.specs.declared.value.Value.{Value}
use Rattle.trace_meaning.specs.declared.value.Value.TheVariants as v
use Rattle.trace_meaning.specs.declared.value.Object.{Object}
use Rattle.trace_meaning.specs.World.{World}
use Rattle.trace_meaning.specs.Objects.{read_in, length_in, write, write_unfrozen, is_frozen, written, with_object, part_of_object, place_of, index_of}
use Rattle.target_base.specs.declared.place.Place.{Place}
use Rattle.target_base.specs.Arena.{Arena, arena_word, with_arena_word}
use Rattle.x64_machine.specs.State.{State}
use Rattle.asm_select.specs.declared.operand.Operand.{Operand}
use Rattle.asm_select.specs.Slots.{Slot, puts}
use Rattle.asm_select.specs.Valued.{r11, MayHold, IsFit}
use Rattle.asm_select.specs.Reached.{Reach, read}
use Rattle.asm_select.proofs.Steps.{weaker}
use Rattle.asm_select.proofs.Micro.{CanRead}
use Rattle.arena_objects.specs.Layout.{address_of, word_of}
use Rattle.arena_objects.specs.Standing.{IsPart, Stands}
use Rattle.arena_objects.specs.Spots.{spot_offset, ListsItsFields}
use Rattle.asm_select.specs.Chosen.{read_code, write_code, read_item_code, write_item_code}
use Rattle.asm_select.specs.Performed.{IsHeld, Performed}
use Rattle.asm_select.proofs.Loads.{LoadsTo, loads, item_loads, StoresAt, stores, item_stores}
use Rattle.asm_select.proofs.Relying.{Relied}

-- ---- what is found in an arena has a low address

found_when : (b : Bool) (words : List ℤ) (k : ℕ) (x : ℤ) → cond b (slice_get words k) None ≡ Some x → k < length words
found_when true words k x e = slice_get_within words k x e
found_when false words k x e = absurd (cc)

pub low_address : (arena : Arena) (a : ℕ) (x : ℤ) → length arena.words ≤ 2 ^ 21 → arena_word arena a ≡ Some x → a < 0x20000000
low_address arena a x few e =
    let inside : (a - 0x10000000) / 8 < length arena.words = found_when _ arena.words ((a - 0x10000000) / 8) x e in
    grind arith

-- ---- words of values

pub word_fits : Relied → (t : Table) (objects : List Object) (arena : Arena) (x : Value) → Stands t objects arena → IsPart (length objects) x → IsWord (word_of (address_of objects) x)
word_fits relied t objects arena (v.Int z) st h = h
word_fits relied t objects arena v.Null st h = record { sfits = omega arith }
word_fits relied t objects arena (v.Obj n) st h =
    let high : address_of objects n < 0x20000000 = (relied.apart t objects arena n st h).high in
    record { sfits = omega arith }

some_word : (w : Option ℤ) → IsSome w → (z : ℤ) × (w ≡ Some z)
some_word None h = absurd (cc)
some_word (Some z) h = (z, refl)

-- ---- loads

loaded : (t : Table) (d : Place) (x : Value) (objects : List Object) (s u : State) → Stands t objects s.arena → IsPart (length objects) x → LoadsTo d (word_of (address_of objects) x) s u → Performed t d (Some x) objects objects 1 0 s u
loaded t d x objects s u st part h = record {
  stands = subst (Stands t objects) (sym h.1.arena) st;
  result = λ y e. h.0 ∙ ap (word_of (address_of objects)) (same_Some x y e);
  part = λ y e. subst (IsPart (length objects)) (same_Some x y e) part;
  more = omega arith;
  kept = λ m lt. refl;
  others = h.1.others;
  loads = h.1.loads;
  stores = h.1.stores;
  fit = h.1.fit;
}

-- a spot at a known place is read
pub reads_spot : Relied → (t : Table) (at : Spot) (base x : Value) (objects : List Object) (p : ℕ) (d : Place) (a : Operand) (ys : List Slot) (s : State) → ListsItsFields t → Stands t objects s.arena → read_in t at base objects ≡ Some x → IsHeld objects s a base → MayHold d → CanRead a → IsFit s → s.at ≡ 0x40000000 + p → Reach p (puts (read_code d a (spot_offset t at)) ++ ys) s ys (Performed t d (Some x) objects objects 1 0 s)
reads_spot relied t at (v.Int z) x objects p d a ys s lists st e held md ra f here = absurd (cc)
reads_spot relied t at v.Null x objects p d a ys s lists st e held md ra f here = absurd (cc)
reads_spot relied t at (v.Obj n) x objects p d a ys s lists st e held md ra f here =
    let r = relied.found t objects s.arena at n x lists st e in
    let low : address_of objects n + spot_offset t at < 0x20000000 = low_address s.arena (address_of objects n + spot_offset t at) (word_of (address_of objects) x) st.few r.2 in
    weaker p _ ys s (λ u h. loaded t d x objects s u st r.1 h)
    (loads p d a (spot_offset t at) (address_of objects n) (word_of (address_of objects) x) ys s md ra f held low r.2 (word_fits relied t objects s.arena x st r.1) here)

-- there is no item at an index below 0
pub no_place : (t : Table) (array k : ℕ) (s : ShapeOf) → place_of t s (Item array (negsuc k)) ≡ None
no_place t array k (Size s) = refl
no_place t array k (Array a) =
    elim (a == array) as (λ b. cond b (index_of (negsuc k)) None ≡ None) [
      | true ↦ refl
      | false ↦ refl
    ]

no_item : (t : Table) (array k : ℕ) (x : Value) (r : Option Object) → option_and_then (part_of_object t (Item array (negsuc k))) r ≡ Some x → ⊥
no_item t array k x None h = cc
no_item t array k x (Some o) h =
    let none : None ≡ Some x = ap (option_and_then (slice_get o.parts)) (sym (no_place t array k o.of)) ∙ h in
    cc

-- an item at an index that is known at the run alone
pub reads_item : Relied → (t : Table) (array : ℕ) (i : ℤ) (base x : Value) (objects : List Object) (p : ℕ) (d : Place) (a c : Operand) (ys : List Slot) (s : State) → ListsItsFields t → Stands t objects s.arena → read_in t (Item array i) base objects ≡ Some x → IsHeld objects s a base → read s c ≡ i → MayHold d → CanRead a → CanRead c → IsFit s → s.at ≡ 0x40000000 + p → Reach p (puts (read_item_code d a c) ++ ys) s ys (Performed t d (Some x) objects objects 1 0 s)
reads_item relied t array i (v.Int z) x objects p d a c ys s lists st e held index md ra rc f here = absurd (cc)
reads_item relied t array i v.Null x objects p d a c ys s lists st e held index md ra rc f here = absurd (cc)
reads_item relied t array (negsuc k) (v.Obj n) x objects p d a c ys s lists st e held index md ra rc f here =
    absurd (no_item t array k x (slice_get objects n) e)
reads_item relied t array (pos k) (v.Obj n) x objects p d a c ys s lists st e held index md ra rc f here =
    let r = relied.found t objects s.arena (Item array (pos k)) n x lists st e in
    let b = address_of objects n in
    let place : b + spot_offset t (Item array (pos k)) ≡ b + 8 * k + 16 = omega arith in
    let found : arena_word s.arena (b + 8 * k + 16) ≡ Some (word_of (address_of objects) x) = ap (arena_word s.arena) (sym place) ∙ r.2 in
    let low : b + 8 * k + 16 < 0x20000000 = low_address s.arena (b + 8 * k + 16) (word_of (address_of objects) x) st.few found in
    weaker p _ ys s (λ u h. loaded t d x objects s u st r.1 h)
    (item_loads p d a c b k (word_of (address_of objects) x) ys s md ra rc f held index low found (word_fits relied t objects s.arena x st r.1) here)

pub reads_length : Relied → (t : Table) (array k : ℕ) (base : Value) (objects : List Object) (p : ℕ) (d : Place) (a : Operand) (ys : List Slot) (s : State) → Stands t objects s.arena → length_in array base objects ≡ Some k → IsHeld objects s a base → MayHold d → CanRead a → IsFit s → s.at ≡ 0x40000000 + p → Reach p (puts (read_code d a 8) ++ ys) s ys (Performed t d (Some (v.Int (pos k))) objects objects 1 0 s)
reads_length relied t array k (v.Int z) objects p d a ys s st e held md ra f here = absurd (cc)
reads_length relied t array k v.Null objects p d a ys s st e held md ra f here = absurd (cc)
reads_length relied t array k (v.Obj n) objects p d a ys s st e held md ra f here =
    let r = relied.lengths t objects s.arena array n k st e in
    let small : k < 2 ^ 21 = r.1 in
    let low : address_of objects n + 8 < 0x20000000 = low_address s.arena (address_of objects n + 8) (pos k) st.few r.2 in
    let fits : IsWord (pos k) = record { sfits = omega arith } in
    weaker p _ ys s (λ u h. loaded t d (v.Int (pos k)) objects s u st fits h)
    (loads p d a 8 (address_of objects n) (pos k) ys s md ra f held low r.2 fits here)

-- ---- stores

-- a write names an object, and gives another one in its place
pub record Writes (t : Table) (at : Spot) (base x : Value) (w u : World) : Type 0 where
  pub n : ℕ
  pub is : base ≡ v.Obj n
  pub o : Object
  pub old : slice_get w.objects n ≡ Some o
  pub p : Object
  pub new : written t at x o ≡ Some p
  pub objects : u.objects ≡ set w.objects n p

pub writes : (t : Table) (at : Spot) (base x : Value) (w u : World) → write t at base x w ≡ Some u → Writes t at base x w u
writes t at (v.Int z) x w u e = absurd (cc)
writes t at v.Null x w u e = absurd (cc)
writes t at (v.Obj n) x w u e = by_frozen (is_frozen t at n) e
  where
    by_new : (o : Object) → slice_get w.objects n ≡ Some o → (q : Option Object) → written t at x o ≡ q → option_map (with_object n w) q ≡ Some u → Writes t at (v.Obj n) x w u
    by_new o eo None q h = absurd (cc)
    by_new o eo (Some p) q h = record {
      n = n;
      is = refl;
      o = o;
      old = eo;
      p = p;
      new = q;
      objects = ap (λ (y : World). y.objects) (sym (same_Some (with_object n w p) u h));
    }

    by_object : (r : Option Object) → slice_get w.objects n ≡ r → option_map (with_object n w) (option_and_then (written t at x) r) ≡ Some u → Writes t at (v.Obj n) x w u
    by_object None q h = absurd (cc)
    by_object (Some o) q h = by_new o q (written t at x o) refl h

    by_frozen : (b : Bool) → write_unfrozen b t at n x w ≡ Some u → Writes t at (v.Obj n) x w u
    by_frozen true h = absurd (cc)
    by_frozen false h = by_object (slice_get w.objects n) refl h

stored : (t : Table) (given : Option Value) (n a : ℕ) (y : ℤ) (objects new : List Object) (s u : State) → given ≡ None → length new ≡ length objects → Stands t new (with_arena_word a y s.arena) → ((m : ℕ) → address_of new m ≡ address_of objects m) → StoresAt a y s u → Performed t r11 given objects new 0 1 s u
stored t given n a y objects new s u none many st same h = record {
  stands = subst (Stands t new) (sym h.arena) st;
  result = λ x e. absurd (cc);
  part = λ x e. absurd (cc);
  more = omega arith;
  kept = λ m lt. same m;
  others = h.others;
  loads = h.loads;
  stores = h.stores;
  fit = h.fit;
}

-- what a store does to the objects, by the words that are there
pub record Storing (t : Table) (at : Spot) (x : Value) (objects new : List Object) (s : State) (b : ℕ) : Type 0 where
  pub word : ℤ
  pub found : arena_word s.arena (b + spot_offset t at) ≡ Some word
  pub low : b + spot_offset t at < 0x20000000
  pub stands : Stands t new (with_arena_word (b + spot_offset t at) (word_of (address_of objects) x) s.arena)
  pub many : length new ≡ length objects
  pub kept : (m : ℕ) → address_of new m ≡ address_of objects m

storing : Relied → (t : Table) (at : Spot) (base x : Value) (w u : World) (s : State) → ListsItsFields t → Stands t w.objects s.arena → IsPart (length w.objects) x → (f : Writes t at base x w u) → Storing t at x w.objects u.objects s (address_of w.objects f.n)
storing relied t at base x w u s lists st part f =
    let r = relied.written t w.objects s.arena at f.n f.o f.p x lists st part f.old f.new in
    let old = some_word (arena_word s.arena (address_of w.objects f.n + spot_offset t at)) r.0 in
    let low : address_of w.objects f.n + spot_offset t at < 0x20000000 = low_address s.arena (address_of w.objects f.n + spot_offset t at) old.0 st.few old.1 in
    record {
      word = old.0;
      found = old.1;
      low = low;
      stands = subst (λ os. Stands t os (with_arena_word (address_of w.objects f.n + spot_offset t at) (word_of (address_of w.objects) x) s.arena)) (sym f.objects) r.1;
      many = ap (λ os. length os) f.objects ∙ length-set w.objects f.n f.p;
      kept = λ m. ap (λ os. address_of os m) f.objects ∙ r.2 m;
    }

pub writes_spot : Relied → (t : Table) (at : Spot) (base x : Value) (w w2 : World) (p : ℕ) (a c : Operand) (ys : List Slot) (s : State) → ListsItsFields t → Stands t w.objects s.arena → write t at base x w ≡ Some w2 → IsPart (length w.objects) x → IsHeld w.objects s a base → IsHeld w.objects s c x → CanRead a → CanRead c → IsFit s → s.at ≡ 0x40000000 + p → Reach p (puts (write_code a (spot_offset t at) c) ++ ys) s ys (Performed t r11 None w.objects w2.objects 0 1 s)
writes_spot relied t at base x w w2 p a c ys s lists st e part held heldx ra rc f here =
    let g = writes t at base x w w2 e in
    let h = storing relied t at base x w w2 s lists st part g in
    let b = address_of w.objects g.n in
    let k = spot_offset t at in
    let base_is : read s a ≡ pos b = held ∙ ap (word_of (address_of w.objects)) g.is in
    weaker p _ ys s (λ u q. stored t None g.n (b + k) (word_of (address_of w.objects) x) w.objects w2.objects s u refl h.many h.stands h.kept (subst (λ z. StoresAt (b + k) z s u) heldx q))
    (stores p a k b h.word c ys s ra rc f base_is h.low h.found here)

pub writes_item : Relied → (t : Table) (array k : ℕ) (base x : Value) (w w2 : World) (p : ℕ) (a i c : Operand) (ys : List Slot) (s : State) → ListsItsFields t → Stands t w.objects s.arena → write t (Item array (pos k)) base x w ≡ Some w2 → IsPart (length w.objects) x → IsHeld w.objects s a base → read s i ≡ pos k → IsHeld w.objects s c x → CanRead a → CanRead i → CanRead c → IsFit s → s.at ≡ 0x40000000 + p → Reach p (puts (write_item_code a i c) ++ ys) s ys (Performed t r11 None w.objects w2.objects 0 1 s)
writes_item relied t array k base x w w2 p a i c ys s lists st e part held index heldx ra ri rc f here =
    let at = Item array (pos k) in
    let g = writes t at base x w w2 e in
    let h = storing relied t at base x w w2 s lists st part g in
    let b = address_of w.objects g.n in
    let z = word_of (address_of w.objects) x in
    let base_is : read s a ≡ pos b = held ∙ ap (word_of (address_of w.objects)) g.is in
    let place : b + spot_offset t at ≡ b + 8 * k + 16 = omega arith in
    let low : b + spot_offset t at < 0x20000000 = h.low in
    weaker p _ ys s (λ u q. stored t None g.n (b + 8 * k + 16) z w.objects w2.objects s u refl h.many (subst (λ n. Stands t w2.objects (with_arena_word n z s.arena)) place h.stands) h.kept (subst (λ y. StoresAt (b + 8 * k + 16) y s u) heldx q))
    (item_stores p a i c b k h.word ys s ra ri rc f base_is index (omega arith) (ap (arena_word s.arena) (sym place) ∙ h.found) here)
