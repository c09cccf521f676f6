-- The code of each operation on objects gives what the operation gives.
use Rattle.std.proofs.Common.{◌≡◌, ℕ, List, Option, Some, None, refl, sym, ap, ◌∙◌, subst, pos, negsuc}
use Rattle.std.specs.Prelude.{option_and_then}
use Rattle.std.specs.Option.{option_map}
use Rattle.trace_ops.specs.declared.piece.Spot.TheVariants.{Field, Item}
use Rattle.trace_ops.specs.declared.table.Table.{Table}
use Rattle.trace_meaning.specs.declared.value.Value.{Value}
use Rattle.trace_meaning.specs.declared.value.Value.TheVariants as v
use Rattle.trace_meaning.specs.declared.value.Object.{Object}
use Rattle.trace_meaning.specs.World.{World}
use Rattle.trace_meaning.specs.Objects.{read, write, length_at, written, within, with_part}
use Rattle.trace_meaning.specs.Performing.{Done, Gave, Bad, Waited, Misfitted, value_done, write_done}
use Rattle.x64_machine.specs.State.{State}
use Rattle.target_base.specs.declared.place.Place.{Place}
use Rattle.asm_select.specs.Slots.{Slot}
use Rattle.asm_select.specs.Valued.{r11}
use Rattle.asm_select.specs.Reached.{Reach}
use Rattle.asm_select.proofs.Steps.{weaker}
use Rattle.asm_select.specs.declared.operand.Operand.{Operand}
use Rattle.asm_select.specs.declared.operand.Operand.TheVariants as operand
use Rattle.asm_select.proofs.Micro.{CanRead}
use Rattle.asm_select.specs.Performed.{CanBeRead, Performed}
use Rattle.asm_select.specs.Accesses.{GetsField, SetsField, GetsKnownItem, GetsItem, SetsKnownItem, SetsItem, GetsLength}
use Rattle.asm_select.proofs.Performing.{reads_spot, reads_item, reads_length, writes_spot, writes_item, writes, no_place}
use Rattle.asm_select.proofs.Relying.{Relied}

-- ---- what was given

abbrev pub gave_value : Done → Option Value
gave_value (Gave x w) = x
gave_value Bad = None
gave_value (Waited w) = None
gave_value (Misfitted w) = None

abbrev pub gave_world : World → Done → World
gave_world d (Gave x w) = w
gave_world d Bad = d
gave_world d (Waited w) = w
gave_world d (Misfitted w) = w

-- a value was given, and the world is as before
value_gave : (w u : World) (r : Option Value) (given : Option Value) → value_done w r ≡ Gave given u → (x : Value) × (r ≡ Some x) × (given ≡ Some x) × (u ≡ w)
value_gave w u None given e = absurd (cc)
value_gave w u (Some x) given e = (x, refl, sym (ap gave_value e), sym (ap (gave_world w) e))

write_gave : (w u : World) (r : Option World) (given : Option Value) → write_done r ≡ Gave given u → (r ≡ Some u) × (given ≡ None)
write_gave w u None given e = absurd (cc)
write_gave w u (Some y) given e = (ap Some (ap (gave_world w) e), sym (ap gave_value e))

-- where the world is the same
as_given : (t : Table) (d : Place) (x : Value) (given : Option Value) (w u : World) (l k p : ℕ) (xs ys : List Slot) (s : State) → given ≡ Some x → u ≡ w → Reach p xs s ys (Performed t d (Some x) w.objects w.objects l k s) → Reach p xs s ys (Performed t d given w.objects u.objects l k s)
as_given t d x given w u l k p xs ys s g e r =
    weaker p xs ys s (λ z h. subst (λ (o : Option Value). Performed t d o w.objects u.objects l k s z) (sym g) (subst (λ (y : World). Performed t d (Some x) w.objects y.objects l k s z) (sym e) h)) r

as_written : (t : Table) (given : Option Value) (w u : World) (l k p : ℕ) (xs ys : List Slot) (s : State) → given ≡ None → Reach p xs s ys (Performed t r11 None w.objects u.objects l k s) → Reach p xs s ys (Performed t r11 given w.objects u.objects l k s)
as_written t given w u l k p xs ys s g r =
    weaker p xs ys s (λ z h. subst (λ (o : Option Value). Performed t r11 o w.objects u.objects l k s z) (sym g) h) r

-- ---- operands

pub readable : (a : Operand) → CanBeRead a → CanRead a
readable (operand.At p) m = m
readable (operand.Imm w) m = m

-- ---- the operations

pub gets_field : Relied → GetsField
gets_field relied t f base given w u p d a ys s e before md ra held =
    let g = value_gave w u (read t (Field f) base w) given e in
    as_given t d g.0 given w u 1 0 p _ ys s g.2 g.3
    (reads_spot relied t (Field f) base g.0 w.objects p d a ys s before.lists before.stands g.1 held md (readable a ra) before.fit before.at)

pub gets_known_item : Relied → GetsKnownItem
gets_known_item relied t array i base given w u p d a ys s e before md ra held =
    let g = value_gave w u (read t (Item array i) base w) given e in
    as_given t d g.0 given w u 1 0 p _ ys s g.2 g.3
    (reads_spot relied t (Item array i) base g.0 w.objects p d a ys s before.lists before.stands g.1 held md (readable a ra) before.fit before.at)

pub gets_item : Relied → GetsItem
gets_item relied t array i base given w u p d a c ys s e before md ra rc held index =
    let g = value_gave w u (read t (Item array i) base w) given e in
    as_given t d g.0 given w u 1 0 p _ ys s g.2 g.3
    (reads_item relied t array i base g.0 w.objects p d a c ys s before.lists before.stands g.1 held index md (readable a ra) (readable c rc) before.fit before.at)

length_gave : (r : Option ℕ) (x : Value) → option_map (λ n. v.Int (pos n)) r ≡ Some x → (n : ℕ) × (r ≡ Some n) × (v.Int (pos n) ≡ x)
length_gave None x e = absurd (cc)
length_gave (Some n) x e = (n, refl, cc)

pub gets_length : Relied → GetsLength
gets_length relied t array base given w u p d a ys s e before md ra held =
    let g = value_gave w u (option_map (λ n. v.Int (pos n)) (length_at array base w)) given e in
    let k = length_gave (length_at array base w) g.0 g.1 in
    as_given t d (v.Int (pos k.0)) given w u 1 0 p _ ys s (g.2 ∙ ap Some (sym k.2)) g.3
    (reads_length relied t array k.0 base w.objects p d a ys s before.stands k.1 held md (readable a ra) before.fit before.at)

pub sets_field : Relied → SetsField
sets_field relied t f base x given w u p a c ys s e before ra rc held heldx part =
    let g = write_gave w u (write t (Field f) base x w) given e in
    as_written t given w u 0 1 p _ ys s g.1
    (writes_spot relied t (Field f) base x w u p a c ys s before.lists before.stands g.0 part held heldx (readable a ra) (readable c rc) before.fit before.at)

pub sets_known_item : Relied → SetsKnownItem
sets_known_item relied t array i base x given w u p a c ys s e before ra rc held heldx part =
    let g = write_gave w u (write t (Item array i) base x w) given e in
    as_written t given w u 0 1 p _ ys s g.1
    (writes_spot relied t (Item array i) base x w u p a c ys s before.lists before.stands g.0 part held heldx (readable a ra) (readable c rc) before.fit before.at)

-- nothing is written at an index below 0
not_written : (t : Table) (array k : ℕ) (x : Value) (o : Object) (p : Object) → written t (Item array (negsuc k)) x o ≡ Some p → ⊥
not_written t array k x o p e =
    let none : None ≡ Some p = ap (λ q. option_map (λ i. with_part o i x) (option_and_then (within o) q)) (sym (no_place t array k o.of)) ∙ e in
    cc

pub sets_item : Relied → SetsItem
sets_item relied t array (pos k) base x given w u p a b c ys s e before ra rb rc held index heldx part =
    let g = write_gave w u (write t (Item array (pos k)) base x w) given e in
    as_written t given w u 0 1 p _ ys s g.1
    (writes_item relied t array k base x w u p a b c ys s before.lists before.stands g.0 part held index heldx (readable a ra) (readable b rb) (readable c rc) before.fit before.at)
sets_item relied t array (negsuc k) base x given w u p a b c ys s e before ra rb rc held index heldx part =
    let g = write_gave w u (write t (Item array (negsuc k)) base x w) given e in
    let r = writes t (Item array (negsuc k)) base x w u g.0 in
    absurd (not_written t array k x r.o r.p r.new)
