-- What holds of an operation that is read.
use Rattle.std.proofs.Common.{◌≡◌, ℕ, ℤ, ◌+◌, ◌-◌, ◌<◌, ◌≤◌, ◌^◌, Bool, true, false, cond, take, drop, leb, List, [], ◌∷◌, map, length, Option, Some, None, refl, sym, ap, subst, ◌∙◌, inl, inr, ◌⊎◌, arith}
use Rattle.std.specs.Prelude.{codes, position, nat_eq, nat_lt, nat_le, not, ◌&&◌, is_some, unwrap_or}
use Rattle.std.specs.Str.{bytes_eq}
use Rattle.std.specs.List.{list_any, list_all}
use Rattle.std.proofs.lemmas.Bool.{leb-true, or_parts, not-false}
use lib.Signed.{mag}
use Rattle.text_lines.specs.Words.{is_name, is_digit}
use Rattle.lists.specs.Binds.{◌>>=◌}
use Rattle.lists.proofs.Options.{bind_some}
use Rattle.lists.proofs.Bools.{cond_some}
use Rattle.text_lines.specs.Numbers.{value_behind, decimal_behind, decimal_of, integer_of, is_short, letter_of, box_of}
use Rattle.text_lines.specs.declared.number.Letter.{Letter}
use Rattle.text_lines.specs.declared.number.Letter.TheVariants as letter
use Rattle.trace_ops.specs.declared.code.OpCode.{OpCode}
use Rattle.trace_ops.specs.declared.facts.Part.{Part}
use Rattle.trace_ops.specs.declared.facts.Part.TheVariants as part
use Rattle.trace_ops.specs.declared.trace.BoxId.{BoxId}
use Rattle.trace_ops.specs.declared.trace.Arg.{Arg}
use Rattle.trace_ops.specs.declared.trace.Arg.TheVariants as arg
use Rattle.trace_ops.specs.declared.trace.Descr.{Descr}
use Rattle.trace_ops.specs.declared.trace.Descr.TheVariants as descr
use Rattle.trace_ops.specs.declared.trace.Frame.{Frame}
use Rattle.trace_ops.specs.declared.trace.Origin.{Origin}
use Rattle.trace_ops.specs.declared.trace.Origin.TheVariants as origin
use Rattle.trace_ops.specs.declared.table.Table.{Table}
use Rattle.trace_ops.specs.Facts.{part_of}
use Rattle.trace_ops.specs.OpNames.{code_of}
use Rattle.trace_ops.specs.Classes.{is_guard}
use Rattle.trace_text.specs.declared.value.Value.{Value}
use Rattle.trace_text.specs.declared.value.Value.TheVariants as value
use Rattle.trace_text.specs.declared.value.Head.{Head}
use Rattle.trace_text.specs.declared.value.Head.TheVariants as head
use Rattle.trace_text.specs.declared.line.Line.{Line}
use Rattle.trace_text.specs.declared.line.Slots.{Slots}
use Rattle.trace_text.specs.declared.fault.Refusal.{Refusal}
use Rattle.trace_text.specs.declared.fault.Refusal.TheVariants.{Syntax, Float, UnknownOp, UnknownDescr, UnknownBox}
use Rattle.trace_text.specs.Names.{Names, look, names_of}
use Rattle.trace_text.specs.Boxes.{knows}
use Rattle.trace_text.specs.Values.{plain_value, named_value, box_or, frame_head, name_and_pc}
use Rattle.trace_text.specs.Heading.{guard_name}
use Rattle.trace_text.specs.Line.{op_at}
use Rattle.trace_text.specs.Meaning.{box_id, arg_of, frame_of, framed, made_of, op_of, descr_of, descr_for, refusal, limits, differ, is_misframed, is_misplaced, has_float, has_unknown_name, any_value, is_unknown_box}
use Rattle.trace_text.specs.Spelling.{MoreSlots, slots_end, slot_word, slot_object, SpellsSlots, no_slots, first_word, first_object, SpellsFrames, frames_end, one_frame, SpellsSnapshot, snapshot_framed, snapshot_plain, MoreArgs, args_end, args_descr, arg_word, arg_class, arg_object, SpellsArgs, no_args, descr_alone, begins_word, begins_class, begins_object, Parts, parts_of, SpellsLine, line_alone, line_made}
use Rattle.descr_table.specs.Names.{vtable_name, function_name, prebuilt_name}
use Rattle.trace_text.proofs.SpelledLine.{spelled_back}
use Rattle.trace_text.proofs.KeyNames.{ClassKey, ObjectKey, DescrKey, descr_name, look_keyed, classes_keyed, objects_keyed, descrs_keyed}
use Rattle.trace_text.proofs.ReadSets.{Each, Cites, ReadsArg, ReadsSlot, KnowsArg, NameOrNone, NamesDescr, ReadsDescr, ReadsResult, ReadsFrame, ReadsOp, ReadsOrigin}
use Rattle.trace_text.proofs.FitDrafts.{none_first, not_more, length-map, passes}
use Rattle.trace_text.proofs.Below.{TextLaws}

-- ---- steps

each_map : {X Y : Type 0} (P : Y → Type 0) (f : X → Y) (xs : List X) → Each (λ (x : X). P (f x)) xs → Each P (map f xs)
each_map P f [] h = tt
each_map P f (x ∷ xs) h = (h.0, each_map P f xs h.1)

-- ---- numbers

small : (laws : TextLaws) (word : List ℕ) (n : ℕ) → decimal_of (2 ^ 32 - 1) word ≡ Some n → n < 2 ^ 32
small laws word n e = omega (arith, laws.spelled.spelling.decimal_limit (2 ^ 32 - 1) word n e)

box_small : (laws : TextLaws) (w : List ℕ) (x : Letter × ℕ) → box_of w ≡ Some x → x.1 < 2 ^ 32
unfolding box_of
box_small laws [] x e = absurd cc
box_small laws (c ∷ cs) x e =
    let p = bind_some (letter_of c) (λ l. decimal_of (2 ^ 32 - 1) cs >>= λ n. cond (is_short cs) (Some (l, n)) None) x e in
    let q = bind_some (decimal_of (2 ^ 32 - 1) cs) (λ n. cond (is_short cs) (Some (p.0, n)) None) x p.2 in
    let made : Letter × ℕ = (p.0, q.0) in
    let r = cond_some (is_short cs) (Some made) x q.2 in
    let pick : Option (Letter × ℕ) → Letter × ℕ = λ o. elim o [ None ↦ made | Some y ↦ y ] in
    subst (λ (y : Letter × ℕ). y.1 < 2 ^ 32) (ap pick r.1) (small laws cs q.0 q.1)

abbrev ReadsHead : Head → Type 0
ReadsHead head.Plain = Unit {0}
ReadsHead (head.Named n pc) = (is_name n ≡ true) × (pc < 2 ^ 32)

abbrev head_in : Head → Option Head → Head
head_in other None = other
head_in other (Some h) = h

head_from : (laws : TextLaws) (cs : List ℕ) (h : Head) → name_and_pc cs ≡ Some h → ReadsHead h
unfolding name_and_pc
head_from laws cs h e =
    let p = bind_some (position (λ c. nat_eq c 58) cs) (λ i. cond (is_name (take i cs)) (decimal_of (2 ^ 32 - 1) (drop (i + 1) cs) >>= λ pc. Some (head.Named (take i cs) pc)) None) h e in
    let q = cond_some (is_name (take p.0 cs)) (decimal_of (2 ^ 32 - 1) (drop (p.0 + 1) cs) >>= λ pc. Some (head.Named (take p.0 cs) pc)) h p.2 in
    let r = bind_some (decimal_of (2 ^ 32 - 1) (drop (p.0 + 1) cs)) (λ pc. Some (head.Named (take p.0 cs) pc)) h q.1 in
    subst ReadsHead (ap (head_in h) r.2) (q.0, small laws (drop (p.0 + 1) cs) r.0 r.1)

head_reads : (laws : TextLaws) (w : List ℕ) (h : Head) → frame_head w ≡ Some h → ReadsHead h
unfolding frame_head
head_reads laws [] h e = absurd cc
head_reads laws (c ∷ cs) h e = head_from laws cs h (cond_some (nat_eq c 64) (name_and_pc cs) h e).1

abbrev origin_in : Origin → Option Origin → Origin
origin_in other None = other
origin_in other (Some o) = o

pub guard_reads : (laws : TextLaws) (w : List ℕ) (o : Origin) → guard_name w ≡ Some o → ReadsOrigin o
unfolding guard_name
guard_reads laws w o e =
    let p = bind_some (position (λ c. nat_eq c 47) w) (λ i. cond (is_name (take i w)) (decimal_of (2 ^ 32 - 1) (drop (i + 1) w) >>= λ k. Some (origin.Bridge (take i w) k)) None) o e in
    let q = cond_some (is_name (take p.0 w)) (decimal_of (2 ^ 32 - 1) (drop (p.0 + 1) w) >>= λ k. Some (origin.Bridge (take p.0 w) k)) o p.2 in
    let r = bind_some (decimal_of (2 ^ 32 - 1) (drop (p.0 + 1) w)) (λ k. Some (origin.Bridge (take p.0 w) k)) o q.1 in
    subst ReadsOrigin (ap (origin_in o) r.2) (q.0, small laws (drop (p.0 + 1) w) r.0 r.1)

-- ---- values

number-box_id : (b : Letter) (n : ℕ) → (box_id b n).number ≡ n
number-box_id letter.Int n = refl
number-box_id letter.Ref n = refl
number-box_id letter.Float n = refl

-- what holds of values that aren't names
record IsPlainly (P : Value → Type 0) : Type 0 where
  of : (b : Letter) (n : ℕ) → n < 2 ^ 32 → P (value.Of b n)
  constant : (z : ℤ) → mag z < 2 ^ 63 → P (value.Const z)
  null : P value.Null
  unknown : P value.Unknown

abbrev value_in : Value → Option Value → Value
value_in other None = other
value_in other (Some v) = v

box_reads : (P : Value → Type 0) → IsPlainly P → (o : Option (Letter × ℕ)) (i : Option ℤ) (v : Value) → ((x : Letter × ℕ) → o ≡ Some x → x.1 < 2 ^ 32) → ((z : ℤ) → i ≡ Some z → mag z < 2 ^ 63) → box_or o i ≡ Some v → P v
box_reads P p (Some x) i v f g e = subst P (ap (value_in v) e) (p.of x.0 x.1 (f x refl))
box_reads P p None (Some z) v f g e = subst P (ap (value_in v) e) (p.constant z (g z refl))
box_reads P p None None v f g e = absurd cc

word_by : (laws : TextLaws) (P : Value → Type 0) → IsPlainly P → (b : Bool) (w : List ℕ) (v : Value) → cond b (Some value.Null) (box_or (box_of w) (integer_of w)) ≡ Some v → P v
word_by laws P p true w v e = subst P (ap (value_in v) e) p.null
word_by laws P p false w v e = box_reads P p (box_of w) (integer_of w) v (box_small laws w) (λ z is. (laws.spelled.spelling.integer_fits w z is).sfits) e

word_reads : (laws : TextLaws) (P : Value → Type 0) → IsPlainly P → (w : List ℕ) (v : Value) → plain_value w ≡ Some v → P v
unfolding plain_value
word_reads laws P p w v e = word_by laws P p (bytes_eq w (codes "NULL")) w v e

named_reads : (P : Value → Type 0) → IsPlainly P → (o : Option Arg) → ((a : Arg) → o ≡ Some a → P (value.Named a)) → P (named_value o)
named_reads P p None f = p.unknown
named_reads P p (Some a) f = f a refl

-- its box is known where it isn't refused
abbrev pub Told : Value → Type 0
Told v = (seen : List BoxId) → is_unknown_box seen v ≡ false → KnowsArg seen (arg_of v)

abbrev pub ArgReads : Table → Value → Type 0
ArgReads t v = ReadsArg t (arg_of v) × Told v

abbrev pub SlotReads : Table → Value → Type 0
SlotReads t v = ReadsSlot t (arg_of v) × Told v

cites_as : {X : Type 0} (n m : List ℕ) (x : X) (es : List (List ℕ × X)) → n ≡ m → is_name n ≡ true → look n es ≡ Some x → Cites m x es
cites_as n m x es e is at = subst (λ (y : List ℕ). Cites y x es) e (is, at)

class_cites : (t : Table) (n : List ℕ) (a : Arg) → is_name n ≡ true → look n (names_of t).classes ≡ Some a → ClassKey t n a → ArgReads t (value.Named a)
class_cites t n (arg.Of b) is at h = absurd h
class_cites t n (arg.Const z) is at h = absurd h
class_cites t n arg.Null is at h = absurd h
class_cites t n (arg.Class k) is at h = (cites_as n (vtable_name t k) (arg.Class k) (names_of t).classes h is at, λ seen e. tt)
class_cites t n (arg.Func k) is at h = (cites_as n (function_name t k) (arg.Func k) (names_of t).classes h is at, λ seen e. tt)
class_cites t n (arg.Ptr k) is at h = absurd h

object_cites : (t : Table) (n : List ℕ) (a : Arg) → is_name n ≡ true → look n (names_of t).prebuilts ≡ Some a → ObjectKey t n a → SlotReads t (value.Named a)
object_cites t n (arg.Of b) is at h = absurd h
object_cites t n (arg.Const z) is at h = absurd h
object_cites t n arg.Null is at h = absurd h
object_cites t n (arg.Class k) is at h = absurd h
object_cites t n (arg.Func k) is at h = absurd h
object_cites t n (arg.Ptr k) is at h = (cites_as n (prebuilt_name t k) (arg.Ptr k) (names_of t).prebuilts h is at, λ seen e. tt)

pub slot_is_arg : (t : Table) (a : Arg) → ReadsSlot t a → ReadsArg t a
slot_is_arg t (arg.Of b) h = h
slot_is_arg t (arg.Const z) h = h
slot_is_arg t arg.Null h = tt
slot_is_arg t (arg.Class k) h = absurd h
slot_is_arg t (arg.Func k) h = absurd h
slot_is_arg t (arg.Ptr k) h = h

slots_plainly : (t : Table) → IsPlainly (SlotReads t)
slots_plainly t = record {
  of = λ b n lt. (omega (arith, number-box_id b n, lt), λ seen e. not-false (knows seen (box_id b n)) e);
  constant = λ z h. (h, λ seen e. tt);
  null = (tt, λ seen e. tt);
  unknown = (tt, λ seen e. tt);
}

args_plainly : (t : Table) → IsPlainly (ArgReads t)
args_plainly t = record {
  of = λ b n lt. (omega (arith, number-box_id b n, lt), λ seen e. not-false (knows seen (box_id b n)) e);
  constant = λ z h. (h, λ seen e. tt);
  null = (tt, λ seen e. tt);
  unknown = (tt, λ seen e. tt);
}

class_reads : (t : Table) (n : List ℕ) → is_name n ≡ true → ArgReads t (named_value (look n (names_of t).classes))
class_reads t n is = named_reads (ArgReads t) (args_plainly t) (look n (names_of t).classes) (λ a e. class_cites t n a is e (look_keyed (ClassKey t) n (names_of t).classes a (classes_keyed t) e))

slot_reads : (t : Table) (n : List ℕ) → is_name n ≡ true → SlotReads t (named_value (look n (names_of t).prebuilts))
slot_reads t n is = named_reads (SlotReads t) (slots_plainly t) (look n (names_of t).prebuilts) (λ a e. object_cites t n a is e (look_keyed (ObjectKey t) n (names_of t).prebuilts a (objects_keyed t) e))

object_reads : (t : Table) (n : List ℕ) → is_name n ≡ true → ArgReads t (named_value (look n (names_of t).prebuilts))
object_reads t n is = let h = slot_reads t n is in (slot_is_arg t (arg_of (named_value (look n (names_of t).prebuilts))) h.0, h.1)

-- ---- lists of values, and lines

more_slots_read : (laws : TextLaws) (t : Table) (ws rest : List (List ℕ)) (vs : List Value) → MoreSlots (names_of t) ws vs rest → Each (SlotReads t) vs
more_slots_read laws t _ _ _ slots_end = tt
more_slots_read laws t _ _ _ (slot_word {w} {v} {ws} {rest} {vs} e s) = (word_reads laws (SlotReads t) (slots_plainly t) w v e, more_slots_read laws t ws rest vs s)
more_slots_read laws t _ _ _ (slot_object {n} {ws} {rest} {vs} e s) = (slot_reads t n e, more_slots_read laws t ws rest vs s)

slots_read : (laws : TextLaws) (t : Table) (ws rest : List (List ℕ)) (vs : List Value) → SpellsSlots (names_of t) ws vs rest → Each (SlotReads t) vs
slots_read laws t _ _ _ no_slots = tt
slots_read laws t _ _ _ (first_word {w} {v} {ws} {rest} {vs} e s) = (word_reads laws (SlotReads t) (slots_plainly t) w v e, more_slots_read laws t ws rest vs s)
slots_read laws t _ _ _ (first_object {n} {ws} {rest} {vs} e s) = (slot_reads t n e, more_slots_read laws t ws rest vs s)

abbrev pub FrameReads : Table → Slots → Type 0
FrameReads t f = ReadsHead f.head × Each (SlotReads t) f.slots

frames_read : (laws : TextLaws) (t : Table) (ws : List (List ℕ)) (fs : List Slots) → SpellsFrames (names_of t) ws fs → Each (FrameReads t) fs
frames_read laws t _ _ frames_end = tt
frames_read laws t _ _ (one_frame {w} {n} {pc} {ws} {rest} {vs} {fs} e s more) = ((head_reads laws w (head.Named n pc) e, slots_read laws t ws rest vs s), frames_read laws t rest fs more)

pub snapshot_reads : (laws : TextLaws) (t : Table) (ws : List (List ℕ)) (fs : List Slots) → SpellsSnapshot (names_of t) ws fs → Each (FrameReads t) fs
snapshot_reads laws t ws fs (snapshot_framed s) = frames_read laws t ws fs s
snapshot_reads laws t _ _ (snapshot_plain {ws} {vs} s) = ((tt, slots_read laws t ws [] vs s), tt)

more_args_read : (laws : TextLaws) (t : Table) (ws rest : List (List ℕ)) (vs : List Value) (d : Option (List ℕ)) → MoreArgs (names_of t) ws vs d rest → Each (ArgReads t) vs × NameOrNone d
more_args_read laws t _ _ _ _ args_end = (tt, tt)
more_args_read laws t _ _ _ _ (args_descr e) = (tt, e)
more_args_read laws t _ _ _ _ (arg_word {w} {v} {ws} {rest} {vs} {d} e s) = let r = more_args_read laws t ws rest vs d s in ((word_reads laws (ArgReads t) (args_plainly t) w v e, r.0), r.1)
more_args_read laws t _ _ _ _ (arg_class {n} {ws} {rest} {vs} {d} e s) = let r = more_args_read laws t ws rest vs d s in ((class_reads t n e, r.0), r.1)
more_args_read laws t _ _ _ _ (arg_object {n} {ws} {rest} {vs} {d} e s) = let r = more_args_read laws t ws rest vs d s in ((object_reads t n e, r.0), r.1)

args_read : (laws : TextLaws) (t : Table) (ws rest : List (List ℕ)) (vs : List Value) (d : Option (List ℕ)) → SpellsArgs (names_of t) ws vs d rest → Each (ArgReads t) vs × NameOrNone d
args_read laws t _ _ _ _ no_args = (tt, tt)
args_read laws t _ _ _ _ (descr_alone e) = (tt, e)
args_read laws t _ _ _ _ (begins_word {w} {v} {ws} {rest} {vs} {d} e s) = let r = more_args_read laws t ws rest vs d s in ((word_reads laws (ArgReads t) (args_plainly t) w v e, r.0), r.1)
args_read laws t _ _ _ _ (begins_class {n} {ws} {rest} {vs} {d} e s) = let r = more_args_read laws t ws rest vs d s in ((class_reads t n e, r.0), r.1)
args_read laws t _ _ _ _ (begins_object {n} {ws} {rest} {vs} {d} e s) = let r = more_args_read laws t ws rest vs d s in ((object_reads t n e, r.0), r.1)

record LineReads (t : Table) (p : Parts) : Type 0 where
  result : ReadsResult (made_of p.made)
  args : Each (ArgReads t) p.args
  descr : NameOrNone p.descr
  frames : Each (FrameReads t) p.frames

line_reads : (laws : TextLaws) (t : Table) (ws : List (List ℕ)) (p : Parts) → SpellsLine (names_of t) ws p → LineReads t p
line_reads laws t _ _ (line_alone {n} {ws} {rest} {vs} {d} {fs} is s more) =
    let r = args_read laws t ws rest vs d s in
    record { result = tt; args = r.0; descr = r.1; frames = snapshot_reads laws t rest fs more }
line_reads laws t _ _ (line_made {b} {n} {x} {ws} {rest} {vs} {d} {fs} also made is s more) =
    let r = args_read laws t ws rest vs d s in
    record { result = omega (arith, number-box_id x.0 x.1, box_small laws b x made); args = r.0; descr = r.1; frames = snapshot_reads laws t rest fs more }

-- ---- an operation that isn't refused

record IsClear (seen : List BoxId) (l : Line) : Type 0 where
  placed : is_misplaced l ≡ false
  known : any_value (is_unknown_box seen) l ≡ false

clear : (names : Names) (seen : List BoxId) (others : ℕ) (l : Line) → refusal names seen others l ≡ None → IsClear seen l
unfolding refusal
clear names seen others l e =
    let last : List (Bool × Refusal) = limits others l.frames in
    let boxes : List (Bool × Refusal) = (any_value (is_unknown_box seen) l, UnknownBox) ∷ last in
    let unknown : List (Bool × Refusal) = (has_unknown_name names l, UnknownDescr) ∷ boxes in
    let ops : List (Bool × Refusal) = (not (is_some (code_of l.name)), UnknownOp) ∷ unknown in
    let floats : List (Bool × Refusal) = (has_float l, Float) ∷ ops in
    let a = none_first (is_misplaced l) Syntax floats e in
    let b = none_first (has_float l) Float ops a.1 in
    let c = none_first (not (is_some (code_of l.name))) UnknownOp unknown b.1 in
    let d = none_first (has_unknown_name names l) UnknownDescr boxes c.1 in
    let f = none_first (any_value (is_unknown_box seen) l) UnknownBox last d.1 in
    record { placed = a.0; known = f.0 }

values_known : (seen : List BoxId) (vs : List Value) → Each Told vs → list_any (is_unknown_box seen) vs ≡ false → Each (KnowsArg seen) (map arg_of vs)
values_known seen [] h e = tt
values_known seen (v ∷ vs) h e = let p = or_parts (is_unknown_box seen v) (list_any (is_unknown_box seen) vs) e in (h.0 seen p.0, values_known seen vs h.1 p.1)

each_first : {X : Type 0} (P Q : X → Type 0) (xs : List X) → Each (λ (x : X). P x × Q x) xs → Each P xs
each_first P Q [] h = tt
each_first P Q (x ∷ xs) h = ((h.0).0, each_first P Q xs h.1)

each_second : {X : Type 0} (P Q : X → Type 0) (xs : List X) → Each (λ (x : X). P x × Q x) xs → Each Q xs
each_second P Q [] h = tt
each_second P Q (x ∷ xs) h = ((h.0).1, each_second P Q xs h.1)

framed_reads : (t : Table) (seen : List BoxId) (slots : List Arg) (own : List ℕ) (guard : ℕ) (h : Head) → is_name own ≡ true → guard < 2 ^ 32 → ReadsHead h → Each (ReadsSlot t) slots → Each (KnowsArg seen) slots → length slots ≤ 256 → ReadsFrame t seen (framed slots own guard h)
framed_reads t seen slots own guard head.Plain is lt h s k few = record { name = is; pc = lt; slots = s; known = k; few = few }
framed_reads t seen slots own guard (head.Named n pc) is lt h s k few = record { name = h.0; pc = h.1; slots = s; known = k; few = few }

frames_reads : (laws : TextLaws) (t : Table) (seen : List BoxId) (own : List ℕ) (guard : ℕ) (fs : List Slots) → is_name own ≡ true → guard < 2 ^ 32 → Each (FrameReads t) fs → list_any (λ (f : Slots). list_any (is_unknown_box seen) f.slots) fs ≡ false → list_any (λ (f : Slots). not (nat_le (length f.slots) 256)) fs ≡ false → Each (ReadsFrame t seen) (map (frame_of own guard) fs)
frames_reads laws t seen own guard [] is lt h known few = tt
frames_reads laws t seen own guard (f ∷ fs) is lt h known few =
    let p = or_parts (list_any (is_unknown_box seen) f.slots) (list_any (λ (g : Slots). list_any (is_unknown_box seen) g.slots) fs) known in
    let q = or_parts (not (nat_le (length f.slots) 256)) (list_any (λ (g : Slots). not (nat_le (length g.slots) 256)) fs) few in
    let vs : List Value = f.slots in
    let slots : Each (ReadsSlot t) (map arg_of vs) = each_map (ReadsSlot t) arg_of vs (each_first (λ (v : Value). ReadsSlot t (arg_of v)) Told vs (h.0).1) in
    let told : Each (KnowsArg seen) (map arg_of vs) = values_known seen vs (each_second (λ (v : Value). ReadsSlot t (arg_of v)) Told vs (h.0).1) p.0 in
    let small : length (map arg_of vs) ≤ 256 = omega (arith, length-map arg_of vs, not_more (length vs) 256 q.0) in
    (framed_reads t seen (map arg_of vs) own guard f.head is lt (h.0).0 slots told small, frames_reads laws t seen own guard fs is lt h.1 p.1 q.1)

-- ---- descrs

descr_named : (t : Table) (c : OpCode) (d : Descr) → NamesDescr t c d → ReadsDescr t c d
descr_named t c descr.No h = tt
descr_named t c (descr.Size k) h = h
descr_named t c (descr.Field k) h = h
descr_named t c (descr.Array k) h = h
descr_named t c (descr.Call k) h = h
descr_named t c (descr.Target n) h = h

found_reads : (t : Table) (c : OpCode) (n : List ℕ) (o : Option Descr) → is_name n ≡ true → descr_for (names_of t) (part_of c) n ≡ o → ((d : Descr) → o ≡ Some d → ReadsDescr t c d ⊎ (n ≡ descr_name t d)) → ReadsDescr t c (unwrap_or o descr.No)
found_reads t c n None is e f = tt
found_reads t c n (Some d) is e f = elim (f d refl) [
  | inl h ↦ h
  | inr same ↦ descr_named t c d (subst (λ (m : List ℕ). (is_name m ≡ true) × (descr_for (names_of t) (part_of c) m ≡ Some d)) same (is, e))
]

descr_in : Descr → Option Descr → Descr
descr_in other None = other
descr_in other (Some d) = d

named_by_part : (t : Table) (c : OpCode) (p : Part) (n : List ℕ) (d : Descr) → descr_for (names_of t) p n ≡ Some d → ReadsDescr t c d ⊎ (n ≡ descr_name t d)
unfolding descr_in
named_by_part t c part.Plain n d e = inr (look_keyed (DescrKey t) n (names_of t).descrs d (descrs_keyed t) e)
named_by_part t c part.Overflowing n d e = inr (look_keyed (DescrKey t) n (names_of t).descrs d (descrs_keyed t) e)
named_by_part t c part.Jump n d e = inr (subst (λ (x : Descr). n ≡ descr_name t x) (ap (descr_in d) e) refl)
named_by_part t c part.Guard n d e = inl (subst (ReadsDescr t c) (ap (descr_in d) e) tt)
named_by_part t c part.OverflowGuard n d e = inl (subst (ReadsDescr t c) (ap (descr_in d) e) tt)
named_by_part t c part.Finish n d e = inl (subst (ReadsDescr t c) (ap (descr_in d) e) tt)

descr_reads : (t : Table) (c : OpCode) (d : Option (List ℕ)) → NameOrNone d → ReadsDescr t c (descr_of (names_of t) c d)
descr_reads t c None h = tt
descr_reads t c (Some n) h = found_reads t c n (descr_for (names_of t) (part_of c) n) h refl (λ d e. named_by_part t c (part_of c) n d e)

-- ---- the whole operation

same_bool : (a b : Bool) → differ a b ≡ false → b ≡ a
same_bool true true e = refl
same_bool true false e = absurd cc
same_bool false true e = absurd cc
same_bool false false e = refl

framed_as : (c : OpCode) (o : Option OpCode) (l : Line) → o ≡ Some c → is_misframed o l ≡ false → nat_lt 0 (length l.frames) ≡ is_guard c
framed_as c o l e h = same_bool (is_guard c) (nat_lt 0 (length l.frames)) (ap (λ (x : Option OpCode). is_misframed x l) (sym e) ∙ h)

pub op_reads : (laws : TextLaws) (t : Table) (seen : List BoxId) (others : ℕ) (own : List ℕ) (guard : ℕ) (c : OpCode) (ws : List (List ℕ)) (l : Line) → is_name own ≡ true → guard < 2 ^ 32 → code_of l.name ≡ Some c → op_at (names_of t) ws ≡ Some l → refusal (names_of t) seen others l ≡ None → ReadsOp t seen others (op_of (names_of t) own guard c l)
op_reads laws t seen others own guard c ws l is lt named e r =
    let h = line_reads laws t ws (parts_of l) (spelled_back (names_of t) ws l e) in
    let free = clear (names_of t) seen others l r in
    let room = passes (names_of t) seen others l r in
    let known = or_parts (list_any (is_unknown_box seen) l.args) (list_any (λ (f : Slots). list_any (is_unknown_box seen) f.slots) l.frames) free.known in
    let placed = or_parts (bytes_eq l.name (codes "debug_merge_point")) (is_misframed (code_of l.name) l) free.placed in
    let snapshot : List Frame = map (frame_of own guard) l.frames in
    let count : length snapshot ≡ length l.frames = length-map (frame_of own guard) l.frames in
    record {
      result = h.result;
      args = each_map (ReadsArg t) arg_of l.args (each_first (λ (v : Value). ReadsArg t (arg_of v)) Told l.args h.args);
      known = values_known seen l.args (each_second (λ (v : Value). ReadsArg t (arg_of v)) Told l.args h.args) known.0;
      descr = descr_reads t c l.descr h.descr;
      frames = frames_reads laws t seen own guard l.frames is lt h.frames known.1 room.slots_few;
      framed = ap (nat_lt 0) count ∙ framed_as c (code_of l.name) l named placed.1;
      few = omega (arith, count, room.frames_few);
      room = room.operations;
    }
