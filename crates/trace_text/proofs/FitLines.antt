-- The values and the operations of lines that are read name rows of the table.
use Rattle.std.proofs.Common.{◌≡◌, ℕ, ℤ, Bool, true, false, cond, List, [], ◌∷◌, map, Option, Some, None, refl, sym, ap, subst}
use Rattle.std.specs.Prelude.{codes, unwrap_or}
use Rattle.std.specs.List.{All, AllByRecursion}
use Rattle.std.specs.Str.{bytes_eq}
use Rattle.std.proofs.lemmas.List.Elements.{All-from_recursion}
use Rattle.text_lines.specs.Numbers.{box_of, integer_of}
use Rattle.text_lines.specs.declared.number.Letter.{Letter}
use Rattle.trace_ops.specs.declared.code.OpCode.{OpCode}
use Rattle.trace_ops.specs.declared.facts.Part.{Part}
use Rattle.trace_ops.specs.declared.facts.Part.TheVariants as part
use Rattle.trace_ops.specs.declared.trace.Arg.{Arg}
use Rattle.trace_ops.specs.declared.trace.Descr.{Descr}
use Rattle.trace_ops.specs.declared.trace.Descr.TheVariants as descr
use Rattle.trace_ops.specs.declared.trace.Frame.{Frame}
use Rattle.trace_ops.specs.declared.table.Table.{Table}
use Rattle.trace_ops.specs.Facts.{part_of}
use Rattle.trace_ops.specs.Kinds.{NamesArg, NamesDescr}
use Rattle.trace_ops.specs.InRange.{IsSlot, NamesOperation}
use Rattle.trace_text.specs.declared.value.Value.{Value}
use Rattle.trace_text.specs.declared.value.Value.TheVariants as value
use Rattle.trace_text.specs.declared.value.Head.{Head}
use Rattle.trace_text.specs.declared.value.Head.TheVariants as head
use Rattle.trace_text.specs.declared.line.Line.{Line}
use Rattle.trace_text.specs.declared.line.Slots.{Slots}
use Rattle.trace_text.specs.Names.{names_of, look}
use Rattle.trace_text.specs.Values.{plain_value, named_value, box_or}
use Rattle.trace_text.specs.Line.{op_at}
use Rattle.trace_text.specs.Meaning.{arg_of, frame_of, framed, op_of, descr_of, descr_for}
use Rattle.trace_text.specs.Spelling.{MoreSlots, slots_end, slot_word, slot_object, SpellsSlots, no_slots, first_word, first_object, SpellsFrames, frames_end, one_frame, SpellsSnapshot, snapshot_framed, snapshot_plain, MoreArgs, args_end, args_descr, arg_word, arg_class, arg_object, SpellsArgs, no_args, descr_alone, begins_word, begins_class, begins_object, Parts, parts_of, SpellsLine, line_alone, line_made}
use Rattle.trace_text.proofs.FitNames.{look_fits, classes_fit, objects_fit, descrs_fit, NamesSlot}
use Rattle.trace_text.proofs.SpelledLine.{spelled_back}

-- what a named value names is in the table
abbrev FitsValue : (Arg → Type 0) → Value → Type 0
FitsValue P (value.Of b n) = Unit {0}
FitsValue P (value.Const z) = Unit {0}
FitsValue P value.Null = Unit {0}
FitsValue P (value.Named a) = P a
FitsValue P value.Unknown = Unit {0}

abbrev value_in : Value → Option Value → Value
value_in other None = other
value_in other (Some v) = v

box_fits : (P : Arg → Type 0) (o : Option (Letter × ℕ)) (z : Option ℤ) (v : Value) → box_or o z ≡ Some v → FitsValue P v
box_fits P (Some b) z v e = subst (FitsValue P) (ap (value_in v) e) tt
box_fits P None (Some z) v e = subst (FitsValue P) (ap (value_in v) e) tt
box_fits P None None v e = absurd cc

word_fits_by : (P : Arg → Type 0) (b : Bool) (o : Option (Letter × ℕ)) (z : Option ℤ) (v : Value) → cond b (Some value.Null) (box_or o z) ≡ Some v → FitsValue P v
word_fits_by P true o z v e = subst (FitsValue P) (ap (value_in v) e) tt
word_fits_by P false o z v e = box_fits P o z v e

word_fits : (P : Arg → Type 0) (w : List ℕ) (v : Value) → plain_value w ≡ Some v → FitsValue P v
unfolding plain_value
word_fits P w v e = word_fits_by P (bytes_eq w (codes "NULL")) (box_of w) (integer_of w) v e

named_fits : (P : Arg → Type 0) (o : Option Arg) → ((a : Arg) → o ≡ Some a → P a) → FitsValue P (named_value o)
named_fits P None f = tt
named_fits P (Some a) f = f a refl

object_fits : (t : Table) (n : List ℕ) → FitsValue (NamesSlot t) (named_value (look n (names_of t).prebuilts))
object_fits t n = named_fits (NamesSlot t) (look n (names_of t).prebuilts) (λ a e. look_fits (NamesSlot t) n (names_of t).prebuilts a (objects_fit t) e)

class_fits : (t : Table) (n : List ℕ) → FitsValue (NamesArg t) (named_value (look n (names_of t).classes))
class_fits t n = named_fits (NamesArg t) (look n (names_of t).classes) (λ a e. look_fits (NamesArg t) n (names_of t).classes a (classes_fit t) e)

object_names : (t : Table) (n : List ℕ) → FitsValue (NamesArg t) (named_value (look n (names_of t).prebuilts))
object_names t n = named_fits (NamesArg t) (look n (names_of t).prebuilts) (λ a e. (look_fits (NamesSlot t) n (names_of t).prebuilts a (objects_fit t) e).0)

abbrev SlotsFit : Table → List Value → Type 0
SlotsFit t vs = AllByRecursion (FitsValue (NamesSlot t)) vs

abbrev ArgsFit : Table → List Value → Type 0
ArgsFit t vs = AllByRecursion (FitsValue (NamesArg t)) vs

more_slots_fit : (t : Table) (ws rest : List (List ℕ)) (vs : List Value) → MoreSlots (names_of t) ws vs rest → SlotsFit t vs
more_slots_fit t _ _ _ slots_end = tt
more_slots_fit t _ _ _ (slot_word {w} {v} {ws} {rest} {vs} e s) = (word_fits (NamesSlot t) w v e, more_slots_fit t ws rest vs s)
more_slots_fit t _ _ _ (slot_object {n} {ws} {rest} {vs} e s) = (object_fits t n, more_slots_fit t ws rest vs s)

slots_fit : (t : Table) (ws rest : List (List ℕ)) (vs : List Value) → SpellsSlots (names_of t) ws vs rest → SlotsFit t vs
slots_fit t _ _ _ no_slots = tt
slots_fit t _ _ _ (first_word {w} {v} {ws} {rest} {vs} e s) = (word_fits (NamesSlot t) w v e, more_slots_fit t ws rest vs s)
slots_fit t _ _ _ (first_object {n} {ws} {rest} {vs} e s) = (object_fits t n, more_slots_fit t ws rest vs s)

abbrev FramesFit : Table → List Slots → Type 0
FramesFit t fs = AllByRecursion (λ (f : Slots). SlotsFit t f.slots) fs

frames_fit : (t : Table) (ws : List (List ℕ)) (fs : List Slots) → SpellsFrames (names_of t) ws fs → FramesFit t fs
frames_fit t _ _ frames_end = tt
frames_fit t _ _ (one_frame {ws} {rest} {vs} {fs} e s more) = (slots_fit t ws rest vs s, frames_fit t rest fs more)

snapshot_fits : (t : Table) (ws : List (List ℕ)) (fs : List Slots) → SpellsSnapshot (names_of t) ws fs → FramesFit t fs
snapshot_fits t ws fs (snapshot_framed s) = frames_fit t ws fs s
snapshot_fits t _ _ (snapshot_plain {ws} {vs} s) = (slots_fit t ws [] vs s, tt)

more_args_fit : (t : Table) (ws rest : List (List ℕ)) (vs : List Value) (d : Option (List ℕ)) → MoreArgs (names_of t) ws vs d rest → ArgsFit t vs
more_args_fit t _ _ _ _ args_end = tt
more_args_fit t _ _ _ _ (args_descr e) = tt
more_args_fit t _ _ _ _ (arg_word {w} {v} {ws} {rest} {vs} {d} e s) = (word_fits (NamesArg t) w v e, more_args_fit t ws rest vs d s)
more_args_fit t _ _ _ _ (arg_class {n} {ws} {rest} {vs} {d} e s) = (class_fits t n, more_args_fit t ws rest vs d s)
more_args_fit t _ _ _ _ (arg_object {n} {ws} {rest} {vs} {d} e s) = (object_names t n, more_args_fit t ws rest vs d s)

args_fit : (t : Table) (ws rest : List (List ℕ)) (vs : List Value) (d : Option (List ℕ)) → SpellsArgs (names_of t) ws vs d rest → ArgsFit t vs
args_fit t _ _ _ _ no_args = tt
args_fit t _ _ _ _ (descr_alone e) = tt
args_fit t _ _ _ _ (begins_word {w} {v} {ws} {rest} {vs} {d} e s) = (word_fits (NamesArg t) w v e, more_args_fit t ws rest vs d s)
args_fit t _ _ _ _ (begins_class {n} {ws} {rest} {vs} {d} e s) = (class_fits t n, more_args_fit t ws rest vs d s)
args_fit t _ _ _ _ (begins_object {n} {ws} {rest} {vs} {d} e s) = (object_names t n, more_args_fit t ws rest vs d s)

line_fits : (t : Table) (ws : List (List ℕ)) (p : Parts) → SpellsLine (names_of t) ws p → ArgsFit t p.args × FramesFit t p.frames
line_fits t _ _ (line_alone {ws} {rest} {vs} {d} {fs} h a s) = (args_fit t ws rest vs d a, snapshot_fits t rest fs s)
line_fits t _ _ (line_made {ws} {rest} {vs} {d} {fs} g e h a s) = (args_fit t ws rest vs d a, snapshot_fits t rest fs s)

-- ---- operations

arg_names : (t : Table) (v : Value) → FitsValue (NamesArg t) v → NamesArg t (arg_of v)
arg_names t (value.Of b n) h = tt
arg_names t (value.Const z) h = tt
arg_names t value.Null h = tt
arg_names t (value.Named a) h = h
arg_names t value.Unknown h = tt

slot_names : (t : Table) (v : Value) → FitsValue (NamesSlot t) v → NamesSlot t (arg_of v)
slot_names t (value.Of b n) h = (tt, tt)
slot_names t (value.Const z) h = (tt, tt)
slot_names t value.Null h = (tt, tt)
slot_names t (value.Named a) h = h
slot_names t value.Unknown h = (tt, tt)

args_name : (t : Table) (vs : List Value) → ArgsFit t vs → AllByRecursion (NamesArg t) (map arg_of vs)
args_name t [] h = tt
args_name t (v ∷ vs) h = (arg_names t v h.0, args_name t vs h.1)

slots_name : (t : Table) (vs : List Value) → SlotsFit t vs → AllByRecursion (NamesArg t) (map arg_of vs)
slots_name t [] h = tt
slots_name t (v ∷ vs) h = ((slot_names t v h.0).0, slots_name t vs h.1)

slots_hold : (t : Table) (vs : List Value) → SlotsFit t vs → AllByRecursion IsSlot (map arg_of vs)
slots_hold t [] h = tt
slots_hold t (v ∷ vs) h = ((slot_names t v h.0).1, slots_hold t vs h.1)

pub slots-framed : (slots : List Arg) (own : List ℕ) (guard : ℕ) (h : Head) → (framed slots own guard h).slots ≡ slots
slots-framed slots own guard head.Plain = refl
slots-framed slots own guard (head.Named n pc) = refl

snapshot_names : (t : Table) (own : List ℕ) (guard : ℕ) (fs : List Slots) → FramesFit t fs → AllByRecursion (λ (f : Frame). All (NamesArg t) f.slots) (map (frame_of own guard) fs)
snapshot_names t own guard [] h = tt
snapshot_names t own guard (f ∷ fs) h = (subst (All (NamesArg t)) (sym (slots-framed (map arg_of f.slots) own guard f.head)) (All-from_recursion (NamesArg t) (map arg_of f.slots) (slots_name t f.slots h.0)), snapshot_names t own guard fs h.1)

snapshot_holds : (t : Table) (own : List ℕ) (guard : ℕ) (fs : List Slots) → FramesFit t fs → AllByRecursion (λ (f : Frame). All IsSlot f.slots) (map (frame_of own guard) fs)
snapshot_holds t own guard [] h = tt
snapshot_holds t own guard (f ∷ fs) h = (subst (All IsSlot) (sym (slots-framed (map arg_of f.slots) own guard f.head)) (All-from_recursion IsSlot (map arg_of f.slots) (slots_hold t f.slots h.0)), snapshot_holds t own guard fs h.1)

found_descr : (t : Table) (o : Option Descr) → ((d : Descr) → o ≡ Some d → NamesDescr t d) → NamesDescr t (unwrap_or o descr.No)
found_descr t None f = tt
found_descr t (Some d) f = f d refl

descr_names_by : (t : Table) (p : Part) (n : List ℕ) → NamesDescr t (unwrap_or (descr_for (names_of t) p n) descr.No)
descr_names_by t part.Plain n = found_descr t (look n (names_of t).descrs) (λ d e. look_fits (NamesDescr t) n (names_of t).descrs d (descrs_fit t) e)
descr_names_by t part.Overflowing n = found_descr t (look n (names_of t).descrs) (λ d e. look_fits (NamesDescr t) n (names_of t).descrs d (descrs_fit t) e)
descr_names_by t part.Jump n = tt
descr_names_by t part.Guard n = tt
descr_names_by t part.OverflowGuard n = tt
descr_names_by t part.Finish n = tt

descr_names : (t : Table) (c : OpCode) (d : Option (List ℕ)) → NamesDescr t (descr_of (names_of t) c d)
descr_names t c None = tt
descr_names t c (Some n) = descr_names_by t (part_of c) n

-- the operation of a line that is read
pub op_names : (t : Table) (own : List ℕ) (guard : ℕ) (c : OpCode) (ws : List (List ℕ)) (l : Line) → op_at (names_of t) ws ≡ Some l → NamesOperation t (op_of (names_of t) own guard c l)
op_names t own guard c ws l e =
    let h = line_fits t ws (parts_of l) (spelled_back (names_of t) ws l e) in
    (All-from_recursion (NamesArg t) (map arg_of l.args) (args_name t l.args h.0), descr_names t c l.descr, All-from_recursion (λ (f : Frame). All (NamesArg t) f.slots) (map (frame_of own guard) l.frames) (snapshot_names t own guard l.frames h.1))

pub op_holds : (t : Table) (own : List ℕ) (guard : ℕ) (c : OpCode) (ws : List (List ℕ)) (l : Line) → op_at (names_of t) ws ≡ Some l → All (λ (f : Frame). All IsSlot f.slots) (op_of (names_of t) own guard c l).snapshot
op_holds t own guard c ws l e =
    let h = line_fits t ws (parts_of l) (spelled_back (names_of t) ws l e) in
    All-from_recursion (λ (f : Frame). All IsSlot f.slots) (map (frame_of own guard) l.frames) (snapshot_holds t own guard l.frames h.1)
