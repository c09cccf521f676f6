-- The line that writes an operation spells it, and means it.
use Rattle.std.proofs.Common.{◌≡◌, ℕ, true, List, [], ◌∷◌, ◌++◌, map, length, Option, Some, None, refl, sym, ap, subst, ◌∙◌, append_assoc}
use Rattle.std.specs.Prelude.{codes, nat_lt, unwrap_or}
use Rattle.text_lines.specs.Words.{is_name}
use Rattle.text_lines.specs.Written.{IsWord}
use Rattle.text_lines.specs.declared.number.Letter.{Letter}
use Rattle.trace_ops.specs.declared.code.OpCode.{OpCode}
use Rattle.trace_ops.specs.declared.trace.Kind.{Kind}
use Rattle.trace_ops.specs.declared.trace.Kind.TheVariants as kind
use Rattle.trace_ops.specs.declared.trace.BoxId.{BoxId}
use Rattle.trace_ops.specs.declared.trace.Arg.{Arg}
use Rattle.trace_ops.specs.declared.trace.Arg.TheVariants as arg
use Rattle.trace_ops.specs.declared.trace.Descr.{Descr}
use Rattle.trace_ops.specs.declared.trace.Descr.TheVariants as descr
use Rattle.trace_ops.specs.declared.trace.Frame.{Frame}
use Rattle.trace_ops.specs.declared.trace.Op.{Op}
use Rattle.trace_ops.specs.declared.table.Table.{Table}
use Rattle.trace_ops.specs.OpNames.{name_of}
use Rattle.trace_text.specs.declared.value.Value.{Value}
use Rattle.trace_text.specs.declared.value.Value.TheVariants as value
use Rattle.trace_text.specs.declared.value.Head.TheVariants as head
use Rattle.trace_text.specs.declared.line.Slots.{Slots}
use Rattle.trace_text.specs.Names.{names_of}
use Rattle.trace_text.specs.Values.{named_value}
use Rattle.trace_text.specs.Meaning.{box_id, arg_of, frame_of, made_of, descr_found}
use Rattle.trace_text.specs.Spelling.{MoreSlots, slots_end, slot_word, slot_object, SpellsSlots, no_slots, first_word, first_object, SpellsFrames, frames_end, one_frame, SpellsSnapshot, snapshot_framed, MoreArgs, args_end, args_descr, arg_word, arg_class, arg_object, SpellsArgs, no_args, descr_alone, begins_word, begins_class, begins_object, Parts, SpellsLine, line_alone, line_made}
use Rattle.trace_text.specs.Writing.{args_text, call_text, made_text, snapshot_text, descr_text}
use Rattle.trace_text.proofs.ReadSets.{Each, NameOrNone, ReadsArg, ReadsSlot, ReadsFrame, ReadsResult, ReadsDescr, ReadsOp}
use Rattle.trace_text.proofs.WordsBack.{letter_for, box_again, box_is_name, plain_box, plain_integer, plain_null, frame_head_again}
use Rattle.trace_text.proofs.PiecesBack.{Tight, loose_word, opened, shut, tight_both, arg_words, more_words, args_words, cited, cite_words, snapshot_words, made_words, made_piece, snapshot_piece, descr_piece}
use Rattle.trace_text.proofs.Below.{TextLaws}

abbrev Words : Type 0
Words = List (List ℕ)

-- ---- what a written line is read as

abbrev pub value_of : Arg → Value
value_of (arg.Of b) = value.Of (letter_for b.kind) b.number
value_of (arg.Const z) = value.Const z
value_of arg.Null = value.Null
value_of (arg.Class k) = value.Named (arg.Class k)
value_of (arg.Func k) = value.Named (arg.Func k)
value_of (arg.Ptr k) = value.Named (arg.Ptr k)

abbrev pub slots_for : Frame → Slots
slots_for f = record { head = head.Named f.name f.pc; slots = map value_of f.slots }

abbrev pub made_for : Option BoxId → Option (Letter × ℕ)
made_for None = None
made_for (Some b) = Some (letter_for b.kind, b.number)

abbrev pub parts_for : Table → Op → Parts
parts_for t op = record { made = made_for op.result; name = name_of op.code; args = map value_of op.args; descr = cited t op.descr; frames = map slots_for op.snapshot }

-- ---- slots and frames

more_slots_again : (laws : TextLaws) (t : Table) (xs : List Arg) (rest : Words) → Each (ReadsSlot t) xs → MoreSlots (names_of t) (more_words t xs ++ codes "]" ∷ rest) (map value_of xs) rest
more_slots_again laws t [] rest h = slots_end
more_slots_again laws t (arg.Of b ∷ xs) rest h = slot_word (plain_box laws b h.0) (more_slots_again laws t xs rest h.1)
more_slots_again laws t (arg.Const z ∷ xs) rest h = slot_word (plain_integer laws z h.0) (more_slots_again laws t xs rest h.1)
more_slots_again laws t (arg.Null ∷ xs) rest h = slot_word plain_null (more_slots_again laws t xs rest h.1)
more_slots_again laws t (arg.Class k ∷ xs) rest h = absurd h.0
more_slots_again laws t (arg.Func k ∷ xs) rest h = absurd h.0
more_slots_again laws t (arg.Ptr k ∷ xs) rest h =
    let more = more_slots_again laws t xs rest h.1 in
    subst (λ (v : Value). MoreSlots (names_of t) ((codes "," ∷ arg_words t (arg.Ptr k)) ++ (more_words t xs ++ codes "]" ∷ rest)) (v ∷ map value_of xs) rest) (ap named_value (h.0).1) (slot_object (h.0).0 more)

slots_again : (laws : TextLaws) (t : Table) (xs : List Arg) (rest : Words) → Each (ReadsSlot t) xs → SpellsSlots (names_of t) (args_words t xs ++ codes "]" ∷ rest) (map value_of xs) rest
slots_again laws t [] rest h = no_slots
slots_again laws t (arg.Of b ∷ xs) rest h = first_word (plain_box laws b h.0) (more_slots_again laws t xs rest h.1)
slots_again laws t (arg.Const z ∷ xs) rest h = first_word (plain_integer laws z h.0) (more_slots_again laws t xs rest h.1)
slots_again laws t (arg.Null ∷ xs) rest h = first_word plain_null (more_slots_again laws t xs rest h.1)
slots_again laws t (arg.Class k ∷ xs) rest h = absurd h.0
slots_again laws t (arg.Func k ∷ xs) rest h = absurd h.0
slots_again laws t (arg.Ptr k ∷ xs) rest h =
    let more = more_slots_again laws t xs rest h.1 in
    subst (λ (v : Value). SpellsSlots (names_of t) (arg_words t (arg.Ptr k) ++ (more_words t xs ++ codes "]" ∷ rest)) (v ∷ map value_of xs) rest) (ap named_value (h.0).1) (first_object (h.0).0 more)

frames_again : (laws : TextLaws) (t : Table) (seen : List BoxId) (fs : List Frame) → Each (ReadsFrame t seen) fs → SpellsFrames (names_of t) (snapshot_words t fs) (map slots_for fs)
frames_again laws t seen [] h = frames_end
frames_again laws t seen (f ∷ fs) h =
    let rest = snapshot_words t fs in
    let e : args_words t f.slots ++ (codes "]" ∷ rest) ≡ (args_words t f.slots ++ codes "]" ∷ []) ++ rest = sym (append_assoc (args_words t f.slots) (codes "]" ∷ []) rest) in
    let slots = slots_again laws t f.slots rest (h.0).slots in
    let moved = subst (λ (x : Words). SpellsSlots (names_of t) x (map value_of f.slots) rest) e slots in
    one_frame (frame_head_again laws f.name f.pc (h.0).name (h.0).pc) moved (frames_again laws t seen fs h.1)

-- ---- arguments

-- a descr behind arguments
abbrev comma_words : Option (List ℕ) → Words
comma_words None = []
comma_words (Some n) = codes "," ∷ codes "descr" ∷ codes "=" ∷ n ∷ []

cite_as_comma : (x : Arg) (xs : List Arg) (o : Option (List ℕ)) → comma_words o ≡ cite_words (x ∷ xs) o
cite_as_comma x xs None = refl
cite_as_comma x xs (Some n) = refl

more_args_again : (laws : TextLaws) (t : Table) (xs : List Arg) (o : Option (List ℕ)) (rest : Words) → Each (ReadsArg t) xs → NameOrNone o → MoreArgs (names_of t) (more_words t xs ++ (comma_words o ++ codes ")" ∷ rest)) (map value_of xs) o rest
more_args_again laws t [] None rest h i = args_end
more_args_again laws t [] (Some n) rest h i = args_descr i
more_args_again laws t (arg.Of b ∷ xs) o rest h i = arg_word (plain_box laws b h.0) (more_args_again laws t xs o rest h.1 i)
more_args_again laws t (arg.Const z ∷ xs) o rest h i = arg_word (plain_integer laws z h.0) (more_args_again laws t xs o rest h.1 i)
more_args_again laws t (arg.Null ∷ xs) o rest h i = arg_word plain_null (more_args_again laws t xs o rest h.1 i)
more_args_again laws t (arg.Class k ∷ xs) o rest h i =
    subst (λ (v : Value). MoreArgs (names_of t) ((codes "," ∷ arg_words t (arg.Class k)) ++ (more_words t xs ++ (comma_words o ++ codes ")" ∷ rest))) (v ∷ map value_of xs) o rest) (ap named_value (h.0).1) (arg_class (h.0).0 (more_args_again laws t xs o rest h.1 i))
more_args_again laws t (arg.Func k ∷ xs) o rest h i =
    subst (λ (v : Value). MoreArgs (names_of t) ((codes "," ∷ arg_words t (arg.Func k)) ++ (more_words t xs ++ (comma_words o ++ codes ")" ∷ rest))) (v ∷ map value_of xs) o rest) (ap named_value (h.0).1) (arg_class (h.0).0 (more_args_again laws t xs o rest h.1 i))
more_args_again laws t (arg.Ptr k ∷ xs) o rest h i =
    subst (λ (v : Value). MoreArgs (names_of t) ((codes "," ∷ arg_words t (arg.Ptr k)) ++ (more_words t xs ++ (comma_words o ++ codes ")" ∷ rest))) (v ∷ map value_of xs) o rest) (ap named_value (h.0).1) (arg_object (h.0).0 (more_args_again laws t xs o rest h.1 i))

-- the first argument, and what stands behind it
first_again : (laws : TextLaws) (t : Table) (x : Arg) (tail : Words) (vs : List Value) (o : Option (List ℕ)) (rest : Words) → ReadsArg t x → MoreArgs (names_of t) tail vs o rest → SpellsArgs (names_of t) (arg_words t x ++ tail) (value_of x ∷ vs) o rest
first_again laws t (arg.Of b) tail vs o rest h more = begins_word (plain_box laws b h) more
first_again laws t (arg.Const z) tail vs o rest h more = begins_word (plain_integer laws z h) more
first_again laws t arg.Null tail vs o rest h more = begins_word plain_null more
first_again laws t (arg.Class k) tail vs o rest h more = subst (λ (v : Value). SpellsArgs (names_of t) (arg_words t (arg.Class k) ++ tail) (v ∷ vs) o rest) (ap named_value h.1) (begins_class h.0 more)
first_again laws t (arg.Func k) tail vs o rest h more = subst (λ (v : Value). SpellsArgs (names_of t) (arg_words t (arg.Func k) ++ tail) (v ∷ vs) o rest) (ap named_value h.1) (begins_class h.0 more)
first_again laws t (arg.Ptr k) tail vs o rest h more = subst (λ (v : Value). SpellsArgs (names_of t) (arg_words t (arg.Ptr k) ++ tail) (v ∷ vs) o rest) (ap named_value h.1) (begins_object h.0 more)

args_again : (laws : TextLaws) (t : Table) (xs : List Arg) (o : Option (List ℕ)) (rest : Words) → Each (ReadsArg t) xs → NameOrNone o → SpellsArgs (names_of t) (args_words t xs ++ (cite_words xs o ++ codes ")" ∷ rest)) (map value_of xs) o rest
args_again laws t [] None rest h i = no_args
args_again laws t [] (Some n) rest h i = descr_alone i
args_again laws t (x ∷ xs) o rest h i =
    let more = more_args_again laws t xs o rest h.1 i in
    let first = first_again laws t x (more_words t xs ++ (comma_words o ++ codes ")" ∷ rest)) (map value_of xs) o rest h.0 more in
    let e : arg_words t x ++ (more_words t xs ++ (comma_words o ++ codes ")" ∷ rest)) ≡ (arg_words t x ++ more_words t xs) ++ (cite_words (x ∷ xs) o ++ codes ")" ∷ rest) =
    sym (append_assoc (arg_words t x) (more_words t xs) (comma_words o ++ codes ")" ∷ rest)) ∙ ap (λ (c : Words). (arg_words t x ++ more_words t xs) ++ (c ++ codes ")" ∷ rest)) (cite_as_comma x xs o) in
    subst (λ (w : Words). SpellsArgs (names_of t) w (map value_of (x ∷ xs)) o rest) e first

-- ---- the line

spelled_by : (laws : TextLaws) (t : Table) (r : Option BoxId) (n : List ℕ) (us rest : Words) (vs : List Value) (o : Option (List ℕ)) (fs : List Slots) → ReadsResult r → is_name n ≡ true → SpellsArgs (names_of t) us vs o rest → SpellsSnapshot (names_of t) rest fs → SpellsLine (names_of t) (made_words r ++ (n ∷ codes "(" ∷ us)) (record { made = made_for r; name = n; args = vs; descr = o; frames = fs })
spelled_by laws t None n us rest vs o fs h is a s = line_alone is a s
spelled_by laws t (Some b) n us rest vs o fs h is a s = line_made (box_is_name laws b h) (box_again laws b h) is a s

abbrev pub op_words : Table → Op → Words
op_words t op = made_words op.result ++ (name_of op.code ∷ codes "(" ∷ (args_words t op.args ++ (cite_words op.args (cited t op.descr) ++ codes ")" ∷ snapshot_words t op.snapshot)))

cites_name : (t : Table) (c : OpCode) (d : Descr) → ReadsDescr t c d → NameOrNone (cited t d)
cites_name t c descr.No h = tt
cites_name t c (descr.Size k) h = h.0
cites_name t c (descr.Field k) h = h.0
cites_name t c (descr.Array k) h = h.0
cites_name t c (descr.Call k) h = h.0
cites_name t c (descr.Target n) h = h.0

pub op_spelled : (laws : TextLaws) (t : Table) (seen : List BoxId) (others : ℕ) (op : Op) → is_name (name_of op.code) ≡ true → ReadsOp t seen others op → SpellsLine (names_of t) (op_words t op) (parts_for t op)
op_spelled laws t seen others op is h =
    spelled_by laws t op.result (name_of op.code) (args_words t op.args ++ (cite_words op.args (cited t op.descr) ++ codes ")" ∷ snapshot_words t op.snapshot)) (snapshot_words t op.snapshot) (map value_of op.args) (cited t op.descr) (map slots_for op.snapshot)
    h.result is (args_again laws t op.args (cited t op.descr) (snapshot_words t op.snapshot) h.args (cites_name t op.code op.descr h.descr)) (snapshot_framed (frames_again laws t seen op.snapshot h.frames))

-- the line without its line feed
abbrev pub op_body : Table → Op → List ℕ
op_body t op = (made_text op.result ++ call_text t op.code op.args op.descr) ++ snapshot_text t op.snapshot

regroup : (m h a d s : Words) (close : List ℕ) → (m ++ (((h ++ a) ++ d) ++ close ∷ [])) ++ s ≡ m ++ (h ++ (a ++ (d ++ close ∷ s)))
regroup m h a d s close =
    append_assoc m (((h ++ a) ++ d) ++ close ∷ []) s
    ∙ ap (λ (x : Words). m ++ x) (append_assoc ((h ++ a) ++ d) (close ∷ []) s ∙ append_assoc (h ++ a) d (close ∷ s) ∙ append_assoc h a (d ++ close ∷ s))

pub op_piece : (laws : TextLaws) (t : Table) (seen : List BoxId) (others : ℕ) (op : Op) → IsWord (name_of op.code) → ReadsOp t seen others op → Tight (op_body t op) (op_words t op)
unfolding call_text
op_piece laws t seen others op w h =
    let n = name_of op.code in
    let a = args_words t op.args in
    let d = cite_words op.args (cited t op.descr) in
    let s = snapshot_words t op.snapshot in
    let head = opened laws n (n ∷ []) (loose_word laws n w) in
    let inner = descr_piece laws t (n ++ 40 ∷ []) (n ∷ codes "(" ∷ []) op.args op.descr head h.args (cites_name t op.code op.descr h.descr) in
    let called = shut laws (((n ++ 40 ∷ []) ++ args_text t op.args) ++ descr_text t (nat_lt 0 (length op.args)) op.descr) (((n ∷ codes "(" ∷ []) ++ a) ++ d) inner in
    let made = tight_both (made_text op.result) (call_text t op.code op.args op.descr) (made_words op.result) ((((n ∷ codes "(" ∷ []) ++ a) ++ d) ++ codes ")" ∷ []) (made_piece laws op.result h.result) called in
    let all = tight_both (made_text op.result ++ call_text t op.code op.args op.descr) (snapshot_text t op.snapshot) (made_words op.result ++ ((((n ∷ codes "(" ∷ []) ++ a) ++ d) ++ codes ")" ∷ [])) s made (snapshot_piece laws t seen op.snapshot h.frames) in
    subst (λ (x : Words). Tight (op_body t op) x) (regroup (made_words op.result) (n ∷ codes "(" ∷ []) a d s (codes ")")) all

-- ---- its meaning

box_back : (k : Kind) (n : ℕ) → box_id (letter_for k) n ≡ record { kind = k; number = n }
box_back kind.Int n = refl
box_back kind.Ref n = refl

pub box_of_line : (b : BoxId) → box_id (letter_for b.kind) b.number ≡ b
box_of_line b = box_back b.kind b.number

arg_back : (a : Arg) → arg_of (value_of a) ≡ a
arg_back (arg.Of b) = ap arg.Of (box_of_line b)
arg_back (arg.Const z) = refl
arg_back arg.Null = refl
arg_back (arg.Class k) = refl
arg_back (arg.Func k) = refl
arg_back (arg.Ptr k) = refl

args_back : (xs : List Arg) → map arg_of (map value_of xs) ≡ xs
args_back [] = refl
args_back (x ∷ xs) = ap (λ (y : Arg). y ∷ map arg_of (map value_of xs)) (arg_back x) ∙ ap (λ (ys : List Arg). x ∷ ys) (args_back xs)

made_back : (r : Option BoxId) → made_of (made_for r) ≡ r
made_back None = refl
made_back (Some b) = ap (λ (x : BoxId). Some x) (box_of_line b)

frame_back : (own : List ℕ) (guard : ℕ) (f : Frame) → frame_of own guard (slots_for f) ≡ f
frame_back own guard f = ap (λ (xs : List Arg). record f { slots = xs }) (args_back f.slots)

frames_back : (own : List ℕ) (guard : ℕ) (fs : List Frame) → map (frame_of own guard) (map slots_for fs) ≡ fs
frames_back own guard [] = refl
frames_back own guard (f ∷ fs) = ap (λ (g : Frame). g ∷ map (frame_of own guard) (map slots_for fs)) (frame_back own guard f) ∙ ap (λ (gs : List Frame). f ∷ gs) (frames_back own guard fs)

pub descr_found_again : (t : Table) (c : OpCode) (d : Descr) → ReadsDescr t c d → descr_found (names_of t) (Some c) (cited t d) ≡ Some d
descr_found_again t c descr.No h = refl
descr_found_again t c (descr.Size k) h = h.1
descr_found_again t c (descr.Field k) h = h.1
descr_found_again t c (descr.Array k) h = h.1
descr_found_again t c (descr.Call k) h = h.1
descr_found_again t c (descr.Target n) h = h.1

-- what the parts of a line mean
abbrev pub meant : Table → List ℕ → ℕ → OpCode → Parts → Op
meant t own guard c p = record { code = c; result = made_of p.made; args = map arg_of p.args; descr = unwrap_or (descr_found (names_of t) (Some c) p.descr) descr.No; snapshot = map (frame_of own guard) p.frames }

pub op_meant : (t : Table) (seen : List BoxId) (others : ℕ) (own : List ℕ) (guard : ℕ) (op : Op) → ReadsOp t seen others op → meant t own guard op.code (parts_for t op) ≡ op
op_meant t seen others own guard op h =
    let d : unwrap_or (descr_found (names_of t) (Some op.code) (cited t op.descr)) descr.No ≡ op.descr = ap (λ (o : Option Descr). unwrap_or o descr.No) (descr_found_again t op.code op.descr h.descr) in
    rw (made_back op.result, args_back op.args, d, frames_back own guard op.snapshot) refl
