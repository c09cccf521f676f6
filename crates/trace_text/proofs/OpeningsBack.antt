-- Headings, inputs and labels that are written are read.
use Rattle.std.proofs.Common.{◌≡◌, ℕ, ◌+◌, ◌<◌, ◌≤◌, Bool, true, false, List, [], ◌∷◌, ◌++◌, map, length, Some, None, Ok, refl, ap, ◌∙◌, arith}
use Rattle.std.specs.Prelude.{codes, nat_lt, nat_le, not}
use Rattle.std.specs.List.{list_any}
use Rattle.std.proofs.lemmas.Bool.{le-leb, lt-ltb, eq-eqb}
use Rattle.lists.proofs.Bools.{or_false}
use Rattle.text_lines.specs.Words.{words, is_name, is_name_byte, is_letter, is_plain, is_mark, is_word_byte}
use Rattle.text_lines.specs.Written.{IsWord}
use Rattle.text_lines.specs.Reading.{is_skipped}
use Rattle.trace_ops.specs.declared.trace.Kind.{Kind}
use Rattle.trace_ops.specs.declared.trace.Kind.TheVariants as kind
use Rattle.trace_ops.specs.declared.trace.BoxId.{BoxId}
use Rattle.trace_ops.specs.declared.trace.Origin.{Origin}
use Rattle.trace_ops.specs.declared.trace.Origin.TheVariants as origin
use Rattle.trace_ops.specs.declared.table.Table.{Table}
use Rattle.trace_ops.specs.declared.table.What.TheVariants as what
use Rattle.trace_ops.specs.InRange.{most_inputs}
use Rattle.trace_text.specs.declared.value.Value.{Value}
use Rattle.trace_text.specs.declared.value.Value.TheVariants as value
use Rattle.trace_text.specs.declared.heading.Heading.{Heading}
use Rattle.trace_text.specs.declared.fault.Refusal.{Refusal}
use Rattle.trace_text.specs.declared.fault.Refusal.TheVariants.{Syntax, Float, Limit}
use Rattle.trace_text.specs.declared.draft.Draft.{Draft}
use Rattle.trace_text.specs.declared.draft.Phase.{Phase}
use Rattle.trace_text.specs.declared.draft.Phase.TheVariants as phase
use Rattle.trace_text.specs.Names.{Names, names_of}
use Rattle.trace_text.specs.Line.{inputs_at}
use Rattle.trace_text.specs.Heading.{heading_at}
use Rattle.trace_text.specs.Meaning.{is_float}
use Rattle.trace_text.specs.Spelling.{MoreSlots, slots_end, slot_word, SpellsSlots, no_slots, first_word, MoreArgs, args_end, arg_word, SpellsArgs, no_args, begins_word, Parts, SpellsLine, line_alone, snapshot_framed, frames_end, SpellsOrigin, key_of, SpellsHeading}
use Rattle.trace_text.specs.Draft.{unless, is_kind, repeats, is_behind_inputs, labelled, is_open, lacks_inputs, trace_count, closed_if, begun, heading_refusal, read_heading, is_box, input_of, put_inputs, inputs_refusal, is_section, read_in, read_inputs, read_op, read_line}
use Rattle.trace_text.specs.Writing.{boxes_text, origin_text, guard_text}
use Rattle.trace_text.proofs.Again.{plain_inputs_again}
use Rattle.trace_text.proofs.SpelledHeading.{heading_again}
use Rattle.trace_text.proofs.FitDrafts.{length-map}
use Rattle.trace_text.proofs.ReadSets.{Each, ReadsOrigin}
use Rattle.trace_text.proofs.WordsBack.{letter_for, plain_box, guard_name_again, guard_is_word}
use Rattle.trace_text.proofs.PiecesBack.{Loose, Tight, Small, loose_word, tight_bracket, tight_space, tight_both, tight_loose, loose_tight, opened, shut, ended, spaced, space_apart, tight_line, loose_line, more_box_words, box_words, boxes_piece}
use Rattle.trace_text.proofs.LinesBack.{box_of_line}
use Rattle.trace_text.proofs.OpsBack.{passed, line_for, body_reads}
use Rattle.trace_text.proofs.Below.{TextLaws}

abbrev Words : Type 0
Words = List (List ℕ)

-- a box as a line's value
abbrev box_value : BoxId → Value
box_value b = value.Of (letter_for b.kind) b.number

-- ---- labels

more_boxes_args : (laws : TextLaws) (names : Names) (bs : List BoxId) → Each Small bs → MoreArgs names (more_box_words bs ++ codes ")" ∷ []) (map box_value bs) None []
more_boxes_args laws names [] h = args_end
more_boxes_args laws names (b ∷ bs) h = arg_word (plain_box laws b h.0) (more_boxes_args laws names bs h.1)

boxes_args : (laws : TextLaws) (names : Names) (bs : List BoxId) → Each Small bs → SpellsArgs names (box_words bs ++ codes ")" ∷ []) (map box_value bs) None []
boxes_args laws names [] h = no_args
boxes_args laws names (b ∷ bs) h = begins_word (plain_box laws b h.0) (more_boxes_args laws names bs h.1)

key_label : IsWord (codes "label")
unfolding is_word_byte is_mark
key_label = record { some = omega arith; bytes = refl; plain = refl }

label_name : is_name (codes "label") ≡ true
unfolding is_name is_name_byte is_letter
label_name = refl

abbrev label_parts : List BoxId → Parts
label_parts bs = record { made = None; name = codes "label"; args = map box_value bs; descr = None; frames = [] }

abbrev pub label_body : List BoxId → List ℕ
label_body bs = (codes "label(" ++ boxes_text bs) ++ 41 ∷ []

abbrev label_words : List BoxId → Words
label_words bs = codes "label" ∷ codes "(" ∷ (box_words bs ++ codes ")" ∷ [])

label_piece : (laws : TextLaws) (bs : List BoxId) → Each Small bs → Tight (label_body bs) (label_words bs)
label_piece laws bs h = shut laws (codes "label(" ++ boxes_text bs) (codes "label" ∷ codes "(" ∷ box_words bs) (tight_loose (codes "label(") (boxes_text bs) (codes "label" ∷ codes "(" ∷ []) (box_words bs) (opened laws (codes "label") (codes "label" ∷ []) (loose_word laws (codes "label") key_label)) (boxes_piece laws bs h))

same_kind : (k : Kind) → is_kind (letter_for k) k ≡ true
same_kind kind.Int = refl
same_kind kind.Ref = refl

repeats_them : (bs : List BoxId) → repeats (map box_value bs) bs ≡ true
unfolding repeats
repeats_them [] = refl
repeats_them (b ∷ bs) = rw (same_kind b.kind, eq-eqb b.number b.number refl, repeats_them bs) refl

label_read : (t : Table) (n : ℕ) (d : Draft) → is_behind_inputs d.phase ≡ true → read_op (names_of t) n d (Some (line_for (label_parts d.inputs))) ≡ Ok (labelled d)
label_read t n d e = rw (e, repeats_them d.inputs) refl

behind_is_open : (p : Phase) → is_behind_inputs p ≡ true → is_open p ≡ true
behind_is_open phase.Label e = refl
behind_is_open phase.Before e = absurd cc
behind_is_open phase.Inputs e = absurd cc
behind_is_open phase.Ops e = absurd cc

pub label_line_read : (laws : TextLaws) (t : Table) (n : ℕ) (d : Draft) → is_behind_inputs d.phase ≡ true → Each Small d.inputs → (is_plain (label_body d.inputs) ≡ true) × (read_line (names_of t) n (label_body d.inputs) d ≡ Ok (labelled d))
label_line_read laws t n d e h =
    let piece = label_piece laws d.inputs h in
    let s : SpellsLine (names_of t) (label_words d.inputs) (label_parts d.inputs) = line_alone label_name (boxes_args laws (names_of t) d.inputs h) (snapshot_framed frames_end) in
    (piece.plain, body_reads t n d (label_body d.inputs) (label_words d.inputs) (label_parts d.inputs) (behind_is_open d.phase e) piece.plain (tight_line (label_body d.inputs) (label_words d.inputs) piece) refl s ∙ label_read t n d e)

-- ---- inputs

more_boxes_slots : (laws : TextLaws) (names : Names) (bs : List BoxId) → Each Small bs → MoreSlots names (more_box_words bs ++ codes "]" ∷ []) (map box_value bs) []
more_boxes_slots laws names [] h = slots_end
more_boxes_slots laws names (b ∷ bs) h = slot_word (plain_box laws b h.0) (more_boxes_slots laws names bs h.1)

boxes_slots : (laws : TextLaws) (names : Names) (bs : List BoxId) → Each Small bs → SpellsSlots names (box_words bs ++ codes "]" ∷ []) (map box_value bs) []
boxes_slots laws names [] h = no_slots
boxes_slots laws names (b ∷ bs) h = first_word (plain_box laws b h.0) (more_boxes_slots laws names bs h.1)

abbrev pub inputs_body : List BoxId → List ℕ
inputs_body bs = ((91 ∷ []) ++ boxes_text bs) ++ 93 ∷ []

abbrev inputs_words : List BoxId → Words
inputs_words bs = codes "[" ∷ (box_words bs ++ codes "]" ∷ [])

inputs_piece : (laws : TextLaws) (bs : List BoxId) → Each Small bs → Tight (inputs_body bs) (inputs_words bs)
inputs_piece laws bs h = ended laws ((91 ∷ []) ++ boxes_text bs) (codes "[" ∷ box_words bs) (tight_loose (91 ∷ []) (boxes_text bs) (codes "[" ∷ []) (box_words bs) (tight_bracket laws) (boxes_piece laws bs h))

all_boxes : (bs : List BoxId) → list_any (λ v. not (is_box v)) (map box_value bs) ≡ false
all_boxes [] = refl
all_boxes (b ∷ bs) = all_boxes bs

box_no_float : (k : Kind) (n : ℕ) → is_float (value.Of (letter_for k) n) ≡ false
box_no_float kind.Int n = refl
box_no_float kind.Ref n = refl

no_floats : (bs : List BoxId) → list_any is_float (map box_value bs) ≡ false
no_floats [] = refl
no_floats (b ∷ bs) = or_false (is_float (box_value b)) (list_any is_float (map box_value bs)) (box_no_float b.kind b.number) (no_floats bs)

inputs_again : (bs : List BoxId) → map input_of (map box_value bs) ≡ bs
inputs_again [] = refl
inputs_again (b ∷ bs) = ap (λ (x : BoxId). x ∷ map input_of (map box_value bs)) (box_of_line b) ∙ ap (λ (xs : List BoxId). b ∷ xs) (inputs_again bs)

inputs_clear : (o : Origin) (bs : List BoxId) → length bs ≤ most_inputs o → inputs_refusal o (map box_value bs) ≡ None
inputs_clear o bs le =
    let vs : List Value = map box_value bs in
    let count : length vs ≡ length bs = length-map box_value bs in
    let few : not (nat_le (length vs) (most_inputs o)) ≡ false = ap not (le-leb (length vs) (most_inputs o) (omega (arith, count, le))) in
    let last : List (Bool × Refusal) = (not (nat_le (length vs) (most_inputs o)), Limit what.Inputs (most_inputs o + 1)) ∷ [] in
    passed (list_any (λ v. not (is_box v)) vs) Syntax ((list_any is_float vs, Float) ∷ last) (all_boxes bs)
    (passed (list_any is_float vs) Float last (no_floats bs)
    (passed (not (nat_le (length vs) (most_inputs o))) (Limit what.Inputs (most_inputs o + 1)) [] few refl))

inputs_read : (laws : TextLaws) (t : Table) (n : ℕ) (d : Draft) (bs : List BoxId) → Each Small bs → length bs ≤ most_inputs d.origin → read_inputs n d (inputs_at (names_of t) (inputs_words bs)) ≡ Ok (put_inputs bs d)
inputs_read laws t n d bs h le =
    let at = plain_inputs_again (names_of t) (box_words bs ++ codes "]" ∷ []) (map box_value bs) (boxes_slots laws (names_of t) bs h) in
    ap (read_inputs n d) at ∙ ap (unless n (put_inputs (map input_of (map box_value bs)) d)) (inputs_clear d.origin bs le) ∙ ap (λ (xs : List BoxId). Ok (put_inputs xs d)) (inputs_again bs)

inputs_in : (t : Table) (n : ℕ) (p : Phase) (d : Draft) (ws : Words) → lacks_inputs p ≡ true → read_in (names_of t) n p d ws ≡ read_inputs n d (inputs_at (names_of t) ws)
inputs_in t n phase.Inputs d ws e = refl
inputs_in t n phase.Before d ws e = absurd cc
inputs_in t n phase.Label d ws e = absurd cc
inputs_in t n phase.Ops d ws e = absurd cc

pub inputs_line_read : (laws : TextLaws) (t : Table) (n : ℕ) (d : Draft) (bs : List BoxId) → lacks_inputs d.phase ≡ true → Each Small bs → length bs ≤ most_inputs d.origin → (is_plain (inputs_body bs) ≡ true) × (read_line (names_of t) n (inputs_body bs) d ≡ Ok (put_inputs bs d))
unfolding read_line
inputs_line_read laws t n d bs e h le =
    let piece = inputs_piece laws bs h in
    (piece.plain, rw (piece.plain, tight_line (inputs_body bs) (inputs_words bs) piece) (inputs_in t n d.phase d (inputs_words bs) e ∙ inputs_read laws t n d bs h le))

-- ---- headings

key_loop : IsWord (codes "%loop")
unfolding is_word_byte is_mark
key_loop = record { some = omega arith; bytes = refl; plain = refl }

key_bridge : IsWord (codes "%bridge")
unfolding is_word_byte is_mark
key_bridge = record { some = omega arith; bytes = refl; plain = refl }

key_from : IsWord (codes "from")
unfolding is_word_byte is_mark
key_from = record { some = omega arith; bytes = refl; plain = refl }

abbrev origin_words : Origin → Words
origin_words origin.Loop = []
origin_words (origin.Bridge parent guard) = codes "from" ∷ guard_text parent guard ∷ []

abbrev heading_words : Origin → List ℕ → Words
heading_words o name = key_of o ∷ name ∷ origin_words o

headed : (laws : TextLaws) (key name : List ℕ) → IsWord key → is_name name ≡ true → Loose ((key ++ 32 ∷ []) ++ name) (key ∷ name ∷ [])
headed laws key name k is = tight_loose (key ++ 32 ∷ []) name (key ∷ []) (name ∷ []) (spaced key (key ∷ []) (loose_word laws key k)) (loose_word laws name (laws.spelled.spelling.name_is_word name is))

heading_piece : (laws : TextLaws) (o : Origin) (name : List ℕ) → is_name name ≡ true → ReadsOrigin o → Loose (origin_text o name) (heading_words o name)
unfolding origin_text
heading_piece laws origin.Loop name is h = headed laws (codes "%loop") name key_loop is
heading_piece laws (origin.Bridge parent guard) name is h =
    let w = guard_text parent guard in
    let from = tight_both (32 ∷ []) (codes "from ") [] (codes "from" ∷ []) tight_space (spaced (codes "from") (codes "from" ∷ []) (loose_word laws (codes "from") key_from)) in
    let front = loose_tight (codes "%bridge " ++ name) (codes " from ") (codes "%bridge" ∷ name ∷ []) (codes "from" ∷ []) (headed laws (codes "%bridge") name key_bridge is) from (λ rest. space_apart (codes "from " ++ rest)) in
    tight_loose ((codes "%bridge " ++ name) ++ codes " from ") w (codes "%bridge" ∷ name ∷ codes "from" ∷ []) (w ∷ []) front (loose_word laws w (guard_is_word laws parent guard h.0 h.1))

origin_spelled : (laws : TextLaws) (o : Origin) → ReadsOrigin o → SpellsOrigin (origin_words o) o
origin_spelled laws origin.Loop h = refl
origin_spelled laws (origin.Bridge parent guard) h = (guard_text parent guard, refl, guard_name_again laws parent guard h.0 h.1)

pub is_heading : (o : Origin) (name : List ℕ) → is_section (heading_words o name) ≡ true
is_heading origin.Loop name = refl
is_heading (origin.Bridge parent guard) name = refl

heading_kept : (o : Origin) (name : List ℕ) → is_skipped (heading_words o name) ≡ false
heading_kept origin.Loop name = refl
heading_kept (origin.Bridge parent guard) name = refl

pub heading_line_words : (laws : TextLaws) (o : Origin) (name : List ℕ) → is_name name ≡ true → ReadsOrigin o → words (origin_text o name) ≡ heading_words o name
heading_line_words laws o name is h = loose_line (origin_text o name) (heading_words o name) (heading_piece laws o name is h)

heading_clear : (d : Draft) → lacks_inputs d.phase ≡ false → trace_count d < 256 → heading_refusal d ≡ None
heading_clear d e lt =
    let last : List (Bool × Refusal) = (not (nat_lt (trace_count d) 256), Limit what.Traces 257) ∷ [] in
    passed (lacks_inputs d.phase) Syntax last e (passed (not (nat_lt (trace_count d) 256)) (Limit what.Traces 257) [] (ap not (lt-ltb (trace_count d) 256 lt)) refl)

abbrev pub heading : Origin → List ℕ → Heading
heading o name = record { name = name; origin = o }

pub heading_line_read : (laws : TextLaws) (t : Table) (n : ℕ) (d : Draft) (o : Origin) (name : List ℕ) → is_name name ≡ true → ReadsOrigin o → lacks_inputs d.phase ≡ false → trace_count d < 256 → (is_plain (origin_text o name) ≡ true) × (read_line (names_of t) n (origin_text o name) d ≡ Ok (begun (heading o name) (closed_if d)))
unfolding read_line
heading_line_read laws t n d o name is h e lt =
    let piece = heading_piece laws o name is h in
    let s : SpellsHeading (heading_words o name) (heading o name) = (origin_words o, refl, is, origin_spelled laws o h) in
    let at : heading_at (heading_words o name) ≡ Some (heading o name) = heading_again (heading_words o name) (heading o name) s in
    let read : read_heading n d (heading_at (heading_words o name)) ≡ Ok (begun (heading o name) (closed_if d)) = ap (read_heading n d) at ∙ ap (unless n (begun (heading o name) (closed_if d))) (heading_clear d e lt) in
    (piece.plain, rw (piece.plain, loose_line (origin_text o name) (heading_words o name) piece, heading_kept o name, is_heading o name) read)
