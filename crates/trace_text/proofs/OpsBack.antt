-- The lines that write operations are read as them.
use Rattle.std.proofs.Common.{◌≡◌, ℕ, ◌≤◌, Bool, true, false, cond, eqb, leb, List, [], ◌∷◌, map, length, Option, Some, None, Ok, refl, sym, ap, ◌∙◌, arith}
use Rattle.std.specs.Prelude.{codes, nat_lt, nat_le, not, ◌&&◌, ◌||◌, is_some, slice_index}
use Rattle.std.specs.Str.{bytes_eq}
use Rattle.std.specs.List.{list_any, list_all}
use Rattle.std.proofs.lemmas.Bool.{le-leb, lt-ltb}
use Rattle.std.proofs.lemmas.Bool.Decides.{nat_tests}
use Rattle.std.proofs.lemmas.Slice.Eq.{bytes_eq-Decides}
use Rattle.lists.proofs.Eaches.{each_weaker}
use Rattle.lists.proofs.Bools.{or_false}
use Rattle.text_lines.specs.Words.{words, is_name, is_name_byte, is_letter, is_plain}
use Rattle.text_lines.specs.Reading.{first_of, is_skipped}
use Rattle.text_lines.specs.Numbers.{box_of}
use Rattle.trace_ops.specs.declared.code.OpCode.{OpCode}
use Rattle.trace_ops.specs.declared.trace.Kind.{Kind}
use Rattle.trace_ops.specs.declared.trace.Kind.TheVariants as kind
use Rattle.trace_ops.specs.declared.trace.BoxId.{BoxId}
use Rattle.trace_ops.specs.declared.trace.Arg.{Arg}
use Rattle.trace_ops.specs.declared.trace.Arg.TheVariants as arg
use Rattle.trace_ops.specs.declared.trace.Frame.{Frame}
use Rattle.trace_ops.specs.declared.trace.Op.{Op}
use Rattle.trace_ops.specs.declared.table.Table.{Table}
use Rattle.trace_ops.specs.declared.table.What.TheVariants as what
use Rattle.trace_ops.specs.OpNames.{name_of, code_of}
use Rattle.trace_ops.specs.Classes.{is_guard}
use Rattle.trace_text.specs.declared.value.Value.{Value}
use Rattle.trace_text.specs.declared.line.Line.{Line}
use Rattle.trace_text.specs.declared.line.Slots.{Slots}
use Rattle.trace_text.specs.declared.fault.Refusal.{Refusal}
use Rattle.trace_text.specs.declared.fault.Refusal.TheVariants.{Syntax, Float, UnknownOp, UnknownDescr, UnknownBox, Limit}
use Rattle.trace_text.specs.declared.draft.Draft.{Draft}
use Rattle.trace_text.specs.declared.draft.Phase.{Phase}
use Rattle.trace_text.specs.declared.draft.Phase.TheVariants as phase
use Rattle.trace_text.specs.Names.{names_of}
use Rattle.trace_text.specs.Boxes.{knows}
use Rattle.trace_text.specs.Line.{start, op_at}
use Rattle.trace_text.specs.Meaning.{has_float, is_float, is_float_name, is_float_letter, makes_float, any_value, is_unknown_name, is_unknown_box, has_unknown_name, differ, is_misframed, is_misplaced, limits, refusal, descr_found}
use Rattle.trace_text.specs.Spelling.{Parts, parts_of, SpellsLine, line_alone, line_made}
use Rattle.trace_text.specs.Draft.{unless, with_op, put_line, put_code, read_label, read_op, is_open, has_key, is_section, read_body, read_in, read_line}
use Rattle.trace_text.proofs.Again.{line_again}
use Rattle.trace_text.proofs.FitDrafts.{length-map}
use Rattle.trace_text.proofs.ReadSets.{Each, KnowsArg, ReadsFrame, ReadsOp}
use Rattle.trace_text.proofs.WordsBack.{letter_for}
use Rattle.trace_text.proofs.PiecesBack.{tight_line, cited}
use Rattle.trace_text.proofs.OpNamesBack.{op_name, code_again}
use Rattle.trace_text.proofs.LinesBack.{value_of, slots_for, made_for, parts_for, op_words, op_spelled, op_body, op_piece, box_of_line, descr_found_again, meant, op_meant}
use Rattle.trace_text.proofs.Below.{TextLaws}

abbrev Words : Type 0
Words = List (List ℕ)

-- ---- the first word

letter_apart : (c : ℕ) → is_letter c ≡ true → (eqb c 35 ≡ false) × (eqb c 37 ≡ false)
unfolding is_letter
letter_apart c h = (grind (arith, nat_tests), grind (arith, nat_tests))

letter_by : (a b c : Bool) → ((a && b) && c) ≡ true → a ≡ true
letter_by true b c e = refl
letter_by false b c e = absurd cc

name_apart : (n : List ℕ) → is_name n ≡ true → (eqb (slice_index n 0) 35 ≡ false) × (eqb (slice_index n 0) 37 ≡ false)
unfolding is_name
name_apart [] e = absurd cc
name_apart (c ∷ cs) e = letter_apart c (letter_by (is_letter c) (list_all is_name_byte (c ∷ cs)) (leb (length (c ∷ cs)) 64) e)

-- a line that is neither skipped nor a heading nor a merge point
record IsSaid (ws : List (List ℕ)) : Type 0 where
  kept : is_skipped ws ≡ false
  body : is_section ws ≡ false
  no_merge : has_key (codes "debug_merge_point") ws ≡ false

merge_no_box : box_of (codes "debug_merge_point") ≡ None
unfolding box_of
merge_no_box = refl

no_merge_by : {X : Type 0} (b : Bool) (w : List ℕ) (x : X) (f : List ℕ → Option X) → bytes_eq w (codes "debug_merge_point") ≡ b → f w ≡ Some x → f (codes "debug_merge_point") ≡ None → b ≡ false
no_merge_by true w x f is e n = let bad : Some x ≡ None = sym e ∙ ap f ((bytes_eq-Decides w (codes "debug_merge_point")).0 is) ∙ n in absurd cc
no_merge_by false w x f is e n = refl

line_said : (t : Table) (ws : Words) (p : Parts) → bytes_eq p.name (codes "debug_merge_point") ≡ false → SpellsLine (names_of t) ws p → IsSaid ws
line_said t _ _ other (line_alone {n} is s more) = let a = name_apart n is in record { kept = a.0; body = a.1; no_merge = other }
line_said t _ _ other (line_made {b} {n} {x} also made is s more) =
    let a = name_apart b also in
    record { kept = a.0; body = a.1; no_merge = no_merge_by (bytes_eq b (codes "debug_merge_point")) b x box_of refl made merge_no_box }

-- ---- no refusal

any_none : (test : Value → Bool) (xs : List Arg) → Each (λ (a : Arg). test (value_of a) ≡ false) xs → list_any test (map value_of xs) ≡ false
any_none test [] h = refl
any_none test (x ∷ xs) h = or_false (test (value_of x)) (list_any test (map value_of xs)) h.0 (any_none test xs h.1)

frames_none : (test : Value → Bool) (fs : List Frame) → Each (λ (f : Frame). Each (λ (a : Arg). test (value_of a) ≡ false) f.slots) fs → list_any (λ (f : Slots). list_any test f.slots) (map slots_for fs) ≡ false
frames_none test [] h = refl
frames_none test (f ∷ fs) h = or_false (list_any test (map value_of f.slots)) (list_any (λ (f : Slots). list_any test f.slots) (map slots_for fs)) (any_none test f.slots h.0) (frames_none test fs h.1)

each_of : {X : Type 0} (P : X → Type 0) → ((x : X) → P x) → (xs : List X) → Each P xs
each_of P f [] = tt
each_of P f (x ∷ xs) = (f x, each_of P f xs)

letter_no_float : (k : Kind) → is_float_letter (letter_for k) ≡ false
letter_no_float kind.Int = refl
letter_no_float kind.Ref = refl

value_no_float : (a : Arg) → is_float (value_of a) ≡ false
value_no_float (arg.Of b) = letter_no_float b.kind
value_no_float (arg.Const z) = refl
value_no_float arg.Null = refl
value_no_float (arg.Class k) = refl
value_no_float (arg.Func k) = refl
value_no_float (arg.Ptr k) = refl

value_is_known : (a : Arg) → is_unknown_name (value_of a) ≡ false
value_is_known (arg.Of b) = refl
value_is_known (arg.Const z) = refl
value_is_known arg.Null = refl
value_is_known (arg.Class k) = refl
value_is_known (arg.Func k) = refl
value_is_known (arg.Ptr k) = refl

box_is_known : (seen : List BoxId) (a : Arg) → KnowsArg seen a → is_unknown_box seen (value_of a) ≡ false
box_is_known seen (arg.Of b) h = ap (λ (x : BoxId). not (knows seen x)) (box_of_line b) ∙ ap not h
box_is_known seen (arg.Const z) h = refl
box_is_known seen arg.Null h = refl
box_is_known seen (arg.Class k) h = refl
box_is_known seen (arg.Func k) h = refl
box_is_known seen (arg.Ptr k) h = refl

made_no_float : (r : Option BoxId) → makes_float (made_for r) ≡ false
made_no_float None = refl
made_no_float (Some b) = letter_no_float b.kind

few_by : (n : ℕ) → n ≤ 256 → not (nat_le n 256) ≡ false
few_by n le = ap not (le-leb n 256 le)

frames_few : (t : Table) (seen : List BoxId) (fs : List Frame) → Each (ReadsFrame t seen) fs → list_any (λ (f : Slots). not (nat_le (length f.slots) 256)) (map slots_for fs) ≡ false
frames_few t seen [] h = refl
frames_few t seen (f ∷ fs) h =
    let small : length (map value_of f.slots) ≤ 256 = omega (arith, length-map value_of f.slots, (h.0).few) in
    or_false (not (nat_le (length (map value_of f.slots)) 256)) (list_any (λ (f : Slots). not (nat_le (length f.slots) 256)) (map slots_for fs)) (few_by (length (map value_of f.slots)) small) (frames_few t seen fs h.1)

-- a line with these parts
abbrev pub line_for : Parts → Line
line_for p = record start { made = p.made; name = p.name; args = p.args; descr = p.descr; frames = p.frames }

differ_same : (b : Bool) → differ b b ≡ false
differ_same true = refl
differ_same false = refl

pub passed : (b : Bool) (why : Refusal) (more : List (Bool × Refusal)) → b ≡ false → first_of more ≡ None → first_of ((b, why) ∷ more) ≡ None
passed b why more e h = rw e h

names_by : (a b c d : Bool) → (a && (not b && (not c && not d))) ≡ true → (a ≡ true) × (b ≡ false) × (c ≡ false) × (d ≡ false)
names_by true false false false e = (refl, refl, refl, refl)
names_by true false false true e = absurd cc
names_by true false true d e = absurd cc
names_by true true c d e = absurd cc
names_by false b c d e = absurd cc

abbrev name_facts : (c : OpCode) → (is_name (name_of c) ≡ true) × (is_float_name (name_of c) ≡ false) × (bytes_eq (name_of c) (codes "label") ≡ false) × (bytes_eq (name_of c) (codes "debug_merge_point") ≡ false)
name_facts c = names_by (is_name (name_of c)) (is_float_name (name_of c)) (bytes_eq (name_of c) (codes "label")) (bytes_eq (name_of c) (codes "debug_merge_point")) (op_name c)

not_misframed : (c : OpCode) (n m : ℕ) → n ≡ m → nat_lt 0 m ≡ is_guard c → differ (is_guard c) (nat_lt 0 n) ≡ false
not_misframed c n m e h = ap (differ (is_guard c)) (ap (nat_lt 0) e ∙ h) ∙ differ_same (is_guard c)

not_refused : (t : Table) (seen : List BoxId) (others : ℕ) (op : Op) → ReadsOp t seen others op → refusal (names_of t) seen others (line_for (parts_for t op)) ≡ None
unfolding refusal
not_refused t seen others op h =
    let l : Line = line_for (parts_for t op) in
    let facts = name_facts op.code in
    let frames : List Slots = map slots_for op.snapshot in
    let count : length frames ≡ length op.snapshot = length-map slots_for op.snapshot in
    let coded : code_of (name_of op.code) ≡ Some op.code = code_again op.code in
    let framed : is_misframed (code_of (name_of op.code)) l ≡ false = ap (λ (o : Option OpCode). is_misframed o l) coded ∙ not_misframed op.code (length frames) (length op.snapshot) count h.framed in
    let placed : is_misplaced l ≡ false = or_false (bytes_eq (name_of op.code) (codes "debug_merge_point")) (is_misframed (code_of (name_of op.code)) l) facts.3 framed in
    let no_floats : any_value is_float l ≡ false = or_false (list_any is_float (map value_of op.args)) (list_any (λ (f : Slots). list_any is_float f.slots) frames)
    (any_none is_float op.args (each_of (λ (a : Arg). is_float (value_of a) ≡ false) value_no_float op.args))
    (frames_none is_float op.snapshot (each_of (λ (f : Frame). Each (λ (a : Arg). is_float (value_of a) ≡ false) f.slots) (λ f. each_of (λ (a : Arg). is_float (value_of a) ≡ false) value_no_float f.slots) op.snapshot)) in
    let float : has_float l ≡ false = or_false (makes_float (made_for op.result) || any_value is_float l) (is_float_name (name_of op.code)) (or_false (makes_float (made_for op.result)) (any_value is_float l) (made_no_float op.result) no_floats) facts.1 in
    let known_op : not (is_some (code_of (name_of op.code))) ≡ false = ap (λ (o : Option OpCode). not (is_some o)) coded in
    let names : any_value is_unknown_name l ≡ false = or_false (list_any is_unknown_name (map value_of op.args)) (list_any (λ (f : Slots). list_any is_unknown_name f.slots) frames)
    (any_none is_unknown_name op.args (each_of (λ (a : Arg). is_unknown_name (value_of a) ≡ false) value_is_known op.args))
    (frames_none is_unknown_name op.snapshot (each_of (λ (f : Frame). Each (λ (a : Arg). is_unknown_name (value_of a) ≡ false) f.slots) (λ f. each_of (λ (a : Arg). is_unknown_name (value_of a) ≡ false) value_is_known f.slots) op.snapshot)) in
    let descr : not (is_some (descr_found (names_of t) (code_of (name_of op.code)) (cited t op.descr))) ≡ false = ap (λ (o : Option OpCode). not (is_some (descr_found (names_of t) o (cited t op.descr)))) coded ∙ ap (λ o. not (is_some o)) (descr_found_again t op.code op.descr h.descr) in
    let known_names : has_unknown_name (names_of t) l ≡ false = or_false (any_value is_unknown_name l) (not (is_some (descr_found (names_of t) (code_of (name_of op.code)) (cited t op.descr)))) names descr in
    let boxes : any_value (is_unknown_box seen) l ≡ false = or_false (list_any (is_unknown_box seen) (map value_of op.args)) (list_any (λ (f : Slots). list_any (is_unknown_box seen) f.slots) frames)
    (any_none (is_unknown_box seen) op.args (each_weaker (KnowsArg seen) (λ (a : Arg). is_unknown_box seen (value_of a) ≡ false) (box_is_known seen) op.args h.known))
    (frames_none (is_unknown_box seen) op.snapshot (each_weaker (ReadsFrame t seen) (λ (f : Frame). Each (λ (a : Arg). is_unknown_box seen (value_of a) ≡ false) f.slots) (λ f r. each_weaker (KnowsArg seen) (λ (a : Arg). is_unknown_box seen (value_of a) ≡ false) (box_is_known seen) f.slots r.known) op.snapshot h.frames)) in
    let room : not (nat_lt others 8192) ≡ false = ap not (lt-ltb others 8192 h.room) in
    let few : not (nat_le (length frames) 32) ≡ false = ap not (le-leb (length frames) 32 (omega (arith, count, h.few))) in
    let slots = frames_few t seen op.snapshot h.frames in
    let g3 = passed (list_any (λ (f : Slots). not (nat_le (length f.slots) 256)) frames) (Limit what.Slots 257) [] slots refl in
    let g2 = passed (not (nat_le (length frames) 32)) (Limit what.Frames 33) ((list_any (λ (f : Slots). not (nat_le (length f.slots) 256)) frames, Limit what.Slots 257) ∷ []) few g3 in
    let g1 = passed (not (nat_lt others 8192)) (Limit what.Operations 8193) ((not (nat_le (length frames) 32), Limit what.Frames 33) ∷ (list_any (λ (f : Slots). not (nat_le (length f.slots) 256)) frames, Limit what.Slots 257) ∷ []) room g2 in
    let last : List (Bool × Refusal) = limits others frames in
    let with_boxes : List (Bool × Refusal) = (any_value (is_unknown_box seen) l, UnknownBox) ∷ last in
    let with_names : List (Bool × Refusal) = (has_unknown_name (names_of t) l, UnknownDescr) ∷ with_boxes in
    let with_ops : List (Bool × Refusal) = (not (is_some (code_of (name_of op.code))), UnknownOp) ∷ with_names in
    let with_floats : List (Bool × Refusal) = (has_float l, Float) ∷ with_ops in
    passed (is_misplaced l) Syntax with_floats placed
    (passed (has_float l) Float with_ops float
    (passed (not (is_some (code_of (name_of op.code)))) UnknownOp with_names known_op
    (passed (has_unknown_name (names_of t) l) UnknownDescr with_boxes known_names
    (passed (any_value (is_unknown_box seen) l) UnknownBox last boxes g1))))

-- ---- reading

put_by_parts : (t : Table) (l : Line) (d : Draft) (o : Option OpCode) → put_code (names_of t) l d o ≡ put_code (names_of t) (line_for (parts_of l)) d o
put_by_parts t l d None = refl
put_by_parts t l d (Some c) = refl

misframed_by_parts : (l : Line) (o : Option OpCode) → is_misframed o l ≡ is_misframed o (line_for (parts_of l))
misframed_by_parts l None = refl
misframed_by_parts l (Some c) = refl

-- the tests of a line, of which the first is given
abbrev tests : Table → List BoxId → ℕ → Line → Bool → List (Bool × Refusal)
tests t seen others l misframed =
    (bytes_eq l.name (codes "debug_merge_point") || misframed, Syntax)
    ∷ (has_float l, Float)
    ∷ (not (is_some (code_of l.name)), UnknownOp)
    ∷ (has_unknown_name (names_of t) l, UnknownDescr)
    ∷ (any_value (is_unknown_box seen) l, UnknownBox)
    ∷ limits others l.frames

by_parts : (t : Table) (n : ℕ) (d : Draft) (l : Line) → read_op (names_of t) n d (Some l) ≡ read_op (names_of t) n d (Some (line_for (parts_of l)))
unfolding refusal
by_parts t n d l =
    let m : Line = line_for (parts_of l) in
    ap (λ (x : Draft). cond (bytes_eq l.name (codes "label")) (read_label n d l) (unless n x (first_of (tests t d.seen (length d.ops) l (is_misframed (code_of l.name) l))))) (put_by_parts t l d (code_of l.name))
    ∙ ap (λ (b : Bool). cond (bytes_eq l.name (codes "label")) (read_label n d l) (unless n (put_code (names_of t) m d (code_of l.name)) (first_of (tests t d.seen (length d.ops) l b)))) (misframed_by_parts l (code_of l.name))

-- an operation's line in a draft that is open
op_read : (t : Table) (n : ℕ) (d : Draft) (op : Op) → ReadsOp t d.seen (length d.ops) op → read_op (names_of t) n d (Some (line_for (parts_for t op))) ≡ Ok (with_op op.code op d)
op_read t n d op h =
    let l : Line = line_for (parts_for t op) in
    let facts = name_facts op.code in
    let clear = not_refused t d.seen (length d.ops) op h in
    let coded : code_of (name_of op.code) ≡ Some op.code = code_again op.code in
    let same : meant t d.name d.guards op.code (parts_for t op) ≡ op = op_meant t d.seen (length d.ops) d.name d.guards op h in
    ap (λ (b : Bool). cond b (read_label n d l) (unless n (put_line (names_of t) l d) (refusal (names_of t) d.seen (length d.ops) l))) facts.2
    ∙ ap (unless n (put_line (names_of t) l d)) clear
    ∙ ap (λ (o : Option OpCode). Ok (put_code (names_of t) l d o)) coded
    ∙ ap (λ (x : Op). Ok (with_op op.code x d)) same

open_reads : (t : Table) (n : ℕ) (p : Phase) (d : Draft) (ws : Words) → is_open p ≡ true → read_in (names_of t) n p d ws ≡ read_body (names_of t) n d ws
open_reads t n phase.Before d ws e = absurd cc
open_reads t n phase.Inputs d ws e = absurd cc
open_reads t n phase.Label d ws e = refl
open_reads t n phase.Ops d ws e = refl

-- a line that is spelled so is read by its parts
pub body_reads : (t : Table) (n : ℕ) (d : Draft) (line : List ℕ) (ws : Words) (p : Parts) → is_open d.phase ≡ true → is_plain line ≡ true → words line ≡ ws → bytes_eq p.name (codes "debug_merge_point") ≡ false → SpellsLine (names_of t) ws p → read_line (names_of t) n line d ≡ read_op (names_of t) n d (Some (line_for p))
unfolding read_line
body_reads t n d line ws p open_here plain are other s =
    let said = line_said t ws p other s in
    let again = line_again (names_of t) ws p s in
    let at : op_at (names_of t) ws ≡ Some again.0 = again.1 in
    let parts : read_op (names_of t) n d (Some again.0) ≡ read_op (names_of t) n d (Some (line_for p)) = by_parts t n d again.0 ∙ ap (λ (q : Parts). read_op (names_of t) n d (Some (line_for q))) again.2 in
    let body : read_in (names_of t) n d.phase d ws ≡ read_op (names_of t) n d (Some (line_for p)) = open_reads t n d.phase d ws open_here ∙ rw (said.no_merge, at) parts in
    rw (plain, are, said.kept, said.body) body

pub op_line_read : (laws : TextLaws) (t : Table) (n : ℕ) (d : Draft) (op : Op) → is_open d.phase ≡ true → ReadsOp t d.seen (length d.ops) op → (is_plain (op_body t op) ≡ true) × (read_line (names_of t) n (op_body t op) d ≡ Ok (with_op op.code op d))
op_line_read laws t n d op open_here h =
    let facts = name_facts op.code in
    let piece = op_piece laws t d.seen (length d.ops) op (laws.spelled.spelling.name_is_word (name_of op.code) facts.0) h in
    let s = op_spelled laws t d.seen (length d.ops) op facts.0 h in
    (piece.plain, body_reads t n d (op_body t op) (op_words t op) (parts_for t op) open_here piece.plain (tight_line (op_body t op) (op_words t op) piece) facts.3 s ∙ op_read t n d op h)
