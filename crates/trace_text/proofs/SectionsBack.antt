-- A text that is written is cut into its table and its traces.
use Rattle.std.proofs.Common.{◌≡◌, ℕ, suc, ◌+◌, Bool, true, false, cond, eqb, List, [], ◌∷◌, ◌++◌, length, Option, Some, None, Result, Ok, Err, refl, sym, ap, ◌∙◌, inl, inr, ◌⊎◌, arith, append_assoc, length-append}
use Rattle.std.proofs.lemmas.List.{append-nil}
use Rattle.std.proofs.lemmas.Bool.{ne_eqb, eqb-true, and_parts}
use Rattle.std.proofs.lemmas.Slice.Eq.{bytes_eq-Decides}
use Rattle.std.specs.Prelude.{codes, slice_get, slice_index}
use Rattle.std.specs.Str.{bytes_eq}
use Rattle.std.specs.List.{flat_map}
use Rattle.text_lines.specs.Lines.{lines, in_front}
use Rattle.text_lines.specs.Words.{words, is_plain}
use Rattle.lists.specs.Binds.{◌>>=◌}
use Rattle.lists.specs.Refused.{read_lines, ok_then}
use Rattle.text_lines.specs.Reading.{said, is_skipped, is_end}
use Rattle.text_lines.specs.Cut.{joined}
use Rattle.trace_ops.specs.declared.table.ShapeOf.{ShapeOf}
use Rattle.trace_ops.specs.declared.table.ShapeOf.TheVariants as shape
use Rattle.trace_ops.specs.declared.table.SizeRow.{SizeRow}
use Rattle.trace_ops.specs.declared.table.ArrayRow.{ArrayRow}
use Rattle.trace_ops.specs.declared.table.Table.{Table}
use Rattle.descr_table.specs.declared.form.Form.{Form}
use Rattle.descr_table.specs.declared.form.Form.TheVariants.{Size, Field, Array, Call, Function, Object, Items}
use Rattle.descr_table.specs.declared.fault.TableFault.{TableFault}
use Rattle.descr_table.specs.Form.{form_at}
use Rattle.descr_table.specs.Spelling.{Spells}
use Rattle.descr_table.specs.Meaning.{nothing}
use Rattle.descr_table.specs.Reading as rows
use Rattle.descr_table.specs.Reading.{defined_in, read_said, table_at}
use Rattle.descr_table.specs.Writing.{size_line_of, array_line_of, shape_line, field_line, call_line, function_line, prebuilt_line, table_text}
use Rattle.trace_text.specs.declared.fault.TextFault.{TextFault}
use Rattle.trace_text.specs.declared.draft.Draft.{Draft}
use Rattle.trace_text.specs.declared.cut.Until.TheVariants as until
use Rattle.trace_text.specs.Names.{Names}
use Rattle.trace_text.specs.Heading.{heading_at}
use Rattle.trace_text.specs.Draft.{is_section, read_heading, read_in, read_line}
use Rattle.trace_text.specs.Sections.{is_alone, stops, bytes_before, place_of}
use Rattle.trace_text.proofs.ReadSets.{Each}
use Rattle.trace_text.proofs.Below.{TextLaws}

abbrev Words : Type 0
Words = List (List ℕ)

-- ---- texts that end with a line feed

abbrev pub IsWhole : List ℕ → Type 0
IsWhole text = (rest : List ℕ) → lines (text ++ rest) ≡ lines text ++ lines rest

whole_nothing : IsWhole []
unfolding lines
whole_nothing rest = refl

whole_both : (a b : List ℕ) → IsWhole a → IsWhole b → IsWhole (a ++ b)
whole_both a b h i rest = ap lines (append_assoc a b rest) ∙ h (b ++ rest) ∙ ap (λ (x : Words). lines a ++ x) (i rest) ∙ sym (append_assoc (lines a) (lines b) (lines rest)) ∙ ap (λ (x : Words). x ++ lines rest) (sym (h b))

-- the lines up to a line feed
record IsFed (body : List ℕ) : Type 0 where
  first : List ℕ
  more : Words
  are : (rest : List ℕ) → lines (body ++ 10 ∷ rest) ≡ first ∷ (more ++ lines rest)

fed_by : (b : Bool) (c : ℕ) (cs : List ℕ) → eqb c 10 ≡ b → IsFed cs → IsFed (c ∷ cs)
unfolding lines
fed_by true c cs e h = record { first = []; more = h.first ∷ h.more; are = λ rest. rw e (ap (λ (x : Words). [] ∷ x) (h.are rest)) }
fed_by false c cs e h = record { first = c ∷ h.first; more = h.more; are = λ rest. rw e (ap (in_front c) (h.are rest)) }

fed : (body : List ℕ) → IsFed body
unfolding lines
fed [] = record { first = []; more = []; are = λ rest. refl }
fed (c ∷ cs) = fed_by (eqb c 10) c cs refl (fed cs)

whole_line : (body : List ℕ) → IsWhole (body ++ 10 ∷ [])
unfolding lines
whole_line body rest =
    let h = fed body in
    let alone : lines (body ++ 10 ∷ []) ≡ h.first ∷ h.more = h.are [] ∙ ap (λ (x : Words). h.first ∷ x) (append-nil h.more) in
    ap lines (append_assoc body (10 ∷ []) rest) ∙ h.are rest ∙ ap (λ (x : Words). x ++ lines rest) (sym alone)

whole_map : {X : Type 0} (text : X → List ℕ) → ((x : X) → IsWhole (text x)) → (xs : List X) → IsWhole (flat_map text xs)
whole_map text f [] = whole_nothing
whole_map text f (x ∷ xs) = whole_both (text x) (flat_map text xs) (f x) (whole_map text f xs)

size_whole : (o : Option SizeRow) → IsWhole (size_line_of o)
size_whole None = whole_nothing
size_whole (Some r) = whole_line _

array_whole : (o : Option ArrayRow) → IsWhole (array_line_of o)
array_whole None = whole_nothing
array_whole (Some r) = whole_line _

shape_whole : (t : Table) (s : ShapeOf) → IsWhole (shape_line t s)
unfolding shape_line
shape_whole t (shape.Size k) = size_whole (slice_get t.sizes k)
shape_whole t (shape.Array k) = array_whole (slice_get t.arrays k)

pub table_whole : (t : Table) → IsWhole (table_text t)
table_whole t =
    let shapes = flat_map (λ s. shape_line t s) t.shapes in
    let fields = flat_map (λ r. field_line t r) t.fields in
    let calls = flat_map (λ r. call_line t r) t.calls in
    let functions = flat_map (λ n. function_line n) t.functions in
    let roots = flat_map (λ r. prebuilt_line t r) t.prebuilts in
    let a = whole_map (λ s. shape_line t s) (shape_whole t) t.shapes in
    let b = whole_map (λ r. field_line t r) (λ r. whole_line _) t.fields in
    let c = whole_map (λ r. call_line t r) (λ r. whole_line _) t.calls in
    let d = whole_map (λ n. function_line n) (λ n. whole_line _) t.functions in
    let e = whole_map (λ r. prebuilt_line t r) (λ r. whole_line _) t.prebuilts in
    whole_both (((shapes ++ fields) ++ calls) ++ functions) roots (whole_both ((shapes ++ fields) ++ calls) functions (whole_both (shapes ++ fields) calls (whole_both shapes fields a b) c) d) e

-- ---- lines of a table

section_by : (ws : Words) (f : Form) → Spells ws f → is_section ws ≡ false
section_by ws (Size name vtable) s = ap is_section s
section_by ws (Field name size k immutable) s = ap is_section s
section_by ws (Array name k) s = ap is_section s
section_by ws (Call name args gives reads writes) s = ap is_section s
section_by ws (Function name) s = ap is_section s
section_by ws (Object name size fields) s = ap is_section s.1
section_by ws (Items name array items) s = ap is_section s.1

skipped_no_section : (ws : Words) → is_skipped ws ≡ true → is_section ws ≡ false
skipped_no_section [] e = refl
skipped_no_section (w ∷ ws) e = ne_eqb (slice_index w 0) 37 (λ h. omega (arith, eqb-true (slice_index w 0) 35 e, h))

form_by : (laws : TextLaws) (ws : Words) (o : Option Form) (x : Option Form) → form_at ws ≡ o → (o >>= λ f. Some (Some f)) ≡ Some x → is_section ws ≡ false
form_by laws ws None x at e = absurd cc
form_by laws ws (Some f) x at e = section_by ws f (laws.form_takes ws f at).0

said_by : (laws : TextLaws) (plain skipped : Bool) (ws : Words) (x : Option Form) → is_skipped ws ≡ skipped → cond plain (cond skipped (Some None) (form_at ws >>= λ f. Some (Some f))) None ≡ Some x → is_section ws ≡ false
said_by laws false skipped ws x s e = absurd cc
said_by laws true true ws x s e = skipped_no_section ws s
said_by laws true false ws x s e = form_by laws ws (form_at ws) x refl e

row_by : (laws : TextLaws) (d : Words) (n : ℕ) (line : List ℕ) (s made : Table) (o : Option (Option Form)) → said form_at line ≡ o → read_said d n s o ≡ Ok made → is_section (words line) ≡ false
unfolding said
row_by laws d n line s made None is e = absurd cc
row_by laws d n line s made (Some x) is e = said_by laws (is_plain line) (is_skipped (words line)) (words line) x refl is

row_no_section : (laws : TextLaws) (d : Words) (n : ℕ) (line : List ℕ) (s made : Table) → rows.read_line d n line s ≡ Ok made → is_section (words line) ≡ false
unfolding rows.read_line
row_no_section laws d n line s made e = row_by laws d n line s made (said form_at line) refl e

abbrev pub NoSection : List ℕ → Type 0
NoSection line = stops until.Section line ≡ false

row_step : (laws : TextLaws) (d : Words) (n : ℕ) (l : List ℕ) (ls : Words) (s t : Table) (r : Result Table TableFault) → rows.read_line d n l s ≡ r → ok_then r (λ made. read_lines (rows.read_line d) (suc n) ls made) ≡ Ok t
    → ((made : Table) → read_lines (rows.read_line d) (suc n) ls made ≡ Ok t → Each NoSection ls) → Each NoSection (l ∷ ls)
row_step laws d n l ls s t (Ok made) is e f = (row_no_section laws d n l s made is, f made e)
row_step laws d n l ls s t (Err why) is e f = absurd cc

rows_no_section : (laws : TextLaws) (d : Words) (ls : Words) (n : ℕ) (s t : Table) → read_lines (rows.read_line d) n ls s ≡ Ok t → Each NoSection ls
unfolding read_lines
rows_no_section laws d [] n s t e = tt
rows_no_section laws d (l ∷ ls) n s t e = row_step laws d n l ls s t (rows.read_line d n l s) refl e (λ made g. rows_no_section laws d ls (suc n) made t g)

pub table_no_section : (laws : TextLaws) (n : ℕ) (text : List ℕ) (t : Table) → table_at n text ≡ Ok t → Each NoSection (lines text)
unfolding table_at
table_no_section laws n text t e = rows_no_section laws (defined_in text) (lines text) n nothing t e

-- ---- no line is the session's

abbrev pub NoSession : List ℕ → Type 0
NoSession line = stops until.Session line ≡ false

end_is : (ws : Words) → is_end ws ≡ true → ws ≡ []
end_is [] e = refl
end_is (w ∷ ws) e = absurd cc

alone_is : (key : List ℕ) (ws : Words) → is_alone key ws ≡ true → ws ≡ key ∷ []
alone_is key [] e = absurd cc
alone_is key (w ∷ ws) e =
    let p = and_parts (bytes_eq w key) (is_end ws) e in
    ap (λ (x : List ℕ). x ∷ ws) ((bytes_eq-Decides w key).0 p.0) ∙ ap (λ (x : Words). key ∷ x) (end_is ws p.1)

session_by : (b : Bool) (ws : Words) → is_alone (codes "%session") ws ≡ b → is_section ws ≡ false → b ≡ false
session_by true ws is e = let bad : true ≡ false = sym (ap is_section (alone_is (codes "%session") ws is)) ∙ e in absurd cc
session_by false ws is e = refl

pub no_session_of : (ls : Words) → Each NoSection ls → Each NoSession ls
no_session_of [] h = tt
no_session_of (l ∷ ls) h = (session_by (is_alone (codes "%session") (words l)) (words l) refl h.0, no_session_of ls h.1)

session_no_heading : heading_at (codes "%session" ∷ []) ≡ None
unfolding heading_at
session_no_heading = refl

refused : (names : Names) (n : ℕ) (d made : Draft) (ws : Words) (plain : Bool) (why : TextFault) → ws ≡ codes "%session" ∷ [] → cond plain (cond (is_skipped ws) (Ok d) (cond (is_section ws) (read_heading n d (heading_at ws)) (read_in names n d.phase d ws))) (Err why) ≡ Ok made → ⊥
refused names n d made ws false why is e = absurd cc
refused names n d made ws true why is e =
    let here : cond (is_skipped ws) (Ok d) (cond (is_section ws) (read_heading n d (heading_at ws)) (read_in names n d.phase d ws)) ≡ read_heading n d (heading_at (codes "%session" ∷ [])) = rw is refl in
    let bad = sym here ∙ e in
    let none = sym (ap (read_heading n d) session_no_heading) ∙ bad in
    absurd cc

calm_by : (names : Names) (n : ℕ) (line : List ℕ) (d made : Draft) (b : Bool) → stops until.Session line ≡ b → read_line names n line d ≡ Ok made → b ≡ false
unfolding read_line
calm_by names n line d made true is e = absurd (refused names n d made (words line) (is_plain line) _ (alone_is (codes "%session") (words line) is) e)
calm_by names n line d made false is e = refl

calm_step : (names : Names) (n : ℕ) (l : List ℕ) (ls : Words) (d m : Draft) (r : Result Draft TextFault) → read_line names n l d ≡ r → ok_then r (λ made. read_lines (read_line names) (suc n) ls made) ≡ Ok m
    → ((made : Draft) → read_lines (read_line names) (suc n) ls made ≡ Ok m → Each NoSession ls) → Each NoSession (l ∷ ls)
calm_step names n l ls d m (Ok made) is e f = (calm_by names n l d made (stops until.Session l) refl is, f made e)
calm_step names n l ls d m (Err why) is e f = absurd cc

-- lines that are read
pub read_no_session : (names : Names) (ls : Words) (n : ℕ) (d m : Draft) → read_lines (read_line names) n ls d ≡ Ok m → Each NoSession ls
unfolding read_lines
read_no_session names [] n d m e = tt
read_no_session names (l ∷ ls) n d m e = calm_step names n l ls d m (read_line names n l d) refl e (λ made g. read_no_session names ls (suc n) made m g)

-- ---- places

bytes_passed : (test : List ℕ → Bool) (k : ℕ) (ls more : Words) → Each (λ (l : List ℕ). test l ≡ false) ls → bytes_before test k (ls ++ more) ≡ bytes_before test (k + length (joined ls)) more
unfolding bytes_before
bytes_passed test k [] more h = let at : k ≡ k + 0 = omega arith in ap (λ n. bytes_before test n more) at
bytes_passed test k (l ∷ ls) more h =
    let first : test l ≡ false = h.0 in
    let at : (k + (length l + 1)) + length (joined ls) ≡ k + length (joined (l ∷ ls)) = omega (arith, length-append l (10 ∷ []), length-append (l ++ 10 ∷ []) (joined ls)) in
    rw first (bytes_passed test (k + (length l + 1)) ls more h.1 ∙ ap (λ n. bytes_before test n more) at)

joined_length : (laws : TextLaws) (text : List ℕ) → (length (joined (lines text)) ≡ length text) ⊎ (length (joined (lines text)) ≡ length text + 1)
joined_length laws text = elim (laws.spelled.pieces.lines_joined text) [
  | inl e ↦ inl (ap length e)
  | inr e ↦ inr (ap length e ∙ length-append text (10 ∷ []))
]

joined_both : (xs ys : Words) → length (joined (xs ++ ys)) ≡ length (joined xs) + length (joined ys)
joined_both [] ys = omega arith
joined_both (x ∷ xs) ys = omega (arith, joined_both xs ys, length-append (x ++ 10 ∷ []) (joined (xs ++ ys)), length-append (x ++ 10 ∷ []) (joined xs))

one_byte : lines (100 ∷ []) ≡ (100 ∷ []) ∷ []
unfolding lines
one_byte = refl

either_length : (n m j : ℕ) → (n ≡ m) ⊎ (n ≡ m + 1) → (n + j ≡ m + 1) ⊎ (n + j ≡ (m + 1) + 1) → j ≡ 2 → n ≡ m
either_length n m j (inl e) q is = e
either_length n m j (inr e) (inl f) is = absurd (omega (arith, e, f, is))
either_length n m j (inr e) (inr f) is = absurd (omega (arith, e, f, is))

-- the lines of a text that ends with a line feed have its length
whole_length : (laws : TextLaws) (text : List ℕ) → IsWhole text → length (joined (lines text)) ≡ length text
whole_length laws text h =
    let more = text ++ 100 ∷ [] in
    let both : length (joined (lines more)) ≡ length (joined (lines text)) + length (joined (lines (100 ∷ []))) = ap (λ (ls : Words). length (joined ls)) (h (100 ∷ [])) ∙ joined_both (lines text) (lines (100 ∷ [])) in
    let last : length (joined (lines (100 ∷ []))) ≡ 2 = ap (λ (ls : Words). length (joined ls)) one_byte in
    let count : length more ≡ length text + 1 = length-append text (100 ∷ []) in
    let second : (length (joined (lines text)) + length (joined (lines (100 ∷ []))) ≡ length text + 1) ⊎ (length (joined (lines text)) + length (joined (lines (100 ∷ []))) ≡ (length text + 1) + 1) = elim (joined_length laws more) [
      | inl e ↦ inl (sym both ∙ e ∙ count)
      | inr e ↦ inr (sym both ∙ e ∙ ap (λ n. n + 1) count)
    ] in
    either_length (length (joined (lines text))) (length text) (length (joined (lines (100 ∷ [])))) (joined_length laws text) second last

no_lines_left : (test : List ℕ → Bool) (k : ℕ) → bytes_before test k [] ≡ k
unfolding bytes_before
no_lines_left test k = refl

-- no line stops: the place is the text's end
pub place_end : (laws : TextLaws) (test : List ℕ → Bool) (text : List ℕ) → Each (λ (l : List ℕ). test l ≡ false) (lines text) → place_of test text ≡ length text
place_end laws test text h =
    let all : bytes_before test 0 (lines text) ≡ 0 + length (joined (lines text)) = ap (bytes_before test 0) (sym (append-nil (lines text))) ∙ bytes_passed test 0 (lines text) [] h ∙ no_lines_left test (0 + length (joined (lines text))) in
    elim (joined_length laws text) [
      | inl e ↦ omega (arith, all, e)
      | inr e ↦ omega (arith, all, e)
    ]

-- what stands from the first line that stops on, if there is one
abbrev pub Begins : (List ℕ → Bool) → List ℕ → Type 0
Begins test text = (lines text ≡ []) ⊎ ((l : List ℕ) × (more : Words) × (lines text ≡ l ∷ more) × (test l ≡ true))

met : (test : List ℕ → Bool) (k : ℕ) (l : List ℕ) (ls : Words) → test l ≡ true → bytes_before test k (l ∷ ls) ≡ k
unfolding bytes_before
met test k l ls e = rw e refl

begins_at : (test : List ℕ → Bool) (k : ℕ) (text : List ℕ) → Begins test text → bytes_before test k (lines text) ≡ k
begins_at test k text (inl e) = ap (bytes_before test k) e ∙ no_lines_left test k
begins_at test k text (inr h) = ap (bytes_before test k) h.2 ∙ met test k h.0 h.1 h.3

pub place_behind : (laws : TextLaws) (test : List ℕ → Bool) (a b : List ℕ) → IsWhole a → Each (λ (l : List ℕ). test l ≡ false) (lines a) → Begins test b → place_of test (a ++ b) ≡ length a
place_behind laws test a b whole h i =
    let at : bytes_before test 0 (lines (a ++ b)) ≡ 0 + length (joined (lines a)) = ap (bytes_before test 0) (whole b) ∙ bytes_passed test 0 (lines a) (lines b) h ∙ begins_at test (0 + length (joined (lines a))) b i in
    omega (arith, at, whole_length laws a whole, length-append a b)
