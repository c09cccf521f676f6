-- The lines that write a table say the forms of its rows.
use Rattle.std.proofs.Common.{◌≡◌, ℕ, ℤ, zero, suc, ◌<◌, ◌^◌, Bool, true, false, List, [], ◌∷◌, ◌++◌, length, map, Option, Some, None, refl, sym, ap, subst, ◌∙◌, arith, append_assoc}
use Rattle.std.specs.Prelude.{slice_get, codes}
use Rattle.std.specs.Str.{bytes_eq}
use Rattle.std.specs.Fmt.{signed_decimal}
use Rattle.std.specs.List.{flat_map, list_all}
use Rattle.std.proofs.lemmas.List.{append-nil, map-append}
use lib.Signed.{mag}
use Rattle.lists.proofs.Bools.{bytes_same}
use Rattle.lists.proofs.Eaches.{each_at}
use Rattle.lists.proofs.Places.{get_some}
use Rattle.text_lines.specs.Lines.{lines}
use Rattle.text_lines.specs.Words.{words, is_name, is_plain, is_mark, is_word_byte, is_letter, is_name_byte}
use Rattle.text_lines.specs.Reading.{said, is_skipped}
use Rattle.text_lines.specs.Laws.{Says, LinesAreSpelled}
use Rattle.text_lines.specs.Written.{IsWord}
use Rattle.trace_ops.specs.declared.trace.Kind.{Kind}
use Rattle.trace_ops.specs.declared.trace.Kind.TheVariants as kind
use Rattle.trace_ops.specs.declared.table.ShapeOf.{ShapeOf}
use Rattle.trace_ops.specs.declared.table.ShapeOf.TheVariants as shape
use Rattle.trace_ops.specs.declared.table.SizeRow.{SizeRow}
use Rattle.trace_ops.specs.declared.table.FieldRow.{FieldRow}
use Rattle.trace_ops.specs.declared.table.ArrayRow.{ArrayRow}
use Rattle.trace_ops.specs.declared.table.CallRow.{CallRow}
use Rattle.trace_ops.specs.declared.table.PrebuiltRow.{PrebuiltRow}
use Rattle.trace_ops.specs.declared.table.Initial.{Initial}
use Rattle.trace_ops.specs.declared.table.Initial.TheVariants as initial
use Rattle.trace_ops.specs.declared.table.Table.{Table}
use Rattle.descr_table.specs.declared.form.Form.{Form}
use Rattle.descr_table.specs.declared.form.Form.TheVariants.{Function}
use Rattle.descr_table.specs.declared.form.Given.TheVariants as given
use Rattle.descr_table.specs.declared.form.Part.{Part}
use Rattle.descr_table.specs.Form.{form_at}
use Rattle.descr_table.specs.Words.{given_of}
use Rattle.descr_table.specs.Spelling.{kind_letter, kind_word, kinds_word, result_word, immutable_words, vtable_words, listed_words, SpellsParts, SpellsItems, Spells, IsNameOrNone, IsReadName, IsForm}
use Rattle.descr_table.specs.Names.{size_name, field_name, array_name, field_name_in, array_name_in, size_name_in, fields_in}
use Rattle.descr_table.specs.Writing.{word_text, head_text, vtable_text, immutable_text, of_text, args_text, gives_text, names_text, list_text, value_text, part_text, parts_text, more_items, items_text, body_text, size_line, array_line, field_line, call_line, function_line, prebuilt_line, size_line_of, array_line_of, shape_line}
use Rattle.descr_table.proofs.Again.{form_again}
use Rattle.descr_table.proofs.Readable.{Each, Reads, Writes, IsCall, Holds, HoldFields, HasBody, IsRoot, IsSize, IsReadable}
use Rattle.descr_table.proofs.RowForms.{size_form, size_forms, array_form, array_forms, shape_forms, field_form, call_form, value_form, parts_form, body_form, root_form, one}
use Rattle.descr_table.proofs.RootsBack.{root_names, name_of}

abbrev Names : Type 0
Names = List (List ℕ)

-- ---- lines and blocks of lines

pub record Line (body : List ℕ) (f : Form) : Type 0 where
  pub plain : is_plain body ≡ true
  pub said_is : said form_at body ≡ one f

pub record Block (text : List ℕ) (fs : List Form) : Type 0 where
  pub lines_of : Names
  pub lines_are : (rest : List ℕ) → lines (text ++ rest) ≡ lines_of ++ lines rest
  pub said_are : map (said form_at) lines_of ≡ map one fs

pub block_nothing : Block [] []
block_nothing = record { lines_of = []; lines_are = λ rest. refl; said_are = refl }

pub block_both : (a b : List ℕ) (fs gs : List Form) → Block a fs → Block b gs → Block (a ++ b) (fs ++ gs)
block_both a b fs gs h i = record {
  lines_of = h.lines_of ++ i.lines_of;
  lines_are = λ rest. ap lines (append_assoc a b rest) ∙ h.lines_are (b ++ rest) ∙ ap (λ (x : Names). h.lines_of ++ x) (i.lines_are rest) ∙ sym (append_assoc h.lines_of i.lines_of (lines rest));
  said_are = map-append (said form_at) h.lines_of i.lines_of ∙ cc (h.said_are, i.said_are) ∙ sym (map-append one fs gs);
}

pub block_map : {X : Type 0} (P : X → Type 0) (text : X → List ℕ) (form : X → Form) → ((x : X) → P x → Block (text x) (form x ∷ [])) → (xs : List X) → Each P xs → Block (flat_map text xs) (map form xs)
block_map P text form f [] h = block_nothing
block_map P text form f (x ∷ xs) h = block_both (text x) (flat_map text xs) (form x ∷ []) (map form xs) (f x h.0) (block_map P text form f xs h.1)

line_as : (a b : List ℕ) (f : Form) → a ≡ b → Line b f → Line a f
line_as a b f e h = subst (λ (x : List ℕ). Line x f) (sym e) h

said_by_words : (body : List ℕ) (ws : Names) (f : Form) → is_plain body ≡ true → words body ≡ ws → is_skipped ws ≡ false → form_at ws ≡ Some f → said form_at body ≡ one f
unfolding said
said_by_words body ws f p w s e = rw (p, w, s, e) refl

-- what stands behind the name of a prebuilt object
pub record Body (t : Table) (n : List ℕ) (of : ShapeOf) (ps : List Initial) : Type 0 where
  pub body_words : Names
  pub says : Says (body_text t of ps) body_words
  pub spells : Spells (codes "prebuilt" ∷ n ∷ body_words) (body_form t n of ps)
  pub is_form : IsForm (body_form t n of ps)

module _ (spelled : LinesAreSpelled) where
  open spelled use {spelling.{name_is_word, integer_is_word, integer_no_name, integer_again}, pieces.{says_nothing, says_both, says_space, says_word, says_mark, says_mark_word, line_says, line_plain, line_then_feed}}

  pub block_line : (body : List ℕ) (f : Form) → Line body f → Block (body ++ 10 ∷ []) (f ∷ [])
  block_line body f h = record {
    lines_of = body ∷ [];
    lines_are = λ rest. ap lines (append_assoc body (10 ∷ []) rest) ∙ line_then_feed body rest h.plain;
    said_are = ap (λ (o : Option (Option Form)). o ∷ []) h.said_is;
  }

  -- a first word, a name, and what stands behind it
  head_line : (key name more : List ℕ) (ws : Names) (f : Form) → IsWord key → is_skipped (key ∷ name ∷ ws) ≡ false → IsWord name → Says more ws → Spells (key ∷ name ∷ ws) f → IsForm f → Line (head_text key name ++ more) f
  unfolding head_text
  head_line key name more ws f k s n m h i =
      let rest : Says ((32 ∷ name) ++ more) ((name ∷ []) ++ ws) = says_both (32 ∷ name) more (name ∷ []) ws (says_word name n) m in
      let e : (key ++ 32 ∷ name) ++ more ≡ key ++ ((32 ∷ name) ++ more) = append_assoc key (32 ∷ name) more in
      let w : words ((key ++ 32 ∷ name) ++ more) ≡ key ∷ name ∷ ws = ap words e ∙ line_says key ((32 ∷ name) ++ more) (name ∷ ws) k rest in
      let p : is_plain ((key ++ 32 ∷ name) ++ more) ≡ true = ap is_plain e ∙ line_plain key ((32 ∷ name) ++ more) (name ∷ ws) k rest in
      record { plain = p; said_is = said_by_words ((key ++ 32 ∷ name) ++ more) (key ∷ name ∷ ws) f p w s (form_again (key ∷ name ∷ ws) f h i) }

  -- ---- fixed words

  key_size : IsWord (codes "size")
  unfolding is_word_byte is_mark
  key_size = record { some = omega arith; bytes = refl; plain = refl }

  key_vtable : IsWord (codes "vtable")
  unfolding is_word_byte is_mark
  key_vtable = record { some = omega arith; bytes = refl; plain = refl }

  key_array : IsWord (codes "array")
  unfolding is_word_byte is_mark
  key_array = record { some = omega arith; bytes = refl; plain = refl }

  key_field : IsWord (codes "field")
  unfolding is_word_byte is_mark
  key_field = record { some = omega arith; bytes = refl; plain = refl }

  key_of : IsWord (codes "of")
  unfolding is_word_byte is_mark
  key_of = record { some = omega arith; bytes = refl; plain = refl }

  key_immutable : IsWord (codes "immutable")
  unfolding is_word_byte is_mark
  key_immutable = record { some = omega arith; bytes = refl; plain = refl }

  key_call : IsWord (codes "calldescr")
  unfolding is_word_byte is_mark
  key_call = record { some = omega arith; bytes = refl; plain = refl }

  key_args : IsWord (codes "args")
  unfolding is_word_byte is_mark
  key_args = record { some = omega arith; bytes = refl; plain = refl }

  key_result : IsWord (codes "result")
  unfolding is_word_byte is_mark
  key_result = record { some = omega arith; bytes = refl; plain = refl }

  key_reads : IsWord (codes "reads")
  unfolding is_word_byte is_mark
  key_reads = record { some = omega arith; bytes = refl; plain = refl }

  key_writes : IsWord (codes "writes")
  unfolding is_word_byte is_mark
  key_writes = record { some = omega arith; bytes = refl; plain = refl }

  key_function : IsWord (codes "function")
  unfolding is_word_byte is_mark
  key_function = record { some = omega arith; bytes = refl; plain = refl }

  key_prebuilt : IsWord (codes "prebuilt")
  unfolding is_word_byte is_mark
  key_prebuilt = record { some = omega arith; bytes = refl; plain = refl }

  key_null : IsWord (codes "NULL")
  unfolding is_word_byte is_mark
  key_null = record { some = omega arith; bytes = refl; plain = refl }

  kind_is_word : (k : Kind) → IsWord (kind_word k)
  unfolding is_word_byte is_mark
  kind_is_word kind.Int = record { some = omega arith; bytes = refl; plain = refl }
  kind_is_word kind.Ref = record { some = omega arith; bytes = refl; plain = refl }

  result_is_word : (k : Option Kind) → IsWord (result_word k)
  unfolding is_word_byte is_mark
  result_is_word None = record { some = omega arith; bytes = refl; plain = refl }
  result_is_word (Some k) = kind_is_word k

  letters_bytes : (ks : List Kind) → list_all is_word_byte (map kind_letter ks) ≡ true
  unfolding is_word_byte is_mark
  letters_bytes [] = refl
  letters_bytes (kind.Int ∷ ks) = letters_bytes ks
  letters_bytes (kind.Ref ∷ ks) = letters_bytes ks

  letters_plain : (ks : List Kind) → is_plain (map kind_letter ks) ≡ true
  letters_plain [] = refl
  letters_plain (kind.Int ∷ ks) = letters_plain ks
  letters_plain (kind.Ref ∷ ks) = letters_plain ks

  kinds_are_word : (ks : List Kind) → IsWord (kinds_word ks)
  unfolding is_word_byte is_mark
  kinds_are_word [] = record { some = omega arith; bytes = refl; plain = refl }
  kinds_are_word (k ∷ ks) = record { some = omega arith; bytes = letters_bytes (k ∷ ks); plain = letters_plain (k ∷ ks) }

  is_bracket : is_mark 91 ≡ true
  unfolding is_mark
  is_bracket = refl

  is_closed : is_mark 93 ≡ true
  unfolding is_mark
  is_closed = refl

  is_comma : is_mark 44 ≡ true
  unfolding is_mark
  is_comma = refl

  is_equals : is_mark 61 ≡ true
  unfolding is_mark
  is_equals = refl

  -- ---- sizes, arrays and fields

  vtable_says : (v : Option (List ℕ)) → IsNameOrNone v → Says (vtable_text v) (vtable_words v)
  unfolding vtable_text
  vtable_says None h = says_nothing
  vtable_says (Some v) h = says_both (32 ∷ codes "vtable") (32 ∷ v) (codes "vtable" ∷ []) (v ∷ []) (says_word (codes "vtable") key_vtable) (says_word v (name_is_word v h))

  pub size_block : (r : SizeRow) → IsSize r → Block (size_line r) (size_form r ∷ [])
  size_block r h = block_line (head_text (codes "size") r.name ++ vtable_text r.vtable) (size_form r)
      (head_line (codes "size") r.name (vtable_text r.vtable) (vtable_words r.vtable) (size_form r) key_size refl (name_is_word r.name h.name) (vtable_says r.vtable h.vtable) refl (h.name, h.vtable))

  pub array_block : (r : ArrayRow) → is_name r.name ≡ true → Block (array_line r) (array_form r ∷ [])
  array_block r h = block_line (head_text (codes "array") r.name ++ word_text (kind_word r.kind)) (array_form r)
      (head_line (codes "array") r.name (word_text (kind_word r.kind)) (kind_word r.kind ∷ []) (array_form r) key_array refl (name_is_word r.name h) (says_word (kind_word r.kind) (kind_is_word r.kind)) refl h)

  size_blocks : (rows : List SizeRow) (k : ℕ) → Each IsSize rows → Block (size_line_of (slice_get rows k)) (size_forms (slice_get rows k))
  size_blocks [] k h = block_nothing
  size_blocks (r ∷ rs) zero h = size_block r h.0
  size_blocks (r ∷ rs) (suc k) h = size_blocks rs k h.1

  array_blocks : (rows : List ArrayRow) (k : ℕ) → Each (λ (r : ArrayRow). is_name r.name ≡ true) rows → Block (array_line_of (slice_get rows k)) (array_forms (slice_get rows k))
  array_blocks [] k h = block_nothing
  array_blocks (r ∷ rs) zero h = array_block r h.0
  array_blocks (r ∷ rs) (suc k) h = array_blocks rs k h.1

  pub shape_blocks : (d : Names) (t : Table) (ss : List ShapeOf) → IsReadable d t → Block (flat_map (λ s. shape_line t s) ss) (flat_map (λ s. shape_forms t s) ss)
  unfolding shape_line
  shape_blocks d t [] h = block_nothing
  shape_blocks d t (shape.Size k ∷ ss) h = block_both (size_line_of (slice_get t.sizes k)) (flat_map (λ s. shape_line t s) ss) (size_forms (slice_get t.sizes k)) (flat_map (λ s. shape_forms t s) ss) (size_blocks t.sizes k h.sizes) (shape_blocks d t ss h)
  shape_blocks d t (shape.Array k ∷ ss) h = block_both (array_line_of (slice_get t.arrays k)) (flat_map (λ s. shape_line t s) ss) (array_forms (slice_get t.arrays k)) (flat_map (λ s. shape_forms t s) ss) (array_blocks t.arrays k h.arrays) (shape_blocks d t ss h)

  size_is_name : (d : Names) (t : Table) (k : ℕ) (row : SizeRow) → slice_get t.sizes k ≡ Some row → IsReadable d t → is_name (size_name t k) ≡ true
  size_is_name d t k row at h = ap (λ o. is_name (size_name_in o)) at ∙ (each_at IsSize t.sizes k row h.sizes at).name

  field_is_name : (d : Names) (t : Table) (k : ℕ) (row : FieldRow) → slice_get t.fields k ≡ Some row → IsReadable d t → is_name (field_name t k) ≡ true
  field_is_name d t k row at h = ap (λ o. is_name (field_name_in o)) at ∙ each_at (λ (r : FieldRow). is_name r.name ≡ true) t.fields k row h.fields at

  array_is_name : (d : Names) (t : Table) (k : ℕ) (row : ArrayRow) → slice_get t.arrays k ≡ Some row → IsReadable d t → is_name (array_name t k) ≡ true
  array_is_name d t k row at h = ap (λ o. is_name (array_name_in o)) at ∙ each_at (λ (r : ArrayRow). is_name r.name ≡ true) t.arrays k row h.arrays at

  of_says : (size : List ℕ) (k : Kind) → IsWord size → Says (of_text size k) (codes "of" ∷ size ∷ kind_word k ∷ [])
  unfolding of_text
  of_says size k h = says_both ((32 ∷ codes "of") ++ (32 ∷ size)) (32 ∷ kind_word k) (codes "of" ∷ size ∷ []) (kind_word k ∷ []) (says_both (32 ∷ codes "of") (32 ∷ size) (codes "of" ∷ []) (size ∷ []) (says_word (codes "of") key_of) (says_word size h)) (says_word (kind_word k) (kind_is_word k))

  immutable_says : (b : Bool) → Says (immutable_text b) (immutable_words b)
  unfolding immutable_text
  immutable_says false = says_nothing
  immutable_says true = says_word (codes "immutable") key_immutable

  pub field_block : (d : Names) (t : Table) → IsReadable d t → (r : FieldRow) → (is_name r.name ≡ true) × (r.size < length t.sizes) → Block (field_line t r) (field_form t r ∷ [])
  field_block d t h r i =
      let size = get_some t.sizes r.size i.1 in
      let named : is_name (size_name t r.size) ≡ true = size_is_name d t r.size size.0 size.1 h in
      let says : Says (of_text (size_name t r.size) r.kind ++ immutable_text r.immutable) ((codes "of" ∷ size_name t r.size ∷ kind_word r.kind ∷ []) ++ immutable_words r.immutable) =
      says_both (of_text (size_name t r.size) r.kind) (immutable_text r.immutable) (codes "of" ∷ size_name t r.size ∷ kind_word r.kind ∷ []) (immutable_words r.immutable) (of_says (size_name t r.size) r.kind (name_is_word (size_name t r.size) named)) (immutable_says r.immutable) in
      block_line ((head_text (codes "field") r.name ++ of_text (size_name t r.size) r.kind) ++ immutable_text r.immutable) (field_form t r)
      (line_as ((head_text (codes "field") r.name ++ of_text (size_name t r.size) r.kind) ++ immutable_text r.immutable) (head_text (codes "field") r.name ++ (of_text (size_name t r.size) r.kind ++ immutable_text r.immutable)) (field_form t r) (append_assoc (head_text (codes "field") r.name) (of_text (size_name t r.size) r.kind) (immutable_text r.immutable))
      (head_line (codes "field") r.name (of_text (size_name t r.size) r.kind ++ immutable_text r.immutable) ((codes "of" ∷ size_name t r.size ∷ kind_word r.kind ∷ []) ++ immutable_words r.immutable) (field_form t r) key_field refl (name_is_word r.name i.0) says refl (i.0, named)))

  -- ---- calls and functions

  args_say : (ks : List Kind) → Says (args_text ks) (codes "args" ∷ kinds_word ks ∷ [])
  unfolding args_text
  args_say ks = says_both (32 ∷ codes "args") (32 ∷ kinds_word ks) (codes "args" ∷ []) (kinds_word ks ∷ []) (says_word (codes "args") key_args) (says_word (kinds_word ks) (kinds_are_word ks))

  gives_say : (k : Option Kind) → Says (gives_text k) (codes "result" ∷ result_word k ∷ [])
  unfolding gives_text
  gives_say k = says_both (32 ∷ codes "result") (32 ∷ result_word k) (codes "result" ∷ []) (result_word k ∷ []) (says_word (codes "result") key_result) (says_word (result_word k) (result_is_word k))

  names_say : (t : Table) (ns : List ℕ) → Each (λ f. is_name (field_name t f) ≡ true) ns → Says (names_text t ns) (map (λ f. field_name t f) ns)
  names_say t [] h = says_nothing
  names_say t (n ∷ ns) h = says_both (32 ∷ field_name t n) (names_text t ns) (field_name t n ∷ []) (map (λ f. field_name t f) ns) (says_word (field_name t n) (name_is_word (field_name t n) h.0)) (names_say t ns h.1)

  list_says : (t : Table) (key : List ℕ) (ns : List ℕ) → IsWord key → Each (λ f. is_name (field_name t f) ≡ true) ns → Says (list_text t key ns) (listed_words key (map (λ f. field_name t f) ns))
  unfolding list_text
  list_says t key [] k h = says_nothing
  list_says t key (n ∷ ns) k h = says_both (32 ∷ key) (names_text t (n ∷ ns)) (key ∷ []) (map (λ f. field_name t f) (n ∷ ns)) (says_word key k) (names_say t (n ∷ ns) h)

  regroup : (h a g r w : List ℕ) → (((h ++ a) ++ g) ++ r) ++ w ≡ h ++ (a ++ (g ++ (r ++ w)))
  regroup h a g r w = simp append_assoc

  reads_named : (d : Names) (t : Table) (fs : List ℕ) → Each (Reads t.fields) fs → IsReadable d t → Each (λ f. is_name (field_name t f) ≡ true) fs
  reads_named d t [] h i = tt
  reads_named d t (f ∷ fs) h i = (field_is_name d t f h.0.0 h.0.1 i, reads_named d t fs h.1 i)

  writes_named : (d : Names) (t : Table) (fs : List ℕ) → Each (Writes t.fields) fs → IsReadable d t → Each (λ f. is_name (field_name t f) ≡ true) fs
  writes_named d t [] h i = tt
  writes_named d t (f ∷ fs) h i = (field_is_name d t f h.0.0 h.0.1 i, writes_named d t fs h.1 i)

  read_names : (d : Names) (t : Table) (fs : List ℕ) → Each (Reads t.fields) fs → IsReadable d t → Each IsReadName (map (λ f. field_name t f) fs)
  read_names d t [] h i = tt
  read_names d t (f ∷ fs) h i = ((ap (λ o. bytes_eq (field_name_in o) (codes "writes")) h.0.1 ∙ h.0.2, field_is_name d t f h.0.0 h.0.1 i), read_names d t fs h.1 i)

  write_names : (d : Names) (t : Table) (fs : List ℕ) → Each (Writes t.fields) fs → IsReadable d t → Each (λ n. is_name n ≡ true) (map (λ f. field_name t f) fs)
  write_names d t [] h i = tt
  write_names d t (f ∷ fs) h i = (field_is_name d t f h.0.0 h.0.1 i, write_names d t fs h.1 i)

  pub call_block : (d : Names) (t : Table) → IsReadable d t → (r : CallRow) → IsCall t.fields r → Block (call_line t r) (call_form t r ∷ [])
  call_block d t h r c =
      let head = head_text (codes "calldescr") r.name in
      let args = args_text r.args in
      let gives = gives_text r.result in
      let reads = list_text t (codes "reads") r.reads in
      let writes = list_text t (codes "writes") r.writes in
      let read_words = listed_words (codes "reads") (map (λ f. field_name t f) r.reads) in
      let write_words = listed_words (codes "writes") (map (λ f. field_name t f) r.writes) in
      let lists : Says (reads ++ writes) (read_words ++ write_words) = says_both reads writes read_words write_words (list_says t (codes "reads") r.reads key_reads (reads_named d t r.reads c.reads h)) (list_says t (codes "writes") r.writes key_writes (writes_named d t r.writes c.writes h)) in
      let behind : Says (gives ++ (reads ++ writes)) ((codes "result" ∷ result_word r.result ∷ []) ++ (read_words ++ write_words)) = says_both gives (reads ++ writes) (codes "result" ∷ result_word r.result ∷ []) (read_words ++ write_words) (gives_say r.result) lists in
      let all : Says (args ++ (gives ++ (reads ++ writes))) ((codes "args" ∷ kinds_word r.args ∷ []) ++ ((codes "result" ∷ result_word r.result ∷ []) ++ (read_words ++ write_words))) = says_both args (gives ++ (reads ++ writes)) (codes "args" ∷ kinds_word r.args ∷ []) ((codes "result" ∷ result_word r.result ∷ []) ++ (read_words ++ write_words)) (args_say r.args) behind in
      block_line ((((head ++ args) ++ gives) ++ reads) ++ writes) (call_form t r)
      (line_as ((((head ++ args) ++ gives) ++ reads) ++ writes) (head ++ (args ++ (gives ++ (reads ++ writes)))) (call_form t r) (regroup head args gives reads writes)
      (head_line (codes "calldescr") r.name (args ++ (gives ++ (reads ++ writes))) ((codes "args" ∷ kinds_word r.args ∷ []) ++ ((codes "result" ∷ result_word r.result ∷ []) ++ (read_words ++ write_words))) (call_form t r) key_call refl (name_is_word r.name c.name) all refl (c.name, read_names d t r.reads c.reads h, write_names d t r.writes c.writes h)))

  pub function_block : (n : List ℕ) → is_name n ≡ true → Block (function_line n) (Function n ∷ [])
  function_block n h = block_line (head_text (codes "function") n) (Function n)
      (line_as (head_text (codes "function") n) (head_text (codes "function") n ++ []) (Function n) (sym (append-nil (head_text (codes "function") n)))
      (head_line (codes "function") n [] [] (Function n) key_function refl (name_is_word n h) says_nothing refl h))

  -- ---- prebuilt objects

  root_is_name : (t : Table) (k : ℕ) (n : List ℕ) → slice_get (root_names t) k ≡ Some n → IsReadable (root_names t) t → is_name n ≡ true
  root_is_name t k n e h = each_at (λ (x : List ℕ). is_name x ≡ true) (root_names t) k n (all_named t.prebuilts h.prebuilts) e where
    all_named : (rows : List PrebuiltRow) → Each (IsRoot (root_names t) t.sizes t.fields t.arrays) rows → Each (λ (x : List ℕ). is_name x ≡ true) (map (λ (r : PrebuiltRow). r.name) rows)
    all_named [] i = tt
    all_named (r ∷ rs) i = (i.0.name, all_named rs i.1)

  value_is_word : (t : Table) (k : Kind) (p : Initial) → IsReadable (root_names t) t → Holds (root_names t) k p → IsWord (value_text t p)
  unfolding value_text
  value_is_word t kind.Int (initial.Int z) i h = integer_is_word z (record { sfits = h })
  value_is_word t kind.Int initial.Null i h = absurd h
  value_is_word t kind.Int (initial.Ptr j) i h = absurd h
  value_is_word t kind.Ref (initial.Int z) i h = absurd h
  value_is_word t kind.Ref initial.Null i h = key_null
  value_is_word t kind.Ref (initial.Ptr j) i h = subst IsWord (sym (name_of t j h.0 h.1)) (name_is_word h.0 (root_is_name t j h.0 h.1 i))

  null_is_name : is_name (codes "NULL") ≡ true
  unfolding is_name is_name_byte is_letter
  null_is_name = refl

  not_null : (b : Bool) (z : ℤ) → mag z < 2 ^ 63 → bytes_eq (signed_decimal z) (codes "NULL") ≡ b → b ≡ false
  not_null false z h e = refl
  not_null true z h e =
      let bad : true ≡ false = sym null_is_name ∙ sym (ap is_name (bytes_same (signed_decimal z) (codes "NULL") e)) ∙ integer_no_name z (record { sfits = h }) in
      absurd cc

  name_given : (n : List ℕ) → bytes_eq n (codes "NULL") ≡ false → is_name n ≡ true → given_of n ≡ Some (given.Name n)
  unfolding given_of
  name_given n e h = rw (e, h) refl

  integer_given : (z : ℤ) → mag z < 2 ^ 63 → given_of (signed_decimal z) ≡ Some (given.Int z)
  unfolding given_of
  integer_given z h = rw (not_null (bytes_eq (signed_decimal z) (codes "NULL")) z h refl, integer_no_name z (record { sfits = h }), integer_again z (record { sfits = h })) refl

  given_back : (t : Table) (k : Kind) (p : Initial) → IsReadable (root_names t) t → Holds (root_names t) k p → given_of (value_text t p) ≡ Some (value_form t p)
  unfolding value_text given_of
  given_back t kind.Int (initial.Int z) i h = integer_given z h
  given_back t kind.Int initial.Null i h = absurd h
  given_back t kind.Int (initial.Ptr j) i h = absurd h
  given_back t kind.Ref (initial.Int z) i h = absurd h
  given_back t kind.Ref initial.Null i h = refl
  given_back t kind.Ref (initial.Ptr j) i h = subst (λ (n : List ℕ). given_of n ≡ Some (given.Name n)) (sym (name_of t j h.0 h.1)) (name_given h.0 h.2 (root_is_name t j h.0 h.1 i))

  abbrev part_words : Table → List ℕ → List Initial → Names
  part_words t [] ps = []
  part_words t (f ∷ fs) [] = []
  part_words t (f ∷ fs) (p ∷ ps) = field_name t f ∷ codes "=" ∷ value_text t p ∷ part_words t fs ps

  parts_say : (t : Table) (fs : List ℕ) (ps : List Initial) → IsReadable (root_names t) t → HoldFields (root_names t) t.fields fs ps → Says (parts_text t fs ps) (part_words t fs ps)
  unfolding parts_text part_text
  parts_say t [] [] i h = says_nothing
  parts_say t [] (p ∷ ps) i h = absurd h
  parts_say t (f ∷ fs) [] i h = absurd h
  parts_say t (f ∷ fs) (p ∷ ps) i h =
      let name : IsWord (field_name t f) = name_is_word (field_name t f) (field_is_name (root_names t) t f h.0.0 h.0.1 i) in
      let value : IsWord (value_text t p) = value_is_word t h.0.0.kind p i h.0.2 in
      let part : Says ((32 ∷ field_name t f) ++ (61 ∷ value_text t p)) (field_name t f ∷ codes "=" ∷ value_text t p ∷ []) = says_both (32 ∷ field_name t f) (61 ∷ value_text t p) (field_name t f ∷ []) (codes "=" ∷ value_text t p ∷ []) (says_word (field_name t f) name) (says_mark_word 61 (value_text t p) is_equals value) in
      let e : ((32 ∷ field_name t f) ++ 61 ∷ []) ++ value_text t p ≡ (32 ∷ field_name t f) ++ (61 ∷ value_text t p) = append_assoc (32 ∷ field_name t f) (61 ∷ []) (value_text t p) in
      let first : Says (((32 ∷ field_name t f) ++ 61 ∷ []) ++ value_text t p) (field_name t f ∷ codes "=" ∷ value_text t p ∷ []) = subst (λ (x : List ℕ). Says x (field_name t f ∷ codes "=" ∷ value_text t p ∷ [])) (sym e) part in
      says_both (((32 ∷ field_name t f) ++ 61 ∷ []) ++ value_text t p) (parts_text t fs ps) (field_name t f ∷ codes "=" ∷ value_text t p ∷ []) (part_words t fs ps) first (parts_say t fs ps i h.1)

  parts_spelled : (t : Table) (fs : List ℕ) (ps : List Initial) → IsReadable (root_names t) t → HoldFields (root_names t) t.fields fs ps → SpellsParts (part_words t fs ps) (parts_form t fs ps)
  parts_spelled t [] [] i h = tt
  parts_spelled t [] (p ∷ ps) i h = absurd h
  parts_spelled t (f ∷ fs) [] i h = absurd h
  parts_spelled t (f ∷ fs) (p ∷ ps) i h = (refl, refl, given_back t h.0.0.kind p i h.0.2, parts_spelled t fs ps i h.1)

  parts_named : (t : Table) (fs : List ℕ) (ps : List Initial) → IsReadable (root_names t) t → HoldFields (root_names t) t.fields fs ps → Each (λ (p : Part). is_name p.name ≡ true) (parts_form t fs ps)
  parts_named t [] [] i h = tt
  parts_named t [] (p ∷ ps) i h = absurd h
  parts_named t (f ∷ fs) [] i h = absurd h
  parts_named t (f ∷ fs) (p ∷ ps) i h = (field_is_name (root_names t) t f h.0.0 h.0.1 i, parts_named t fs ps i h.1)

  abbrev more_words : Table → List Initial → Names
  more_words t [] = []
  more_words t (x ∷ xs) = codes "," ∷ value_text t x ∷ more_words t xs

  more_say : (t : Table) (k : Kind) (xs : List Initial) → IsReadable (root_names t) t → Each (Holds (root_names t) k) xs → Says (more_items t xs) (more_words t xs)
  more_say t k [] i h = says_nothing
  more_say t k (x ∷ xs) i h =
      let one_item : Says ((44 ∷ []) ++ (32 ∷ value_text t x)) (codes "," ∷ value_text t x ∷ []) = says_both (44 ∷ []) (32 ∷ value_text t x) (codes "," ∷ []) (value_text t x ∷ []) (says_mark 44 is_comma) (says_word (value_text t x) (value_is_word t k x i h.0)) in
      says_both ((44 ∷ 32 ∷ []) ++ value_text t x) (more_items t xs) (codes "," ∷ value_text t x ∷ []) (more_words t xs) one_item (more_say t k xs i h.1)

  items_spelled : (t : Table) (k : Kind) (x : Initial) (xs : List Initial) → IsReadable (root_names t) t → Holds (root_names t) k x → Each (Holds (root_names t) k) xs → SpellsItems (value_text t x ∷ (more_words t xs ++ codes "]" ∷ [])) (value_form t x ∷ map (λ p. value_form t p) xs)
  items_spelled t k x [] i h hs = (given_back t k x i h, refl, refl)
  items_spelled t k x (y ∷ ys) i h hs = (given_back t k x i h, refl, items_spelled t k y ys i hs.0 hs.1)

  regroup_items : (w v m c : List ℕ) → ((w ++ 32 ∷ 91 ∷ []) ++ (v ++ m)) ++ c ≡ w ++ ((32 ∷ []) ++ ((91 ∷ v) ++ (m ++ c)))
  regroup_items w v m c = append_assoc (w ++ 32 ∷ 91 ∷ []) (v ++ m) c ∙ append_assoc w (32 ∷ 91 ∷ []) ((v ++ m) ++ c) ∙ ap (λ (x : List ℕ). w ++ 32 ∷ 91 ∷ x) (append_assoc v m c)

  items_body : (t : Table) (n : List ℕ) (k : ℕ) (r : ArrayRow) (ps : List Initial) → IsReadable (root_names t) t → is_name n ≡ true → slice_get t.arrays k ≡ Some r → Each (Holds (root_names t) r.kind) ps → Body t n (shape.Array k) ps
  unfolding body_text items_text
  items_body t n k r [] i h at hs =
      let named : is_name (array_name t k) ≡ true = array_is_name (root_names t) t k r at i in
      let open_ : Says (32 ∷ 91 ∷ []) (codes "[" ∷ []) = says_both (32 ∷ []) (91 ∷ []) [] (codes "[" ∷ []) says_space (says_mark 91 is_bracket) in
      let front : Says ((32 ∷ array_name t k) ++ 32 ∷ 91 ∷ []) (array_name t k ∷ codes "[" ∷ []) = says_both (32 ∷ array_name t k) (32 ∷ 91 ∷ []) (array_name t k ∷ []) (codes "[" ∷ []) (says_word (array_name t k) (name_is_word (array_name t k) named)) open_ in
      let inner : Says (((32 ∷ array_name t k) ++ 32 ∷ 91 ∷ []) ++ []) (array_name t k ∷ codes "[" ∷ []) = says_both ((32 ∷ array_name t k) ++ 32 ∷ 91 ∷ []) [] (array_name t k ∷ codes "[" ∷ []) [] front says_nothing in
      record {
        body_words = array_name t k ∷ codes "[" ∷ codes "]" ∷ [];
        says = says_both (((32 ∷ array_name t k) ++ 32 ∷ 91 ∷ []) ++ []) (93 ∷ []) (array_name t k ∷ codes "[" ∷ []) (codes "]" ∷ []) inner (says_mark 93 is_closed);
        spells = (codes "]" ∷ [], refl, refl);
        is_form = (h, named);
      }
  items_body t n k r (x ∷ xs) i h at hs =
      let named : is_name (array_name t k) ≡ true = array_is_name (root_names t) t k r at i in
      let w : List ℕ = 32 ∷ array_name t k in
      let v = value_text t x in
      let m = more_items t xs in
      let tail : Says (m ++ 93 ∷ []) (more_words t xs ++ codes "]" ∷ []) = says_both m (93 ∷ []) (more_words t xs) (codes "]" ∷ []) (more_say t r.kind xs i hs.1) (says_mark 93 is_closed) in
      let inner : Says ((91 ∷ v) ++ (m ++ 93 ∷ [])) (codes "[" ∷ v ∷ (more_words t xs ++ codes "]" ∷ [])) = says_both (91 ∷ v) (m ++ 93 ∷ []) (codes "[" ∷ v ∷ []) (more_words t xs ++ codes "]" ∷ []) (says_mark_word 91 v is_bracket (value_is_word t r.kind x i hs.0)) tail in
      let spaced_ : Says ((32 ∷ []) ++ ((91 ∷ v) ++ (m ++ 93 ∷ []))) (codes "[" ∷ v ∷ (more_words t xs ++ codes "]" ∷ [])) = says_both (32 ∷ []) ((91 ∷ v) ++ (m ++ 93 ∷ [])) [] (codes "[" ∷ v ∷ (more_words t xs ++ codes "]" ∷ [])) says_space inner in
      let all : Says (w ++ ((32 ∷ []) ++ ((91 ∷ v) ++ (m ++ 93 ∷ [])))) (array_name t k ∷ codes "[" ∷ v ∷ (more_words t xs ++ codes "]" ∷ [])) = says_both w ((32 ∷ []) ++ ((91 ∷ v) ++ (m ++ 93 ∷ []))) (array_name t k ∷ []) (codes "[" ∷ v ∷ (more_words t xs ++ codes "]" ∷ [])) (says_word (array_name t k) (name_is_word (array_name t k) named)) spaced_ in
      record {
        body_words = array_name t k ∷ codes "[" ∷ v ∷ (more_words t xs ++ codes "]" ∷ []);
        says = subst (λ (y : List ℕ). Says y (array_name t k ∷ codes "[" ∷ v ∷ (more_words t xs ++ codes "]" ∷ []))) (sym (regroup_items w v m (93 ∷ []))) all;
        spells = (v ∷ (more_words t xs ++ codes "]" ∷ []), refl, items_spelled t r.kind x xs i hs.0 hs.1);
        is_form = (h, named);
      }

  object_body : (t : Table) (n : List ℕ) (k : ℕ) (r : SizeRow) (ps : List Initial) → IsReadable (root_names t) t → is_name n ≡ true → slice_get t.sizes k ≡ Some r → HoldFields (root_names t) t.fields r.fields ps → Body t n (shape.Size k) ps
  unfolding body_text
  object_body t n k r ps i h at hs =
      let named : is_name (size_name t k) ≡ true = size_is_name (root_names t) t k r at i in
      let listed : fields_in (slice_get t.sizes k) ≡ r.fields = ap fields_in at in
      let held : HoldFields (root_names t) t.fields (fields_in (slice_get t.sizes k)) ps = subst (λ (js : List ℕ). HoldFields (root_names t) t.fields js ps) (sym listed) hs in
      let fs = fields_in (slice_get t.sizes k) in
      record {
        body_words = size_name t k ∷ part_words t fs ps;
        says = says_both (32 ∷ size_name t k) (parts_text t fs ps) (size_name t k ∷ []) (part_words t fs ps) (says_word (size_name t k) (name_is_word (size_name t k) named)) (parts_say t fs ps i held);
        spells = (part_words t fs ps, refl, parts_spelled t fs ps i held);
        is_form = (h, named, parts_named t fs ps i held);
      }

  root_body : (t : Table) (n : List ℕ) (of : ShapeOf) (ps : List Initial) → IsReadable (root_names t) t → is_name n ≡ true → HasBody (root_names t) t.sizes t.fields t.arrays of ps → Body t n of ps
  root_body t n (shape.Size k) ps i h b = object_body t n k b.0 ps i h b.1 b.2
  root_body t n (shape.Array k) ps i h b = items_body t n k b.0 ps i h b.1 b.2

  pub root_block : (t : Table) → IsReadable (root_names t) t → (r : PrebuiltRow) → IsRoot (root_names t) t.sizes t.fields t.arrays r → Block (prebuilt_line t r) (root_form t r ∷ [])
  root_block t i r h =
      let b = root_body t r.name r.of r.parts i h.name h.body in
      block_line (head_text (codes "prebuilt") r.name ++ body_text t r.of r.parts) (root_form t r)
      (head_line (codes "prebuilt") r.name (body_text t r.of r.parts) b.body_words (root_form t r) key_prebuilt refl (name_is_word r.name h.name) b.says b.spells b.is_form)
