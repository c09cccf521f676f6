-- What holds of the table that lines are read as.
use Rattle.std.proofs.Common.{◌≡◌, ℕ, ℤ, suc, ◌<◌, ◌^◌, Bool, true, false, cond, List, [], ◌∷◌, map, Option, Some, None, Result, Ok, Err, refl, ap, subst, ◌∙◌, arith}
use Rattle.std.specs.Prelude.{codes}
use Rattle.std.specs.Str.{bytes_eq}
use Rattle.std.specs.Result.{IfOk}
use Rattle.std.proofs.lemmas.List.{length-map}
use lib.Signed.{mag}
use Rattle.text_lines.specs.Laws.{LinesAreSpelled}
use Rattle.text_lines.specs.Lines.{lines}
use Rattle.text_lines.specs.Words.{is_name, is_plain, words}
use Rattle.text_lines.specs.Numbers.{integer_of}
use Rattle.lists.specs.Binds.{◌>>=◌}
use Rattle.lists.specs.Refused.{read_lines, ok_then}
use Rattle.text_lines.specs.Reading.{said, is_skipped}
use Rattle.trace_ops.specs.declared.table.PrebuiltRow.{PrebuiltRow}
use Rattle.trace_ops.specs.declared.table.Table.{Table}
use Rattle.descr_table.specs.declared.form.Form.{Form}
use Rattle.descr_table.specs.declared.form.Form.TheVariants.{Size, Field, Array, Call, Function, Object, Items}
use Rattle.descr_table.specs.declared.form.Given.{Given}
use Rattle.descr_table.specs.declared.form.Given.TheVariants as given
use Rattle.descr_table.specs.declared.form.Part.{Part}
use Rattle.descr_table.specs.declared.fault.Refusal.{Refusal}
use Rattle.descr_table.specs.declared.fault.TableFault.{TableFault}
use Rattle.descr_table.specs.declared.known.Known.{Known}
use Rattle.descr_table.specs.Known.{names_of}
use Rattle.descr_table.specs.Form.{form_at}
use Rattle.descr_table.specs.Words.{given_of}
use Rattle.descr_table.specs.Spelling.{SpellsParts, SpellsItems, Spells, IsForm}
use Rattle.descr_table.specs.Meaning.{nothing, refusal, put}
use Rattle.descr_table.specs.Reading.{prebuilt_name, with_defined, defined_name, defined_behind, defined_in, after, read_said, read_line, table_at, Gives}
use Rattle.descr_table.specs.Draft.{noted}
use Rattle.trace_ops.specs.InRange.{IsTableInRange}
use Rattle.descr_table.proofs.Takes.{form_takes}
use Rattle.descr_table.proofs.Noted.{noted_names}
use Rattle.descr_table.proofs.Clear.{clear}
use Rattle.descr_table.proofs.Readable.{Each, IsReadable}
use Rattle.descr_table.proofs.Keeps.{IsRanged, AreRanged}
use Rattle.descr_table.proofs.KeepsRoots.{keeps}
use Rattle.descr_table.proofs.Ranges.{in_range}

abbrev Names : Type 0
Names = List (List ℕ)

-- the table behind a line, and the names behind it
pub record IsKept (d : Names) (s made : Table) (said_here : Option (Option Form)) : Type 0 where
  pub readable : IsReadable d made
  pub names : with_defined (defined_name said_here) (map (λ (r : PrebuiltRow). r.name) s.prebuilts) ≡ map (λ (r : PrebuiltRow). r.name) made.prebuilts

-- the table that the lines are read as, and the names that they define
pub record AreKept (d : Names) (s t : Table) (ls : Names) : Type 0 where
  pub readable : IsReadable d t
  pub names : defined_behind (map (λ (r : PrebuiltRow). r.name) s.prebuilts) ls ≡ map (λ (r : PrebuiltRow). r.name) t.prebuilts

-- ---- a written integer is a word of 64 bits, and a written name isn't NULL

bound : (o : Option ℤ) (v : Given) → (o >>= λ z. Some (given.Int z)) ≡ Some v → ((z : ℤ) → o ≡ Some z → mag z < 2 ^ 63) → IsRanged v
bound None v e f = absurd cc
bound (Some z) v e f = let is : given.Int z ≡ v = cc in subst IsRanged is (f z refl)

module _ (spelled : LinesAreSpelled) where
  open spelled use {spelling.{integer_fits}}

  given_by : (null name : Bool) (w : List ℕ) (v : Given) → bytes_eq w (codes "NULL") ≡ null → cond null (Some given.Null) (cond name (Some (given.Name w)) (integer_of w >>= λ z. Some (given.Int z))) ≡ Some v → IsRanged v
  given_by true name w v n e = let is : given.Null ≡ v = cc in subst IsRanged is tt
  given_by false true w v n e = let is : given.Name w ≡ v = cc in subst IsRanged is n
  given_by false false w v n e = bound (integer_of w) v e (λ z is. (integer_fits w z is).sfits)

  given_ranged : (w : List ℕ) (v : Given) → given_of w ≡ Some v → IsRanged v
  unfolding given_of
  given_ranged w v e = given_by (bytes_eq w (codes "NULL")) (is_name w) w v refl e

  parts_ranged : (ws : Names) (ps : List Part) → SpellsParts ws ps → Each (λ (p : Part). IsRanged p.value) ps
  parts_ranged [] [] h = tt
  parts_ranged [] (p ∷ ps) h = absurd h
  parts_ranged (n ∷ []) ps h = absurd h
  parts_ranged (n ∷ q ∷ []) ps h = absurd h
  parts_ranged (n ∷ q ∷ v ∷ ws) [] h = absurd h
  parts_ranged (n ∷ q ∷ v ∷ ws) (p ∷ ps) h = (given_ranged v p.value h.2, parts_ranged ws ps h.3)

  items_ranged : (ws : Names) (xs : List Given) → SpellsItems ws xs → Each IsRanged xs
  items_ranged ws [] h = tt
  items_ranged [] (x ∷ xs) h = absurd h
  items_ranged (v ∷ []) (x ∷ xs) h = absurd h
  items_ranged (v ∷ m ∷ ws) (x ∷ []) h = (given_ranged v x h.0, tt)
  items_ranged (v ∷ m ∷ ws) (x ∷ y ∷ ys) h = (given_ranged v x h.0, items_ranged ws (y ∷ ys) h.2)

  form_ranged : (ws : Names) (f : Form) → Spells ws f → AreRanged f
  form_ranged ws (Size name vtable) h = tt
  form_ranged ws (Field name size k immutable) h = tt
  form_ranged ws (Array name k) h = tt
  form_ranged ws (Call name args gives reads writes) h = tt
  form_ranged ws (Function name) h = tt
  form_ranged ws (Object name size fields) h = parts_ranged h.0 fields h.2
  form_ranged ws (Items name array items) h = items_ranged h.0 items h.2

  -- ---- one line

  said_by : (plain skipped : Bool) (o : Option Form) (f : Form) → cond plain (cond skipped (Some None) (o >>= λ x. Some (Some x))) None ≡ Some (Some f) → o ≡ Some f
  said_by false skipped o f e = absurd cc
  said_by true true o f e = absurd cc
  said_by true false None f e = absurd cc
  said_by true false (Some x) f e = cc

  said_form : (line : List ℕ) (f : Form) → said form_at line ≡ Some (Some f) → form_at (words line) ≡ Some f
  unfolding said
  said_form line f e = said_by (is_plain line) (is_skipped (words line)) (form_at (words line)) f e

  prebuilt_noted : (f : Form) (k : Known) → with_defined (prebuilt_name f) k.prebuilts ≡ (noted f k).prebuilts
  unfolding noted
  prebuilt_noted (Size name vtable) k = refl
  prebuilt_noted (Field name size kind immutable) k = refl
  prebuilt_noted (Array name kind) k = refl
  prebuilt_noted (Call name args gives reads writes) k = refl
  prebuilt_noted (Function name) k = refl
  prebuilt_noted (Object name size fields) k = refl
  prebuilt_noted (Items name array items) k = refl

  put_kept : (d : Names) (s : Table) (f : Form) → IsForm f → AreRanged f → refusal f d s ≡ None → IsReadable d s → IsKept d s (put f d s) (Some (Some f))
  put_kept d s f i r e h = record {
    readable = keeps f d s i r e h;
    names = prebuilt_noted f (names_of s) ∙ ap (λ (k : Known). k.prebuilts) (noted_names f d s (clear f d s e).new);
  }

  after_kept : (d : Names) (n : ℕ) (s made : Table) (f : Form) (why : Option Refusal) → IsForm f → AreRanged f → refusal f d s ≡ why → after d n f s why ≡ Ok made → IsReadable d s → IsKept d s made (Some (Some f))
  after_kept d n s made f None i r e is h = let is_put : put f d s ≡ made = cc in subst (λ (t : Table). IsKept d s t (Some (Some f))) is_put (put_kept d s f i r e h)
  after_kept d n s made f (Some why) i r e is h = absurd cc

  said_kept : (d : Names) (n : ℕ) (s made : Table) (line : List ℕ) (o : Option (Option Form)) → said form_at line ≡ o → read_said d n s o ≡ Ok made → IsReadable d s → IsKept d s made o
  said_kept d n s made line None e is h = absurd cc
  said_kept d n s made line (Some None) e is h = let same : s ≡ made = cc in subst (λ (t : Table). IsKept d s t (Some None)) same (record { readable = h; names = refl })
  said_kept d n s made line (Some (Some f)) e is h =
      let t = form_takes (words line) f (said_form line f e) in
      after_kept d n s made f (refusal f d s) t.1 (form_ranged (words line) f t.0) refl is h

  line_kept : (d : Names) (n : ℕ) (line : List ℕ) (s made : Table) → read_line d n line s ≡ Ok made → IsReadable d s → IsKept d s made (said form_at line)
  unfolding read_line
  line_kept d n line s made is h = said_kept d n s made line (said form_at line) refl is h

  -- ---- all lines

  one_more : (d : Names) (s made t : Table) (l : List ℕ) (ls : Names) → IsKept d s made (said form_at l) → AreKept d made t ls → AreKept d s t (l ∷ ls)
  unfolding defined_behind
  one_more d s made t l ls here rest = record { readable = rest.readable; names = ap (λ (x : Names). defined_behind x ls) here.names ∙ rest.names }

  step_kept : (d : Names) (n : ℕ) (s t : Table) (l : List ℕ) (ls : Names) (r : Result Table TableFault) → read_line d n l s ≡ r → ok_then r (λ made. read_lines (read_line d) (suc n) ls made) ≡ Ok t → IsReadable d s
      → ((made : Table) → read_lines (read_line d) (suc n) ls made ≡ Ok t → IsReadable d made → AreKept d made t ls) → AreKept d s t (l ∷ ls)
  step_kept d n s t l ls (Ok made) e is h others = let here = line_kept d n l s made e h in one_more d s made t l ls here (others made is here.readable)
  step_kept d n s t l ls (Err why) e is h others = absurd cc

  lines_kept : (d : Names) (ls : Names) (n : ℕ) (s t : Table) → read_lines (read_line d) n ls s ≡ Ok t → IsReadable d s → AreKept d s t ls
  unfolding read_lines defined_behind
  lines_kept d [] n s t is h = let same : s ≡ t = cc in subst (λ (x : Table). AreKept d s x []) same (record { readable = h; names = refl })
  lines_kept d (l ∷ ls) n s t is h = step_kept d n s t l ls (read_line d n l s) refl is h (λ made e i. lines_kept d ls (suc n) made t e i)

  nothing_readable : (d : Names) → IsReadable d nothing
  nothing_readable d = record {
    shapes = (refl, refl);
    listing = tt;
    owned = tt;
    named = λ n. omega arith;
    classes = λ n. omega arith;
    roots = λ n. omega arith;
    sizes = tt;
    fields = tt;
    arrays = tt;
    calls = tt;
    functions = tt;
    prebuilts = tt;
    few_shapes = omega arith;
    few_functions = omega arith;
    few_calls = omega arith;
    bytes = omega arith;
  }

  -- what is read holds what each line keeps, and the names that the text defines are those of its prebuilt objects
  pub readable : (first : ℕ) (text : List ℕ) (t : Table) → table_at first text ≡ Ok t → IsReadable (map (λ (r : PrebuiltRow). r.name) t.prebuilts) t
  unfolding table_at
  readable first text t e =
      let all = lines_kept (defined_in text) (lines text) first nothing t e (nothing_readable (defined_in text)) in
      subst (λ (d : Names). IsReadable d t) all.names all.readable

  pub table_in_range : (first : ℕ) (text : List ℕ) (t : Table) → table_at first text ≡ Ok t → IsTableInRange t
  table_in_range first text t e = in_range (map (λ (r : PrebuiltRow). r.name) t.prebuilts) t (length-map t.prebuilts (λ (r : PrebuiltRow). r.name)) (readable first text t e)

  pub read_in_range : (r : Result Table TableFault) (first : ℕ) (text : List ℕ) → Gives r (table_at first text) → IfOk r IsTableInRange
  read_in_range (Ok t) first text h = table_in_range first text t h
  read_in_range (Err e) first text h = tt
