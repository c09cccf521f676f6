-- A session goes on fitting its set, line by line.
use Rattle.std.proofs.Common.{◌≡◌, ℕ, ◌+◌, ◌<◌, ◌≤◌, ◌^◌, Bool, true, false, cond, ltb, leb, List, [], ◌∷◌, ◌++◌, map, length, Option, Some, None, Result, Ok, Err, refl, sym, ap, subst, ◌∙◌, arith, length-append}
use Rattle.std.specs.Prelude.{◌&&◌, slice_get, option_map}
use Rattle.std.specs.List.{AllZip, list_all, position_or_len}
use Rattle.std.specs.Str.{bytes_eq}
use Rattle.std.proofs.lemmas.Bool.{ltb-true, leb-true, and_parts}
use Rattle.std.proofs.lemmas.Option.{slice_get-map}
use Rattle.std.proofs.lemmas.Slice.Zip.{AllZip-long}
use Rattle.lists.proofs.Eaches.{each_push}
use Rattle.text_lines.specs.Words.{is_name_byte, begins_name, is_name}
use Rattle.text_lines.specs.Names.{number_of, has_name}
use Rattle.text_lines.specs.Reading.{said}
use Rattle.trace_ops.specs.declared.trace.BoxId.{BoxId}
use Rattle.trace_ops.specs.declared.trace.Kind.{Kind}
use Rattle.trace_ops.specs.declared.trace.Kind.TheVariants as kind
use Rattle.trace_ops.specs.declared.trace.Origin.{Origin}
use Rattle.trace_ops.specs.declared.trace.Origin.TheVariants.{Loop, Bridge}
use Rattle.trace_ops.specs.declared.trace.Trace.{Trace}
use Rattle.trace_ops.specs.declared.trace.TraceSet.{TraceSet}
use Rattle.trace_ops.specs.declared.table.What.TheVariants as what
use Rattle.trace_meaning.specs.declared.value.Value.{Value}
use Rattle.trace_meaning.specs.declared.value.Value.TheVariants as value
use Rattle.session_text.specs.declared.fault.Reason.TheVariants.{Name, Twice, Inputs}
use Rattle.session_text.specs.declared.fault.SessionFault.{SessionFault}
use Rattle.session_text.specs.declared.form.Activation.{Activation}
use Rattle.session_text.specs.declared.form.Form.{Form}
use Rattle.session_text.specs.declared.form.Form.TheVariants as form
use Rattle.session_text.specs.declared.session.Line.{Line}
use Rattle.session_text.specs.declared.session.Line.TheVariants as line
use Rattle.session_text.specs.declared.session.SessionText.{SessionText}
use Rattle.session_text.specs.Faults.{bad}
use Rattle.session_text.specs.Form.{form_at}
use Rattle.session_text.specs.Names.{look, loop_name_by, loop_name, bridge_name_by, bridge_name, names_of, is_named}
use Rattle.session_text.specs.Reading.{is_of, fits_inputs, boxes_of, inputs_of, over, with_line, with_start, add_line, add_start, start_in, read_start, step_in, run_in, attach_in, read_form, read_said, read_line}
use Rattle.session_text.specs.Fits.{IsInput, IsStart, IsBridgeOf, LineFits, with_start_of, starts_behind, LinesFit, FitsSet}
use Rattle.session_text.proofs.Firsts.{found_at}
use Rattle.session_text.proofs.FitStart.{IsKnown, AreKnown}
use Rattle.session_text.proofs.FitForm.{FormFits, said_fits}
use Rattle.text_lines.specs.Laws.{LinesAreSpelled}

-- a name has at most 64 letters
name-short : (n : List ℕ) → is_name n ≡ true → length n ≤ 64
unfolding is_name
name-short n e = leb-true (length n) 64 (and_parts (begins_name n && list_all is_name_byte n) (leb (length n) 64) e).1

-- ---- one line more

lines_more : (set : TraceSet) (k : ℕ) (ls : List Line) (l : Line) → LinesFit set k ls → LineFits set (starts_behind k ls) l → LinesFit set k (ls ++ l ∷ [])
unfolding LinesFit starts_behind
lines_more set k [] l h f = (f, tt)
lines_more set k (x ∷ ls) l h f = (h.0, lines_more set (with_start_of x k) ls l h.1 f)

starts_more : (k : ℕ) (ls : List Line) (l : Line) → starts_behind k (ls ++ l ∷ []) ≡ with_start_of l (starts_behind k ls)
unfolding starts_behind
starts_more k [] l = refl
starts_more k (x ∷ ls) l = starts_more (with_start_of x k) ls l

line_fits : (set : TraceSet) (s : SessionText) (l : Line) → FitsSet set s → LineFits set (length s.names) l → ((k : ℕ) → with_start_of l k ≡ k) → length s.lines < 4096 → FitsSet set (with_line s l)
line_fits set s l h f none few = record {
  lines = lines_more set 0 s.lines l h.lines (subst (λ (n : ℕ). LineFits set n l) h.names f);
  names = h.names ∙ sym (none (starts_behind 0 s.lines)) ∙ sym (starts_more 0 s.lines l);
  are_names = h.are_names;
  short_names = h.short_names;
  few_lines = omega (arith, few, length-append s.lines (l ∷ []));
  few_starts = h.few_starts;
}

start_fits : (set : TraceSet) (s : SessionText) (k : ℕ) (a : Activation) → FitsSet set s → is_name a.name ≡ true → IsStart set k a.inputs a.answers → length s.lines < 4096 → length s.names < 16 → FitsSet set (with_start s k a)
start_fits set s k a h named is few room =
    let l : Line = line.Start (length s.names) k a.inputs a.answers in
    let one : length (s.names ++ a.name ∷ []) ≡ length s.names + 1 = length-append s.names (a.name ∷ []) in
    record {
      lines = lines_more set 0 s.lines l h.lines (h.names, is);
      names = one ∙ ap (λ n. n + 1) h.names ∙ sym (starts_more 0 s.lines l);
      are_names = each_push (λ n. is_name n ≡ true) s.names a.name h.are_names named;
      short_names = each_push (λ n. length n ≤ 64) s.names a.name h.short_names (name-short a.name named);
      few_lines = omega (arith, few, length-append s.lines (l ∷ []));
      few_starts = omega (arith, room, one);
    }

-- ---- inputs

input_is : (set : TraceSet) (v : Value) (b : BoxId) (k : Kind) → b.kind ≡ k → is_of v k ≡ true → IsKnown set v → IsInput set v b
input_is set (value.Int z) b kind.Int e h i = (e, i)
input_is set (value.Int z) b kind.Ref e h i = absurd cc
input_is set value.Null b kind.Int e h i = absurd cc
input_is set value.Null b kind.Ref e h i = e
input_is set (value.Obj k) b kind.Int e h i = absurd cc
input_is set (value.Obj k) b kind.Ref e h i = (e, i)

inputs_are : (set : TraceSet) (vs : List Value) (bs : List BoxId) → fits_inputs vs bs ≡ true → AreKnown set vs → AllZip (IsInput set) vs bs
unfolding fits_inputs
inputs_are set [] [] e h = tt
inputs_are set [] (b ∷ bs) e h = absurd cc
inputs_are set (v ∷ vs) [] e h = absurd cc
inputs_are set (v ∷ vs) (b ∷ bs) e h = let p = and_parts (is_of v b.kind) (fits_inputs vs bs) e in (input_is set v b b.kind refl p.0 h.0, inputs_are set vs bs p.1 h.1)

-- ---- names

loop_is : (o : Origin) (q name : List ℕ) → is_named q (loop_name_by o name) ≡ true → o ≡ Loop
loop_is Loop q name e = refl
loop_is (Bridge parent guard) q name e = absurd cc

bridge_is : (o : Origin) (q name : List ℕ) → is_named q (bridge_name_by o name) ≡ true → (parent : List ℕ) × (guard : ℕ) × (o ≡ Bridge parent guard)
bridge_is Loop q name e = absurd cc
bridge_is (Bridge parent guard) q name e = (parent, guard, refl)

trace_by : (f : Trace → Option (List ℕ)) (q : List ℕ) (t : Option Trace) (o : Option (List ℕ)) → option_map f t ≡ Some o → is_named q o ≡ true → (x : Trace) × (t ≡ Some x) × (is_named q (f x) ≡ true)
trace_by f q None o e h = absurd cc
trace_by f q (Some x) o e h =
    let same : f x ≡ o = cc in
    (x, refl, ap (is_named q) same ∙ h)

trace_at : (set : TraceSet) (f : Trace → Option (List ℕ)) (q : List ℕ) (k : ℕ) (o : Option (List ℕ)) → slice_get (map f set.traces) k ≡ Some o → is_named q o ≡ true → (x : Trace) × (slice_get set.traces k ≡ Some x) × (is_named q (f x) ≡ true)
trace_at set f q k o e h = trace_by f q (slice_get set.traces k) o (sym (slice_get-map f set.traces k) ∙ e) h

start_is : (set : TraceSet) (a : Activation) (k : ℕ) → look a.of (names_of set).loops ≡ Some k → fits_inputs a.inputs (inputs_of set k) ≡ true → AreKnown set a.inputs → length a.answers ≤ 4096 → IsStart set k a.inputs a.answers
start_is set a k e fit known few =
    let r = found_at a.of k (map loop_name set.traces) e in
    let t = trace_at set loop_name a.of k r.0 r.1 r.2 in
    let boxes : inputs_of set k ≡ t.0.inputs = ap boxes_of t.1 in
    let zipped : AllZip (IsInput set) a.inputs t.0.inputs = inputs_are set a.inputs t.0.inputs (sym (ap (fits_inputs a.inputs) boxes) ∙ fit) known in
    record {
      of = t.0;
      at = t.1;
      is_loop = loop_is t.0.origin a.of t.0.name t.2;
      inputs = zipped;
      as_many = sym (AllZip-long (IsInput set) a.inputs t.0.inputs zipped);
      few_answers = few;
    }

bridge_of : (set : TraceSet) (name : List ℕ) (b : ℕ) → look name (names_of set).bridges ≡ Some b → IsBridgeOf set b
bridge_of set name b e =
    let r = found_at name b (map bridge_name set.traces) e in
    let t = trace_at set bridge_name name b r.0 r.1 r.2 in
    let o = bridge_is t.0.origin name t.0.name t.2 in
    record { of = t.0; at = t.1; parent = o.0; guard = o.1; is_bridge = o.2 }

place_by : (b : Bool) (n m a : ℕ) → ltb n m ≡ b → cond b (Some n) None ≡ Some a → a < m
place_by true n m a h e = let same : n ≡ a = cc in omega (arith, ltb-true n m h, same)
place_by false n m a h e = absurd cc

started : (name : List ℕ) (names : List (List ℕ)) (a : ℕ) → number_of name names ≡ Some a → a < length names
started name names a e = place_by (ltb (position_or_len (λ x. bytes_eq name x) names) (length names)) (position_or_len (λ x. bytes_eq name x) names) (length names) a refl e

-- ---- what is read

abbrev Outcome : Type 0
Outcome = Result SessionText SessionFault

ok_if : (b : Bool) (s made : SessionText) (e : SessionFault) → cond b (Ok s) (Err e) ≡ Ok made → (b ≡ true) × (s ≡ made)
ok_if true s made e h = (refl, cc)
ok_if false s made e h = absurd cc

ok_in : (b : Bool) (r : Outcome) (made : SessionText) (e : SessionFault) → cond b r (Err e) ≡ Ok made → (b ≡ true) × (r ≡ Ok made)
ok_in true r made e h = (refl, h)
ok_in false r made e h = absurd cc

ok_past : (b : Bool) (r : Outcome) (made : SessionText) (e : SessionFault) → cond b (Err e) r ≡ Ok made → r ≡ Ok made
ok_past true r made e h = absurd cc
ok_past false r made e h = h

add_fits : (set : TraceSet) (s made : SessionText) (l : Line) → FitsSet set s → LineFits set (length s.names) l → ((k : ℕ) → with_start_of l k ≡ k) → add_line s l ≡ Ok made → FitsSet set made
add_fits set s made l h f none e =
    let g = ok_if (ltb (length s.lines) 4096) (with_line s l) made (over what.Session 4096) e in
    subst (FitsSet set) g.1 (line_fits set s l h f none (ltb-true (length s.lines) 4096 g.0))

begun_fits : (set : TraceSet) (s made : SessionText) (k : ℕ) (a : Activation) → FitsSet set s → is_name a.name ≡ true → (length a.answers ≤ 4096 → IsStart set k a.inputs a.answers) → add_start s k a ≡ Ok made → FitsSet set made
begun_fits set s made k a h named is e =
    let inner : Outcome = cond (leb (length a.answers) 4096) (Ok (with_start s k a)) (Err (over what.Answers 4096)) in
    let x = ok_in (ltb (length s.lines) 4096) (cond (ltb (length s.names) 16) inner (Err (over what.Activations 16))) made (over what.Session 4096) e in
    let y = ok_in (ltb (length s.names) 16) inner made (over what.Activations 16) x.1 in
    let z = ok_if (leb (length a.answers) 4096) (with_start s k a) made (over what.Answers 4096) y.1 in
    subst (FitsSet set) z.1 (start_fits set s k a h named (is (leb-true (length a.answers) 4096 z.0)) (ltb-true (length s.lines) 4096 x.0) (ltb-true (length s.names) 16 y.0))

start_in_fits : (set : TraceSet) (n : ℕ) (s made : SessionText) (a : Activation) (o : Option ℕ) → look a.of (names_of set).loops ≡ o → FitsSet set s → FormFits set (form.Start a) → start_in set n s a o ≡ Ok made → FitsSet set made
start_in_fits set n s made a None at h f e = absurd cc
start_in_fits set n s made a (Some k) at h f e =
    let g = ok_in (fits_inputs a.inputs (inputs_of set k)) (add_start s k a) made (bad n Inputs) e in
    begun_fits set s made k a h f.0 (start_is set a k at g.0 f.1) g.1

read_start_fits : (set : TraceSet) (n : ℕ) (s made : SessionText) (a : Activation) → FitsSet set s → FormFits set (form.Start a) → read_start (names_of set) set n s a ≡ Ok made → FitsSet set made
read_start_fits set n s made a h f e =
    let inner : Outcome = start_in set n s a (look a.of (names_of set).loops) in
    let x = ok_past (has_name a.name s.names) (cond a.lacks (Err (bad n Name)) inner) made (bad n Twice) e in
    let y = ok_past a.lacks inner made (bad n Name) x in
    start_in_fits set n s made a (look a.of (names_of set).loops) refl h f y

step_in_fits : (set : TraceSet) (n count : ℕ) (s made : SessionText) (name : List ℕ) (o : Option ℕ) → number_of name s.names ≡ o → FitsSet set s → count ≤ 10 ^ 7 → step_in n s count o ≡ Ok made → FitsSet set made
step_in_fits set n count s made name None at h f e = absurd cc
step_in_fits set n count s made name (Some a) at h f e = add_fits set s made (line.Step a count) h (started name s.names a at, f) (λ k. refl) e

run_in_fits : (set : TraceSet) (n m : ℕ) (s made : SessionText) (name : List ℕ) (o : Option ℕ) → number_of name s.names ≡ o → FitsSet set s → m ≤ 10 ^ 6 → run_in n s m o ≡ Ok made → FitsSet set made
run_in_fits set n m s made name None at h f e = absurd cc
run_in_fits set n m s made name (Some a) at h f e = add_fits set s made (line.Run a m) h (started name s.names a at, f) (λ k. refl) e

attach_in_fits : (set : TraceSet) (n : ℕ) (s made : SessionText) (name : List ℕ) (o : Option ℕ) → look name (names_of set).bridges ≡ o → FitsSet set s → attach_in n s o ≡ Ok made → FitsSet set made
attach_in_fits set n s made name None at h e = absurd cc
attach_in_fits set n s made name (Some b) at h e = add_fits set s made (line.Attach b) h (bridge_of set name b at) (λ k. refl) e

form_fits : (set : TraceSet) (n : ℕ) (s made : SessionText) (f : Form) → FitsSet set s → FormFits set f → read_form (names_of set) set n s f ≡ Ok made → FitsSet set made
form_fits set n s made (form.Start a) h f e = read_start_fits set n s made a h f e
form_fits set n s made (form.Step name count) h f e = step_in_fits set n count s made name (number_of name s.names) refl h f e
form_fits set n s made (form.Run name m) h f e = run_in_fits set n m s made name (number_of name s.names) refl h f e
form_fits set n s made (form.Attach name) h f e = attach_in_fits set n s made name (look name (names_of set).bridges) refl h e

said_by : (set : TraceSet) (n : ℕ) (s made : SessionText) (o : Option (Option Form)) → FitsSet set s → ((f : Form) → o ≡ Some (Some f) → FormFits set f) → read_said (names_of set) set n s o ≡ Ok made → FitsSet set made
said_by set n s made None h g e = absurd cc
said_by set n s made (Some None) h g e = let same : s ≡ made = cc in subst (FitsSet set) same h
said_by set n s made (Some (Some f)) h g e = form_fits set n s made f h (g f refl) e

pub fits_line : (spelled : LinesAreSpelled) (set : TraceSet) (n : ℕ) (l : List ℕ) (s made : SessionText) → FitsSet set s → read_line (names_of set) set n l s ≡ Ok made → FitsSet set made
unfolding read_line
fits_line spelled set n l s made h e = said_by set n s made (said (form_at (names_of set)) l) h (said_fits spelled set l) e
