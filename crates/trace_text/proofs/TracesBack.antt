-- The lines that write traces are read as them.
use Rattle.std.proofs.Common.{◌≡◌, ℕ, suc, ◌+◌, ◌<◌, ◌≤◌, Bool, true, false, cond, List, [], ◌∷◌, ◌++◌, length, Result, Ok, Err, refl, sym, ap, subst, ◌∙◌, arith, append_assoc, length-append}
use Rattle.std.proofs.lemmas.List.{append-nil}
use Rattle.std.specs.Prelude.{codes}
use Rattle.std.specs.List.{flat_map}
use Rattle.text_lines.specs.Words.{is_plain}
use Rattle.text_lines.specs.Lines.{lines}
use Rattle.lists.specs.Refused.{read_lines, ok_then}
use Rattle.trace_ops.specs.declared.trace.BoxId.{BoxId}
use Rattle.trace_ops.specs.declared.trace.Op.{Op}
use Rattle.trace_ops.specs.declared.trace.Trace.{Trace}
use Rattle.trace_ops.specs.declared.table.Table.{Table}
use Rattle.trace_text.specs.declared.fault.TextFault.{TextFault}
use Rattle.trace_text.specs.declared.draft.Draft.{Draft}
use Rattle.trace_text.specs.declared.draft.Phase.{Phase}
use Rattle.trace_text.specs.declared.draft.Phase.TheVariants as phase
use Rattle.trace_text.specs.Names.{Names, names_of}
use Rattle.trace_text.specs.Draft.{with_op, labelled, is_open, is_behind_inputs, lacks_inputs, closed, closed_if, trace_count, begun, put_inputs, read_line}
use Rattle.trace_text.specs.Writing.{boxes_text, op_line, inputs_line, label_line, heading_line, origin_text, trace_lines}
use Rattle.trace_text.proofs.FitDrafts.{open_trace}
use Rattle.trace_text.proofs.ReadSets.{Each, ReadsOps, ReadsTrace}
use Rattle.trace_text.proofs.PiecesBack.{Small}
use Rattle.trace_text.proofs.OpsBack.{op_line_read}
use Rattle.trace_text.proofs.LinesBack.{op_body}
use Rattle.trace_text.proofs.OpeningsBack.{label_body, label_line_read, inputs_body, inputs_line_read, heading, heading_line_read}
use Rattle.trace_text.proofs.Below.{TextLaws}

abbrev Words : Type 0
Words = List (List ℕ)

-- ---- lines that lead from a draft to another

pub record Goes (names : Names) (text : List ℕ) (d m : Draft) : Type 0 where
  pub whole : (rest : List ℕ) → lines (text ++ rest) ≡ lines text ++ lines rest
  pub reads : (n : ℕ) → read_lines (read_line names) n (lines text) d ≡ Ok m

goes_nowhere : (names : Names) (d : Draft) → Goes names [] d d
unfolding lines read_lines
goes_nowhere names d = record { whole = λ rest. refl; reads = λ n. refl }

after_step : (names : Names) (n : ℕ) (ls ms : Words) (m e : Draft) (r : Result Draft TextFault) → ok_then r (λ made. read_lines (read_line names) (suc n) ls made) ≡ Ok m
    → ((d : Draft) → read_lines (read_line names) (suc n) ls d ≡ Ok m → read_lines (read_line names) (suc n) (ls ++ ms) d ≡ Ok e) → ok_then r (λ made. read_lines (read_line names) (suc n) (ls ++ ms) made) ≡ Ok e
after_step names n ls ms m e (Ok d) h f = f d h
after_step names n ls ms m e (Err why) h f = absurd cc

read_both : (names : Names) (ls ms : Words) (n : ℕ) (d m e : Draft) → read_lines (read_line names) n ls d ≡ Ok m → ((k : ℕ) → read_lines (read_line names) k ms m ≡ Ok e) → read_lines (read_line names) n (ls ++ ms) d ≡ Ok e
unfolding read_lines
read_both names [] ms n d m e h f =
    let pick : Result Draft TextFault → Draft = λ r. elim r [ Ok x ↦ x | Err why ↦ d ] in
    let same : d ≡ m = ap pick h in
    ap (λ (x : Draft). read_lines (read_line names) n ms x) same ∙ f n
read_both names (l ∷ ls) ms n d m e h f = after_step names n ls ms m e (read_line names n l d) h (λ x g. read_both names ls ms (suc n) x m e g f)

goes_both : (names : Names) (a b : List ℕ) (d m e : Draft) → Goes names a d m → Goes names b m e → Goes names (a ++ b) d e
goes_both names a b d m e h i = record {
  whole = λ rest. ap lines (append_assoc a b rest) ∙ h.whole (b ++ rest) ∙ ap (λ (x : Words). lines a ++ x) (i.whole rest) ∙ sym (append_assoc (lines a) (lines b) (lines rest)) ∙ ap (λ (x : Words). x ++ lines rest) (sym (h.whole b));
  reads = λ n. ap (λ (x : Words). read_lines (read_line names) n x d) (h.whole b) ∙ read_both names (lines a) (lines b) n d m e (h.reads n) i.reads;
}

one_line : (laws : TextLaws) (body : List ℕ) → is_plain body ≡ true → lines (body ++ 10 ∷ []) ≡ body ∷ []
unfolding lines
one_line laws body p = laws.spelled.pieces.line_then_feed body [] p

goes_line : (laws : TextLaws) (names : Names) (body : List ℕ) (d m : Draft) → is_plain body ≡ true → ((n : ℕ) → read_line names n body d ≡ Ok m) → Goes names (body ++ 10 ∷ []) d m
unfolding read_lines
goes_line laws names body d m p f = record {
  whole = λ rest. ap lines (append_assoc body (10 ∷ []) rest) ∙ laws.spelled.pieces.line_then_feed body rest p ∙ ap (λ (x : Words). x ++ lines rest) (sym (one_line laws body p));
  reads = λ n. ap (λ (x : Words). read_lines (read_line names) n x d) (one_line laws body p) ∙ ap (λ r. ok_then r (λ made. Ok made)) (f n);
}

goes_as : (names : Names) (a b : List ℕ) (d m : Draft) → a ≡ b → Goes names a d m → Goes names b d m
goes_as names a b d m e h = subst (λ (x : List ℕ). Goes names x d m) e h

-- ---- operations

abbrev put_all : List Op → Draft → Draft
put_all [] d = d
put_all (op ∷ ops) d = put_all ops (with_op op.code op d)

ops_go : (laws : TextLaws) (t : Table) (ops : List Op) (d : Draft) → is_open d.phase ≡ true → ReadsOps t d.seen (length d.ops) ops → Goes (names_of t) (flat_map (λ op. op_line t op) ops) d (put_all ops d)
unfolding op_line
ops_go laws t [] d e h = goes_nowhere (names_of t) d
ops_go laws t (op ∷ ops) d e h =
    let next : Draft = with_op op.code op d in
    let plain : is_plain (op_body t op) ≡ true = (op_line_read laws t 0 d op e h.0).0 in
    let count : length d.ops + 1 ≡ length next.ops = omega (arith, length-append d.ops (op ∷ [])) in
    let rest = subst (λ (n : ℕ). ReadsOps t next.seen n ops) count h.1 in
    goes_both (names_of t) (op_body t op ++ 10 ∷ []) (flat_map (λ op. op_line t op) ops) d next (put_all ops next)
    (goes_line laws (names_of t) (op_body t op) d next plain (λ n. (op_line_read laws t n d op e h.0).1)) (ops_go laws t ops next refl rest)

-- the draft behind operations
record IsPut (d m : Draft) (ops : List Op) : Type 0 where
  opened : is_open m.phase ≡ true
  done : m.done ≡ d.done
  trace : open_trace m ≡ record (open_trace d) { ops = d.ops ++ ops }

all_put : (ops : List Op) (d : Draft) → is_open d.phase ≡ true → IsPut d (put_all ops d) ops
all_put [] d e = record { opened = e; done = refl; trace = ap (λ (xs : List Op). record (open_trace d) { ops = xs }) (sym (append-nil d.ops)) }
all_put (op ∷ ops) d e =
    let next : Draft = with_op op.code op d in
    let h = all_put ops next refl in
    record { opened = h.opened; done = h.done; trace = h.trace ∙ ap (λ (xs : List Op). record (open_trace d) { ops = xs }) (append_assoc d.ops (op ∷ []) ops) }

-- ---- a trace

abbrev label_if : Bool → Draft → Draft
label_if false d = d
label_if true d = labelled d

label_by : (laws : TextLaws) (t : Table) (d : Draft) → d.phase ≡ phase.Label → Each Small d.inputs → Goes (names_of t) (label_body d.inputs ++ 10 ∷ []) d (labelled d)
label_by laws t d e h =
    let behind : is_behind_inputs d.phase ≡ true = ap is_behind_inputs e in
    goes_line laws (names_of t) (label_body d.inputs) d (labelled d) (label_line_read laws t 0 d behind h).0 (λ n. (label_line_read laws t n d behind h).1)

label_goes : (laws : TextLaws) (t : Table) (b : Bool) (d : Draft) (bs : List BoxId) → d.inputs ≡ bs → d.phase ≡ phase.Label → Each Small bs → Goes (names_of t) (label_line b bs) d (label_if b d)
unfolding label_line
label_goes laws t false d bs is e h = goes_nowhere (names_of t) d
label_goes laws t true d bs is e h =
    let here : Each Small d.inputs = subst (Each Small) (sym is) h in
    let made : Goes (names_of t) (label_body d.inputs ++ 10 ∷ []) d (labelled d) = label_by laws t d e here in
    let as_text : label_body d.inputs ++ 10 ∷ [] ≡ (codes "label(" ++ boxes_text bs) ++ codes ")\n" = append_assoc (codes "label(" ++ boxes_text d.inputs) (41 ∷ []) (10 ∷ []) ∙ ap (λ (xs : List BoxId). (codes "label(" ++ boxes_text xs) ++ codes ")\n") is in
    goes_as (names_of t) (label_body d.inputs ++ 10 ∷ []) ((codes "label(" ++ boxes_text bs) ++ codes ")\n") d (labelled d) as_text made

inputs_go : (laws : TextLaws) (t : Table) (d : Draft) (bs : List BoxId) → ((n : ℕ) → (is_plain (inputs_body bs) ≡ true) × (read_line (names_of t) n (inputs_body bs) d ≡ Ok (put_inputs bs d))) → Goes (names_of t) (inputs_line bs) d (put_inputs bs d)
unfolding inputs_line
inputs_go laws t d bs f = goes_as (names_of t) (inputs_body bs ++ 10 ∷ []) (((91 ∷ []) ++ boxes_text bs) ++ codes "]\n") d (put_inputs bs d) (append_assoc ((91 ∷ []) ++ boxes_text bs) (93 ∷ []) (10 ∷ [])) (goes_line laws (names_of t) (inputs_body bs) d (put_inputs bs d) (f 0).0 (λ n. (f n).1))

-- the draft behind a trace's lines
abbrev behind_trace : Trace → Draft → Draft
behind_trace tr d = put_all tr.ops (label_if tr.label (put_inputs tr.inputs (begun (heading tr.origin tr.name) (closed_if d))))

label_open : (b : Bool) (d : Draft) → is_open d.phase ≡ true → is_open (label_if b d).phase ≡ true
label_open false d e = e
label_open true d e = refl

label_ops : (t : Table) (b : Bool) (d : Draft) (ops : List Op) → ReadsOps t d.seen (length d.ops) ops → ReadsOps t (label_if b d).seen (length (label_if b d).ops) ops
label_ops t false d ops h = h
label_ops t true d ops h = h

trace_goes : (laws : TextLaws) (t : Table) (tr : Trace) (d : Draft) → lacks_inputs d.phase ≡ false → trace_count d < 256 → ReadsTrace t tr → Goes (names_of t) (trace_lines t tr) d (behind_trace tr d)
unfolding trace_lines heading_line
trace_goes laws t tr d e lt h =
    let names = names_of t in
    let d1 : Draft = begun (heading tr.origin tr.name) (closed_if d) in
    let d2 : Draft = put_inputs tr.inputs d1 in
    let d3 : Draft = label_if tr.label d2 in
    let a : Goes names (origin_text tr.origin tr.name ++ 10 ∷ []) d d1 = goes_line laws names (origin_text tr.origin tr.name) d d1 (heading_line_read laws t 0 d tr.origin tr.name h.name h.from e lt).0 (λ n. (heading_line_read laws t n d tr.origin tr.name h.name h.from e lt).1) in
    let b : Goes names (inputs_line tr.inputs) d1 d2 = inputs_go laws t d1 tr.inputs (λ n. inputs_line_read laws t n d1 tr.inputs refl h.inputs h.few) in
    let c : Goes names (label_line tr.label tr.inputs) d2 d3 = label_goes laws t tr.label d2 tr.inputs refl refl h.inputs in
    let f : Goes names (flat_map (λ op. op_line t op) tr.ops) d3 (put_all tr.ops d3) = ops_go laws t tr.ops d3 (label_open tr.label d2 refl) (label_ops t tr.label d2 tr.ops h.ops) in
    let ab = goes_both names (origin_text tr.origin tr.name ++ 10 ∷ []) (inputs_line tr.inputs) d d1 d2 a b in
    let abc = goes_both names ((origin_text tr.origin tr.name ++ 10 ∷ []) ++ inputs_line tr.inputs) (label_line tr.label tr.inputs) d d2 d3 ab c in
    goes_both names (((origin_text tr.origin tr.name ++ 10 ∷ []) ++ inputs_line tr.inputs) ++ label_line tr.label tr.inputs) (flat_map (λ op. op_line t op) tr.ops) d d3 (put_all tr.ops d3) abc f

label_traced : (b : Bool) (d : Draft) → d.label ≡ false → open_trace (label_if b d) ≡ record (open_trace d) { label = b }
label_traced false d e = ap (λ (x : Bool). record (open_trace d) { label = x }) e
label_traced true d e = refl

label_done : (b : Bool) (d : Draft) → (label_if b d).done ≡ d.done
label_done false d = refl
label_done true d = refl

closed_open : (d : Draft) (b : Bool) → b ≡ true → (cond b (closed d) d).done ≡ d.done ++ open_trace d ∷ []
closed_open d true e = refl
closed_open d false e = absurd cc

open_has_inputs : (p : Phase) → is_open p ≡ true → lacks_inputs p ≡ false
open_has_inputs phase.Before e = absurd cc
open_has_inputs phase.Inputs e = absurd cc
open_has_inputs phase.Label e = refl
open_has_inputs phase.Ops e = refl

-- the traces that are done, when the draft is closed
pub record IsDone (d : Draft) (traces : List Trace) : Type 0 where
  pub done : (closed_if d).done ≡ traces
  pub rest : lacks_inputs d.phase ≡ false

trace_done : (tr : Trace) (d : Draft) (traces : List Trace) → IsDone d traces → IsDone (behind_trace tr d) (traces ++ tr ∷ [])
trace_done tr d traces h =
    let d2 : Draft = put_inputs tr.inputs (begun (heading tr.origin tr.name) (closed_if d)) in
    let d3 : Draft = label_if tr.label d2 in
    let m : Draft = put_all tr.ops d3 in
    let put : IsPut d3 m tr.ops = all_put tr.ops d3 (label_open tr.label d2 refl) in
    let whole : open_trace d3 ≡ record tr { ops = [] } = label_traced tr.label d2 refl in
    let trace : open_trace m ≡ tr = put.trace ∙ ap (λ (x : Trace). record x { ops = x.ops ++ tr.ops }) whole in
    let before : m.done ≡ traces = put.done ∙ label_done tr.label d2 ∙ h.done in
    record {
      done = closed_open m (is_open m.phase) put.opened ∙ ap (λ (x : List Trace). x ++ open_trace m ∷ []) before ∙ ap (λ (x : Trace). traces ++ x ∷ []) trace;
      rest = open_has_inputs m.phase put.opened;
    }

count_by : (d : Draft) (b : Bool) → cond b (length d.done + 1) (length d.done) ≡ length (cond b (closed d) d).done
count_by d true = sym (length-append d.done (open_trace d ∷ []))
count_by d false = refl

-- ---- all traces

pub record AllGo (t : Table) (text : List ℕ) (d : Draft) (traces : List Trace) : Type 0 where
  pub end : Draft
  pub goes : Goes (names_of t) text d end
  pub done : IsDone end traces

pub traces_go : (laws : TextLaws) (t : Table) (front more : List Trace) (d : Draft) → length (front ++ more) ≤ 256 → Each (ReadsTrace t) more → IsDone d front → AllGo t (flat_map (λ tr. trace_lines t tr) more) d (front ++ more)
traces_go laws t front [] d le h i = record { end = d; goes = goes_nowhere (names_of t) d; done = subst (IsDone d) (sym (append-nil front)) i }
traces_go laws t front (tr ∷ more) d le h i =
    let count : trace_count d < 256 = omega (arith, count_by d (is_open d.phase), ap length i.done, length-append front (tr ∷ more), le) in
    let next : Draft = behind_trace tr d in
    let e : (front ++ tr ∷ []) ++ more ≡ front ++ tr ∷ more = append_assoc front (tr ∷ []) more in
    let here : Goes (names_of t) (trace_lines t tr) d next = trace_goes laws t tr d i.rest count h.0 in
    let rest : AllGo t (flat_map (λ tr. trace_lines t tr) more) next ((front ++ tr ∷ []) ++ more) = traces_go laws t (front ++ tr ∷ []) more next (omega (arith, ap length e, le)) h.1 (trace_done tr d front i) in
    record { end = rest.end; goes = goes_both (names_of t) (trace_lines t tr) (flat_map (λ tr. trace_lines t tr) more) d next rest.end here rest.goes; done = subst (IsDone rest.end) e rest.done }
