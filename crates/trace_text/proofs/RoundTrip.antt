-- The text of a set that was read is read as that set.
use Rattle.std.proofs.Common.{◌≡◌, ℕ, ◌+◌, Bool, true, false, cond, take, drop, List, [], ◌∷◌, ◌++◌, length, Ok, refl, sym, ap, subst, ◌∙◌, inl, inr, arith, append_assoc}
use Rattle.std.proofs.Math.Seq.{take-append_seam, take-length}
use Rattle.std.specs.Prelude.{codes}
use Rattle.std.specs.List.{flat_map}
use Rattle.text_lines.specs.Lines.{lines}
use Rattle.text_lines.specs.Words.{words, is_plain, is_mark, is_word_byte}
use Rattle.lists.specs.Refused.{read_lines, ok_then}
use Rattle.lists.proofs.Eaches.{each_append}
use Rattle.trace_ops.specs.declared.table.Table.{Table}
use Rattle.trace_ops.specs.declared.trace.Trace.{Trace}
use Rattle.trace_ops.specs.declared.trace.TraceSet.{TraceSet}
use Rattle.descr_table.specs.Meaning.{nothing}
use Rattle.descr_table.specs.Reading.{table_at}
use Rattle.descr_table.specs.Writing.{table_text}
use Rattle.trace_text.specs.declared.draft.Draft.{Draft}
use Rattle.trace_text.specs.declared.cut.Until.TheVariants as until
use Rattle.trace_text.specs.Names.{names_of}
use Rattle.trace_text.specs.Draft as drafts
use Rattle.trace_text.specs.Draft.{is_section, closed_if, read_line, lines_at, finished}
use Rattle.trace_text.specs.Sections.{is_alone, stops, bytes_before, lines_before, place_of, front, back, table_read, set_over, set_with_table, set_opened, set_of, set_at, IsTableOfText}
use Rattle.trace_text.specs.Writing.{heading_line, inputs_line, label_line, op_line, origin_text, trace_lines, set_text}
use Rattle.trace_text.proofs.FitDrafts.{set_fits}
use Rattle.trace_text.proofs.TableOf.{table_of_text}
use Rattle.trace_text.proofs.ReadSets.{Each, ReadsTrace}
use Rattle.trace_text.proofs.ReadDrafts.{traces_read}
use Rattle.trace_text.proofs.OpeningsBack.{heading_line_read, heading_line_words, is_heading}
use Rattle.trace_text.proofs.TracesBack.{IsDone, AllGo, traces_go}
use Rattle.trace_text.proofs.SectionsBack.{NoSession, table_whole, table_no_section, no_session_of, read_no_session, place_end, place_behind, Begins}
use Rattle.trace_text.proofs.Below.{TextLaws}

abbrev Words : Type 0
Words = List (List ℕ)

abbrev traces_text : Table → List Trace → List ℕ
traces_text t traces = flat_map (λ tr. trace_lines t tr) traces

-- ---- the traces begin with a heading

feed_behind : (body rest a b c : List ℕ) → ((((body ++ 10 ∷ []) ++ a) ++ b) ++ c) ++ rest ≡ body ++ 10 ∷ (a ++ (b ++ (c ++ rest)))
feed_behind body rest a b c =
    append_assoc (((body ++ 10 ∷ []) ++ a) ++ b) c rest
    ∙ append_assoc ((body ++ 10 ∷ []) ++ a) b (c ++ rest)
    ∙ append_assoc (body ++ 10 ∷ []) a (b ++ (c ++ rest))
    ∙ append_assoc body (10 ∷ []) (a ++ (b ++ (c ++ rest)))

nothing_lacks : drafts.lacks_inputs (drafts.nothing).phase ≡ false
nothing_lacks = refl

traces_begin : (laws : TextLaws) (t : Table) (traces : List Trace) → Each (ReadsTrace t) traces → Begins (stops until.Section) (traces_text t traces)
unfolding lines trace_lines heading_line
traces_begin laws t [] h = inl refl
traces_begin laws t (tr ∷ more) h =
    let body = origin_text tr.origin tr.name in
    let inputs = inputs_line tr.inputs in
    let label = label_line tr.label tr.inputs in
    let ops = flat_map (λ op. op_line t op) tr.ops in
    let plain : is_plain body ≡ true = (heading_line_read laws t 0 drafts.nothing tr.origin tr.name (h.0).name (h.0).from nothing_lacks (omega arith)).0 in
    let behind = inputs ++ (label ++ (ops ++ traces_text t more)) in
    let e : lines (traces_text t (tr ∷ more)) ≡ body ∷ lines behind = ap lines (feed_behind body (traces_text t more) inputs label ops) ∙ laws.spelled.pieces.line_then_feed body behind plain in
    inr (body, lines behind, e, ap is_section (heading_line_words laws tr.origin tr.name (h.0).name (h.0).from) ∙ is_heading tr.origin tr.name)

-- ---- the table and the traces

drop_seam : (a b : List ℕ) → drop (length a) (a ++ b) ≡ b
drop_seam [] b = refl
drop_seam (c ∷ cs) b = drop_seam cs b

over_read : (t : Table) (end n : ℕ) (text : List ℕ) (traces : List Trace) (d : Draft) → read_lines (read_line (names_of t)) n (lines text) drafts.nothing ≡ Ok d → IsDone d traces → set_over t end n text ≡ Ok (record { table = t; traces = traces })
unfolding lines_at
over_read t end n text traces d e h =
    let closed : finished end d ≡ Ok traces = rw h.rest (ap Ok h.done) in
    ap (λ r. ok_then (ok_then r (finished end)) (λ made. Ok (record { table = t; traces = made }))) e
    ∙ ap (λ r. ok_then r (λ made. Ok (record { table = t; traces = made }))) closed

cut_read : (t : Table) (end n : ℕ) (a b : List ℕ) (traces : List Trace) (d : Draft) → place_of (stops until.Section) (a ++ b) ≡ length a → table_at n a ≡ Ok t → ((k : ℕ) → read_lines (read_line (names_of t)) k (lines b) drafts.nothing ≡ Ok d) → IsDone d traces → set_with_table end n (a ++ b) ≡ Ok (record { table = t; traces = traces })
cut_read t end n a b traces d at rows reads h =
    let before : front until.Section (a ++ b) ≡ a = ap (λ k. take k (a ++ b)) at ∙ take-append_seam a b in
    let behind : back until.Section (a ++ b) ≡ b = ap (λ k. drop k (a ++ b)) at ∙ drop_seam a b in
    let k : ℕ = n + lines_before (stops until.Section) (a ++ b) in
    ap (λ (x : List ℕ). ok_then (table_read (table_at n x)) (λ u. set_over u end k (back until.Section (a ++ b)))) before
    ∙ ap (λ r. ok_then (table_read r) (λ u. set_over u end k (back until.Section (a ++ b)))) rows
    ∙ ap (set_over t end k) behind
    ∙ over_read t end k b traces d (reads k) h

-- ---- the line that opens the table

table_alone : is_alone (codes "%table") (words (codes "%table")) ≡ true
unfolding words is_word_byte is_mark
table_alone = refl

table_says : stops until.Said (codes "%table") ≡ true
unfolding words is_word_byte is_mark
table_says = refl

table_no_session : stops until.Session (codes "%table") ≡ false
unfolding words is_word_byte is_mark
table_no_session = refl

first_met : (text : List ℕ) (l : List ℕ) (ls : Words) → lines text ≡ l ∷ ls → stops until.Said l ≡ true → place_of (stops until.Said) text ≡ 0
unfolding bytes_before
first_met text l ls e m =
    let at : bytes_before (stops until.Said) 0 (lines text) ≡ 0 = ap (bytes_before (stops until.Said) 0) e ∙ rw m refl in
    omega (arith, at)

opened_read : (end : ℕ) (text rest : List ℕ) (ls : Words) → text ≡ codes "%table" ++ 10 ∷ rest → lines text ≡ codes "%table" ∷ ls → set_of end text ≡ set_with_table end (1 + lines_before (stops until.Said) text + 1) rest
opened_read end text rest ls is e =
    let at : place_of (stops until.Said) text ≡ 0 = first_met text (codes "%table") ls e table_says in
    let n : ℕ = 1 + lines_before (stops until.Said) text in
    let whole : back until.Said text ≡ text = ap (λ j. drop j text) at in
    ap (λ (x : List ℕ). set_opened end n x (lines x)) whole
    ∙ ap (set_opened end n text) e
    ∙ ap (λ (b : Bool). cond b (set_with_table end (n + 1) (drop (length (codes "%table") + 1) text)) (set_over nothing end n text)) table_alone
    ∙ ap (λ (x : List ℕ). set_with_table end (n + 1) (drop (length (codes "%table") + 1) x)) is

-- ---- the whole

uncut_read : (text : List ℕ) (set : TraceSet) → place_of (stops until.Session) text ≡ length text → ((end : ℕ) → set_of end text ≡ Ok set) → set_at text ≡ Ok (set, length text)
unfolding set_at
uncut_read text set at reads =
    let all : front until.Session text ≡ text = ap (λ k. take k text) at ∙ take-length text in
    let end : ℕ = 1 + lines_before (stops until.Session) text in
    ap (λ (x : List ℕ). ok_then (set_of end x) (λ s. Ok (s, place_of (stops until.Session) text))) all
    ∙ ap (λ r. ok_then r (λ s. Ok (s, place_of (stops until.Session) text))) (reads end)
    ∙ ap (λ k. Ok (set, k)) at

nothing_back : (again : ℕ) → table_at again [] ≡ Ok nothing
unfolding table_at lines read_lines
nothing_back again = refl

table_source : (laws : TextLaws) (t : Table) → IsTableOfText t → (again : ℕ) → table_at again (table_text t) ≡ Ok t
table_source laws t (inr h) again = laws.tables_back h.0 again h.1 t h.2
table_source laws t (inl e) again = subst (λ (x : Table). table_at again (table_text x) ≡ Ok x) (sym e) (nothing_back again)

pub set_back : (laws : TextLaws) (text : List ℕ) (x : TraceSet × ℕ) → set_at text ≡ Ok x → set_at (set_text x.0) ≡ Ok (x.0, length (set_text x.0))
set_back laws text x e =
    let set : TraceSet = x.0 in
    let t : Table = set.table in
    let a = table_text t in
    let b = traces_text t set.traces in
    let written = set_text set in
    let reads = traces_read laws text x e in
    let all : AllGo t b drafts.nothing set.traces = traces_go laws t [] set.traces drafts.nothing (set_fits text x e).1 reads (record { done = refl; rest = refl }) in
    let rows = table_source laws t (table_of_text text x e) in
    let whole = table_whole t in
    let no_section = table_no_section laws 0 a t (rows 0) in
    let cut : place_of (stops until.Section) (a ++ b) ≡ length a = place_behind laws (stops until.Section) a b whole no_section (traces_begin laws t set.traces reads) in
    let is : written ≡ codes "%table" ++ 10 ∷ (a ++ b) = append_assoc (codes "%table\n") a b in
    let opened : lines written ≡ codes "%table" ∷ lines (a ++ b) = ap lines is ∙ laws.spelled.pieces.line_then_feed (codes "%table") (a ++ b) refl in
    let split : lines written ≡ codes "%table" ∷ (lines a ++ lines b) = opened ∙ ap (λ (ls : Words). codes "%table" ∷ ls) (whole b) in
    let calm : Each NoSession (lines a ++ lines b) = each_append NoSession (lines a) (lines b) (no_session_of (lines a) no_section) (read_no_session (names_of t) (lines b) 0 drafts.nothing all.end (all.goes.reads 0)) in
    let no_session : Each NoSession (lines written) = subst (Each NoSession) (sym split) (table_no_session, calm) in
    uncut_read written set (place_end laws (stops until.Session) written no_session) (λ end.
    opened_read end written (a ++ b) (lines (a ++ b)) is opened
    ∙ cut_read t end (1 + lines_before (stops until.Said) written + 1) a b set.traces all.end cut (rows (1 + lines_before (stops until.Said) written + 1)) all.goes.reads all.done)
