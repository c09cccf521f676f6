-- Reading keeps what holds of the sets that it gives.
use Rattle.std.proofs.Common.{◌≡◌, ℕ, suc, ◌+◌, ◌-◌, ◌<◌, ◌≤◌, ◌^◌, min, Bool, true, false, cond, List, [], ◌∷◌, ◌++◌, length, map, Option, Some, None, Result, Ok, Err, refl, sym, ap, subst, ◌∙◌, arith}
use Rattle.std.specs.Prelude.{codes}
use Rattle.std.specs.Str.{bytes_eq}
use Rattle.lists.proofs.Eaches.{each_push}
use Rattle.text_lines.specs.Words.{is_name, words, is_plain}
use Rattle.text_lines.specs.Reading.{is_skipped}
use Rattle.trace_ops.specs.declared.code.OpCode.{OpCode}
use Rattle.trace_ops.specs.declared.trace.BoxId.{BoxId}
use Rattle.trace_ops.specs.declared.trace.Op.{Op}
use Rattle.trace_ops.specs.declared.trace.Origin.{Origin}
use Rattle.trace_ops.specs.declared.trace.Origin.TheVariants as origin
use Rattle.trace_ops.specs.declared.trace.TraceSet.{TraceSet}
use Rattle.trace_ops.specs.declared.table.Table.{Table}
use Rattle.trace_ops.specs.OpNames.{code_of}
use Rattle.trace_ops.specs.Classes.{is_guard}
use Rattle.trace_ops.specs.Parts.{with_boxes}
use Rattle.trace_ops.specs.InRange.{most_inputs}
use Rattle.trace_text.specs.declared.value.Value.{Value}
use Rattle.trace_text.specs.declared.value.Value.TheVariants as value
use Rattle.trace_text.specs.declared.line.Line.{Line}
use Rattle.trace_text.specs.declared.line.Slots.{Slots}
use Rattle.trace_text.specs.declared.heading.Heading.{Heading}
use Rattle.trace_text.specs.declared.fault.Refusal.{Refusal}
use Rattle.trace_text.specs.declared.fault.TextFault.{TextFault}
use Rattle.trace_text.specs.declared.fault.TextFault.TheVariants as fault
use Rattle.trace_text.specs.declared.draft.Draft.{Draft}
use Rattle.trace_text.specs.declared.draft.Phase.{Phase}
use Rattle.trace_text.specs.declared.draft.Phase.TheVariants as phase
use Rattle.trace_text.specs.Boxes.{noted}
use Rattle.trace_text.specs.Names.{names_of}
use Rattle.trace_text.specs.Line.{op_at, inputs_at}
use Rattle.trace_text.specs.Heading.{heading_at, is_merge}
use Rattle.trace_text.specs.Meaning.{op_of, refusal}
use Rattle.trace_text.specs.Spelling.{SpellsOrigin}
use Rattle.trace_text.specs.Draft.{unless, with_op, put_code, put_line, is_label, labelled, read_label, read_op, is_open, closed, closed_if, begun, heading_refusal, read_heading, input_of, slots_of, put_inputs, inputs_refusal, read_values, is_ended, read_inputs, has_key, is_section, read_body, read_in, read_line}
use Rattle.trace_text.specs.Sections.{set_at}
use Rattle.trace_text.proofs.SetWalk as walk
use Rattle.trace_text.proofs.SetWalk.{set_keeps}
use Rattle.trace_text.proofs.SpelledLine.{inputs_back}
use Rattle.trace_text.proofs.SpelledHeading.{heading_back}
use Rattle.trace_text.proofs.FitDrafts.{length-map, inputs_count, open_trace}
use Rattle.trace_text.proofs.ReadSets.{Each, ReadsOp, ReadsOps, ReadsOrigin, ReadsTrace}
use Rattle.trace_text.proofs.ReadLines.{SlotReads, FrameReads, op_reads, snapshot_reads, guard_reads}
use Rattle.trace_text.proofs.Below.{TextLaws}

-- the boxes behind operations
abbrev seen_after : List BoxId → List Op → List BoxId
seen_after seen [] = seen
seen_after seen (op ∷ ops) = seen_after (noted seen op.result) ops

seen_last : (seen : List BoxId) (ops : List Op) (op : Op) → seen_after seen (ops ++ op ∷ []) ≡ noted (seen_after seen ops) op.result
seen_last seen [] op = refl
seen_last seen (x ∷ xs) op = seen_last (noted seen x.result) xs op

reads_last : (t : Table) (seen : List BoxId) (others : ℕ) (ops : List Op) (op : Op) → ReadsOps t seen others ops → ReadsOp t (seen_after seen ops) (others + length ops) op → ReadsOps t seen others (ops ++ op ∷ [])
reads_last t seen others [] op h i = let at : others + 0 ≡ others = omega arith in (subst (λ (n : ℕ). ReadsOp t seen n op) at i, tt)
reads_last t seen others (x ∷ xs) op h i =
    let at : others + suc (length xs) ≡ others + 1 + length xs = omega arith in
    (h.0, reads_last t (noted seen x.result) (others + 1) xs op h.1 (subst (λ (n : ℕ). ReadsOp t (seen_after (noted seen x.result) xs) n op) at i))

-- a heading was read, and no inputs yet
record IsHeaded (d : Draft) : Type 0 where
  name : is_name d.name ≡ true
  from : ReadsOrigin d.origin
  ops : d.ops ≡ []
  seen : d.seen ≡ []
  guards : d.guards < 2 ^ 32

record IsOpen (t : Table) (d : Draft) : Type 0 where
  trace : ReadsTrace t (open_trace d)
  seen : d.seen ≡ seen_after (with_boxes [] d.inputs) d.ops
  guards : d.guards < 2 ^ 32

abbrev Stands : Table → Phase → Draft → Type 0
Stands t phase.Before d = Unit {0}
Stands t phase.Inputs d = IsHeaded d
Stands t phase.Label d = IsOpen t d
Stands t phase.Ops d = IsOpen t d

record ReadsDraft (t : Table) (d : Draft) : Type 0 where
  done : Each (ReadsTrace t) d.done
  stands : Stands t d.phase d

-- what a step gives, unless it refuses
abbrev Good : Table → Result Draft TextFault → Type 0
Good t r = walk.Good (ReadsDraft t) r

unless_good : (t : Table) (n : ℕ) (d : Draft) (o : Option Refusal) → (o ≡ None → ReadsDraft t d) → Good t (unless n d o)
unless_good t n d None f = f refl
unless_good t n d (Some why) f = tt

-- ---- operations and labels

counted_small : (n : ℕ) (b : Bool) → n < 2 ^ 32 → cond b (min (n + 1) (2 ^ 32 - 1)) n < 2 ^ 32
counted_small n true lt = omega arith
counted_small n false lt = lt

with_op_good : (laws : TextLaws) (t : Table) (d : Draft) (c : OpCode) (ws : List (List ℕ)) (l : Line) → code_of l.name ≡ Some c → op_at (names_of t) ws ≡ Some l → refusal (names_of t) d.seen (length d.ops) l ≡ None → Each (ReadsTrace t) d.done → IsOpen t d → ReadsDraft t (with_op c (op_of (names_of t) d.name d.guards c l) d)
with_op_good laws t d c ws l named e r done h =
    let op : Op = op_of (names_of t) d.name d.guards c l in
    let here : ReadsOp t d.seen (length d.ops) op = op_reads laws t d.seen (length d.ops) d.name d.guards c ws l h.trace.name h.guards named e r in
    let at : length d.ops ≡ 0 + length d.ops = omega arith in
    let moved : ReadsOp t (seen_after (with_boxes [] d.inputs) d.ops) (0 + length d.ops) op = subst (λ (n : ℕ). ReadsOp t (seen_after (with_boxes [] d.inputs) d.ops) n op) at (subst (λ (s : List BoxId). ReadsOp t s (length d.ops) op) h.seen here) in
    record {
      done = done;
      stands = record {
        trace = record { name = h.trace.name; from = h.trace.from; inputs = h.trace.inputs; few = h.trace.few; ops = reads_last t (with_boxes [] d.inputs) 0 d.ops op h.trace.ops moved };
        seen = ap (λ (s : List BoxId). noted s op.result) h.seen ∙ sym (seen_last (with_boxes [] d.inputs) d.ops op);
        guards = counted_small d.guards (is_guard c) h.guards;
      };
    }

put_good : (laws : TextLaws) (t : Table) (d : Draft) (o : Option OpCode) (ws : List (List ℕ)) (l : Line) → code_of l.name ≡ o → op_at (names_of t) ws ≡ Some l → refusal (names_of t) d.seen (length d.ops) l ≡ None → ReadsDraft t d → IsOpen t d → ReadsDraft t (put_code (names_of t) l d o)
put_good laws t d None ws l named e r h i = h
put_good laws t d (Some c) ws l named e r h i = with_op_good laws t d c ws l named e r h.done i

labelled_good : (t : Table) (d : Draft) → Each (ReadsTrace t) d.done → IsOpen t d → ReadsDraft t (labelled d)
labelled_good t d done h = record {
  done = done;
  stands = record {
    trace = record { name = h.trace.name; from = h.trace.from; inputs = h.trace.inputs; few = h.trace.few; ops = h.trace.ops };
    seen = h.seen;
    guards = h.guards;
  };
}

label_good : (t : Table) (n : ℕ) (d : Draft) (l : Line) → ReadsDraft t d → IsOpen t d → Good t (read_label n d l)
label_good t n d l h i = elim (is_label d l) as (λ b. Good t (cond b (Ok (labelled d)) (Err (fault.Syntax n)))) [ true ↦ labelled_good t d h.done i | false ↦ tt ]

op_good : (laws : TextLaws) (t : Table) (n : ℕ) (d : Draft) (ws : List (List ℕ)) (o : Option Line) → op_at (names_of t) ws ≡ o → ReadsDraft t d → IsOpen t d → Good t (read_op (names_of t) n d o)
op_good laws t n d ws None e h i = tt
op_good laws t n d ws (Some l) e h i =
    elim (bytes_eq l.name (codes "label")) as (λ b. Good t (cond b (read_label n d l) (unless n (put_line (names_of t) l d) (refusal (names_of t) d.seen (length d.ops) l)))) [
      | true ↦ label_good t n d l h i
      | false ↦ unless_good t n (put_line (names_of t) l d) (refusal (names_of t) d.seen (length d.ops) l) (λ r. put_good laws t d (code_of l.name) ws l refl e r h i)
    ]

-- ---- headings

closed_by : (t : Table) (p : Phase) (d : Draft) → Each (ReadsTrace t) d.done → Stands t p d → Each (ReadsTrace t) (cond (is_open p) (closed d) d).done
closed_by t phase.Before d done h = done
closed_by t phase.Inputs d done h = done
closed_by t phase.Label d done h = each_push (ReadsTrace t) d.done (open_trace d) done h.trace
closed_by t phase.Ops d done h = each_push (ReadsTrace t) d.done (open_trace d) done h.trace

closed_good : (t : Table) (d : Draft) → ReadsDraft t d → Each (ReadsTrace t) (closed_if d).done
closed_good t d h = closed_by t d.phase d h.done h.stands

from_reads : (laws : TextLaws) (o : Origin) (ws : List (List ℕ)) → SpellsOrigin ws o → ReadsOrigin o
from_reads laws origin.Loop ws h = tt
from_reads laws (origin.Bridge parent guard) ws h = guard_reads laws h.0 (origin.Bridge parent guard) h.2

heading_good : (laws : TextLaws) (t : Table) (n : ℕ) (d : Draft) (ws : List (List ℕ)) (o : Option Heading) → heading_at ws ≡ o → ReadsDraft t d → Good t (read_heading n d o)
heading_good laws t n d ws None e h = tt
heading_good laws t n d ws (Some x) e h = unless_good t n (begun x (closed_if d)) (heading_refusal d) (λ r.
    let s = heading_back ws x e in
    record { done = closed_good t d h; stands = record { name = s.2; from = from_reads laws x.origin s.0 s.3; ops = refl; seen = refl; guards = omega arith } })

-- ---- inputs

input_small : (t : Table) (v : Value) → SlotReads t v → (input_of v).number < 2 ^ 32
input_small t (value.Of b n) h = h.0
input_small t (value.Const z) h = omega arith
input_small t value.Null h = omega arith
input_small t (value.Named a) h = omega arith
input_small t value.Unknown h = omega arith

inputs_small : (t : Table) (vs : List Value) → Each (SlotReads t) vs → Each (λ (b : BoxId). b.number < 2 ^ 32) (map input_of vs)
inputs_small t [] h = tt
inputs_small t (v ∷ vs) h = (input_small t v h.0, inputs_small t vs h.1)

first_slots : (t : Table) (fs : List Slots) → Each (FrameReads t) fs → Each (SlotReads t) (slots_of fs)
first_slots t [] h = tt
first_slots t (f ∷ fs) h = (h.0).1

inputs_put : (t : Table) (d : Draft) (bs : List BoxId) → Each (λ (b : BoxId). b.number < 2 ^ 32) bs → length bs ≤ most_inputs d.origin → Each (ReadsTrace t) d.done → IsHeaded d → ReadsDraft t (put_inputs bs d)
inputs_put t d bs small few done h = record {
  done = done;
  stands = record {
    trace = record { name = h.name; from = h.from; inputs = small; few = few; ops = subst (λ (ops : List Op). ReadsOps t (with_boxes [] bs) 0 ops) (sym h.ops) tt };
    seen = ap (λ (s : List BoxId). with_boxes s bs) h.seen ∙ ap (λ (ops : List Op). seen_after (with_boxes [] bs) ops) (sym h.ops);
    guards = h.guards;
  };
}

inputs_good : (laws : TextLaws) (t : Table) (n : ℕ) (d : Draft) (ws : List (List ℕ)) (o : Option Line) → inputs_at (names_of t) ws ≡ o → ReadsDraft t d → IsHeaded d → Good t (read_inputs n d o)
inputs_good laws t n d ws None e h i = tt
inputs_good laws t n d ws (Some l) e h i =
    let vs : List Value = slots_of l.frames in
    let reads : Each (SlotReads t) vs = first_slots t l.frames (snapshot_reads laws t ws l.frames (inputs_back (names_of t) ws l e)) in
    elim (is_ended l.place) as (λ b. Good t (cond b (read_values n d vs) (Err (fault.Syntax n)))) [
      | true ↦ unless_good t n (put_inputs (map input_of vs) d) (inputs_refusal d.origin vs) (λ r.
          let few : length (map input_of vs) ≤ most_inputs d.origin = omega (arith, length-map input_of vs, inputs_count d.origin vs r) in
          inputs_put t d (map input_of vs) (inputs_small t vs reads) few h.done i)
      | false ↦ tt
    ]

-- ---- lines

body_good : (laws : TextLaws) (t : Table) (n : ℕ) (d : Draft) (ws : List (List ℕ)) → ReadsDraft t d → IsOpen t d → Good t (read_body (names_of t) n d ws)
body_good laws t n d ws h i =
    elim (has_key (codes "debug_merge_point") ws) as (λ b. Good t (cond b (cond (is_merge ws) (Ok d) (Err (fault.Syntax n))) (read_op (names_of t) n d (op_at (names_of t) ws)))) [
      | true ↦ elim (is_merge ws) as (λ b. Good t (cond b (Ok d) (Err (fault.Syntax n)))) [ true ↦ h | false ↦ tt ]
      | false ↦ op_good laws t n d ws (op_at (names_of t) ws) refl h i
    ]

in_good : (laws : TextLaws) (t : Table) (n : ℕ) (p : Phase) (d : Draft) (ws : List (List ℕ)) → ReadsDraft t d → Stands t p d → Good t (read_in (names_of t) n p d ws)
in_good laws t n phase.Before d ws h i = tt
in_good laws t n phase.Inputs d ws h i = inputs_good laws t n d ws (inputs_at (names_of t) ws) refl h i
in_good laws t n phase.Label d ws h i = body_good laws t n d ws h i
in_good laws t n phase.Ops d ws h i = body_good laws t n d ws h i

line_good : (laws : TextLaws) (t : Table) (n : ℕ) (line : List ℕ) (d : Draft) → ReadsDraft t d → Good t (read_line (names_of t) n line d)
unfolding read_line
line_good laws t n line d h =
    let said : Result Draft TextFault = cond (is_section (words line)) (read_heading n d (heading_at (words line))) (read_in (names_of t) n d.phase d (words line)) in
    let told : Result Draft TextFault = cond (is_skipped (words line)) (Ok d) said in
    elim (is_plain line) as (λ b. Good t (cond b told (Err (fault.Syntax n)))) [
      | true ↦ elim (is_skipped (words line)) as (λ b. Good t (cond b (Ok d) said)) [
        | true ↦ h
        | false ↦ elim (is_section (words line)) as (λ b. Good t (cond b (read_heading n d (heading_at (words line))) (read_in (names_of t) n d.phase d (words line)))) [
          | true ↦ heading_good laws t n d (words line) (heading_at (words line)) refl h
          | false ↦ in_good laws t n d.phase d (words line) h h.stands
        ]
      ]
      | false ↦ tt
    ]

-- ---- the set

-- the traces of a set that a text stands for
pub traces_read : (laws : TextLaws) (text : List ℕ) (x : TraceSet × ℕ) → set_at text ≡ Ok x → Each (ReadsTrace x.0.table) x.0.traces
traces_read laws text x e = set_keeps ReadsDraft (λ (t : Table). Each (ReadsTrace t)) (λ t. record { begins = record { done = tt; stands = tt }; line = line_good laws t; ends = closed_good t }) text x e
