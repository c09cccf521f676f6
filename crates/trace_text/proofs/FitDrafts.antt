-- What reading makes of lines is in range.
use Rattle.std.proofs.Common.{◌≡◌, ℕ, suc, ◌+◌, ◌<◌, ◌≤◌, Bool, true, false, cond, List, [], ◌∷◌, ◌++◌, length, map, Option, Some, None, Result, Ok, Err, refl, ap, ◌∙◌, arith, length-append}
use Rattle.std.specs.Prelude.{not, ◌||◌, codes, nat_lt, nat_le, is_some}
use Rattle.std.specs.Str.{bytes_eq}
use Rattle.std.specs.List.{All, list_any}
use Rattle.std.proofs.lemmas.List.Elements.{All-nil, All-cons, All-append}
use Rattle.std.proofs.lemmas.Bool.Decides.{nat_tests}
use Rattle.std.proofs.lemmas.Bool.{or_parts}
use Rattle.text_lines.specs.Words.{words, is_plain}
use Rattle.text_lines.specs.Reading.{first_of, is_skipped}
use Rattle.trace_ops.specs.declared.code.OpCode.{OpCode}
use Rattle.trace_ops.specs.declared.trace.Frame.{Frame}
use Rattle.trace_ops.specs.declared.trace.Op.{Op}
use Rattle.trace_ops.specs.declared.trace.Trace.{Trace}
use Rattle.trace_ops.specs.declared.trace.TraceSet.{TraceSet}
use Rattle.trace_ops.specs.declared.table.Table.{Table}
use Rattle.trace_ops.specs.OpNames.{code_of}
use Rattle.trace_ops.specs.InRange.{IsSlot, NamesOperation, most_inputs, IsTraceWithin, IsTableInRange, IsInRange}
use Rattle.trace_text.specs.declared.value.Value.{Value}
use Rattle.trace_text.specs.declared.line.Line.{Line}
use Rattle.trace_text.specs.declared.line.Slots.{Slots}
use Rattle.trace_text.specs.declared.heading.Heading.{Heading}
use Rattle.trace_text.specs.declared.fault.Refusal.{Refusal}
use Rattle.trace_text.specs.declared.fault.Refusal.TheVariants.{Syntax, Float, UnknownOp, UnknownDescr, UnknownBox, Limit}
use Rattle.trace_text.specs.declared.fault.TextFault.{TextFault}
use Rattle.trace_text.specs.declared.fault.TextFault.TheVariants as fault
use Rattle.trace_text.specs.declared.draft.Draft.{Draft}
use Rattle.trace_text.specs.declared.draft.Phase.{Phase}
use Rattle.trace_text.specs.declared.draft.Phase.TheVariants as phase
use Rattle.trace_ops.specs.declared.table.What.TheVariants as what
use Rattle.trace_ops.specs.declared.trace.BoxId.{BoxId}
use Rattle.trace_ops.specs.declared.trace.Origin.{Origin}
use Rattle.trace_text.specs.Names.{Names, names_of}
use Rattle.trace_text.specs.Line.{op_at, inputs_at}
use Rattle.trace_text.specs.Heading.{heading_at, is_merge}
use Rattle.trace_text.specs.Meaning.{arg_of, frame_of, op_of, refusal, limits, is_float, has_float, any_value, is_unknown_box, has_unknown_name, is_misplaced}
use Rattle.trace_text.specs.Draft.{nothing, unless, with_op, put_code, put_line, is_label, labelled, read_label, read_op, is_open, closed, lacks_inputs, is_box, closed_if, trace_count, begun, heading_refusal, read_heading, input_of, slots_of, put_inputs, inputs_refusal, read_values, is_ended, read_inputs, has_key, is_section, read_body, read_in, read_line}
use Rattle.trace_text.specs.Sections.{set_at}
use Rattle.trace_text.proofs.SetWalk as walk
use Rattle.trace_text.proofs.SetWalk.{set_keeps}
use Rattle.trace_text.proofs.FitLines.{op_names, op_holds, slots-framed}

abbrev HoldsSlots : Op → Type 0
HoldsSlots op = All (λ (f : Frame). All IsSlot f.slots) op.snapshot

abbrev FewFrames : Op → Type 0
FewFrames op = length op.snapshot ≤ 32

abbrev FewSlots : Op → Type 0
FewSlots op = All (λ (f : Frame). length f.slots ≤ 256) op.snapshot

pub record TraceFits (t : Table) (tr : Trace) : Type 0 where
  pub names : All (NamesOperation t) tr.ops
  pub slots : All HoldsSlots tr.ops
  pub within : IsTraceWithin tr

-- the trace that is being read
abbrev pub open_trace : Draft → Trace
open_trace d = record { name = d.name; origin = d.origin; label = d.label; inputs = d.inputs; ops = d.ops }

record DraftFits (t : Table) (d : Draft) : Type 0 where
  done : All (TraceFits t) d.done
  open_fits : TraceFits t (open_trace d)
  few : length d.done < 256

-- what a step gives, unless it refuses
abbrev Good : Table → Result Draft TextFault → Type 0
Good t r = walk.Good (DraftFits t) r

unless_good : (t : Table) (n : ℕ) (d : Draft) (o : Option Refusal) → (o ≡ None → DraftFits t d) → Good t (unless n d o)
unless_good t n d None f = f refl
unless_good t n d (Some why) f = tt

-- ---- what it is not to be refused

pub none_first : (b : Bool) (r : Refusal) (more : List (Bool × Refusal)) → first_of ((b, r) ∷ more) ≡ None → (b ≡ false) × (first_of more ≡ None)
none_first true r more e = absurd cc
none_first false r more e = (refl, e)

pub not_more : (n m : ℕ) → not (nat_le n m) ≡ false → n ≤ m
not_more n m e = grind (arith, nat_tests)

not_full : (n m : ℕ) → not (nat_lt n m) ≡ false → n < m
not_full n m e = grind (arith, nat_tests)

pub record Passes (others : ℕ) (frames : List Slots) : Type 0 where
  pub operations : others < 8192
  pub frames_few : length frames ≤ 32
  pub slots_few : list_any (λ (f : Slots). not (nat_le (length f.slots) 256)) frames ≡ false

passes_limits : (others : ℕ) (frames : List Slots) → first_of (limits others frames) ≡ None → Passes others frames
passes_limits others frames e =
    let long : List (Bool × Refusal) = (list_any (λ (f : Slots). not (nat_le (length f.slots) 256)) frames, Limit what.Slots 257) ∷ [] in
    let many : List (Bool × Refusal) = (not (nat_le (length frames) 32), Limit what.Frames 33) ∷ long in
    let a = none_first (not (nat_lt others 8192)) (Limit what.Operations 8193) many e in
    let b = none_first (not (nat_le (length frames) 32)) (Limit what.Frames 33) long a.1 in
    let c = none_first (list_any (λ (f : Slots). not (nat_le (length f.slots) 256)) frames) (Limit what.Slots 257) [] b.1 in
    record { operations = not_full others 8192 a.0; frames_few = not_more (length frames) 32 b.0; slots_few = c.0 }

pub passes : (names : Names) (seen : List BoxId) (others : ℕ) (l : Line) → refusal names seen others l ≡ None → Passes others l.frames
unfolding refusal
passes names seen others l e =
    let last : List (Bool × Refusal) = limits others l.frames in
    let boxes : List (Bool × Refusal) = (any_value (is_unknown_box seen) l, UnknownBox) ∷ last in
    let unknown : List (Bool × Refusal) = (has_unknown_name names l, UnknownDescr) ∷ boxes in
    let ops : List (Bool × Refusal) = (not (is_some (code_of l.name)), UnknownOp) ∷ unknown in
    let floats : List (Bool × Refusal) = (has_float l, Float) ∷ ops in
    let a = none_first (is_misplaced l) Syntax floats e in
    let b = none_first (has_float l) Float ops a.1 in
    let c = none_first (not (is_some (code_of l.name))) UnknownOp unknown b.1 in
    let d = none_first (has_unknown_name names l) UnknownDescr boxes c.1 in
    let f = none_first (any_value (is_unknown_box seen) l) UnknownBox last d.1 in
    passes_limits others l.frames f.1

-- ---- an operation

pub length-map : {X Y : Type 0} (f : X → Y) (xs : List X) → length (map f xs) ≡ length xs
length-map f [] = refl
length-map f (x ∷ xs) = ap suc (length-map f xs)

slots-frame : (own : List ℕ) (guard : ℕ) (f : Slots) → length (frame_of own guard f).slots ≡ length f.slots
slots-frame own guard f = ap length (slots-framed (map arg_of f.slots) own guard f.head) ∙ length-map arg_of f.slots

few_slots : (own : List ℕ) (guard : ℕ) (fs : List Slots) → list_any (λ (f : Slots). not (nat_le (length f.slots) 256)) fs ≡ false → All (λ (f : Frame). length f.slots ≤ 256) (map (frame_of own guard) fs)
few_slots own guard [] e = All-nil (λ (f : Frame). length f.slots ≤ 256)
few_slots own guard (f ∷ fs) e =
    let p = or_parts (not (nat_le (length f.slots) 256)) (list_any (λ (g : Slots). not (nat_le (length g.slots) 256)) fs) e in
    let small : length (frame_of own guard f).slots ≤ 256 = omega (arith, slots-frame own guard f, not_more (length f.slots) 256 p.0) in
    All-cons (λ (g : Frame). length g.slots ≤ 256) (frame_of own guard f) (map (frame_of own guard) fs) small (few_slots own guard fs p.1)

more_op : (P : Op → Type 0) (ops : List Op) (op : Op) → All P ops → P op → All P (ops ++ op ∷ [])
more_op P ops op h p = All-append P ops (op ∷ []) h (All-cons P op [] p (All-nil P))

with_op_fits : (t : Table) (d : Draft) (c : OpCode) (ws : List (List ℕ)) (l : Line) → op_at (names_of t) ws ≡ Some l → Passes (length d.ops) l.frames → DraftFits t d → DraftFits t (with_op c (op_of (names_of t) d.name d.guards c l) d)
with_op_fits t d c ws l e p h =
    let op : Op = op_of (names_of t) d.name d.guards c l in
    let frames : length op.snapshot ≤ 32 = omega (arith, length-map (frame_of d.name d.guards) l.frames, p.frames_few) in
    let count : length (d.ops ++ op ∷ []) ≤ 8192 = omega (arith, length-append d.ops (op ∷ []), p.operations) in
    record {
      done = h.done;
      open_fits = record {
        names = more_op (NamesOperation t) d.ops op h.open_fits.names (op_names t d.name d.guards c ws l e);
        slots = more_op HoldsSlots d.ops op h.open_fits.slots (op_holds t d.name d.guards c ws l e);
        within = record {
          operations = count;
          inputs = h.open_fits.within.inputs;
          frames = more_op FewFrames d.ops op h.open_fits.within.frames frames;
          slots = more_op FewSlots d.ops op h.open_fits.within.slots (few_slots d.name d.guards l.frames p.slots_few);
        };
      };
      few = h.few;
    }

put_fits : (t : Table) (d : Draft) (o : Option OpCode) (ws : List (List ℕ)) (l : Line) → op_at (names_of t) ws ≡ Some l → Passes (length d.ops) l.frames → DraftFits t d → DraftFits t (put_code (names_of t) l d o)
put_fits t d None ws l e p h = h
put_fits t d (Some c) ws l e p h = with_op_fits t d c ws l e p h

labelled_fits : (t : Table) (d : Draft) → DraftFits t d → DraftFits t (labelled d)
labelled_fits t d h = record {
  done = h.done;
  open_fits = record {
    names = h.open_fits.names;
    slots = h.open_fits.slots;
    within = record { operations = h.open_fits.within.operations; inputs = h.open_fits.within.inputs; frames = h.open_fits.within.frames; slots = h.open_fits.within.slots };
  };
  few = h.few;
}

label_good : (t : Table) (n : ℕ) (d : Draft) (l : Line) → DraftFits t d → Good t (read_label n d l)
label_good t n d l h = elim (is_label d l) as (λ b. Good t (cond b (Ok (labelled d)) (Err (fault.Syntax n)))) [ true ↦ labelled_fits t d h | false ↦ tt ]

op_good : (t : Table) (n : ℕ) (d : Draft) (ws : List (List ℕ)) (o : Option Line) → op_at (names_of t) ws ≡ o → DraftFits t d → Good t (read_op (names_of t) n d o)
op_good t n d ws None e h = tt
op_good t n d ws (Some l) e h =
    elim (bytes_eq l.name (codes "label")) as (λ b. Good t (cond b (read_label n d l) (unless n (put_line (names_of t) l d) (refusal (names_of t) d.seen (length d.ops) l)))) [
      | true ↦ label_good t n d l h
      | false ↦ unless_good t n (put_line (names_of t) l d) (refusal (names_of t) d.seen (length d.ops) l) (λ r. put_fits t d (code_of l.name) ws l e (passes (names_of t) d.seen (length d.ops) l r) h)
    ]

-- ---- headings

closed_done : (t : Table) (d : Draft) (b : Bool) → DraftFits t d → All (TraceFits t) (cond b (closed d) d).done
closed_done t d true h = All-append (TraceFits t) d.done (open_trace d ∷ []) h.done (All-cons (TraceFits t) (open_trace d) [] h.open_fits (All-nil (TraceFits t)))
closed_done t d false h = h.done

closed_count : (d : Draft) (b : Bool) → cond b (length d.done + 1) (length d.done) < 256 → length (cond b (closed d) d).done < 256
closed_count d true lt = omega (arith, lt, length-append d.done (open_trace d ∷ []))
closed_count d false lt = lt

empty_fits : (t : Table) (h : Heading) → TraceFits t (record { name = h.name; origin = h.origin; label = false; inputs = []; ops = [] })
empty_fits t h = record {
  names = All-nil (NamesOperation t);
  slots = All-nil HoldsSlots;
  within = record { operations = omega arith; inputs = omega arith; frames = All-nil FewFrames; slots = All-nil FewSlots };
}

heading_count : (d : Draft) → heading_refusal d ≡ None → trace_count d < 256
heading_count d e =
    let last : List (Bool × Refusal) = (not (nat_lt (trace_count d) 256), Limit what.Traces 257) ∷ [] in
    let a = none_first (lacks_inputs d.phase) Syntax last e in
    let b = none_first (not (nat_lt (trace_count d) 256)) (Limit what.Traces 257) [] a.1 in
    not_full (trace_count d) 256 b.0

heading_good : (t : Table) (n : ℕ) (d : Draft) (o : Option Heading) → DraftFits t d → Good t (read_heading n d o)
heading_good t n d None h = tt
heading_good t n d (Some x) h = unless_good t n (begun x (closed_if d)) (heading_refusal d) (λ e.
    record { done = closed_done t d (is_open d.phase) h; open_fits = empty_fits t x; few = closed_count d (is_open d.phase) (heading_count d e) })

-- ---- inputs

pub inputs_count : (o : Origin) (vs : List Value) → inputs_refusal o vs ≡ None → length vs ≤ most_inputs o
inputs_count o vs e =
    let last : List (Bool × Refusal) = (not (nat_le (length vs) (most_inputs o)), Limit what.Inputs (most_inputs o + 1)) ∷ [] in
    let floats : List (Bool × Refusal) = (list_any is_float vs, Float) ∷ last in
    let a = none_first (list_any (λ v. not (is_box v)) vs) Syntax floats e in
    let b = none_first (list_any is_float vs) Float last a.1 in
    let c = none_first (not (nat_le (length vs) (most_inputs o))) (Limit what.Inputs (most_inputs o + 1)) [] b.1 in
    not_more (length vs) (most_inputs o) c.0

inputs_fit : (t : Table) (d : Draft) (vs : List Value) → length vs ≤ most_inputs d.origin → DraftFits t d → DraftFits t (put_inputs (map input_of vs) d)
inputs_fit t d vs le h = record {
  done = h.done;
  open_fits = record {
    names = h.open_fits.names;
    slots = h.open_fits.slots;
    within = record { operations = h.open_fits.within.operations; inputs = omega (arith, le, length-map input_of vs); frames = h.open_fits.within.frames; slots = h.open_fits.within.slots };
  };
  few = h.few;
}

inputs_good : (t : Table) (n : ℕ) (d : Draft) (o : Option Line) → DraftFits t d → Good t (read_inputs n d o)
inputs_good t n d None h = tt
inputs_good t n d (Some l) h =
    elim (is_ended l.place) as (λ b. Good t (cond b (read_values n d (slots_of l.frames)) (Err (fault.Syntax n)))) [
      | true ↦ unless_good t n (put_inputs (map input_of (slots_of l.frames)) d) (inputs_refusal d.origin (slots_of l.frames)) (λ e. inputs_fit t d (slots_of l.frames) (inputs_count d.origin (slots_of l.frames) e) h)
      | false ↦ tt
    ]

-- ---- lines

body_good : (t : Table) (n : ℕ) (d : Draft) (ws : List (List ℕ)) → DraftFits t d → Good t (read_body (names_of t) n d ws)
body_good t n d ws h =
    elim (has_key (codes "debug_merge_point") ws) as (λ b. Good t (cond b (cond (is_merge ws) (Ok d) (Err (fault.Syntax n))) (read_op (names_of t) n d (op_at (names_of t) ws)))) [
      | true ↦ elim (is_merge ws) as (λ b. Good t (cond b (Ok d) (Err (fault.Syntax n)))) [ true ↦ h | false ↦ tt ]
      | false ↦ op_good t n d ws (op_at (names_of t) ws) refl h
    ]

in_good : (t : Table) (n : ℕ) (p : Phase) (d : Draft) (ws : List (List ℕ)) → DraftFits t d → Good t (read_in (names_of t) n p d ws)
in_good t n phase.Before d ws h = tt
in_good t n phase.Inputs d ws h = inputs_good t n d (inputs_at (names_of t) ws) h
in_good t n phase.Label d ws h = body_good t n d ws h
in_good t n phase.Ops d ws h = body_good t n d ws h

line_good : (t : Table) (n : ℕ) (line : List ℕ) (d : Draft) → DraftFits t d → Good t (read_line (names_of t) n line d)
unfolding read_line
line_good t n line d h =
    let said : Result Draft TextFault = cond (is_section (words line)) (read_heading n d (heading_at (words line))) (read_in (names_of t) n d.phase d (words line)) in
    let told : Result Draft TextFault = cond (is_skipped (words line)) (Ok d) said in
    elim (is_plain line) as (λ b. Good t (cond b told (Err (fault.Syntax n)))) [
      | true ↦ elim (is_skipped (words line)) as (λ b. Good t (cond b (Ok d) said)) [
        | true ↦ h
        | false ↦ elim (is_section (words line)) as (λ b. Good t (cond b (read_heading n d (heading_at (words line))) (read_in (names_of t) n d.phase d (words line)))) [
          | true ↦ heading_good t n d (heading_at (words line)) h
          | false ↦ in_good t n d.phase d (words line) h
        ]
      ]
      | false ↦ tt
    ]

nothing_fits : (t : Table) → DraftFits t nothing
nothing_fits t = record {
  done = All-nil (TraceFits t);
  open_fits = record {
    names = All-nil (NamesOperation t);
    slots = All-nil HoldsSlots;
    within = record { operations = omega arith; inputs = omega arith; frames = All-nil FewFrames; slots = All-nil FewSlots };
  };
  few = omega arith;
}

-- ---- the set

abbrev pub TracesFit : Table → List Trace → Type 0
TracesFit t traces = All (TraceFits t) traces × (length traces ≤ 256)

closed_few : (d : Draft) (b : Bool) → length d.done < 256 → length (cond b (closed d) d).done ≤ 256
closed_few d true lt = omega (arith, lt, length-append d.done (open_trace d ∷ []))
closed_few d false lt = omega (arith, lt)

-- the traces of a set that a text stands for
pub set_fits : (text : List ℕ) (x : TraceSet × ℕ) → set_at text ≡ Ok x → TracesFit x.0.table x.0.traces
set_fits text x e = set_keeps DraftFits TracesFit (λ t. record { begins = nothing_fits t; line = line_good t; ends = λ d h. (closed_done t d (is_open d.phase) h, closed_few d (is_open d.phase) h.few) }) text x e

pub in_range : (text : List ℕ) (x : TraceSet × ℕ) → set_at text ≡ Ok x → IsTableInRange x.0.table → IsInRange x.0
in_range text x e table =
    let h = set_fits text x e in
    record {
      table = table;
      operations_name_rows = λ k d lt. (h.0 k d lt).names;
      slots_hold_values = λ k d lt. (h.0 k d lt).slots;
      traces_within = λ k d lt. (h.0 k d lt).within;
      few_traces = h.1;
    }
