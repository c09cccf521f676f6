-- A piece that can be planned can be placed, selected and numbered, and its instructions are short.
use Rattle.std.proofs.Common.{◌≡◌, ℕ, ◌+◌, ◌-◌, ◌*◌, ◌<◌, ◌≤◌, Bool, true, false, cond, List, [], ◌∷◌, length, Option, Some, None, refl, sym, ap, ◌∙◌, subst, arith, ℤ, pos, length-append}
use Rattle.std.specs.Prelude.{slice_get, sum_by, map}
use Rattle.std.specs.List.{All, flat_map}
use Rattle.std.specs.Int.{w32}
use Rattle.std.specs.Prelude.{FitsSigned}
use Rattle.std.proofs.lemmas.Int.{ints}
use Rattle.std.proofs.lemmas.List.Sums.{sum_by-cons}
use Rattle.std.proofs.lemmas.List.Elements.{All-get_or}
use Rattle.std.proofs.lemmas.Option.{slice_get_within, get_or_from_slice_get}
use Rattle.trace_ops.specs.declared.trace.TraceSet.{TraceSet}
use Rattle.trace_ops.specs.declared.piece.OptOp.{OptOp}
use Rattle.trace_ops.specs.declared.piece.OptOp.TheVariants as opt
use Rattle.trace_ops.specs.declared.piece.Piece.{Piece}
use Rattle.trace_ops.specs.Pieces.{args_of, results_of, jump_args, defined_by}
use Rattle.trace_ops.specs.Weights.{trace_weight}
use Rattle.target_base.specs.declared.place.Place.{Place}
use Rattle.linear_scan.specs.declared.places.Places.{Places}
use Rattle.linear_scan.specs.Placing.{Allocated, words_used}
use Rattle.x64_encode.specs.declared.instr.Instr.{Instr}
use Rattle.x64_encode.specs.Form.{spelling}
use Rattle.guard_exit.specs.Codes.{stub_code}
use Rattle.asm_select.specs.declared.selected.Selected.{Selected}
use Rattle.asm_select.specs.declared.told.Told.TheVariants as tell
use Rattle.asm_select.specs.Slots.{puts, sizes_of, jumps_from, unset}
use Rattle.asm_select.specs.Chosen.{all_code}
use Rattle.asm_select.specs.Laid.{has_stub, stub_sizes, ChosenHaveRows}
use Rattle.asm_select.specs.Selecting.{CanSelect, IsSelected}
use Rattle.code_layout.specs.Emitting.{AllHaveRows, KeysBelow, total_size}
use Rattle.code_layout.specs.Chosen.{ChosenJumps}
use Rattle.code_layout.specs.Laws.{SlotsHaveRows}
use Rattle.asm_select.specs.Fitting.{bytes_in, with_key, SelectedFits, IsShort}
use Rattle.bridge_patch.specs.Pieces.{exits_in, label_places}
use Rattle.bridge_patch.specs.Planning.{CanPlan, CanPlace, HasEnds, IsFitted, count_of, jump_count}
use Rattle.bridge_patch.proofs.Labels.{words_long, words_distinct, words_few, words_lawful, words_targets}

-- ---- numbers

pub ops_few : (ops : List OptOp) → length ops ≤ sum_by (λ (op : OptOp). 1 + length (args_of op)) ops
ops_few [] = omega arith
ops_few (op ∷ ops) = omega (arith, ops_few ops, sum_by-cons (λ (x : OptOp). 1 + length (args_of x)) op ops)

pub can_place : (set : TraceSet) (piece : Piece) (registers : ℕ) → CanPlan set piece registers → CanPlace piece registers
can_place set piece registers h = record {
  within = h.within;
  few = omega (arith, ops_few piece.ops, h.sound.small, h.weight);
  boxes = omega (arith, h.sound.few_boxes, h.weight);
  numbered = h.sound.formed.boxes_numbered;
  defined = h.sound.formed.boxes_defined;
}

pub label_few : (piece : Piece) (n : ℕ) → length (defined_by piece) < n → length piece.label < n
label_few piece n lt = omega (arith, lt, length-append piece.label (flat_map results_of piece.ops))

count_small : (ops : List OptOp) (i m : ℕ) (o : Option OptOp) → All (λ (op : OptOp). jump_args op ≤ m) ops → slice_get ops i ≡ o → count_of o ≤ m
count_small ops i m None all e = omega arith
count_small ops i m (Some op) all e =
    subst (λ (x : OptOp). jump_args x ≤ m) (get_or_from_slice_get ops i op op e) (All-get_or (λ (x : OptOp). jump_args x ≤ m) ops i op (slice_get_within ops i op e) all)

pub jumps_few : (set : TraceSet) (piece : Piece) (registers : ℕ) → CanPlan set piece registers → jump_count piece.ops ≤ 131136
jumps_few set piece registers h =
    let le = count_small piece.ops (length piece.ops - 1) (trace_weight set piece.id.trace + 64) (slice_get piece.ops (length piece.ops - 1)) h.sound.few_jump_args refl in
    omega (arith, le, h.weight)

-- ---- selection

pub loop_ends : (set : TraceSet) (piece : Piece) (registers : ℕ) → CanPlan set piece registers → HasEnds piece registers (label_places (length piece.label)) (label_places (jump_count piece.ops))
loop_ends set piece registers h =
    let n = jump_count piece.ops in
    let few : n ≤ 131136 = jumps_few set piece registers h in
    let label : length piece.label < 2 * trace_weight set piece.id.trace + 65 = label_few piece (2 * trace_weight set piece.id.trace + 65) (omega (arith, h.sound.few_boxes)) in
    let used : words_used (label_places (length piece.label)) ≤ 16 + length piece.label = words_few 16 (length piece.label) (omega arith) in record {
      labelled = record {
        long = words_long 16 (length piece.label);
        lawful = words_lawful registers (length piece.label) piece (omega (arith, label, h.weight));
        distinct = words_distinct (length piece.label);
      };
      few = omega (arith, used, label, h.weight);
      targets = record {
        each = λ i p e. words_targets n i p (omega (arith, few)) e;
        distinct = words_distinct n;
        count = λ k target args e.
            let last : k + 1 ≡ length piece.ops = (h.sound.formed.ends_once k (opt.Jump target args) e).0 refl in
            let m : length piece.ops - 1 ≡ k = omega (arith, last) in
            let c : jump_count piece.ops ≡ length args = ap (λ (i : ℕ). count_of (slice_get piece.ops i)) m ∙ ap count_of e in
            sym c ∙ sym (words_long 16 n);
      };
      short = omega (arith, words_long 16 n, few);
    }

pub can_select : (set : TraceSet) (piece : Piece) (registers : ℕ) (label to : List Place) (places : Places) → CanPlan set piece registers → HasEnds piece registers label to → Allocated piece registers label places → CanSelect set piece places to
can_select set piece registers label to places h ends a = record {
  label_of = h.label_of;
  sound = h.sound;
  few = (can_place set piece registers h).few;
  registers = registers;
  label = label;
  allocated = a;
  words = omega (arith, a.few, a.each, ends.few, ends.short, h.sound.few_boxes, h.weight);
  targets = ends.targets;
}

-- ---- bytes

total_bytes : (is : List Instr) → total_size is ≡ bytes_in is
total_bytes [] = refl
total_bytes (i ∷ is) = omega (arith, total_bytes is, sum_by-cons (λ (x : Instr). length (spelling x)) i is)

abbrev no_way : ℕ → ℤ
no_way k = pos 0

abbrev no_exit : ℕ → ℕ
no_exit k = 0

one_stub : (b : Bool) → cond b (sizes_of (puts (stub_code (pos 0) 0))) 0 ≡ 16 * cond b 1 0
one_stub true = refl
one_stub false = refl

stubs_are : (k : ℕ) (ops : List OptOp) → stub_sizes no_way no_exit k ops ≡ 16 * exits_in ops
stubs_are k [] = refl
stubs_are k (op ∷ ops) = omega (arith, one_stub (has_stub op), stubs_are (k + 1) ops)

zero_near : FitsSigned w32 (pos 0)
zero_near = omega (arith, ints)

pub same_key : (js : List (ℕ × ℕ)) → map (with_key 0) js ≡ js
same_key [] = refl
same_key ((m, k) ∷ js) =
    let n : 0 + k ≡ k = omega arith in
    ap (λ (i : ℕ). (m, i) ∷ map (with_key 0) js) n ∙ ap (λ (l : List (ℕ × ℕ)). (m, k) ∷ l) (same_key js)

pub fitted : SelectedFits → ChosenHaveRows → SlotsHaveRows → ChosenJumps → (set : TraceSet) (piece : Piece) (registers : ℕ) (label to : List Place) (places : Places) (s : Selected)
    → CanPlan set piece registers → HasEnds piece registers label to → Allocated piece registers label places → IsSelected set piece places to s → IsShort set piece s → IsFitted set piece label to registers places s
fitted fits have emitted jumps set piece registers label to places s h ends a sel short =
    let can = can_select set piece registers label to places h ends a in
    let f = fits set piece places to 0 s can h.table h.words sel in
    let rows = emitted (all_code f.c 0 tell.Nothing piece.ops) (have unset f.c 0 tell.Nothing piece.ops f.serves (λ k. zero_near) f.hold f.chosen) in record {
      allocated = a;
      can = can;
      code = sel;
      fits = f;
      rows = subst AllHaveRows (sym f.instrs) rows;
      keys =
          let same : s.jumps ≡ jumps_from 0 (all_code f.c 0 tell.Nothing piece.ops) = sym (same_key s.jumps) ∙ f.jumps in
          let n : 0 + length piece.ops ≡ length piece.ops = omega arith in
          subst (λ (k : ℕ). KeysBelow k s.jumps) n (subst (KeysBelow (0 + length piece.ops)) (sym same) ((jumps f.c 0 tell.Nothing piece.ops f.chosen).below 0));
      short = omega (arith, short h.table no_way no_exit, total_bytes s.instrs, stubs_are 0 piece.ops);
    }

pub instrs_few : ((i : Instr) → 1 ≤ length (spelling i)) → (is : List Instr) → length is ≤ total_size is
instrs_few least [] = omega arith
instrs_few least (i ∷ is) = omega (arith, least i, instrs_few least is)
