-- Where a run starts there are words alone.
use Rattle.std.proofs.Common.{◌≡◌, ℕ, ◌+◌, ◌<◌, ◌≤◌, ◌^◌, List, [], ◌∷◌, Option, Some, None, length, map, slice_get, refl, ap, sym, ◌∙◌, subst, arith}
use Rattle.std.specs.Prelude.{sum_by, IsSomeAnd}
use Rattle.std.specs.List.{All}
use Rattle.std.proofs.lemmas.List.{length-map}
use Rattle.std.proofs.lemmas.List.Sums.{sum_by-cons}
use Rattle.std.proofs.lemmas.List.Elements.{All-nil, All-cons, All-head, All-tail}
use Rattle.trace_ops.specs.declared.trace.BoxId.{BoxId}
use Rattle.trace_ops.specs.declared.trace.Trace.{Trace}
use Rattle.trace_ops.specs.declared.trace.TraceSet.{TraceSet}
use Rattle.trace_ops.specs.declared.table.Initial.{Initial}
use Rattle.trace_ops.specs.declared.table.Initial.TheVariants as initial
use Rattle.trace_ops.specs.declared.table.PrebuiltRow.{PrebuiltRow}
use Rattle.trace_ops.specs.declared.table.ShapeOf.{ShapeOf}
use Rattle.trace_ops.specs.declared.table.ShapeOf.TheVariants as shape
use Rattle.trace_ops.specs.declared.table.Table.{Table}
use Rattle.trace_ops.specs.InRange.{IsInRange, bytes_of_object, prebuilt_bytes}
use Rattle.trace_ops.specs.Constants.{InitialHasWord, HasWords}
use Rattle.trace_meaning.specs.declared.value.Value.{Value}
use Rattle.trace_meaning.specs.declared.value.Value.TheVariants as v
use Rattle.trace_meaning.specs.declared.value.Object.{Object}
use Rattle.trace_meaning.specs.declared.call.Answer.{Answer}
use Rattle.trace_meaning.specs.World.{Logged}
use Rattle.trace_meaning.specs.Recorded.{initial_value, prebuilt_object, first_world, inputs_of}
use Rattle.trace_meaning.specs.Starting.{Starts, StartsLoop, IsPrebuiltOrNone}
use Rattle.trace_meaning.specs.Kinds.{IsThere}
use Rattle.trace_meaning.specs.Sound.{HasWord, AnswersWords, CallHasWords, HoldsWords, CanBegin}
use Rattle.trace_meaning.proofs.HoldingStarts.{Holds-first_world}

initial_word : (p : Initial) → InitialHasWord p → HasWord (initial_value p)
initial_word (initial.Int z) h = h
initial_word initial.Null h = tt
initial_word (initial.Ptr k) h = tt

initials_words : (ps : List Initial) → All InitialHasWord ps → All HasWord (map initial_value ps)
initials_words [] h = All-nil HasWord
initials_words (p ∷ ps) h = All-cons HasWord (initial_value p) (map initial_value ps) (initial_word p (All-head InitialHasWord p ps h)) (initials_words ps (All-tail InitialHasWord p ps h))

abbrev RowWords : PrebuiltRow → Type 0
RowWords row = All InitialHasWord row.parts

abbrev ObjectWords : Object → Type 0
ObjectWords o = All HasWord o.parts

rows_words : (rows : List PrebuiltRow) → All RowWords rows → All ObjectWords (map prebuilt_object rows)
rows_words [] h = All-nil ObjectWords
rows_words (r ∷ rs) h = All-cons ObjectWords (prebuilt_object r) (map prebuilt_object rs) (initials_words r.parts (All-head RowWords r rs h)) (rows_words rs (All-tail RowWords r rs h))

abbrev IsShort : Object → Type 0
IsShort o = length o.parts < 2 ^ 63

few_parts : (of : ShapeOf) (n : ℕ) → n ≤ bytes_of_object of n
few_parts (shape.Size k) n = omega arith
few_parts (shape.Array k) n = omega arith

rows_short : (rows : List PrebuiltRow) → sum_by prebuilt_bytes rows ≤ 32768 → All IsShort (map prebuilt_object rows)
rows_short [] h = All-nil IsShort
rows_short (r ∷ rs) h =
    let whole : prebuilt_bytes r + sum_by prebuilt_bytes rs ≤ 32768 = subst (λ n. n ≤ 32768) (sum_by-cons prebuilt_bytes r rs) h in
    let few : length r.parts ≤ prebuilt_bytes r = few_parts r.of (length r.parts) in
    let same : length (map initial_value r.parts) ≡ length r.parts = length-map r.parts initial_value in
    let one : length (map initial_value r.parts) < 2 ^ 63 = omega arith in
    let rest : sum_by prebuilt_bytes rs ≤ 32768 = omega arith in
    All-cons IsShort (prebuilt_object r) (map prebuilt_object rs) one (rows_short rs rest)

pub first-words : (t : Table) (answers : List Answer) → sum_by prebuilt_bytes t.prebuilts ≤ 32768 → All RowWords t.prebuilts → All AnswersWords answers → HoldsWords (first_world t answers)
first-words t answers few rows words = record { words = rows_words t.prebuilts rows; short = rows_short t.prebuilts few; answers = words; calls = All-nil (λ (x : Logged). CallHasWords x.event) }

-- Inputs

input_there : (t : Table) (n : ℕ) (x : Value) → length t.prebuilts ≤ n → IsPrebuiltOrNone t x → IsThere n x
input_there t n (v.Int z) le h = tt
input_there t n v.Null le h = tt
input_there t n (v.Obj k) le h = let less : k < length t.prebuilts = h in omega arith

inputs_there : (t : Table) (n : ℕ) (xs : List Value) → length t.prebuilts ≤ n → All (IsPrebuiltOrNone t) xs → All (IsThere n) xs
inputs_there t n [] le h = All-nil (IsThere n)
inputs_there t n (x ∷ xs) le h = All-cons (IsThere n) x xs (input_there t n x le (All-head (IsPrebuiltOrNone t) x xs h)) (inputs_there t n xs le (All-tail (IsPrebuiltOrNone t) x xs h))

module _ (set : TraceSet) (start : ℕ) (inputs : List Value) (answers : List Answer) (range : IsInRange set) (words : HasWords set) (input_words : All HasWord inputs) (answer_words : All AnswersWords answers) where
  begun : (t : Option Trace) → slice_get set.traces start ≡ t → IsSomeAnd t (StartsLoop set.table inputs) → CanBegin set start inputs (first_world set.table answers)
  begun None is h = absurd h
  begun (Some t) is h =
      let holds = Holds-first_world set.table answers range.table in
      record {
        world = record { prebuilts = holds.prebuilts; kinds = holds.objects; words = first-words set.table answers range.table.within.prebuilt words.initials answer_words };
        kinds = h.1 ∙ ap (λ (o : Option Trace). map (λ (b : BoxId). b.kind) (inputs_of o)) (sym is);
        there = inputs_there set.table (length (map prebuilt_object set.table.prebuilts)) inputs holds.prebuilts h.2;
        words = input_words;
      }

  pub starts-can_begin : Starts set start inputs → CanBegin set start inputs (first_world set.table answers)
  starts-can_begin h = begun (slice_get set.traces start) refl h
