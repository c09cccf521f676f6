-- A loop and its first piece start at a pair.
use Rattle.std.proofs.Common.{◌≡◌, ℕ, ◌+◌, ◌<◌, ◌≤◌, ◌^◌, List, [], ◌∷◌, Option, Some, None, length, map, slice_get, refl, ap, sym, ◌∙◌, subst, arith}
use Rattle.std.specs.Prelude.{sum_by, IsSomeAnd}
use Rattle.std.specs.List.{All, AllByRecursion}
use Rattle.std.proofs.lemmas.List.{length-map, append-nil}
use Rattle.std.proofs.lemmas.Simd.{map-map}
use Rattle.std.proofs.lemmas.List.Sums.{sum_by-cons}
use Rattle.std.proofs.lemmas.List.Elements.{All-nil, All-cons, All-head, All-tail}
use Rattle.trace_ops.specs.declared.trace.BoxId.{BoxId}
use Rattle.trace_ops.specs.declared.trace.Trace.{Trace}
use Rattle.trace_ops.specs.declared.trace.TraceSet.{TraceSet}
use Rattle.trace_ops.specs.declared.table.Initial.{Initial}
use Rattle.trace_ops.specs.declared.table.Initial.TheVariants as initial
use Rattle.trace_ops.specs.declared.table.PrebuiltRow.{PrebuiltRow}
use Rattle.trace_ops.specs.declared.table.ShapeOf.{ShapeOf}
use Rattle.trace_ops.specs.declared.table.ShapeOf.TheVariants as shape
use Rattle.trace_ops.specs.declared.table.Table.{Table}
use Rattle.trace_ops.specs.declared.piece.PieceId.{PieceId}
use Rattle.trace_ops.specs.declared.piece.Entry.{Entry}
use Rattle.trace_ops.specs.Lawful.{AreDistinct}
use Rattle.trace_ops.specs.InRange.{IsInRange, IsPrebuilt, NamesInitial, bytes_of_object, prebuilt_bytes}
use Rattle.trace_meaning.specs.declared.value.Value.{Value}
use Rattle.trace_meaning.specs.declared.value.Value.TheVariants as v
use Rattle.trace_meaning.specs.declared.value.Object.{Object}
use Rattle.trace_meaning.specs.declared.call.Answer.{Answer}
use Rattle.trace_meaning.specs.World.{World}
use Rattle.trace_meaning.specs.Recorded.{initial_value, prebuilt_object, first_world, inputs_of}
use Rattle.trace_meaning.specs.Growing.{extent}
use Rattle.trace_meaning.specs.Starting.{Starts, StartsLoop, IsPrebuiltOrNone}
use Rattle.trace_meaning.specs.Kinds.{IsThere}
use Rattle.trace_meaning.specs.Legs.{At}
use Rattle.trace_meaning.specs.Boxes.{BindingLaws}
use Rattle.trace_meaning.specs.Laws.{StartsCanBegin}
use Rattle.heap_shape.specs.Visiting.{IsWithin, AreWithin, IsClosed}
use Rattle.trace_ops.specs.Constants.{InitialHasWord, HasWords}
use Rattle.trace_meaning.specs.Sound.{HasWord, AnswersWords, IsSoundWorld, CanBegin}
use Rattle.opt_meaning.specs.Admits.{Admits, plain_entry}
use Rattle.opt_meaning.specs.Composing.{Joined, Paired}
use Rattle.opt_meaning.proofs.Identity.{admits-itself}

-- Prebuilt objects

initial_within : (t : Table) (p : Initial) → NamesInitial t p → IsWithin (length t.prebuilts) (initial_value p)
initial_within t (initial.Int z) h = tt
initial_within t initial.Null h = tt
initial_within t (initial.Ptr k) h = h

initials_within : (t : Table) (ps : List Initial) → All (NamesInitial t) ps → AreWithin (length t.prebuilts) (map initial_value ps)
initials_within t [] h = tt
initials_within t (p ∷ ps) h = (initial_within t p (All-head (NamesInitial t) p ps h), initials_within t ps (All-tail (NamesInitial t) p ps h))

rows_closed : (t : Table) (rows : List PrebuiltRow) → All (IsPrebuilt t) rows → AllByRecursion (λ (o : Object). AreWithin (length t.prebuilts) o.parts) (map prebuilt_object rows)
rows_closed t [] h = tt
rows_closed t (r ∷ rs) h = (initials_within t r.parts (All-head (IsPrebuilt t) r rs h).1, rows_closed t rs (All-tail (IsPrebuilt t) r rs h))

-- Inputs

input_within : (t : Table) (n : ℕ) (x : Value) → length t.prebuilts ≤ n → IsPrebuiltOrNone t x → IsWithin n x
input_within t n (v.Int z) le h = tt
input_within t n v.Null le h = tt
input_within t n (v.Obj k) le h = let less : k < length t.prebuilts = h in omega arith

inputs_within : (t : Table) (n : ℕ) (xs : List Value) → length t.prebuilts ≤ n → All (IsPrebuiltOrNone t) xs → AreWithin n xs
inputs_within t n [] le h = tt
inputs_within t n (x ∷ xs) le h = (input_within t n x le (All-head (IsPrebuiltOrNone t) x xs h), inputs_within t n xs le (All-tail (IsPrebuiltOrNone t) x xs h))

module _ (binding : BindingLaws) (can_begin : StartsCanBegin) (set : TraceSet) (start : ℕ) (inputs : List Value) (answers : List Answer) (range : IsInRange set) (words : HasWords set) (input_words : All HasWord inputs) (answer_words : All AnswersWords answers) where
  count : length (map prebuilt_object set.table.prebuilts) ≡ length set.table.prebuilts
  count = length-map set.table.prebuilts prebuilt_object

  closed : IsClosed (map prebuilt_object set.table.prebuilts)
  closed = subst (λ n. AllByRecursion (λ (o : Object). AreWithin n o.parts) (map prebuilt_object set.table.prebuilts)) (sym count) (rows_closed set.table set.table.prebuilts range.table.prebuilts_fit)

  prebuilt_inputs : (t : Option Trace) → IsSomeAnd t (StartsLoop set.table inputs) → All (IsPrebuiltOrNone set.table) inputs
  prebuilt_inputs None h = absurd h
  prebuilt_inputs (Some t) h = h.2

  pub starts-paired : Starts set start inputs → (k : Joined ℕ PieceId) (q : PieceId) (bs : List BoxId) → k.trace q ≡ start → k.entry q ≡ plain_entry bs → AreDistinct bs
      → map (λ (b : BoxId). b.kind) bs ≡ map (λ (b : BoxId). b.kind) (inputs_of (slice_get set.traces start))
      → Paired set.table k (CanBegin set) (At start inputs (first_world set.table answers)) (At q inputs (first_world set.table answers))
  starts-paired starts k q bs trace entry distinct kinds =
      let n : length (map prebuilt_object set.table.prebuilts) ≡ length set.table.prebuilts = count in
      let can = can_begin set start inputs answers range words input_words answer_words starts in
      let admitted : Admits set.table (plain_entry bs) inputs (first_world set.table answers) inputs (first_world set.table answers) =
      admits-itself binding set.table bs inputs (first_world set.table answers) (record { parts = closed; calls = tt }) distinct (can.kinds ∙ sym kinds) ([], map-map extent prebuilt_object set.table.prebuilts ∙ sym (append-nil (map (λ row. extent (prebuilt_object row)) set.table.prebuilts)))
      (inputs_within set.table (length (map prebuilt_object set.table.prebuilts)) inputs (omega arith) (prebuilt_inputs (slice_get set.traces start) starts)) in
      (trace, can, subst (λ (e : Entry). Admits set.table e inputs (first_world set.table answers) inputs (first_world set.table answers)) (sym entry) admitted)
