-- Recorded runs keep words.
use Rattle.std.proofs.Common.{◌≡◌, ℕ, zero, suc, Option, Some, None, List, [], ◌∷◌, slice_get, refl}
use Rattle.std.specs.List.{All}
use Rattle.std.proofs.lemmas.List.Elements.{All-nil, All-head, All-tail}
use Rattle.lists.proofs.Alls.{all_at, all_from}
use Rattle.trace_ops.specs.declared.trace.Frame.{Frame}
use Rattle.trace_ops.specs.declared.trace.Op.{Op}
use Rattle.trace_ops.specs.declared.trace.Trace.{Trace}
use Rattle.trace_ops.specs.declared.trace.TraceSet.{TraceSet}
use Rattle.trace_ops.specs.InRange.{IsInRange}
use Rattle.trace_ops.specs.Constants.{ArgHasWord, HasWords}
use Rattle.trace_meaning.specs.declared.value.Value.{Value}
use Rattle.trace_meaning.specs.declared.call.Answer.{Answer}
use Rattle.trace_meaning.specs.World.{World, failed}
use Rattle.trace_meaning.specs.Boxes.{BoxesDecide}
use Rattle.trace_meaning.specs.Cuts.{Cuts, seen_bridge}
use Rattle.trace_meaning.specs.Legs.{Leave, Fails, Jumps, Finishes, Waits, Misfits, Wrong, Turn, On, Off, In, Over, into, enter, settle, next, run}
use Rattle.trace_meaning.specs.Recorded.{Rec, RecordedNow, recorded, recorded_step, ops_of, inputs_of, ops_at, begin_at, jump_target, slots_of, first_world, started, recorded_run}
use Rattle.trace_meaning.specs.Sound.{HasWord, AnswersWords, HoldsWords}
use Rattle.trace_meaning.specs.Worded.{BoxesHaveWords, LeaveHasWords, RunHasWords}
use Rattle.trace_meaning.proofs.HoldingSteps.{slots_named}
use Rattle.trace_meaning.proofs.WordSteps.{TurnHasWords, bind_all-words, no-boxes, step_words, fields-few}
use Rattle.trace_meaning.proofs.WordStarts.{first-words}

abbrev pub OpWords : Op → Type 0
OpWords op = All ArgHasWord op.args × All ArgHasWord (slots_of op.snapshot)

-- where a run stands, with the operations to come
abbrev NowWords : RecordedNow → Type 0
NowWords (In p rest s) = All OpWords rest × BoxesHaveWords s.boxes × HoldsWords s.world
NowWords (Over p l) = LeaveHasWords l

failed_words : (w : World) → HoldsWords w → HoldsWords (failed w)
failed_words w h = record { words = h.words; short = h.short; answers = h.answers; calls = h.calls }

module _ (set : TraceSet) (constants : HasWords set) where
  pub trace_words : (p : ℕ) (t : Option Trace) → slice_get set.traces p ≡ t → All OpWords (ops_of t)
  trace_words p None is = All-nil OpWords
  trace_words p (Some t) is = all_from OpWords t.ops (λ k op at. (
    all_at (λ (o : Op). All ArgHasWord o.args) t.ops k op (all_at (λ (t : Trace). All (λ (o : Op). All ArgHasWord o.args) t.ops) set.traces p t constants.args is) at,
    slots_named ArgHasWord op.snapshot (all_at (λ (o : Op). All (λ (f : Frame). All ArgHasWord f.slots) o.snapshot) t.ops k op (all_at (λ (t : Trace). All (λ (o : Op). All (λ (f : Frame). All ArgHasWord f.slots) o.snapshot) t.ops) set.traces p t constants.slots is) at),
  ))

  pub ops_words : (p : ℕ) → All OpWords (ops_at set p)
  ops_words p = trace_words p (slice_get set.traces p) refl

module _ (decides : BoxesDecide) (set : TraceSet) (cuts : Cuts) (range : IsInRange set) (constants : HasWords set) where
  begin_words : (p : ℕ) (vs : List Value) (w : World) → All HasWord vs → HoldsWords w → NowWords (In p (ops_at set p) (begin_at set p vs w))
  begin_words p vs w k h = (ops_words set constants p, bind_all-words decides [] (inputs_of (slice_get set.traces p)) vs no-boxes k, h)

  into_words : (p n : ℕ) (vs : List Value) (w : World) (q : Option ℕ) → All HasWord vs → HoldsWords w → NowWords (into (recorded set cuts) p n vs w q)
  into_words p n vs w None k h = (k, failed_words w h)
  into_words p n vs w (Some q) k h = begin_words q vs (failed w) k (failed_words w h)

  enter_words : (p : ℕ) (l : Leave) → LeaveHasWords l → NowWords (enter (recorded set cuts) p l)
  enter_words p (Fails n vs w) h = into_words p n vs w (seen_bridge set.traces cuts p n w.failures) h.0 h.1
  enter_words p (Jumps vs w) h = begin_words (jump_target set p) vs w h.0 h.1
  enter_words p (Finishes vs w) h = h
  enter_words p (Waits w) h = h
  enter_words p (Misfits w) h = h
  enter_words p (Wrong w) h = h

  settle_words : (p : ℕ) (rest : List Op) (x : Turn Rec) → All OpWords rest → TurnHasWords x → NowWords (settle (recorded set cuts) p rest x)
  settle_words p rest (On s) k h = (k, h.0, h.1)
  settle_words p rest (Off l) k h = enter_words p l h

  next_words : (x : RecordedNow) → NowWords x → NowWords (next (recorded set cuts) x)
  next_words (In p [] s) h = (All-nil HasWord, h.2)
  next_words (In p (op ∷ ops) s) h =
      let one = All-head OpWords op ops h.0 in
      settle_words p ops (recorded_step set.table op s) (All-tail OpWords op ops h.0) (step_words decides set.table (fields-few set.table range.table) op s h.1 h.2 one.0 one.1)
  next_words (Over p l) h = h

  run_words : (n : ℕ) (x : RecordedNow) → NowWords x → NowWords (run (recorded set cuts) n x)
  run_words zero x h = h
  run_words (suc n) x h = run_words n (next (recorded set cuts) x) (next_words x h)

  told : (x : RecordedNow) → NowWords x → RunHasWords x
  told (In p rest s) h = (h.1, h.2)
  told (Over p l) h = h

  pub runs-keep_words : (start : ℕ) (inputs : List Value) (answers : List Answer) (n : ℕ) → All HasWord inputs → All AnswersWords answers → RunHasWords (recorded_run set start inputs answers cuts n)
  runs-keep_words start inputs answers n k h =
      told (recorded_run set start inputs answers cuts n) (run_words n (started set start inputs answers cuts) (begin_words start inputs (first_world set.table answers) k (first-words set.table answers range.table.within.prebuilt constants.initials h)))
