-- What a plain operation leaves, as the definitions say it.
use Rattle.std.proofs.Common.{◌≡◌, ℕ, ◌+◌, ◌-◌, Option, Some, None, length, drop, refl, ap, sym, ◌∙◌, subst}
use Rattle.trace_ops.specs.declared.trace.BoxId.{BoxId}
use Rattle.trace_ops.specs.declared.trace.TraceSet.{TraceSet}
use Rattle.trace_meaning.specs.declared.value.Value.{Value}
use Rattle.trace_meaning.specs.declared.cursor.Cursor.{Cursor}
use Rattle.trace_meaning.specs.declared.state.RecState.{RecState}
use Rattle.trace_meaning.specs.declared.state.RecState.TheVariants as state
use Rattle.trace_meaning.specs.declared.performing.Done.{Done as Outcome}
use Rattle.trace_meaning.specs.declared.performing.Done.TheVariants as outcome
use Rattle.trace_meaning.specs.World.{World}
use Rattle.trace_meaning.specs.Kept.{Kept}
use Rattle.trace_meaning.specs.Legs.{Over, Wrong, Waits, Misfits}
use Rattle.trace_meaning.specs.Performing.{Done, Gave, Bad, Waited, Misfitted}
use Rattle.trace_meaning.specs.Recorded.{Rec, ops_at, recorded_result, recorded_plain}
use Rattle.trace_meaning.specs.Observed.{state_of}
use Rattle.trace_meaning.specs.Steps.{IsPerformed, IsNumbered}
use Rattle.trace_meaning.specs.Standing.{IsStanding, standing, rest_of, rec_of, turned, settled}

pub prebuilts-performed : (m : Done) (x : Outcome) (old new : Kept) → IsPerformed m x old new → new.prebuilts ≡ old.prebuilts
prebuilts-performed (Gave v w) (outcome.Gave y) old new h = ap (λ (k : Kept). k.prebuilts) h.1
prebuilts-performed Bad outcome.Bad old new h = ap (λ (k : Kept). k.prebuilts) h
prebuilts-performed (Waited w) outcome.Waited old new h = ap (λ (k : Kept). k.prebuilts) h
prebuilts-performed (Misfitted w) (outcome.Misfitted n) old new h = ap (λ (k : Kept). k.prebuilts) h.1
prebuilts-performed m x old new h = absurd h

pub numbered-performed : (m : Done) (x : Outcome) (old new : Kept) → IsPerformed m x old new → IsNumbered x new
numbered-performed (Misfitted w) (outcome.Misfitted n) old new h = h.0 ∙ ap (λ (k : Kept). length k.world.log - 1) (sym h.1)
numbered-performed m (outcome.Gave y) old new h = tt
numbered-performed m outcome.Bad old new h = tt
numbered-performed m outcome.Waited old new h = tt
numbered-performed m (outcome.Misfitted n) old new h = absurd h

same_result : (to : Option BoxId) (s : Rec) (w : World) (y : Option Value) → recorded_result to (record s { world = w }) y w ≡ recorded_result to s y w
same_result (Some b) s w (Some x) = refl
same_result (Some b) s w None = refl
same_result None s w y = refl

module _ (set : TraceSet) (p at : ℕ) where
  pub settled-performed : (s : Rec) (to : Option BoxId) (m : Done) (x : Outcome) (old new : Kept) → s.world ≡ old.world → IsPerformed m x old new → settled set p at (record s { world = new.world }) to x ≡ turned p (drop (at + 1) (ops_at set p)) (recorded_plain to s m)
  settled-performed s to (Gave v w) (outcome.Gave y) old new e h =
      ap (turned p (drop (at + 1) (ops_at set p))) (same_result to s new.world y ∙ ap (λ z. recorded_result to s z new.world) h.0 ∙ ap (λ (k : Kept). recorded_result to s v k.world) h.1)
  settled-performed s to Bad outcome.Bad old new e h = ap (λ (w : World). Over p (Wrong w)) (ap (λ (k : Kept). k.world) h ∙ sym e)
  settled-performed s to (Waited w) outcome.Waited old new e h = ap (λ (k : Kept). Over p (Waits k.world)) h
  settled-performed s to (Misfitted w) (outcome.Misfitted n) old new e h = ap (λ (k : Kept). Over p (Misfits k.world)) h.1
  settled-performed s to m x old new e h = absurd h

-- a runner inside a trace stays one when the world changes
pub standing-inside : (set : TraceSet) (c d : Cursor) → IsStanding set c → d.state ≡ state.Going → d.trace ≡ c.trace → d.at ≡ c.at → d.guards ≡ c.guards → d.world.prebuilts ≡ c.world.prebuilts → IsStanding set d
standing-inside set c d h going trace at guards prebuilts = record {
  table = prebuilts ∙ h.table;
  few = h.few;
  short = h.short;
  within = rw (at, trace) h.within;
  guards = rw (at, guards) h.guards;
  shown = let P : RecState → Type 0 = λ s. s ≡ state_of set (standing s d.trace (rest_of set d) (rec_of d) d.left.items) in subst P (sym going) refl;
}
