-- What a started machine has.
use Rattle.std.proofs.Common.{◌≡◌, List, [], length, map, Option, Some, None, refl, sym}
use Rattle.std.specs.Prelude.{slice_get}
use Rattle.std.specs.Option.{IsSomeAnd}
use Rattle.std.proofs.lemmas.List.{length-map}
use Rattle.trace_ops.specs.InRange.{IsInRange}
use Rattle.trace_ops.specs.declared.trace.BoxId.{BoxId}
use Rattle.trace_ops.specs.declared.trace.Trace.{Trace}
use Rattle.trace_ops.specs.declared.trace.TraceSet.{TraceSet}
use Rattle.trace_meaning.specs.declared.value.Value.{Value}
use Rattle.trace_meaning.specs.declared.call.Answer.{Answer}
use Rattle.trace_meaning.specs.Recorded.{first_world, prebuilt_object}
use Rattle.trace_meaning.specs.Starting.{StartsLoop}
use Rattle.arena_objects.specs.Starting.{first_objects}
use Rattle.arena_objects.specs.Laws.{AddressesAreApart}
use Rattle.arena_world.specs.Laws.{FirstWorldStands, FirstBytes}
use Rattle.image_model.specs.Ready.{AreKinded}
use Rattle.session_host.specs.Laws.{StartsStand}
use Rattle.session_host.proofs.Firsts.{AreOfKinds-inputs, Holds-first_world}
use Rattle.session_host.proofs.Starting.{first_stands, few_inputs, words_fit, are_parts}

inputs_kinded : (set : TraceSet) (inputs : List Value) → IsInRange set → (o : Option Trace) → IsSomeAnd o (StartsLoop set.table inputs) → IsSomeAnd o (λ (t : Trace). (given : List Answer) → AreKinded set.table (map (λ (b : BoxId). Some b.kind) t.inputs) inputs (first_world set.table given))
inputs_kinded set inputs range None h = absurd h
inputs_kinded set inputs range (Some trace) h = λ given. (let count : length set.table.prebuilts ≡ length (first_world set.table given).objects = sym (length-map set.table.prebuilts prebuilt_object) in
    record { values = AreOfKinds-inputs set.table (length (first_world set.table given).objects) trace.inputs inputs count h.1 h.2; world = Holds-first_world set.table given range.table })

pub starts_stand : AddressesAreApart → FirstWorldStands → FirstBytes → StartsStand
starts_stand apart stand counted set ps bytes trace entry inputs s range words least most started =
    let t = set.table in
    let objects = first_objects t in
    let all : length objects ≡ length t.prebuilts = length-map t.prebuilts prebuilt_object in
    let stood = first_stands stand counted set [] bytes s.arena range words least most started.machine.arena in
    let few = few_inputs set inputs (slice_get set.traces trace) trace range refl started.loop in
    record {
      few = few.0;
      words = words_fit apart t objects s.arena stood.0 all inputs started.words few.1;
      parts = are_parts apart t objects s.arena stood.0 all inputs started.words few.1;
      stands = stood.0;
      prebuilts = stood.1;
      kinded = inputs_kinded set inputs range (slice_get set.traces trace) started.loop;
    }
