-- What holds of each recorded run of a lawful set, where a trace begins.
use Rattle.std.specs.Prelude.{◌≡◌, ℕ, ◌≤◌, ◌<◌, ◌^◌, List, Option, Some, None, map, length, slice_get}
use Rattle.std.specs.List.{All}
use Rattle.trace_ops.specs.declared.trace.BoxId.{BoxId}
use Rattle.trace_ops.specs.declared.trace.TraceSet.{TraceSet}
use Rattle.trace_ops.specs.declared.table.Table.{Table}
use Rattle.trace_ops.specs.InRange.{IsInRange}
use Rattle.trace_ops.specs.WellFormed.{IsWellFormed}
use Rattle.trace_ops.specs.Words.{IsWord}
use Rattle.trace_ops.specs.Constants.{HasWords}
use Rattle.trace_meaning.specs.declared.value.Value.{Value}
use Rattle.trace_meaning.specs.declared.value.Value.TheVariants as v
use Rattle.trace_meaning.specs.declared.value.Object.{Object}
use Rattle.trace_meaning.specs.declared.call.Give.{Give}
use Rattle.trace_meaning.specs.declared.call.Give.TheVariants as give
use Rattle.trace_meaning.specs.declared.call.AnswerStore.{AnswerStore}
use Rattle.trace_meaning.specs.declared.call.Answer.{Answer}
use Rattle.trace_meaning.specs.declared.call.CallEvent.{CallEvent}
use Rattle.trace_meaning.specs.Values.{kind_of_value}
use Rattle.trace_meaning.specs.World.{World, Logged}
use Rattle.trace_meaning.specs.Cuts.{Cuts}
use Rattle.trace_meaning.specs.Legs.{Leg, At, Ended, leg}
use Rattle.trace_meaning.specs.Recorded.{recorded, inputs_of}
use Rattle.trace_meaning.specs.Kinds.{ObjectsHold, IsThere}

-- an integer is a machine word; definitions have whole numbers, so it is said where code is to follow
abbrev pub HasWord : Value → Type 0
HasWord (v.Int z) = IsWord z
HasWord v.Null = Unit {0}
HasWord (v.Obj n) = Unit {0}

abbrev pub GivesWord : Give → Type 0
GivesWord (give.Int z) = IsWord z
GivesWord _ = Unit {0}

abbrev pub AnswersWords : Answer → Type 0
AnswersWords a = GivesWord a.gives × All (λ (s : AnswerStore). GivesWord s.value) a.stores

abbrev pub MayHaveWord : Option Value → Type 0
MayHaveWord None = Unit {0}
MayHaveWord (Some x) = HasWord x

-- so are the integers that a call passed, showed and got
pub record CallHasWords (c : CallEvent) : Type 0 where
  pub args : All HasWord c.args
  pub seen : All HasWord c.seen
  pub gives : MayHaveWord c.gives

-- all integers of a world, those of answers to come and of its calls among them, are words, and so are lengths
pub record HoldsWords (w : World) : Type 0 where
  pub words : All (λ (o : Object). All HasWord o.parts) w.objects
  pub short : All (λ (o : Object). length o.parts < 2 ^ 63) w.objects
  pub answers : All AnswersWords w.answers
  pub calls : All (λ (x : Logged). CallHasWords x.event) w.log

-- parts of their kinds, and words alone
pub record IsSoundWorld (t : Table) (w : World) : Type 0 where
  pub prebuilts : length t.prebuilts ≤ length w.objects
  pub kinds : ObjectsHold t w.objects
  pub words : HoldsWords w

-- inputs of a trace's kinds, which are words, null, or objects that are there
pub record CanBegin (set : TraceSet) (trace : ℕ) (vs : List Value) (w : World) : Type 0 where
  pub world : IsSoundWorld set.table w
  pub kinds : map kind_of_value vs ≡ map (λ (b : BoxId). b.kind) (inputs_of (slice_get set.traces trace))
  pub there : All (IsThere (length w.objects)) vs
  pub words : All HasWord vs

-- where a trace can begin with these inputs in this world
abbrev pub Beginnings : Type 0 → Type 1
Beginnings P = P → List Value → World → Type 0

abbrev pub CanGo : {P : Type 0} → Beginnings P → Leg P → Type 0
CanGo can (At p vs w) = can p vs w
CanGo can (Ended p l) = Unit {0}

-- where one leg can begin, so can the next
abbrev pub LegsCanBegin : TraceSet → Cuts → Type 0
LegsCanBegin set cuts = (p : ℕ) (vs : List Value) (w : World) → CanBegin set p vs w → CanGo (CanBegin set) (leg (recorded set cuts) (At p vs w))

-- of lawful sets
abbrev pub LawfulLegsCanBegin : Type 0
LawfulLegsCanBegin = (set : TraceSet) (cuts : Cuts) → IsInRange set → IsWellFormed set → HasWords set → LegsCanBegin set cuts
