-- What a run adds: calls and objects come behind those that there are.
use Rattle.std.specs.Prelude.{◌≡◌, ℕ, ◌+◌, List, ◌++◌, length, map}
use Rattle.trace_ops.specs.declared.table.ShapeOf.{ShapeOf}
use Rattle.trace_ops.specs.declared.table.Table.{Table}
use Rattle.trace_ops.specs.declared.code.OpCode.{OpCode}
use Rattle.trace_ops.specs.declared.trace.Arg.{Arg}
use Rattle.trace_ops.specs.declared.trace.Descr.{Descr}
use Rattle.trace_meaning.specs.declared.value.Value.{Value}
use Rattle.trace_meaning.specs.declared.value.Object.{Object}
use Rattle.trace_meaning.specs.declared.call.Answer.{Answer}
use Rattle.trace_meaning.specs.World.{World, Logged}
use Rattle.trace_meaning.specs.Legs.{Leave, Waits, Misfits, Turn, On, Off, Program, Now, In, Over, Leg, At, Ended, run, leg}
use Rattle.trace_meaning.specs.Observed.{world_left}
use Rattle.trace_meaning.specs.Performing.{Done, Gave, Bad, Waited, Misfitted, perform}

-- the same, with more behind
abbrev pub IsLonger : {X : Type 0} → List X → List X → Type 0
IsLonger {X} before after = (more : List X) × (after ≡ before ++ more)

-- an object's shape, and how many parts it has
abbrev pub extent : Object → ShapeOf × ℕ
extent o = (o.of, length o.parts)

abbrev pub extents : World → List (ShapeOf × ℕ)
extents w = map extent w.objects

-- Some calls more, of which all but so many took an answer, and some objects more; the objects before keep their extents
pub record Grown (before after : World) (waiting : ℕ) : Type 0 where
  pub calls : List Logged
  pub log : after.log ≡ before.log ++ calls
  pub used : List Answer
  pub answers : before.answers ≡ used ++ after.answers
  pub answered : length calls ≡ length used + waiting
  pub added : List (ShapeOf × ℕ)
  pub objects : extents after ≡ extents before ++ added

-- what an operation leaves has grown from what it found
abbrev pub GrowsTo : World → Done → Type 0
GrowsTo w (Gave x u) = Grown w u 0
GrowsTo w Bad = Unit {0}
GrowsTo w (Waited u) = Grown w u 1
GrowsTo w (Misfitted u) = Grown w u 1

abbrev pub OperationsGrow : Type 0
OperationsGrow = (t : Table) (operation : OpCode) (d : Descr) (args : List Arg) (vs : List Value) (w : World) → GrowsTo w (perform t operation d args vs w)

-- a call at which a run waits, or whose answer doesn't fit, took no answer
abbrev pub waiting_left : Leave → ℕ
waiting_left (Waits w) = 1
waiting_left (Misfits w) = 1
waiting_left l = 0

abbrev pub waiting : {P O S : Type 0} → Now P O S → ℕ
waiting (In p rest s) = 0
waiting (Over p l) = waiting_left l

-- the world of a run, and that of a leg
abbrev pub world_now : {P O S : Type 0} → Program P O S → Now P O S → World
world_now a (In p rest s) = a.world s
world_now a (Over p l) = world_left l

abbrev pub leg_world : {P : Type 0} → Leg P → World
leg_world (At p vs w) = w
leg_world (Ended p l) = world_left l

-- Of any straight code

abbrev pub GrowsIn : {P O S : Type 0} → Program P O S → World → Turn S → Type 0
GrowsIn a w (On s) = Grown w (a.world s) 0
GrowsIn a w (Off l) = Grown w (world_left l) (waiting_left l)

-- each step only adds, and what begins in a world has it
pub record StepsGrow {P O S : Type 0} (a : Program P O S) : Type 0 where
  pub steps : (x : O) (s : S) → GrowsIn a (a.world s) (a.step x s)
  pub begins : (p : P) (vs : List Value) (w : World) → a.world (a.begin p vs w) ≡ w

-- calls and objects come behind those that there are
abbrev pub OnlyAdds : World → World → Type 0
OnlyAdds w u = IsLonger w.log u.log × IsLonger (extents w) (extents u)

-- where each step only adds, so does each run, and each leg; and all calls of a run but one at which it waits took an answer
pub record RunsGrow {P O S : Type 0} (a : Program P O S) : Type 0 where
  pub inside : (n : ℕ) (p : P) (ops : List O) (s : S) → Grown (a.world s) (world_now a (run a n (In p ops s))) (waiting (run a n (In p ops s)))
  pub runs : (n : ℕ) (x : Now P O S) → OnlyAdds (world_now a x) (world_now a (run a n x))
  pub legs : (x : Leg P) → OnlyAdds (leg_world x) (leg_world (leg a x))
