-- Objects have the parts of their shapes, and what parts, calls and ends name is there.
use Rattle.std.specs.Prelude.{◌≡◌, ℕ, Option, Some, None, length}
use Rattle.std.specs.List.{All}
use Rattle.trace_ops.specs.declared.table.Table.{Table}
use Rattle.trace_ops.specs.declared.table.ShapeOf.{ShapeOf}
use Rattle.trace_ops.specs.declared.table.ShapeOf.TheVariants as shape
use Rattle.trace_meaning.specs.declared.value.Value.{Value}
use Rattle.trace_meaning.specs.declared.value.Object.{Object}
use Rattle.trace_meaning.specs.declared.call.CallEvent.{CallEvent}
use Rattle.trace_meaning.specs.World.{World, Logged}
use Rattle.trace_meaning.specs.Objects.{fields_of}
use Rattle.trace_meaning.specs.Observed.{world_of}
use Rattle.trace_meaning.specs.Kinds.{IsThere, OfRuns}

-- as many parts as its size has fields; an array has any number
abbrev pub HasRoomFor : Table → ShapeOf → ℕ → Type 0
HasRoomFor t (shape.Size s) n = n ≡ length (fields_of t s)
HasRoomFor t (shape.Array a) n = Unit {0}

abbrev pub HasItsParts : Table → Object → Type 0
HasItsParts t o = HasRoomFor t o.of (length o.parts)

abbrev pub MayBeThere : ℕ → Option Value → Type 0
MayBeThere n None = Unit {0}
MayBeThere n (Some x) = IsThere n x

-- what a call passed, showed and got
pub record CallIsThere (n : ℕ) (c : CallEvent) : Type 0 where
  pub args : All (IsThere n) c.args
  pub seen : All (IsThere n) c.seen
  pub gives : MayBeThere n c.gives

pub record AllIsThere (t : Table) (w : World) : Type 0 where
  pub whole : All (HasItsParts t) w.objects
  pub parts : All (λ (o : Object). All (IsThere (length w.objects)) o.parts) w.objects
  pub calls : All (λ (x : Logged). CallIsThere (length w.objects) x.event) w.log

-- in each run of a lawful set
abbrev pub WhatIsNamedIsThere : Type 0
WhatIsNamedIsThere = OfRuns (λ set x. AllIsThere set.table (world_of x))
