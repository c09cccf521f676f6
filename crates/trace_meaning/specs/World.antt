-- All that the operations of a trace share, beside its boxes.
use Rattle.std.specs.Prelude.{ℕ, ◌+◌, Bool, List, length, drop, map, sum_by}
use Rattle.trace_ops.specs.InRange.{bytes_of_object}
use Rattle.trace_ops.specs.declared.table.Table.{Table}
use Rattle.trace_meaning.specs.declared.value.Object.{Object}
use Rattle.trace_meaning.specs.declared.call.CallEvent.{CallEvent}
use Rattle.trace_meaning.specs.declared.call.Answer.{Answer}

-- a call, and the bytes that had been allocated before it
pub record Logged : Type 0 where
  pub event : CallEvent
  pub bytes : ℕ

abbrev pub events : List Logged → List CallEvent
events log = map (λ (x : Logged). x.event) log

-- objects so far, the prebuilt ones first; answers to come; calls so far; failures of guards so far; and whether the
-- last operation that can overflow did
pub record World : Type 0 where
  pub objects : List Object
  pub answers : List Answer
  pub log : List Logged
  pub failures : ℕ
  pub overflow : Bool

abbrev pub size_of : Object → ℕ
size_of o = bytes_of_object o.of (length o.parts)

-- the sizes of the objects that were allocated, which are those behind the prebuilt ones
abbrev pub bytes_in : Table → World → ℕ
bytes_in t w = sum_by size_of (drop (length t.prebuilts) w.objects)

-- one more guard has failed
abbrev pub failed : World → World
failed w = record w { failures = w.failures + 1 }
