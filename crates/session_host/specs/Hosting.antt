-- The host of a session, in the arena.
use Rattle.std.specs.Prelude.{◌≡◌, ℕ, List, Some, map}
use Rattle.std.specs.List.{All}
use Rattle.trace_ops.specs.declared.trace.TraceSet.{TraceSet}
use Rattle.trace_ops.specs.declared.piece.Piece.{Piece}
use Rattle.trace_meaning.specs.declared.value.Value.{Value}
use Rattle.trace_meaning.specs.Sound.{HasWord}
use Rattle.trace_meaning.specs.Starting.{Starts}
use Rattle.arena_objects.specs.Layout.{address_of, word_of}
use Rattle.arena_objects.specs.Starting.{first_objects, first_words}
use Rattle.x64_machine.specs.State.{State}
use Rattle.x64_machine.specs.Start.{IsStart}
use Rattle.image_runs.specs.Session.{Host}
use Rattle.session_host.specs.Answering.{IsAnswered}
use Rattle.session_host.specs.Showing.{shown_of}

-- An activation starts at a loop with inputs of its kinds, each of which is a word, null or a prebuilt object: the arena has the
-- prebuilt objects, and the words of the inputs stand in frame words from 16 on.
pub record IsStarted (set : TraceSet) (arena_bytes trace entry : ℕ) (inputs : List Value) (s : State) : Type 0 where
  pub loop : Starts set trace inputs
  pub words : All HasWord inputs
  pub machine : IsStart arena_bytes (first_words set.table) entry (map (word_of (address_of (first_objects set.table))) inputs) s

-- the host of a set and its printed pieces, whose activations have arenas of so many bytes
abbrev pub host_of : TraceSet → List Piece → ℕ → Host
host_of set ps arena_bytes = record {
  starts = λ trace entry inputs s. IsStarted set arena_bytes trace entry inputs s;
  answers = λ entry c s o. IsAnswered set.table entry c s o;
  shows = λ row c s end. shown_of set.table ps row s ≡ Some end;
}
