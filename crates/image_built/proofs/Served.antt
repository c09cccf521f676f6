-- Machines that the host of a session starts are started as is asked.
use Rattle.std.proofs.Common.{◌≡◌, ℕ, List, [], ◌∷◌, map, refl, arith, ℤ}
use Rattle.std.specs.List.{AllZip}
use Rattle.std.proofs.lemmas.List.{length-map}
use Rattle.trace_ops.specs.declared.trace.TraceSet.{TraceSet}
use Rattle.trace_meaning.specs.declared.value.Value.{Value}
use Rattle.arena_objects.specs.Layout.{address_of, word_of}
use Rattle.arena_objects.specs.Starting.{first_objects, first_words}
use Rattle.x64_machine.specs.State.{State}
use Rattle.session_host.specs.Hosting as host
use Rattle.session_host.specs.Laws.{HasStarted, HostsServe, StartsStand, AnswersAreQuiet}
use Rattle.image_built.specs.Laws.{IsStarted}
use Rattle.image_built.specs.Hosting.{ArenaHostsDo}

are_words : (f : Value → ℤ) (xs : List Value) → AllZip (λ (w : ℤ) (x : Value). w ≡ f x) (map f xs) xs
are_words f [] = tt
are_words f (x ∷ xs) = (refl, are_words f xs)

is_started : (set : TraceSet) (bytes trace entry : ℕ) (inputs : List Value) (s : State) → host.IsStarted set bytes trace entry inputs s → HasStarted set trace inputs s → IsStarted set trace entry inputs s
is_started set bytes trace entry inputs s z h = record {
  arena_bytes = bytes;
  prebuilt = first_words set.table;
  words = map (word_of (address_of (first_objects set.table))) inputs;
  start = z.machine;
  few = omega (arith, h.few, length-map inputs (word_of (address_of (first_objects set.table))));
  are = h.words;
  values = are_words (word_of (address_of (first_objects set.table))) inputs;
  inputs_are = h.kinded;
  parts = h.parts;
  stands = h.stands;
  prebuilts = h.prebuilts;
}

pub arena_hosts_do : HostsServe → StartsStand → AnswersAreQuiet → ArenaHostsDo
arena_hosts_do serve stand quiet set ps bytes range words least most = record {
  serves = serve set ps bytes range.table;
  starts = λ trace entry inputs s z. is_started set bytes trace entry inputs s z (stand set ps bytes trace entry inputs s range words least most z);
  quiet = quiet set ps bytes;
}
