-- What the lines of a session leave of it, and what is written.
use Rattle.std.specs.Prelude.{◌≡◌, ℕ, ◌+◌, ◌^◌, ◌≤◌, true, ◌++◌, List, Some, length, slice_get}
use Rattle.std.specs.List.{All, Contains}
use Rattle.trace_ops.specs.declared.trace.Origin.TheVariants.{Loop}
use Rattle.trace_ops.specs.declared.trace.Trace.{Trace}
use Rattle.trace_ops.specs.declared.trace.TraceSet.{TraceSet}
use Rattle.trace_ops.specs.declared.table.Table.{Table}
use Rattle.trace_meaning.specs.declared.value.Store.{Store}
use Rattle.target_base.specs.Arena.{Arena}
use Rattle.session_text.specs.declared.session.Line.{Line}
use Rattle.session_text.specs.declared.session.Line.TheVariants as line
use Rattle.session_text.specs.Fits.{with_start_of}
use Rattle.image_runs.specs.Printed.{Printed}
use Rattle.image_runs.specs.Session.{Session}
use Rattle.seen_text.specs.declared.seen.Seen.{Seen}
use Rattle.seen_text.specs.declared.seen.Seen.TheVariants as seen
use Rattle.seen_text.specs.States.{shows_values, seen_text}
use Rattle.seen_text.specs.Counted.{counts_text}
use Rattle.arena_objects.specs.ReadBack.{objects_in}
use Rattle.opt_meaning.specs.declared.costs.Counts.{Counts}
use Rattle.run_session.specs.declared.now.Now.{Now}
use Rattle.run_session.specs.declared.now.Now.TheVariants as now
use Rattle.run_session.specs.Sessions.{Active, Sessioned, IsSession, host_in}
use Rattle.session_seen.specs.Lines.{IsMoved, IsLine, AreLines}

-- ---- the text of an activation as a session keeps it

abbrev pub now_seen : Now → Seen
now_seen now.Going = seen.Going
now_seen (now.Finished value) = seen.Finished value
now_seen (now.Exited p n) = seen.Exited p n
now_seen (now.ArenaFull asked left) = seen.Full asked left
now_seen now.Waits = seen.Waits
now_seen (now.Misfit call) = seen.Misfit call
now_seen (now.Wrong at) = seen.Wrong (Some at)

abbrev pub costs_kept : Active → Counts
costs_kept a = record { instructions = a.machine.instructions; bytes = a.bytes; loads = a.machine.loads; stores = a.machine.stores }

abbrev pub kept_text : TraceSet → List ℕ → Active → List ℕ
kept_text set name a = seen_text name set (now_seen a.now) a.frames a.log (objects_in set.table a.machine.arena) ++ counts_text (costs_kept a)

-- the objects of an arena, where they are shown
abbrev pub StoreServes : Table → Seen → Arena → Store → Type 0
StoreServes t s arena store = shows_values s ≡ true → store.objects ≡ objects_in t arena

-- ---- lines

-- no bridge is attached
abbrev pub AttachesNone : Line → Type 0
AttachesNone (line.Start a t inputs answers) = Unit {0}
AttachesNone (line.Step a n) = Unit {0}
AttachesNone (line.Run a n) = Unit {0}
AttachesNone (line.Attach b) = ⊥

-- each loop of the set is entered somewhere
abbrev pub HasEntries : TraceSet → Printed → Type 0
HasEntries set im = (p : ℕ) (t : Trace) → slice_get set.traces p ≡ Some t → t.origin ≡ Loop → (entry : ℕ) × Contains im.entries (p, entry)

-- the set, the pieces and the image are as before
pub record IsSameWhole (old new : Sessioned) : Type 0 where
  pub set : new.set ≡ old.set
  pub optimised : new.optimised ≡ old.optimised
  pub image : new.image ≡ old.image
  pub arena_bytes : new.arena_bytes ≡ old.arena_bytes

-- each activation has made at most so many instructions
abbrev pub HaveMade : ℕ → Sessioned → Type 0
HaveMade most s = All (λ (a : Active). a.machine.instructions ≤ most) s.activations

-- a line makes at most so many
abbrev pub most_of_line : ℕ
most_of_line = 2 ^ 50

-- what a line writes is what is seen of it in the run that the session is
abbrev pub WritesLine : List (List ℕ) → Line → Sessioned → Sessioned → List ℕ → List ℕ → Type 0
WritesLine names l old new before after =
    (im : Printed) (s : Session) → IsSession old im s → HasEntries old.set im
    → (t : Session) × (text : List ℕ) × IsLine (host_in old) old.set im names l s t text × IsSession new im t × (after ≡ before ++ text)

-- an activation moves, or has ended before
abbrev pub WritesMoves : List (List ℕ) → ℕ → ℕ → Sessioned → Sessioned → List ℕ → List ℕ → Type 0
WritesMoves names a most old new before after =
    (im : Printed) (s : Session) → IsSession old im s
    → (t : Session) × (text : List ℕ) × IsMoved (host_in old) old.set im names a most s t text × IsSession new im t × (after ≡ before ++ text)

pub record PutsMoves (names : List (List ℕ)) (a most : ℕ) (old new : Sessioned) (before after : List ℕ) : Type 0 where
  pub whole : IsSameWhole old new
  pub starts : length new.activations ≡ length old.activations
  pub made : (k : ℕ) → HaveMade k old → HaveMade (k + most_of_line) new
  pub writes : WritesMoves names a most old new before after

pub record PutsLine (names : List (List ℕ)) (l : Line) (old new : Sessioned) (before after : List ℕ) : Type 0 where
  pub whole : IsSameWhole old new
  pub starts : length new.activations ≡ with_start_of l (length old.activations)
  pub made : (most : ℕ) → HaveMade most old → HaveMade (most + most_of_line) new
  pub writes : WritesLine names l old new before after

abbrev pub WritesLines : List (List ℕ) → List Line → Sessioned → Sessioned → List ℕ → List ℕ → Type 0
WritesLines names ls old new before after =
    (im : Printed) (s : Session) → IsSession old im s → HasEntries old.set im
    → (t : Session) × (text : List ℕ) × AreLines (host_in old) old.set im names ls s t text × IsSession new im t × (after ≡ before ++ text)

pub record PutsLines (names : List (List ℕ)) (ls : List Line) (old new : Sessioned) (before after : List ℕ) : Type 0 where
  pub whole : IsSameWhole old new
  pub writes : WritesLines names ls old new before after
