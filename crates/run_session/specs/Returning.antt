-- What a return comes to.
use Rattle.std.specs.Prelude.{◌≡◌, ◌≢◌, ◌⊎◌, ℕ, nat_le, Bool, true, false, ℤ, pos, List, ◌∷◌, Some}
use Rattle.std.specs.List.{Contains}
use Rattle.trace_ops.specs.declared.piece.Piece.{Piece}
use Rattle.trace_ops.specs.declared.piece.Snapshot.{Snapshot}
use Rattle.trace_ops.specs.declared.table.Table.{Table}
use Rattle.trace_ops.specs.declared.trace.Kind.{Kind}
use Rattle.target_base.specs.Arena.{Arena}
use Rattle.guard_exit.specs.declared.row.ExitRow.{ExitRow}
use Rattle.x64_machine.specs.Words.{unsigned}
use Rattle.x64_machine.specs.State.{State, reg}
use Rattle.image_runs.specs.Session.{End}
use Rattle.arena_objects.specs.Making.{bytes_left}
use Rattle.resume_rebuild.specs.Rebuilding.{asked_for}
use Rattle.session_host.specs.Entries.{stray_in}
use Rattle.session_host.specs.Showing.{shown_of, exited_at, exited_if}
use Rattle.run_session.specs.declared.active.Active.{Active as Kept}
use Rattle.run_session.specs.declared.now.Now.{Now}
use Rattle.run_session.specs.declared.now.Now.TheVariants as now
use Rattle.run_session.specs.Outcomes.{ShownNow}

-- whether the first word of several is one that is to be a reference and is none
abbrev pub Strays : Table → Arena → Kind → ℤ → Bool → Type 0
Strays t arena k w true = (ks : List Kind) (ws : List ℤ) → stray_in t arena (k ∷ ks) (w ∷ ws) ≡ Some w
Strays t arena k w false = (ks : List Kind) (ws : List ℤ) → stray_in t arena (k ∷ ks) (w ∷ ws) ≡ stray_in t arena ks ws

abbrev pub IsExited : Now → Type 0
IsExited x = (p : ℕ) × (n : ℕ) × (x ≡ now.Exited p n)

-- what a row shows
pub record ShowsSo (t : Table) (ps : List Piece) (row : ExitRow) (old new : Kept) (x : Now) : Type 0 where
  pub end : End
  pub shown : shown_of t ps row old.machine ≡ Some end
  pub now : ShownNow t end x new.rebuilt.frames new.machine
  pub frames : (IsExited x → ⊥) → new.rebuilt.frames ≡ old.rebuilt.frames
  pub arena : (IsExited x → ⊥) → new.machine.arena ≡ old.machine.arena

-- the row that the word in rax names, and what it shows
pub record IsShownBy (t : Table) (ps : List Piece) (rows : List ExitRow) (old new : Kept) (x : Now) : Type 0 where
  pub row : ExitRow
  pub end : End
  pub there : Contains rows row
  pub number : reg old.machine (record { 0 = 0 }) ≡ pos row.exit
  pub shown : shown_of t ps row old.machine ≡ Some end
  pub now : ShownNow t end x new.rebuilt.frames new.machine

-- or that word names none
pub record IsLost (rows : List ExitRow) (old : State) (x : Now) : Type 0 where
  pub none : (row : ExitRow) → Contains rows row → reg old (record { 0 = 0 }) ≡ pos row.exit → ⊥
  pub now : x ≡ now.Wrong (unsigned (reg old (record { 0 = 0 })))

-- what a guard's snapshot rebuilds, or a full arena
pub record RebuildsSo (t : Table) (row : ExitRow) (n : ℕ) (snap : Snapshot) (old new : Kept) (x : Now) : Type 0 where
  pub now : ShownNow t (exited_if (nat_le (asked_for snap) (bytes_left old.machine.arena)) t old.machine row n snap) x new.rebuilt.frames new.machine
  pub frames : (IsExited x → ⊥) → new.rebuilt.frames ≡ old.rebuilt.frames
  pub arena : (IsExited x → ⊥) → new.machine.arena ≡ old.machine.arena

-- what is shown at a guard
pub record ExitsSo (t : Table) (row : ExitRow) (n : ℕ) (snap : Snapshot) (old new : Kept) (x : Now) : Type 0 where
  pub now : ShownNow t (exited_at t old.machine row n snap) x new.rebuilt.frames new.machine
  pub frames : (IsExited x → ⊥) → new.rebuilt.frames ≡ old.rebuilt.frames
  pub arena : (IsExited x → ⊥) → new.machine.arena ≡ old.machine.arena

-- the arena of the machine and what was rebuilt alone may differ
pub record ChangesArena (old new : Kept) : Type 0 where
  pub same : new ≡ record old { machine = record old.machine { arena = new.machine.arena }; rebuilt = new.rebuilt }
  pub table : new.rebuilt.table ≡ old.rebuilt.table

-- A return ends an activation. The arena of its machine and what was rebuilt alone may differ, and the bytes that were taken are noted.
pub record ReturnsSo (t : Table) (ps : List Piece) (rows : List ExitRow) (old new : Kept) (x : Now) : Type 0 where
  pub came : IsShownBy t ps rows old new x ⊎ IsLost rows old.machine x
  pub same : new ≡ record old { machine = record old.machine { arena = new.machine.arena }; rebuilt = new.rebuilt; last_taken = Some old.machine.arena.taken }
  pub table : new.rebuilt.table ≡ old.rebuilt.table
  pub frames : (IsExited x → ⊥) → new.rebuilt.frames ≡ old.rebuilt.frames
  pub arena : (IsExited x → ⊥) → new.machine.arena ≡ old.machine.arena
  pub ended : x ≢ now.Going
