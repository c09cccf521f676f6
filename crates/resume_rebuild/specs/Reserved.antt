-- What is kept between rebuilds, which room one needs, and what it gives.
use Rattle.std.specs.Prelude.{◌≡◌, ◌↔◌, ℕ, ◌-◌, ◌^◌, ◌<◌, ◌≤◌, ℤ, List, [], length, min, Result, IsErr, IfErr, OnOk, OnErr}
use Rattle.std.specs.List.{All}
use Rattle.trace_ops.specs.declared.trace.BoxId.{BoxId}
use Rattle.trace_ops.specs.declared.table.Table.{Table}
use Rattle.trace_meaning.specs.declared.state.RecFrame.{RecFrame}
use Rattle.target_base.specs.Arena.{Arena}
use Rattle.target_base.specs.declared.place.Place.{Place}
use Rattle.arena_objects.specs.declared.making.Full.{Full}
use Rattle.arena_objects.specs.Making.{bytes_left}
use Rattle.arena_objects.specs.Walked.{addresses_found}
use Rattle.resume_numbering.specs.declared.rows.FrameRow.{FrameRow}
use Rattle.resume_numbering.specs.declared.rows.GuardRow.{GuardRow}
use Rattle.resume_numbering.specs.declared.rows.ResumeTable.{ResumeTable}
use Rattle.resume_rebuild.specs.Firsts.{IsBelow}
use Rattle.resume_rebuild.specs.Rebuilding.{bytes_of_all}
use Rattle.resume_rebuild.specs.Rows.{extents_at, arena_at, frames_at, frames_from}

-- for how much there is room: the first objects that constants may name, the constants, virtual objects and frames of a
-- guard, lists for the slots of frames, and slots of a frame
pub record Room : Type 0 where
  pub firsts : ℕ
  pub consts : ℕ
  pub virtuals : ℕ
  pub frames : ℕ
  pub lists : ℕ
  pub width : ℕ

-- the table that was adopted, the frames that were rebuilt, the addresses of the objects that were found last, and the room
pub record Holding : Type 0 where
  pub table : Table
  pub frames : List RecFrame
  pub found : List ℕ
  pub room : Room

-- there are no frames yet, and there is room for those of each guard of a table
pub record IsReserved (table : ResumeTable) (r : Holding) : Type 0 where
  pub no_frames : r.frames ≡ []
  pub firsts : All (IsBelow r.room.firsts) table.consts
  pub consts : length table.consts ≤ r.room.consts
  pub virtuals : All (λ (g : GuardRow). length g.virtuals ≤ r.room.virtuals) table.guards
  pub frames : All (λ (g : GuardRow). length (frames_from table.frames g.frame) ≤ r.room.frames) table.guards
  pub lists : All (λ (g : GuardRow). length (frames_from table.frames g.frame) ≤ r.room.lists) table.guards
  pub wide : All (λ (row : FrameRow). length row.slots ≤ r.room.width) table.frames

-- for one row
pub record IsReservedFor (table : ResumeTable) (g : GuardRow) (r : Holding) : Type 0 where
  pub no_frames : r.frames ≡ []
  pub firsts : All (IsBelow r.room.firsts) table.consts
  pub consts : length table.consts ≤ r.room.consts
  pub virtuals : length g.virtuals ≤ r.room.virtuals
  pub frames : length (frames_from table.frames g.frame) ≤ r.room.frames
  pub lists : length (frames_from table.frames g.frame) ≤ r.room.lists
  pub wide : All (λ (row : FrameRow). length row.slots ≤ r.room.width) table.frames

-- the arena is this one and the frames are these, or so many bytes are over what is left and nothing has changed
pub record Gives (asked : ℕ) (whole : Arena) (frames : List RecFrame) (old new : Arena) (before after : Holding) (result : Result (Unit {0}) Full) : Type 0 where
  pub variant : IsErr result ↔ (bytes_left old < asked)
  pub arena : OnOk result (new ≡ whole)
  pub given : OnOk result (after.frames ≡ frames)
  pub table : OnOk result (after.table ≡ before.table)
  pub found : OnOk result (after.found ≡ addresses_found before.table new)
  pub full : IfErr result (λ (f : Full). (f.asked ≡ min asked (2 ^ 64 - 1)) × (f.left ≡ bytes_left old))
  pub arena_kept : OnErr result (new ≡ old)
  pub kept : OnErr result (after ≡ before)

abbrev pub RebuildsRow : ResumeTable → GuardRow → List (BoxId × Place) → List ℤ → Arena → Arena → Holding → Holding → Result (Unit {0}) Full → Type 0
RebuildsRow table row places frame old new before after result =
    Gives (bytes_of_all (extents_at table row)) (arena_at before.table table row places frame old) (frames_at before.table table row places frame old) old new before after result
