-- The steps of a rebuild make the whole.
use Rattle.std.proofs.Common.{◌≡◌, ℕ, List, [], map, reverse, ap, ◌∙◌, ℤ}
use Rattle.trace_ops.specs.declared.trace.Arg.{Arg}
use Rattle.trace_ops.specs.declared.trace.BoxId.{BoxId}
use Rattle.trace_ops.specs.declared.table.Table.{Table}
use Rattle.trace_meaning.specs.declared.state.RecFrame.{RecFrame}
use Rattle.target_base.specs.Arena.{Arena}
use Rattle.target_base.specs.declared.place.Place.{Place}
use Rattle.arena_objects.specs.Walked.{addresses_found}
use Rattle.resume_numbering.specs.declared.rows.GuardRow.{GuardRow}
use Rattle.resume_numbering.specs.declared.rows.ResumeTable.{ResumeTable}
use Rattle.resume_rebuild.specs.Rebuilding.{Sources, first_new, addresses_from, made_all, filled_all, stored_all}
use Rattle.resume_rebuild.specs.Rows.{row_filled, row_stored, row_frame, rows_at, frames_from, extents_at, words_at, arena_at, frames_at}

abbrev pub reading : List (BoxId × Place) → List ℤ → List ℤ → Sources
reading places frame made = record { places = places; frame = frame; before = []; made = made }

module _ (t : Table) (table : ResumeTable) (row : GuardRow) (places : List (BoxId × Place)) (frame : List ℤ) (arena : Arena) where
  pub arena_joined : (middle after : Arena) (first : ℕ) (words made : List ℤ) → first ≡ first_new arena → words ≡ words_at t table row places frame arena → made ≡ addresses_from (first_new arena) (extents_at table row) → middle ≡ made_all t (extents_at table row) arena
      → after ≡ stored_all (map (row_stored t (reading places frame made) words) row.pending) (filled_all first (map (row_filled (reading places frame made) words) (rows_at table.virtuals row.virtuals)) middle)
      → after ≡ arena_at t table row places frame arena
  arena_joined middle after first words made f w m a e =
      e
      ∙ ap (λ x. stored_all (map (row_stored t (reading places frame made) words) row.pending) (filled_all x (map (row_filled (reading places frame made) words) (rows_at table.virtuals row.virtuals)) middle)) f
      ∙ ap (λ x. stored_all (map (row_stored t (reading places frame made) words) row.pending) (filled_all (first_new arena) (map (row_filled (reading places frame made) words) (rows_at table.virtuals row.virtuals)) x)) a
      ∙ ap (λ x. stored_all (map (row_stored t (reading places frame made) x) row.pending) (filled_all (first_new arena) (map (row_filled (reading places frame made) x) (rows_at table.virtuals row.virtuals)) (made_all t (extents_at table row) arena))) w
      ∙ ap (λ x. stored_all (map (row_stored t (reading places frame x) (words_at t table row places frame arena)) row.pending) (filled_all (first_new arena) (map (row_filled (reading places frame x) (words_at t table row places frame arena)) (rows_at table.virtuals row.virtuals)) (made_all t (extents_at table row) arena))) m

  pub frames_joined : (after : Arena) (found : List ℕ) (consts : List Arg) (words made : List ℤ) (frames : List RecFrame) → consts ≡ table.consts → words ≡ words_at t table row places frame arena → made ≡ addresses_from (first_new arena) (extents_at table row) → after ≡ arena_at t table row places frame arena → found ≡ addresses_found t after
      → frames ≡ reverse (map (row_frame found (reading places frame made) consts words) (frames_from table.frames row.frame))
      → frames ≡ frames_at t table row places frame arena
  frames_joined after found consts words made frames c w m a f e =
      e
      ∙ ap (λ x. reverse (map (row_frame x (reading places frame made) consts words) (frames_from table.frames row.frame))) (f ∙ ap (addresses_found t) a)
      ∙ ap (λ x. reverse (map (row_frame (addresses_found t (arena_at t table row places frame arena)) (reading places frame made) x words) (frames_from table.frames row.frame))) c
      ∙ ap (λ x. reverse (map (row_frame (addresses_found t (arena_at t table row places frame arena)) (reading places frame made) table.consts x) (frames_from table.frames row.frame))) w
      ∙ ap (λ x. reverse (map (row_frame (addresses_found t (arena_at t table row places frame arena)) (reading places frame x) table.consts (words_at t table row places frame arena)) (frames_from table.frames row.frame))) m
