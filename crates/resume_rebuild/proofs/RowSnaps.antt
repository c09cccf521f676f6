-- What the row of a guard rebuilds is what the snapshot rebuilds for which it stands.
use Rattle.std.proofs.Common.{◌≡◌, ℕ, zero, suc, ◌-◌, ◌<◌, Option, Some, List, [], ◌∷◌, ◌++◌, length, map, reverse, refl, ap, sym, ◌∙◌, subst, arith, ℤ}
use Rattle.std.specs.List.{All, AllZip}
use Rattle.std.proofs.lemmas.List.{map-append, reverse-append}
use Rattle.std.proofs.lemmas.Option.{same_Some}
use Rattle.trace_ops.specs.declared.trace.BoxId.{BoxId}
use Rattle.trace_ops.specs.declared.trace.Arg.{Arg}
use Rattle.trace_ops.specs.declared.table.Table.{Table}
use Rattle.trace_ops.specs.declared.table.ShapeOf.{ShapeOf}
use Rattle.trace_ops.specs.declared.piece.Val.TheVariants.{Known}
use Rattle.trace_ops.specs.declared.piece.Shape.{Shape}
use Rattle.trace_ops.specs.declared.piece.Pending.{Pending}
use Rattle.trace_ops.specs.declared.piece.OptFrame.{OptFrame}
use Rattle.trace_ops.specs.declared.piece.Snapshot.{Snapshot}
use Rattle.trace_meaning.specs.declared.value.Value.{Value}
use Rattle.trace_meaning.specs.declared.state.RecFrame.{RecFrame}
use Rattle.target_base.specs.Arena.{Arena}
use Rattle.target_base.specs.declared.place.Place.{Place}
use Rattle.arena_objects.specs.Spots.{spot_offset}
use Rattle.arena_objects.specs.Walked.{addresses_found}
use Rattle.resume_numbering.specs.declared.rows.FrameRow.{FrameRow}
use Rattle.resume_numbering.specs.declared.rows.VirtualRow.{VirtualRow}
use Rattle.resume_numbering.specs.declared.rows.PendingRow.{PendingRow}
use Rattle.resume_numbering.specs.declared.rows.GuardRow.{GuardRow}
use Rattle.resume_numbering.specs.declared.rows.ResumeTable.{ResumeTable}
use Rattle.resume_numbering.specs.Tags.{Reads}
use Rattle.resume_numbering.specs.Standing.{IsFrame, FramesStand, VirtualStands, PendingStands, HasLowerParents, StandsFor}
use Rattle.std.proofs.lemmas.List.Elements.{All-append, All-cons, All-head, All-tail}
use Rattle.resume_rebuild.specs.Rebuilding.{Sources, Extent, Filled, Stored, extent_of, filled_of, stored_of, frame_of, sources, sources_of, extents_of, arena_after, arg_word, rebuilt_arena, rebuilt_frames}
use Rattle.resume_rebuild.specs.Rows.{words_of_consts, tag_word, tag_value, row_extent, row_filled, row_stored, row_frame, with_row, rows_at, further, found_row, chain, extents_at, sources_at, arena_at, frames_at}
use Rattle.resume_rebuild.specs.Guarding.{IsPlaced, ArePlaced}
use Rattle.resume_rebuild.proofs.RowWords.{word_read, words_read, values_read}
use Rattle.resume_rebuild.proofs.Chains.{chain_opens}

zip_length : {X Y : Type 0} (R : X → Y → Type 0) (xs : List X) (ys : List Y) → AllZip R xs ys → length xs ≡ length ys
zip_length R [] [] h = refl
zip_length R [] (y ∷ ys) h = absurd h
zip_length R (x ∷ xs) [] h = absurd h
zip_length R (x ∷ xs) (y ∷ ys) h = ap suc (zip_length R xs ys h.1)

-- ---- virtual objects

abbrev extent : ShapeOf → ℕ → Extent
extent s n = record { of = s; parts = n }

abbrev filled : ShapeOf → List ℤ → Filled
filled s ws = record { of = s; words = ws }

extents_read : (consts : List Arg) (virtuals : List VirtualRow) (ks : List ℕ) (ss : List Shape) → AllZip (VirtualStands consts virtuals) ks ss → map row_extent (rows_at virtuals ks) ≡ map extent_of ss
extents_read consts virtuals [] [] h = refl
extents_read consts virtuals [] (s ∷ ss) h = absurd h
extents_read consts virtuals (k ∷ ks) [] h = absurd h
extents_read consts virtuals (k ∷ ks) (s ∷ ss) h =
    let row = h.0.0 in
    ap (λ o. map row_extent (with_row o (rows_at virtuals ks))) h.0.1
    ∙ ap (λ x. extent x (length row.parts) ∷ map row_extent (rows_at virtuals ks)) h.0.2
    ∙ ap (λ n. extent s.of n ∷ map row_extent (rows_at virtuals ks)) (zip_length (Reads consts) row.parts s.parts h.0.3)
    ∙ ap (λ l. extent_of s ∷ l) (extents_read consts virtuals ks ss h.1)

filled_read : (known : Sources) (consts : List Arg) (virtuals : List VirtualRow) (ks : List ℕ) (ss : List Shape) → AllZip (VirtualStands consts virtuals) ks ss → map (row_filled known (words_of_consts known consts)) (rows_at virtuals ks) ≡ map (filled_of known) ss
filled_read known consts virtuals [] [] h = refl
filled_read known consts virtuals [] (s ∷ ss) h = absurd h
filled_read known consts virtuals (k ∷ ks) [] h = absurd h
filled_read known consts virtuals (k ∷ ks) (s ∷ ss) h =
    let row = h.0.0 in
    let words = words_of_consts known consts in
    ap (λ o. map (row_filled known words) (with_row o (rows_at virtuals ks))) h.0.1
    ∙ ap (λ x. filled x (map (tag_word known words) row.parts) ∷ map (row_filled known words) (rows_at virtuals ks)) h.0.2
    ∙ ap (λ ws. filled s.of ws ∷ map (row_filled known words) (rows_at virtuals ks)) (words_read known consts row.parts s.parts h.0.3)
    ∙ ap (λ l. filled_of known s ∷ l) (filled_read known consts virtuals ks ss h.1)

-- ---- pending stores

abbrev stored : ℤ → ℕ → ℤ → Stored
stored b o w = record { base = b; offset = o; word = w }

stored_read : (t : Table) (known : Sources) (consts : List Arg) (rows : List PendingRow) (ps : List Pending) → AllZip (PendingStands consts) rows ps → map (row_stored t known (words_of_consts known consts)) rows ≡ map (stored_of t known) ps
stored_read t known consts [] [] h = refl
stored_read t known consts [] (p ∷ ps) h = absurd h
stored_read t known consts (row ∷ rows) [] h = absurd h
stored_read t known consts (row ∷ rows) (p ∷ ps) h =
    let words = words_of_consts known consts in
    let rest = map (row_stored t known words) rows in
    ap (λ x. stored x (spot_offset t row.spot) (tag_word known words row.value) ∷ rest) (word_read known consts row.base (Known p.base) h.0.0)
    ∙ ap (λ x. stored (arg_word known p.base) (spot_offset t x) (tag_word known words row.value) ∷ rest) h.0.1
    ∙ ap (λ x. stored (arg_word known p.base) (spot_offset t p.spot) x ∷ rest) (word_read known consts row.value p.value h.0.2)
    ∙ ap (λ l. stored_of t known p ∷ l) (stored_read t known consts rows ps h.1)

-- ---- frames

abbrev framed : List ℕ → ℕ → List Value → RecFrame
framed n p slots = record { name = n; pc = p; slots = slots }

module _ (found : List ℕ) (known : Sources) (consts : List Arg) (rows : List FrameRow) (lower : HasLowerParents rows) where
  frame_read : (row : FrameRow) (parent : Option ℕ) (f : OptFrame) → IsFrame consts row parent f → All (IsPlaced known.places) f.slots → row_frame found known consts (words_of_consts known consts) row ≡ frame_of found known f
  frame_read row parent f is placed =
      let words = words_of_consts known consts in
      ap (λ n. framed n row.pc (map (tag_value found known consts words) row.slots)) is.name
      ∙ ap (λ p. framed f.name p (map (tag_value found known consts words) row.slots)) is.pc
      ∙ ap (framed f.name f.pc) (values_read found known consts row.slots f.slots is.slots placed)

  chain_read : (n : ℕ) (at : Option ℕ) (fs : List OptFrame) → ((k : ℕ) → at ≡ Some k → k < n) → FramesStand consts rows at fs → All (λ (f : OptFrame). All (IsPlaced known.places) f.slots) fs → map (row_frame found known consts (words_of_consts known consts)) (chain n rows at) ≡ map (frame_of found known) fs
  chain_read zero at [] below h p = refl
  chain_read (suc n) at [] below h p = ap (λ o. map (row_frame found known consts (words_of_consts known consts)) (further (chain n rows) (found_row rows o))) h
  chain_read zero at (f ∷ fs) below h p = absurd (let lt : h.0 < 0 = below h.0 h.2 in omega arith)
  chain_read (suc n) at (f ∷ fs) below h p =
      let k = h.0 in
      let row = h.1 in
      let value = row_frame found known consts (words_of_consts known consts) in
      let lt : k < suc n = below k h.2 in
      let less : suc n - 1 ≡ n = omega arith in
      let rest = chain_read n row.parent fs (λ q e. (let a : q < k = lower k q row h.3 e in omega arith)) h.5 (All-tail (λ (x : OptFrame). All (IsPlaced known.places) x.slots) f fs p) in
      ap (map value) (chain_opens rows at k (suc n) row h.2 h.3 lt)
      ∙ ap (λ m. map value (row ∷ chain m rows row.parent)) less
      ∙ ap (λ y. y ∷ map value (chain n rows row.parent)) (frame_read row row.parent f h.4 (All-head (λ (x : OptFrame). All (IsPlaced known.places) x.slots) f fs p))
      ∙ ap (λ l. frame_of found known f ∷ l) rest

map_reverse : {X Y : Type 0} (f : X → Y) (xs : List X) → map f (reverse xs) ≡ reverse (map f xs)
map_reverse f [] = refl
map_reverse f (x ∷ xs) =
    ap (map f) (reverse-append (x ∷ []) xs) ∙ map-append f (reverse xs) (x ∷ []) ∙ ap (λ l. l ++ f x ∷ []) (map_reverse f xs) ∙ sym (reverse-append (f x ∷ []) (map f xs))

reverse_back : {X : Type 0} (xs : List X) → reverse (reverse xs) ≡ xs
reverse_back [] = refl
reverse_back (x ∷ xs) = ap reverse (reverse-append (x ∷ []) xs) ∙ reverse-append (reverse xs) (x ∷ []) ∙ ap (λ ys. x ∷ ys) (reverse_back xs)

all_reversed : {X : Type 0} (P : X → Type 0) (xs : List X) → All P xs → All P (reverse xs)
all_reversed P [] h = h
all_reversed P (x ∷ xs) h =
    subst (All P) (sym (reverse-append (x ∷ []) xs)) (All-append P (reverse xs) (x ∷ []) (all_reversed P xs (All-tail P x xs h)) (All-cons P x [] (All-head P x xs h) (λ k d lt. absurd (omega arith))))

-- ---- all of it

module _ (t : Table) (table : ResumeTable) (row : GuardRow) (snap : Snapshot) (places : List (BoxId × Place)) (frame : List ℤ) (arena : Arena) (stands : StandsFor table.consts table.frames table.virtuals row snap) where
  pub extents_same : extents_at table row ≡ extents_of snap
  extents_same = extents_read table.consts table.virtuals row.virtuals snap.shapes stands.virtuals_stand

  sources_same : sources_at t table row places frame arena ≡ sources_of t snap places frame arena
  sources_same = ap (λ es. sources t es places frame arena) extents_same

  pub arena_same : arena_at t table row places frame arena ≡ rebuilt_arena t snap places frame arena
  arena_same =
      let known = sources_at t table row places frame arena in
      ap (λ fs. arena_after t (extents_at table row) fs (map (row_stored t known (words_of_consts known table.consts)) row.pending) arena) (filled_read known table.consts table.virtuals row.virtuals snap.shapes stands.virtuals_stand)
      ∙ ap (λ ss. arena_after t (extents_at table row) (map (filled_of known) snap.shapes) ss arena) (stored_read t known table.consts row.pending snap.pending stands.pending_stand)
      ∙ ap (λ es. arena_after t es (map (filled_of (sources t es places frame arena)) snap.shapes) (map (stored_of t (sources t es places frame arena)) snap.pending) arena) extents_same

  pub frames_same : HasLowerParents table.frames → row.frame < length table.frames → ArePlaced places snap → frames_at t table row places frame arena ≡ rebuilt_frames t snap places frame arena
  frames_same lower inside placed =
      let known = sources_at t table row places frame arena in
      let found = addresses_found t (arena_at t table row places frame arena) in
      let P : OptFrame → Type 0 = λ (f : OptFrame). All (IsPlaced places) f.slots in
      let below : (k : ℕ) → Some row.frame ≡ Some k → k < length table.frames = λ k e. subst (λ n. n < length table.frames) (same_Some row.frame k e) inside in
      ap reverse (chain_read found known table.consts table.frames lower (length table.frames) (Some row.frame) (reverse snap.frames) below stands.frames_stand (all_reversed P snap.frames placed))
      ∙ ap reverse (map_reverse (frame_of found known) snap.frames)
      ∙ reverse_back (map (frame_of found known) snap.frames)
      ∙ ap (λ x. map (frame_of (addresses_found t x) known) snap.frames) arena_same
      ∙ ap (λ k. map (frame_of (addresses_found t (rebuilt_arena t snap places frame arena)) k) snap.frames) sources_same
