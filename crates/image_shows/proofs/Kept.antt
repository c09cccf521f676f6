-- An activation that runs as its pieces keeps to its trace, as its pieces do.
use Rattle.std.proofs.Common.{◌≡◌, ◌⊎◌, inl, inr, ℕ, zero, suc, ◌+◌, ◌-◌, ◌*◌, ◌<◌, ◌≤◌, Bool, true, false, cond, List, [], ◌∷◌, length, map, Option, Some, None, refl, sym, ap, ◌∙◌, subst, arith}
use Rattle.std.specs.Prelude.{slice_get, IsSomeAnd}
use Rattle.std.specs.List.{All, AllByRecursion}
use Rattle.lists.proofs.Alls.{all_at}
use Rattle.lists.proofs.Options.{some_same, none_some}
use Rattle.trace_ops.specs.InRange.{IsTableInRange}
use Rattle.trace_ops.specs.Kinds.{NamesArg}
use Rattle.trace_ops.specs.Pieces.{NamesRows, finished}
use Rattle.trace_ops.specs.declared.table.Table.{Table}
use Rattle.trace_ops.specs.declared.trace.Arg.{Arg}
use Rattle.trace_ops.specs.declared.trace.Arg.TheVariants.{Ptr}
use Rattle.trace_ops.specs.declared.trace.TraceSet.{TraceSet}
use Rattle.trace_ops.specs.declared.piece.Entry.{Entry}
use Rattle.trace_ops.specs.declared.piece.OptOp.{OptOp}
use Rattle.trace_ops.specs.declared.piece.OptOp.TheVariants as opt
use Rattle.trace_ops.specs.declared.piece.Piece.{Piece}
use Rattle.trace_ops.specs.declared.piece.PieceId.{PieceId}
use Rattle.trace_ops.specs.declared.piece.Snapshot.{Snapshot}
use Rattle.trace_meaning.specs.declared.call.CallEvent.{CallEvent}
use Rattle.trace_meaning.specs.declared.state.RecState.TheVariants as state
use Rattle.trace_meaning.specs.declared.value.Object.{Object}
use Rattle.trace_meaning.specs.declared.value.Value.{Value}
use Rattle.trace_meaning.specs.Cuts.{Cuts}
use Rattle.trace_meaning.specs.Laws.{most_operations}
use Rattle.trace_meaning.specs.Legs.{Leave, Fails, Jumps, Finishes, Waits, Misfits, Wrong, Turn, On, Off, In, Over, At, Ended}
use Rattle.trace_meaning.specs.Observed.{first_value, world_left, world_of}
use Rattle.trace_meaning.specs.Recorded.{RecordedNow, first_world}
use Rattle.trace_meaning.specs.World.{World, events, failed}
use Rattle.heap_shape.specs.Listing.{listing}
use Rattle.heap_shape.specs.Order.{RootsAlone}
use Rattle.heap_shape.specs.Roots.{roots}
use Rattle.heap_shape.specs.Shown.{Shown, shown, call_shown, recorded_shown}
use Rattle.heap_shape.specs.Shown as seen
use Rattle.opt_meaning.specs.Admits.{Admits, entry_for}
use Rattle.opt_meaning.specs.Composing.{EndedAlike, IsWrong}
use Rattle.opt_meaning.specs.Laws.{PiecesRun, IsWrongNow}
use Rattle.opt_meaning.specs.Leaving.{SameLeave}
use Rattle.opt_meaning.specs.Meeting.{Made, made_at, pieces_of, guards_of, end_of, joined}
use Rattle.opt_meaning.specs.Observed.{rebuilt_at, exited, objects_or, pieces_world}
use Rattle.opt_meaning.specs.Pieces.{PiecesNow, pieces, piece_at, ops_of, ops_at, last_of, same_piece, preamble}
use Rattle.opt_meaning.specs.Rebuilding.{Rebuilt, rebuilt, rebuilt_by, snapshot_of, snapshot_in}
use Rattle.opt_meaning.specs.Showing.{SnapshotsFit, FitsGuard, RebuiltSame, EndsShowAlike, pieces_shown}
use Rattle.opt_meaning.specs.Step.{Opt, opt_step}
use Rattle.opt_promise.specs.Legs.{LegPromise}
use Rattle.opt_promise.specs.Promise.{AreAt, IsStart}
use Rattle.arena_objects.specs.Making.{bytes_left}
use Rattle.resume_rebuild.specs.Rebuilding.{asked_for}
use Rattle.guard_exit.specs.declared.row.ExitRow.{ExitRow}
use Rattle.x64_machine.specs.State.{State}
use Rattle.asm_select.specs.Chosen.{Setting}
use Rattle.image_runs.specs.Runs.{world_now}
use Rattle.image_runs.specs.Selection.{ended}
use Rattle.image_runs.specs.Session.{Calls, End, Waiting, Misfitting, Activation}
use Rattle.image_model.specs.Ready.{AreKinded, kinds_left}
use Rattle.image_model.specs.Modelled.{SameCalls, Fills, GoneAt}
use Rattle.session_host.specs.Hosting.{host_of}
use Rattle.session_host.specs.Laws.{IsRowOf, IsFinishRow, ExitsShow, FinishesShow, ShowsRebuilt}
use Rattle.image_built.specs.Laws.{Keeps}
use Rattle.image_built.specs.Running.{now_after, leg_after, GoneWrong, IsExitOf, Of_guard, Of_finish, EndsAlike, By_row, Without_answer, With_misfit, For_want_of_bytes, GoesAlike, RunsAlike}
use Rattle.image_shows.specs.Keeping.{trace_of, end_shown, EndsRightly, As_trace, Wants_bytes, Wants_bytes_to_show, Of_wrong_trace, HaveBeenMade, KeepsToItsTrace}
use Rattle.image_shows.specs.Laws.{IsSoundPiece}
use Rattle.image_shows.proofs.Naming.{each_at}
use Rattle.image_shows.proofs.Snapshots.{RebuildRightly}

-- the laws below
pub record Laws : Type 0 where
  pub same : RebuiltSame
  pub show : EndsShowAlike
  pub alone : RootsAlone
  pub runs : PiecesRun
  pub exits : ExitsShow
  pub finishes : FinishesShow

-- ---- ends

wrong_or_right : (l : Leave) → IsWrong l ⊎ (¬ IsWrong l)
wrong_or_right (Wrong w) = inl tt
wrong_or_right (Fails n vs w) = inr (λ x. x)
wrong_or_right (Jumps vs w) = inr (λ x. x)
wrong_or_right (Finishes vs w) = inr (λ x. x)
wrong_or_right (Waits w) = inr (λ x. x)
wrong_or_right (Misfits w) = inr (λ x. x)

-- only a wrong trace ends as wrong pieces do
wrong_alike : (t : Table) (guards : List (ℕ × Entry)) (at_end : Entry) (l : Leave) (w : World) → SameLeave t guards at_end l (Wrong w) → IsWrong l
wrong_alike t guards at_end (Wrong u) w h = tt
wrong_alike t guards at_end (Fails n vs u) w h = h
wrong_alike t guards at_end (Jumps vs u) w h = h
wrong_alike t guards at_end (Finishes vs u) w h = h
wrong_alike t guards at_end (Waits u) w h = h
wrong_alike t guards at_end (Misfits u) w h = h

is_wrong_of : (t : Table) (guards : List (ℕ × Entry)) (at_end : Entry) (l x : Leave) (w : World) → x ≡ Wrong w → SameLeave t guards at_end l x → IsWrong l
is_wrong_of t guards at_end l x w e h = wrong_alike t guards at_end l w (subst (SameLeave t guards at_end l) e h)

-- the guard of a trace that ends as a failed guard of a piece does
record AdmittedEnd (t : Table) (guards : List (ℕ × Entry)) (n : ℕ) (us : List Value) (u : World) : Type 0 where
  vs : List Value
  w : World
  e : Entry
  has : entry_for guards n ≡ Some e
  admits : Admits t e vs w us u

failed_alike : (t : Table) (guards : List (ℕ × Entry)) (at_end : Entry) (l : Leave) (n : ℕ) (us : List Value) (u : World) → ¬ IsWrong l → SameLeave t guards at_end l (Fails n us u) → AdmittedEnd t guards n us u
failed_alike t guards at_end (Wrong w) n us u right h = absurd (right tt)
failed_alike t guards at_end (Fails k vs w) n us u right h = record { vs = vs; w = w; e = h.1; has = subst (λ (i : ℕ). entry_for guards i ≡ Some h.1) h.0 h.2; admits = h.3 }
failed_alike t guards at_end (Jumps vs w) n us u right h = absurd h
failed_alike t guards at_end (Finishes vs w) n us u right h = absurd h
failed_alike t guards at_end (Waits w) n us u right h = absurd h
failed_alike t guards at_end (Misfits w) n us u right h = absurd h

-- ---- pieces that were made

picked : (b : Bool) (m k : Made) (o : Option Made) (p : Option Piece) → (o ≡ Some k → p ≡ Some k.piece) → cond b (Some m) o ≡ Some k → cond b (Some m.piece) p ≡ Some k.piece
picked true m k o p f e = ap (λ (x : Made). Some x.piece) (some_same e)
picked false m k o p f e = f e

piece_made : (ms : List Made) (q : PieceId) (m : Made) → made_at ms q ≡ Some m → piece_at (pieces_of ms) q ≡ Some m.piece
piece_made [] q m e = absurd (none_some e)
piece_made (k ∷ ms) q m e = picked (same_piece q k.piece.id) k m (made_at ms q) (piece_at (pieces_of ms) q) (piece_made ms q m) e

-- the snapshot that stands for a guard with an entry says what the entry does
fitting : (set : TraceSet) (p n : ℕ) (e : Entry) (o : Option Snapshot) (snap : Snapshot) → o ≡ Some snap → IsSomeAnd o (FitsGuard set p n e) → FitsGuard set p n e snap
fitting set p n e None snap is h = absurd h
fitting set p n e (Some s) snap is h = subst (FitsGuard set p n e) (some_same is) h

-- ---- what is named

op_named : (set : TraceSet) (ps : List Piece) (q : PieceId) (j : ℕ) (op : OptOp) (o : Option Piece) → piece_at ps q ≡ o → AllByRecursion (IsSoundPiece set) ps → slice_get (ops_of o) j ≡ Some op → NamesRows set.table op
op_named set ps q j op None is h e = absurd (none_some e)
op_named set ps q j op (Some p) is h e = all_at (NamesRows set.table) p.ops j op ((each_at (IsSoundPiece set) ps q p h is).1.formed.rows_named.operations) e

finish_named : (set : TraceSet) (whole : List Piece) (q : PieceId) (j : ℕ) (value : Option Arg) → AllByRecursion (IsSoundPiece set) whole → slice_get (ops_at whole q) j ≡ Some (opt.Finish value) → (k : ℕ) → value ≡ Some (Ptr k) → k < length set.table.prebuilts
finish_named set whole q j value sound e k is =
    let named : All (NamesArg set.table) (finished value) = op_named set whole q j (opt.Finish value) (piece_at whole q) refl sound e in
    all_at (NamesArg set.table) (finished (Some (Ptr k))) 0 (Ptr k) (subst (λ (v : Option Arg). All (NamesArg set.table) (finished v)) is named) refl

-- ---- what is shown

-- of the same calls
same_events : (w : World) (c : Calls) → SameCalls w c → events w.log ≡ c.log
same_events w c h = sym h.log

numbers_alone : Laws → (t : Table) (objects : List Object) (calls : List CallEvent) → (listing [] (roots (length t.prebuilts) calls [])).1 ≡ (listing objects (roots (length t.prebuilts) calls [])).1
numbers_alone l t objects calls = l.alone [] (roots (length t.prebuilts) calls []) ∙ sym (l.alone objects (roots (length t.prebuilts) calls []))

waits_shown : Laws → (t : Table) (objects : List Object) (calls : List CallEvent) → shown t state.Waits [] calls ≡ shown t state.Waits objects calls
waits_shown l t objects calls = ap (seen.Waits (map call_shown calls)) (numbers_alone l t objects calls)

misfit_shown : Laws → (t : Table) (n : ℕ) (objects : List Object) (calls : List CallEvent) → shown t (state.Misfit n) [] calls ≡ shown t (state.Misfit n) objects calls
misfit_shown l t n objects calls = ap (seen.Misfit n (map call_shown calls)) (numbers_alone l t objects calls)

-- what a failed guard has rebuilt
exit_shown : (set : TraceSet) (ms : List Made) (q : PieceId) (n : ℕ) (vs : List Value) (w : World) (r : Rebuilt) → rebuilt_at set (pieces_of ms) q n vs w ≡ Some r → pieces_shown set ms (Over q (Fails n vs w)) ≡ shown set.table (state.Exited q.trace n r.frames) r.objects (events w.log)
exit_shown set ms q n vs w r e = ap (λ (o : Option Rebuilt). shown set.table (exited q.trace n o) (objects_or w o) (events w.log)) e

-- ---- bytes

fills_tell : (t : Table) (w : World) (turn : Turn Opt) (s : State) (asked left : ℕ) → Fills t w turn s asked left → (left ≡ bytes_left s.arena) × (left < asked)
fills_tell t w (On after) s asked left h = (h.1, h.2)
fills_tell t w (Off l) s asked left h = absurd h

less_or : (a b : ℕ) → (a ≤ b) ⊎ (b < a)
less_or a b = by_case a b
  where
    by_case : (a b : ℕ) → (a ≤ b) ⊎ (b < a)
    by_case zero b = inl (omega arith)
    by_case (suc a) zero = inr (omega arith)
    by_case (suc a) (suc b) = elim (by_case a b) [ inl h ↦ inl (omega (arith, h)) | inr h ↦ inr (omega (arith, h)) ]

-- ---- an activation

module _ (l : Laws) (set : TraceSet) (bridges : List ℕ) (ms : List Made) (whole : List Piece) (settings : PieceId → Setting) (arena_bytes bytes : ℕ) (at_bridges : List ℕ) (cuts : Cuts) (act : Activation)
    (range : IsTableInRange set.table) (fit : SnapshotsFit set ms) (promise : LegPromise set bridges ms) (keeps : Keeps (pieces_of ms) whole) (sound : AllByRecursion (IsSoundPiece set) whole) (rebuild : RebuildRightly set whole)
    (start : IsStart set act.trace act.inputs act.given) (at : AreAt bridges cuts)
    (r : RunsAlike (host_of set whole arena_bytes) set whole (pieces_of ms) settings at_bridges cuts bytes act) where
  abbrev made : ℕ
  made = act.machine.instructions

  abbrev most : ℕ
  most = most_operations set

  -- the trace at the end of its pieces
  record TraceEnd (q : PieceId) (x : Leave) : Type 0 where
    n : ℕ
    few : n ≤ (made + 1) * most
    p : ℕ
    leave : Leave
    over : trace_of set cuts act n ≡ Over p leave
    how : IsWrong leave ⊎ EndedAlike set.table (joined ms) p leave q x

  trace_end : (q : PieceId) (x : Leave) → leg_after set (pieces_of ms) cuts act (made + 1) ≡ Ended q x → TraceEnd q x
  trace_end q x e =
      let b = promise.backward act.trace act.inputs act.given cuts start at (made + 1) q x e ((made + 1) * most) (omega arith) in
      record { n = (made + 1) * most; few = omega arith; p = b.0; leave = b.1; over = b.2; how = b.3 }

  -- where the end shows what the pieces show, it shows what the trace does
  by_pieces : (end : End) (q : PieceId) (x : Leave) (z : TraceEnd q x) → (¬ IsWrong z.leave → end_shown set.table act.calls end ≡ Some (pieces_shown set ms (Over q x))) → EndsRightly set cuts act end
  by_pieces end q x z f = elim z.how [
    | inl wrong ↦ Of_wrong_trace end z.n z.p z.leave z.over wrong
    | inr alike ↦ elim (wrong_or_right z.leave) [
      | inl wrong ↦ Of_wrong_trace end z.n z.p z.leave z.over wrong
      | inr right ↦ As_trace end z.n z.p z.leave z.few z.over right (f right ∙ ap (λ (s : Shown). Some s) (sym (l.show l.same set ms z.p z.leave q x fit alike right)))
    ]
  ]

  -- at a guard

  record Again (q : PieceId) (n : ℕ) (snap : Snapshot) (vs : List Value) (w : World) : Type 0 where
    again : Rebuilt
    is : rebuilt set.table snap vs w ≡ Some again
    at_piece : rebuilt_at set (pieces_of ms) q n vs w ≡ Some again

  rebuilds : (q : PieceId) (n : ℕ) (snap : Snapshot) (vs : List Value) (w : World) (o : Option Made) → made_at ms q ≡ o → snapshot_in (ops_at whole q) n ≡ Some snap → AdmittedEnd set.table (guards_of o) n vs w → Again q n snap vs w
  rebuilds q n snap vs w None is found z = absurd (none_some z.has)
  rebuilds q n snap vs w (Some m) is found z =
      let there = piece_made ms q m is in
      let own : snapshot_in m.piece.ops n ≡ Some snap = ap (λ (ops : List OptOp). snapshot_in ops n) (sym (keeps q m.piece there)) ∙ found in
      let mine : snapshot_in (ops_at (pieces_of ms) q) n ≡ Some snap = ap (λ (p : Option Piece). snapshot_in (ops_of p) n) there ∙ own in
      let fits = fitting set q.trace n z.e (snapshot_in m.piece.ops n) snap own (fit q m is n z.e z.has) in
      let again = l.same set.table snap z.e fits.0 z.vs z.w vs w z.admits in
      record { again = again.0; is = again.1; at_piece = ap (λ (s : Option Snapshot). rebuilt_by set.table s vs w) mine ∙ again.1 }

  ends_at_guard : (end : End) (q : PieceId) (j n : ℕ) (vs : List Value) (w : World) (op : OptOp) (snap : Snapshot) (row : ExitRow)
      → (settings q).table ≡ set.table → slice_get (ops_at whole q) j ≡ Some op → snapshot_of n op ≡ Some snap → snapshot_in (ops_at whole q) n ≡ Some snap → IsRowOf (settings q) q n snap row
      → GoneAt (settings q) (ops_at whole q) j (Fails n vs w) act.calls act.machine → (host_of set whole arena_bytes).shows row act.calls act.machine end
      → SameCalls w act.calls → leg_after set (pieces_of ms) cuts act (made + 1) ≡ Ended q (Fails n vs (failed w)) → EndsRightly set cuts act end
  ends_at_guard end q j n vs w op snap row table here is found row_is gone shows calls e = by_how z.how
    where
      z : TraceEnd q (Fails n vs (failed w))
      z = trace_end q (Fails n vs (failed w)) e

      again_of : ¬ IsWrong z.leave → EndedAlike set.table (joined ms) z.p z.leave q (Fails n vs (failed w)) → Again q n snap vs (failed w)
      again_of right alike =
          let admitted = failed_alike set.table (guards_of (made_at ms q)) (end_of (made_at ms q)) z.leave n vs (failed w) right alike.1 in
          rebuilds q n snap vs (failed w) (made_at ms q) refl found admitted

      shown_again : (a : Again q n snap vs (failed w)) → ShowsRebuilt q n snap a.again act.machine.arena end
      shown_again a =
          let left = gone.1 in
          let one : left.0 ≡ op = some_same (sym left.1 ∙ here) in
          let kinded : AreKinded set.table (kinds_left op) vs w = subst (λ (o : OptOp). AreKinded set.table (kinds_left o) vs w) one (subst (λ (t : Table). AreKinded t (kinds_left left.0) vs w) table left.2.kinds) in
          l.exits set whole whole settings arena_bytes q j n op snap vs w act.calls act.machine row a.again end range table here is found row_is
          (rebuild.can q j n op snap (length w.objects) here is kinded.world.prebuilts) a.is (rebuild.hold q j n op snap vs w a.again here is kinded a.is) gone shows

      by_bytes : ¬ IsWrong z.leave → (a : Again q n snap vs (failed w)) → ShowsRebuilt q n snap a.again act.machine.arena end → (asked_for snap ≤ bytes_left act.machine.arena) ⊎ (bytes_left act.machine.arena < asked_for snap) → EndsRightly set cuts act end
      by_bytes right a s (inl enough) =
          by_pieces end q (Fails n vs (failed w)) z (λ sure.
          ap (end_shown set.table act.calls) (s.shown enough)
          ∙ ap (λ (c : List CallEvent). Some (shown set.table (state.Exited q.trace n a.again.frames) a.again.objects c)) calls.log
          ∙ ap (λ (x : Shown). Some x) (sym (exit_shown set ms q n vs (failed w) a.again a.at_piece)))
      by_bytes right a s (inr less) =
          subst (EndsRightly set cuts act) (sym (s.full less)) (Wants_bytes_to_show (asked_for snap) z.n z.p z.leave less z.few z.over right)

      by_how : IsWrong z.leave ⊎ EndedAlike set.table (joined ms) z.p z.leave q (Fails n vs (failed w)) → EndsRightly set cuts act end
      by_how (inl wrong) = Of_wrong_trace end z.n z.p z.leave z.over wrong
      by_how (inr alike) = elim (wrong_or_right z.leave) [
        | inl wrong ↦ Of_wrong_trace end z.n z.p z.leave z.over wrong
        | inr right ↦ (let a = again_of right alike in by_bytes right a (shown_again a) (less_or (asked_for snap) (bytes_left act.machine.arena)))
      ]

  -- at a finish
  ends_at_finish : (end : End) (q : PieceId) (j : ℕ) (vs : List Value) (w : World) (value : Option Arg) (row : ExitRow)
      → (settings q).table ≡ set.table → slice_get (ops_at whole q) j ≡ Some (opt.Finish value) → last_of (ops_at whole q) ≡ Some (opt.Finish value) → IsFinishRow (settings q) q value row
      → GoneAt (settings q) (ops_at whole q) j (Finishes vs w) act.calls act.machine → (host_of set whole arena_bytes).shows row act.calls act.machine end
      → SameCalls w act.calls → leg_after set (pieces_of ms) cuts act (made + 1) ≡ Ended q (Finishes vs w) → EndsRightly set cuts act end
  ends_at_finish end q j vs w value row table here last row_is gone shows calls e =
      let is = l.finishes set whole whole settings arena_bytes q j value vs w act.calls act.machine row end range table here last row_is (finish_named set whole q j value sound here) gone shows in
      by_pieces end q (Finishes vs w) (trace_end q (Finishes vs w) e) (λ sure.
      ap (end_shown set.table act.calls) is ∙ ap (λ (c : List CallEvent). Some (shown set.table (state.Finished (first_value vs)) w.objects c)) calls.log)

  -- by its row
  ends_by_row : (end : End) (q : PieceId) (j : ℕ) (x : Leave) (row : ExitRow) → (settings q).table ≡ set.table → IsExitOf (settings q) (ops_at whole q) q j x row
      → GoneAt (settings q) (ops_at whole q) j x act.calls act.machine → (host_of set whole arena_bytes).shows row act.calls act.machine end
      → SameCalls (world_left (ended x)) act.calls → leg_after set (pieces_of ms) cuts act (made + 1) ≡ Ended q (ended x) → EndsRightly set cuts act end
  ends_by_row end q j x row table (Of_guard n vs w op snap b here is found row_is) gone shows calls e =
      ends_at_guard end q j n vs w op snap row table here is found row_is gone shows (record { log = calls.log; answers = calls.answers }) e
  ends_by_row end q j x row table (Of_finish vs w value b here last row_is) gone shows calls e =
      ends_at_finish end q j vs w value row table here last row_is gone shows calls e

  -- at a call without an answer, or with one that doesn't fit
  ends_waiting : (q : PieceId) (w : World) → leg_after set (pieces_of ms) cuts act (made + 1) ≡ Ended q (Waits w) → SameCalls w act.calls → EndsRightly set cuts act Waiting
  ends_waiting q w e calls =
      by_pieces Waiting q (Waits w) (trace_end q (Waits w) e) (λ sure.
      ap (λ (s : Shown). Some s) (waits_shown l set.table w.objects act.calls.log) ∙ ap (λ (c : List CallEvent). Some (shown set.table state.Waits w.objects c)) calls.log)

  ends_misfitting : (q : PieceId) (call : ℕ) (w : World) → leg_after set (pieces_of ms) cuts act (made + 1) ≡ Ended q (Misfits w) → SameCalls w act.calls → call ≡ length w.log - 1 → EndsRightly set cuts act (Misfitting call)
  ends_misfitting q call w e calls number =
      by_pieces (Misfitting call) q (Misfits w) (trace_end q (Misfits w) e) (λ sure.
      ap (λ (s : Shown). Some s) (misfit_shown l set.table call w.objects act.calls.log)
      ∙ ap (λ (c : List CallEvent). Some (shown set.table (state.Misfit call) w.objects c)) calls.log
      ∙ ap (λ (k : ℕ). Some (shown set.table (state.Misfit k) w.objects (events w.log))) number)

  ends_alike : (end : End) → EndsAlike (host_of set whole arena_bytes) set whole (pieces_of ms) settings cuts act end → EndsRightly set cuts act end
  ends_alike end (By_row own q j x row named guard table exit gone shows calls ends) = ends_by_row end q j x row table exit gone shows calls (ends (made + 1) (omega arith))
  ends_alike end (Without_answer q f) = (let h = f (made + 1) (omega arith) in ends_waiting q h.0 h.1 h.2)
  ends_alike end (With_misfit q call f) = (let h = f (made + 1) (omega arith) in ends_misfitting q call h.0 h.1 h.2 h.3)
  ends_alike end (For_want_of_bytes q op rest env n asked left now fills) = (let h = fills_tell set.table env.world (opt_step set.table op env) act.machine asked left fills in Wants_bytes asked left h.0 h.1)

  -- wrong pieces are of a wrong trace

  record WrongBy : Type 0 where
    legs_made : ℕ
    wrong : (n : ℕ) → legs_made * most ≤ n → (p : ℕ) × (x : Leave) × (trace_of set cuts act n ≡ Over p x) × IsWrong x

  wrong_by : GoneWrong set (pieces_of ms) cuts act → WrongBy
  wrong_by (m, q, w, ran) =
      let k = (l.runs set (pieces_of ms) cuts).0.legs_when_over m (At (preamble act.trace) act.inputs (first_world set.table act.given)) q (Wrong w) ran in
      record {
        legs_made = k.0;
        wrong = λ n room. (let b = promise.backward act.trace act.inputs act.given cuts start at k.0 q (Wrong w) k.2 n room in
            (b.0, b.1, b.2, elim b.3 [ inl wrong ↦ wrong | inr alike ↦ wrong_alike set.table (guards_of (made_at ms q)) (end_of (made_at ms q)) b.1 w alike.1 ]));
      }

  ends_wrong : (end : End) → WrongBy → EndsRightly set cuts act end
  ends_wrong end z = (let b = z.wrong (z.legs_made * most) (omega arith) in Of_wrong_trace end (z.legs_made * most) b.0 b.1 b.2 b.3)

  -- going

  abbrev CallsOf : RecordedNow → Type 0
  CallsOf now = IsWrongNow now ⊎ HaveBeenMade (length set.table.prebuilts) (world_of now).log act.calls.log

  wrong_now : (now : RecordedNow) (p : ℕ) (x : Leave) → now ≡ Over p x → IsWrong x → IsWrongNow now
  wrong_now now p x e wrong = subst IsWrongNow (sym e) wrong

  same_world : (now : PiecesNow) → world_now (pieces set (pieces_of ms) cuts) now ≡ pieces_world now
  same_world (In q rest s) = refl
  same_world (Over q x) = refl

  goes_on : GoesAlike set (pieces_of ms) cuts act ⊎ GoneWrong set (pieces_of ms) cuts act → (m : ℕ) × ((n : ℕ) → m * most ≤ n → CallsOf (trace_of set cuts act n))
  goes_on (inl g) =
      let now = now_after set (pieces_of ms) cuts act g.operations in
      let same : act.calls.log ≡ events (pieces_world now).log = g.calls.log ∙ ap (λ (w : World). events w.log) (same_world now) in (
        g.operations,
        λ n room. elim (promise.calls act.trace act.inputs act.given cuts start at g.operations n room) [
          | inl wrong ↦ inl wrong
          | inr begun ↦ inr (record { log = (pieces_world now).log; same = same; begun = begun })
        ],
      )
  goes_on (inr wrong) = (let z = wrong_by wrong in (z.legs_made, λ n room. (let b = z.wrong n room in inl (wrong_now (trace_of set cuts act n) b.0 b.1 b.2 b.3))))

  -- forward

  not_going : (n p : ℕ) (x : Leave) → trace_of set cuts act n ≡ Over p x → ¬ IsWrong x → (n + 1) * bytes ≤ made → act.end ≡ None → ⊥
  not_going n p x over right room going =
      let f = promise.forward act.trace act.inputs act.given cuts start at n p x over right in
      let w = r.forward n f.0 f.1 going f.2 room in
      right (is_wrong_of set.table (guards_of (made_at ms f.0)) (end_of (made_at ms f.0)) x f.1 w.0 w.1 f.3.1)

  has_ended : (o : Option End) → act.end ≡ o → (act.end ≡ None → ⊥) → (end : End) × (act.end ≡ Some end)
  has_ended None e h = absurd (h e)
  has_ended (Some end) e h = (end, e)

  pub keeps_to_its_trace : KeepsToItsTrace set cuts bytes act
  keeps_to_its_trace = record {
    forward = λ n p x over right room. has_ended act.end refl (not_going n p x over right room);
    ended = λ end is. elim (r.ends end is) [
      | inl alike ↦ ends_alike end alike
      | inr wrong ↦ ends_wrong end (wrong_by wrong)
    ];
    going = λ none. goes_on (r.goes none);
  }
