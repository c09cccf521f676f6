-- What ends alike shows the same.
use Rattle.std.proofs.Common.{◌≡◌, ℕ, zero, suc, ◌+◌, ◌-◌, ◌<◌, ◌≤◌, List, [], ◌∷◌, ◌++◌, Option, Some, None, length, map, take, drop, slice_get, refl, ap, sym, ◌∙◌, subst, arith, inl, inr}
use Rattle.std.specs.Prelude.{IsSomeAnd}
use Rattle.std.specs.Option.{option_map, option_to_list}
use Rattle.std.specs.List.{AllZip}
use Rattle.std.proofs.lemmas.Option.{same_Some, slice_get_within}
use Rattle.std.proofs.lemmas.List.{length-append, length-map, length-take-le, take-append-drop}
use Rattle.std.proofs.lemmas.Slice.Zip.{AllZip-long}
use Rattle.trace_ops.specs.declared.trace.BoxId.{BoxId}
use Rattle.trace_ops.specs.declared.trace.Arg.TheVariants.{Of}
use Rattle.trace_ops.specs.declared.trace.Frame.{Frame}
use Rattle.trace_ops.specs.declared.trace.Op.{Op}
use Rattle.trace_ops.specs.declared.trace.TraceSet.{TraceSet}
use Rattle.trace_ops.specs.declared.table.ShapeOf.TheVariants as shape
use Rattle.trace_ops.specs.declared.table.Table.{Table}
use Rattle.trace_ops.specs.declared.piece.Val.TheVariants.{Known}
use Rattle.trace_ops.specs.declared.piece.OptFrame.{OptFrame}
use Rattle.trace_ops.specs.declared.piece.Snapshot.{Snapshot}
use Rattle.trace_ops.specs.declared.piece.PieceId.{PieceId}
use Rattle.trace_ops.specs.declared.piece.Piece.{Piece}
use Rattle.trace_ops.specs.declared.piece.Entry.{Entry}
use Rattle.trace_ops.specs.Lawful.{AreDistinct}
use Rattle.trace_meaning.specs.declared.value.Value.{Value}
use Rattle.trace_meaning.specs.declared.value.Object.{Object}
use Rattle.trace_meaning.specs.declared.call.CallEvent.{CallEvent}
use Rattle.trace_meaning.specs.declared.state.RecFrame.{RecFrame}
use Rattle.trace_meaning.specs.Values.{kind_of_value}
use Rattle.trace_meaning.specs.World.{World, Logged, events}
use Rattle.trace_meaning.specs.Boxes.{BindingLaws, value_in, bound_to}
use Rattle.trace_meaning.specs.Legs.{Leave, Fails, Jumps, Finishes, Waits, Misfits, Wrong, Over}
use Rattle.trace_meaning.specs.Recorded.{ops_at, slots_of}
use Rattle.trace_meaning.specs.Observed.{first_value, frames_with, frames_of_guard, frames_at, guard_in}
use Rattle.heap_shape.specs.declared.cell.Cell.{Cell}
use Rattle.heap_shape.specs.declared.cell.Ref.{Ref}
use Rattle.heap_shape.specs.Listing.{listing}
use Rattle.heap_shape.specs.Roots.{roots}
use Rattle.heap_shape.specs.Sameness.{Maps, MapsIf, SameCall, Alongside, SameListing, SameRoots, SameRootNumbers}
use Rattle.opt_meaning.specs.Along.{IsOneToOne, SameLogged, SameLogs, SameCalls}
use Rattle.opt_meaning.specs.Agrees.{Place, ValIs}
use Rattle.opt_meaning.specs.Admits.{Admits, place_with, plain_entry, IsEntryOf, entry_for}
use Rattle.opt_meaning.specs.Admits.{slots_of as kept_slots}
use Rattle.opt_meaning.specs.Leaving.{SameLeave}
use Rattle.opt_meaning.specs.Pieces.{ops_of as piece_ops}
use Rattle.opt_meaning.specs.Rebuilding.{Rebuilt, snapshot_in, rebuilt_by}
use Rattle.opt_meaning.specs.Observed.{exited, objects_or, rebuilt_at}
use Rattle.opt_meaning.specs.Composing.{EndedAlike, IsWrong}
use Rattle.opt_meaning.specs.Meeting.{Made, pieces_of, made_at, guards_of, end_of, joined}
use Rattle.heap_shape.specs.Shown.{call_shown, CallShown, FrameShown, frame_shown, values_in, Shown, shown, recorded_shown}
use Rattle.heap_shape.specs.Shown as end
use Rattle.opt_meaning.specs.Showing.{kept_frame_shown, recorded_frame_shown, pieces_shown, AreFramesOf, FitsGuard, SnapshotsFit, IsFrameOf, RebuiltSame}
use Rattle.opt_meaning.proofs.Joining.{piece_at-made}

-- what is cited of listings
pub record HeapLaws : Type 0 where
  pub listing : SameListing
  pub roots : SameRoots
  pub numbers : SameRootNumbers

-- Calls

given_long : (m : ℕ → Option ℕ) (x y : Option Value) → MapsIf m x y → length (option_to_list x) ≡ length (option_to_list y)
given_long m None None h = refl
given_long m None (Some y) h = absurd h
given_long m (Some x) None h = absurd h
given_long m (Some x) (Some y) h = refl

call_same : (m : ℕ → Option ℕ) (x y : CallEvent) → SameCall m x y → call_shown x ≡ call_shown y
call_same m x y h =
    let args : length x.args ≡ length y.args = sym (AllZip-long (Maps m) x.args y.args h.args) in
    let seen : length x.seen ≡ length y.seen = sym (AllZip-long (Maps m) x.seen y.seen h.seen) in
    λ i. (h.function i, args i, seen i, given_long m x.gives y.gives h.gives i)

calls_same : (m : List ℕ) (xs ys : List Logged) → SameLogs m xs ys → map call_shown (events xs) ≡ map call_shown (events ys)
calls_same m [] [] h = refl
calls_same m [] (y ∷ ys) h = absurd h
calls_same m (x ∷ xs) [] h = absurd h
calls_same m (x ∷ xs) (y ∷ ys) h = λ i. call_same (slice_get m) x.event y.event h.0.event i ∷ calls_same m xs ys h.1 i

events_along : (m : List ℕ) (xs ys : List Logged) → SameLogs m xs ys → AllZip (SameCall (slice_get m)) (events xs) (events ys)
events_along m [] [] h = tt
events_along m [] (y ∷ ys) h = absurd h
events_along m (x ∷ xs) [] h = absurd h
events_along m (x ∷ xs) (y ∷ ys) h = (h.0.event, events_along m xs ys h.1)

logs_long : (m : List ℕ) (xs ys : List Logged) → SameLogs m xs ys → length xs ≡ length ys
logs_long m xs ys h = sym (AllZip-long (SameLogged m) xs ys h)

-- A finish

zip_gets : (m : ℕ → Option ℕ) (xs ys : List Value) → length xs ≡ length ys → ((i : ℕ) (y : Value) → slice_get ys i ≡ Some y → MapsIf m (slice_get xs i) (Some y)) → AllZip (Maps m) xs ys
zip_gets m [] [] l h = tt
zip_gets m [] (y ∷ ys) l h = absurd (omega (arith, l))
zip_gets m (x ∷ xs) [] l h = absurd (omega (arith, l))
zip_gets m (x ∷ xs) (y ∷ ys) l h = (h 0 y refl, zip_gets m xs ys (omega (arith, l)) (λ i z e. h (suc i) z e))

get_some : {X : Type 0} (xs : List X) (k : ℕ) → k < length xs → (x : X) × (slice_get xs k ≡ Some x)
get_some [] k h = absurd (omega arith)
get_some (x ∷ xs) zero h = (x, refl)
get_some (x ∷ xs) (suc k) h = get_some xs k (omega arith)

module _ (laws : HeapLaws) (binding : BindingLaws) (t : Table) (bs : List BoxId) (vs : List Value) (w : World) (us : List Value) (u : World) (a : Admits t (plain_entry bs) vs w us u) where
  heaps_along : Alongside (slice_get a.mapped) u.objects w.objects
  heaps_along = record {
    one_to_one = a.agrees.injective.one_to_one;
    same = λ x j e. (
        let long : length a.mapped ≡ length u.objects = a.agrees.covers in
        let within : x < length a.mapped = slice_get_within a.mapped x j e in
        let o = get_some u.objects x (omega arith) in
        let b = a.agrees.alike x j o.0 o.1 e in
        (o.0, o.1, b.0, b.1, b.2.of, zip_gets (slice_get a.mapped) o.0.parts b.0.parts b.2.parts (λ i y ey. elim (a.agrees.parts x j i o.0 b.0 y o.1 e b.1 ey) [ inl q ↦ absurd q | inr q ↦ q ]))
        );
  }

  maps_as : (x z y : Value) → x ≡ z → Maps (slice_get a.mapped) x y → Maps (slice_get a.mapped) z y
  maps_as x z y e h = subst (λ (v : Value). Maps (slice_get a.mapped) v y) e h

  boxes_map : (box : BoxId → Option Value) (cs : List BoxId) (xs ys : List Value) → AllZip (λ b x. box b ≡ Some x) cs xs
      → AllZip (ValIs (record { box = box; rec = w; opt = u; mapped = a.mapped; virtuals = a.virtuals })) (map (λ b. Known (Of b)) cs) ys → AllZip (Maps (slice_get a.mapped)) xs ys
  boxes_map box [] [] [] h k = tt
  boxes_map box [] [] (y ∷ ys) h k = absurd k
  boxes_map box [] (x ∷ xs) ys h k = absurd h
  boxes_map box (c ∷ cs) [] ys h k = absurd h
  boxes_map box (c ∷ cs) (x ∷ xs) [] h k = absurd k
  boxes_map box (c ∷ cs) (x ∷ xs) (y ∷ ys) h k = (maps_as k.0.0 x y (same_Some k.0.0 x (sym k.0.1 ∙ h.0)) k.0.2, boxes_map box cs xs ys h.1 k.1)

  label_long : length us ≡ length bs
  label_long = sym (length-map us kind_of_value) ∙ ap length a.label_fits ∙ length-map bs (λ (b : BoxId). b.kind)

  values_map : AreDistinct bs → AllZip (Maps (slice_get a.mapped)) us vs
  values_map distinct = boxes_map (value_in (bound_to bs us)) bs us vs (binding.all_each [] bs us distinct label_long) a.values

  firsts : (xs ys : List Value) → AllZip (Maps (slice_get a.mapped)) xs ys → AllZip (Maps (slice_get a.mapped)) (option_to_list (first_value xs)) (option_to_list (first_value ys))
  firsts [] [] h = tt
  firsts [] (y ∷ ys) h = absurd h
  firsts (x ∷ xs) [] h = absurd h
  firsts (x ∷ xs) (y ∷ ys) h = (h.0, tt)

  finish_listing : AreDistinct bs → listing u.objects (roots (length t.prebuilts) (events u.log) (option_to_list (first_value us))) ≡ listing w.objects (roots (length t.prebuilts) (events w.log) (option_to_list (first_value vs)))
  finish_listing distinct =
      laws.listing (slice_get a.mapped) u.objects w.objects (roots (length t.prebuilts) (events u.log) (option_to_list (first_value us))) (roots (length t.prebuilts) (events w.log) (option_to_list (first_value vs))) heaps_along
      (laws.roots (slice_get a.mapped) (length t.prebuilts) (events u.log) (events w.log) (option_to_list (first_value us)) (option_to_list (first_value vs)) a.agrees.injective.prebuilt (events_along a.mapped u.log w.log a.agrees.calls) (firsts us vs (values_map distinct)))

-- Frames

abbrev drop_long : (k : ℕ) (vs : List Value) → k ≤ length vs → length (drop k vs) + k ≡ length vs
drop_long k vs h =
    let whole : length (take k vs ++ drop k vs) ≡ length vs = ap length (take-append-drop k vs) in
    let parts : length (take k vs ++ drop k vs) ≡ length (take k vs) + length (drop k vs) = length-append (take k vs) (drop k vs) in
    let first : length (take k vs) ≡ k = length-take-le k vs h in
    omega arith

no_items : (vs : List Value) → length vs ≡ 0 → [] ≡ vs
no_items [] h = refl
no_items (x ∷ xs) h = absurd (omega (arith, h))

slots_values : (fs : List Frame) (vs : List Value) → length vs ≡ length (slots_of fs) → values_in (frames_with fs vs) ≡ vs
slots_values [] vs h = no_items vs h
slots_values (f ∷ fs) vs h =
    let all : length (f.slots ++ slots_of fs) ≡ length f.slots + length (slots_of fs) = length-append f.slots (slots_of fs) in
    let long : length vs ≡ length (f.slots ++ slots_of fs) = h in
    let few : length f.slots ≤ length vs = omega arith in
    let left : length (drop (length f.slots) vs) + length f.slots ≡ length vs = drop_long (length f.slots) vs few in
    let rest : length (drop (length f.slots) vs) ≡ length (slots_of fs) = omega arith in
    ap (λ l. take (length f.slots) vs ++ l) (slots_values fs (drop (length f.slots) vs) rest) ∙ take-append-drop (length f.slots) vs

slots_shown : (fs : List Frame) (vs : List Value) → length vs ≡ length (slots_of fs) → map frame_shown (frames_with fs vs) ≡ map recorded_frame_shown fs
slots_shown [] vs h = refl
slots_shown (f ∷ fs) vs h =
    let all : length (f.slots ++ slots_of fs) ≡ length f.slots + length (slots_of fs) = length-append f.slots (slots_of fs) in
    let long : length vs ≡ length (f.slots ++ slots_of fs) = h in
    let few : length f.slots ≤ length vs = omega arith in
    let left : length (drop (length f.slots) vs) + length f.slots ≡ length vs = drop_long (length f.slots) vs few in
    let rest : length (drop (length f.slots) vs) ≡ length (slots_of fs) = omega arith in
    λ i. (f.name, f.pc, length-take-le (length f.slots) vs few i) ∷ slots_shown fs (drop (length f.slots) vs) rest i

kept_shown : (kept : List OptFrame) (made : List RecFrame) → AllZip IsFrameOf kept made → map frame_shown made ≡ map kept_frame_shown kept
kept_shown [] [] h = refl
kept_shown [] (g ∷ gs) h = absurd h
kept_shown (f ∷ fs) [] h = absurd h
kept_shown (f ∷ fs) (g ∷ gs) h = λ i. (h.0.name i, h.0.pc i, h.0.slots i) ∷ kept_shown fs gs h.1 i

same_head : {X : Type 0} (x y : X) (xs ys : List X) → x ∷ xs ≡ y ∷ ys → x ≡ y
same_head x y xs ys h = cc

same_tail : {X : Type 0} (x y : X) (xs ys : List X) → x ∷ xs ≡ y ∷ ys → xs ≡ ys
same_tail x y xs ys h = cc

frames_long : (kept : List OptFrame) (recorded : List Frame) → map kept_frame_shown kept ≡ map recorded_frame_shown recorded → length (kept_slots kept) ≡ length (slots_of recorded)
frames_long [] [] h = refl
frames_long [] (f ∷ fs) h = absurd (cc)
frames_long (k ∷ ks) [] h = absurd (cc)
frames_long (k ∷ ks) (f ∷ fs) h =
    let first : kept_frame_shown k ≡ recorded_frame_shown f = same_head (kept_frame_shown k) (recorded_frame_shown f) (map kept_frame_shown ks) (map recorded_frame_shown fs) h in
    let one : length k.slots ≡ length f.slots = ap (λ (s : FrameShown). s.2) first in
    let rest : length (kept_slots ks) ≡ length (slots_of fs) = frames_long ks fs (same_tail (kept_frame_shown k) (recorded_frame_shown f) (map kept_frame_shown ks) (map recorded_frame_shown fs) h) in
    let left : length (k.slots ++ kept_slots ks) ≡ length k.slots + length (kept_slots ks) = length-append k.slots (kept_slots ks) in
    let right : length (f.slots ++ slots_of fs) ≡ length f.slots + length (slots_of fs) = length-append f.slots (slots_of fs) in
    let P : ℕ → Type 0 = λ n. n ≡ length (f.slots ++ slots_of fs) in
    omega arith

-- Ends

module _ (laws : HeapLaws) (binding : BindingLaws) (set : TraceSet) (ms : List Made) (same : RebuiltSame) (fit : SnapshotsFit set ms) where
  count : ℕ
  count = length set.table.prebuilts

  -- with what is rebuilt
  exit_shown : (q : PieceId) (n : ℕ) (vs : List Value) (w : World) (us : List Value) (u : World) (m : Made) (e : Entry) (snap : Snapshot) (op : Op) → made_at ms q ≡ Some m → snapshot_in m.piece.ops n ≡ Some snap → IsEntryOf snap e
      → guard_in (ops_at set q.trace) n ≡ Some op → AreFramesOf op.snapshot snap.frames → Admits set.table e vs w us u
      → recorded_shown set (Over q.trace (Fails n vs w)) ≡ pieces_shown set ms (Over q (Fails n us u))
  exit_shown q n vs w us u m e snap op is found entry guard frames a =
      let r = same set.table snap e entry vs w us u a in
      let place : Place = place_with e w us u a.mapped a.virtuals in
      let slots : length vs ≡ length e.values = AllZip-long (ValIs place) e.values vs a.values in
      let long : length vs ≡ length (slots_of op.snapshot) = slots ∙ ap length entry.1 ∙ frames_long snap.frames op.snapshot frames in
      let recorded_frames : frames_at set q.trace n vs ≡ frames_with op.snapshot vs = ap (λ (g : Option Op). frames_of_guard g vs) guard in
      let at_snapshot : rebuilt_at set (pieces_of ms) q n us u ≡ Some r.0 =
      ap (λ (p : Option Piece). rebuilt_by set.table (snapshot_in (piece_ops p) n) us u) (piece_at-made ms q ∙ ap (option_map (λ (k : Made). k.piece)) is)
      ∙ ap (λ (s : Option Snapshot). rebuilt_by set.table s us u) found ∙ r.1 in
      let names : map frame_shown (frames_with op.snapshot vs) ≡ map frame_shown r.0.frames = slots_shown op.snapshot vs long ∙ sym frames ∙ sym (kept_shown snap.frames r.0.frames r.3) in
      let calls : map call_shown (events w.log) ≡ map call_shown (events u.log) = sym (calls_same a.mapped u.log w.log a.agrees.calls) in
      let list : listing w.objects (roots (length set.table.prebuilts) (events w.log) (values_in (frames_with op.snapshot vs))) ≡ listing r.0.objects (roots (length set.table.prebuilts) (events u.log) (values_in r.0.frames)) =
      ap (λ (xs : List Value). listing w.objects (roots (length set.table.prebuilts) (events w.log) xs)) (slots_values op.snapshot vs long) ∙ sym r.2 in
      ap (λ (fs : List RecFrame). end.Exited q.trace n (map frame_shown fs) (map call_shown (events w.log)) (listing w.objects (roots (length set.table.prebuilts) (events w.log) (values_in fs))).0 (listing w.objects (roots (length set.table.prebuilts) (events w.log) (values_in fs))).1) recorded_frames
      ∙ (λ i. end.Exited q.trace n (names i) (calls i) (list i).0 (list i).1)
      ∙ sym (ap (λ (o : Option Rebuilt). shown set.table (exited q.trace n o) (objects_or u o) (events u.log)) at_snapshot)

  at_guard : (q : PieceId) (n : ℕ) (vs : List Value) (w : World) (us : List Value) (u : World) (m : Made) (e : Entry) (snap : Snapshot) → made_at ms q ≡ Some m → snapshot_in m.piece.ops n ≡ Some snap → IsEntryOf snap e
      → (g : Option Op) → guard_in (ops_at set q.trace) n ≡ g → IsSomeAnd g (λ (op : Op). AreFramesOf op.snapshot snap.frames) → Admits set.table e vs w us u
      → recorded_shown set (Over q.trace (Fails n vs w)) ≡ pieces_shown set ms (Over q (Fails n us u))
  at_guard q n vs w us u m e snap is found entry None guard h a = absurd h
  at_guard q n vs w us u m e snap is found entry (Some op) guard h a = exit_shown q n vs w us u m e snap op is found entry guard h a

  at_snap : (q : PieceId) (n : ℕ) (vs : List Value) (w : World) (us : List Value) (u : World) (m : Made) (e : Entry) → made_at ms q ≡ Some m → (s : Option Snapshot) → snapshot_in m.piece.ops n ≡ s → IsSomeAnd s (FitsGuard set q.trace n e) → Admits set.table e vs w us u
      → recorded_shown set (Over q.trace (Fails n vs w)) ≡ pieces_shown set ms (Over q (Fails n us u))
  at_snap q n vs w us u m e is None found h a = absurd h
  at_snap q n vs w us u m e is (Some snap) found h a = at_guard q n vs w us u m e snap is found h.0 (guard_in (ops_at set q.trace) n) refl h.1 a

  no_guard : (n : ℕ) (e : Entry) → entry_for [] n ≡ Some e → ⊥
  no_guard n e h = cc

  fails_shown : (q : PieceId) (n : ℕ) (vs : List Value) (w : World) (us : List Value) (u : World) (e : Entry) (m : Option Made) → made_at ms q ≡ m → entry_for (guards_of m) n ≡ Some e → Admits set.table e vs w us u
      → recorded_shown set (Over q.trace (Fails n vs w)) ≡ pieces_shown set ms (Over q (Fails n us u))
  fails_shown q n vs w us u e None is found a = absurd (no_guard n e found)
  fails_shown q n vs w us u e (Some m) is found a = at_snap q n vs w us u m e is (snapshot_in m.piece.ops n) refl (fit q m is n e found) a

  ended_shown : (q : PieceId) (l x : Leave) → SameLeave set.table (guards_of (made_at ms q)) (end_of (made_at ms q)) l x → ¬ IsWrong l → recorded_shown set (Over q.trace l) ≡ pieces_shown set ms (Over q x)
  ended_shown q (Wrong w) x h not = absurd (not tt)
  ended_shown q (Fails n vs w) (Fails m us u) h not =
      subst (λ k. recorded_shown set (Over q.trace (Fails n vs w)) ≡ pieces_shown set ms (Over q (Fails k us u))) h.0 (fails_shown q n vs w us u h.1 (made_at ms q) refl h.2 h.3)
  ended_shown q (Jumps vs w) (Jumps us u) h not = refl
  ended_shown q (Finishes vs w) (Finishes us u) h not =
      let calls = sym (calls_same h.2.mapped u.log w.log h.2.agrees.calls) in
      let list = sym (finish_listing laws binding set.table h.0 vs w us u h.2 h.1) in
      λ i. end.Finished (calls i) (list i).0 (list i).1
  ended_shown q (Waits w) (Waits u) h not =
      let calls = sym (calls_same h.0.mapped u.log w.log h.0.calls) in
      let numbers = sym (laws.numbers h.0.mapped (length set.table.prebuilts) (events u.log) (events w.log) u.objects w.objects h.0.lawful (events_along h.0.mapped u.log w.log h.0.calls)) in
      λ i. end.Waits (calls i) (numbers i)
  ended_shown q (Misfits w) (Misfits u) h not =
      let calls = sym (calls_same h.0.mapped u.log w.log h.0.calls) in
      let numbers = sym (laws.numbers h.0.mapped (length set.table.prebuilts) (events u.log) (events w.log) u.objects w.objects h.0.lawful (events_along h.0.mapped u.log w.log h.0.calls)) in
      let call : length w.log - 1 ≡ length u.log - 1 = ap (λ n. n - 1) (sym (logs_long h.0.mapped u.log w.log h.0.calls)) in
      λ i. end.Misfit (call i) (calls i) (numbers i)
  ended_shown q _ _ h not = absurd h

  pub shows-alike : (p : ℕ) (l : Leave) (q : PieceId) (x : Leave) → EndedAlike set.table (joined ms) p l q x → ¬ IsWrong l → recorded_shown set (Over p l) ≡ pieces_shown set ms (Over q x)
  shows-alike p l q x h not = subst (λ k. recorded_shown set (Over k l) ≡ pieces_shown set ms (Over q x)) h.0 (ended_shown q l x h.1 not)
