-- Sound pieces can be numbered.
use Rattle.std.proofs.Common.{◌≡◌, ℕ, zero, suc, ◌+◌, ◌^◌, ◌<◌, List, [], ◌∷◌, ◌++◌, Some, length, map, take, slice_get, sym, ap, subst, ◌∙◌, inl, inr, arith}
use Rattle.std.specs.List.{All, Contains, flat_map, range_with_len}
use Rattle.std.proofs.lemmas.List.Elements.{All-nil, All-cons, All-head, All-tail, All-append, Contains-append_left, Contains-append_right, Contains-append_cases}
use Rattle.std.proofs.lemmas.Option.{slice_get-get_or}
use Rattle.lists.proofs.Alls.{all_from, all_right, all_weaker}
use Rattle.lists.proofs.Options.{some_same}
use Rattle.trace_ops.specs.declared.trace.BoxId.{BoxId}
use Rattle.trace_ops.specs.declared.trace.Arg.TheVariants.{Of, Const, Null, Class, Func, Ptr}
use Rattle.trace_ops.specs.declared.piece.Val.{Val}
use Rattle.trace_ops.specs.declared.piece.Val.TheVariants.{Known, Virtual}
use Rattle.trace_ops.specs.declared.piece.OptFrame.{OptFrame}
use Rattle.trace_ops.specs.declared.piece.Shape.{Shape}
use Rattle.trace_ops.specs.declared.piece.Pending.{Pending}
use Rattle.trace_ops.specs.declared.piece.Snapshot.{Snapshot}
use Rattle.trace_ops.specs.declared.piece.OptOp.{OptOp}
use Rattle.trace_ops.specs.declared.piece.Piece.{Piece}
use Rattle.trace_ops.specs.declared.table.Table.{Table}
use Rattle.trace_ops.specs.Lawful.{IsNumbered}
use Rattle.trace_ops.specs.Parts.{boxes_of_arg, boxes_of_val, boxes_of}
use Rattle.trace_ops.specs.Pieces.{results_of, args_of, snapshots_of, used_by, defined_by, defined_before}
use Rattle.trace_ops.specs.Snapshots.{IsValue, IsSnapshotSound}
use Rattle.trace_ops.specs.Sound.{snapshots_in}
use Rattle.resume_numbering.specs.Values.{values_of_store, values_in, IsBoxBelow}
use Rattle.resume_numbering.specs.Conditions.{HaveOneKind, SoundPiecesCanBeNumbered}
use Rattle.resume_numbering.proofs.ValueBoxes.{snapshot_from, all_flat, flat_parts}

-- ---- values and virtuals

store_values : (P : Val → Type 0) (ps : List Pending) → All (λ (p : Pending). P (Known p.base)) ps → All (λ (p : Pending). P p.value) ps → All (λ (p : Pending). All P (values_of_store p)) ps
store_values P [] a b = All-nil (λ (p : Pending). All P (values_of_store p))
store_values P (p ∷ ps) a b =
    All-cons (λ (q : Pending). All P (values_of_store q)) p ps
    (All-cons P (Known p.base) (p.value ∷ []) (All-head (λ (q : Pending). P (Known q.base)) p ps a) (All-cons P p.value [] (All-head (λ (q : Pending). P q.value) p ps b) (All-nil P)))
    (store_values P ps (All-tail (λ (q : Pending). P (Known q.base)) p ps a) (All-tail (λ (q : Pending). P q.value) p ps b))

all_values : (P : Val → Type 0) (s : Snapshot) → All (λ (f : OptFrame). All P f.slots) s.frames → All (λ (h : Shape). All P h.parts) s.shapes → All (λ (p : Pending). P (Known p.base)) s.pending → All (λ (p : Pending). P p.value) s.pending → All P (values_in s)
all_values P s slots parts bases values =
    let a = flat_map (λ (f : OptFrame). f.slots) s.frames in
    let b = flat_map (λ (h : Shape). h.parts) s.shapes in
    All-append P (a ++ b) (flat_map values_of_store s.pending)
    (All-append P a b (all_flat P (λ (f : OptFrame). f.slots) s.frames slots) (all_flat P (λ (h : Shape). h.parts) s.shapes parts))
    (all_flat P values_of_store s.pending (store_values P s.pending bases values))

are_values : (t : Table) (s : Snapshot) → IsSnapshotSound t s → All IsValue (values_in s)
are_values t s h = all_values IsValue s h.slots_are_values h.parts_are_values h.bases_are_values h.stored_are_values

are_numbered : (t : Table) (s : Snapshot) → IsSnapshotSound t s → All (IsNumbered (length s.shapes)) (values_in s)
are_numbered t s h = all_values (IsNumbered (length s.shapes)) s h.slots_numbered h.parts_numbered (λ k d w. tt) h.stores_numbered

-- ---- boxes

is_below : (n : ℕ) (v : Val) → All (λ (b : BoxId). b.number < n) (boxes_of_val v) → IsBoxBelow n v
is_below n (Known (Of b)) h = All-head (λ (x : BoxId). x.number < n) b [] h
is_below n (Known (Const z)) h = tt
is_below n (Known Null) h = tt
is_below n (Known (Class k)) h = tt
is_below n (Known (Func k)) h = tt
is_below n (Known (Ptr k)) h = tt
is_below n (Virtual k) h = tt

-- a box among these
abbrev IsAmong : List BoxId → Val → Type 0
IsAmong boxes (Known (Of b)) = Contains boxes b
IsAmong boxes _ = Unit {0}

is_among : (boxes : List BoxId) (v : Val) → All (Contains boxes) (boxes_of_val v) → IsAmong boxes v
is_among boxes (Known (Of b)) h = All-head (Contains boxes) b [] h
is_among boxes (Known (Const z)) h = tt
is_among boxes (Known Null) h = tt
is_among boxes (Known (Class k)) h = tt
is_among boxes (Known (Func k)) h = tt
is_among boxes (Known (Ptr k)) h = tt
is_among boxes (Virtual k) h = tt

taken : (k : ℕ) (ops : List OptOp) (b : BoxId) → Contains (flat_map results_of (take k ops)) b → Contains (flat_map results_of ops) b
taken zero ops b c = absurd (omega (arith, c.1))
taken (suc k) [] b c = c
taken (suc k) (op ∷ ops) b c = elim (Contains-append_cases (results_of op) (flat_map results_of (take k ops)) b c) [
  | inl h ↦ Contains-append_left (results_of op) (flat_map results_of ops) b h
  | inr h ↦ Contains-append_right (results_of op) (flat_map results_of ops) b (taken k ops b h)
]

defined : (p : Piece) (k : ℕ) (b : BoxId) → Contains (defined_before p k) b → Contains (defined_by p) b
defined p k b c = elim (Contains-append_cases p.label (flat_map results_of (take k p.ops)) b c) [
  | inl h ↦ Contains-append_left p.label (flat_map results_of p.ops) b h
  | inr h ↦ Contains-append_right p.label (flat_map results_of p.ops) b (taken k p.ops b h)
]

-- the boxes of all snapshots are defined
snapshots_defined : (p : Piece) → ((k : ℕ) (op : OptOp) → slice_get p.ops k ≡ Some op → All (Contains (defined_before p k)) (used_by op)) → All (λ (s : Snapshot). All (Contains (defined_by p)) (boxes_of s)) (snapshots_in p)
snapshots_defined p h = all_flat (λ (s : Snapshot). All (Contains (defined_by p)) (boxes_of s)) snapshots_of p.ops (all_from (λ op. All (λ (s : Snapshot). All (Contains (defined_by p)) (boxes_of s)) (snapshots_of op)) p.ops each)
  where
    each : (k : ℕ) (op : OptOp) → slice_get p.ops k ≡ Some op → All (λ (s : Snapshot). All (Contains (defined_by p)) (boxes_of s)) (snapshots_of op)
    each k op e =
        let used = all_right (Contains (defined_before p k)) (flat_map boxes_of_arg (args_of op)) (flat_map boxes_of (snapshots_of op)) (h k op e) in
        flat_parts (Contains (defined_by p)) boxes_of (snapshots_of op) (all_weaker (Contains (defined_before p k)) (Contains (defined_by p)) (flat_map boxes_of (snapshots_of op)) (defined p k) used)

values_defined : (p : Piece) → All (λ (s : Snapshot). All (Contains (defined_by p)) (boxes_of s)) (snapshots_in p) → All (IsAmong (defined_by p)) (flat_map values_in (snapshots_in p))
values_defined p h =
    all_flat (IsAmong (defined_by p)) values_in (snapshots_in p)
    (all_weaker (λ (s : Snapshot). All (Contains (defined_by p)) (boxes_of s)) (λ (s : Snapshot). All (IsAmong (defined_by p)) (values_in s)) (snapshots_in p) (snapshot_from (Contains (defined_by p)) (IsAmong (defined_by p)) (is_among (defined_by p))) h)

-- ---- a number has one kind

head_same : {xs ys : List ℕ} {m n : ℕ} → m ∷ xs ≡ n ∷ ys → m ≡ n
head_same h = cc

tail_same : {xs ys : List ℕ} {m n : ℕ} → m ∷ xs ≡ n ∷ ys → xs ≡ ys
tail_same h = cc

numbered_at : (xs : List BoxId) (s i : ℕ) (b : BoxId) → map (λ (x : BoxId). x.number) xs ≡ range_with_len s (length xs) → slice_get xs i ≡ Some b → b.number ≡ s + i
numbered_at [] s i b h e = cc
numbered_at (x ∷ xs) s zero b h e =
    let same : x.number ≡ b.number = ap (λ (y : BoxId). y.number) (some_same e) in
    omega (arith, head_same h, same)
numbered_at (x ∷ xs) s (suc i) b h e = let r = numbered_at xs (s + 1) i b (tail_same h) e in omega (arith, r)

one_box : (xs : List BoxId) (a b : BoxId) → map (λ (x : BoxId). x.number) xs ≡ range_with_len 0 (length xs) → Contains xs a → Contains xs b → a.number ≡ b.number → a.kind ≡ b.kind
one_box xs a b h c d e =
    let at : slice_get xs c.0 ≡ Some a = slice_get-get_or xs c.0 a c.1 ∙ ap Some c.2 in
    let to : slice_get xs d.0 ≡ Some b = slice_get-get_or xs d.0 b d.1 ∙ ap Some d.2 in
    let same : c.0 ≡ d.0 = omega (arith, numbered_at xs 0 c.0 a h at, numbered_at xs 0 d.0 b h to, e) in
    ap (λ (x : BoxId). x.kind) (some_same (sym at ∙ ap (slice_get xs) same ∙ to))

of_value : {X : Type 0} (P : X → Type 0) (xs : List X) (x : X) → All P xs → Contains xs x → P x
of_value P xs x h c = subst P c.2 (h c.0 x c.1)

one_kind : (p : Piece) → map (λ (x : BoxId). x.number) (defined_by p) ≡ range_with_len 0 (length (defined_by p)) → All (IsAmong (defined_by p)) (flat_map values_in (snapshots_in p)) → HaveOneKind (flat_map values_in (snapshots_in p))
one_kind p numbered all a b c d e =
    let vals = flat_map values_in (snapshots_in p) in
    one_box (defined_by p) a b numbered (of_value (IsAmong (defined_by p)) vals (Known (Of a)) all c) (of_value (IsAmong (defined_by p)) vals (Known (Of b)) all d) e

pub sound_pieces_can : SoundPiecesCanBeNumbered
sound_pieces_can set label_of p sound =
    let formed = sound.formed in
    let snaps = snapshots_in p in
    let t = set.table in
    record {
      guards_once = formed.guards_distinct;
      has_frames = all_weaker (IsSnapshotSound t) (λ (s : Snapshot). 0 < length s.frames) snaps (λ s h. h.has_a_frame) formed.snapshots_sound;
      one_kind = one_kind p formed.boxes_numbered (values_defined p (snapshots_defined p formed.boxes_defined));
      are_values = all_weaker (IsSnapshotSound t) (λ (s : Snapshot). All IsValue (values_in s)) snaps (are_values t) formed.snapshots_sound;
      virtuals_named = all_weaker (IsSnapshotSound t) (λ (s : Snapshot). All (IsNumbered (length s.shapes)) (values_in s)) snaps (are_numbered t) formed.snapshots_sound;
      few_boxes = all_weaker (λ (s : Snapshot). All (λ (b : BoxId). b.number < 2 ^ 30) (boxes_of s)) (λ (s : Snapshot). All (IsBoxBelow (2 ^ 30)) (values_in s)) snaps (snapshot_from (λ (b : BoxId). b.number < 2 ^ 30) (IsBoxBelow (2 ^ 30)) (is_below (2 ^ 30))) sound.room.boxes;
      few_shapes_each = sound.room.shapes_of_each;
      few_constants = sound.room.constants;
      few_frames = sound.room.frames;
      few_shapes = sound.room.shapes;
    }
