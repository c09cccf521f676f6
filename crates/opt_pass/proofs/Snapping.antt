-- Snapshots of what recorded slots become, and the entries of bridges from there.
use Rattle.std.proofs.Common.{◌≡◌, ℕ, zero, suc, ◌+◌, ◌<◌, Bool, true, false, cond, ◌||◌, List, [], ◌∷◌, ◌++◌, Option, Some, None, length, map, slice_get, refl, sym, ap, ◌∙◌, subst, append_assoc, arith, ◌⊎◌, inl, inr}
use Rattle.std.specs.Prelude.{IsSome}
use Rattle.std.specs.List.{All, AllByRecursion, Contains, flat_map, list_any}
use Rattle.std.proofs.lemmas.Option.{slice_get-get_or, slice_get_within, get_or_from_slice_get}
use Rattle.std.proofs.lemmas.List.Elements.{All-from_recursion, All-nil}
use Rattle.trace_ops.specs.declared.trace.BoxId.{BoxId}
use Rattle.trace_ops.specs.declared.trace.Arg.{Arg}
use Rattle.trace_ops.specs.declared.trace.Arg.TheVariants as arg
use Rattle.trace_ops.specs.declared.trace.Frame.{Frame}
use Rattle.trace_ops.specs.declared.trace.TraceSet.{TraceSet}
use Rattle.trace_ops.specs.declared.table.Table.{Table}
use Rattle.trace_ops.specs.declared.piece.Val.{Val}
use Rattle.trace_ops.specs.declared.piece.Val.TheVariants.{Known, Virtual}
use Rattle.trace_ops.specs.declared.piece.Shape.{Shape}
use Rattle.trace_ops.specs.declared.piece.Pending.{Pending}
use Rattle.trace_ops.specs.declared.piece.Fact.{Fact}
use Rattle.trace_ops.specs.declared.piece.OptFrame.{OptFrame}
use Rattle.trace_ops.specs.declared.piece.Snapshot.{Snapshot}
use Rattle.trace_ops.specs.declared.piece.Entry.{Entry}
use Rattle.trace_ops.specs.Kinds.{kind_of_arg, kind_of_val, NamesArg, NamesVal, NamesShape}
use Rattle.trace_ops.specs.Lawful.{AreDistinct, IsNumbered, IsShapeLawful, IsPendingLawful, IsFactLawful, NamesPending, IsLawful}
use Rattle.trace_ops.specs.Parts.{boxes_of_arg, boxes_of_val, boxes_of_frame, boxes_of, with_boxes, parts_of}
use Rattle.trace_ops.specs.Snapshots.{and_then, numbered_all, numbered_parts, numbered_stores, IsValue, IsSnapshotSound, NamesSnapshot}
use Rattle.trace_meaning.specs.Boxes.{same_box}
use Rattle.trace_meaning.specs.Recorded.{slots_of as slots_in}
use Rattle.opt_meaning.specs.Admits.{slots_of}
use Rattle.lists.specs.Has.{Has, IsOnce}
use Rattle.lists.proofs.Eaches.{each_weaker, each_append, each_parts}
use Rattle.lists.proofs.Membership.{has_left, has_right, has_cases, has_at, has_get}
use Rattle.lists.proofs.Onces.{once_push}
use Rattle.opt_pass.specs.Laws.{Laws}
use Rattle.opt_pass.specs.Tables.{Names, name_in, meant}
use Rattle.opt_pass.specs.State.{slot_val, opt_frame, snap_of, entry_at}
use Rattle.opt_pass.specs.Keeping.{HasKind}
use Rattle.opt_pass.specs.Forming.{IsDefined, IsArg, IsNamed, HasNames}
use Rattle.opt_pass.proofs.Binding.{box_decides, same_itself}
use Rattle.opt_pass.proofs.Becoming.{meant_arg}

-- Lists

pub flat_both : {X Y : Type 0} (f : X → List Y) (xs ys : List X) → flat_map f (xs ++ ys) ≡ flat_map f xs ++ flat_map f ys
flat_both f [] ys = refl
flat_both f (x ∷ xs) ys = ap (λ zs. f x ++ zs) (flat_both f xs ys) ∙ sym (append_assoc (f x) (flat_map f xs) (flat_map f ys))

pub no_more : {X : Type 0} (xs : List X) → xs ++ [] ≡ xs
no_more [] = refl
no_more (x ∷ xs) = ap (λ ys. x ∷ ys) (no_more xs)

pub has_contained : {X : Type 0} (xs : List X) (x : X) → Contains xs x → Has xs x
has_contained xs x h = has_get xs h.0 x (slice_get-get_or xs h.0 x h.1 ∙ ap Some h.2)

pub contains_had : {X : Type 0} (xs : List X) (x : X) → Has xs x → Contains xs x
contains_had xs x h = let s = has_at xs x h in (s.0, slice_get_within xs s.0 x s.1, get_or_from_slice_get xs s.0 x x s.1)

pub distinct_once : (bs : List BoxId) → IsOnce bs → AreDistinct bs
distinct_once [] h = tt
distinct_once (b ∷ bs) h = ((λ c. h.0 (has_contained bs b c)), distinct_once bs h.1)

-- Each box once

module _ (laws : Laws) where
  found : (b : BoxId) (kept : List BoxId) → list_any (same_box b) kept ≡ true → Has kept b
  found b [] e = cc
  found b (c ∷ kept) e = by (found b kept) (same_box b c) refl e
    where
      by : (list_any (same_box b) kept ≡ true → Has kept b) → (q : Bool) → same_box b c ≡ q → (q || list_any (same_box b) kept) ≡ true → Has (c ∷ kept) b
      by r true same h = inl (sym ((box_decides laws b c).0 same))
      by r false same h = inr (r h)

  lost : (b : BoxId) (kept : List BoxId) → list_any (same_box b) kept ≡ false → Has kept b → ⊥
  lost b [] e h = h
  lost b (c ∷ kept) e h = by (lost b kept) (same_box b c) refl e h
    where
      true_false : true ≡ false → ⊥
      true_false e = cc

      by : (list_any (same_box b) kept ≡ false → Has kept b → ⊥) → (q : Bool) → same_box b c ≡ q → (q || list_any (same_box b) kept) ≡ false → Has (c ∷ kept) b → ⊥
      by r true same e h = true_false e
      by r false same e (inl is) = true_false (sym ((box_decides laws b c).1 (sym is)) ∙ same)
      by r false same e (inr h) = r e h

  pub with_once : (bs kept : List BoxId) → IsOnce kept → IsOnce (with_boxes kept bs)
  unfolding with_boxes
  with_once [] kept h = h
  with_once (b ∷ bs) kept h = by (λ k o. with_once bs k o) (list_any (same_box b) kept) refl
    where
      by : ((k : List BoxId) → IsOnce k → IsOnce (with_boxes k bs)) → (q : Bool) → list_any (same_box b) kept ≡ q → IsOnce (with_boxes (cond q kept (kept ++ b ∷ [])) bs)
      by r true e = r kept h
      by r false e = r (kept ++ b ∷ []) (once_push kept b h (lost b kept e))

  pub with_kept : (bs kept : List BoxId) (x : BoxId) → Has kept x ⊎ Has bs x → Has (with_boxes kept bs) x
  unfolding with_boxes
  with_kept [] kept x (inl h) = h
  with_kept [] kept x (inr h) = absurd h
  with_kept (b ∷ bs) kept x h = by (λ k w. with_kept bs k x w) (list_any (same_box b) kept) refl h
    where
      by : ((k : List BoxId) → Has k x ⊎ Has bs x → Has (with_boxes k bs) x) → (q : Bool) → list_any (same_box b) kept ≡ q → Has kept x ⊎ Has (b ∷ bs) x → Has (with_boxes (cond q kept (kept ++ b ∷ [])) bs) x
      by r true e (inl h) = r kept (inl h)
      by r true e (inr (inl is)) = r kept (inl (subst (Has kept) is (found b kept e)))
      by r true e (inr (inr h)) = r kept (inr h)
      by r false e (inl h) = r (kept ++ b ∷ []) (inl (has_left kept (b ∷ []) x h))
      by r false e (inr (inl is)) = r (kept ++ b ∷ []) (inl (has_right kept (b ∷ []) x (inl is)))
      by r false e (inr (inr h)) = r (kept ++ b ∷ []) (inr h)

pub with_only : (P : BoxId → Type 0) (bs kept : List BoxId) → AllByRecursion P kept → AllByRecursion P bs → AllByRecursion P (with_boxes kept bs)
unfolding with_boxes
with_only P [] kept h k = h
with_only P (b ∷ bs) kept h k = by (λ z w. with_only P bs z w k.1) (list_any (same_box b) kept)
  where
    by : ((z : List BoxId) → AllByRecursion P z → AllByRecursion P (with_boxes z bs)) → (q : Bool) → AllByRecursion P (with_boxes (cond q kept (kept ++ b ∷ [])) bs)
    by r true = r kept h
    by r false = r (kept ++ b ∷ []) (each_append P kept (b ∷ []) h (k.0, tt))

-- What slots become

abbrev pub IsGood : Table → List BoxId → Val → Type 0
IsGood t defined (Known a) = IsSome (kind_of_arg a) × NamesArg t a × AllByRecursion (IsDefined defined) (boxes_of_arg a)
IsGood t defined (Virtual n) = ⊥

abbrev pub AreGood : Table → List BoxId → List OptFrame → Type 0
AreGood t defined frames = AllByRecursion (λ (f : OptFrame). AllByRecursion (IsGood t defined) f.slots) frames

kind_there : (a : Arg) → HasKind a → IsSome (kind_of_arg a)
kind_there (arg.Of b) h = refl
kind_there (arg.Const z) h = refl
kind_there arg.Null h = refl
kind_there (arg.Class k) h = absurd h
kind_there (arg.Func k) h = absurd h
kind_there (arg.Ptr k) h = refl

module _ (t : Table) (defined : List BoxId) (names forward : Names)
    (named : (b : BoxId) (x : Val) → name_in names b ≡ Some x → IsNamed t defined b x)
    (standing : (b : BoxId) (x : Val) → name_in forward b ≡ Some x → IsNamed t [] b x) where
  pub good_slots : (slots : List Arg) → AllByRecursion (NamesArg t) slots → AllByRecursion HasKind slots → HasNames names slots → AllByRecursion (IsGood t defined) (map (slot_val names forward) slots)
  good_slots [] n k h = tt
  good_slots (a ∷ slots) n k h =
      let s = each_parts (λ (b : BoxId). IsSome (name_in names b)) (boxes_of_arg a) (flat_map boxes_of_arg slots) h in
      let m = meant_arg t defined names forward named standing a n.0 s.0 in
      ((subst IsSome (sym m.kind) (kind_there a k.0), m.named, m.boxes), good_slots slots n.1 k.1 s.1)

  pub good_frames : (frames : List Frame) → AllByRecursion (NamesArg t) (slots_in frames) → AllByRecursion HasKind (slots_in frames) → HasNames names (slots_in frames) → AreGood t defined (map (opt_frame names forward) frames)
  good_frames [] n k h = tt
  good_frames (f ∷ frames) n k h =
      let ns = each_parts (NamesArg t) f.slots (slots_in frames) n in
      let ks = each_parts HasKind f.slots (slots_in frames) k in
      let both = subst (AllByRecursion (λ (b : BoxId). IsSome (name_in names b))) (flat_both boxes_of_arg f.slots (slots_in frames)) h in
      let hs = each_parts (λ (b : BoxId). IsSome (name_in names b)) (flat_map boxes_of_arg f.slots) (flat_map boxes_of_arg (slots_in frames)) both in
      (good_slots f.slots ns.0 ks.0 hs.0, good_frames frames ns.1 ks.1 hs.1)

-- Snapshots

abbrev pub bare_snap : List OptFrame → Snapshot
bare_snap frames = record { frames = frames; shapes = []; pending = [] }

module _ (t : Table) (defined : List BoxId) where
  good_all : (Q : Val → Type 0) → ((v : Val) → IsGood t defined v → Q v) → (frames : List OptFrame) → AreGood t defined frames → All (λ (f : OptFrame). All Q f.slots) frames
  good_all Q w frames h = All-from_recursion (λ (f : OptFrame). All Q f.slots) frames (each_weaker (λ (f : OptFrame). AllByRecursion (IsGood t defined) f.slots) (λ (f : OptFrame). All Q f.slots) (λ f k. All-from_recursion Q f.slots (each_weaker (IsGood t defined) Q w f.slots k)) frames h)

  good_flat : (frames : List OptFrame) → AreGood t defined frames → AllByRecursion (IsGood t defined) (slots_of frames)
  good_flat [] h = tt
  good_flat (f ∷ frames) h = each_append (IsGood t defined) f.slots (slots_of frames) h.0 (good_flat frames h.1)

  numbers_none : (vs : List Val) → AllByRecursion (IsGood t defined) vs → numbered_all 0 vs ≡ Some 0
  numbers_none [] h = refl
  numbers_none (Known a ∷ vs) h = numbers_none vs h.1
  numbers_none (Virtual k ∷ vs) h = absurd h.0

  good_numbered : (n : ℕ) (v : Val) → IsGood t defined v → IsNumbered n v
  good_numbered n (Known a) h = tt
  good_numbered n (Virtual k) h = absurd h

  good_value : (v : Val) → IsGood t defined v → IsValue v
  good_value (Known a) h = h.0
  good_value (Virtual k) h = absurd h

  good_named : (v : Val) → IsGood t defined v → NamesVal t v
  good_named (Known a) h = h.1
  good_named (Virtual k) h = absurd h

  good_boxes : (vs : List Val) → AllByRecursion (IsGood t defined) vs → AllByRecursion (IsDefined defined) (flat_map boxes_of_val vs)
  good_boxes [] h = tt
  good_boxes (Known a ∷ vs) h = each_append (IsDefined defined) (boxes_of_arg a) (flat_map boxes_of_val vs) h.0.2 (good_boxes vs h.1)
  good_boxes (Virtual k ∷ vs) h = absurd h.0

  pub snap_sound : (frames : List OptFrame) → 0 < length frames → AreGood t defined frames → IsSnapshotSound t (bare_snap frames)
  snap_sound frames some h = record {
    has_a_frame = some;
    slots_numbered = good_all (IsNumbered 0) (good_numbered 0) frames h;
    parts_numbered = All-nil _;
    stores_numbered = All-nil _;
    virtuals_in_order = ap (λ z. and_then z (λ n. and_then (numbered_parts 0 n []) (λ m. numbered_stores [] m []))) (numbers_none (slots_of frames) (good_flat frames h));
    shapes_lawful = All-nil _;
    slots_are_values = good_all IsValue good_value frames h;
    parts_are_values = All-nil _;
    stored_are_values = All-nil _;
    bases_are_values = All-nil _;
    stores_lawful = All-nil _;
  }

  pub snap_named : (frames : List OptFrame) → AreGood t defined frames → NamesSnapshot t (bare_snap frames)
  snap_named frames h = record {
    slots = good_all (NamesVal t) good_named frames h;
    shapes = All-nil _;
    parts = All-nil _;
    stores = All-nil _;
  }

  frames_flat : (frames : List OptFrame) → flat_map boxes_of_frame frames ≡ flat_map boxes_of_val (slots_of frames)
  frames_flat [] = refl
  frames_flat (f ∷ frames) = ap (λ z. flat_map boxes_of_val f.slots ++ z) (frames_flat frames) ∙ sym (flat_both boxes_of_val f.slots (slots_of frames))

  pub snap_boxes : (frames : List OptFrame) → boxes_of (bare_snap frames) ≡ flat_map boxes_of_val (slots_of frames)
  snap_boxes frames = no_more (flat_map boxes_of_frame frames ++ []) ∙ no_more (flat_map boxes_of_frame frames) ∙ frames_flat frames

  pub snap_defined : (frames : List OptFrame) → AreGood t defined frames → AllByRecursion (IsDefined defined) (boxes_of (bare_snap frames))
  snap_defined frames h = subst (AllByRecursion (IsDefined defined)) (sym (snap_boxes frames)) (good_boxes (slots_of frames) (good_flat frames h))

  pub snap_parts : (frames : List OptFrame) → AreGood t defined frames → AllByRecursion (IsDefined defined) (parts_of (bare_snap frames))
  snap_parts frames h = with_only (IsDefined defined) (boxes_of (bare_snap frames)) [] tt (snap_defined frames h)

-- Entries

module _ (laws : Laws) (set : TraceSet) (defined : List BoxId) where
  pub entry_lawful : (frames : List OptFrame) → AreGood set.table defined frames → IsLawful set (entry_at (bare_snap frames))
  entry_lawful frames h =
      let t : Table = set.table in
      let vs : List Val = slots_of frames in
      let parts : List BoxId = parts_of (bare_snap frames) in
      let good : AllByRecursion (IsGood t defined) vs = good_flat t defined frames h in
      let own : flat_map boxes_of_val vs ++ [] ++ [] ++ [] ≡ boxes_of (bare_snap frames) = no_more (flat_map boxes_of_val vs ++ [] ++ []) ∙ no_more (flat_map boxes_of_val vs ++ []) ∙ no_more (flat_map boxes_of_val vs) ∙ sym (snap_boxes t defined frames) in
      record {
        label_distinct = distinct_once parts (with_once laws (boxes_of (bare_snap frames)) [] tt);
        boxes_in_label = subst (All (Contains parts)) (sym own) (all_in (boxes_of (bare_snap frames)) (λ b k. contains_had parts b (with_kept laws (boxes_of (bare_snap frames)) [] b (inr k))));
        values_numbered = All-from_recursion (IsNumbered 0) vs (each_weaker (IsGood t defined) (IsNumbered 0) (good_numbered t defined 0) vs good);
        parts_numbered = All-nil _;
        stores_numbered = All-nil _;
        shapes_lawful = All-nil _;
        stores_lawful = All-nil _;
        facts_lawful = All-nil _;
        values_named = All-from_recursion (NamesVal t) vs (each_weaker (IsGood t defined) (NamesVal t) (good_named t defined) vs good);
        parts_named = All-nil _;
        stores_named = All-nil _;
      }
    where
      all_in : {P : BoxId → Type 0} (bs : List BoxId) → ((b : BoxId) → Has bs b → P b) → All P bs
      all_in {P} bs f = All-from_recursion P bs (each bs f)
        where
          each : (bs : List BoxId) → ((b : BoxId) → Has bs b → P b) → AllByRecursion P bs
          each [] f = tt
          each (b ∷ bs) f = (f b (inl refl), each bs (λ c k. f c (inr k)))
