-- The pieces of a bridge that was attached to an optimised set, beside the image in which the others stand.
use Rattle.std.proofs.Common.{◌≡◌, inl, inr, ℕ, zero, suc, ◌<◌, true, List, [], ◌∷◌, ◌++◌, Option, Some, None, length, map, slice_get, slice_set, refl, sym, ap, ◌∙◌, subst}
use Rattle.std.specs.Bool.{Decides}
use Rattle.std.specs.Option.{IsSomeAnd, option_and_then}
use Rattle.std.specs.List.{All, AllByRecursion, AllZip, Contains, flat_map}
use Rattle.std.proofs.lemmas.Option.{slice_get_within}
use Rattle.lists.specs.Has.{Has, IsOnce}
use Rattle.lists.proofs.Eaches.{each_parts}
use Rattle.lists.proofs.Membership.{has_left, has_right, has_cases, has_map, each_has}
use Rattle.lists.proofs.Options.{some_same}
use Rattle.lists.proofs.Places.{get_some, get_set_other}
use Rattle.trace_ops.specs.declared.trace.BoxId.{BoxId}
use Rattle.trace_ops.specs.declared.trace.Trace.{Trace}
use Rattle.trace_ops.specs.declared.trace.TraceSet.{TraceSet}
use Rattle.trace_ops.specs.declared.piece.Half.{Half}
use Rattle.trace_ops.specs.declared.piece.PieceId.{PieceId}
use Rattle.trace_ops.specs.declared.piece.OptOp.{OptOp}
use Rattle.trace_ops.specs.declared.piece.OptTrace.{OptTrace}
use Rattle.trace_ops.specs.declared.piece.Piece.{Piece}
use Rattle.trace_ops.specs.declared.piece.Entry.{Entry}
use Rattle.trace_ops.specs.Pieces.{guards_of}
use Rattle.trace_ops.specs.Rules.{above}
use Rattle.trace_ops.specs.Sound.{AreApart, IsSound}
use Rattle.trace_ops.specs.WellFormed.{IsWellFormed}
use Rattle.trace_ops.specs.Weights.{parent_at}
use Rattle.trace_meaning.specs.Cuts.{is_bridge_of}
use Rattle.opt_meaning.specs.Admits.{entry_for}
use Rattle.opt_meaning.specs.Meeting.{Made, made_at}
use Rattle.opt_meaning.specs.Pieces.{same_piece, all_pieces}
use Rattle.opt_meaning.specs.Worded.{OpHasWords}
use Rattle.opt_pass.specs.Contract.{kept_of, IsEntryAt}
use Rattle.asm_select.specs.Exited.{shown_by}
use Rattle.loop_peel.specs.Peeling.{IsLoop, IsBridge as IsPeeled, HavePreambles}
use Rattle.bridge_patch.specs.Pieces.{Placed}
use Rattle.bridge_patch.specs.Image.{Imaged, KeepsItsGuard, label_in}
use Rattle.bridge_patch.specs.Bridged.{IsBridge, LacksParent, is_from}
use Rattle.bridge_patch.specs.Attached.{IsCopy, AreOfBridge, guard_of}
use Rattle.opt_set.specs.Optimised.{Optimised, loops_from, places_of, IsTraceAt, name_of, IsOwnPiece, IsBehind, HasPieces, IsOptimised, OptimisedHavePreambles}
use Rattle.opt_set.specs.Attaching.{IsOneMore}
use Rattle.set_in_image.specs.Attaching.{StandIn, AttachedCanAttach}
use Rattle.set_in_image.proofs.Things.{some_none, none_pieces, append_none, append_assoc, flat_both, Parted, parted, had, contained, each_of, has_from, flat_has, flat_from, zip_last, zip_had, zip_has, apart_once, once_right}
use Rattle.set_in_image.proofs.Guards.{bridge_so, bridge_back, parent_is, from_some, name_is, none_of, found_here, found_once, guard_kept, kept_guard, numbers_kept, numbers_left, entry_once}
use Rattle.set_in_image.proofs.Loops.{all_guards}

abbrev half_of : Piece → Half
half_of p = p.id.half

abbrev piece_of : Made → Piece
piece_of m = m.piece

abbrev placed_piece : Placed → Piece
placed_piece pl = pl.piece

halves_apart : (b : ℕ) (ms : List Made) → ((m : Made) → Has ms m → m.piece.id.trace ≡ b) → IsOnce (map name_of ms) → AreApart (map half_of (map piece_of ms))
halves_apart b [] of once = tt
halves_apart b (m ∷ ms) of once = (
  λ c.
      let p = has_from half_of (map piece_of ms) m.piece.id.half (had (map half_of (map piece_of ms)) m.piece.id.half c) in
      let k = has_from piece_of ms p.0 p.1 in
      let half : k.0.piece.id.half ≡ m.piece.id.half = ap half_of k.2 ∙ p.2 in
      let name : name_of k.0 ≡ name_of m = name_is (name_of k.0) (name_of m) (of k.0 (inr k.1) ∙ sym (of m (inl refl))) half in
      once.0 (subst (Has (map name_of ms)) name (has_map name_of ms k.0 k.1)),
  halves_apart b ms (λ k h. of k (inr h)) once.1,
)

copied : (traces : List Trace) (b : ℕ) (placed : List Placed) (pl : Placed) (p : Piece) (op : OptOp) (n : ℕ) (h : Half) → Has placed pl → pl.piece ≡ p → p.id.half ≡ h → Has p.ops op → guard_of op ≡ Some n
    → is_bridge_of traces p.id.trace n b ≡ true → IsCopy traces b placed h op
copied traces b placed pl p op n h there is half among guard from = record {
  pl = pl;
  there = contained placed pl there;
  half = ap half_of is ∙ half;
  among = contained pl.piece.ops op (subst (λ (q : Piece). Has q.ops op) (sym is) among);
  from =
      subst (λ (q : Piece). is_from traces b q.id.trace (guard_of op) ≡ true) (sym is)
      (subst (λ (g : Option ℕ). is_from traces b p.id.trace g ≡ true) (sym guard) from);
}

record IsLeftAt (set : TraceSet) (b : ℕ) (ms : List Made) (h : Half) (op : OptOp) : Type 0 where
  made : Made
  there : Has ms made
  half : made.piece.id.half ≡ h
  guard : ℕ
  entry : Entry
  found : entry_for made.guards guard ≡ Some entry
  label : entry.label ≡ shown_by op
  from : is_bridge_of set.traces made.piece.id.trace guard b ≡ true

record IsEnteredAt (ms : List Made) (h : Half) (op : OptOp) : Type 0 where
  made : Made
  there : Has ms made
  half : made.piece.id.half ≡ h
  label : made.entry.label ≡ shown_by op

module _ (tell : (a b : PieceId) → Decides (same_piece a b) (a ≡ b)) (hp : OptimisedHavePreambles) (set : TraceSet) (old new : Optimised) (placed : List Placed) (image : Imaged) (well : IsWellFormed set) (i : IsOptimised set old) (j : IsOptimised set new) (one : IsOneMore old new) (s : StandIn set old placed image) where
  new_attached : new.attached ≡ old.attached ++ one.bridge ∷ []
  new_attached = ap (λ (z : Optimised). z.attached) one.is

  new_traces : new.traces ≡ old.traces ++ one.pieces ∷ []
  new_traces = ap (λ (z : Optimised). z.traces) one.is

  new_left : new.left ≡ slice_set old.left one.bridge (Some one.left)
  new_left = ap (λ (z : Optimised). z.left) one.is

  is_attached : Has new.attached one.bridge
  is_attached = subst (λ l. Has l one.bridge) (sym new_attached) (has_right old.attached (one.bridge ∷ []) one.bridge (inl refl))

  -- It is a bridge of the set, and isn't attached before

  there : (t : Trace) × (slice_get set.traces one.bridge ≡ Some t)
  there = get_some set.traces one.bridge (subst (λ n. one.bridge < n) i.holds.long (slice_get_within old.left one.bridge None one.free))

  other : IsLoop there.0.origin → ⊥
  other loop =
      let h = (i.holds.loops one.bridge there.0 (slice_get_within set.traces one.bridge there.0 there.1) there.1 loop).0 in
      none_pieces (sym one.free ∙ h.1)

  peeled : IsPeeled set one.bridge
  peeled = subst (λ o. IsSomeAnd o (λ (t : Trace). IsLoop t.origin → ⊥)) (sym there.1) other

  bridge : IsBridge set one.bridge
  bridge = bridge_so (slice_get set.traces one.bridge) peeled

  not_yet : Has old.attached one.bridge → ⊥
  not_yet w = let h = i.holds.attached_has one.bridge w in none_pieces (sym one.free ∙ h.1)

  -- It isn't its own parent

  module _ (n : ℕ) (own : is_bridge_of set.traces one.bridge n one.bridge ≡ true) where
    always : (k : ℕ) → above set one.bridge k ≡ Some one.bridge
    always zero = refl
    always (suc k) = ap (option_and_then (parent_at set)) (always k) ∙ parent_is set.traces one.bridge n (slice_get set.traces one.bridge) own

    not_own : ⊥
    not_own = some_none (sym (always (length set.traces)) ∙ (well.ordered one.bridge there.0 there.1).ends_above)

  has_parent : LacksParent set image.attached one.bridge → ⊥
  has_parent l =
      let h = j.holds.parents one.bridge is_attached l.parent l.guard l.from in
      let ne : l.parent ≡ one.bridge → ⊥ = λ e. not_own l.guard (subst (λ p. is_bridge_of set.traces p l.guard one.bridge ≡ true) e l.from) in
      let before : HasPieces old.left l.parent = (h.0, sym (get_set_other old.left one.bridge l.parent (Some one.left) ne) ∙ ap (λ ls. slice_get ls l.parent) (sym new_left) ∙ h.1) in
      let t = bridge_back (slice_get set.traces l.parent) l.bridge in
      l.away (contained image.attached l.parent (subst (λ a. Has a l.parent) (sym s.attached) (i.holds.has_attached l.parent t.0 before t.1 t.2)))

  -- Its pieces are the last that were made

  pieces_now : map piece_of j.made ≡ all_pieces old.traces ++ one.pieces.pieces
  pieces_now =
      sym j.pieces ∙ ap all_pieces new_traces ∙ flat_both (λ (o : OptTrace). o.pieces) old.traces (one.pieces ∷ [])
      ∙ ap (λ (l : List Piece). all_pieces old.traces ++ l) (append_none one.pieces.pieces)

  parts : Parted piece_of j.made (all_pieces old.traces) one.pieces.pieces
  parts = parted piece_of j.made (all_pieces old.traces) one.pieces.pieces pieces_now

  late : (m : Made) → Has parts.back m → Has j.made m
  late m h = subst (λ l. Has l m) (sym parts.whole) (has_right parts.front parts.back m h)

  early : (m : Made) → Has parts.front m → Has j.made m
  early m h = subst (λ l. Has l m) (sym parts.whole) (has_left parts.front parts.back m h)

  named : AllByRecursion (λ (p : Piece). p.id.trace ≡ one.bridge) one.pieces.pieces
  named =
      (zip_last (IsTraceAt set) (loops_from 0 set.traces ++ old.attached) old.traces one.bridge one.pieces
      (subst (λ (ks : List ℕ). AllZip (IsTraceAt set) ks (old.traces ++ one.pieces ∷ []))
      (ap (λ l. loops_from 0 set.traces ++ l) new_attached ∙ sym (append_assoc (loops_from 0 set.traces) old.attached (one.bridge ∷ [])))
      (subst (λ (ts : List OptTrace). AllZip (IsTraceAt set) (places_of set new.attached) ts) new_traces j.traces))).0

  trace_of : (m : Made) → Has parts.back m → m.piece.id.trace ≡ one.bridge
  trace_of m h = each_of (λ (p : Piece). p.id.trace ≡ one.bridge) one.pieces.pieces m.piece named (subst (λ l. Has l m.piece) parts.backs (has_map piece_of parts.back m h))

  own : (m : Made) → Has j.made m → IsOwnPiece set m
  own m h = each_of (IsOwnPiece set) j.made m j.holds.each h

  have : HavePreambles set (label_in (all_pieces old.traces))
  have = hp set old i

  sound_of : (m : Made) → Has j.made m → IsSound set (label_in (all_pieces old.traces)) m.piece
  sound_of m h = (own m h).sound (label_in (all_pieces old.traces)) have

  once_guards : (m : Made) → Has j.made m → IsOnce (map (λ (x : ℕ × Entry). x.0) m.guards)
  once_guards m h =
      subst IsOnce (numbers_kept m.piece.ops ∙ numbers_left (flat_map kept_of m.piece.ops) m.guards (own m h).guards)
      (apart_once (flat_map guards_of m.piece.ops) (sound_of m h).formed.guards_distinct)

  -- a made piece for each of these
  late_piece : (p : Piece) → Has one.pieces.pieces p → (m : Made) × Has parts.back m × (m.piece ≡ p)
  late_piece p h = has_from piece_of parts.back p (subst (λ l. Has l p) (sym parts.backs) h)

  early_piece : (p : Piece) → Has (all_pieces old.traces) p → (m : Made) × Has parts.front m × (m.piece ≡ p)
  early_piece p h = has_from piece_of parts.front p (subst (λ l. Has l p) (sym parts.fronts) h)

  no_early : (m : Made) → Has parts.front m → m.piece.id.trace ≡ one.bridge → ⊥
  no_early m h e =
      let k = has_from piece_of i.made m.piece (subst (λ l. Has l m.piece) (parts.fronts ∙ i.pieces) (has_map piece_of parts.front m h)) in
      none_of one.bridge i.made k.0 (i.holds.left_is one.bridge None one.free) k.1 (ap (λ (p : Piece). p.id.trace) k.2 ∙ e)

  -- Copies of its guard, and what they leave

  left_at : (h : Half) (op : OptOp) → IsCopy set.traces one.bridge placed h op → IsLeftAt set one.bridge parts.front h op
  left_at h op c =
      let n = from_some set.traces one.bridge c.pl.piece.id.trace (guard_of op) c.from in
      let old_has : Has (all_pieces old.traces) c.pl.piece = subst (λ l. Has l c.pl.piece) s.pieces (has_map placed_piece placed c.pl (had placed c.pl c.there)) in
      let m = early_piece c.pl.piece old_has in
      let k = guard_kept op n.0 n.1 in
      let among : Has m.0.piece.ops op = subst (λ (p : Piece). Has p.ops op) (sym m.2) (had c.pl.piece.ops op c.among) in
      let g = zip_had IsEntryAt (flat_map kept_of m.0.piece.ops) m.0.guards (own m.0 (early m.0 m.1)).guards (n.0, k.0) (flat_has kept_of m.0.piece.ops op (n.0, k.0) among k.1) in
      record {
        made = m.0;
        there = m.1;
        half = ap half_of m.2 ∙ c.half;
        guard = n.0;
        entry = g.0.1;
        found = entry_once n.0 g.0.1 m.0.guards (once_guards m.0 (early m.0 m.1)) (subst (λ x. Has m.0.guards (x, g.0.1)) (sym g.2.0) g.1);
        label = g.2.1.0 ∙ sym k.2;
        from = subst (λ (p : Piece). is_bridge_of set.traces p.id.trace n.0 one.bridge ≡ true) (sym m.2) n.2;
      }

  entered : (h : Half) (op : OptOp) → IsCopy set.traces one.bridge placed h op → IsEnteredAt parts.back h op
  entered h op c =
      let l = left_at h op c in
      let e = j.holds.bridges one.bridge is_attached (name_of l.made) l.made l.guard l.entry (found_once tell j.made l.made j.holds.once (early l.made l.there)) l.found l.from in
      let f = found_here tell j.made (record { trace = one.bridge; half = l.made.piece.id.half }) e.0 e.1 in
      elim (has_cases parts.front parts.back e.0 (subst (λ ms. Has ms e.0) parts.whole f.0)) [
        | inl u ↦ absurd (no_early e.0 u (ap (λ (q : PieceId). q.trace) f.1))
        | inr v ↦ record { made = e.0; there = v; half = ap (λ (q : PieceId). q.half) f.1 ∙ l.half; label = ap (λ (x : Entry). x.label) e.2 ∙ l.label }
      ]

  each_copy : (h : Half) (op : OptOp) → IsCopy set.traces one.bridge placed h op → (p : Piece) × Contains one.pieces.pieces p × (p.id.half ≡ h)
  each_copy h op c =
      let e = entered h op c in
      (e.made.piece, contained one.pieces.pieces e.made.piece (subst (λ l. Has l e.made.piece) parts.backs (has_map piece_of parts.back e.made e.there)), e.half)

  same_made : (m k : Made) → Has parts.back m → Has parts.back k → m.piece.id.half ≡ k.piece.id.half → m ≡ k
  same_made m k h g half =
      let name : name_of m ≡ name_of k = name_is (name_of m) (name_of k) (trace_of m h ∙ sym (trace_of k g)) half in
      some_same (sym (found_once tell j.made m j.holds.once (late m h)) ∙ ap (made_at j.made) name ∙ found_once tell j.made k j.holds.once (late k g))

  labelled : (p : Piece) (op : OptOp) → Contains one.pieces.pieces p → IsCopy set.traces one.bridge placed p.id.half op → map (λ (b : BoxId). b.kind) p.label ≡ map (λ (b : BoxId). b.kind) (shown_by op)
  labelled p op there c =
      let m = late_piece p (had one.pieces.pieces p there) in
      let e = entered p.id.half op c in
      let same : m.0 ≡ e.made = same_made m.0 e.made m.1 e.there (ap half_of m.2 ∙ sym e.half) in
      ap (λ (q : Piece). map (λ (b : BoxId). b.kind) q.label) (sym m.2)
      ∙ (own m.0 (late m.0 m.1)).label
      ∙ ap (λ (x : Made). map (λ (b : BoxId). b.kind) x.entry.label) same
      ∙ ap (λ (bs : List BoxId). map (λ (b : BoxId). b.kind) bs) e.label

  -- a piece begins with what a copy leaves
  behind : (m : Made) → Has parts.back m → IsBehind set j.made m
  behind m h =
      each_of (λ (x : Made). IsPeeled set x.piece.id.trace → IsBehind set j.made x) j.made m j.holds.behind (late m h)
      (subst (IsPeeled set) (sym (trace_of m h)) peeled)

  from_early : (m : Made) → Has parts.back m → (w : IsBehind set j.made m) → Has parts.front w.parent
  from_early m h w =
      let from : is_bridge_of set.traces w.parent.piece.id.trace w.guard one.bridge ≡ true = subst (λ k. is_bridge_of set.traces w.parent.piece.id.trace w.guard k ≡ true) (trace_of m h) w.from in
      elim (has_cases parts.front parts.back w.parent (subst (λ ms. Has ms w.parent) parts.whole w.there)) [
        | inl u ↦ u
        | inr v ↦ absurd (not_own w.guard (subst (λ p. is_bridge_of set.traces p w.guard one.bridge ≡ true) (trace_of w.parent v) from))
      ]

  copy_of : (m : Made) → Has parts.back m → (op : OptOp) × IsCopy set.traces one.bridge placed m.piece.id.half op
  copy_of m h =
      let w = behind m h in
      let u = from_early m h w in
      let from : is_bridge_of set.traces w.parent.piece.id.trace w.guard one.bridge ≡ true = subst (λ k. is_bridge_of set.traces w.parent.piece.id.trace w.guard k ≡ true) (trace_of m h) w.from in
      let here : Has (map placed_piece placed) w.parent.piece = subst (λ l. Has l w.parent.piece) (parts.fronts ∙ sym s.pieces) (has_map piece_of parts.front w.parent u) in
      let pl = has_from placed_piece placed w.parent.piece here in
      let x = zip_has IsEntryAt (flat_map kept_of w.parent.piece.ops) w.parent.guards (own w.parent (early w.parent u)).guards (w.guard, m.entry) w.entry in
      let op = flat_from kept_of w.parent.piece.ops x.0 x.1 in
      let guard : guard_of op.0 ≡ Some w.guard = kept_guard op.0 x.0 op.2 ∙ ap Some x.2.0 in
      (op.0, copied set.traces one.bridge placed pl.0 w.parent.piece op.0 w.guard m.piece.id.half pl.1 pl.2 w.half op.1 guard from)

  kept_piece : (p : Piece) → Has one.pieces.pieces p → (op : OptOp) × IsCopy set.traces one.bridge placed p.id.half op
  kept_piece p h = let m = late_piece p h in subst (λ (q : Piece). (op : OptOp) × IsCopy set.traces one.bridge placed q.id.half op) m.2 (copy_of m.0 m.1)

  sound_piece : (p : Piece) → Has one.pieces.pieces p → IsSound set (label_in (map (λ (pl : Placed). pl.piece) placed)) p
  sound_piece p h =
      let m = late_piece p h in
      subst (λ l. IsSound set (label_in l) p) (sym s.pieces) (subst (IsSound set (label_in (all_pieces old.traces))) m.2 (sound_of m.0 (late m.0 m.1)))

  guarded : AllByRecursion (λ (p : Piece). All KeepsItsGuard p.ops) one.pieces.pieces
  guarded =
      subst (AllByRecursion (λ (p : Piece). All KeepsItsGuard p.ops)) parts.backs
      (all_guards set parts.back (each_parts (IsOwnPiece set) parts.front parts.back (subst (AllByRecursion (IsOwnPiece set)) parts.whole j.holds.each)).1)

  apart : AreApart (map half_of one.pieces.pieces)
  apart =
      subst (λ l. AreApart (map half_of l)) parts.backs
      (halves_apart one.bridge parts.back trace_of
      (once_right (map name_of parts.front) (map name_of parts.back) (subst IsOnce (ap (map name_of) parts.whole ∙ names parts.front parts.back) j.holds.once)))
    where
      names : (xs ys : List Made) → map name_of (xs ++ ys) ≡ map name_of xs ++ map name_of ys
      names [] ys = refl
      names (x ∷ xs) ys = ap (λ l. name_of x ∷ l) (names xs ys)

  of_bridge : AllByRecursion (λ (p : Piece). All OpHasWords p.ops) one.pieces.pieces → AreOfBridge set placed one.bridge one.pieces.pieces
  of_bridge words = record {
    sound = each_has (IsSound set (label_in (map (λ (pl : Placed). pl.piece) placed))) one.pieces.pieces sound_piece;
    words = words;
    guards = guarded;
    named = named;
    once = apart;
    kept = each_has (λ (p : Piece). (op : OptOp) × IsCopy set.traces one.bridge placed p.id.half op) one.pieces.pieces kept_piece;
    each = each_copy;
    labels = labelled;
  }

  fresh : Contains image.attached one.bridge → ⊥
  fresh c = not_yet (subst (λ l. Has l one.bridge) s.attached (had image.attached one.bridge c))

pub can_attach : ((a b : PieceId) → Decides (same_piece a b) (a ≡ b)) → OptimisedHavePreambles → AttachedCanAttach
can_attach tell hp set old new placed image range well light i j one s words = (
  record {
    range = range;
    formed = well;
    light = light;
    placed = placed;
    image_of = s.image_of;
    is_bridge = bridge tell hp set old new placed image well i j one s;
    fresh = fresh tell hp set old new placed image well i j one s;
    parent = has_parent tell hp set old new placed image well i j one s;
    pieces_fit = of_bridge tell hp set old new placed image well i j one s words;
  },
  refl,
)
