-- Places that have each box of a snapshot tell the kinds of its slots.
use Rattle.std.proofs.Common.{◌≡◌, ℕ, ◌+◌, Bool, Option, Some, None, List, [], ◌∷◌, ◌++◌, ◌==◌, eq-eqb, length, map, slice_get, get_or, refl, ap, ◌∙◌, arith}
use Rattle.std.specs.Prelude.{position, option_and_then}
use Rattle.std.specs.List.{All, flat_map}
use Rattle.std.specs.Option.{option_map}
use Rattle.std.proofs.lemmas.Bool.{eqb-true}
use Rattle.std.proofs.lemmas.List.Quantifiers.{position-Some}
use Rattle.std.proofs.lemmas.Option.{slice_get_within, slice_get-get_or, slice_get-map}
use Rattle.trace_ops.specs.declared.trace.BoxId.{BoxId}
use Rattle.trace_ops.specs.declared.trace.Arg.TheVariants as arg
use Rattle.trace_ops.specs.declared.piece.Val.{Val}
use Rattle.trace_ops.specs.declared.piece.Val.TheVariants.{Known, Virtual}
use Rattle.trace_ops.specs.declared.piece.OptFrame.{OptFrame}
use Rattle.trace_ops.specs.Parts.{boxes_of_val, boxes_of_frame, boxes_of_shape, boxes_of_pending}
use Rattle.trace_ops.specs.Sound.{AreApart}
use Rattle.target_base.specs.declared.place.Place.{Place}
use Rattle.std.proofs.lemmas.List.Elements.{All-cons, All-head}
use Rattle.lists.proofs.Alls.{all_left, all_right}
use Rattle.resume_rebuild.specs.Rebuilding.{entry_in}
use Rattle.resume_rebuild.specs.Rows.{kind_in}
use Rattle.resume_rebuild.specs.Guarding.{IsPlaced, HasEach, PlacesTellKinds}
use Rattle.resume_rebuild.proofs.RowFinding.{hit, missed, apart_place}

-- the entry of a number is the one that has it
entry_is : (places : List (BoxId × Place)) (i : ℕ) (p : BoxId × Place) → AreApart (map (λ (q : BoxId × Place). q.0.number) places) → slice_get places i ≡ Some p → entry_in places p.0.number ≡ Some p
entry_is places i p apart e = by_place (position test places) refl
  where
    test : BoxId × Place → Bool
    test q = q.0.number == p.0.number

    number : BoxId × Place → ℕ
    number q = q.0.number

    by_place : (o : Option ℕ) → position test places ≡ o → option_and_then (slice_get places) o ≡ Some p
    by_place None f = absurd (missed test places f (hit test places i p e (eq-eqb p.0.number p.0.number refl)))
    by_place (Some j) f =
        let at = position-Some test places j p f in
        let there = slice_get-get_or places j p at.0 in
        let first = slice_get-map number places i ∙ ap (option_map number) e in
        let second = slice_get-map number places j ∙ ap (option_map number) there ∙ ap Some (eqb-true (number (get_or places j p)) p.0.number at.1) in
        let same : j ≡ i = apart_place (map number places) j i p.0.number apart second first in
        ap (slice_get places) same ∙ e

kind_told : (places : List (BoxId × Place)) (b : BoxId) → AreApart (map (λ (q : BoxId × Place). q.0.number) places) → HasEach places b → kind_in places b.number ≡ Some b.kind
kind_told places b apart (i, place, e) = ap (option_map (λ (q : BoxId × Place). q.0.kind)) (entry_is places i (b, place) apart e)

slots_placed : (places : List (BoxId × Place)) (vs : List Val) → AreApart (map (λ (q : BoxId × Place). q.0.number) places) → All (HasEach places) (flat_map boxes_of_val vs) → All (IsPlaced places) vs
slots_placed places [] apart h = λ k d lt. absurd (omega arith)
slots_placed places (w ∷ vs) apart h =
    All-cons (IsPlaced places) w vs (one w (all_left (HasEach places) (boxes_of_val w) (flat_map boxes_of_val vs) h)) (slots_placed places vs apart (all_right (HasEach places) (boxes_of_val w) (flat_map boxes_of_val vs) h))
  where
    one : (u : Val) → All (HasEach places) (boxes_of_val u) → IsPlaced places u
    one (Known (arg.Of b)) g = kind_told places b apart (All-head (HasEach places) b [] g)
    one (Known (arg.Const z)) g = tt
    one (Known arg.Null) g = tt
    one (Known (arg.Class k)) g = tt
    one (Known (arg.Func k)) g = tt
    one (Known (arg.Ptr k)) g = tt
    one (Virtual k) g = tt

frames_placed : (places : List (BoxId × Place)) (fs : List OptFrame) → AreApart (map (λ (q : BoxId × Place). q.0.number) places) → All (HasEach places) (flat_map boxes_of_frame fs) → All (λ (f : OptFrame). All (IsPlaced places) f.slots) fs
frames_placed places [] apart h = λ k d lt. absurd (omega arith)
frames_placed places (f ∷ fs) apart h =
    All-cons (λ (g : OptFrame). All (IsPlaced places) g.slots) f fs (slots_placed places f.slots apart (all_left (HasEach places) (boxes_of_frame f) (flat_map boxes_of_frame fs) h)) (frames_placed places fs apart (all_right (HasEach places) (boxes_of_frame f) (flat_map boxes_of_frame fs) h))

pub places_tell_kinds : PlacesTellKinds
places_tell_kinds places snap apart each =
    let frames = flat_map boxes_of_frame snap.frames in
    let shapes = flat_map boxes_of_shape snap.shapes in
    let most = all_left (HasEach places) (frames ++ shapes) (flat_map boxes_of_pending snap.pending) each in
    frames_placed places snap.frames apart (all_left (HasEach places) frames shapes most)
