-- Making several virtual objects, and storing their parts.
use Rattle.std.proofs.Common.{◌≡◌, List, [], ◌∷◌, ◌++◌, Some, slice_get, map, refl, sym, ap, ◌∙◌, subst}
use Rattle.lists.proofs.Options.{some_same}
use Rattle.trace_ops.specs.declared.table.Table.{Table}
use Rattle.trace_ops.specs.declared.piece.Pending.{Pending}
use Rattle.trace_meaning.specs.Boxes.{Boxes}
use Rattle.opt_meaning.specs.Agrees.{Facts, Place, Agrees}
use Rattle.std.proofs.lemmas.List.{append-nil, append_assoc}
use Rattle.opt_meaning.specs.Rebuilding.{stores_done}
use Rattle.agreement.specs.Making.{Making, made_pending, part_stores, made_known, made_place, known_after, place_after, CanMake, renamed_all, all_stores, ForceAgrees}
use Rattle.agreement.proofs.MakeObject.{make_object}
use Rattle.agreement.proofs.Flush.{flushes_agree}

makes_agree : (t : Table) (boxes : Boxes) (ms : List Making) (known : Facts) (at : Place) → Agrees t known boxes at → CanMake t known at ms → Agrees t (known_after ms known) boxes (place_after ms at)
makes_agree t boxes [] known at h can = h
makes_agree t boxes (m ∷ ms) known at h can =
    let s = h.shaped m.number m.shape can.0 in
    let same : s.object ≡ m.recorded = some_same (sym s.names ∙ can.1) in
    makes_agree t boxes ms (made_known m.number m.box m.spots m.shape known) (made_place m.object m.recorded at)
    (make_object t known boxes at h m.number m.box m.shape m.spots m.object m.recorded s.recorded can.0 can.1 (ap (slice_get at.rec.objects) (sym same) ∙ s.there) s.of s.parts can.2 can.3 can.4)
    can.5

map_append : {X Y : Type 0} (f : X → Y) (xs ys : List X) → map f (xs ++ ys) ≡ map f xs ++ map f ys
map_append f [] ys = refl
map_append f (x ∷ xs) ys = ap (λ zs. f x ∷ zs) (map_append f xs ys)

renamed_append : (ms : List Making) (xs ys : List Pending) → renamed_all ms (xs ++ ys) ≡ renamed_all ms xs ++ renamed_all ms ys
renamed_append [] xs ys = refl
renamed_append (m ∷ ms) xs ys = ap (renamed_all ms) (map_append (made_pending m.number m.box) xs ys) ∙ renamed_append ms (map (made_pending m.number m.box) xs) (map (made_pending m.number m.box) ys)

pending_after : (ms : List Making) (known : Facts) → (known_after ms known).pending ≡ renamed_all ms known.pending ++ all_stores ms
pending_after [] known = sym (append-nil known.pending)
pending_after (m ∷ ms) known =
    let old = map (made_pending m.number m.box) known.pending in
    let new = map (made_pending m.number m.box) (part_stores m.box m.spots m.shape.parts) in
    pending_after ms (made_known m.number m.box m.spots m.shape known)
    ∙ ap (λ ps. ps ++ all_stores ms) (renamed_append ms old new)
    ∙ append_assoc (renamed_all ms old) (renamed_all ms new) (all_stores ms)

box_after : (ms : List Making) (at : Place) → (place_after ms at).box ≡ at.box
box_after [] at = refl
box_after (m ∷ ms) at = box_after ms (made_place m.object m.recorded at)

pub force_agrees : ForceAgrees
force_agrees t known boxes at h ms next can all =
    let made = makes_agree t boxes ms known at h can in
    let split = pending_after ms known ∙ ap (λ ps. renamed_all ms known.pending ++ ps) (sym (append-nil (all_stores ms))) in
    let done = flushes_agree t (known_after ms known) boxes (place_after ms at) made (renamed_all ms known.pending) (all_stores ms) [] next split all in (
      done.0,
      subst (λ box. stores_done t box next (all_stores ms) (place_after ms at).opt ≡ Some done.0) (box_after ms at) done.1,
      subst (λ ps. Agrees t (record (known_after ms known) { pending = ps }) boxes (record (place_after ms at) { opt = done.0 })) (append-nil (renamed_all ms known.pending)) done.2,
    )
