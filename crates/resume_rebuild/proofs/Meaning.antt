-- Rebuilding over words is what rebuilding means.
use Rattle.std.proofs.Common.{◌≡◌, ℕ, zero, suc, ◌+◌, ◌*◌, ◌<◌, ◌≤◌, Option, Some, None, List, [], ◌∷◌, ◌++◌, length, map, slice_get, refl, ap, sym, ◌∙◌, subst, arith, pos}
use Rattle.std.specs.Prelude.{option_and_then}
use Rattle.std.specs.Option.{option_map}
use Rattle.std.proofs.lemmas.List.{length-append}
use Rattle.std.proofs.lemmas.Option.{same_Some}
use Rattle.trace_ops.specs.declared.trace.BoxId.{BoxId}
use Rattle.trace_ops.specs.declared.table.Table.{Table}
use Rattle.trace_ops.specs.declared.piece.Snapshot.{Snapshot}
use Rattle.trace_meaning.specs.declared.value.Value.{Value}
use Rattle.trace_meaning.specs.declared.value.Value.TheVariants as v
use Rattle.trace_meaning.specs.declared.value.Object.{Object}
use Rattle.trace_meaning.specs.declared.state.RecFrame.{RecFrame}
use Rattle.trace_meaning.specs.World.{World}
use Rattle.trace_meaning.specs.Kinds.{IsValueOf}
use Rattle.trace_ops.specs.declared.trace.Kind.{Kind}
use Rattle.trace_ops.specs.declared.trace.Kind.TheVariants as kind
use Rattle.arena_objects.specs.declared.walk.Found.{Found}
use Rattle.arena_objects.specs.Layout.{words_in, words_before, words_of, address_of}
use Rattle.arena_objects.specs.Standing.{Stands}
use Rattle.arena_objects.specs.Walk.{as_found}
use Rattle.opt_meaning.specs.Rebuilding.{Rebuilt, all_of, made_object, with_objects, virtuals_made, stores_done, frame_made, rebuilt_with, rebuilt_from}
use Rattle.resume_rebuild.specs.Rebuilding.{extents_of, first_new, filled_of, filled_all, made_all, sources_of, rebuilt_arena}
use Rattle.resume_rebuild.specs.Laws.{RebuildsWhatIsMeant}
use Rattle.resume_rebuild.proofs.ArenaLaws.{ArenaLaws, Agree, word_same}
use Rattle.resume_rebuild.proofs.Made.{all_zeroed, length_zeroed, made_stand, address_made, before_left, before_right}
use Rattle.resume_rebuild.proofs.Valued.{IsReadBy}
use Rattle.resume_rebuild.proofs.Refilled.{StandsBy, all_filled}
use Rattle.resume_rebuild.proofs.Stored.{then_of, all_stored}
use Rattle.resume_rebuild.proofs.Framed.{frames_back}

-- the addresses that the walk finds
addresses_found : (os : List Object) (a k : ℕ) → k < length os → slice_get (map (λ (f : Found). pos f.at) (as_found a os)) k ≡ Some (pos (a + 8 * words_before os k))
addresses_found [] a k lt = absurd (omega arith)
addresses_found (o ∷ os) a zero lt =
    let same : a ≡ a + 8 * 0 = omega arith in
    ap (λ n. Some (pos n)) same
addresses_found (o ∷ os) a (suc k) lt =
    let same : a + 8 * words_in o + 8 * words_before os k ≡ a + 8 * (words_in o + words_before os k) = omega arith in
    addresses_found os (a + 8 * words_in o) k (omega arith) ∙ ap (λ n. Some (pos n)) same

value_more : (n m : ℕ) (k : Kind) (x : Value) → n ≤ m → IsValueOf n k x → IsValueOf m k x
value_more n m kind.Int (v.Int z) le h = tt
value_more n m kind.Int v.Null le h = absurd h
value_more n m kind.Int (v.Obj j) le h = absurd h
value_more n m kind.Ref (v.Int z) le h = absurd h
value_more n m kind.Ref v.Null le h = tt
value_more n m kind.Ref (v.Obj j) le h = (let lt : j < n = h in omega arith)

-- the world with the new objects, the one after the stores, and the frames
pub record IsRebuilt (t : Table) (snap : Snapshot) (box : BoxId → Option Value) (w : World) (r : Rebuilt) : Type 0 where
  pub new : List Object
  pub after : World
  pub made : all_of (made_object box (length w.objects)) snap.shapes ≡ Some new
  pub stored : stores_done t box (length w.objects) snap.pending (with_objects w new) ≡ Some after
  pub framed : all_of (frame_made box (length w.objects)) snap.frames ≡ Some r.frames
  pub objects : after.objects ≡ r.objects

map_of : {X Y : Type 0} (f : X → Y) (o : Option X) (y : Y) → option_map f o ≡ Some y → (x : X) × (o ≡ Some x) × (f x ≡ y)
map_of f None y e = absurd (cc)
map_of f (Some x) y e = (x, refl, same_Some (f x) y e)

with_of : (o : Option World) (fs : Option (List RecFrame)) (r : Rebuilt) → rebuilt_with o fs ≡ Some r → (w : World) × (o ≡ Some w) × (fs ≡ Some r.frames) × (w.objects ≡ r.objects)
with_of None fs r e = absurd (cc)
with_of (Some w) None r e = absurd (cc)
with_of (Some w) (Some fs) r e =
    let s = same_Some (record { objects = w.objects; frames = fs }) r e in
    (w, refl, ap (λ (x : Rebuilt). Some x.frames) s, ap (λ (x : Rebuilt). x.objects) s)

rebuilt_of : (t : Table) (snap : Snapshot) (box : BoxId → Option Value) (w : World) (r : Rebuilt) → rebuilt_from t box snap w ≡ Some r → IsRebuilt t snap box w r
rebuilt_of t snap box w r e =
    let a = with_of (option_and_then (stores_done t box (length w.objects) snap.pending) (virtuals_made box snap.shapes w)) (all_of (frame_made box (length w.objects)) snap.frames) r e in
    let b = then_of (stores_done t box (length w.objects) snap.pending) (virtuals_made box snap.shapes w) a.0 a.1 in
    let c = map_of (with_objects w) (all_of (made_object box (length w.objects)) snap.shapes) b.0 b.1 in
    record {
      new = c.0;
      after = a.0;
      made = c.1;
      stored = ap (stores_done t box (length w.objects) snap.pending) c.2 ∙ b.2;
      framed = a.2;
      objects = a.3;
    }

pub rebuilds_what_is_meant : ArenaLaws → RebuildsWhatIsMeant
rebuilds_what_is_meant laws t snap box w places frame arena r lists st boxes can room e =
    let objects = w.objects in
    let n = length objects in
    let m = length snap.shapes in
    let zs = all_zeroed t snap.shapes in
    let all = objects ++ zs in
    let at = address_of all in
    let known = sources_of t snap places frame arena in
    let taken : arena.taken ≡ 8 * words_of objects = st.taken in
    let agree : Agree n (address_of objects) at = λ k lt. ap (λ j. 0x10000000 + 8 * j) (sym (before_left objects zs k (omega arith))) in
    let read : IsReadBy box n m at known = record {
      words = λ b x h. (boxes b x h).word ∙ word_same n (address_of objects) at x agree (boxes b x h).part;
      parts = λ b x h. laws.stay n (n + m) x (omega arith) (boxes b x h).part;
      kinds = λ b x h. value_more n (n + m) b.kind x (omega arith) (boxes b x h).kind;
      before = λ k lt. ap (λ l. slice_get (map (λ (f : Found). pos f.at) l) k) (laws.walk t objects arena st) ∙ addresses_found objects 0x10000000 k lt ∙ ap (λ j. Some (pos j)) (agree k lt);
      made = λ k lt.
          (let right : words_before all (n + k) ≡ words_of objects + words_before zs k = before_right objects zs (n + k) k refl in
          let same : first_new arena + 8 * words_before zs k ≡ at (n + k) = omega arith in
          address_made t snap.shapes (first_new arena) k can.shapes lt ∙ ap (λ j. Some (pos j)) same);
    } in
    let is = rebuilt_of t snap box w r e in
    let many : length all ≡ n + m = length-append objects zs ∙ ap (λ k. n + k) (length_zeroed t snap.shapes) in
    let one : StandsBy t all (n + m) at (made_all t (extents_of snap) arena) = record { stands = made_stand laws.stand t objects snap.shapes arena st can.shapes room; many = many; agree = λ k lt. refl } in
    let place : first_new arena ≡ 0x10000000 + 8 * words_of objects = omega arith in
    let two = all_filled laws t box n m at known read objects snap.shapes is.new (first_new arena) (made_all t (extents_of snap) arena) can.shapes can.parts place one is.made in
    let three = all_stored laws t lists box n m at known read snap.pending (with_objects w is.new) is.after (filled_all (first_new arena) (map (filled_of known) snap.shapes) (made_all t (extents_of snap) arena)) can.bases can.values two is.stored in
    let frames = frames_back laws t is.after.objects box n m at (rebuilt_arena t snap places frame arena) known read three snap.frames r.frames can.slots is.framed in
    (subst (λ l. Stands t l (rebuilt_arena t snap places frame arena)) is.objects three.stands, frames)
