-- Pending stores are done, in order.
use Rattle.std.proofs.Common.{◌≡◌, ℕ, ◌+◌, ◌<◌, Bool, true, false, cond, is_some, Option, Some, None, List, [], ◌∷◌, length, map, slice_get, refl, ap, sym, ◌∙◌, subst, arith, ℤ, pos}
use Rattle.std.specs.Prelude.{option_and_then, slice_set}
use Rattle.std.specs.Option.{option_map}
use Rattle.std.specs.List.{All}
use Rattle.std.proofs.Math.ListN.{length-set}
use Rattle.std.proofs.lemmas.Option.{same_Some, slice_get_within}
use Rattle.trace_ops.specs.declared.trace.BoxId.{BoxId}
use Rattle.trace_ops.specs.declared.table.Table.{Table}
use Rattle.trace_ops.specs.declared.piece.Spot.{Spot}
use Rattle.trace_ops.specs.declared.piece.Val.TheVariants.{Known}
use Rattle.trace_ops.specs.declared.piece.Pending.{Pending}
use Rattle.trace_meaning.specs.declared.value.Value.{Value}
use Rattle.trace_meaning.specs.declared.value.Value.TheVariants as v
use Rattle.trace_meaning.specs.declared.value.Object.{Object}
use Rattle.trace_meaning.specs.World.{World}
use Rattle.trace_meaning.specs.Boxes.{arg_value}
use Rattle.trace_meaning.specs.Objects.{is_frozen, written, with_object, write_unfrozen, write}
use Rattle.target_base.specs.Arena.{Arena, arena_word, with_arena_word}
use Rattle.arena_objects.specs.Layout.{address_of, word_of}
use Rattle.arena_objects.specs.Standing.{IsPart, Stands}
use Rattle.arena_objects.specs.Spots.{spot_offset, ListsItsFields}
use Rattle.opt_meaning.specs.Rebuilding.{val_value, write_if, pending_done, stores_done}
use Rattle.std.proofs.lemmas.List.Elements.{All-head, All-tail}
use Rattle.resume_rebuild.specs.Rebuilding.{Sources, arg_word, val_word, put_word, stored_at, stored_of, stored_all}
use Rattle.resume_rebuild.specs.Standing.{IsNamed}
use Rattle.resume_rebuild.proofs.ArenaLaws.{ArenaLaws, word_same}
use Rattle.resume_rebuild.proofs.Valued.{IsReadBy, IsRead, val_reads}
use Rattle.resume_rebuild.proofs.Refilled.{StandsBy}

pub then_of : {X Y : Type 0} (f : X → Option Y) (o : Option X) (y : Y) → option_and_then f o ≡ Some y → (x : X) × (o ≡ Some x) × (f x ≡ Some y)
then_of f None y e = absurd (cc)
then_of f (Some x) y e = (x, refl, e)

module _ (laws : ArenaLaws) (t : Table) (lists : ListsItsFields t) (n : ℕ) (at : ℕ → ℕ) where
  -- a store to a spot of an object
  stored_one : (w : World) (arena : Arena) (spot : Spot) (k : ℕ) (o p : Object) (x : Value) → StandsBy t w.objects n at arena → IsPart n x → slice_get w.objects k ≡ Some o → written t spot x o ≡ Some p → StandsBy t (slice_set w.objects k p) n at (put_word (at k + spot_offset t spot) (word_of at x) arena)
  stored_one w arena spot k o p x st part there e =
      let objects = w.objects in
      let here : IsPart (length objects) x = subst (λ j. IsPart j x) (sym st.many) part in
      let few : k < n = (let a : k < length objects = slice_get_within objects k o there in let b : length objects ≡ n = st.many in omega arith) in
      let all = laws.written t objects arena spot k o p x lists st.stands here there e in
      let word : word_of (address_of objects) x ≡ word_of at x = word_same n (address_of objects) at x st.agree part in
      let there : is_some (arena_word arena (at k + spot_offset t spot)) ≡ true = subst (λ a. is_some (arena_word arena (a + spot_offset t spot)) ≡ true) (st.agree k few) all.0 in
      let put : put_word (at k + spot_offset t spot) (word_of at x) arena ≡ with_arena_word (at k + spot_offset t spot) (word_of at x) arena = ap (λ b. cond b (with_arena_word (at k + spot_offset t spot) (word_of at x) arena) arena) there in
      let one = subst (λ a. Stands t (slice_set objects k p) (with_arena_word (a + spot_offset t spot) (word_of (address_of objects) x) arena)) (st.agree k few) all.1 in
      record {
        stands = subst (Stands t (slice_set objects k p)) (sym put) (subst (λ z. Stands t (slice_set objects k p) (with_arena_word (at k + spot_offset t spot) z arena)) word one);
        many = length-set objects k p ∙ st.many;
        agree = λ j lt. all.2 j ∙ st.agree j lt;
      }

  write_stands : (w u : World) (arena : Arena) (spot : Spot) (b x : Value) (bw xw : ℤ) → StandsBy t w.objects n at arena → IsRead n at bw b → IsRead n at xw x → write t spot b x w ≡ Some u → StandsBy t u.objects n at (stored_at bw (spot_offset t spot) xw arena)
  write_stands w u arena spot (v.Int z) x bw xw st rb rx e = absurd (cc)
  write_stands w u arena spot v.Null x bw xw st rb rx e = absurd (cc)
  write_stands w u arena spot (v.Obj k) x bw xw st rb rx e = by_frozen (is_frozen t spot k) e
    where
      done : (o p : Object) → slice_get w.objects k ≡ Some o → written t spot x o ≡ Some p → with_object k w p ≡ u → StandsBy t u.objects n at (stored_at bw (spot_offset t spot) xw arena)
      done o p there f same =
          let base : stored_at (pos (at k)) (spot_offset t spot) xw arena ≡ stored_at bw (spot_offset t spot) xw arena = ap (λ z. stored_at z (spot_offset t spot) xw arena) (sym rb.0) in
          let value : stored_at (pos (at k)) (spot_offset t spot) (word_of at x) arena ≡ stored_at (pos (at k)) (spot_offset t spot) xw arena = ap (λ z. stored_at (pos (at k)) (spot_offset t spot) z arena) (sym rx.0) in
          let one : StandsBy t (with_object k w p).objects n at (stored_at (pos (at k)) (spot_offset t spot) (word_of at x) arena) = stored_one w arena spot k o p x st rx.1 there f in
          subst (λ (y : World). StandsBy t y.objects n at (stored_at bw (spot_offset t spot) xw arena)) same (subst (StandsBy t (with_object k w p).objects n at) (value ∙ base) one)

      by_written : (o : Object) → slice_get w.objects k ≡ Some o → (q : Option Object) → written t spot x o ≡ q → option_map (with_object k w) q ≡ Some u → StandsBy t u.objects n at (stored_at bw (spot_offset t spot) xw arena)
      by_written o there None f g = absurd (cc)
      by_written o there (Some p) f g = done o p there f (same_Some (with_object k w p) u g)

      by_object : (q : Option Object) → slice_get w.objects k ≡ q → option_map (with_object k w) (option_and_then (written t spot x) q) ≡ Some u → StandsBy t u.objects n at (stored_at bw (spot_offset t spot) xw arena)
      by_object None there g = absurd (cc)
      by_object (Some o) there g = by_written o there (written t spot x o) refl g

      by_frozen : (b : Bool) → write_unfrozen b t spot k x w ≡ Some u → StandsBy t u.objects n at (stored_at bw (spot_offset t spot) xw arena)
      by_frozen true g = absurd (cc)
      by_frozen false g = by_object (slice_get w.objects k) refl g

module _ (laws : ArenaLaws) (t : Table) (lists : ListsItsFields t) (box : BoxId → Option Value) (n m : ℕ) (at : ℕ → ℕ) (known : Sources) (r : IsReadBy box n m at known) where
  pending_stands : (p : Pending) (w u : World) (arena : Arena) → IsNamed n m (Known p.base) → IsNamed n m p.value → StandsBy t w.objects (n + m) at arena → pending_done t box n p w ≡ Some u → StandsBy t u.objects (n + m) at (stored_at (arg_word known p.base) (spot_offset t p.spot) (val_word known p.value) arena)
  pending_stands p w u arena hb hv st e = by_both (arg_value box p.base) (val_value box n p.value) refl refl e
    where
      by_both : (b x : Option Value) → arg_value box p.base ≡ b → val_value box n p.value ≡ x → write_if t p b x w ≡ Some u → StandsBy t u.objects (n + m) at (stored_at (arg_word known p.base) (spot_offset t p.spot) (val_word known p.value) arena)
      by_both None x eb ex f = absurd (cc)
      by_both (Some b) None eb ex f = absurd (cc)
      by_both (Some b) (Some x) eb ex f =
          write_stands laws t lists (n + m) at w u arena p.spot b x (arg_word known p.base) (val_word known p.value) st
          (val_reads box n m at known (Known p.base) b r hb eb) (val_reads box n m at known p.value x r hv ex) f

  pub all_stored : (ps : List Pending) (w u : World) (arena : Arena) → All (λ (p : Pending). IsNamed n m (Known p.base)) ps → All (λ (p : Pending). IsNamed n m p.value) ps → StandsBy t w.objects (n + m) at arena → stores_done t box n ps w ≡ Some u → StandsBy t u.objects (n + m) at (stored_all (map (stored_of t known) ps) arena)
  all_stored [] w u arena hb hv st e = subst (λ (y : World). StandsBy t y.objects (n + m) at arena) (same_Some w u e) st
  all_stored (p ∷ ps) w u arena hb hv st e =
      let d = then_of (stores_done t box n ps) (pending_done t box n p w) u e in
      let one = pending_stands p w d.0 arena (All-head (λ (x : Pending). IsNamed n m (Known x.base)) p ps hb) (All-head (λ (x : Pending). IsNamed n m x.value) p ps hv) st d.1 in
      all_stored ps d.0 u (stored_at (arg_word known p.base) (spot_offset t p.spot) (val_word known p.value) arena) (All-tail (λ (x : Pending). IsNamed n m (Known x.base)) p ps hb) (All-tail (λ (x : Pending). IsNamed n m x.value) p ps hv) one d.2
