-- The values of slots, and the frames.
use Rattle.std.proofs.Common.{◌≡◌, ℕ, ◌+◌, ◌<◌, ◌≤◌, Option, Some, None, List, [], ◌∷◌, length, map, refl, ap, sym, ◌∙◌, arith, ℤ, pos, negsuc}
use Rattle.std.specs.List.{All}
use Rattle.std.specs.Option.{option_map}
use Rattle.std.proofs.lemmas.Option.{same_Some}
use Rattle.trace_ops.specs.declared.trace.BoxId.{BoxId}
use Rattle.trace_ops.specs.declared.trace.Kind.{Kind}
use Rattle.trace_ops.specs.declared.trace.Kind.TheVariants as kind
use Rattle.trace_ops.specs.declared.trace.Arg.TheVariants as arg
use Rattle.trace_ops.specs.declared.table.Table.{Table}
use Rattle.trace_ops.specs.declared.piece.Val.{Val}
use Rattle.trace_ops.specs.declared.piece.Val.TheVariants.{Known, Virtual}
use Rattle.trace_ops.specs.declared.piece.OptFrame.{OptFrame}
use Rattle.trace_meaning.specs.declared.value.Value.{Value}
use Rattle.trace_meaning.specs.declared.value.Value.TheVariants as v
use Rattle.trace_meaning.specs.declared.value.Object.{Object}
use Rattle.trace_meaning.specs.declared.state.RecFrame.{RecFrame}
use Rattle.trace_meaning.specs.Kinds.{IsValueOf}
use Rattle.target_base.specs.Arena.{Arena}
use Rattle.arena_objects.specs.Layout.{address_of, word_of}
use Rattle.arena_objects.specs.Walk.{object_at}
use Rattle.arena_objects.specs.Walked.{addresses_found}
use Rattle.arena_objects.specs.ReadBack.{reference_to}
use Rattle.opt_meaning.specs.Rebuilding.{all_of, val_value, frame_made}
use Rattle.std.proofs.lemmas.List.Elements.{All-head, All-tail}
use Rattle.resume_rebuild.specs.Rebuilding.{Sources, box_word, arg_word, val_word, value_as, slot_value, frame_of}
use Rattle.resume_rebuild.specs.Standing.{IsNamed, AreNamed}
use Rattle.resume_rebuild.proofs.ArenaLaws.{ArenaLaws}
use Rattle.resume_rebuild.proofs.Valued.{both_of, none_of, IsReadBy, val_reads}
use Rattle.resume_rebuild.proofs.Refilled.{StandsBy}

abbrev nat_in : ℤ → ℕ
nat_in (pos n) = n
nat_in (negsuc n) = 0

same_pos : (a b : ℕ) → pos a ≡ pos b → a ≡ b
same_pos a b e = ap nat_in e

module _ (laws : ArenaLaws) (t : Table) (objects : List Object) (count : ℕ) (at : ℕ → ℕ) (after : Arena) (st : StandsBy t objects count at after) where
  -- 0 is no object's address
  zero_is_null : reference_to (object_at t after (pos 0)) ≡ v.Null
  zero_is_null = by_found (object_at t after (pos 0)) refl
    where
      by_found : (q : Option ℕ) → object_at t after (pos 0) ≡ q → reference_to q ≡ v.Null
      by_found None e = refl
      by_found (Some k) e =
          let both = (laws.numbers t objects after (pos 0) k st.stands).0 e in
          let low : 0x10000000 ≤ address_of objects k = (laws.apart t objects after k st.stands both.0).low in
          let same : 0 ≡ address_of objects k = same_pos 0 (address_of objects k) both.1 in
          absurd (omega arith)

  reference_back : (x : Value) → IsValueOf count kind.Ref x → value_as (addresses_found t after) kind.Ref (word_of at x) ≡ x
  reference_back (v.Int z) h = absurd h
  reference_back v.Null h = ap reference_to (laws.found t after (pos 0)) ∙ zero_is_null
  reference_back (v.Obj k) h =
      let lt : k < count = h in
      let few : k < length objects = (let a : length objects ≡ count = st.many in omega arith) in
      ap reference_to (laws.found t after (pos (at k))) ∙ ap (λ a. reference_to (object_at t after (pos a))) (sym (st.agree k lt)) ∙ ap reference_to (laws.told t objects after k st.stands few)

  -- a word of a value is read as the value
  pub value_back : (k : Kind) (w : ℤ) (x : Value) → IsValueOf count k x → w ≡ word_of at x → value_as (addresses_found t after) k w ≡ x
  value_back kind.Int w (v.Int z) h e = ap v.Int e
  value_back kind.Int w v.Null h e = absurd h
  value_back kind.Int w (v.Obj n) h e = absurd h
  value_back kind.Ref w x h e = ap (value_as (addresses_found t after) kind.Ref) e ∙ reference_back x h

module _ (laws : ArenaLaws) (t : Table) (objects : List Object) (box : BoxId → Option Value) (n m : ℕ) (at : ℕ → ℕ) (after : Arena) (known : Sources) (r : IsReadBy box n m at known) (st : StandsBy t objects (n + m) at after) where
  slot_back : (w : Val) (x : Value) → IsNamed n m w → val_value box n w ≡ Some x → slot_value (addresses_found t after) known w ≡ x
  slot_back (Known (arg.Of b)) x h e = value_back laws t objects (n + m) at after st b.kind (box_word known b.number) x (r.kinds b x e) (r.words b x e)
  slot_back (Known (arg.Const z)) x h e = same_Some (v.Int z) x e
  slot_back (Known arg.Null) x h e =
      let same : v.Null ≡ x = same_Some v.Null x e in
      value_back laws t objects (n + m) at after st kind.Ref (pos 0) v.Null tt refl ∙ same
  slot_back (Known (arg.Ptr k)) x h e =
      let same : v.Obj k ≡ x = same_Some (v.Obj k) x e in
      let read = val_reads box n m at known (Known (arg.Ptr k)) (v.Obj k) r h refl in
      value_back laws t objects (n + m) at after st kind.Ref (arg_word known (arg.Ptr k)) (v.Obj k) read.1 read.0 ∙ same
  slot_back (Known (arg.Class k)) x h e = absurd (cc)
  slot_back (Known (arg.Func k)) x h e = absurd (cc)
  slot_back (Virtual k) x h e =
      let same : v.Obj (n + k) ≡ x = same_Some (v.Obj (n + k)) x e in
      let read = val_reads box n m at known (Virtual k) (v.Obj (n + k)) r h refl in
      value_back laws t objects (n + m) at after st kind.Ref (val_word known (Virtual k)) (v.Obj (n + k)) read.1 read.0 ∙ same

  slots_back : (ws : List Val) (xs : List Value) → AreNamed n m ws → all_of (val_value box n) ws ≡ Some xs → map (slot_value (addresses_found t after) known) ws ≡ xs
  slots_back [] xs h e = sym (none_of xs e)
  slots_back (w ∷ ws) xs h e =
      let b = both_of (val_value box n w) (all_of (val_value box n) ws) xs e in
      ap (λ y. y ∷ map (slot_value (addresses_found t after) known) ws) (slot_back w b.0 (All-head (IsNamed n m) w ws h) b.2)
      ∙ ap (λ l. b.0 ∷ l) (slots_back ws b.1 (All-tail (IsNamed n m) w ws h) b.3)
      ∙ sym b.4

  frame_back : (f : OptFrame) (g : RecFrame) → AreNamed n m f.slots → frame_made box n f ≡ Some g → frame_of (addresses_found t after) known f ≡ g
  frame_back f g h e = by_slots (all_of (val_value box n) f.slots) refl e
    where
      framed : List Value → RecFrame
      framed slots = record { name = f.name; pc = f.pc; slots = slots }

      by_slots : (q : Option (List Value)) → all_of (val_value box n) f.slots ≡ q → option_map framed q ≡ Some g → frame_of (addresses_found t after) known f ≡ g
      by_slots None p d = absurd (cc)
      by_slots (Some xs) p d = ap framed (slots_back f.slots xs h p) ∙ same_Some (framed xs) g d

  pub frames_back : (fs : List OptFrame) (gs : List RecFrame) → All (λ (f : OptFrame). AreNamed n m f.slots) fs → all_of (frame_made box n) fs ≡ Some gs → map (frame_of (addresses_found t after) known) fs ≡ gs
  frames_back [] gs h e = sym (none_of gs e)
  frames_back (f ∷ fs) gs h e =
      let b = both_of (frame_made box n f) (all_of (frame_made box n) fs) gs e in
      ap (λ y. y ∷ map (frame_of (addresses_found t after) known) fs) (frame_back f b.0 (All-head (λ (x : OptFrame). AreNamed n m x.slots) f fs h) b.2)
      ∙ ap (λ l. b.0 ∷ l) (frames_back fs b.1 (All-tail (λ (x : OptFrame). AreNamed n m x.slots) f fs h) b.3)
      ∙ sym b.4
