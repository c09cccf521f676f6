-- The new objects get their parts.
use Rattle.std.proofs.Common.{◌≡◌, ℕ, ◌+◌, ◌*◌, Option, Some, None, List, [], ◌∷◌, ◌++◌, length, map, slice_get, append_assoc, refl, ap, sym, ◌∙◌, subst, arith}
use Rattle.std.specs.Prelude.{slice_set}
use Rattle.std.specs.List.{All}
use Rattle.std.specs.Option.{option_map}
use Rattle.std.proofs.lemmas.List.{length-append, length-map}
use Rattle.std.proofs.lemmas.Option.{same_Some}
use Rattle.trace_ops.specs.declared.trace.BoxId.{BoxId}
use Rattle.trace_ops.specs.declared.table.Table.{Table}
use Rattle.trace_ops.specs.declared.table.ShapeOf.{ShapeOf}
use Rattle.trace_ops.specs.declared.piece.Shape.{Shape}
use Rattle.trace_meaning.specs.declared.value.Value.{Value}
use Rattle.trace_meaning.specs.declared.value.Object.{Object}
use Rattle.target_base.specs.Arena.{Arena}
use Rattle.arena_objects.specs.Layout.{words_ahead, words_in, words_of, address_of, part_offset, word_of}
use Rattle.arena_objects.specs.Standing.{IsPart, Stands}
use Rattle.arena_objects.specs.Laws.{arena_filled}
use Rattle.opt_meaning.specs.Rebuilding.{all_of, val_value, made_object}
use Rattle.std.proofs.lemmas.List.Elements.{All-head, All-tail}
use Rattle.lists.proofs.Appends.{get_right}
use Rattle.lists.proofs.Places.{set_right}
use Rattle.resume_rebuild.specs.Rebuilding.{Sources, val_word, filled_of, filled_all}
use Rattle.resume_rebuild.specs.Standing.{AreNamed, IsOfTable}
use Rattle.resume_rebuild.proofs.ArenaLaws.{ArenaLaws, Agree, words_same}
use Rattle.resume_rebuild.proofs.Made.{zeroed_for, all_zeroed, shape_zeroed, count_zeroed, before_end}
use Rattle.resume_rebuild.proofs.Valued.{both_of, none_of, IsReadBy, AreRead, vals_read, all_length}

abbrev pub object_of : ShapeOf → List Value → Object
object_of s ps = record { of = s; parts = ps }

-- the parts of a virtual object that is meant
pub record IsMeant (box : BoxId → Option Value) (n m : ℕ) (at : ℕ → ℕ) (known : Sources) (s : Shape) (o : Object) : Type 0 where
  pub parts : List Value
  pub all : o ≡ object_of s.of parts
  pub read : AreRead (n + m) at (map (val_word known) s.parts) parts
  pub count : length parts ≡ length s.parts

meant_of : (box : BoxId → Option Value) (n m : ℕ) (at : ℕ → ℕ) (known : Sources) (s : Shape) (o : Object) → IsReadBy box n m at known → AreNamed n m s.parts → made_object box n s ≡ Some o → IsMeant box n m at known s o
meant_of box n m at known s o r h e = by_parts (all_of (val_value box n) s.parts) refl e
  where
    by_parts : (q : Option (List Value)) → all_of (val_value box n) s.parts ≡ q → option_map (object_of s.of) q ≡ Some o → IsMeant box n m at known s o
    by_parts None p f = absurd (cc)
    by_parts (Some xs) p f = record {
      parts = xs;
      all = sym (same_Some (object_of s.of xs) o f);
      read = vals_read box n m at known s.parts xs r h p;
      count = all_length (val_value box n) s.parts xs p;
    }

-- what stands after the filling: the objects, none of which has moved
pub record StandsBy (t : Table) (objects : List Object) (count : ℕ) (at : ℕ → ℕ) (arena : Arena) : Type 0 where
  pub stands : Stands t objects arena
  pub many : length objects ≡ count
  pub agree : Agree count (address_of objects) at

module _ (laws : ArenaLaws) (t : Table) (box : BoxId → Option Value) (n m : ℕ) (at : ℕ → ℕ) (known : Sources) (r : IsReadBy box n m at known) where
  filled_one : (front rest : List Object) (s : Shape) (o : Object) (arena : Arena) → IsOfTable t s → StandsBy t (front ++ zeroed_for s t ∷ rest) (n + m) at arena → IsMeant box n m at known s o → StandsBy t (front ++ o ∷ rest) (n + m) at (arena_filled (0x10000000 + 8 * words_of front + part_offset s.of 0) (map (val_word known) s.parts) arena)
  filled_one front rest s o arena of st is =
      let z = zeroed_for s t in
      let cur = front ++ z ∷ rest in
      let k = length front in
      let xs = is.parts in
      let there : slice_get cur k ≡ Some z = get_right front (z ∷ rest) k 0 (omega arith) in
      let count : length xs ≡ length z.parts = is.count ∙ sym (count_zeroed t s of) in
      let here : All (IsPart (length cur)) xs = subst (λ j. All (IsPart j) xs) (sym st.many) is.read.parts in
      let filled = laws.filled t cur arena k z xs st.stands there count here in
      let shape : z.of ≡ s.of = shape_zeroed t s.of (length s.parts) in
      let object : object_of z.of xs ≡ o = ap (λ f. object_of f xs) shape ∙ sym is.all in
      let put : slice_set cur k o ≡ front ++ o ∷ rest = set_right front (z ∷ rest) k 0 o (omega arith) in
      let place : address_of cur k + part_offset z.of 0 ≡ 0x10000000 + 8 * words_of front + part_offset s.of 0 =
      ap (λ j. 0x10000000 + 8 * j + part_offset z.of 0) (before_end front (z ∷ rest)) ∙ ap (λ f. 0x10000000 + 8 * words_of front + part_offset f 0) shape in
      let words : map (word_of (address_of cur)) xs ≡ map (val_word known) s.parts =
      words_same (n + m) (address_of cur) at xs st.agree is.read.parts ∙ sym is.read.words in
      let one : Stands t (slice_set cur k (object_of z.of xs)) (arena_filled (address_of cur k + part_offset z.of 0) (map (word_of (address_of cur)) xs) arena) = filled in
      let two = subst (λ (y : Object). Stands t (slice_set cur k y) (arena_filled (address_of cur k + part_offset z.of 0) (map (word_of (address_of cur)) xs) arena)) object one in
      let three = subst (λ l. Stands t l (arena_filled (address_of cur k + part_offset z.of 0) (map (word_of (address_of cur)) xs) arena)) put two in
      let four = subst (λ a. Stands t (front ++ o ∷ rest) (arena_filled a (map (word_of (address_of cur)) xs) arena)) place three in
      let five = subst (λ ws. Stands t (front ++ o ∷ rest) (arena_filled (0x10000000 + 8 * words_of front + part_offset s.of 0) ws arena)) words four in
      let size : words_in o ≡ words_in z =
      (let a : words_in o ≡ words_ahead s.of + length xs = ap (λ (y : Object). words_in y) is.all in
      let b : words_ahead z.of ≡ words_ahead s.of = ap words_ahead shape in
      omega arith) in
      record {
        stands = five;
        many = length-append front (o ∷ rest) ∙ sym (length-append front (z ∷ rest)) ∙ st.many;
        agree = λ j lt. ap (λ l. address_of l j) (sym put) ∙ laws.sizes cur k j z o there size ∙ st.agree j lt;
      }

  pub all_filled : (front : List Object) (ss : List Shape) (os : List Object) (a : ℕ) (arena : Arena) → All (IsOfTable t) ss → All (λ (s : Shape). AreNamed n m s.parts) ss → a ≡ 0x10000000 + 8 * words_of front → StandsBy t (front ++ all_zeroed t ss) (n + m) at arena → all_of (made_object box n) ss ≡ Some os → StandsBy t (front ++ os) (n + m) at (filled_all a (map (filled_of known) ss) arena)
  all_filled front [] os a arena of named place st e = subst (λ l. StandsBy t (front ++ l) (n + m) at arena) (sym (none_of os e)) st
  all_filled front (s ∷ ss) os a arena of named place st e =
      let b = both_of (made_object box n s) (all_of (made_object box n) ss) os e in
      let o = b.0 in
      let is = meant_of box n m at known s o r (All-head (λ (x : Shape). AreNamed n m x.parts) s ss named) b.2 in
      let one = filled_one front (all_zeroed t ss) s o arena (All-head (IsOfTable t) s ss of) st is in
      let next = arena_filled (a + part_offset s.of 0) (map (val_word known) s.parts) arena in
      let here : StandsBy t (front ++ o ∷ all_zeroed t ss) (n + m) at next = subst (λ j. StandsBy t (front ++ o ∷ all_zeroed t ss) (n + m) at (arena_filled (j + part_offset s.of 0) (map (val_word known) s.parts) arena)) (sym place) one in
      let moved : StandsBy t ((front ++ o ∷ []) ++ all_zeroed t ss) (n + m) at next = subst (λ l. StandsBy t l (n + m) at next) (sym (append_assoc front (o ∷ []) (all_zeroed t ss))) here in
      let size : words_of (front ++ o ∷ []) ≡ words_of front + words_in o = laws.added front o in
      let own : words_in o ≡ words_ahead s.of + length is.parts = ap (λ (y : Object). words_in y) is.all in
      let many : length is.parts ≡ length s.parts = is.count in
      let words : length (map (val_word known) s.parts) ≡ length s.parts = length-map s.parts (val_word known) in
      let more = all_filled (front ++ o ∷ []) ss b.1 (a + 8 * (words_ahead s.of + length (map (val_word known) s.parts))) next (All-tail (IsOfTable t) s ss of) (All-tail (λ (x : Shape). AreNamed n m x.parts) s ss named) (omega arith) moved b.3 in
      subst (λ l. StandsBy t l (n + m) at (filled_all a (map (filled_of known) (s ∷ ss)) arena)) (append_assoc front (o ∷ []) b.1 ∙ ap (λ l. front ++ l) (sym b.4)) more
