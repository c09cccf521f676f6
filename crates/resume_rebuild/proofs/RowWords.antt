-- Rows rebuild what the snapshot rebuilds for which they stand.
use Rattle.std.proofs.Common.{◌≡◌, ℕ, ◌+◌, ◌-◌, ◌*◌, ◌/◌, ◌%◌, ◌<◌, Bool, true, false, cond, Some, None, List, [], ◌∷◌, map, refl, ap, sym, ◌∙◌, arith, inl, inr, ℤ, pos, negsuc}
use Rattle.std.specs.Prelude.{nat_lt}
use Rattle.std.specs.Option.{option_map}
use Rattle.std.specs.List.{All, AllZip}
use Rattle.std.proofs.lemmas.Bool.{ltb-true, le-ltb}
use Rattle.std.proofs.lemmas.Option.{same_Some, slice_get-map}
use Rattle.target_base.specs.declared.place.Place.{Place}
use Rattle.trace_ops.specs.declared.trace.BoxId.{BoxId}
use Rattle.trace_ops.specs.declared.trace.Kind.{Kind}
use Rattle.trace_ops.specs.declared.trace.Kind.TheVariants as kind
use Rattle.trace_ops.specs.declared.trace.Arg.{Arg}
use Rattle.trace_ops.specs.declared.trace.Arg.TheVariants as arg
use Rattle.trace_ops.specs.declared.piece.Val.{Val}
use Rattle.trace_ops.specs.declared.piece.Val.TheVariants.{Known, Virtual}
use Rattle.arena_objects.specs.ReadBack.{or_zero}
use Rattle.resume_numbering.specs.Tags.{small_index, IsConstAt, Reads}
use Rattle.std.proofs.lemmas.List.Elements.{All-head, All-tail}
use Rattle.resume_rebuild.specs.Rebuilding.{Sources, arg_word, val_word, value_as, slot_value}
use Rattle.resume_rebuild.specs.Rows.{small_integer, words_of_consts, tagged_word, tag_word, kind_of_entry, kind_of_const, tagged_kind, tag_kind, tag_value}
use Rattle.resume_rebuild.specs.Guarding.{IsPlaced}

-- ---- tags

by_four : (k r : ℕ) → r < 4 → ((4 * k + r) / 4 ≡ k) × ((4 * k + r) % 4 ≡ r)
by_four k r lt = (grind (arith, lt), grind (arith, lt))

-- an index and a tag
tagged : {X : Type 0} (f : ℕ → ℕ → X) (n k r : ℕ) → n ≡ 4 * k + r → r < 4 → f (n / 4) (n % 4) ≡ f k r
tagged f n k r e lt =
    ap (λ m. f (m / 4) (m % 4)) e ∙ ap (λ m. f m ((4 * k + r) % 4)) (by_four k r lt).0 ∙ ap (f k) (by_four k r lt).1

small_back : (z : ℤ) (x : ℕ) → small_index z ≡ Some x → small_integer x ≡ z
small_back (pos n) x e = by (nat_lt n 536870912) refl e
  where
    by : (b : Bool) → nat_lt n 536870912 ≡ b → cond b (Some n) None ≡ Some x → small_integer x ≡ pos n
    by false q h = absurd (cc)
    by true q h =
        let same : n ≡ x = same_Some n x h in
        let low : nat_lt x 536870912 ≡ true = ap (λ m. nat_lt m 536870912) (sym same) ∙ q in
        ap (λ b. cond b (pos x) (negsuc (1073741823 - x))) low ∙ ap pos (sym same)
small_back (negsuc n) x e = by (nat_lt n 536870912) refl e
  where
    by : (b : Bool) → nat_lt n 536870912 ≡ b → cond b (Some (1073741823 - n)) None ≡ Some x → small_integer x ≡ negsuc n
    by false q h = absurd (cc)
    by true q h =
        let same : 1073741823 - n ≡ x = same_Some (1073741823 - n) x h in
        let lt : n < 536870912 = ltb-true n 536870912 q in
        let high : nat_lt x 536870912 ≡ false = le-ltb x 536870912 (omega arith) in
        let back : 1073741823 - x ≡ n = omega arith in
        ap (λ b. cond b (pos x) (negsuc (1073741823 - x))) high ∙ ap negsuc back

const_word : (known : Sources) (consts : List Arg) (n : ℕ) (a : Arg) → IsConstAt consts n a → tag_word known (words_of_consts known consts) n ≡ arg_word known a
const_word known consts n a (k, e, g) =
    tagged (tagged_word known (words_of_consts known consts)) n k 2 e (omega arith)
    ∙ ap or_zero (slice_get-map (arg_word known) consts k ∙ ap (option_map (arg_word known)) g)

const_kind : (places : List (BoxId × Place)) (consts : List Arg) (n : ℕ) (a : Arg) → IsConstAt consts n a → tag_kind places consts n ≡ kind_of_const (Some a)
const_kind places consts n a (k, e, g) =
    tagged (tagged_kind places consts) n k 2 e (omega arith) ∙ ap kind_of_const g

plain : (n k : ℕ) → n ≡ 4 * k → n ≡ 4 * k + 0
plain n k e = omega (arith, e)

pub word_read : (known : Sources) (consts : List Arg) (n : ℕ) (w : Val) → Reads consts n w → tag_word known (words_of_consts known consts) n ≡ val_word known w
word_read known consts n (Known (arg.Of b)) r = tagged (tagged_word known (words_of_consts known consts)) n b.number 0 (plain n b.number r) (omega arith)
word_read known consts n (Known (arg.Const z)) (inl (x, s, e)) = tagged (tagged_word known (words_of_consts known consts)) n x 1 e (omega arith) ∙ small_back z x s
word_read known consts n (Known (arg.Const z)) (inr c) = const_word known consts n (arg.Const z) c
word_read known consts n (Known arg.Null) r = const_word known consts n arg.Null r
word_read known consts n (Known (arg.Ptr k)) r = const_word known consts n (arg.Ptr k) r
word_read known consts n (Known (arg.Class k)) r = absurd r
word_read known consts n (Known (arg.Func k)) r = absurd r
word_read known consts n (Virtual k) r = tagged (tagged_word known (words_of_consts known consts)) n k 3 r (omega arith)

module _ (found : List ℕ) (known : Sources) (consts : List Arg) where
  valued : (n : ℕ) (w : Val) (k : Kind) → Reads consts n w → tag_kind known.places consts n ≡ k → tag_value found known consts (words_of_consts known consts) n ≡ value_as found k (val_word known w)
  valued n w k r e =
      ap (λ q. value_as found q (tag_word known (words_of_consts known consts) n)) e ∙ ap (value_as found k) (word_read known consts n w r)

  pub value_read : (n : ℕ) (w : Val) → Reads consts n w → IsPlaced known.places w → tag_value found known consts (words_of_consts known consts) n ≡ slot_value found known w
  value_read n (Known (arg.Of b)) r p = valued n (Known (arg.Of b)) b.kind r (tagged (tagged_kind known.places consts) n b.number 0 (plain n b.number r) (omega arith) ∙ ap kind_of_entry p)
  value_read n (Known (arg.Const z)) (inl (x, s, e)) p = valued n (Known (arg.Const z)) kind.Int (inl (x, s, e)) (tagged (tagged_kind known.places consts) n x 1 e (omega arith))
  value_read n (Known (arg.Const z)) (inr c) p = valued n (Known (arg.Const z)) kind.Int (inr c) (const_kind known.places consts n (arg.Const z) c)
  value_read n (Known arg.Null) r p = valued n (Known arg.Null) kind.Ref r (const_kind known.places consts n arg.Null r)
  value_read n (Known (arg.Ptr k)) r p = valued n (Known (arg.Ptr k)) kind.Ref r (const_kind known.places consts n (arg.Ptr k) r)
  value_read n (Known (arg.Class k)) r p = absurd r
  value_read n (Known (arg.Func k)) r p = absurd r
  value_read n (Virtual k) r p = valued n (Virtual k) kind.Ref r (tagged (tagged_kind known.places consts) n k 3 r (omega arith))

  pub values_read : (ns : List ℕ) (ws : List Val) → AllZip (Reads consts) ns ws → All (IsPlaced known.places) ws → map (tag_value found known consts (words_of_consts known consts)) ns ≡ map (slot_value found known) ws
  values_read [] [] h p = refl
  values_read [] (w ∷ ws) h p = absurd h
  values_read (n ∷ ns) [] h p = absurd h
  values_read (n ∷ ns) (w ∷ ws) h p =
      ap (λ x. x ∷ map (tag_value found known consts (words_of_consts known consts)) ns) (value_read n w h.0 (All-head (IsPlaced known.places) w ws p))
      ∙ ap (λ l. slot_value found known w ∷ l) (values_read ns ws h.1 (All-tail (IsPlaced known.places) w ws p))

pub words_read : (known : Sources) (consts : List Arg) (ns : List ℕ) (ws : List Val) → AllZip (Reads consts) ns ws → map (tag_word known (words_of_consts known consts)) ns ≡ map (val_word known) ws
words_read known consts [] [] h = refl
words_read known consts [] (w ∷ ws) h = absurd h
words_read known consts (n ∷ ns) [] h = absurd h
words_read known consts (n ∷ ns) (w ∷ ws) h =
    ap (λ x. x ∷ map (tag_word known (words_of_consts known consts)) ns) (word_read known consts n w h.0)
    ∙ ap (λ l. val_word known w ∷ l) (words_read known consts ns ws h.1)
