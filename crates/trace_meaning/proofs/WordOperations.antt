-- Operations give words where they take words.
use Rattle.std.proofs.Common.{◌≡◌, ℕ, ◌/◌, ◌%◌, ◌^◌, ◌<◌, Bool, true, false, not, cond, Option, Some, None, List, [], ◌∷◌, length, map, drop, replicate, slice_get, refl, arith, ℤ, pos, negsuc, set}
use Rattle.std.specs.Prelude.{option_and_then, bit_and, bit_or, bit_xor, int_lt, int_le, nat_lt, nat_le, ◌+ℤ◌, ◌-ℤ◌, ◌*ℤ◌, neg_ℤ}
use Rattle.std.specs.Ordering.{int_eq}
use Rattle.std.specs.Option.{option_map, option_to_list}
use Rattle.std.specs.List.{All, flat_map}
use Rattle.std.specs.Int.{w64, cast_signed, cast_unsigned}
use Rattle.std.specs.Int.Bits.{and_lt}
use Rattle.std.specs.Int.Signed.{mag_shr}
use Rattle.std.proofs.lemmas.Nat.{or_lt, xor_lt}
use Rattle.std.proofs.lemmas.Int.{ints, SFits-int_wrap}
use Rattle.std.proofs.Math.Nat.{div-le_self}
use Rattle.std.proofs.lemmas.List.{length-map, length-set, length-replicate}
use Rattle.std.proofs.lemmas.List.Elements.{All-nil, All-cons, All-head, All-tail, All-append, All-set, All-replicate, All-filter}
use Rattle.trace_ops.specs.declared.code.OpCode.{OpCode}
use Rattle.trace_ops.specs.declared.code.OpCode.TheVariants as code
use Rattle.trace_ops.specs.declared.trace.Kind.{Kind}
use Rattle.trace_ops.specs.declared.trace.Kind.TheVariants as kind
use Rattle.trace_ops.specs.declared.trace.Arg.{Arg}
use Rattle.trace_ops.specs.declared.trace.Descr.{Descr}
use Rattle.trace_ops.specs.declared.trace.Descr.TheVariants as descr
use Rattle.trace_ops.specs.declared.piece.Spot.{Spot}
use Rattle.trace_ops.specs.declared.piece.Spot.TheVariants as spot
use Rattle.trace_ops.specs.declared.table.FieldRow.{FieldRow}
use Rattle.trace_ops.specs.declared.table.ArrayRow.{ArrayRow}
use Rattle.trace_ops.specs.declared.table.CallRow.{CallRow}
use Rattle.trace_ops.specs.declared.table.Table.{Table}
use Rattle.trace_ops.specs.Words.{IsWord, truth, unsigned}
use Rattle.trace_ops.specs.Folds.{unary, binary}
use Rattle.trace_meaning.specs.declared.value.Value.{Value}
use Rattle.trace_meaning.specs.declared.value.Value.TheVariants as v
use Rattle.trace_meaning.specs.declared.value.Object.{Object}
use Rattle.trace_meaning.specs.declared.call.Give.{Give}
use Rattle.trace_meaning.specs.declared.call.Give.TheVariants as give
use Rattle.trace_meaning.specs.declared.call.AnswerStore.{AnswerStore}
use Rattle.trace_meaning.specs.declared.call.Answer.{Answer}
use Rattle.trace_meaning.specs.Values.{zero_of, references, is_reference}
use Rattle.trace_meaning.specs.World.{World, Logged, bytes_in}
use Rattle.trace_meaning.specs.Objects.{read, read_in, part_of_object, place_of, write, write_unfrozen, is_frozen, written, with_part, with_object, with_new, place_within, length_at, items_in, is_array, zeroed, zero_field, zero_item, fields_of, cleared, index_of}
use Rattle.trace_meaning.specs.Folding.{fold, fold_words, one_reference, reference_in, compared}
use Rattle.trace_meaning.specs.Answers.{seen_of, fits, value_given, value_stored, or_same, write_given, store_done, stores_done, new_object, with_fresh}
use Rattle.trace_meaning.specs.Performing.{value_done, write_done, overflowing, get_field, set_field, get_item, set_item, get_length, make_structure, make_items, make_array, event_of, with_call, answered_if, called_first, call_row, call_function, call, function_in, perform}
use Rattle.lists.proofs.Alls.{all_at}
use Rattle.trace_meaning.specs.Sound.{HasWord, GivesWord, AnswersWords, MayHaveWord, CallHasWords, HoldsWords}
use Rattle.trace_meaning.specs.Worded.{FieldsAreFew, DoneHasWords}

-- Words

bits_fit : (n : ℕ) → n < 2 ^ 64 → IsWord (cast_signed w64 n)
bits_fit n h = omega (arith, ints)

bits_of : (a : ℤ) → IsWord a → cast_unsigned w64 a < 2 ^ 64
bits_of a f = omega (arith, ints)

truth_fits : (b : Bool) → IsWord (truth b)
truth_fits true = record { sfits = omega arith }
truth_fits false = record { sfits = omega arith }

pos_fits : (n : ℕ) → n < 2 ^ 63 → IsWord (pos n)
pos_fits n h = record { sfits = h }

div_small : (n m k : ℕ) → n < k → n / m < k
div_small n m k h = omega (arith, div-le_self n m)

chosen : (b : Bool) (x y : ℤ) → IsWord x → IsWord y → IsWord (cond b x y)
chosen true x y f g = f
chosen false x y f g = g

inverted_fits : (a : ℤ) → IsWord a → IsWord (negsuc 0 -ℤ a)
inverted_fits a f = omega (arith, ints)

abbrev OptWord : Option ℤ → Type 0
OptWord None = Unit {0}
OptWord (Some z) = IsWord z

unary_fits : (operation : OpCode) (a : ℤ) → IsWord a → OptWord (unary operation a)
unary_fits code.IntIsZero a f = truth_fits (int_eq a (pos 0))
unary_fits code.IntIsTrue a f = truth_fits (not (int_eq a (pos 0)))
unary_fits code.IntNeg a f = SFits-int_wrap w64 (neg_ℤ a)
unary_fits code.IntInvert a f = inverted_fits a f
unary_fits code.IntForceGeZero a f = chosen (int_lt a (pos 0)) (pos 0) a (pos_fits 0 (omega arith)) f
unary_fits code.SameAsI a f = f
unary_fits _ a f = tt

binary_fits : (operation : OpCode) (a b : ℤ) → IsWord a → IsWord b → OptWord (binary operation a b)
binary_fits code.IntAdd a b f g = SFits-int_wrap w64 (a +ℤ b)
binary_fits code.IntSub a b f g = SFits-int_wrap w64 (a -ℤ b)
binary_fits code.IntMul a b f g = SFits-int_wrap w64 (a *ℤ b)
binary_fits code.IntAnd a b f g = bits_fit (bit_and (cast_unsigned w64 a) (cast_unsigned w64 b)) (and_lt 64 (cast_unsigned w64 a) (cast_unsigned w64 b) (bits_of a f) (bits_of b g))
binary_fits code.IntOr a b f g = bits_fit (bit_or (cast_unsigned w64 a) (cast_unsigned w64 b)) (or_lt 64 (cast_unsigned w64 a) (cast_unsigned w64 b) (bits_of a f) (bits_of b g))
binary_fits code.IntXor a b f g = bits_fit (bit_xor (cast_unsigned w64 a) (cast_unsigned w64 b)) (xor_lt 64 (cast_unsigned w64 a) (cast_unsigned w64 b) (bits_of a f) (bits_of b g))
binary_fits code.IntLshift a b f g = SFits-int_wrap w64 (a *ℤ pos (2 ^ (unsigned b % 64)))
binary_fits code.IntRshift a b f g = record { sfits = omega (arith, mag_shr a (2 ^ (unsigned b % 64)), f.sfits) }
binary_fits code.UintRshift a b f g = bits_fit (cast_unsigned w64 a / 2 ^ (unsigned b % 64)) (div_small (cast_unsigned w64 a) (2 ^ (unsigned b % 64)) (2 ^ 64) (bits_of a f))
binary_fits code.IntLt a b f g = truth_fits (int_lt a b)
binary_fits code.IntLe a b f g = truth_fits (int_le a b)
binary_fits code.IntEq a b f g = truth_fits (int_eq a b)
binary_fits code.IntNe a b f g = truth_fits (not (int_eq a b))
binary_fits code.IntGt a b f g = truth_fits (int_lt b a)
binary_fits code.IntGe a b f g = truth_fits (int_le b a)
binary_fits code.UintLt a b f g = truth_fits (nat_lt (unsigned a) (unsigned b))
binary_fits code.UintLe a b f g = truth_fits (nat_le (unsigned a) (unsigned b))
binary_fits code.UintGt a b f g = truth_fits (nat_lt (unsigned b) (unsigned a))
binary_fits code.UintGe a b f g = truth_fits (nat_le (unsigned b) (unsigned a))
binary_fits _ a b f g = tt

-- Values

int_given : (x : Option ℤ) → OptWord x → MayHaveWord (option_map v.Int x)
int_given None h = tt
int_given (Some z) h = h

truth_given : (f : Bool → Bool) (x : Option Bool) → MayHaveWord (option_map (λ b. v.Int (truth (f b))) x)
truth_given f None = tt
truth_given f (Some b) = truth_fits (f b)

reference_given : (x : Value) → MayHaveWord (reference_in x)
reference_given (v.Int z) = tt
reference_given v.Null = tt
reference_given (v.Obj n) = tt

one_given : (vs : List Value) → MayHaveWord (one_reference vs)
one_given (x ∷ []) = reference_given x
one_given _ = tt

words_fold : (operation : OpCode) (vs : List Value) → All HasWord vs → OptWord (fold_words operation vs)
words_fold operation (v.Int a ∷ []) h = unary_fits operation a (All-head HasWord (v.Int a) [] h)
words_fold operation (v.Int a ∷ v.Int b ∷ []) h =
    binary_fits operation a b (All-head HasWord (v.Int a) (v.Int b ∷ []) h) (All-head HasWord (v.Int b) [] (All-tail HasWord (v.Int a) (v.Int b ∷ []) h))
words_fold operation _ h = tt

pub fold-words : (operation : OpCode) (vs : List Value) → All HasWord vs → MayHaveWord (fold operation vs)
fold-words code.SameAsR vs h = one_given vs
fold-words code.PtrEq vs h = truth_given (λ b. b) (compared vs)
fold-words code.PtrNe vs h = truth_given not (compared vs)
fold-words operation vs h = int_given (fold_words operation vs) (words_fold operation vs h)

-- Objects

abbrev ObjectWords : Object → Type 0
ObjectWords o = All HasWord o.parts

abbrev CallWords : Logged → Type 0
CallWords x = CallHasWords x.event

abbrev IsShort : Object → Type 0
IsShort o = length o.parts < 2 ^ 63

part_word : (t : Table) (at : Spot) (o : Object) → All HasWord o.parts → (i : Option ℕ) → MayHaveWord (option_and_then (slice_get o.parts) i)
part_word t at o h None = tt
part_word t at o h (Some i) = at_place (slice_get o.parts i) refl
  where
    at_place : (x : Option Value) → slice_get o.parts i ≡ x → MayHaveWord x
    at_place None e = tt
    at_place (Some x) e = all_at HasWord o.parts i x h e

object_word : (t : Table) (at : Spot) (objects : List Object) (n : ℕ) → All ObjectWords objects → (o : Option Object) → slice_get objects n ≡ o → MayHaveWord (option_and_then (part_of_object t at) o)
object_word t at objects n h None e = tt
object_word t at objects n h (Some o) e = part_word t at o (all_at ObjectWords objects n o h e) (place_of t o.of at)

read_in_word : (t : Table) (at : Spot) (base : Value) (objects : List Object) → All ObjectWords objects → MayHaveWord (read_in t at base objects)
read_in_word t at (v.Obj n) objects h = object_word t at objects n h (slice_get objects n) refl
read_in_word t at (v.Int z) objects h = tt
read_in_word t at v.Null objects h = tt

read_word : (t : Table) (at : Spot) (base : Value) (w : World) → HoldsWords w → MayHaveWord (read t at base w)
read_word t at base w h = read_in_word t at base w.objects h.words

abbrev Keeps : Option World → Type 0
Keeps None = Unit {0}
Keeps (Some u) = HoldsWords u

placed : (n : ℕ) (w : World) (o : Object) (x : Value) → HoldsWords w → HasWord x → slice_get w.objects n ≡ Some o → (i : Option ℕ) → Keeps (option_map (with_object n w) (option_map (λ i. with_part o i x) i))
placed n w o x h word e None = tt
placed n w o x h word e (Some i) = record {
  words = All-set ObjectWords w.objects n (with_part o i x) (All-set HasWord o.parts i x word (all_at ObjectWords w.objects n o h.words e)) h.words;
  short = All-set IsShort w.objects n (with_part o i x) (let same : length (set o.parts i x) ≡ length o.parts = length-set o.parts i x in let few : length o.parts < 2 ^ 63 = all_at IsShort w.objects n o h.short e in omega arith) h.short;
  answers = h.answers;
  calls = h.calls;
}

found : (t : Table) (at : Spot) (n : ℕ) (x : Value) (w : World) → HoldsWords w → HasWord x → (o : Option Object) → slice_get w.objects n ≡ o → Keeps (option_map (with_object n w) (option_and_then (written t at x) o))
found t at n x w h word None e = tt
found t at n x w h word (Some o) e = placed n w o x h word e (place_within t at o)

unfrozen : (b : Bool) (t : Table) (at : Spot) (n : ℕ) (x : Value) (w : World) → HoldsWords w → HasWord x → Keeps (write_unfrozen b t at n x w)
unfrozen true t at n x w h word = tt
unfrozen false t at n x w h word = found t at n x w h word (slice_get w.objects n) refl

write_keeps : (t : Table) (at : Spot) (base x : Value) (w : World) → HoldsWords w → HasWord x → Keeps (write t at base x w)
write_keeps t at (v.Obj n) x w h word = unfrozen (is_frozen t at n) t at n x w h word
write_keeps t at (v.Int z) x w h word = tt
write_keeps t at v.Null x w h word = tt

zero_word : (k : Kind) → HasWord (zero_of k)
zero_word kind.Int = pos_fits 0 (omega arith)
zero_word kind.Ref = tt

field_word : (r : Option FieldRow) → HasWord (zero_field r)
field_word None = pos_fits 0 (omega arith)
field_word (Some r) = zero_word r.kind

item_word : (r : Option ArrayRow) → HasWord (zero_item r)
item_word None = pos_fits 0 (omega arith)
item_word (Some r) = zero_word r.kind

fields_words : (t : Table) (fs : List ℕ) → All HasWord (map (λ f. zero_field (slice_get t.fields f)) fs)
fields_words t [] = All-nil HasWord
fields_words t (f ∷ fs) = All-cons HasWord (zero_field (slice_get t.fields f)) (map (λ f. zero_field (slice_get t.fields f)) fs) (field_word (slice_get t.fields f)) (fields_words t fs)

with_new_keeps : (o : Object) (w : World) → ObjectWords o → IsShort o → HoldsWords w → HoldsWords (with_new o w)
with_new_keeps o w words short h = record {
  words = All-append ObjectWords w.objects (o ∷ []) h.words (All-cons ObjectWords o [] words (All-nil ObjectWords));
  short = All-append IsShort w.objects (o ∷ []) h.short (All-cons IsShort o [] short (All-nil IsShort));
  answers = h.answers;
  calls = h.calls;
}

zeroed_keeps : (t : Table) (s : ℕ) (w : World) → FieldsAreFew t → HoldsWords w → HoldsWords (with_new (zeroed t s) w)
zeroed_keeps t s w few h =
    with_new_keeps (zeroed t s) w (fields_words t (fields_of t s))
    (let same : length (map (λ f. zero_field (slice_get t.fields f)) (fields_of t s)) ≡ length (fields_of t s) = length-map (fields_of t s) (λ f. zero_field (slice_get t.fields f)) in let less : length (fields_of t s) < 2 ^ 63 = few s in omega arith) h

-- An operation

value_words : (w : World) (x : Option Value) → HoldsWords w → MayHaveWord x → DoneHasWords (value_done w x)
value_words w None h word = tt
value_words w (Some x) h word = (word, h)

write_words : (u : Option World) → Keeps u → DoneHasWords (write_done u)
write_words None h = tt
write_words (Some u) h = (tt, h)

overflow_words : (exact : ℤ → ℤ → ℤ) (vs : List Value) (w : World) → HoldsWords w → DoneHasWords (overflowing exact vs w)
overflow_words exact (v.Int a ∷ v.Int b ∷ []) w h = (SFits-int_wrap w64 (exact a b), record { words = h.words; short = h.short; answers = h.answers; calls = h.calls })
overflow_words exact _ w h = tt

get_field_words : (t : Table) (d : Descr) (vs : List Value) (w : World) → HoldsWords w → DoneHasWords (get_field t d vs w)
get_field_words t (descr.Field f) (base ∷ []) w h = value_words w (read t (spot.Field f) base w) h (read_word t (spot.Field f) base w h)
get_field_words t _ _ w h = tt

set_field_words : (t : Table) (d : Descr) (vs : List Value) (w : World) → HoldsWords w → All HasWord vs → DoneHasWords (set_field t d vs w)
set_field_words t (descr.Field f) (base ∷ x ∷ []) w h words = write_words (write t (spot.Field f) base x w) (write_keeps t (spot.Field f) base x w h (All-head HasWord x [] (All-tail HasWord base (x ∷ []) words)))
set_field_words t _ _ w h words = tt

get_item_words : (t : Table) (d : Descr) (vs : List Value) (w : World) → HoldsWords w → DoneHasWords (get_item t d vs w)
get_item_words t (descr.Array a) (base ∷ v.Int i ∷ []) w h = value_words w (read t (spot.Item a i) base w) h (read_word t (spot.Item a i) base w h)
get_item_words t _ _ w h = tt

set_item_words : (t : Table) (d : Descr) (vs : List Value) (w : World) → HoldsWords w → All HasWord vs → DoneHasWords (set_item t d vs w)
set_item_words t (descr.Array a) (base ∷ v.Int i ∷ x ∷ []) w h words =
    write_words (write t (spot.Item a i) base x w) (write_keeps t (spot.Item a i) base x w h (All-head HasWord x [] (All-tail HasWord (v.Int i) (x ∷ []) (All-tail HasWord base (v.Int i ∷ x ∷ []) words))))
set_item_words t _ _ w h words = tt

counted : (o : Object) (b : Bool) → IsShort o → MayHaveWord (option_map (λ n. v.Int (pos n)) (cond b (Some (length o.parts)) None))
counted o true h = pos_fits (length o.parts) h
counted o false h = tt

length_found : (a : ℕ) (objects : List Object) (n : ℕ) → All IsShort objects → (o : Option Object) → slice_get objects n ≡ o → MayHaveWord (option_map (λ n. v.Int (pos n)) (option_and_then (items_in a) o))
length_found a objects n h None e = tt
length_found a objects n h (Some o) e = counted o (is_array a o.of) (all_at IsShort objects n o h e)

length_word : (a : ℕ) (base : Value) (w : World) → HoldsWords w → MayHaveWord (option_map (λ n. v.Int (pos n)) (length_at a base w))
length_word a (v.Obj n) w h = length_found a w.objects n h.short (slice_get w.objects n) refl
length_word a (v.Int z) w h = tt
length_word a v.Null w h = tt

get_length_words : (d : Descr) (vs : List Value) (w : World) → HoldsWords w → DoneHasWords (get_length d vs w)
get_length_words (descr.Array a) (base ∷ []) w h = value_words w (option_map (λ n. v.Int (pos n)) (length_at a base w)) h (length_word a base w h)
get_length_words _ _ w h = tt

structure_words : (t : Table) (d : Descr) (w : World) → FieldsAreFew t → HoldsWords w → DoneHasWords (make_structure t d w)
structure_words t (descr.Size s) w few h = (tt, zeroed_keeps t s w few h)
structure_words t _ w few h = tt

items_words : (t : Table) (a : ℕ) (z : ℤ) (w : World) → IsWord z → HoldsWords w → DoneHasWords (make_items t a (index_of z) w)
items_words t a (pos n) w word h = (
  tt,
  with_new_keeps (cleared t a n) w (All-replicate HasWord n (zero_item (slice_get t.arrays a)) (item_word (slice_get t.arrays a)))
      (let same : length (replicate n (zero_item (slice_get t.arrays a))) ≡ n = length-replicate n (zero_item (slice_get t.arrays a)) in let less : n < 2 ^ 63 = word.sfits in omega arith) h,
)
items_words t a (negsuc n) w word h = tt

array_words : (t : Table) (d : Descr) (vs : List Value) (w : World) → HoldsWords w → All HasWord vs → DoneHasWords (make_array t d vs w)
array_words t (descr.Array a) (v.Int z ∷ []) w h words = items_words t a z w (All-head HasWord (v.Int z) [] words) h
array_words t _ _ w h words = tt

-- Calls

refs_at : (refs : List Value) (k : ℕ) → All HasWord refs → (x : Option Value) → slice_get refs k ≡ x → MayHaveWord x
refs_at refs k h None e = tt
refs_at refs k h (Some x) e = all_at HasWord refs k x h e

given_word : (refs : List Value) (next : ℕ) (g : Give) → All HasWord refs → GivesWord g → MayHaveWord (value_given refs next g)
given_word refs next give.Nothing h word = tt
given_word refs next (give.Int z) h word = word
given_word refs next give.Null h word = tt
given_word refs next (give.Arg k) h word = refs_at refs k h (slice_get refs k) refl
given_word refs next (give.Prebuilt k) h word = tt
given_word refs next (give.New k) h word = tt

stored_word : (refs : List Value) (g : Give) → All HasWord refs → GivesWord g → MayHaveWord (value_stored refs g)
stored_word refs give.Nothing h word = tt
stored_word refs (give.Int z) h word = word
stored_word refs give.Null h word = tt
stored_word refs (give.Arg k) h word = refs_at refs k h (slice_get refs k) refl
stored_word refs (give.Prebuilt k) h word = tt
stored_word refs (give.New k) h word = tt

or_same_keeps : (w : World) (u : Option World) → HoldsWords w → Keeps u → HoldsWords (or_same w u)
or_same_keeps w None h k = h
or_same_keeps w (Some u) h k = k

given_keeps : (t : Table) (f : ℕ) (w : World) (base x : Option Value) → HoldsWords w → MayHaveWord x → Keeps (write_given t f w base x)
given_keeps t f w (Some base) (Some x) h word = write_keeps t (spot.Field f) base x w h word
given_keeps t f w None x h word = tt
given_keeps t f w (Some base) None h word = tt

abbrev StoreWords : AnswerStore → Type 0
StoreWords s = GivesWord s.value

stores_keep : (t : Table) (refs : List Value) (ss : List AnswerStore) (w : World) → All HasWord refs → All StoreWords ss → HoldsWords w → HoldsWords (stores_done t refs ss w)
stores_keep t refs [] w r s h = h
stores_keep t refs (x ∷ xs) w r s h =
    stores_keep t refs xs (store_done t refs x w) r (All-tail StoreWords x xs s)
    (or_same_keeps w (write_given t x.field w (slice_get refs x.arg) (value_stored refs x.value)) h
    (given_keeps t x.field w (slice_get refs x.arg) (value_stored refs x.value) h (stored_word refs x.value r (All-head StoreWords x xs s))))

fresh_keeps : (t : Table) (g : Give) (w : World) → FieldsAreFew t → HoldsWords w → HoldsWords (with_fresh (new_object t g) w)
fresh_keeps t (give.New k) w few h = zeroed_keeps t k w few h
fresh_keeps t give.Nothing w few h = h
fresh_keeps t (give.Int z) w few h = h
fresh_keeps t give.Null w few h = h
fresh_keeps t (give.Arg k) w few h = h
fresh_keeps t (give.Prebuilt k) w few h = h

-- what the host sees
seen_word : (t : Table) (objects : List Object) (f : ℕ) (base : Value) → All ObjectWords objects → All HasWord (option_to_list (read_in t (spot.Field f) base objects))
seen_word t objects f base h = maybe (read_in t (spot.Field f) base objects) (read_in_word t (spot.Field f) base objects h)
  where
    maybe : (x : Option Value) → MayHaveWord x → All HasWord (option_to_list x)
    maybe None k = All-nil HasWord
    maybe (Some x) k = All-cons HasWord x [] k (All-nil HasWord)

seen_words_of : (t : Table) (objects : List Object) (reads : List ℕ) (base : Value) → All ObjectWords objects → All HasWord (seen_of t objects reads base)
seen_words_of t objects [] base h = All-nil HasWord
seen_words_of t objects (f ∷ fs) base h = All-append HasWord (option_to_list (read_in t (spot.Field f) base objects)) (seen_of t objects fs base) (seen_word t objects f base h) (seen_words_of t objects fs base h)

seen_words : (t : Table) (objects : List Object) (reads : List ℕ) (refs : List Value) → All ObjectWords objects → All HasWord (flat_map (seen_of t objects reads) refs)
seen_words t objects reads [] h = All-nil HasWord
seen_words t objects reads (x ∷ xs) h = All-append HasWord (seen_of t objects reads x) (flat_map (seen_of t objects reads) xs) (seen_words_of t objects reads x h) (seen_words t objects reads xs h)

logged_keeps : (t : Table) (row : CallRow) (function : ℕ) (vs : List Value) (gives : Option Value) (w : World) → All HasWord vs → MayHaveWord gives → HoldsWords w → HoldsWords (with_call t (event_of t row function vs gives w) w)
logged_keeps t row function vs gives w words given h =
    let x : Logged = record { event = event_of t row function vs gives w; bytes = bytes_in t w } in
    record {
      words = h.words;
      short = h.short;
      answers = h.answers;
      calls = All-append CallWords w.log (x ∷ []) h.calls (All-cons CallWords x [] (record { args = words; seen = seen_words t w.objects row.reads (references vs) h.words; gives = given }) (All-nil CallWords));
    }

answered_words : (fit : Bool) (t : Table) (row : CallRow) (function : ℕ) (vs : List Value) (a : Answer) (rest : List Answer) (w : World) → FieldsAreFew t → HoldsWords w → All HasWord vs → AnswersWords a → All AnswersWords rest → DoneHasWords (answered_if fit t row function vs a rest w)
answered_words true t row function vs a rest w few h words one others =
    let refs = All-filter is_reference HasWord vs words in
    let gives : Option Value = value_given (references vs) (length w.objects) a.gives in
    let taken : World = record (with_call t (event_of t row function vs gives w) w) { answers = rest } in
    let given = given_word (references vs) (length w.objects) a.gives refs one.0 in
    let logged = logged_keeps t row function vs gives w words given h in
    let kept : HoldsWords taken = record { words = h.words; short = h.short; answers = others; calls = logged.calls } in
    (given, stores_keep t (references vs) a.stores (with_fresh (new_object t a.gives) taken) refs one.1 (fresh_keeps t a.gives taken few kept))
answered_words false t row function vs a rest w few h words one others = logged_keeps t row function vs None w words tt h

first_words : (t : Table) (row : CallRow) (function : ℕ) (vs : List Value) (w : World) (answers : List Answer) → FieldsAreFew t → HoldsWords w → All HasWord vs → All AnswersWords answers → DoneHasWords (called_first t row function vs (slice_get answers 0) (drop 1 answers) w)
first_words t row function vs w [] few h words as' = logged_keeps t row function vs None w words tt h
first_words t row function vs w (a ∷ rest) few h words as' = answered_words (fits t row (references vs) w.objects a) t row function vs a rest w few h words (All-head AnswersWords a rest as') (All-tail AnswersWords a rest as')

row_words : (t : Table) (row : Option CallRow) (function : ℕ) (vs : List Value) (w : World) → FieldsAreFew t → HoldsWords w → All HasWord vs → DoneHasWords (call_row t row function vs w)
row_words t None function vs w few h words = tt
row_words t (Some row) function vs w few h words = first_words t row function vs w w.answers few h words h.answers

function_words : (t : Table) (k : ℕ) (function : Option ℕ) (vs : List Value) (w : World) → FieldsAreFew t → HoldsWords w → All HasWord vs → DoneHasWords (call_function t k function vs w)
function_words t k None vs w few h words = tt
function_words t k (Some function) vs w few h words = row_words t (slice_get t.calls k) function vs w few h words

call_words : (t : Table) (d : Descr) (args : List Arg) (vs : List Value) (w : World) → FieldsAreFew t → HoldsWords w → All HasWord vs → DoneHasWords (call t d args vs w)
call_words t (descr.Call k) args vs w few h words = function_words t k (function_in args) vs w few h words
call_words t _ args vs w few h words = tt

pub perform-words : (t : Table) (operation : OpCode) (d : Descr) (args : List Arg) (vs : List Value) (w : World) → FieldsAreFew t → HoldsWords w → All HasWord vs → DoneHasWords (perform t operation d args vs w)
perform-words t code.IntAddOvf d args vs w few h words = overflow_words _ vs w h
perform-words t code.IntSubOvf d args vs w few h words = overflow_words _ vs w h
perform-words t code.IntMulOvf d args vs w few h words = overflow_words _ vs w h
perform-words t code.GetfieldGcI d args vs w few h words = get_field_words t d vs w h
perform-words t code.GetfieldGcR d args vs w few h words = get_field_words t d vs w h
perform-words t code.SetfieldGc d args vs w few h words = set_field_words t d vs w h words
perform-words t code.GetarrayitemGcI d args vs w few h words = get_item_words t d vs w h
perform-words t code.GetarrayitemGcR d args vs w few h words = get_item_words t d vs w h
perform-words t code.SetarrayitemGc d args vs w few h words = set_item_words t d vs w h words
perform-words t code.ArraylenGc d args vs w few h words = get_length_words d vs w h
perform-words t code.New d args vs w few h words = structure_words t d w few h
perform-words t code.NewWithVtable d args vs w few h words = structure_words t d w few h
perform-words t code.NewArrayClear d args vs w few h words = array_words t d vs w h words
perform-words t code.CallI d args vs w few h words = call_words t d args vs w few h words
perform-words t code.CallR d args vs w few h words = call_words t d args vs w few h words
perform-words t code.CallN d args vs w few h words = call_words t d args vs w few h words
perform-words t operation d args vs w few h words = value_words w (fold operation vs) h (fold-words operation vs words)
