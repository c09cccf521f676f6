-- Words that are written in lines of traces, and what each is read as.
use Rattle.std.proofs.Common.{◌≡◌, ℕ, ℤ, pos, negsuc, zero, suc, ◌+◌, ◌-◌, ◌<◌, ◌≤◌, ◌^◌, Bool, true, false, eqb, leb, drop, get_or, List, [], ◌∷◌, ◌++◌, length, Option, Some, None, decimal, refl, sym, ap, ◌∙◌, arith, append_assoc, length-append}
use Rattle.std.specs.Prelude.{codes, position, ◌&&◌}
use Rattle.std.specs.Str.{bytes_eq}
use Rattle.std.specs.Str.Parse.{AllDigits}
use Rattle.std.specs.Fmt.{signed_decimal}
use Rattle.std.specs.List.{list_all, position_or_len}
use Rattle.std.proofs.Math.Seq.{take-append_seam}
use Rattle.std.proofs.lemmas.Bool.{ne_eqb, eq-eqb, and_from, lt-ltb, le-leb, and_parts}
use Rattle.std.proofs.lemmas.Bool.Decides.{nat_tests}
use Rattle.std.proofs.lemmas.Fmt.{decimal_is_IsNumeral, decimal_digit, first_decimal, length-decimal-le}
use Rattle.std.proofs.lemmas.Str.Parse.{digit_from_value}
use Rattle.std.proofs.lemmas.Slice.Eq.{bytes_eq-Decides}
use lib.Signed.{mag}
use Rattle.lists.proofs.Tests.{list_all_append}
use Rattle.lists.proofs.Numbers.{one_more}
use Rattle.text_lines.specs.Words.{is_name, is_name_byte, is_letter, is_digit, is_word_byte, is_mark, is_plain}
use Rattle.text_lines.specs.Numbers.{box_of, integer_of, decimal_of, decimal_behind, is_short, letter_of}
use Rattle.text_lines.specs.Written.{IsWord}
use Rattle.text_lines.specs.declared.number.Letter.{Letter}
use Rattle.text_lines.specs.declared.number.Letter.TheVariants as letter
use Rattle.trace_ops.specs.declared.trace.Kind.{Kind}
use Rattle.trace_ops.specs.declared.trace.Kind.TheVariants as kind
use Rattle.trace_ops.specs.declared.trace.BoxId.{BoxId}
use Rattle.trace_ops.specs.declared.trace.Origin.TheVariants as origin
use Rattle.trace_text.specs.declared.value.Value.TheVariants as value
use Rattle.trace_text.specs.declared.value.Head.TheVariants as head
use Rattle.trace_text.specs.Values.{plain_value, frame_head, name_and_pc}
use Rattle.trace_text.specs.Heading.{guard_name}
use Rattle.trace_text.specs.Writing as writing
use Rattle.trace_text.specs.Writing.{box_text, guard_text}
use Rattle.trace_text.proofs.Below.{TextLaws}

-- ---- words that are joined

word_begun : (c : ℕ) (w : List ℕ) → is_word_byte c ≡ true → (leb 32 c && leb c 126) ≡ true → IsWord w → IsWord (c ∷ w)
word_begun c w b p h = record { some = omega arith; bytes = and_from (is_word_byte c) (list_all is_word_byte w) b h.bytes; plain = and_from (leb 32 c && leb c 126) (is_plain w) p h.plain }

word_both : (a b : List ℕ) → IsWord a → IsWord b → IsWord (a ++ b)
word_both a b h i = record { some = omega (arith, length-append a b, h.some); bytes = list_all_append is_word_byte a b h.bytes i.bytes; plain = list_all_append (λ c. leb 32 c && leb c 126) a b h.plain i.plain }

number_is_word : (laws : TextLaws) (n : ℕ) → n < 2 ^ 32 → IsWord (signed_decimal (pos n))
number_is_word laws n lt = laws.spelled.spelling.integer_is_word (pos n) (record { sfits = omega arith })

-- ---- boxes

-- the letter of a box in a line
abbrev pub letter_for : Kind → Letter
letter_for kind.Int = letter.Int
letter_for kind.Ref = letter.Ref

box_word_by : (k : Kind) (w : List ℕ) → IsWord w → IsWord ((writing.letter k ∷ []) ++ w)
unfolding is_word_byte is_mark
box_word_by kind.Int w h = word_begun 105 w refl refl h
box_word_by kind.Ref w h = word_begun 112 w refl refl h

pub box_is_word : (laws : TextLaws) (b : BoxId) → b.number < 2 ^ 32 → IsWord (box_text b)
unfolding box_text
box_is_word laws b lt = box_word_by b.kind (signed_decimal (pos b.number)) (number_is_word laws b.number lt)

short_by : (ds : List ℕ) → 48 < get_or ds 0 0 → is_short ds ≡ true
short_by [] lt = refl
short_by (c ∷ []) lt = refl
short_by (c ∷ d ∷ ds) lt = let other : eqb c 48 ≡ false = ne_eqb c 48 (λ e. omega (arith, lt)) in rw other refl

decimal_short : (n : ℕ) → n < 2 ^ 32 → is_short (decimal n) ≡ true
decimal_short zero lt = ap is_short (decimal_digit 0 (omega arith))
decimal_short (suc n) lt = short_by (decimal (suc n)) (first_decimal (suc n) (omega arith) (omega arith))

box_by : (laws : TextLaws) (k : Kind) (n : ℕ) → n < 2 ^ 32 → box_of ((writing.letter k ∷ []) ++ decimal n) ≡ Some (letter_for k, n)
unfolding box_of
box_by laws kind.Int n lt = let d : decimal_of (2 ^ 32 - 1) (decimal n) ≡ Some n = laws.spelled.spelling.decimal_again (2 ^ 32 - 1) n (omega arith) (omega arith) in rw (d, decimal_short n lt) refl
box_by laws kind.Ref n lt = let d : decimal_of (2 ^ 32 - 1) (decimal n) ≡ Some n = laws.spelled.spelling.decimal_again (2 ^ 32 - 1) n (omega arith) (omega arith) in rw (d, decimal_short n lt) refl

pub box_again : (laws : TextLaws) (b : BoxId) → b.number < 2 ^ 32 → box_of (box_text b) ≡ Some (letter_for b.kind, b.number)
unfolding box_text
box_again laws b lt = box_by laws b.kind b.number lt

-- ---- values of one word

no_null_box : box_of (codes "NULL") ≡ None
unfolding box_of
no_null_box = refl

no_null_integer : integer_of (codes "NULL") ≡ None
unfolding integer_of decimal_of decimal_behind
no_null_integer = refl

other_by : {X : Type 0} (b : Bool) (w : List ℕ) (f : List ℕ → Option X) (x : X) → bytes_eq w (codes "NULL") ≡ b → f w ≡ Some x → f (codes "NULL") ≡ None → b ≡ false
other_by true w f x is e n = let bad : Some x ≡ None = sym e ∙ ap f ((bytes_eq-Decides w (codes "NULL")).0 is) ∙ n in absurd cc
other_by false w f x is e n = refl

pub plain_box : (laws : TextLaws) (b : BoxId) → b.number < 2 ^ 32 → plain_value (box_text b) ≡ Some (value.Of (letter_for b.kind) b.number)
unfolding plain_value
plain_box laws b lt =
    let e = box_again laws b lt in
    let other : bytes_eq (box_text b) (codes "NULL") ≡ false = other_by (bytes_eq (box_text b) (codes "NULL")) (box_text b) box_of (letter_for b.kind, b.number) refl e no_null_box in
    rw (other, e) refl

digit_no_letter : (c : ℕ) → 48 ≤ c → c ≤ 57 → letter_of c ≡ None
digit_no_letter c lo hi =
    let a : eqb c 105 ≡ false = ne_eqb c 105 (λ e. omega (arith, lo, hi)) in
    let b : eqb c 112 ≡ false = ne_eqb c 112 (λ e. omega (arith, lo, hi)) in
    let d : eqb c 114 ≡ false = ne_eqb c 114 (λ e. omega (arith, lo, hi)) in
    let f : eqb c 102 ≡ false = ne_eqb c 102 (λ e. omega (arith, lo, hi)) in
    rw (a, b, d, f) refl

digits_no_box : (ds : List ℕ) → AllDigits 10 ds → box_of ds ≡ None
unfolding box_of
digits_no_box [] h = refl
digits_no_box (c ∷ cs) h = let k = digit_from_value c h.0 in let none = digit_no_letter c k.0 k.1 in rw none refl

integer_no_box : (z : ℤ) → mag z < 2 ^ 63 → box_of (signed_decimal z) ≡ None
unfolding box_of
integer_no_box (pos n) h = digits_no_box (decimal n) (decimal_is_IsNumeral n (omega arith)).0.1
integer_no_box (negsuc n) h = refl

pub plain_integer : (laws : TextLaws) (z : ℤ) → mag z < 2 ^ 63 → plain_value (signed_decimal z) ≡ Some (value.Const z)
unfolding plain_value
plain_integer laws z h =
    let e = laws.spelled.spelling.integer_again z (record { sfits = h }) in
    let other : bytes_eq (signed_decimal z) (codes "NULL") ≡ false = other_by (bytes_eq (signed_decimal z) (codes "NULL")) (signed_decimal z) integer_of z refl e no_null_integer in
    rw (other, integer_no_box z h, e) refl

pub plain_null : plain_value (codes "NULL") ≡ Some value.Null
unfolding plain_value
plain_null = refl

-- ---- a name, a mark and a number

name_bytes_by : (a b c : Bool) → ((a && b) && c) ≡ true → b ≡ true
name_bytes_by true true c e = refl
name_bytes_by true false c e = absurd cc
name_bytes_by false b c e = absurd cc

name_bytes : (n : List ℕ) → is_name n ≡ true → list_all is_name_byte n ≡ true
unfolding is_name
name_bytes [] e = refl
name_bytes (c ∷ cs) e = name_bytes_by (is_letter c) (list_all is_name_byte (c ∷ cs)) (leb (length (c ∷ cs)) 64) e

other_byte : (m c : ℕ) → is_name_byte c ≡ true → is_name_byte m ≡ false → eqb c m ≡ false
other_byte m c is none = ne_eqb c m (λ e. let bad : true ≡ false = sym is ∙ ap is_name_byte e ∙ none in absurd cc)

place_behind : (m : ℕ) (n ds : List ℕ) → list_all is_name_byte n ≡ true → is_name_byte m ≡ false → position_or_len (λ c. eqb c m) (n ++ m ∷ ds) ≡ length n
place_behind m [] ds all none = rw (eq-eqb m m refl) refl
place_behind m (c ∷ cs) ds all none =
    let p = and_parts (is_name_byte c) (list_all is_name_byte cs) all in
    rw (other_byte m c p.0 none, one_more (position_or_len (λ c. eqb c m) (cs ++ m ∷ ds))) (ap suc (place_behind m cs ds p.1 none))

position_behind : (m : ℕ) (n ds : List ℕ) → is_name n ≡ true → is_name_byte m ≡ false → position (λ c. eqb c m) (n ++ m ∷ ds) ≡ Some (length n)
position_behind m n ds is none =
    let at = place_behind m n ds (name_bytes n is) none in
    let within : length n < length (n ++ m ∷ ds) = omega (arith, length-append n (m ∷ ds)) in
    rw (at, lt-ltb (length n) (length (n ++ m ∷ ds)) within) refl

drop_behind : (m : ℕ) (n ds : List ℕ) → drop (length n + 1) (n ++ m ∷ ds) ≡ ds
drop_behind m [] ds = refl
drop_behind m (c ∷ cs) ds = let next : suc (length cs) + 1 ≡ suc (length cs + 1) = omega arith in ap (λ k. drop k (c ∷ (cs ++ m ∷ ds))) next ∙ drop_behind m cs ds

colon_no_name : is_name_byte 58 ≡ false
unfolding is_name_byte is_letter
colon_no_name = refl

slash_no_name : is_name_byte 47 ≡ false
unfolding is_name_byte is_letter
slash_no_name = refl

name_and_pc_again : (laws : TextLaws) (n : List ℕ) (pc : ℕ) → is_name n ≡ true → pc < 2 ^ 32 → name_and_pc (n ++ 58 ∷ decimal pc) ≡ Some (head.Named n pc)
unfolding name_and_pc
name_and_pc_again laws n pc is lt =
    let d : decimal_of (2 ^ 32 - 1) (decimal pc) ≡ Some pc = laws.spelled.spelling.decimal_again (2 ^ 32 - 1) pc (omega arith) (omega arith) in
    rw (position_behind 58 n (decimal pc) is colon_no_name, take-append_seam n (58 ∷ decimal pc), is, drop_behind 58 n (decimal pc), d) refl

-- @name:pc
abbrev pub frame_word : List ℕ → ℕ → List ℕ
frame_word n pc = (((64 ∷ []) ++ n) ++ 58 ∷ []) ++ signed_decimal (pos pc)

pub frame_head_again : (laws : TextLaws) (n : List ℕ) (pc : ℕ) → is_name n ≡ true → pc < 2 ^ 32 → frame_head (frame_word n pc) ≡ Some (head.Named n pc)
unfolding frame_head
frame_head_again laws n pc is lt = ap name_and_pc (append_assoc n (58 ∷ []) (decimal pc)) ∙ name_and_pc_again laws n pc is lt

colon_is_word : IsWord (58 ∷ [])
unfolding is_word_byte is_mark
colon_is_word = record { some = omega arith; bytes = refl; plain = refl }

slash_is_word : IsWord (47 ∷ [])
unfolding is_word_byte is_mark
slash_is_word = record { some = omega arith; bytes = refl; plain = refl }

at_is_word : (w : List ℕ) → IsWord w → IsWord ((64 ∷ []) ++ w)
unfolding is_word_byte is_mark
at_is_word w h = word_begun 64 w refl refl h

pub frame_is_word : (laws : TextLaws) (n : List ℕ) (pc : ℕ) → is_name n ≡ true → pc < 2 ^ 32 → IsWord (frame_word n pc)
frame_is_word laws n pc is lt = word_both (((64 ∷ []) ++ n) ++ 58 ∷ []) (signed_decimal (pos pc)) (word_both ((64 ∷ []) ++ n) (58 ∷ []) (at_is_word n (laws.spelled.spelling.name_is_word n is)) colon_is_word) (number_is_word laws pc lt)

pub guard_name_again : (laws : TextLaws) (n : List ℕ) (k : ℕ) → is_name n ≡ true → k < 2 ^ 32 → guard_name (guard_text n k) ≡ Some (origin.Bridge n k)
unfolding guard_name
guard_name_again laws n k is lt =
    let d : decimal_of (2 ^ 32 - 1) (decimal k) ≡ Some k = laws.spelled.spelling.decimal_again (2 ^ 32 - 1) k (omega arith) (omega arith) in
    rw (append_assoc n (47 ∷ []) (decimal k), position_behind 47 n (decimal k) is slash_no_name, take-append_seam n (47 ∷ decimal k), is, drop_behind 47 n (decimal k), d) refl

pub guard_is_word : (laws : TextLaws) (n : List ℕ) (k : ℕ) → is_name n ≡ true → k < 2 ^ 32 → IsWord (guard_text n k)
guard_is_word laws n k is lt = word_both (n ++ 47 ∷ []) (signed_decimal (pos k)) (word_both n (47 ∷ []) (laws.spelled.spelling.name_is_word n is) slash_is_word) (number_is_word laws k lt)

-- ---- a box is a name

digit_in_name : (c : ℕ) → is_digit c ≡ true → is_name_byte c ≡ true
unfolding is_name_byte is_letter
digit_in_name c h = grind (arith, nat_tests)

digits_in_name : (ds : List ℕ) → list_all is_digit ds ≡ true → list_all is_name_byte ds ≡ true
digits_in_name [] h = refl
digits_in_name (c ∷ cs) h = let p = and_parts (is_digit c) (list_all is_digit cs) h in and_from (is_name_byte c) (list_all is_name_byte cs) (digit_in_name c p.0) (digits_in_name cs p.1)

letter_is_name : (k : Kind) (ds : List ℕ) → list_all is_name_byte ds ≡ true → length ds ≤ 63 → is_name ((writing.letter k ∷ []) ++ ds) ≡ true
unfolding is_name is_name_byte is_letter
letter_is_name kind.Int ds all le = let few : leb (suc (length ds)) 64 ≡ true = le-leb (suc (length ds)) 64 (omega (arith, le)) in rw (all, few) refl
letter_is_name kind.Ref ds all le = let few : leb (suc (length ds)) 64 ≡ true = le-leb (suc (length ds)) 64 (omega (arith, le)) in rw (all, few) refl

pub box_is_name : (laws : TextLaws) (b : BoxId) → b.number < 2 ^ 32 → is_name (box_text b) ≡ true
unfolding box_text
box_is_name laws b lt =
    let d = decimal_is_IsNumeral b.number (omega arith) in
    let few : length (decimal b.number) ≤ 10 = length-decimal-le 10 b.number (omega arith) (omega arith) (omega arith) in
    letter_is_name b.kind (decimal b.number) (digits_in_name (decimal b.number) (laws.spelled.spelling.digits_are (decimal b.number) d.0.1)) (omega (arith, few))
