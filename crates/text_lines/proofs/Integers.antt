-- Integers are words of 64 bits, and what is written of one is read back.
use Rattle.std.proofs.Common.{◌≡◌, ℕ, ℤ, pos, negsuc, zero, suc, ◌+◌, ◌*◌, ◌-◌, ◌<◌, ◌≤◌, ◌^◌, Bool, true, false, cond, eqb, leb, List, [], ◌∷◌, length, Option, Some, None, decimal, refl, ap, subst, ◌∙◌, arith}
use Rattle.std.specs.Prelude.{◌-ℤ◌, ◌&&◌}
use Rattle.std.specs.List.{list_all}
use Rattle.std.specs.Fmt.{signed_decimal}
use Rattle.std.specs.Str.Parse.{AllDigits, digits_value_after, digits_value}
use Rattle.std.specs.Char.{digit_value}
use Rattle.std.proofs.lemmas.Int.{ints}
use Rattle.std.proofs.lemmas.Bool.{leb-true, le-leb, ne_eqb, and_from}
use Rattle.std.proofs.lemmas.Bool.Decides.{nat_tests}
use Rattle.std.proofs.lemmas.Fmt.{decimal_is_IsNumeral}
use Rattle.std.proofs.lemmas.Str.Parse.{digit_from_value}
use Rattle.std.proofs.lemmas.Str.{digit_value_digit}
use lib.Signed.{mag}
use Rattle.lists.proofs.Tests.{list_all_weaker}
use Rattle.text_lines.specs.Words.{is_digit, is_mark, is_word_byte, is_letter, is_name}
use Rattle.lists.specs.Binds.{◌>>=◌}
use Rattle.text_lines.specs.Laws.{WordsAreSpelled}
use Rattle.text_lines.specs.Numbers.{value_behind, decimal_behind, decimal_of, integer_of}
use Rattle.text_lines.specs.Written.{IsWord}
use Rattle.text_lines.proofs.Written.{name_is_word}

-- ---- what is read is in range

behind_limit : (a b : Bool) (limit v n : ℕ) → leb v limit ≡ b → cond (a && b) (Some v) None ≡ Some n → n ≤ limit
behind_limit true true limit v n h e = let is : v ≡ n = cc in omega (arith, leb-true v limit h)
behind_limit true false limit v n h e = absurd cc
behind_limit false b limit v n h e = absurd cc

pub decimal_limit : (limit : ℕ) (word : List ℕ) (n : ℕ) → decimal_of limit word ≡ Some n → n ≤ limit
unfolding decimal_of decimal_behind
decimal_limit limit [] n e = absurd cc
decimal_limit limit (c ∷ cs) n e = behind_limit (list_all is_digit (c ∷ cs)) (leb (value_behind 0 (c ∷ cs)) limit) limit (value_behind 0 (c ∷ cs)) n refl e

back : (n : ℕ) → pos 0 -ℤ pos (suc n) ≡ negsuc n
back n = omega (arith, ints)

negative : (n : ℕ) → n ≤ 2 ^ 63 → mag (pos 0 -ℤ pos n) < 2 ^ 63
negative zero le = omega arith
negative (suc n) le = rw (back n) (omega arith)

minus_by : (o : Option ℕ) (z : ℤ) → (o >>= λ n. Some (pos 0 -ℤ pos n)) ≡ Some z → ((n : ℕ) → o ≡ Some n → n ≤ 2 ^ 63) → mag z < 2 ^ 63
minus_by None z e f = absurd cc
minus_by (Some n) z e f = let is : pos 0 -ℤ pos n ≡ z = cc in subst (λ (x : ℤ). mag x < 2 ^ 63) is (negative n (f n refl))

plus_by : (o : Option ℕ) (z : ℤ) → (o >>= λ n. Some (pos n)) ≡ Some z → ((n : ℕ) → o ≡ Some n → n ≤ 2 ^ 63 - 1) → mag z < 2 ^ 63
plus_by None z e f = absurd cc
plus_by (Some n) z e f = let is : pos n ≡ z = cc in subst (λ (x : ℤ). mag x < 2 ^ 63) is (omega (arith, f n refl))

sign_by : (b : Bool) (c : ℕ) (cs : List ℕ) (z : ℤ) → cond b (decimal_of (2 ^ 63) cs >>= λ n. Some (pos 0 -ℤ pos n)) (decimal_of (2 ^ 63 - 1) (c ∷ cs) >>= λ n. Some (pos n)) ≡ Some z → mag z < 2 ^ 63
sign_by true c cs z e = minus_by (decimal_of (2 ^ 63) cs) z e (decimal_limit (2 ^ 63) cs)
sign_by false c cs z e = plus_by (decimal_of (2 ^ 63 - 1) (c ∷ cs)) z e (decimal_limit (2 ^ 63 - 1) (c ∷ cs))

pub integer_ranged : (word : List ℕ) (z : ℤ) → integer_of word ≡ Some z → mag z < 2 ^ 63
unfolding integer_of
integer_ranged [] z e = absurd cc
integer_ranged (c ∷ cs) z e = sign_by (eqb c 45) c cs z e

-- ---- digits

digit_is : (c : ℕ) → digit_value c < 10 → is_digit c ≡ true
digit_is c h = let r = digit_from_value c h in and_from (leb 48 c) (leb c 57) (le-leb 48 c r.0) (le-leb c 57 r.1)

pub digits_are : (ds : List ℕ) → AllDigits 10 ds → list_all is_digit ds ≡ true
digits_are [] h = refl
digits_are (c ∷ cs) h = and_from (is_digit c) (list_all is_digit cs) (digit_is c h.0) (digits_are cs h.1)

value_is : (n : ℕ) (ds : List ℕ) → AllDigits 10 ds → value_behind n ds ≡ digits_value_after 10 n ds
value_is n [] h = refl
value_is n (c ∷ cs) h =
    let k = digit_from_value c h.0 in
    let e : n * 10 + (c - 48) ≡ n * 10 + digit_value c = omega (arith, digit_value_digit c k) in
    ap (λ m. value_behind m cs) e ∙ value_is (n * 10 + digit_value c) cs h.1

decimal_read : (limit n : ℕ) (ds : List ℕ) → 0 < length ds → AllDigits 10 ds → digits_value 10 ds ≡ n → n ≤ limit → decimal_of limit ds ≡ Some n
unfolding decimal_of decimal_behind
decimal_read limit n [] some h e le = absurd (omega arith)
decimal_read limit n (c ∷ cs) some h e le =
    let all : list_all is_digit (c ∷ cs) ≡ true = digits_are (c ∷ cs) h in
    let is : value_behind 0 (c ∷ cs) ≡ n = value_is 0 (c ∷ cs) h ∙ e in
    let small : leb n limit ≡ true = le-leb n limit le in
    ap (λ b. cond (b && leb (value_behind 0 (c ∷ cs)) limit) (Some (value_behind 0 (c ∷ cs))) None) all ∙ rw (is, small) refl

pub decimal_again : (limit n : ℕ) → n < 2 ^ 64 → n ≤ limit → decimal_of limit (decimal n) ≡ Some n
decimal_again limit n small le =
    let d = decimal_is_IsNumeral n small in
    decimal_read limit n (decimal n) d.0.0 d.0.1 d.1 le

no_sign : (ds : List ℕ) → 0 < length ds → AllDigits 10 ds → integer_of ds ≡ (decimal_of (2 ^ 63 - 1) ds >>= λ n. Some (pos n))
unfolding integer_of
no_sign [] some h = absurd (omega arith)
no_sign (c ∷ cs) some h =
    let k = digit_from_value c h.0 in
    let other : eqb c 45 ≡ false = ne_eqb c 45 (λ e. omega arith) in
    rw other refl

pub integer_again : (z : ℤ) → mag z < 2 ^ 63 → integer_of (signed_decimal z) ≡ Some z
unfolding integer_of
integer_again (pos n) h =
    let d = decimal_is_IsNumeral n (omega arith) in
    no_sign (decimal n) d.0.0 d.0.1 ∙ ap (λ (o : Option ℕ). o >>= λ m. Some (pos m)) (decimal_again (2 ^ 63 - 1) n (omega arith) (omega arith))
integer_again (negsuc n) h =
    ap (λ (o : Option ℕ). o >>= λ m. Some (pos 0 -ℤ pos m)) (decimal_again (2 ^ 63) (suc n) (omega arith) (omega arith)) ∙ ap Some (back n)

-- ---- as a word of a line

digit_in_word : (c : ℕ) → is_digit c ≡ true → is_word_byte c ≡ true
unfolding is_word_byte is_mark
digit_in_word c h = grind (arith, nat_tests)

digit_is_plain : (c : ℕ) → is_digit c ≡ true → (leb 32 c && leb c 126) ≡ true
digit_is_plain c h = grind (arith, nat_tests)

minus_in_word : is_word_byte 45 ≡ true
unfolding is_word_byte is_mark
minus_in_word = refl

decimal_is_word : (n : ℕ) → n < 2 ^ 64 → IsWord (decimal n)
decimal_is_word n small =
    let d = decimal_is_IsNumeral n small in
    let digits = digits_are (decimal n) d.0.1 in
    record { some = d.0.0; bytes = list_all_weaker is_digit is_word_byte digit_in_word (decimal n) digits; plain = list_all_weaker is_digit (λ c. leb 32 c && leb c 126) digit_is_plain (decimal n) digits }

pub integer_is_word : (z : ℤ) → mag z < 2 ^ 63 → IsWord (signed_decimal z)
integer_is_word (pos n) h = decimal_is_word n (omega arith)
integer_is_word (negsuc n) h =
    let w = decimal_is_word (suc n) (omega arith) in
    record { some = omega arith; bytes = and_from (is_word_byte 45) (list_all is_word_byte (decimal (suc n))) minus_in_word w.bytes; plain = w.plain }

-- an integer is no name
letter_none : (c : ℕ) → 48 ≤ c → c ≤ 57 → is_letter c ≡ false
unfolding is_letter
letter_none c lo hi = grind (arith, nat_tests)

digits_no_name : (ds : List ℕ) → 0 < length ds → AllDigits 10 ds → is_name ds ≡ false
unfolding is_name
digits_no_name [] some h = absurd (omega arith)
digits_no_name (c ∷ cs) some h = let k = digit_from_value c h.0 in let no_letter = letter_none c k.0 k.1 in rw no_letter refl

pub integer_no_name : (z : ℤ) → mag z < 2 ^ 63 → is_name (signed_decimal z) ≡ false
unfolding is_name is_letter
integer_no_name (pos n) h = let d = decimal_is_IsNumeral n (omega arith) in digits_no_name (decimal n) d.0.0 d.0.1
integer_no_name (negsuc n) h = refl

pub words_spell : WordsAreSpelled
words_spell = record {
  name_is_word = name_is_word;
  integer_is_word = λ z h. integer_is_word z h.sfits;
  integer_no_name = λ z h. integer_no_name z h.sfits;
  integer_again = λ z h. integer_again z h.sfits;
  integer_fits = λ word z e. record { sfits = integer_ranged word z e };
  decimal_again = decimal_again;
  decimal_limit = decimal_limit;
  digits_are = digits_are;
}
