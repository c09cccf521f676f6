-- A line that is written piece by piece, and the words that its pieces say.
use Rattle.std.proofs.Common.{◌≡◌, ℕ, true, false, eqb, leb, List, [], ◌∷◌, ◌++◌, refl, sym, ap, ◌∙◌, arith, append_assoc}
use Rattle.std.proofs.lemmas.List.{append-nil}
use Rattle.std.proofs.lemmas.Bool.Decides.{nat_tests}
use Rattle.std.specs.Prelude.{◌||◌, ◌&&◌, not}
use Rattle.lists.proofs.Tests.{list_all_append}
use Rattle.text_lines.specs.Words.{words, is_mark, is_word_byte, begins_word, is_plain}
use Rattle.text_lines.specs.Written.{IsWord}
use Rattle.text_lines.specs.Laws.{Says, PiecesSayWords}
use Rattle.text_lines.proofs.CutLaws.{lines_joined}
use Rattle.text_lines.proofs.WordLaws.{alone}
use Rattle.text_lines.proofs.Written.{words_word, line_then_feed}

pub says_nothing : Says [] []
says_nothing = record { words_are = λ rest e. refl; apart = λ rest e. e; plain = refl }

pub says_both : (a b : List ℕ) (u v : List (List ℕ)) → Says a u → Says b v → Says (a ++ b) (u ++ v)
says_both a b u v h i = record {
  words_are = λ rest e. ap words (append_assoc a b rest) ∙ h.words_are (b ++ rest) (i.apart rest e) ∙ ap (λ (x : List (List ℕ)). u ++ x) (i.words_are rest e) ∙ sym (append_assoc u v (words rest));
  apart = λ rest e. ap begins_word (append_assoc a b rest) ∙ h.apart (b ++ rest) (i.apart rest e);
  plain = list_all_append (λ c. leb 32 c && leb c 126) a b h.plain i.plain;
}

-- a word that has a space in front
word_behind : (w rest : List ℕ) → IsWord w → begins_word rest ≡ false → words (w ++ rest) ≡ w ∷ words rest
word_behind [] rest h e = absurd (omega (arith, h.some))
word_behind (c ∷ cs) rest h e = words_word c cs rest h.bytes e

behind_space : (xs : List ℕ) → words (32 ∷ xs) ≡ words xs
unfolding words
behind_space xs = refl

space_begins : (xs : List ℕ) → begins_word (32 ∷ xs) ≡ false
unfolding is_word_byte
space_begins xs = refl

pub says_word : (w : List ℕ) → IsWord w → Says (32 ∷ w) (w ∷ [])
says_word w h = record {
  words_are = λ rest e. behind_space (w ++ rest) ∙ word_behind w rest h e;
  apart = λ rest e. space_begins (w ++ rest);
  plain = h.plain;
}

pub says_space : Says (32 ∷ []) []
says_space = record { words_are = λ rest e. behind_space rest; apart = λ rest e. space_begins rest; plain = refl }

-- a mark
no_word : (m : ℕ) → is_mark m ≡ true → is_word_byte m ≡ false
unfolding is_word_byte
no_word m h = elim (eqb m 32) as (λ b. not (b || is_mark m) ≡ false) [ true ↦ refl | false ↦ rw h refl ]

no_space : (m : ℕ) → is_mark m ≡ true → eqb m 32 ≡ false
unfolding is_mark
no_space m h = grind (arith, nat_tests)

mark_plain : (m : ℕ) → is_mark m ≡ true → (leb 32 m && leb m 126) ≡ true
unfolding is_mark
mark_plain m h = grind (arith, nat_tests)

words_mark : (m : ℕ) (rest : List ℕ) → is_mark m ≡ true → words (m ∷ rest) ≡ (m ∷ []) ∷ words rest
words_mark m rest h =
    let none : (is_word_byte m && begins_word rest) ≡ false = rw (no_word m h) refl in
    alone m rest (no_space m h) none

pub says_mark : (m : ℕ) → is_mark m ≡ true → Says (m ∷ []) ((m ∷ []) ∷ [])
says_mark m h = record {
  words_are = λ rest e. words_mark m rest h;
  apart = λ rest e. no_word m h;
  plain = rw (mark_plain m h) refl;
}

-- a mark, and a word right behind it
pub says_mark_word : (m : ℕ) (w : List ℕ) → is_mark m ≡ true → IsWord w → Says (m ∷ w) ((m ∷ []) ∷ w ∷ [])
says_mark_word m w h i = record {
  words_are = λ rest e. words_mark m (w ++ rest) h ∙ ap (λ (x : List (List ℕ)). (m ∷ []) ∷ x) (word_behind w rest i e);
  apart = λ rest e. no_word m h;
  plain = rw (mark_plain m h) i.plain;
}

-- a line that begins with a word
pub line_says : (w text : List ℕ) (ws : List (List ℕ)) → IsWord w → Says text ws → words (w ++ text) ≡ w ∷ ws
unfolding words
line_says w text ws h i =
    let all : text ++ [] ≡ text = append-nil text in
    let begins : begins_word text ≡ false = sym (ap begins_word all) ∙ i.apart [] refl in
    word_behind w text h begins ∙ ap (λ (x : List (List ℕ)). w ∷ x) (sym (ap words all) ∙ i.words_are [] refl ∙ append-nil ws)

pub line_plain : (w text : List ℕ) (ws : List (List ℕ)) → IsWord w → Says text ws → is_plain (w ++ text) ≡ true
line_plain w text ws h i = list_all_append (λ c. leb 32 c && leb c 126) w text h.plain i.plain

pub pieces_say : PiecesSayWords
pieces_say = record {
  word_behind = word_behind;
  alone = alone;
  says_nothing = says_nothing;
  says_both = says_both;
  says_space = says_space;
  says_word = says_word;
  says_mark = says_mark;
  says_mark_word = says_mark_word;
  line_says = line_says;
  line_plain = line_plain;
  line_then_feed = line_then_feed;
  lines_joined = lines_joined;
}
