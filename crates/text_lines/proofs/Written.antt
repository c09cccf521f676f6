-- What was written is read again.
use Rattle.std.proofs.Common.{◌≡◌, ℕ, true, false, eqb, leb, List, [], ◌∷◌, ◌++◌, length, refl, sym, ap, ◌∙◌, arith}
use Rattle.std.proofs.lemmas.List.{append-nil}
use Rattle.std.specs.Prelude.{◌&&◌}
use Rattle.std.specs.List.{list_all, AllByRecursion}
use Rattle.std.proofs.lemmas.Bool.{and_parts}
use Rattle.std.proofs.lemmas.Bool.Decides.{nat_tests}
use Rattle.text_lines.specs.Lines.{in_front, lines}
use Rattle.text_lines.specs.Words.{words, is_mark, is_word_byte, is_letter, is_name_byte, begins_word, is_name, is_plain}
use Rattle.text_lines.specs.Written.{spaced, IsWord}
use Rattle.lists.proofs.Tests.{list_all_append, list_all_weaker}
use Rattle.text_lines.proofs.WordLaws.{alone, joined, no_space_in_word}

pub words_word : (c : ℕ) (cs rest : List ℕ) → list_all is_word_byte (c ∷ cs) ≡ true → begins_word rest ≡ false → words ((c ∷ cs) ++ rest) ≡ (c ∷ cs) ∷ words rest
words_word c [] rest h e =
    let p = and_parts (is_word_byte c) true h in
    let no : (is_word_byte c && begins_word rest) ≡ false = rw (p.0, e) refl in
    alone c rest (no_space_in_word c p.0) no
words_word c (d ∷ ds) rest h e =
    let p = and_parts (is_word_byte c) (list_all is_word_byte (d ∷ ds)) h in
    let q = and_parts (is_word_byte d) (list_all is_word_byte ds) p.1 in
    let yes : (is_word_byte c && is_word_byte d) ≡ true = rw (p.0, q.0) refl in
    joined c ((d ∷ ds) ++ rest) (no_space_in_word c p.0) yes ∙ ap (in_front c) (words_word d ds rest p.1 e)

no_word_at_space : begins_word (32 ∷ []) ≡ false
unfolding is_word_byte
no_word_at_space = refl

word_then_space : (w rest : List ℕ) → IsWord w → words (w ++ 32 ∷ rest) ≡ w ∷ words rest
unfolding words is_word_byte
word_then_space [] rest h = absurd (omega (arith, h.some))
word_then_space (c ∷ cs) rest h = words_word c cs (32 ∷ rest) h.bytes no_word_at_space

word_alone : (w : List ℕ) → IsWord w → words w ≡ w ∷ []
unfolding words
word_alone [] h = absurd (omega (arith, h.some))
word_alone (c ∷ cs) h = ap words (sym (append-nil (c ∷ cs))) ∙ words_word c cs [] h.bytes refl

pub words_spaced : (ws : List (List ℕ)) → AllByRecursion IsWord ws → words (spaced ws) ≡ ws
unfolding words
words_spaced [] h = refl
words_spaced (w ∷ []) h = ap words (append-nil w) ∙ word_alone w h.0
words_spaced (w ∷ v ∷ ws) h = word_then_space w (spaced (v ∷ ws)) h.0 ∙ ap (λ (x : List (List ℕ)). w ∷ x) (words_spaced (v ∷ ws) h.1)

pub plain_spaced : (ws : List (List ℕ)) → AllByRecursion IsWord ws → is_plain (spaced ws) ≡ true
plain_spaced [] h = refl
plain_spaced (w ∷ []) h = ap is_plain (append-nil w) ∙ h.0.plain
plain_spaced (w ∷ v ∷ ws) h = list_all_append (λ c. leb 32 c && leb c 126) w (32 ∷ spaced (v ∷ ws)) h.0.plain (plain_spaced (v ∷ ws) h.1)

-- a plain line has no line feed
plain_byte : (c : ℕ) → (leb 32 c && leb c 126) ≡ true → eqb c 10 ≡ false
plain_byte c h = grind (arith, nat_tests)

pub line_then_feed : (line rest : List ℕ) → is_plain line ≡ true → lines (line ++ 10 ∷ rest) ≡ line ∷ lines rest
unfolding lines
line_then_feed [] rest h = refl
line_then_feed (c ∷ cs) rest h =
    let p = and_parts (leb 32 c && leb c 126) (is_plain cs) h in
    let none : eqb c 10 ≡ false = plain_byte c p.0 in
    rw none (ap (in_front c) (line_then_feed cs rest p.1))

name_byte_is_word : (c : ℕ) → is_name_byte c ≡ true → is_word_byte c ≡ true
unfolding is_name_byte is_letter is_word_byte is_mark
name_byte_is_word c h = grind (arith, nat_tests)

name_byte_is_plain : (c : ℕ) → is_name_byte c ≡ true → (leb 32 c && leb c 126) ≡ true
unfolding is_name_byte is_letter
name_byte_is_plain c h = grind (arith, nat_tests)

pub name_is_word : (n : List ℕ) → is_name n ≡ true → IsWord n
unfolding is_name
name_is_word [] h = absurd cc
name_is_word (c ∷ cs) h =
    let a = and_parts (is_letter c && list_all is_name_byte (c ∷ cs)) (leb (length (c ∷ cs)) 64) h in
    let b = and_parts (is_letter c) (list_all is_name_byte (c ∷ cs)) a.0 in
    record {
      some = omega arith;
      bytes = list_all_weaker is_name_byte is_word_byte name_byte_is_word (c ∷ cs) b.1;
      plain = list_all_weaker is_name_byte (λ c. leb 32 c && leb c 126) name_byte_is_plain (c ∷ cs) b.1;
    }
