-- The first word of a line.
use Rattle.std.proofs.Common.{◌≡◌, ℕ, suc, ◌<◌, ◌≤◌, Bool, true, false, cond, eqb, List, [], ◌∷◌, length, take, drop, get_or, refl, sym, ap, subst, ◌∙◌, arith, inl, inr, length-drop}
use Rattle.std.proofs.lemmas.List.{nil_from_length}
use Rattle.std.specs.Prelude.{◌||◌, ◌&&◌, not, position, unwrap_or}
use Rattle.std.specs.List.{position_or_len}
use Rattle.std.proofs.lemmas.Bool.{cases_lt, lt-ltb, le-ltb}
use Rattle.std.proofs.lemmas.List.Sums.{prefix_len-le-length}
use Rattle.lists.proofs.Numbers.{one_more}
use Rattle.text_lines.specs.Lines.{in_front}
use Rattle.text_lines.specs.Words.{words, is_mark, is_word_byte, begins_word, after_spaces, word_len}

-- a position, or the length where there is none
pub position_or : (p : ℕ → Bool) (xs : List ℕ) → unwrap_or (position p xs) (length xs) ≡ position_or_len p xs
position_or p xs =
    elim (cases_lt (position_or_len p xs) (length xs)) [
      | inl lt ↦ rw (lt-ltb _ _ lt) refl
      | inr le ↦ rw (le-ltb _ _ le) (omega (arith, prefix_len-le-length (λ x. not (p x)) xs))
    ]

-- how many spaces, and how many bytes of a word, are in front
abbrev spaces : List ℕ → ℕ
spaces line = position_or_len (λ c. not (eqb c 32)) line

abbrev run : List ℕ → ℕ
run line = position_or_len (λ c. not (is_word_byte c)) line

spaces_step : (b : Bool) (c : ℕ) (cs : List ℕ) → eqb c 32 ≡ b → words (after_spaces cs) ≡ words cs → words (after_spaces (c ∷ cs)) ≡ words (c ∷ cs)
unfolding words
spaces_step true c cs e h =
    let k : spaces (c ∷ cs) ≡ suc (spaces cs) = rw e (one_more (spaces cs)) in
    let w : words cs ≡ words (c ∷ cs) = rw e refl in
    ap (λ n. words (drop n (c ∷ cs))) k ∙ h ∙ w
spaces_step false c cs e h =
    let k : spaces (c ∷ cs) ≡ 0 = rw e refl in
    ap (λ n. words (drop n (c ∷ cs))) k

pub words_after_spaces : (line : List ℕ) → words (after_spaces line) ≡ words line
words_after_spaces [] = refl
words_after_spaces (c ∷ cs) = spaces_step (eqb c 32) c cs refl (words_after_spaces cs)

-- no space is in front any more
abbrev NoSpace : List ℕ → Type 0
NoSpace line = 0 < length line → eqb (get_or line 0 0) 32 ≡ false

no_space_step : (b : Bool) (c : ℕ) (cs : List ℕ) → eqb c 32 ≡ b → NoSpace (after_spaces cs) → NoSpace (after_spaces (c ∷ cs))
no_space_step true c cs e h =
    let k : spaces (c ∷ cs) ≡ suc (spaces cs) = rw e (one_more (spaces cs)) in
    subst (λ (n : ℕ). NoSpace (drop n (c ∷ cs))) (sym k) h
no_space_step false c cs e h =
    let k : spaces (c ∷ cs) ≡ 0 = rw e refl in
    subst (λ (n : ℕ). NoSpace (drop n (c ∷ cs))) (sym k) (λ _. e)

no_space : (line : List ℕ) → NoSpace (after_spaces line)
no_space [] = λ h. absurd (omega arith)
no_space (c ∷ cs) = no_space_step (eqb c 32) c cs refl (no_space cs)

-- the first word is taken off
abbrev Splits : ℕ → List ℕ → Type 0
Splits n line = words line ≡ take n line ∷ words (drop n line)

run_one : (c : ℕ) (cs : List ℕ) → is_word_byte c ≡ true → run (c ∷ cs) ≡ suc (run cs)
run_one c cs is = rw is (one_more (run cs))

run_none : (c : ℕ) (cs : List ℕ) → is_word_byte c ≡ false → run (c ∷ cs) ≡ 0
run_none c cs is = rw is refl

pub no_space_in_word : (c : ℕ) → is_word_byte c ≡ true → eqb c 32 ≡ false
unfolding is_word_byte
no_space_in_word c is = elim (eqb c 32) as (λ b. not (b || is_mark c) ≡ true → b ≡ false) [ true ↦ λ h. absurd cc | false ↦ λ h. refl ] is

pub alone : (c : ℕ) (cs : List ℕ) → eqb c 32 ≡ false → (is_word_byte c && begins_word cs) ≡ false → words (c ∷ cs) ≡ (c ∷ []) ∷ words cs
unfolding words
alone c cs space e = rw (space, e) refl

pub joined : (c : ℕ) (cs : List ℕ) → eqb c 32 ≡ false → (is_word_byte c && begins_word cs) ≡ true → words (c ∷ cs) ≡ in_front c (words cs)
unfolding words
joined c cs space e = rw (space, e) refl

word_step : (b : Bool) (c d : ℕ) (ds : List ℕ) → is_word_byte d ≡ b → is_word_byte c ≡ true
    → (is_word_byte d ≡ true → Splits (run (d ∷ ds)) (d ∷ ds)) → Splits (run (c ∷ d ∷ ds)) (c ∷ d ∷ ds)
word_step true c d ds e is others =
    let both : (is_word_byte c && is_word_byte d) ≡ true = rw (is, e) refl in
    let w = joined c (d ∷ ds) (no_space_in_word c is) both ∙ ap (in_front c) (others e) in
    subst (λ (n : ℕ). Splits n (c ∷ d ∷ ds)) (sym (run_one c (d ∷ ds) is)) w
word_step false c d ds e is others =
    let both : (is_word_byte c && is_word_byte d) ≡ false = rw (is, e) refl in
    let k : run (c ∷ d ∷ ds) ≡ 1 = run_one c (d ∷ ds) is ∙ ap suc (run_none d ds e) in
    subst (λ (n : ℕ). Splits n (c ∷ d ∷ ds)) (sym k) (alone c (d ∷ ds) (no_space_in_word c is) both)

word_split : (c : ℕ) (cs : List ℕ) → is_word_byte c ≡ true → Splits (run (c ∷ cs)) (c ∷ cs)
word_split c [] is =
    let both : (is_word_byte c && false) ≡ false = rw is refl in
    subst (λ (n : ℕ). Splits n (c ∷ [])) (sym (run_one c [] is)) (alone c [] (no_space_in_word c is) both)
word_split c (d ∷ ds) is = word_step (is_word_byte d) c d ds refl is (λ h. word_split d ds h)

-- a word that is no space in front is a mark, or a run of bytes of a word
words_split_step : (b : Bool) (c : ℕ) (cs : List ℕ) → is_mark c ≡ b → eqb c 32 ≡ false → Splits (cond b 1 (run (c ∷ cs))) (c ∷ cs)
unfolding is_word_byte
words_split_step true c cs e space =
    let no : (is_word_byte c && begins_word cs) ≡ false = rw (space, e) refl in
    alone c cs space no
words_split_step false c cs e space =
    let is : is_word_byte c ≡ true = rw (space, e) refl in
    word_split c cs is

words_split : (line : List ℕ) → 0 < length line → eqb (get_or line 0 0) 32 ≡ false → Splits (word_len line) line
words_split [] some space = absurd (omega arith)
words_split (c ∷ cs) some space = words_split_step (is_mark c) c cs refl space

-- the length of the first word is at least one
len_step : (b : Bool) (c : ℕ) (cs : List ℕ) → is_mark c ≡ b → eqb c 32 ≡ false → 0 < cond b 1 (run (c ∷ cs))
unfolding is_word_byte
len_step true c cs e space = omega arith
len_step false c cs e space =
    let is : is_word_byte c ≡ true = rw (space, e) refl in
    rw (run_one c cs is) (omega arith)

word_len_some : (line : List ℕ) → 0 < length line → eqb (get_or line 0 0) 32 ≡ false → 0 < word_len line
word_len_some [] some space = absurd (omega arith)
word_len_some (c ∷ cs) some space = len_step (is_mark c) c cs refl space

len_bound : (line : List ℕ) → 0 < length line → word_len line ≤ length line
len_bound line some = elim (is_mark (get_or line 0 0)) as (λ b. cond b 1 (run line) ≤ length line) [ true ↦ omega arith | false ↦ prefix_len-le-length (λ c. not (not (is_word_byte c))) line ]

shorter : (line : List ℕ) → length (after_spaces line) ≤ length line
shorter line = omega (arith, length-drop (spaces line) line)

pub words_none : (line : List ℕ) → length (after_spaces line) ≡ 0 → words line ≡ []
unfolding words
words_none line e = sym (words_after_spaces line) ∙ ap words (nil_from_length (after_spaces line) e)

-- what next_word answers
pub record TakesWord (line : List ℕ) : Type 0 where
  pub words_are : words line ≡ take (word_len (after_spaces line)) (after_spaces line) ∷ words (drop (word_len (after_spaces line)) (after_spaces line))
  pub bound : word_len (after_spaces line) ≤ length (after_spaces line)
  pub shorter : length (drop (word_len (after_spaces line)) (after_spaces line)) < length line

pub takes_word : (line : List ℕ) → 0 < length (after_spaces line) → TakesWord line
takes_word line some = record {
  words_are = sym (words_after_spaces line) ∙ words_split (after_spaces line) some (no_space line some);
  bound = len_bound (after_spaces line) some;
  shorter = omega (arith, length-drop (word_len (after_spaces line)) (after_spaces line), shorter line, word_len_some (after_spaces line) some (no_space line some), len_bound (after_spaces line) some);
}
