-- What lines and words leave out, and what they are.
use Rattle.std.proofs.Common.{◌≡◌, ℕ, Bool, true, false, cond, eqb, List, [], ◌∷◌, ◌++◌, refl, sym, ap, ◌∙◌, inl, inr, ◌⊎◌}
use Rattle.std.specs.Prelude.{◌||◌, ◌&&◌, not, filter}
use Rattle.std.specs.List.{AllByRecursion, flat_map, list_all}
use Rattle.std.proofs.lemmas.Bool.{and_from, and_parts, eqb-true}
use Rattle.text_lines.specs.Lines.{in_front, lines}
use Rattle.text_lines.specs.Words.{words, is_mark, is_word_byte, begins_word}
use Rattle.text_lines.specs.Cut.{joined, HasNoFeed, IsToken}
use Rattle.text_lines.proofs.WordLaws.{no_space_in_word}

-- ---- lines

joined-in_front : (c : ℕ) (x : List ℕ) (xs : List (List ℕ)) → joined (in_front c (x ∷ xs)) ≡ c ∷ joined (x ∷ xs)
joined-in_front c x xs = refl

-- a text that isn't empty has a line
pub record HasLine (ls : List (List ℕ)) : Type 0 where
  pub first : List ℕ
  pub more : List (List ℕ)
  pub are : ls ≡ first ∷ more

in_front_has : (c : ℕ) (ls : List (List ℕ)) → HasLine (in_front c ls)
in_front_has c [] = record { first = c ∷ []; more = []; are = refl }
in_front_has c (x ∷ xs) = record { first = c ∷ x; more = xs; are = refl }

has_line_by : (b : Bool) (c : ℕ) (ls : List (List ℕ)) → HasLine (cond b ([] ∷ ls) (in_front c ls))
has_line_by true c ls = record { first = []; more = ls; are = refl }
has_line_by false c ls = in_front_has c ls

has_line : (c : ℕ) (cs : List ℕ) → HasLine (lines (c ∷ cs))
unfolding lines
has_line c cs = has_line_by (eqb c 10) c (lines cs)

abbrev Joins : List ℕ → List (List ℕ) → Type 0
Joins text ls = (joined ls ≡ text) ⊎ (joined ls ≡ text ++ 10 ∷ [])

one_byte : (c : ℕ) (d : ℕ) (ds : List ℕ) (ls : List (List ℕ)) → HasLine ls → Joins (d ∷ ds) ls → Joins (c ∷ d ∷ ds) (in_front c ls)
one_byte c d ds ls h j =
    let e : joined (in_front c ls) ≡ c ∷ joined ls = ap (λ (x : List (List ℕ)). joined (in_front c x)) h.are ∙ joined-in_front c h.first h.more ∙ ap (λ (x : List (List ℕ)). c ∷ joined x) (sym h.are) in
    elim j [ inl i ↦ inl (e ∙ ap (λ (x : List ℕ). c ∷ x) i) | inr i ↦ inr (e ∙ ap (λ (x : List ℕ). c ∷ x) i) ]

one_feed : (c : ℕ) (cs : List ℕ) (ls : List (List ℕ)) → c ≡ 10 → Joins cs ls → Joins (c ∷ cs) ([] ∷ ls)
one_feed c cs ls e j =
    let at : 10 ≡ c = sym e in
    elim j [ inl i ↦ inl (ap (λ (x : List ℕ). 10 ∷ x) i ∙ ap (λ n. n ∷ cs) at) | inr i ↦ inr (ap (λ (x : List ℕ). 10 ∷ x) i ∙ ap (λ n. n ∷ (cs ++ 10 ∷ [])) at) ]

joins_by : (b : Bool) (c : ℕ) (cs : List ℕ) → eqb c 10 ≡ b → Joins cs (lines cs) → Joins (c ∷ cs) (cond b ([] ∷ lines cs) (in_front c (lines cs)))
unfolding lines
joins_by true c cs e j = one_feed c cs (lines cs) (eqb-true c 10 e) j
joins_by false c [] e j = inr refl
joins_by false c (d ∷ ds) e j = one_byte c d ds (lines (d ∷ ds)) (has_line d ds) j

pub lines_joined : (text : List ℕ) → (joined (lines text) ≡ text) ⊎ (joined (lines text) ≡ text ++ 10 ∷ [])
unfolding lines
lines_joined [] = inl refl
lines_joined (c ∷ cs) = joins_by (eqb c 10) c cs refl (lines_joined cs)

no_feed_in_front : (c : ℕ) (ls : List (List ℕ)) → eqb c 10 ≡ false → AllByRecursion HasNoFeed ls → AllByRecursion HasNoFeed (in_front c ls)
no_feed_in_front c [] e h = (rw e refl, tt)
no_feed_in_front c (x ∷ xs) e h = (rw e h.0, h.1)

no_feed_by : (b : Bool) (c : ℕ) (ls : List (List ℕ)) → eqb c 10 ≡ b → AllByRecursion HasNoFeed ls → AllByRecursion HasNoFeed (cond b ([] ∷ ls) (in_front c ls))
no_feed_by true c ls e h = (refl, h)
no_feed_by false c ls e h = no_feed_in_front c ls e h

pub lines_without_feed : (text : List ℕ) → AllByRecursion HasNoFeed (lines text)
unfolding lines
lines_without_feed [] = tt
lines_without_feed (c ∷ cs) = no_feed_by (eqb c 10) c (lines cs) refl (lines_without_feed cs)

-- ---- words

abbrev all_of : List (List ℕ) → List ℕ
all_of ws = flat_map (λ w. w) ws

all_in_front : (c : ℕ) (ws : List (List ℕ)) → all_of (in_front c ws) ≡ c ∷ all_of ws
all_in_front c [] = refl
all_in_front c (w ∷ ws) = refl

keep_by : (a b : Bool) (c : ℕ) (ws : List (List ℕ)) (rest : List ℕ) → all_of ws ≡ rest → all_of (cond a ws (cond b (in_front c ws) ((c ∷ []) ∷ ws))) ≡ cond (not a) (c ∷ rest) rest
keep_by true b c ws rest e = e
keep_by false true c ws rest e = all_in_front c ws ∙ ap (λ (x : List ℕ). c ∷ x) e
keep_by false false c ws rest e = ap (λ (x : List ℕ). c ∷ x) e

pub words_keep : (line : List ℕ) → flat_map (λ w. w) (words line) ≡ filter (λ c. not (eqb c 32)) line
unfolding words
words_keep [] = refl
words_keep (c ∷ cs) = keep_by (eqb c 32) (is_word_byte c && begins_word cs) c (words cs) (filter (λ x. not (eqb x 32)) cs) (words_keep cs)

-- the first word has bytes of a word
abbrev BeginsWith : List (List ℕ) → Type 0
BeginsWith [] = ⊥
BeginsWith (w ∷ ws) = list_all is_word_byte w ≡ true

begins_in_front : (c : ℕ) (ws : List (List ℕ)) → is_word_byte c ≡ true → BeginsWith ws → BeginsWith (in_front c ws)
begins_in_front c [] e h = absurd h
begins_in_front c (w ∷ ws) e h = and_from (is_word_byte c) (list_all is_word_byte w) e h

begins_by : (b : Bool) (c : ℕ) (ws : List (List ℕ)) → is_word_byte c ≡ true → (b ≡ true → BeginsWith ws) → BeginsWith (cond (true && b) (in_front c ws) ((c ∷ []) ∷ ws))
begins_by true c ws e h = begins_in_front c ws e (h refl)
begins_by false c ws e h = and_from (is_word_byte c) true e refl

words_begin : (line : List ℕ) → begins_word line ≡ true → BeginsWith (words line)
unfolding words
words_begin [] e = absurd cc
words_begin (c ∷ cs) e = rw (no_space_in_word c e, e) (begins_by (begins_word cs) c (words cs) e (words_begin cs))

mark_by : (a m : Bool) → a ≡ false → not (a || m) ≡ false → m ≡ true
mark_by true m e h = absurd cc
mark_by false true e h = refl
mark_by false false e h = absurd cc

alone_by : (b : Bool) (c : ℕ) → is_word_byte c ≡ b → eqb c 32 ≡ false → IsToken (c ∷ [])
unfolding is_word_byte
alone_by true c e s = inl (rw e refl)
alone_by false c e s = inr (c, mark_by (eqb c 32) (is_mark c) s e, refl)

token_in_front : (c : ℕ) (ws : List (List ℕ)) → is_word_byte c ≡ true → BeginsWith ws → AllByRecursion IsToken ws → AllByRecursion IsToken (in_front c ws)
token_in_front c [] e b h = absurd b
token_in_front c (w ∷ ws) e b h = (inl (and_from (is_word_byte c) (list_all is_word_byte w) e b), h.1)

tokens_by : (a b : Bool) (c : ℕ) (cs : List ℕ) → eqb c 32 ≡ a → (is_word_byte c && begins_word cs) ≡ b → AllByRecursion IsToken (words cs) → AllByRecursion IsToken (cond a (words cs) (cond b (in_front c (words cs)) ((c ∷ []) ∷ words cs)))
tokens_by true b c cs s e h = h
tokens_by false true c cs s e h = let p = and_parts (is_word_byte c) (begins_word cs) e in token_in_front c (words cs) p.0 (words_begin cs p.1) h
tokens_by false false c cs s e h = (alone_by (is_word_byte c) c refl s, h)

pub words_are_tokens : (line : List ℕ) → AllByRecursion IsToken (words line)
unfolding words
words_are_tokens [] = tt
words_are_tokens (c ∷ cs) = tokens_by (eqb c 32) (is_word_byte c && begins_word cs) c cs refl refl (words_are_tokens cs)
