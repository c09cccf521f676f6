-- Cutting a text in front of a line.
use Rattle.std.proofs.Common.{◌≡◌, ℕ, suc, ◌+◌, ◌-◌, ◌≤◌, min, Bool, true, false, List, [], ◌∷◌, length, take, drop, refl, sym, ap, ◌∙◌, arith, inl, inr, ◌⊎◌, length-drop}
use Rattle.std.proofs.lemmas.List.{nil_from_length, drop-drop}
use Rattle.std.proofs.Math.ListN.{drop_of_length-le}
use Rattle.std.proofs.Math.Seq.{take-length}
use Rattle.std.proofs.lemmas.Bool.{cases_lt}
use Rattle.std.specs.List.{position_or_len}
use Rattle.lists.proofs.Numbers.{one_more}
use Rattle.text_lines.specs.Lines.{lines}
use Rattle.trace_text.specs.Sections.{bytes_before, place_of, lines_before}

abbrev Test : Type 0
Test = List ℕ → Bool

-- no line before the rest passes the test
pub record IsCut (test : Test) (text rest : List ℕ) (n : ℕ) : Type 0 where
  pub bound : length rest ≤ length text
  pub suffix : rest ≡ drop (length text - length rest) text
  pub place : min (bytes_before test (length text - length rest) (lines rest)) (length text) ≡ place_of test text
  pub count : n + position_or_len test (lines rest) ≡ lines_before test text
  pub room : n + length (lines rest) ≡ length (lines text)

none_left : (n : ℕ) → n - n ≡ 0
none_left n = omega arith

pub begins : (test : Test) (text : List ℕ) → IsCut test text text 0
begins test text = record {
  bound = omega arith;
  suffix = rw (none_left (length text)) refl;
  place = rw (none_left (length text)) refl;
  count = omega arith;
  room = omega arith;
}

passed : (test : Test) (k : ℕ) (l : List ℕ) (ls : List (List ℕ)) → test l ≡ false → bytes_before test k (l ∷ ls) ≡ bytes_before test (k + (length l + 1)) ls
unfolding bytes_before
passed test k l ls e = rw e refl

place_passed : (test : Test) (l : List ℕ) (ls : List (List ℕ)) → test l ≡ false → position_or_len test (l ∷ ls) ≡ suc (position_or_len test ls)
place_passed test l ls e = rw e (one_more (position_or_len test ls))

place_met : (test : Test) (l : List ℕ) (ls : List (List ℕ)) → test l ≡ true → position_or_len test (l ∷ ls) ≡ 0
place_met test l ls e = rw e refl

met : (test : Test) (k : ℕ) (l : List ℕ) (ls : List (List ℕ)) → test l ≡ true → bytes_before test k (l ∷ ls) ≡ k
unfolding bytes_before
met test k l ls e = rw e refl

no_bytes : (test : Test) (k : ℕ) (rest : List ℕ) → length rest ≡ 0 → bytes_before test k (lines rest) ≡ k
unfolding bytes_before lines
no_bytes test k rest e = ap (λ (r : List ℕ). bytes_before test k (lines r)) (nil_from_length rest e)

pub no_lines : (rest : List ℕ) → length rest ≡ 0 → lines rest ≡ []
unfolding lines
no_lines rest e = ap lines (nil_from_length rest e)

-- the line and its feed, or the last line without one
split_len : (r l : ℕ) → l ≤ r → (l + 1 ≤ r) ⊎ (r ≡ l)
split_len r l le = elim (cases_lt l r) [ inl lt ↦ inl (omega arith) | inr ge ↦ inr (omega arith) ]

pub goes_on : (test : Test) (text rest line after : List ℕ) (n : ℕ) → IsCut test text rest n → lines rest ≡ line ∷ lines after → after ≡ drop (length line + 1) rest → length line ≤ length rest → test line ≡ false → IsCut test text after (n + 1)
goes_on test text rest line after n h split behind within fails =
    let len : length after ≡ length rest - (length line + 1) = ap length behind ∙ length-drop (length line + 1) rest in
    let count : n + 1 + position_or_len test (lines after) ≡ lines_before test text =
    let same : position_or_len test (lines rest) ≡ suc (position_or_len test (lines after)) = ap (position_or_len test) split ∙ place_passed test line (lines after) fails in
    omega (arith, h.count, same) in
    let room : n + 1 + length (lines after) ≡ length (lines text) = omega (arith, h.room, ap length split) in
    let joined : after ≡ drop (length text - length rest + (length line + 1)) text = behind ∙ ap (drop (length line + 1)) h.suffix ∙ drop-drop (length line + 1) (length text - length rest) text in
    let onward : bytes_before test (length text - length rest) (lines rest) ≡ bytes_before test (length text - length rest + (length line + 1)) (lines after) = ap (bytes_before test (length text - length rest)) split ∙ passed test (length text - length rest) line (lines after) fails in
    elim (split_len (length rest) (length line) within) [
      | inl lt ↦
          let at : length text - length rest + (length line + 1) ≡ length text - length after = omega (arith, len, h.bound, lt) in
          record {
            bound = omega (arith, len, h.bound);
            suffix = joined ∙ ap (λ k. drop k text) at;
            place = ap (λ k. min (bytes_before test k (lines after)) (length text)) (sym at) ∙ ap (λ k. min k (length text)) (sym onward) ∙ h.place;
            count = count;
            room = room;
          }
      | inr is ↦
          let none : length after ≡ 0 = omega (arith, len, is) in
          let past : bytes_before test (length text - length rest + (length line + 1)) (lines after) ≡ length text - length rest + (length line + 1) = no_bytes test _ after none in
          let end : bytes_before test (length text - length after) (lines after) ≡ length text - length after = no_bytes test _ after none in
          let all : min (length text - length after) (length text) ≡ min (length text - length rest + (length line + 1)) (length text) = omega (arith, none, is, h.bound) in
          record {
            bound = omega (arith, none);
            suffix = nil_from_length after none ∙ sym (drop_of_length-le text (omega (arith, none)));
            place = ap (λ k. min k (length text)) end ∙ all ∙ ap (λ k. min k (length text)) (sym past) ∙ ap (λ k. min k (length text)) (sym onward) ∙ h.place;
            count = count;
            room = room;
          }
    ]

-- where the cut is
pub record CutsAt (test : Test) (text : List ℕ) (at n : ℕ) : Type 0 where
  pub place : at ≡ place_of test text
  pub count : n ≡ lines_before test text

pub at_line : (test : Test) (text rest line after : List ℕ) (n : ℕ) → IsCut test text rest n → lines rest ≡ line ∷ lines after → test line ≡ true → CutsAt test text (length text - length rest) n
at_line test text rest line after n h split meets =
    let here : bytes_before test (length text - length rest) (lines rest) ≡ length text - length rest = ap (bytes_before test (length text - length rest)) split ∙ met test (length text - length rest) line (lines after) meets in
    let small : min (length text - length rest) (length text) ≡ length text - length rest = omega arith in
    let zero_more : position_or_len test (lines rest) ≡ 0 = ap (position_or_len test) split ∙ place_met test line (lines after) meets in
    record {
      place = sym small ∙ ap (λ k. min k (length text)) (sym here) ∙ h.place;
      count = omega (arith, h.count, zero_more);
    }

pub at_end : (test : Test) (text rest : List ℕ) (n : ℕ) → IsCut test text rest n → length rest ≡ 0 → CutsAt test text (length text) n
at_end test text rest n h none =
    let here : bytes_before test (length text - length rest) (lines rest) ≡ length text - length rest = no_bytes test _ rest none in
    let all : length text ≡ min (length text - length rest) (length text) = omega (arith, none) in
    let zero_more : position_or_len test (lines rest) ≡ 0 = ap (position_or_len test) (no_lines rest none) in
    record {
      place = all ∙ ap (λ k. min k (length text)) (sym here) ∙ h.place;
      count = omega (arith, h.count, zero_more);
    }

pub front_whole : (text : List ℕ) (k : ℕ) → length text ≡ k → text ≡ take k text
front_whole text k e = sym (take-length text) ∙ ap (λ n. take n text) e

pub back_whole : (text : List ℕ) (k : ℕ) → length text ≡ k → [] ≡ drop k text
back_whole text k e = sym (drop_of_length-le text (omega (arith, e)))
