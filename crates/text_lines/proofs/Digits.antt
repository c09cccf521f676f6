-- One digit after the other.
use Rattle.std.proofs.Common.{◌≡◌, ℕ, suc, ◌+◌, ◌*◌, ◌-◌, ◌<◌, ◌≤◌, Bool, true, false, leb, List, [], ◌∷◌, length, get_or, drop, Option, Some, None, refl, sym, ap, ◌∙◌, arith, drop-cons, add-one}
use Rattle.std.specs.Prelude.{◌&&◌}
use Rattle.std.specs.List.{list_all}
use Rattle.std.proofs.Math.ListN.{drop_of_length-le}
use Rattle.std.proofs.lemmas.Bool.Decides.{nat_tests}
use Rattle.text_lines.specs.Words.{is_digit}
use Rattle.lists.specs.Binds.{◌>>=◌}
use Rattle.text_lines.specs.Numbers.{value_behind, add_digit, decimal_behind, decimal_of}

-- more digits make no smaller number
value_behind-grows : (n : ℕ) (cs : List ℕ) → n ≤ value_behind n cs
value_behind-grows n [] = omega arith
value_behind-grows n (c ∷ cs) = omega (arith, value_behind-grows (n * 10 + (c - 48)) cs)

too_much : (a b : Bool) → b ≡ false → (a && b) ≡ false
too_much true b e = e
too_much false b e = refl

above : (limit m v : ℕ) → leb m limit ≡ false → m ≤ v → leb v limit ≡ false
above limit m v e le = grind (arith, nat_tests)

by_digit : (b d : Bool) (limit n c : ℕ) (cs : List ℕ) → is_digit c ≡ b → leb (n * 10 + (c - 48)) limit ≡ d
    → decimal_behind limit n (c ∷ cs) ≡ (add_digit limit n c >>= λ m. decimal_behind limit m cs)
unfolding decimal_behind add_digit
by_digit false d limit n c cs e h = rw e refl
by_digit true true limit n c cs e h = rw (e, h) refl
by_digit true false limit n c cs e h =
    let over : leb (value_behind (n * 10 + (c - 48)) cs) limit ≡ false = above limit (n * 10 + (c - 48)) (value_behind (n * 10 + (c - 48)) cs) h (value_behind-grows (n * 10 + (c - 48)) cs) in
    let none : (list_all is_digit cs && leb (value_behind (n * 10 + (c - 48)) cs) limit) ≡ false = too_much (list_all is_digit cs) (leb (value_behind (n * 10 + (c - 48)) cs) limit) over in
    rw (e, h, none) refl

step : (limit n i : ℕ) (cs : List ℕ) → i < length cs → decimal_behind limit n (drop i cs) ≡ (add_digit limit n (get_or cs i 0) >>= λ m. decimal_behind limit m (drop (i + 1) cs))
step limit n i cs lt = rw (drop-cons cs i 0, add-one) (by_digit (is_digit (get_or cs i 0)) (leb (n * 10 + (get_or cs i 0 - 48)) limit) limit n (get_or cs i 0) (drop (suc i) cs) refl refl)

pub goes_on : (limit n m i : ℕ) (cs : List ℕ) (total : Option ℕ) → i < length cs → add_digit limit n (get_or cs i 0) ≡ Some m → decimal_behind limit n (drop i cs) ≡ total → decimal_behind limit m (drop (i + 1) cs) ≡ total
goes_on limit n m i cs total lt e so_far = sym (step limit n i cs lt ∙ rw e refl) ∙ so_far

pub stops : (limit n i : ℕ) (cs : List ℕ) (total : Option ℕ) → i < length cs → add_digit limit n (get_or cs i 0) ≡ None → decimal_behind limit n (drop i cs) ≡ total → total ≡ None
stops limit n i cs total lt e so_far = sym so_far ∙ step limit n i cs lt ∙ rw e refl

at_end : (limit n : ℕ) → n ≤ limit → decimal_behind limit n [] ≡ Some n
unfolding decimal_behind
at_end limit n le = let yes : leb n limit ≡ true = grind (arith, nat_tests) in rw yes refl

pub is_done : (limit n i : ℕ) (cs : List ℕ) (total : Option ℕ) → length cs ≤ i → n ≤ limit → decimal_behind limit n (drop i cs) ≡ total → total ≡ Some n
is_done limit n i cs total le small so_far = sym so_far ∙ ap (decimal_behind limit n) (drop_of_length-le cs le) ∙ at_end limit n small

pub decimal_some : (limit : ℕ) (word : List ℕ) → 0 < length word → decimal_of limit word ≡ decimal_behind limit 0 word
unfolding decimal_of
decimal_some limit [] h = absurd (omega arith)
decimal_some limit (c ∷ cs) h = refl

pub decimal_none : (limit : ℕ) (word : List ℕ) → length word ≡ 0 → decimal_of limit word ≡ None
unfolding decimal_of
decimal_none limit [] h = refl
decimal_none limit (c ∷ cs) h = absurd (omega arith)
