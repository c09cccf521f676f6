-- A line is a merge point exactly where it is spelled so.
use Rattle.std.proofs.Common.{◌≡◌, ℕ, zero, suc, ◌+◌, ◌-◌, Bool, true, false, eqb, List, [], ◌∷◌, ◌++◌, codes, refl, sym, ap, subst, ◌∙◌, arith, append_assoc}
use Rattle.std.specs.Prelude.{◌==◌, ◌&&◌, if◌then◌else◌}
use Rattle.std.specs.Str.{bytes_eq}
use Rattle.std.proofs.lemmas.Bool.{false≢true, ne_eqb, and_parts}
use Rattle.lists.proofs.Bools.{bytes_same}
use Rattle.trace_text.specs.Heading.{closes, is_nil, is_merge}
use Rattle.trace_text.specs.Merging.{Balanced, nothing, a_word, brackets, SpellsMerge, merge_point}

-- ---- one word

not_closed : (d : ℕ) → eqb (suc d) 0 ≡ false
not_closed d = ne_eqb (suc d) 0 (λ e. absurd (omega (arith, e)))

open_step : (d : ℕ) (w : List ℕ) (ws : List (List ℕ)) → bytes_eq w (codes "(") ≡ true → closes (suc d) (w ∷ ws) ≡ closes (suc (suc d)) ws
unfolding closes
open_step d w ws o = let one : suc d + 1 ≡ suc (suc d) = omega arith in rw o (ap (λ n. closes n ws) one)

word_step : (d : ℕ) (w : List ℕ) (ws : List (List ℕ)) → bytes_eq w (codes "(") ≡ false → bytes_eq w (codes ")") ≡ false → closes (suc d) (w ∷ ws) ≡ closes (suc d) ws
unfolding closes
word_step d w ws o c = rw o (rw (not_closed d) (rw c refl))

close_step : (d : ℕ) (ws : List (List ℕ)) → closes (suc d) (codes ")" ∷ ws) ≡ (if d == 0 then is_nil ws else closes d ws)
unfolding closes
close_step d ws =
    let less : suc d - 1 ≡ d = omega arith in
    rw (not_closed d) (ap (λ n. if n == 0 then is_nil ws else closes n ws) less)

deeper : (d : ℕ) (ws : List (List ℕ)) → (if suc d == 0 then is_nil ws else closes (suc d) ws) ≡ closes (suc d) ws
deeper d ws = rw (not_closed d) refl

-- ---- what is spelled so is read

-- balanced words change no depth
passes : (d : ℕ) (ws rest : List (List ℕ)) → Balanced ws → closes (suc d) (ws ++ rest) ≡ closes (suc d) rest
passes d [] rest nothing = refl
passes d (w ∷ ws) rest (a_word o c h) = word_step d w (ws ++ rest) o c ∙ passes d ws rest h
passes d _ rest (brackets {inside} {behind} h g) =
    open_step d (codes "(") ((inside ++ codes ")" ∷ behind) ++ rest) refl
    ∙ ap (closes (suc (suc d))) (append_assoc inside (codes ")" ∷ behind) rest)
    ∙ passes (suc d) inside (codes ")" ∷ (behind ++ rest)) h
    ∙ close_step (suc d) (behind ++ rest)
    ∙ deeper d (behind ++ rest)
    ∙ passes d behind rest g

pub merge_back : (ws : List (List ℕ)) → SpellsMerge ws → is_merge ws ≡ true
unfolding is_merge closes
merge_back _ (merge_point {inside} h) = passes 0 inside (codes ")" ∷ []) h

-- ---- what is read is spelled so

-- so many brackets close, the last one at the end, with balanced words in front of each
abbrev Closing : ℕ → List (List ℕ) → Type 0
Closing zero ws = ws ≡ []
Closing (suc d) ws =
    (inside : List (List ℕ)) × (behind : List (List ℕ)) × Balanced inside × (ws ≡ inside ++ codes ")" ∷ behind) × Closing d behind

opened : (d : ℕ) (ws : List (List ℕ)) → Closing (suc (suc d)) ws → Closing (suc d) (codes "(" ∷ ws)
opened d ws (inside, behind, h, same, (next, rest, g, e, more)) = (
  codes "(" ∷ (inside ++ codes ")" ∷ next),
  rest,
  brackets h g,
  ap (λ x. codes "(" ∷ x) (same ∙ ap (λ x. inside ++ codes ")" ∷ x) e ∙ sym (append_assoc inside (codes ")" ∷ next) (codes ")" ∷ rest))),
  more,
)

passed : (d : ℕ) (w : List ℕ) (ws : List (List ℕ)) → bytes_eq w (codes "(") ≡ false → bytes_eq w (codes ")") ≡ false → Closing (suc d) ws → Closing (suc d) (w ∷ ws)
passed d w ws o c (inside, behind, h, same, more) = (w ∷ inside, behind, a_word o c h, ap (λ x. w ∷ x) same, more)

nil_of : (ws : List (List ℕ)) → is_nil ws ≡ true → ws ≡ []
nil_of [] h = refl
nil_of (w ∷ ws) h = absurd (false≢true h)

closed : (d : ℕ) (ws : List (List ℕ)) → ((n : ℕ) → closes (suc n) ws ≡ true → Closing (suc n) ws) → (if d == 0 then is_nil ws else closes d ws) ≡ true → Closing (suc d) (codes ")" ∷ ws)
closed zero ws more h = ([], ws, nothing, refl, nil_of ws h)
closed (suc d) ws more h = ([], ws, nothing, refl, more d (sym (deeper d ws) ∙ h))

by_word : (d : ℕ) (w : List ℕ) (ws : List (List ℕ)) → ((n : ℕ) → closes (suc n) ws ≡ true → Closing (suc n) ws) → (o c : Bool) → bytes_eq w (codes "(") ≡ o → bytes_eq w (codes ")") ≡ c → closes (suc d) (w ∷ ws) ≡ true → Closing (suc d) (w ∷ ws)
by_word d w ws more true c e f h =
    subst (λ x. Closing (suc d) (x ∷ ws)) (sym (bytes_same w (codes "(") e)) (opened d ws (more (suc d) (sym (open_step d w ws e) ∙ h)))
by_word d w ws more false true e f h =
    let is = bytes_same w (codes ")") f in
    subst (λ x. Closing (suc d) (x ∷ ws)) (sym is) (closed d ws more (sym (close_step d ws) ∙ subst (λ x. closes (suc d) (x ∷ ws) ≡ true) is h))
by_word d w ws more false false e f h = passed d w ws e f (more d (sym (word_step d w ws e f) ∙ h))

closing : (d : ℕ) (ws : List (List ℕ)) → closes (suc d) ws ≡ true → Closing (suc d) ws
unfolding closes
closing d [] h = absurd (false≢true h)
closing d (w ∷ ws) h =
    by_word d w ws (λ n. closing n ws) (bytes_eq w (codes "(")) (bytes_eq w (codes ")")) refl refl h

-- the first bracket opens
begins : (w : List ℕ) (ws : List (List ℕ)) (o : Bool) → bytes_eq w (codes "(") ≡ o → closes 0 (w ∷ ws) ≡ true → (w ≡ codes "(") × Closing 1 ws
unfolding closes
begins w ws true e h = (bytes_same w (codes "(") e, closing 0 ws (sym (rw e refl) ∙ h))
begins w ws false e h = absurd (false≢true (sym (rw e refl) ∙ h))

merged : (w : List ℕ) (rest : List (List ℕ)) → bytes_eq w (codes "debug_merge_point") ≡ true → closes 0 rest ≡ true → SpellsMerge (w ∷ rest)
unfolding closes
merged w [] e h = absurd (false≢true h)
merged w (v ∷ vs) e h =
    let first = begins v vs (bytes_eq v (codes "(")) refl h in
    let (inside, behind, balanced, same, none) = first.1 in
    let all : w ∷ v ∷ vs ≡ codes "debug_merge_point" ∷ codes "(" ∷ (inside ++ codes ")" ∷ []) = ap (λ x. x ∷ v ∷ vs) (bytes_same w (codes "debug_merge_point") e) ∙ ap (λ x. codes "debug_merge_point" ∷ x ∷ vs) first.0 ∙ ap (λ x. codes "debug_merge_point" ∷ codes "(" ∷ x) (same ∙ ap (λ x. inside ++ codes ")" ∷ x) none) in
    subst SpellsMerge (sym all) (merge_point balanced)

pub merge_again : (ws : List (List ℕ)) → is_merge ws ≡ true → SpellsMerge ws
unfolding is_merge
merge_again [] h = absurd (false≢true h)
merge_again (w ∷ ws) h = let both = and_parts (bytes_eq w (codes "debug_merge_point")) (closes 0 ws) h in merged w ws both.0 both.1
