-- The names that lines define.
use Rattle.std.proofs.Common.{◌≡◌, ℕ, suc, ◌+◌, ◌<◌, ◌≤◌, ◌^◌, Bool, true, false, cond, List, [], ◌∷◌, ◌++◌, length, Option, Some, None, sym, ap, ◌∙◌, arith, length-append}
use Rattle.std.proofs.lemmas.List.{nil_from_length}
use Rattle.text_lines.specs.Lines.{lines}
use Rattle.text_lines.specs.Names.{has_name}
use Rattle.text_lines.specs.Reading.{said}
use Rattle.descr_table.specs.Form.{form_at}
use Rattle.descr_table.specs.Reading.{with_defined, defined_name, defined_behind, defined_in}

abbrev Names : Type 0
Names = List (List ℕ)

pub ended : (names total : Names) (rest : List ℕ) → defined_behind names (lines rest) ≡ total → length rest ≡ 0 → names ≡ total
unfolding defined_behind lines
ended names total rest so_far e =
    let empty : rest ≡ [] = nil_from_length rest e in
    sym (ap (λ (r : List ℕ). defined_behind names (lines r)) empty) ∙ so_far

one_more : (b : Bool) (name : List ℕ) (names : Names) → length (cond b names (names ++ name ∷ [])) ≤ suc (length names)
one_more true name names = omega arith
one_more false name names = omega (arith, length-append names (name ∷ []))

one_line : (o : Option (List ℕ)) (names : Names) → length (with_defined o names) ≤ suc (length names)
one_line None names = omega arith
one_line (Some name) names = one_more (has_name name names) name names

length-defined_behind : (ls : Names) (names : Names) → length (defined_behind names ls) ≤ length names + length ls
unfolding defined_behind
length-defined_behind [] names = omega arith
length-defined_behind (l ∷ ls) names = omega (arith, length-defined_behind ls (with_defined (defined_name (said form_at l)) names), one_line (defined_name (said form_at l)) names)

pub few_defined : (text : List ℕ) (defined : Names) (first : ℕ) → defined ≡ defined_in text → first + length (lines text) < 2 ^ 32 → length defined < 2 ^ 32
few_defined text defined first e room = omega (arith, ap length e, length-defined_behind (lines text) [])
