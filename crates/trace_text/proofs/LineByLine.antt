-- One line after the other.
use Rattle.std.proofs.Common.{◌≡◌, ℕ, suc, ◌+◌, ◌<◌, ◌^◌, List, [], ◌∷◌, length, Result, Ok, Err, refl, sym, ap, ◌∙◌, arith}
use Rattle.std.proofs.lemmas.List.{nil_from_length}
use Rattle.text_lines.specs.Lines.{lines}
use Rattle.lists.specs.Refused.{read_lines, ok_then}
use Rattle.trace_text.specs.declared.draft.Draft.{Draft}
use Rattle.trace_text.specs.declared.fault.TextFault.{TextFault}
use Rattle.trace_text.specs.declared.fault.TextFault.TheVariants as fault
use Rattle.trace_text.specs.Names.{Names}
use Rattle.trace_text.specs.Faults.{Fails}
use Rattle.trace_text.specs.Draft.{read_line, lines_at, nothing}

-- the rest of the lines, over the traces of the earlier ones
pub record SoFar (names : Names) (total : Result Draft TextFault) (n : ℕ) (rest : List ℕ) (d : Draft) : Type 0 where
  pub same : read_lines (read_line names) n (lines rest) d ≡ total
  pub room : n + length (lines rest) < 2 ^ 32

one_line : (names : Names) (n : ℕ) (rest line others : List ℕ) (d : Draft) → lines rest ≡ line ∷ lines others
    → read_lines (read_line names) n (lines rest) d ≡ ok_then (read_line names n line d) (λ made. read_lines (read_line names) (suc n) (lines others) made)
unfolding read_lines
one_line names n rest line others d split = rw split refl

pub goes_on : (names : Names) (total : Result Draft TextFault) (n : ℕ) (rest line others : List ℕ) (d made : Draft) → SoFar names total n rest d
    → lines rest ≡ line ∷ lines others → read_line names n line d ≡ Ok made → SoFar names total (n + 1) others made
goes_on names total n rest line others d made so_far split e =
    let one : n + 1 ≡ suc n = omega arith in
    let step : read_lines (read_line names) n (lines rest) d ≡ read_lines (read_line names) (suc n) (lines others) made = one_line names n rest line others d split ∙ rw e refl in
    rw one (record { same = sym step ∙ so_far.same; room = omega (arith, so_far.room, ap length split) })

failed : (names : Names) (n : ℕ) (rest line others : List ℕ) (d : Draft) (f : TextFault) → lines rest ≡ line ∷ lines others → read_line names n line d ≡ Err f → read_lines (read_line names) n (lines rest) d ≡ Err f
failed names n rest line others d f split e = one_line names n rest line others d split ∙ rw e refl

pub ends : (names : Names) (e : TextFault) (total : Result Draft TextFault) (n : ℕ) (rest line others : List ℕ) (d : Draft) → SoFar names total n rest d
    → lines rest ≡ line ∷ lines others → Fails e (read_line names n line d) → Fails e total
ends names fault.OutOfMemory total n rest line others d so_far split h = tt
ends names (fault.Table why) total n rest line others d so_far split h = (sym so_far.same ∙ failed names n rest line others d (fault.Table why) split h.0, h.1)
ends names (fault.Syntax k) total n rest line others d so_far split h = sym so_far.same ∙ failed names n rest line others d (fault.Syntax k) split h
ends names (fault.Float k) total n rest line others d so_far split h = sym so_far.same ∙ failed names n rest line others d (fault.Float k) split h
ends names (fault.UnknownOp k) total n rest line others d so_far split h = sym so_far.same ∙ failed names n rest line others d (fault.UnknownOp k) split h
ends names (fault.UnknownDescr k) total n rest line others d so_far split h = sym so_far.same ∙ failed names n rest line others d (fault.UnknownDescr k) split h
ends names (fault.UnknownBox k) total n rest line others d so_far split h = sym so_far.same ∙ failed names n rest line others d (fault.UnknownBox k) split h
ends names (fault.Limit what k) total n rest line others d so_far split h = sym so_far.same ∙ failed names n rest line others d (fault.Limit what k) split h

pub is_done : (names : Names) (total : Result Draft TextFault) (n : ℕ) (rest : List ℕ) (d : Draft) → SoFar names total n rest d → length rest ≡ 0 → total ≡ Ok d
unfolding read_lines lines
is_done names total n rest d so_far e =
    let empty : rest ≡ [] = nil_from_length rest e in
    sym so_far.same ∙ ap (λ (r : List ℕ). read_lines (read_line names) n (lines r) d) empty

pub begins : (names : Names) (text : List ℕ) (first : ℕ) (d : Draft) → first + length (lines text) < 2 ^ 32 → d ≡ nothing → SoFar names (lines_at names first text) first text d
unfolding lines_at
begins names text first d room e = rw e (record { same = refl; room = room })
