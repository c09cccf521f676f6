-- One line after the other.
use Rattle.std.proofs.Common.{◌≡◌, ℕ, suc, ◌+◌, ◌<◌, ◌^◌, List, [], ◌∷◌, length, Result, Ok, Err, refl, sym, ap, ◌∙◌, arith}
use Rattle.std.proofs.lemmas.List.{nil_from_length}
use Rattle.text_lines.specs.Lines.{lines}
use Rattle.lists.specs.Refused.{read_lines, ok_then}
use Rattle.trace_ops.specs.declared.table.Table.{Table}
use Rattle.descr_table.specs.declared.fault.TableFault.{TableFault}
use Rattle.descr_table.specs.declared.fault.TableFault.TheVariants as fault
use Rattle.descr_table.specs.Meaning.{nothing}
use Rattle.descr_table.specs.Reading.{read_line, Fails}
use Rattle.descr_table.specs.Draft.{Few}
use Rattle.descr_table.proofs.Few.{few_line}

abbrev Names : Type 0
Names = List (List ℕ)

-- the rest of the lines, over the table that stands for the earlier ones
pub record SoFar (defined : Names) (total : Result Table TableFault) (n : ℕ) (rest : List ℕ) (t : Table) : Type 0 where
  pub same : read_lines (read_line defined) n (lines rest) t ≡ total
  pub few : Few t n
  pub room : n + length (lines rest) < 2 ^ 32

one_line : (defined : Names) (n : ℕ) (rest line others : List ℕ) (t : Table) → lines rest ≡ line ∷ lines others
    → read_lines (read_line defined) n (lines rest) t ≡ ok_then (read_line defined n line t) (λ made. read_lines (read_line defined) (suc n) (lines others) made)
unfolding read_lines
one_line defined n rest line others t split = rw split refl

pub goes_on : (defined : Names) (total : Result Table TableFault) (n : ℕ) (rest line others : List ℕ) (t made : Table) → SoFar defined total n rest t
    → lines rest ≡ line ∷ lines others → read_line defined n line t ≡ Ok made → SoFar defined total (n + 1) others made
goes_on defined total n rest line others t made so_far split e =
    let one : n + 1 ≡ suc n = omega arith in
    let step : read_lines (read_line defined) n (lines rest) t ≡ read_lines (read_line defined) (suc n) (lines others) made = one_line defined n rest line others t split ∙ rw e refl in
    rw one (record { same = sym step ∙ so_far.same; few = few_line defined n line t made so_far.few e; room = omega (arith, so_far.room, ap length split) })

failed : (defined : Names) (n : ℕ) (rest line others : List ℕ) (t : Table) (f : TableFault) → lines rest ≡ line ∷ lines others → read_line defined n line t ≡ Err f → read_lines (read_line defined) n (lines rest) t ≡ Err f
failed defined n rest line others t f split e = one_line defined n rest line others t split ∙ rw e refl

pub ends : (defined : Names) (e : TableFault) (total : Result Table TableFault) (n : ℕ) (rest line others : List ℕ) (t : Table) → SoFar defined total n rest t
    → lines rest ≡ line ∷ lines others → Fails e (read_line defined n line t) → Fails e total
ends defined fault.OutOfMemory total n rest line others t so_far split h = tt
ends defined (fault.Syntax k) total n rest line others t so_far split h = sym so_far.same ∙ failed defined n rest line others t (fault.Syntax k) split h
ends defined (fault.Twice k) total n rest line others t so_far split h = sym so_far.same ∙ failed defined n rest line others t (fault.Twice k) split h
ends defined (fault.UnknownName k) total n rest line others t so_far split h = sym so_far.same ∙ failed defined n rest line others t (fault.UnknownName k) split h
ends defined (fault.BadInitial k) total n rest line others t so_far split h = sym so_far.same ∙ failed defined n rest line others t (fault.BadInitial k) split h
ends defined (fault.Limit what k) total n rest line others t so_far split h = sym so_far.same ∙ failed defined n rest line others t (fault.Limit what k) split h

pub is_done : (defined : Names) (total : Result Table TableFault) (n : ℕ) (rest : List ℕ) (t : Table) → SoFar defined total n rest t → length rest ≡ 0 → total ≡ Ok t
unfolding read_lines lines
is_done defined total n rest t so_far e =
    let empty : rest ≡ [] = nil_from_length rest e in
    sym so_far.same ∙ ap (λ (r : List ℕ). read_lines (read_line defined) n (lines r) t) empty

pub begins : (defined : Names) (text : List ℕ) (first : ℕ) (t : Table) → first + length (lines text) < 2 ^ 32 → t ≡ nothing → SoFar defined (read_lines (read_line defined) first (lines text) nothing) first text t
begins defined text first t room e = rw e (record { same = refl; few = record { sizes = omega arith; fields = omega arith; arrays = omega arith }; room = room })
