-- One line after the other.
use Rattle.std.proofs.Common.{◌≡◌, ℕ, suc, ◌+◌, ◌<◌, ◌^◌, List, [], ◌∷◌, length, Result, Ok, Err, refl, sym, ap, subst, ◌∙◌, arith}
use Rattle.std.proofs.lemmas.List.{nil_from_length}
use Rattle.text_lines.specs.Lines.{lines}
use Rattle.lists.specs.Refused.{read_lines, ok_then}
use Rattle.trace_ops.specs.declared.trace.TraceSet.{TraceSet}
use Rattle.session_text.specs.declared.fault.SessionFault.{SessionFault}
use Rattle.session_text.specs.declared.fault.SessionFault.TheVariants as fault
use Rattle.session_text.specs.declared.session.SessionText.{SessionText}
use Rattle.session_text.specs.Faults.{Fails}
use Rattle.session_text.specs.Fits.{starts_behind, LinesFit, FitsSet}
use Rattle.session_text.specs.Names.{Names, names_of}
use Rattle.session_text.specs.Reading.{nothing, read_line, lines_at}
use Rattle.session_text.proofs.FitLine.{fits_line}
use Rattle.text_lines.specs.Laws.{LinesAreSpelled}

-- the rest of the lines, over the session of the earlier ones
pub record SoFar (set : TraceSet) (total : Result SessionText SessionFault) (n : ℕ) (rest : List ℕ) (s : SessionText) : Type 0 where
  pub same : read_lines (read_line (names_of set) set) n (lines rest) s ≡ total
  pub fits : FitsSet set s
  pub room : n + length (lines rest) < 2 ^ 32

one_line : (set : TraceSet) (n : ℕ) (rest line others : List ℕ) (s : SessionText) → lines rest ≡ line ∷ lines others
    → read_lines (read_line (names_of set) set) n (lines rest) s ≡ ok_then (read_line (names_of set) set n line s) (λ made. read_lines (read_line (names_of set) set) (suc n) (lines others) made)
unfolding read_lines
one_line set n rest line others s split = rw split refl

pub goes_on : (spelled : LinesAreSpelled) (set : TraceSet) (names : Names) (total : Result SessionText SessionFault) (n : ℕ) (rest line others : List ℕ) (s made : SessionText) → names ≡ names_of set → SoFar set total n rest s
    → lines rest ≡ line ∷ lines others → read_line names set n line s ≡ Ok made → SoFar set total (n + 1) others made
goes_on spelled set names total n rest line others s made are so_far split read =
    let e : read_line (names_of set) set n line s ≡ Ok made = subst (λ (x : Names). read_line x set n line s ≡ Ok made) are read in
    let one : n + 1 ≡ suc n = omega arith in
    let go : read_lines (read_line (names_of set) set) n (lines rest) s ≡ read_lines (read_line (names_of set) set) (suc n) (lines others) made = one_line set n rest line others s split ∙ rw e refl in
    rw one (record { same = sym go ∙ so_far.same; fits = fits_line spelled set n line s made so_far.fits e; room = omega (arith, so_far.room, ap length split) })

failed : (set : TraceSet) (n : ℕ) (rest line others : List ℕ) (s : SessionText) (f : SessionFault) → lines rest ≡ line ∷ lines others → read_line (names_of set) set n line s ≡ Err f → read_lines (read_line (names_of set) set) n (lines rest) s ≡ Err f
failed set n rest line others s f split e = one_line set n rest line others s split ∙ rw e refl

ends_by : (set : TraceSet) (e : SessionFault) (total : Result SessionText SessionFault) (n : ℕ) (rest line others : List ℕ) (s : SessionText) → SoFar set total n rest s
    → lines rest ≡ line ∷ lines others → Fails e (read_line (names_of set) set n line s) → Fails e total
ends_by set fault.OutOfMemory total n rest line others s so_far split h = tt
ends_by set (fault.SessionBad k reason) total n rest line others s so_far split h = sym so_far.same ∙ failed set n rest line others s (fault.SessionBad k reason) split h
ends_by set (fault.Limit what k) total n rest line others s so_far split h = sym so_far.same ∙ failed set n rest line others s (fault.Limit what k) split h

pub ends : (set : TraceSet) (names : Names) (e : SessionFault) (total : Result SessionText SessionFault) (n : ℕ) (rest line others : List ℕ) (s : SessionText) → names ≡ names_of set → SoFar set total n rest s
    → lines rest ≡ line ∷ lines others → Fails e (read_line names set n line s) → Fails e total
ends set names e total n rest line others s are so_far split h = ends_by set e total n rest line others s so_far split (subst (λ (x : Names). Fails e (read_line x set n line s)) are h)

pub is_done : (set : TraceSet) (total : Result SessionText SessionFault) (n : ℕ) (rest : List ℕ) (s : SessionText) → SoFar set total n rest s → length rest ≡ 0 → total ≡ Ok s
unfolding read_lines lines
is_done set total n rest s so_far e =
    let empty : rest ≡ [] = nil_from_length rest e in
    sym so_far.same ∙ ap (λ (r : List ℕ). read_lines (read_line (names_of set) set) n (lines r) s) empty

nothing_fits : (set : TraceSet) → FitsSet set nothing
unfolding LinesFit starts_behind
nothing_fits set = record { lines = tt; names = refl; are_names = tt; short_names = tt; few_lines = omega arith; few_starts = omega arith }

pub begins : (set : TraceSet) (text : List ℕ) (first : ℕ) (s : SessionText) → first + length (lines text) < 2 ^ 32 → s ≡ nothing → SoFar set (lines_at (names_of set) set first text) first text s
unfolding lines_at
begins set text first s room e = rw e (record { same = refl; fits = nothing_fits set; room = room })
