-- An input that can be answered has no cause of a refusal but want of memory.
use Rattle.std.proofs.Common.{◌≡◌, ◌⊎◌, ℕ, ◌≤◌, List, Option, Some, None, Ok, Err, refl, sym, ap, subst, ◌∙◌, arith, inl, inr}
use Rattle.std.specs.Prelude.{Result}
use Rattle.trace_ops.specs.declared.trace.TraceSet.{TraceSet}
use Rattle.trace_ops.specs.WellFormed.{IsWellFormed}
use Rattle.descr_table.specs.declared.fault.TableFault.{TableFault}
use Rattle.trace_text.specs.declared.fault.TextFault.{TextFault}
use Rattle.trace_text.specs.declared.fault.TextFault.TheVariants as text
use Rattle.trace_text.specs.Faults.{Fails}
use Rattle.trace_text.specs.Sections.{set_at, session_part}
use Rattle.trace_check.specs.declared.fault.CheckFault.{CheckFault}
use Rattle.trace_check.specs.declared.fault.CheckFault.TheVariants as check
use Rattle.trace_check.specs.Faults.{HasCause, IsChecked, IsLeastFault}
use Rattle.session_text.specs.declared.session.SessionText.{SessionText}
use Rattle.session_text.specs.declared.fault.SessionFault.{SessionFault}
use Rattle.session_text.specs.declared.fault.SessionFault.TheVariants as session
use Rattle.session_text.specs.Faults as lines
use Rattle.tj_app.specs.declared.unbuilt.Unbuilt.{Unbuilt}
use Rattle.tj_app.specs.declared.words.Command.{Command}
use Rattle.tj_app.specs.declared.words.Command.TheVariants.{Check, Opt, Image, Run, Gen}
use Rattle.tj_app.specs.declared.refusal.Fault.{Fault}
use Rattle.tj_app.specs.declared.refusal.Fault.TheVariants as fault
use Rattle.tj_app.specs.Checking.{StandsFor, IsBadText, IsBadSet, IsBad, text_fault, set_fault}
use Rattle.tj_app.specs.Telling.{Tells, IsBuilt, IsBadSession, IsRefusedSession, IsUnbuilt, IsUntold, session_in, session_fault}
use Rattle.tj_app.specs.Unbuilt.{first_need}
use Rattle.tj_app.specs.Top.{IsAnswerable, IsRefusedBy}

-- where a rule fails, the set isn't well formed
abbrev pub Refuses : Type 0
Refuses = (set : TraceSet) (i k r : ℕ) → IsLeastFault set i k r → IsWellFormed set → ⊥

no_error : {X E : Type 0} (r : Result X E) (x : X) (e : E) → r ≡ Ok x → r ≡ Err e → ⊥
no_error r x e ok err = let never : Ok x ≡ Err e = sym ok ∙ err in absurd (cc)

same_ok : {X E : Type 0} (r : Result X E) (x y : X) → r ≡ Ok x → r ≡ Ok y → x ≡ y
same_ok r x y a b = let both : Ok x ≡ Ok y = sym a ∙ b in cc

same_set : (input : List ℕ) (set other : TraceSet) → StandsFor input set → StandsFor input other → other ≡ set
same_set input set other (p, a) (q, b) = ap (λ (x : TraceSet × ℕ). x.0) (same_ok (set_at input) (other, q) (set, p) b a)

-- ---- texts and sets

text_right : (input : List ℕ) (set : TraceSet) (f : Fault) (why : TextFault) → StandsFor input set → Fails why (set_at input) → f ≡ text_fault why → f ≡ fault.Memory
text_right input set f text.OutOfMemory h fails e = e
text_right input set f (text.Table why) h fails e = absurd (no_error (set_at input) (set, h.0) (text.Table why) h.1 fails.0)
text_right input set f (text.Syntax n) h fails e = absurd (no_error (set_at input) (set, h.0) (text.Syntax n) h.1 fails)
text_right input set f (text.Float n) h fails e = absurd (no_error (set_at input) (set, h.0) (text.Float n) h.1 fails)
text_right input set f (text.UnknownOp n) h fails e = absurd (no_error (set_at input) (set, h.0) (text.UnknownOp n) h.1 fails)
text_right input set f (text.UnknownDescr n) h fails e = absurd (no_error (set_at input) (set, h.0) (text.UnknownDescr n) h.1 fails)
text_right input set f (text.UnknownBox n) h fails e = absurd (no_error (set_at input) (set, h.0) (text.UnknownBox n) h.1 fails)
text_right input set f (text.Limit what count) h fails e = absurd (no_error (set_at input) (set, h.0) (text.Limit what count) h.1 fails)

set_right : Refuses → (set : TraceSet) (f : Fault) (why : CheckFault) → IsChecked set → HasCause set why → f ≡ set_fault why → f ≡ fault.Memory
set_right refuses set f check.OutOfMemory checked cause e = e
set_right refuses set f (check.IllFormed trace name op rule) checked cause e = absurd (refuses set trace op rule cause.0 checked.well_formed)
set_right refuses set f (check.Limit what count) checked cause e = absurd (omega (arith, cause.2, checked.light))

bad_right : Refuses → (input : List ℕ) (set : TraceSet) (f : Fault) → StandsFor input set → IsChecked set → IsBad input f → f ≡ fault.Memory
bad_right refuses input set f stands checked (inl (why, fails, e)) = text_right input set f why stands fails e
bad_right refuses input set f stands checked (inr (other, there, (why, cause, e))) =
    let same = same_set input set other stands there in
    set_right refuses set f why checked (subst (λ s. HasCause s why) same cause) e

-- ---- sessions

lines_right : (read : Result SessionText SessionFault) (s : SessionText) (f : Fault) (why : SessionFault) → read ≡ Ok s → lines.Fails why read → f ≡ session_fault why → f ≡ fault.Memory
lines_right read s f session.OutOfMemory ok fails e = e
lines_right read s f (session.SessionBad n reason) ok fails e = absurd (no_error read s (session.SessionBad n reason) ok fails)
lines_right read s f (session.Limit what count) ok fails e = absurd (no_error read s (session.Limit what count) ok fails)

session_right : (input : List ℕ) (set : TraceSet) (s : SessionText) (f : Fault) → Tells input set s → IsBadSession input f → f ≡ fault.Memory
session_right input set s f told (other, there, checked, (why, fails, e)) =
    let same = same_set input set other told.stands there in
    lines_right (session_in set (session_part input)) s f why told.told (subst (λ x. lines.Fails why (session_in x (session_part input))) same fails) e

none_needed : (c : Command) (s : SessionText) (what : Unbuilt) → first_need c s ≡ None → first_need c s ≡ Some what → ⊥
none_needed c s what none some = let never : None ≡ Some what = sym none ∙ some in absurd (cc)

built_right : (c : Command) (input : List ℕ) (set : TraceSet) (s : SessionText) (f : Fault) → IsBuilt c input set s → IsUnbuilt c input f → f ≡ fault.Memory
built_right c input set s f built (other, t, told, (what, needed, e)) =
    let same_one = same_set input set other built.0.stands told.stands in
    let same_lines = same_ok (session_in set (session_part input)) t s (subst (λ x. session_in x (session_part input) ≡ Ok t) same_one told.told) built.0.told in
    absurd (none_needed c s what built.1 (subst (λ y. first_need c y ≡ Some what) same_lines needed))

untold_right : Refuses → (c : Command) (input : List ℕ) (set : TraceSet) (s : SessionText) (f : Fault) → IsBuilt c input set s → IsUntold c input f → f ≡ fault.Memory
untold_right refuses c input set s f built (inl bad) = bad_right refuses input set f built.0.stands built.0.checked bad
untold_right refuses c input set s f built (inr (inl bad)) = session_right input set s f built.0 bad
untold_right refuses c input set s f built (inr (inr bad)) = built_right c input set s f built bad

pub answered : Refuses → (c : Command) (input : List ℕ) (f : Fault) → IsAnswerable c input → IsRefusedBy c input f → f ≡ fault.Memory
answered refuses Check input f (set, s, told) (inl bad) = bad_right refuses input set f told.stands told.checked bad
answered refuses Check input f (set, s, told) (inr bad) = session_right input set s f told bad
answered refuses (Opt n) input f (set, s, told) (inl bad) = bad_right refuses input set f told.stands told.checked bad
answered refuses (Opt n) input f (set, s, told) (inr bad) = session_right input set s f told bad
answered refuses (Image n) input f (set, s, built) h = untold_right refuses (Image n) input set s f built h
answered refuses (Run a n) input f (set, s, built) h = untold_right refuses (Run a n) input set s f built h
answered refuses (Gen n k) input f (set, s, built) h = untold_right refuses (Gen n k) input set s f built h
