-- Faults, and what a reader answers.
use Rattle.std.specs.Prelude.{◌≡◌, ℕ, Result, Ok, Err}
use Rattle.session_text.specs.declared.fault.Reason.{Reason}
use Rattle.session_text.specs.declared.fault.SessionFault.{SessionFault}
use Rattle.session_text.specs.declared.fault.SessionFault.TheVariants as fault

abbrev pub bad : ℕ → Reason → SessionFault
bad n reason = fault.SessionBad n reason

-- ---- what a reader answers: what reading gives, unless memory ran out

abbrev pub Fails : {X : Type 0} → SessionFault → Result X SessionFault → Type 0
Fails fault.OutOfMemory read = Unit {0}
Fails (fault.SessionBad n reason) read = read ≡ Err (fault.SessionBad n reason)
Fails (fault.Limit what count) read = read ≡ Err (fault.Limit what count)

abbrev pub Gives : {X : Type 0} → Result X SessionFault → Result X SessionFault → Type 0
Gives (Ok x) read = read ≡ Ok x
Gives (Err e) read = Fails e read
