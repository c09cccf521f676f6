-- Calls that are logged with the bytes before them.
use Rattle.std.proofs.Common.{◌≡◌, ℕ, List, [], ◌∷◌, ◌++◌, length, refl, ap, arith}
use Rattle.trace_meaning.specs.declared.call.CallEvent.{CallEvent}
use Rattle.trace_meaning.specs.World.{events}
use Rattle.trace_meaning.specs.Kept.{logged}

pub events-logged : (es : List CallEvent) (ns : List ℕ) → length es ≡ length ns → events (logged es ns) ≡ es
events-logged [] ns h = refl
events-logged (e ∷ es) [] h = absurd (omega arith)
events-logged (e ∷ es) (n ∷ ns) h = let rest : length es ≡ length ns = omega arith in ap (λ l. e ∷ l) (events-logged es ns rest)

-- one call more
pub logged-push : (es : List CallEvent) (ns : List ℕ) (e : CallEvent) (n : ℕ) → length es ≡ length ns → logged (es ++ e ∷ []) (ns ++ n ∷ []) ≡ logged es ns ++ record { event = e; bytes = n } ∷ []
logged-push [] [] e n h = refl
logged-push [] (m ∷ ns) e n h = absurd (omega arith)
logged-push (d ∷ es) [] e n h = absurd (omega arith)
logged-push (d ∷ es) (m ∷ ns) e n h = let rest : length es ≡ length ns = omega arith in ap (λ l. record { event = d; bytes = m } ∷ l) (logged-push es ns e n rest)
