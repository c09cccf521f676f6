-- Worlds with one call more.
use Rattle.std.proofs.Common.{◌≡◌, ℕ, zero, suc, refl, add-one, ◌+◌, Bool, List, ◌∷◌, ◌++◌, [], ◌∙◌, ap, drop, length}
use Rattle.trace_meaning.specs.declared.value.Object.{Object}
use Rattle.trace_meaning.specs.declared.call.CallEvent.{CallEvent}
use Rattle.trace_meaning.specs.declared.call.Answer.{Answer}
use Rattle.trace_meaning.specs.World.{Logged}
use Rattle.trace_meaning.specs.Objects.{with_new}
use Rattle.trace_meaning.specs.Kept.{Kept, logged, with_world, with_event, with_answered, allocated}
use Rattle.trace_meaning.proofs.Logs.{logged-push}

-- a world that is kept so
abbrev pub kept : List Object → List Answer → List Logged → ℕ → Bool → ℕ → Kept
kept objects answers log failures overflow prebuilts = record { world = record { objects = objects; answers = answers; log = log; failures = failures; overflow = overflow }; prebuilts = prebuilts }

module _ (objects : List Object) (es ds : List CallEvent) (ns ms : List ℕ) (e : CallEvent) (n failures prebuilts : ℕ) (overflow : Bool) (k : Kept) (same : length es ≡ length ns) (calls : ds ≡ es ++ e ∷ []) (spent : ms ≡ ns ++ n ∷ []) (total : n ≡ allocated prebuilts objects) where
  log_is : logged ds ms ≡ logged es ns ++ record { event = e; bytes = allocated prebuilts objects } ∷ []
  log_is =
      ap (λ l. logged l ms) calls ∙ ap (λ l. logged (es ++ e ∷ []) l) spent ∙ logged-push es ns e n same
      ∙ ap (λ m. logged es ns ++ record { event = e; bytes = m } ∷ []) total

  pub called_once : (answers : List Answer) → kept objects answers (logged es ns) failures overflow prebuilts ≡ k → kept objects answers (logged ds ms) failures overflow prebuilts ≡ with_world k (with_event (allocated k.prebuilts k.world.objects) e k.world)
  called_once answers view =
      ap (λ l. kept objects answers l failures overflow prebuilts) log_is
      ∙ ap (λ j. with_world j (with_event (allocated j.prebuilts j.world.objects) e j.world)) view

  pub answered_once : (answers later : List Answer) → later ≡ drop 1 answers → kept objects answers (logged es ns) failures overflow prebuilts ≡ k → kept objects later (logged ds ms) failures overflow prebuilts ≡ with_world k (with_answered (allocated k.prebuilts k.world.objects) e k.world)
  answered_once answers later used view =
      ap (λ l. kept objects later l failures overflow prebuilts) log_is
      ∙ ap (λ a. kept objects a (logged es ns ++ record { event = e; bytes = allocated prebuilts objects } ∷ []) failures overflow prebuilts) used
      ∙ ap (λ j. with_world j (with_answered (allocated j.prebuilts j.world.objects) e j.world)) view

  pub answered_new : (answers later : List Answer) (o : Object) (more : List Object) → more ≡ objects ++ o ∷ [] → later ≡ drop 1 answers → kept objects answers (logged es ns) failures overflow prebuilts ≡ k → kept more later (logged ds ms) failures overflow prebuilts ≡ with_world k (with_new o (with_answered (allocated k.prebuilts k.world.objects) e k.world))
  answered_new answers later o more grown used view =
      ap (λ xs. kept xs later (logged ds ms) failures overflow prebuilts) grown
      ∙ ap (λ l. kept (objects ++ o ∷ []) later l failures overflow prebuilts) log_is
      ∙ ap (λ a. kept (objects ++ o ∷ []) a (logged es ns ++ record { event = e; bytes = allocated prebuilts objects } ∷ []) failures overflow prebuilts) used
      ∙ ap (λ j. with_world j (with_new o (with_answered (allocated j.prebuilts j.world.objects) e j.world))) view

dropped : {X : Type 0} (n : ℕ) (xs : List X) → drop (suc n) xs ≡ drop 1 (drop n xs)
dropped zero xs = refl
dropped (suc n) [] = refl
dropped (suc n) (x ∷ xs) = dropped n xs

-- one answer more is used
pub used_more : {X : Type 0} (n : ℕ) (xs : List X) → drop (n + 1) xs ≡ drop 1 (drop n xs)
used_more n xs = ap (λ k. drop k xs) (add-one n) ∙ dropped n xs
