-- What is read of a start is spelled so.
use Rattle.std.proofs.Common.{◌≡◌, ℕ, true, false, List, [], ◌∷◌, Option, Some, None, refl, sym, ap, subst, ◌∙◌, inl, inr}
use Rattle.std.specs.Prelude.{codes}
use Rattle.std.specs.Str.{bytes_eq}
use Rattle.lists.proofs.Options.{bind_some}
use Rattle.lists.proofs.Bools.{if_some, chosen, bytes_same}
use Rattle.std.proofs.lemmas.Option.{same_Some}
use Rattle.trace_meaning.specs.declared.value.Value.{Value}
use Rattle.session_text.specs.declared.start.Place.{Place}
use Rattle.session_text.specs.declared.start.Place.TheVariants as place
use Rattle.session_text.specs.declared.start.Start.{Start}
use Rattle.session_text.specs.Names.{Names}
use Rattle.session_text.specs.Words.{value_of}
use Rattle.session_text.specs.Start.{go, expect, input_found, input_by, step_at, step, run, is_done}
use Rattle.session_text.specs.Spelling.{MoreInputs, inputs_end, one_input, SpellsInputs, no_inputs, first_input}
use Rattle.session_text.proofs.Put.{put_inputs}
use Rattle.session_text.proofs.Spelled.{found_place, found_past}

abbrev Words : Type 0
Words = List (List ℕ)

-- a run that ends where a line may end
pub record Ended (names : Names) (s : Start) (ws : Words) (m : Start) : Type 0 where
  pub runs : run names s ws ≡ Some m
  pub done_ : is_done m.place ≡ true

clash : false ≡ true → ⊥
clash e = absurd cc

pub no_end : {X : Type 0} (names : Names) (s m : Start) (p : Place) → s.place ≡ p → is_done p ≡ false → Ended names s [] m → X
unfolding run
no_end names s m p at not_done e =
    let same : s ≡ m = same_Some s m e.runs in
    absurd (clash (sym not_done ∙ ap is_done (sym at) ∙ ap (λ (x : Start). is_done x.place) same ∙ e.done_))

-- one word on
pub record Next (names : Names) (p : Place) (s : Start) (w : List ℕ) (ws : Words) (m : Start) : Type 0 where
  pub next : Start
  pub steps : step_at names p s w ≡ Some next
  pub ended : Ended names next ws m

pub one_on : (names : Names) (s m : Start) (p : Place) (w : List ℕ) (ws : Words) → s.place ≡ p → Ended names s (w ∷ ws) m → Next names p s w ws m
unfolding run
one_on names s m p w ws at e =
    let a = bind_some (step names s w) (λ x. run names x ws) m e.runs in
    record { next = a.0; steps = ap (λ q. step_at names q s w) (sym at) ∙ a.1; ended = record { runs = a.2; done_ = e.done_ } }

-- a word that is expected
pub record Expected (names : Names) (s : Start) (key w : List ℕ) (ws : Words) (m : Start) (p : Place) : Type 0 where
  pub is : w ≡ key
  pub ended : Ended names (go s p) ws m

pub expected : (names : Names) (s m : Start) (key w : List ℕ) (ws : Words) (p : Place) (x : Start) → expect s key p w ≡ Some x → Ended names x ws m → Expected names s key w ws m p
expected names s m key w ws p x e h =
    let g = if_some (bytes_eq w key) (go s p) x e in
    record { is = bytes_same w key g.0; ended = subst (λ (y : Start). Ended names y ws m) (sym g.1) h }

pub to : (names : Names) (x y m : Start) (ws : Words) → x ≡ y → Ended names y ws m → Ended names x ws m
to names x y m ws e h = subst (λ (z : Start). Ended names z ws m) (sym e) h

-- ---- inputs

pub record Inputs (names : Names) (s : Start) (ws : Words) (m : Start) : Type 0 where
  pub os : List (Option Value)
  pub rest : Words
  pub spells : MoreInputs names ws os rest
  pub ended : Ended names (go (put_inputs s os) place.Closed) rest m

pub record Found (names : Names) (s : Start) (w : List ℕ) (ws : Words) (m : Start) : Type 0 where
  pub of : Option Value
  pub value : value_of names w ≡ Some of
  pub ended : Ended names (input_found s of) ws m

found_by : (names : Names) (s m x : Start) (w : List ℕ) (ws : Words) (o : Option (Option Value)) → value_of names w ≡ o → input_by s o ≡ Some x → Ended names x ws m → Found names s w ws m
found_by names s m x w ws None e h i = absurd cc
found_by names s m x w ws (Some o) e h i = record { of = o; value = e; ended = to names (input_found s o) x m ws (same_Some (input_found s o) x h) i }

inputs_close : (names : Names) (s m : Start) (w : List ℕ) (ws : Words) → Expected names s (codes ")") w ws m place.Closed → Inputs names s (w ∷ ws) m
inputs_close names s m w ws x = record { os = []; rest = ws; spells = subst (λ (k : List ℕ). MoreInputs names (k ∷ ws) [] ws) (sym x.is) inputs_end; ended = x.ended }

more_inputs : (names : Names) (s m : Start) (ws : Words) → s.place ≡ place.Behind → Ended names s ws m → Inputs names s ws m
more_inputs names s m [] at e = no_end names s m place.Behind at refl e
more_inputs names s m (w ∷ []) at e =
    let n = one_on names s m place.Behind w [] at e in
    elim (chosen (bytes_eq w (codes ",")) (Some (go s place.Input)) (expect s (codes ")") place.Closed w) (Some n.next) n.steps) [
      | inl h ↦ no_end names (go s place.Input) m place.Input refl refl (to names (go s place.Input) n.next m [] (same_Some (go s place.Input) n.next h.1) n.ended)
      | inr h ↦ inputs_close names s m w [] (expected names s m (codes ")") w [] place.Closed n.next h.1 n.ended)
    ]
more_inputs names s m (w ∷ v ∷ ws) at e =
    let n = one_on names s m place.Behind w (v ∷ ws) at e in
    elim (chosen (bytes_eq w (codes ",")) (Some (go s place.Input)) (expect s (codes ")") place.Closed w) (Some n.next) n.steps) [
      | inl h ↦
          let a = one_on names (go s place.Input) m place.Input v ws refl (to names (go s place.Input) n.next m (v ∷ ws) (same_Some (go s place.Input) n.next h.1) n.ended) in
          let f = found_by names (go s place.Input) m a.next v ws (value_of names v) refl a.steps a.ended in
          let r = more_inputs names (input_found s f.of) m ws (found_place s f.of) (to names (input_found s f.of) (input_found (go s place.Input) f.of) m ws (sym (found_past s place.Input f.of)) f.ended) in
          record { os = f.of ∷ r.os; rest = r.rest; spells = subst (λ (k : List ℕ). MoreInputs names (k ∷ v ∷ ws) (f.of ∷ r.os) r.rest) (sym (bytes_same w (codes ",") h.0)) (one_input f.value r.spells); ended = r.ended }
      | inr h ↦ inputs_close names s m w (v ∷ ws) (expected names s m (codes ")") w (v ∷ ws) place.Closed n.next h.1 n.ended)
    ]

pub record AllInputs (names : Names) (s : Start) (ws : Words) (m : Start) : Type 0 where
  pub os : List (Option Value)
  pub rest : Words
  pub spells : SpellsInputs names ws os rest
  pub ended : Ended names (go (put_inputs s os) place.Closed) rest m

pub all_inputs : (names : Names) (s m : Start) (ws : Words) → s.place ≡ place.First → Ended names s ws m → AllInputs names s ws m
all_inputs names s m [] at e = no_end names s m place.First at refl e
all_inputs names s m (w ∷ ws) at e =
    let n = one_on names s m place.First w ws at e in
    elim (chosen (bytes_eq w (codes ")")) (Some (go s place.Closed)) (input_by s (value_of names w)) (Some n.next) n.steps) [
      | inl h ↦ record { os = []; rest = ws; spells = subst (λ (k : List ℕ). SpellsInputs names (k ∷ ws) [] ws) (sym (bytes_same w (codes ")") h.0)) no_inputs; ended = to names (go s place.Closed) n.next m ws (same_Some (go s place.Closed) n.next h.1) n.ended }
      | inr h ↦
          let f = found_by names s m n.next w ws (value_of names w) refl h.1 n.ended in
          let r = more_inputs names (input_found s f.of) m ws (found_place s f.of) f.ended in
          record { os = f.of ∷ r.os; rest = r.rest; spells = first_input f.value r.spells; ended = r.ended }
    ]
