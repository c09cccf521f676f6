-- Paths.
use Rattle.std.proofs.Common.{List, [], ◌∷◌, ◌++◌, refl, sym, subst}
use Rattle.lists.specs.Reach.{Leads, Reaches}

-- one step more
pub leads_push : {X : Type 0} (Step : X → X → Type 0) (path : List X) (a b c : X) → Leads Step a b path → Step b c → Leads Step a c (path ++ c ∷ [])
leads_push Step [] a b c h w = (subst (λ n. Step n c) (sym h) w, refl)
leads_push Step (n ∷ ns) a b c h w = (h.0, leads_push Step ns n b c h.1 w)

pub leads_append : {X : Type 0} (Step : X → X → Type 0) (left right : List X) (a b c : X) → Leads Step a b left → Leads Step b c right → Leads Step a c (left ++ right)
leads_append Step [] right a b c h w = subst (λ n. Leads Step n c right) (sym h) w
leads_append Step (n ∷ ns) right a b c h w = (h.0, leads_append Step ns right n b c h.1 w)

-- no path leaves what each step stays in
pub leads_inside : {X : Type 0} (Step : X → X → Type 0) (Inside : X → Type 0) → ((n m : X) → Inside n → Step n m → Inside m) → (path : List X) (a b : X) → Inside a → Leads Step a b path → Inside b
leads_inside Step Inside closed [] a b h w = subst Inside w h
leads_inside Step Inside closed (n ∷ ns) a b h w = leads_inside Step Inside closed ns n b (closed a n h w.0) w.1

pub reaches_itself : {X : Type 0} (Step : X → X → Type 0) (a : X) → Reaches Step a a
reaches_itself Step a = ([], refl)

pub reaches_step : {X : Type 0} (Step : X → X → Type 0) (a b c : X) → Reaches Step a b → Step b c → Reaches Step a c
reaches_step Step a b c h w = (h.0 ++ c ∷ [], leads_push Step h.0 a b c h.1 w)

pub reaches_inside : {X : Type 0} (Step : X → X → Type 0) (Inside : X → Type 0) → ((n m : X) → Inside n → Step n m → Inside m) → (a b : X) → Inside a → Reaches Step a b → Inside b
reaches_inside Step Inside closed a b h w = leads_inside Step Inside closed w.0 a b h w.1
