-- One word of a start after the other.
use Rattle.std.proofs.Common.{◌≡◌, ℕ, Bool, true, false, List, [], ◌∷◌, Option, Some, None, refl, sym, ap, subst, ◌∙◌}
use Rattle.lists.specs.Binds.{◌>>=◌}
use Rattle.session_text.specs.declared.start.Start.{Start}
use Rattle.session_text.specs.Names.{Names}
use Rattle.session_text.specs.Start.{Moved, begin, step, run, is_done, done, start_at}

pub run_step : (names : Names) (s m : Start) (w : List ℕ) (ws : List (List ℕ)) → step names s w ≡ Some m → run names s (w ∷ ws) ≡ run names m ws
unfolding run
run_step names s m w ws e = ap (λ o. o >>= λ x. run names x ws) e

run_stop : (names : Names) (s : Start) (w : List ℕ) (ws : List (List ℕ)) → step names s w ≡ None → run names s (w ∷ ws) ≡ None
unfolding run
run_stop names s w ws e = ap (λ o. o >>= λ x. run names x ws) e

pub goes_on : (names : Names) (s m : Start) (w : List ℕ) (ws vs : List (List ℕ)) (b : Bool) (total : Option Start) → ws ≡ w ∷ vs → Moved b m (step names s w) → b ≡ true → run names s ws ≡ total → run names m vs ≡ total
goes_on names s m w ws vs b total parts moved is so_far =
    let e : step names s w ≡ Some m = subst (λ x. Moved x m (step names s w)) is moved in
    sym (run_step names s m w vs e) ∙ ap (run names s) (sym parts) ∙ so_far

pub stops : (names : Names) (s m : Start) (w : List ℕ) (ws vs us : List (List ℕ)) (b : Bool) → ws ≡ w ∷ vs → Moved b m (step names s w) → b ≡ false → run names s ws ≡ run names begin us → start_at names us ≡ None
unfolding start_at
stops names s m w ws vs us b parts moved is so_far =
    let e : step names s w ≡ None = subst (λ x. Moved x m (step names s w)) is moved in
    ap (λ o. o >>= done) (sym so_far ∙ ap (run names s) parts ∙ run_stop names s w vs e)

ends_at : (names : Names) (s : Start) (ws us : List (List ℕ)) → ws ≡ [] → run names s ws ≡ run names begin us → start_at names us ≡ done s
unfolding start_at run
ends_at names s ws us e so_far = ap (λ o. o >>= done) (sym so_far ∙ ap (run names s) e)

pub ends : (names : Names) (s : Start) (ws us : List (List ℕ)) → ws ≡ [] → run names s ws ≡ run names begin us → is_done s.place ≡ true → start_at names us ≡ Some s
ends names s ws us e so_far is = ends_at names s ws us e so_far ∙ rw is refl

pub ends_not : (names : Names) (s : Start) (ws us : List (List ℕ)) → ws ≡ [] → run names s ws ≡ run names begin us → is_done s.place ≡ false → start_at names us ≡ None
ends_not names s ws us e so_far is = ends_at names s ws us e so_far ∙ rw is refl
