-- One word after the other.
use Rattle.std.proofs.Common.{◌≡◌, ℕ, Bool, true, false, List, [], ◌∷◌, Option, Some, None, refl, sym, ap, subst, ◌∙◌}
use Rattle.lists.specs.Binds.{◌>>=◌}
use Rattle.trace_text.specs.declared.line.Line.{Line}
use Rattle.trace_text.specs.declared.line.Place.{Place}
use Rattle.trace_text.specs.Names.{Names}
use Rattle.trace_text.specs.Line.{Moved, start, step, run, is_done, done, from, go}

pub run_step : (names : Names) (l m : Line) (w : List ℕ) (ws : List (List ℕ)) → step names l w ≡ Some m → run names l (w ∷ ws) ≡ run names m ws
unfolding run
run_step names l m w ws e = ap (λ o. o >>= λ x. run names x ws) e

run_stop : (names : Names) (l : Line) (w : List ℕ) (ws : List (List ℕ)) → step names l w ≡ None → run names l (w ∷ ws) ≡ None
unfolding run
run_stop names l w ws e = ap (λ o. o >>= λ x. run names x ws) e

pub goes_on : (names : Names) (l m : Line) (w : List ℕ) (ws vs : List (List ℕ)) (b : Bool) (total : Option Line) → ws ≡ w ∷ vs → Moved b m (step names l w) → b ≡ true → run names l ws ≡ total → run names m vs ≡ total
goes_on names l m w ws vs b total parts moved is so_far =
    let e : step names l w ≡ Some m = subst (λ x. Moved x m (step names l w)) is moved in
    sym (run_step names l m w vs e) ∙ ap (run names l) (sym parts) ∙ so_far

pub stops : (names : Names) (p : Place) (l m : Line) (w : List ℕ) (ws vs us : List (List ℕ)) (b : Bool) → ws ≡ w ∷ vs → Moved b m (step names l w) → b ≡ false → run names l ws ≡ run names (go start p) us → from names p us ≡ None
unfolding from
stops names p l m w ws vs us b parts moved is so_far =
    let e : step names l w ≡ None = subst (λ x. Moved x m (step names l w)) is moved in
    ap (λ o. o >>= done) (sym so_far ∙ ap (run names l) parts ∙ run_stop names l w vs e)

ends_at : (names : Names) (p : Place) (l : Line) (ws us : List (List ℕ)) → ws ≡ [] → run names l ws ≡ run names (go start p) us → from names p us ≡ done l
unfolding from run
ends_at names p l ws us e so_far = ap (λ o. o >>= done) (sym so_far ∙ ap (run names l) e)

pub ends : (names : Names) (p : Place) (l : Line) (ws us : List (List ℕ)) → ws ≡ [] → run names l ws ≡ run names (go start p) us → is_done l.place ≡ true → from names p us ≡ Some l
ends names p l ws us e so_far is = ends_at names p l ws us e so_far ∙ rw is refl

pub ends_not : (names : Names) (p : Place) (l : Line) (ws us : List (List ℕ)) → ws ≡ [] → run names l ws ≡ run names (go start p) us → is_done l.place ≡ false → from names p us ≡ None
ends_not names p l ws us e so_far is = ends_at names p l ws us e so_far ∙ rw is refl
