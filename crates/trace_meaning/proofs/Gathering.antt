-- What each item of a list adds, put together.
use Rattle.std.proofs.Common.{◌≡◌, ℕ, suc, ◌+◌, ◌<◌, List, ◌++◌, length, get_or, drop, ap, sym, ◌∙◌, append_assoc, add-one, drop-cons}
use Rattle.std.specs.List.{flat_map}
use Rattle.std.proofs.lemmas.List.{take_min, drop_min}

-- one item more
pub gathered_more : {X A : Type 0} (f : X → List A) (xs : List X) (i : ℕ) (x : X) (out next whole : List A) → i < length xs → next ≡ out ++ f (get_or xs i x) → out ++ flat_map f (drop i xs) ≡ whole → next ++ flat_map f (drop (i + 1) xs) ≡ whole
gathered_more f xs i x out next whole within e h =
    ap (λ j. next ++ flat_map f (drop j xs)) (add-one i)
    ∙ ap (λ k. k ++ flat_map f (drop (suc i) xs)) e
    ∙ append_assoc out (f (get_or xs i x)) (flat_map f (drop (suc i) xs))
    ∙ ap (λ rest. out ++ flat_map f rest) (sym (drop-cons xs i x within))
    ∙ h

pub ruleset split_at_min = (take_min, drop_min)
