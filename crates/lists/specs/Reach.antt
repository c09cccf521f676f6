-- What one reaches by steps.
use Rattle.std.specs.Prelude.{◌≡◌, List, [], ◌∷◌}

-- a path goes from one to the other: each that it names is a step from the one before, and the last is the other
abbrev pub Leads : {X : Type 0} → (X → X → Type 0) → X → X → List X → Type 0
Leads Step from to [] = from ≡ to
Leads Step from to (x ∷ xs) = Step from x × Leads Step x to xs

-- some path goes there
abbrev pub Reaches : {X : Type 0} → (X → X → Type 0) → X → X → Type 0
Reaches {X} Step from to = (path : List X) × Leads Step from to path
