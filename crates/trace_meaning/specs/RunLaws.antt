-- What holds of every run of straight code that leads on: over single operations, and over legs.
use Rattle.std.specs.Prelude.{◌≡◌, ℕ, ◌+◌, ◌*◌, ◌<◌, ◌≤◌, List, [], ◌∷◌, length}
use Rattle.trace_meaning.specs.declared.value.Value.{Value}
use Rattle.trace_meaning.specs.World.{World}
use Rattle.trace_meaning.specs.Legs.{Leave, Turn, On, Off, Program, Now, In, Over, Leg, At, Ended, begins, run, leg, legs, at_leg}
use Rattle.trace_meaning.specs.Growing.{StepsGrow, RunsGrow}

abbrev pub IsInside : {P O S : Type 0} → P → Now P O S → Type 0
IsInside p (In q rest s) = q ≡ p
IsInside p (Over q l) = ⊥

-- so many operations from the start of code make its leg, and fewer are still inside it
pub record MakesLeg {P O S : Type 0} (a : Program P O S) (p : P) (vs : List Value) (w : World) (most : ℕ) : Type 0 where
  pub count : ℕ
  pub some : 1 ≤ count
  pub few : count ≤ most
  pub makes : run a count (begins a p vs w) ≡ at_leg a (leg a (At p vs w))
  pub inside : (k : ℕ) → k < count → IsInside p (run a k (begins a p vs w))

abbrev pub Leaves : {S : Type 0} → Turn S → Type 0
Leaves (On s) = ⊥
Leaves (Off l) = Unit {0}

-- there is a last operation, and it never goes on
abbrev pub EndsByLeaving : {P O S : Type 0} → Program P O S → List O → Type 0
EndsByLeaving a [] = ⊥
EndsByLeaving {S = S} a (x ∷ []) = (s : S) → Leaves (a.step x s)
EndsByLeaving a (x ∷ y ∷ ys) = EndsByLeaving a (y ∷ ys)

-- each leg is made by so many operations at most
abbrev pub IsShort : {P O S : Type 0} → Program P O S → ℕ → Type 0
IsShort {P} a most = (p : P) (vs : List Value) (w : World) → MakesLeg a p vs w most

-- inside a leg that has begun, or over
abbrev pub StandsIn : {P O S : Type 0} → Leg P → Now P O S → Type 0
StandsIn (At p vs w) now = IsInside p now
StandsIn (Ended p l) now = now ≡ Over p l

-- after n operations a run stands in one of its legs; so many were made before
pub record IsAmidLegs {P O S : Type 0} (a : Program P O S) (n : ℕ) (x : Leg P) : Type 0 where
  pub made : ℕ
  pub before : ℕ
  pub few : made ≤ before
  pub past : before ≤ n
  pub makes : run a before (at_leg a x) ≡ at_leg a (legs a made x)
  pub stands : StandsIn (legs a made x) (run a n (at_leg a x))

-- What holds of each program
pub record RunLaws {P O S : Type 0} (a : Program P O S) : Type 0 where
  -- a run that is over stays
  pub ended_stays : (p : P) (l : Leave) (n : ℕ) → run a n (Over p l) ≡ Over p l
  -- m operations and then n are m + n
  pub runs_on : (x : Now P O S) (m n : ℕ) → run a n (run a m x) ≡ run a (m + n) x
  -- from the start of code, a leg is at most one operation more than the code has
  pub leg_made : (p : P) (vs : List Value) (w : World) → MakesLeg a p vs w (length (a.ops p) + 1)
  -- at most as many as it has, where the last one leaves
  pub leg_made_within : (p : P) (vs : List Value) (w : World) → EndsByLeaving a (a.ops p) → MakesLeg a p vs w (length (a.ops p))
  -- legs that have ended stay
  pub legs_ended : (p : P) (l : Leave) (n : ℕ) → legs a n (Ended p l) ≡ Ended p l
  -- so many legs are made by as many operations at least, and by so many for each leg at most
  pub legs_after : (n : ℕ) (x : Leg P) → (k : ℕ) × (n ≤ k) × (run a k (at_leg a x) ≡ at_leg a (legs a n x))
  pub legs_within : (most : ℕ) → IsShort a most → (n : ℕ) (x : Leg P) → (k : ℕ) × (k ≤ n * most) × (run a k (at_leg a x) ≡ at_leg a (legs a n x))
  -- any number of operations stand in a leg
  pub amid_legs : (n : ℕ) (x : Leg P) → IsAmidLegs a n x
  -- a run that has ended after n operations has ended in at most n legs; and legs that have ended are a run that has
  pub legs_when_over : (n : ℕ) (x : Leg P) (p : P) (l : Leave) → run a n (at_leg a x) ≡ Over p l → (k : ℕ) × (k ≤ n) × (legs a k x ≡ Ended p l)
  pub over_when_legs : (most : ℕ) → IsShort a most → (k : ℕ) (x : Leg P) (p : P) (l : Leave) → legs a k x ≡ Ended p l → (n : ℕ) → k * most ≤ n → run a n (at_leg a x) ≡ Over p l
  -- where steps only add, so do runs and legs
  pub grows : StepsGrow a → RunsGrow a
