-- Straight code that leads on: one leg from its start to where it is left, and runs over single operations and over legs.
use Rattle.std.specs.Prelude.{ℕ, zero, suc, List, [], ◌∷◌, Option, Some, None}
use Rattle.trace_meaning.specs.declared.value.Value.{Value}
use Rattle.trace_meaning.specs.World.{World, failed}

-- How a leg is left

pub data Leave : Type 0 where
  -- the guard of this number fails, where its resume boxes have these values; the failure isn't counted yet
  Fails : (guard : ℕ) (values : List Value) (after : World) → Leave
  Jumps : (values : List Value) (after : World) → Leave
  Finishes : (values : List Value) (after : World) → Leave
  -- the last call has no answer, or one that doesn't fit
  Waits : (after : World) → Leave
  Misfits : (after : World) → Leave
  Wrong : (after : World) → Leave

-- an operation goes on, or leaves
pub data Turn (S : Type 0) : Type 0 where
  On : S → Turn S
  Off : Leave → Turn S

abbrev pub go_on : {S : Type 0} → Turn S → (S → Leave) → Leave
go_on (On s) next = next s
go_on (Off l) next = l

-- operations, one after another; what has no end is wrong
abbrev pub drive : {O S : Type 0} → (O → S → Turn S) → (S → World) → List O → S → Leave
drive step world [] s = Wrong (world s)
drive step world (x ∷ xs) s = go_on (step x s) (drive step world xs)

-- as far as operations go
abbrev pub then_turn : {S : Type 0} → Turn S → (S → Turn S) → Turn S
then_turn (On s) next = next s
then_turn (Off l) next = Off l

abbrev pub drive_to : {O S : Type 0} → (O → S → Turn S) → List O → S → Turn S
drive_to step [] s = On s
drive_to step (x ∷ xs) s = then_turn (step x s) (drive_to step xs)

-- straight code that leads on; P are its names, O its operations, S its states
pub record Program (P O S : Type 0) : Type 0 where
  pub ops : P → List O
  pub begin : P → List Value → World → S
  pub step : O → S → Turn S
  pub world : S → World
  -- where a jump goes, and the bridge that failure k of a guard sees
  pub target : P → P
  pub sees : P → ℕ → ℕ → Option P

-- Single operations

-- a run stands inside code, with the operations to come, or is over
pub data Now (P O S : Type 0) : Type 0 where
  In : (place : P) (rest : List O) (s : S) → Now P O S
  Over : (place : P) (leave : Leave) → Now P O S

abbrev pub begins : {P O S : Type 0} → Program P O S → P → List Value → World → Now P O S
begins a p vs w = In p (a.ops p) (a.begin p vs w)

abbrev pub into : {P O S : Type 0} → Program P O S → P → ℕ → List Value → World → Option P → Now P O S
into a p n vs w None = Over p (Fails n vs (failed w))
into a p n vs w (Some q) = begins a q vs (failed w)

-- a failing guard counts a failure, and goes into the bridge that it sees; a jump goes to its target
abbrev pub enter : {P O S : Type 0} → Program P O S → P → Leave → Now P O S
enter a p (Fails n vs w) = into a p n vs w (a.sees p n w.failures)
enter a p (Jumps vs w) = begins a (a.target p) vs w
enter a p (Finishes vs w) = Over p (Finishes vs w)
enter a p (Waits w) = Over p (Waits w)
enter a p (Misfits w) = Over p (Misfits w)
enter a p (Wrong w) = Over p (Wrong w)

abbrev pub settle : {P O S : Type 0} → Program P O S → P → List O → Turn S → Now P O S
settle a p rest (On s) = In p rest s
settle a p rest (Off l) = enter a p l

-- one operation more; a run that is over stays
abbrev pub next : {P O S : Type 0} → Program P O S → Now P O S → Now P O S
next a (In p [] s) = Over p (Wrong (a.world s))
next a (In p (x ∷ xs) s) = settle a p xs (a.step x s)
next a (Over p l) = Over p l

-- the run after at most n operations
abbrev pub run : {P O S : Type 0} → Program P O S → ℕ → Now P O S → Now P O S
run a zero x = x
run a (suc n) x = run a n (next a x)

-- Legs

pub data Leg (P : Type 0) : Type 0 where
  At : (place : P) (values : List Value) (world : World) → Leg P
  Ended : (place : P) (leave : Leave) → Leg P

abbrev pub into_leg : {P : Type 0} → P → ℕ → List Value → World → Option P → Leg P
into_leg p n vs w None = Ended p (Fails n vs (failed w))
into_leg p n vs w (Some q) = At q vs (failed w)

abbrev pub land : {P O S : Type 0} → Program P O S → P → Leave → Leg P
land a p (Fails n vs w) = into_leg p n vs w (a.sees p n w.failures)
land a p (Jumps vs w) = At (a.target p) vs w
land a p (Finishes vs w) = Ended p (Finishes vs w)
land a p (Waits w) = Ended p (Waits w)
land a p (Misfits w) = Ended p (Misfits w)
land a p (Wrong w) = Ended p (Wrong w)

abbrev pub leg : {P O S : Type 0} → Program P O S → Leg P → Leg P
leg a (At p vs w) = land a p (drive a.step a.world (a.ops p) (a.begin p vs w))
leg a (Ended p l) = Ended p l

abbrev pub legs : {P O S : Type 0} → Program P O S → ℕ → Leg P → Leg P
legs a zero x = x
legs a (suc n) x = legs a n (leg a x)

-- where a run over single operations stands when it has made whole legs
abbrev pub at_leg : {P O S : Type 0} → Program P O S → Leg P → Now P O S
at_leg a (At p vs w) = begins a p vs w
at_leg a (Ended p l) = Over p l
