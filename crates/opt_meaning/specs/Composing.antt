-- Traces and their pieces, leg by leg.
use Rattle.std.specs.Prelude.{◌≡◌, ℕ, List, Option, Some, None, length}
use Rattle.trace_ops.specs.declared.table.Table.{Table}
use Rattle.trace_ops.specs.declared.piece.Entry.{Entry}
use Rattle.trace_meaning.specs.declared.value.Value.{Value}
use Rattle.trace_meaning.specs.World.{World}
use Rattle.trace_meaning.specs.Legs.{Leave, Jumps, Wrong, drive, Program, Leg, At, Ended, leg}
use Rattle.trace_meaning.specs.Observed.{world_left}
use Rattle.trace_meaning.specs.Growing.{IsLonger, leg_world}
use Rattle.trace_meaning.specs.Sound.{Beginnings, CanGo}
use Rattle.opt_meaning.specs.Along.{BeginsCalls}
use Rattle.opt_meaning.specs.Admits.{Admits, entry_for}
use Rattle.opt_meaning.specs.Leaving.{SameLeave}

-- of each piece: its trace, its entry, those of its guards, and its end
pub record Joined (P Q : Type 0) : Type 0 where
  pub trace : Q → P
  pub entry : Q → Entry
  pub guards : Q → List (ℕ × Entry)
  pub at_end : Q → Entry

-- both see no bridge, or a trace and a piece of it
abbrev pub SeeAlike : {P Q : Type 0} → (Q → P) → Option P → Option Q → Type 0
SeeAlike trace None None = Unit {0}
SeeAlike trace (Some p) (Some q) = trace q ≡ p
SeeAlike trace None (Some q) = ⊥
SeeAlike trace (Some p) None = ⊥

-- the piece may be left by a jump
abbrev pub CanJump : {Q U V : Type 0} → Program Q U V → Q → Type 0
CanJump b q = (us : List Value) × (u : World) × (now : List Value) × (after : World) × (drive b.step b.world (b.ops q) (b.begin q us u) ≡ Jumps now after)

-- each piece does what its trace does, and each way into a piece is by its entry
pub record Composes {P Q O U S V : Type 0} (t : Table) (a : Program P O S) (b : Program Q U V) (k : Joined P Q) (can : Beginnings P) : Type 0 where
  pub each : (q : Q) (vs : List Value) (w : World) (us : List Value) (u : World) → can (k.trace q) vs w → Admits t (k.entry q) vs w us u
      → SameLeave t (k.guards q) (k.at_end q) (drive a.step a.world (a.ops (k.trace q)) (a.begin (k.trace q) vs w)) (drive b.step b.world (b.ops q) (b.begin q us u))
  pub begins : (p : P) (vs : List Value) (w : World) → can p vs w → CanGo can (leg a (At p vs w))
  -- of the guards that the piece has
  pub sees : (q : Q) (n f : ℕ) (e : Entry) → entry_for (k.guards q) n ≡ Some e → SeeAlike k.trace (a.sees (k.trace q) n f) (b.sees q n f)
  pub bridges : (q r : Q) (n f : ℕ) (e : Entry) → entry_for (k.guards q) n ≡ Some e → b.sees q n f ≡ Some r → k.entry r ≡ e
  -- of the pieces that jump
  pub targets : (q : Q) → CanJump b q → k.trace (b.target q) ≡ a.target (k.trace q)
  pub jumps : (q : Q) → CanJump b q → k.at_end q ≡ k.entry (b.target q)
  pub grows : (q : Q) (us : List Value) (u : World) → IsLonger u.log (leg_world (leg b (At q us u))).log

-- how a run has ended in a trace, and how in a piece
abbrev pub EndedAlike : {P Q : Type 0} → Table → Joined P Q → P → Leave → Q → Leave → Type 0
EndedAlike t k p x q y = (k.trace q ≡ p) × SameLeave t (k.guards q) (k.at_end q) x y

abbrev pub IsWrong : Leave → Type 0
IsWrong (Wrong w) = Unit {0}
IsWrong _ = ⊥

-- both begin a leg, at a pair that the piece's entry admits; or both have ended alike; or the trace is wrong, and its calls are the first ones of the piece
abbrev pub Paired : {P Q : Type 0} → Table → Joined P Q → Beginnings P → Leg P → Leg Q → Type 0
Paired t k can (At p vs w) (At q us u) = (k.trace q ≡ p) × can p vs w × Admits t (k.entry q) vs w us u
Paired t k can (Ended p (Wrong w)) y = BeginsCalls (length t.prebuilts) w.log (leg_world y).log
Paired t k can (Ended p x) (Ended q y) = EndedAlike t k p x q y
Paired t k can (At p vs w) (Ended q y) = ⊥
Paired t k can (Ended p x) (At q us u) = ⊥
