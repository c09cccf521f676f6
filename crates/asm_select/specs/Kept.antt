-- What operations on objects leave of a machine.
use Rattle.std.specs.Prelude.{◌≡◌, ◌≢◌, ℕ, ◌+◌}
use Rattle.target_base.specs.declared.place.Place.{Place}
use Rattle.target_base.specs.Arena.{Arena}
use Rattle.x64_machine.specs.State.{State}
use Rattle.asm_select.specs.Valued.{r11, r15, value, IsFit}

-- all but one place and the two scratch registers is as before; the arena is this one; so many loads and stores more
-- have touched it; and the state is fit
pub record Leaves (d : Place) (to : Arena) (more_loads more_stores : ℕ) (s t : State) : Type 0 where
  pub others : (q : Place) → q ≢ r11 → q ≢ r15 → q ≢ d → value t q ≡ value s q
  pub arena : t.arena ≡ to
  pub loads : t.loads ≡ s.loads + more_loads
  pub stores : t.stores ≡ s.stores + more_stores
  pub fit : IsFit t
