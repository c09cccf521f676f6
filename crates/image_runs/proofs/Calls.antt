-- The host's calls are those of the pieces, at every moment.
use Rattle.std.proofs.Common.{◌≡◌, ◌≢◌, ℕ, List, sym, subst}
use Rattle.std.specs.Prelude.{slice_set, slice_index_or}
use Rattle.std.proofs.lemmas.List.{get_or-set_other}
use Rattle.x64_machine.specs.State.{State}
use Rattle.image_runs.specs.Reached.{IsSpot}
use Rattle.image_runs.specs.Session.{Calls, Activation, End}
use Rattle.trace_meaning.specs.Observed.{world_left}
use Rattle.image_runs.specs.Selection.{ended, Model}
use Rattle.image_runs.specs.Image.{Image}
use Rattle.opt_meaning.specs.Pieces.{PiecesNow, pieces}
use Rattle.image_runs.specs.Standing.{Stands, Walks, Leaves, Asks, Returns}
use Rattle.trace_meaning.specs.Cuts.{Cuts}
use Rattle.image_runs.specs.Runs.{world_now}
use Rattle.image_runs.specs.Following.{Begun, Beside, Shown}

calls_told : (m : Model) (cuts : Cuts) (g : Image) (x : PiecesNow) (c : Calls) (s : State) (path : List State) (todo : ℕ) → Stands m g x c s path todo → m.called (world_now (pieces m.set m.pieces cuts) x) c
calls_told m cuts g x c s path todo (Walks z) = subst (λ (y : PiecesNow). m.called (world_now (pieces m.set m.pieces cuts) y) c) (sym z.now) (m.tells z.pl.id _ z.env c z.t z.holds)
calls_told m cuts g x c s path todo (Leaves z) = subst (λ (y : PiecesNow). m.called (world_now (pieces m.set m.pieces cuts) y) c) (sym z.now) z.told
calls_told m cuts g x c s path todo (Asks z) = subst (λ (y : PiecesNow). m.called (world_now (pieces m.set m.pieces cuts) y) c) (sym z.now) z.told
calls_told m cuts g x c s path todo (Returns z) = subst (λ (y : PiecesNow). m.called (world_now (pieces m.set m.pieces cuts) y) c) (sym z.now) (m.tells_gone z.pl.id _ z.leave c z.t z.gone)

-- a going activation has had the calls of its pieces where they are
pub going_calls : (m : Model) (g : Image) (b : Begun) (act : Activation) (z : Beside m g b act) → m.called (world_now (pieces m.set m.pieces act.cuts) z.x) act.calls
going_calls m g b act z = calls_told m act.cuts g z.x act.calls act.machine z.path z.todo z.stands

-- and so has one that shows its end
pub shown_calls : (m : Model) (g : Image) (b : Begun) (act : Activation) (end : End) (z : Shown m g b act end) → m.called (world_left (ended z.leave)) act.calls
shown_calls m g b act end z = m.tells_gone z.pl.id z.place z.leave act.calls act.machine z.gone

-- ---- the instruction pointer

stands_at : (m : Model) (g : Image) (x : PiecesNow) (c : Calls) (s : State) (path : List State) (todo : ℕ) → Stands m g x c s path todo → m.followed → IsSpot 0 g.slots s
stands_at m g x c s path todo (Walks z) f = (z.spots f).0
stands_at m g x c s path todo (Leaves z) f = (z.spots f).0
stands_at m g x c s path todo (Asks z) f = (z.spots f).0
stands_at m g x c s path todo (Returns z) f = (z.spots f).0

-- a going activation stands where a slot begins
pub going_pointer : (m : Model) (g : Image) (b : Begun) (act : Activation) → Beside m g b act → m.followed → IsSpot 0 g.slots act.machine
going_pointer m g b act z = stands_at m g z.x act.calls act.machine z.path z.todo z.stands

-- ---- apart

-- an event of one activation leaves every other as it is
pub others_stay : (all : List Activation) (i k : ℕ) (b d : Activation) → k ≢ i → slice_index_or (slice_set all i b) k d ≡ slice_index_or all k d
others_stay all i k b d ne = get_or-set_other all i k b d ne
