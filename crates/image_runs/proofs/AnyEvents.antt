-- Any list of events keeps every activation beside its pieces.
use Rattle.std.proofs.Common.{◌≡◌, ℕ, zero, suc, ◌+◌, ◌*◌, ◌≤◌, List, [], ◌∷◌, ◌++◌, length, take, map, refl, sym, ap, ◌∙◌, subst, inl, arith, Some}
use Rattle.std.specs.Prelude.{slice_get}
use Rattle.std.specs.List.{All}
use Rattle.std.proofs.lemmas.List.{length-append, map-append}
use Rattle.std.proofs.lemmas.List.Elements.{All-append, All-map}
use Rattle.std.proofs.lemmas.Option.{slice_get_within, get_or_from_slice_get}
use Rattle.std.proofs.Math.Seq.{take-suc}
use Rattle.x64_machine.specs.State.{State}
use Rattle.trace_meaning.specs.declared.value.Value.{Value}
use Rattle.trace_meaning.specs.declared.call.Answer.{Answer}
use Rattle.trace_ops.specs.declared.table.Table.{Table}
use Rattle.trace_ops.specs.declared.piece.PieceId.{PieceId}
use Rattle.guard_exit.specs.declared.row.ExitRow.{ExitRow}
use Rattle.image_runs.specs.Printed.{Part, Printed, rows_at, bridges_at, code_at}
use Rattle.image_runs.specs.Session.{Activation, Host, Event, Goes as Goes_event, Fails as Fails_event, Calls_on, Calls_ends, Returns as Returns_event, NoRow, NoWord, NoCode, NoFlag, Stays, no_calls, Session, SessionStep, Start, Step, Attach, SessionRun, Done, Then, first, cuts_at, with_cut}
use Rattle.image_runs.specs.Selection.{Model, joined, code_of}
use Rattle.image_runs.specs.Image.{Image, IsHere, code_in, IsImage}
use Rattle.image_runs.specs.Standing.{Walking, Walks}
use Rattle.image_runs.specs.Kept.{AreUpTo, first_of}
use Rattle.trace_ops.specs.declared.piece.Piece.{Piece}
use Rattle.image_runs.specs.Attached.{widened}
use Rattle.lists.proofs.Alls.{all_at, all_set, all_weaker}
use Rattle.image_runs.specs.Following.{AnswersMakeNone, Begun, begun_of, first_now, Goes, IsActive}
use Rattle.opt_meaning.specs.Pieces.{pieces, preamble, ops_at, begin_at}
use Rattle.image_runs.specs.Sessions.{Begins, ImageStands, OneStands, SessionStands}
use Rattle.image_runs.proofs.Ways.{way_reached, spots_reached}
use Rattle.image_runs.proofs.Settling.{behind}
use Rattle.image_runs.proofs.Stepping.{has_length}
use Rattle.image_runs.proofs.Following.{event_keeps}
use Rattle.image_runs.proofs.Attaching.{attachment_keeps}
use Rattle.image_runs.proofs.Steadying.{pieces_steady}
use Rattle.image_runs.specs.Relying.{Relies}
use Rattle.image_runs.proofs.Bytes.{length-bytes, slots_few}

-- ---- starts

firsts : (bs : List ℕ) → map first_of (map (λ (b : ℕ). (b, 0)) bs) ≡ bs
firsts [] = refl
firsts (b ∷ bs) = ap (λ (l : List ℕ). b ∷ l) (firsts bs)

upto_none : (bs : List ℕ) → AreUpTo 0 (map (λ (b : ℕ). (b, 0)) bs)
upto_none [] = tt
upto_none (b ∷ bs) = (omega arith, upto_none bs)

pub starts_active : Relies → (m : Model) (g : Image) (im : Printed) (j : ℕ) (rows : List ExitRow) → IsImage m g (bridges_at im j) rows → (trace : ℕ) (inputs : List Value) (given : List Answer) (s : State) → Begins m g trace inputs given s → IsActive m g (bridges_at im j) (begun_of m.set.table (first im j trace inputs given s)) (first im j trace inputs given s)
starts_active law m g im j rows image trace inputs given s z =
    let a = pieces m.set m.pieces (cuts_at im j) in
    let b = begun_of m.set.table (first im j trace inputs given s) in
    let c = no_calls given in
    let placed = image.pieces z.pl z.there in
    let x = first_now a b in
    let r = z.enters in
    let walk : Walking m g x c s r.run.path (length r.run.path + length (joined z.pl.codes)) = record {
      pl = z.pl;
      there = z.there;
      rest = ops_at m.pieces z.pl.id;
      env = begin_at m.pieces z.pl.id b.values b.world;
      now = ap (λ (q : PieceId). first_now a (record { piece = q; values = b.values; world = b.world })) (sym z.named);
      some = placed.does.some;
      spot = record { done = []; before = []; more = z.pl.codes; ops = refl; codes = refl; same = refl; ahead = placed.does.counts };
      t = r.run.t;
      way = way_reached g.slots z.pl.at (code_of z.pl) (joined z.pl.codes) s placed.here r;
      spots = spots_reached g.slots z.pl.at (code_of z.pl) (joined z.pl.codes) s placed.here z.at r;
      at = omega (arith, r.run.at, r.run.place, behind z.pl.moves r.run.front (joined z.pl.codes) r.run.split);
      holds = r.run.holds;
      few = omega arith;
    } in
    let fits : length r.run.path + length (joined z.pl.codes) ≤ length (code_in g) = omega (arith, r.run.few, length-append z.pl.moves (joined z.pl.codes), has_length g.slots z.pl.at (code_of z.pl) placed.here, slots_few law g.slots, length-bytes g.by g.slots) in
    let once : (0 + 1 + 0) * length (code_in g) ≡ length (code_in g) = omega arith in
    record {
      follows = Goes refl (record {
        x = x;
        reached = record { operations = 0; ran = refl; whole = 0; piece = b.piece; values = b.values; world = b.world; begun = refl; within = refl; stays = inl refl; backward = omega arith; counted = omega arith };
        path = r.run.path;
        todo = length r.run.path + length (joined z.pl.codes);
        stands = Walks walk;
        exact = refl;
        forward = omega (arith, z.none, fits, once);
      });
      cuts = firsts (bridges_at im j);
      upto = upto_none (bridges_at im j);
    }

-- ---- events

pub bridges_next : (im : Printed) (j : ℕ) (x : Part) → slice_get im.parts j ≡ Some x → bridges_at im (j + 1) ≡ bridges_at im j ++ x.bridge ∷ []
bridges_next im j x e =
    let n : j + 1 ≡ suc j = omega arith in
    let f = λ (y : Part). y.bridge in
    ap (λ (k : ℕ). map f (take k im.parts)) n
    ∙ ap (map f) (take-suc im.parts j x (slice_get_within im.parts j x e))
    ∙ ap (λ (y : Part). map f (take j im.parts ++ y ∷ [])) (get_or_from_slice_get im.parts j x x e)
    ∙ map-append f (take j im.parts) (x ∷ [])

All-one : (P : Activation → Type 0) (x : Activation) → P x → All P (x ∷ [])
All-one P x h zero d lt = h
All-one P x h (suc k) d lt = absurd (omega (arith, lt))

-- an event changes nothing of what the start was given
same_start : (h : Host) (code : List ℕ) (rows : List ExitRow) (t : Table) (a b : Activation) → Event h code rows a b → (begun_of t b ≡ begun_of t a) × (b.trace ≡ a.trace)
same_start h code rows t a b (Goes_event x n s u) = (refl, refl)
same_start h code rows t a b (Fails_event x n s u) = (refl, refl)
same_start h code rows t a b (Calls_on entry x u calls n s y) = (refl, refl)
same_start h code rows t a b (Calls_ends entry x calls end n s y) = (refl, refl)
same_start h code rows t a b (Returns_event row end n s i k y) = (refl, refl)
same_start h code rows t a b (NoRow n s y) = (refl, refl)
same_start h code rows t a b (NoWord at n s) = (refl, refl)
same_start h code rows t a b (NoCode at n s) = (refl, refl)
same_start h code rows t a b (NoFlag at n s) = (refl, refl)
same_start h code rows t a b (Stays end e) = (refl, refl)

module _ (law : Relies) (m : Model) (quiet : AnswersMakeNone m.host) (p : ℕ → List Piece) (g : ℕ → Image) (im : Printed) (z : ImageStands m p g im) where
  pub step_keeps : (s t : Session) → SessionStands m p g im s → SessionStep m.host im s t → SessionStands m p g im t
  step_keeps s t h (Start trace entry inputs given machine there starts) =
      let j = s.parts in
      let act = first im j trace inputs given machine in
      let y = z.begins j h.within trace entry inputs given machine there starts in
      let one : OneStands m p g im j act = ((y.pl, y.there, y.named), starts_active law (widened m (p j)) (g j) im j (rows_at im j) (z.image j h.within) trace inputs given machine y) in
      record { within = h.within; each = All-append (OneStands m p g im j) s.activations (act ∷ []) h.each (All-one (OneStands m p g im j) act one) }
  step_keeps s t h (Step i a b e event) =
      let j = s.parts in
      let one = all_at (OneStands m p g im j) s.activations i a h.each e in
      let same = same_start m.host (code_at im j) (rows_at im j) m.set.table a b event in
      let moved : Event m.host (code_in (g j)) (rows_at im j) a b = subst (λ (code : List ℕ). Event m.host code (rows_at im j) a b) (z.code j h.within) event in
      let kept = event_keeps law (widened m (p j)) quiet (pieces_steady m.set (p j) []) (g j) (bridges_at im j) (rows_at im j) (z.image j h.within) (begun_of m.set.table a) a b one.1 moved in
      let here : IsHere (g j) (preamble b.trace) = subst (λ (k : ℕ). IsHere (g j) (preamble k)) (sym same.1) one.0 in
      let active : IsActive (widened m (p j)) (g j) (bridges_at im j) (begun_of m.set.table b) b = subst (λ (x : Begun). IsActive (widened m (p j)) (g j) (bridges_at im j) x b) (sym same.0) kept in
      record { within = h.within; each = all_set (OneStands m p g im j) s.activations i b (here, active) h.each }
  step_keeps s t h (Attach x e) =
      let j = s.parts in
      let less = slice_get_within im.parts j x e in
      let grown = z.grown j less in
      let image = z.image j h.within in
      record {
        within = omega (arith, less);
        each = All-map (OneStands m p g im (j + 1)) (with_cut x.bridge) s.activations (all_weaker (OneStands m p g im j) (λ a. OneStands m p g im (j + 1) (with_cut x.bridge a)) s.activations (λ a one. (
          (one.0.0, grown.placed one.0.0 one.0.1, one.0.2),
          subst (λ (bs : List ℕ). IsActive (widened m (p (j + 1))) (g (j + 1)) bs (begun_of m.set.table a) (with_cut x.bridge a)) (sym (bridges_next im j x e))
              (attachment_keeps (widened m (p j)) (p (j + 1)) (g j) (g (j + 1)) (bridges_at im j) (z.kept j less) grown image.closed (pieces_steady m.set (p j) []) (begun_of m.set.table a) one.0 x.bridge a one.1),
        )) h.each);
      }

  -- any list of events
  pub run_keeps : (s t : Session) → SessionStands m p g im s → SessionRun m.host im s t → SessionStands m p g im t
  run_keeps s t h (Done u) = h
  run_keeps s t h (Then u v w step rest) = run_keeps v w (step_keeps u v h step) rest
