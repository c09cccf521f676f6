-- An attachment keeps each activation beside its pieces.
use Rattle.std.proofs.Common.{◌≡◌, ℕ, ◌+◌, ◌*◌, ◌<◌, ◌≤◌, Bool, true, false, cond, List, [], ◌∷◌, ◌++◌, length, map, append_assoc, refl, sym, ap, ◌∙◌, subst, inl, inr, ◌⊎◌, arith, pos, Option, Some, None}
use Rattle.std.specs.Prelude.{nat_le, ◌&&◌, option_and_then}
use Rattle.std.specs.List.{AllByRecursion}
use Rattle.std.proofs.lemmas.List.{map-append}
use Rattle.std.proofs.lemmas.Bool.{lt-leb}
use Rattle.std.proofs.Math.Nat.{mul-le-mul_left}
use Rattle.lists.specs.Has.{Has}
use Rattle.x64_encode.specs.declared.instr.Instr.TheVariants as instr
use Rattle.x64_machine.specs.State.{State}
use Rattle.asm_select.specs.Slots.{Slot, Put, Lists, sizes_of}
use Rattle.trace_meaning.specs.declared.value.Value.{Value}
use Rattle.trace_meaning.specs.World.{World}
use Rattle.trace_meaning.specs.Legs.{Leave, Turn, drive, In, Over, run, Leg, At, land, leg}
use Rattle.trace_ops.specs.declared.piece.PieceId.{PieceId}
use Rattle.trace_ops.specs.declared.piece.OptOp.{OptOp}
use Rattle.opt_meaning.specs.Step.{Opt}
use Rattle.trace_meaning.specs.Cuts.{Cuts, seen_bridge, is_bridge_of}
use Rattle.image_runs.specs.Runs.{PieceProgram, world_now, world_leg, Steady, Grows, IsLegHere}
use Rattle.trace_ops.specs.declared.trace.Trace.{Trace}
use Rattle.opt_meaning.specs.Pieces.{seen_piece, PiecesNow, pieces, bridge_piece, piece_at}
use Rattle.image_runs.specs.Session.{Calls, Answered, Resumes, Stops, Activation, with_cut}
use Rattle.trace_meaning.specs.Observed.{world_left}
use Rattle.image_runs.specs.Selection.{Model, Placed, AnswerDoes}
use Rattle.image_runs.specs.Image.{Image, code_in, HasSlots, JumpAt, IsHere as PieceHere, IsClosed}
use Rattle.image_runs.specs.Standing.{Way, Walking, Leaving, Calling, Returning, Stands, Walks, Leaves, Asks, Returns}
use Rattle.image_runs.specs.Kept.{AreUpTo, first_of, leg_left, rest_of, over}
use Rattle.image_runs.specs.Following.{Begun, first_now, first_leg, Reached, Beside, Follows, Goes, Shows_end, Refuses, Strays, IsActive}
use Rattle.trace_ops.specs.declared.piece.Piece.{Piece}
use Rattle.image_runs.specs.Attached.{widened, AreKept, Grown}
use Rattle.image_runs.proofs.Ways.{has_more, way_more, lists_left, spot_more}
use Rattle.image_runs.specs.Reached.{IsSpot}
use Rattle.image_runs.proofs.Following.{steady_under}
use Rattle.image_runs.proofs.Running.{begins_same, run_same, leg_same, legs_same, drive_same, drive_more, leg_more, legs_here}
use Rattle.image_runs.proofs.Bytes.{length-bytes, sizes-append}
use Rattle.lists.proofs.Eaches.{each_weaker}
use Rattle.image_runs.proofs.KeptPieces.{ops_same, begin_same, target_same}

-- ---- what failures see

-- a failure before doesn't see what is attached later
pub seen_before : (g : List Trace) (cuts : Cuts) (b k p n i : ℕ) → i < k → seen_bridge g (cuts ++ (b, k) ∷ []) p n i ≡ seen_bridge g cuts p n i
seen_before g [] b k p n i h =
    let t : nat_le k i ≡ false = lt-leb k i h in
    ap (λ (x : Bool). cond (is_bridge_of g p n b && x) (Some b) None) t ∙ and_false (is_bridge_of g p n b)
  where
    and_false : (x : Bool) → cond (x && false) (Some b) None ≡ None
    and_false true = refl
    and_false false = refl
seen_before g (c ∷ cs) b k p n i h = ap (λ (o : Option ℕ). cond (is_bridge_of g p n c.0 && nat_le c.1 i) (Some c.0) o) (seen_before g cs b k p n i h)

abbrev some_of : Option ℕ → ℕ
some_of None = 0
some_of (Some n) = n

abbrev is_none : Option ℕ → ℕ
is_none None = 1
is_none (Some n) = 0

-- what is seen is attached, and a bridge of the guard
pub seen_in : (g : List Trace) (cuts : Cuts) (p n i b : ℕ) → seen_bridge g cuts p n i ≡ Some b → Has (map first_of cuts) b × (is_bridge_of g p n b ≡ true)
seen_in g [] p n i b e = absurd (let z : 1 ≡ 0 = ap is_none e in omega (arith, z))
seen_in g (c ∷ cs) p n i b e = at_first (seen_in g cs p n i b) (is_bridge_of g p n c.0) (nat_le c.1 i) refl e
  where
    at_first : (seen_bridge g cs p n i ≡ Some b → Has (map first_of cs) b × (is_bridge_of g p n b ≡ true)) → (x y : Bool) → is_bridge_of g p n c.0 ≡ x → cond (x && y) (Some c.0) (seen_bridge g cs p n i) ≡ Some b → Has (map first_of (c ∷ cs)) b × (is_bridge_of g p n b ≡ true)
    at_first go true true h f = (inl (ap some_of f), ap (is_bridge_of g p n) (sym (ap some_of f)) ∙ h)
    at_first go true false h f = let r = go f in (inr r.0, r.1)
    at_first go false y h f = let r = go f in (inr r.0, r.1)

abbrev pub place_rest : PieceId → Leave → Option (PieceId × Leave)
place_rest q l = Some (q, l)

abbrev pub place_in : PieceId → Option (PieceId × Leave) → PieceId
place_in d None = d
place_in d (Some x) = x.0

abbrev pub leave_in : Leave → Option (PieceId × Leave) → Leave
leave_in d None = d
leave_in d (Some x) = x.1

abbrev pub is_open : Option (PieceId × Leave) → ℕ
is_open None = 0
is_open (Some x) = 1

-- ---- code that grows

module _ (m : Model) (p : List Piece) (g : Image) (bs : List ℕ) (kept : AreKept m p g bs) (closed : IsClosed m g bs) (cuts : Cuts) (here : map first_of cuts ≡ bs) (bridge k : ℕ) where
  abbrev pub old : PieceProgram
  old = pieces m.set m.pieces cuts

  abbrev pub new : PieceProgram
  new = pieces m.set p (cuts ++ (bridge, k) ∷ [])

  sees_same : (q : PieceId) (n i : ℕ) → i < k → seen_piece m.set p (cuts ++ (bridge, k) ∷ []) q n i ≡ seen_piece m.set m.pieces cuts q n i
  sees_same q n i lt =
      ap (option_and_then (bridge_piece p q.half)) (seen_before m.set.traces cuts bridge k q.trace n i lt)
      ∙ then_same (seen_bridge m.set.traces cuts q.trace n i) refl
    where
      then_same : (o : Option ℕ) → seen_bridge m.set.traces cuts q.trace n i ≡ o → option_and_then (bridge_piece p q.half) o ≡ option_and_then (bridge_piece m.pieces q.half) o
      then_same None e = refl
      then_same (Some b) e = kept.bridges q.half b (subst (λ (l : List ℕ). Has l b) here (seen_in m.set.traces cuts q.trace n i b e).0)

  sees_here : (q r : PieceId) (n i : ℕ) → PieceHere g q → seen_piece m.set m.pieces cuts q n i ≡ Some r → PieceHere g r
  sees_here q r n i h = seen_here (seen_bridge m.set.traces cuts q.trace n i) refl
    where
      seen_here : (o : Option ℕ) → seen_bridge m.set.traces cuts q.trace n i ≡ o → option_and_then (bridge_piece m.pieces q.half) o ≡ Some r → PieceHere g r
      seen_here None e f = absurd (let z : 1 ≡ 0 = ap nothing f in omega (arith, z))
        where
          nothing : Option PieceId → ℕ
          nothing None = 1
          nothing (Some x) = 0
      seen_here (Some b) e f =
          let s = seen_in m.set.traces cuts q.trace n i b e in
          closed.bridges q r n b h (subst (λ (l : List ℕ). Has l b) here s.0) s.1 f

  piece_same : (q : PieceId) → PieceHere g q → piece_at p q ≡ piece_at m.pieces q
  piece_same q h = subst (λ (i : PieceId). piece_at p i ≡ piece_at m.pieces i) h.2 (kept.placed h.0 h.1)

  pub grows : Grows k (PieceHere g) old new
  grows = record {
    ops = λ q h. ops_same p m.pieces q (piece_same q h);
    begin = λ q vs w h. begin_same p m.pieces q vs w (piece_same q h);
    step = λ op s. refl;
    world = λ s. refl;
    target = λ q h. target_same p m.pieces q (piece_same q h);
    sees = λ q n i h lt. sees_same q n i lt;
    targets = closed.targets;
    bridges = λ q r n i h e. sees_here q r n i h e;
  }

  abbrev pub first_left : PieceId → List Value → World → Leave
  first_left q vs w = drive old.step old.world (old.ops q) (old.begin q vs w)

  module _ (steady : Steady old) (b : Begun) (start : PieceHere g b.piece) where
    -- the leg began with no more failures
    pub few_first : (x : PiecesNow) (made f : ℕ) (r : Reached old b x made f) → r.world.failures ≤ f
    few_first x made f r = by_stays x r.within r.stays r.counted
      where
        by_stays : (x : PiecesNow) → leg_left old x ≡ leg old (At r.piece r.values r.world) → (rest_of old x ≡ Some (r.piece, first_left r.piece r.values r.world)) ⊎ (rest_of old x ≡ None) → (world_now old x).failures ≤ f → r.world.failures ≤ f
        by_stays (In q rest s) w (inl e) c =
            let d : drive old.step old.world rest s ≡ first_left r.piece r.values r.world = ap (leave_in (first_left r.piece r.values r.world)) e in
            omega (arith, c, ap (λ (l : Leave). (world_left l).failures) d, drive_more old steady rest s, drive_more old steady (old.ops r.piece) (old.begin r.piece r.values r.world), ap (λ (u : World). u.failures) (steady.begins r.piece r.values r.world))
        by_stays (In q rest s) w (inr e) c = absurd (let n : 1 ≡ 0 = ap is_open e in omega (arith, n))
        by_stays (Over q l) w (inl e) c = absurd (let n : 0 ≡ 1 = ap is_open e in omega (arith, n))
        by_stays (Over q l) w (inr e) c = omega (arith, c, leg_more old steady (At r.piece r.values r.world), ap (λ (y : Leg PieceId). (world_leg y).failures) w)

    pub world_same : (x : PiecesNow) → world_now new x ≡ world_now old x
    world_same (In q rest s) = refl
    world_same (Over q l) = refl

    pub left_same : (q : PieceId) (vs : List Value) (w : World) → PieceHere g q → drive new.step new.world (new.ops q) (new.begin q vs w) ≡ first_left q vs w
    left_same q vs w h =
        ap (λ (ops : List OptOp). drive new.step new.world ops (new.begin q vs w)) (grows.ops q h)
        ∙ ap (λ (s : Opt). drive new.step new.world (old.ops q) s) (grows.begin q vs w h)
        ∙ drive_same old new steady k (PieceHere g) grows (old.ops q) (old.begin q vs w)

    pub rest_same : (x : PiecesNow) → rest_of new x ≡ rest_of old x
    rest_same (In q rest s) = ap (λ (l : Leave). place_rest q l) (drive_same old new steady k (PieceHere g) grows rest s)
    rest_same (Over q l) = refl

    abbrev pub reached_grown : (x : PiecesNow) (made f : ℕ) → f ≤ k → Reached old b x made f → Reached new b x made f
    reached_grown x made f few r =
        let at = At r.piece r.values r.world in
        let early = few_first x made f r in
        let there : PieceHere g r.piece = subst (IsLegHere (PieceHere g)) r.begun (legs_here old new steady k (PieceHere g) grows r.whole (first_leg b) start) in
        record {
          operations = r.operations;
          ran = ap (run new r.operations) (begins_same old new steady k (PieceHere g) grows b.piece b.values b.world start)
              ∙ run_same old new steady k (PieceHere g) grows r.operations (first_now old b) start (omega (arith, r.counted, few, ap (λ (y : PiecesNow). (world_now old y).failures) r.ran))
              ∙ r.ran;
          whole = r.whole;
          piece = r.piece;
          values = r.values;
          world = r.world;
          begun = legs_same old new steady k (PieceHere g) grows r.whole (first_leg b) start (omega (arith, early, few, ap (λ (y : Leg PieceId). (world_leg y).failures) r.begun)) ∙ r.begun;
          within = within_grown x there r.within r.stays r.counted;
          stays = stays_grown x there r.stays;
          backward = r.backward;
          counted = omega (arith, r.counted, ap (λ (w : World). w.failures) (world_same x));
        }
      where
        within_grown : (x : PiecesNow) → PieceHere g r.piece → leg_left old x ≡ leg old (At r.piece r.values r.world) → (rest_of old x ≡ Some (r.piece, first_left r.piece r.values r.world)) ⊎ (rest_of old x ≡ None) → (world_now old x).failures ≤ f → leg_left new x ≡ leg new (At r.piece r.values r.world)
        within_grown (In q rest s) there w (inl e) c =
            let d : drive old.step old.world rest s ≡ first_left r.piece r.values r.world = ap (leave_in (first_left r.piece r.values r.world)) e in
            let i : q ≡ r.piece = ap (place_in r.piece) e in
            ap (land new q) (drive_same old new steady k (PieceHere g) grows rest s ∙ d ∙ sym (left_same r.piece r.values r.world there)) ∙ ap (λ (j : PieceId). land new j (drive new.step new.world (new.ops r.piece) (new.begin r.piece r.values r.world))) i
        within_grown (In q rest s) there w (inr e) c = absurd (let n : 1 ≡ 0 = ap is_open e in omega (arith, n))
        within_grown (Over q l) there w (inl e) c = absurd (let n : 0 ≡ 1 = ap is_open e in omega (arith, n))
        within_grown (Over q l) there w (inr e) c = w ∙ sym (leg_same old new steady k (PieceHere g) grows (At r.piece r.values r.world) there (omega (arith, c, few, ap (λ (y : Leg PieceId). (world_leg y).failures) w)))

        stays_grown : (x : PiecesNow) → PieceHere g r.piece → (rest_of old x ≡ Some (r.piece, first_left r.piece r.values r.world)) ⊎ (rest_of old x ≡ None) → (rest_of new x ≡ Some (r.piece, drive new.step new.world (new.ops r.piece) (new.begin r.piece r.values r.world))) ⊎ (rest_of new x ≡ None)
        stays_grown x there (inl e) = inl (rest_same x ∙ e ∙ ap (λ (l : Leave). place_rest r.piece l) (sym (left_same r.piece r.values r.world there)))
        stays_grown x there (inr e) = inr (rest_same x ∙ e)

-- ---- places that stay

abbrev pub jump_grown : (g h : Image) → Grown g h → (e : ℕ) → JumpAt g e → JumpAt h e
jump_grown g h grown e j = record {
  front = j.front;
  slot = j.slot;
  behind = j.behind ++ grown.more;
  split = grown.slots ∙ ap (λ (l : List Slot). l ++ grown.more) j.split ∙ append_assoc j.front (j.slot ∷ j.behind) grown.more;
  jump = j.jump;
}

pub has_grown : (g h : Image) → Grown g h → (q : ℕ) (xs : List Slot) → HasSlots g.slots q xs → HasSlots h.slots q xs
has_grown g h grown q xs z = subst (λ (l : List Slot). HasSlots l q xs) (sym grown.slots) (has_more g.slots grown.more q xs z)

way_grown : (g h : Image) → Grown g h → (path : List State) (s t : State) → Way g.slots path s t → Way h.slots path s t
way_grown g h grown path s t w = subst (λ (l : List Slot). Way l path s t) (sym grown.slots) (way_more g.slots grown.more path s t w)

spots_grown : (g h : Image) → Grown g h → (us : List State) → AllByRecursion (IsSpot 0 g.slots) us → AllByRecursion (IsSpot 0 h.slots) us
spots_grown g h grown us k = subst (λ (l : List Slot). AllByRecursion (IsSpot 0 l) us) (sym grown.slots) (each_weaker (IsSpot 0 g.slots) (IsSpot 0 (g.slots ++ grown.more)) (spot_more g.slots grown.more) us k)

module _ (m : Model) (p : List Piece) (g h : Image) (bs : List ℕ) (kept : AreKept m p g bs) (grown : Grown g h) where
  walking_grown : (x : PiecesNow) (c : Calls) (s : State) (path : List State) (todo : ℕ) → Walking m g x c s path todo → Walking (widened m p) h x c s path todo
  walking_grown x c s path todo z = record {
    pl = z.pl;
    there = grown.placed z.pl z.there;
    rest = z.rest;
    env = z.env;
    now = z.now;
    some = z.some;
    spot = record { done = z.spot.done; before = z.spot.before; more = z.spot.more; ops = ops_same p m.pieces z.pl.id (kept.placed z.pl z.there) ∙ z.spot.ops; codes = z.spot.codes; same = z.spot.same; ahead = z.spot.ahead };
    t = z.t;
    way = way_grown g h grown path s z.t z.way;
    spots = λ f. spots_grown g h grown (s ∷ path) (z.spots f);
    at = z.at;
    holds = z.holds;
    few = z.few;
  }

  leaving_grown : (x : PiecesNow) (c : Calls) (s : State) (path : List State) (todo : ℕ) → Leaving m g x c s path todo → Leaving (widened m p) h x c s path todo
  leaving_grown x c s path todo z = record {
    pl = z.pl;
    there = grown.placed z.pl z.there;
    op = z.op;
    rest = z.rest;
    env = z.env;
    now = z.now;
    done = z.done;
    ops = ops_same p m.pieces z.pl.id (kept.placed z.pl z.there) ∙ z.ops;
    leave = z.leave;
    off = z.off;
    told = z.told;
    kind = z.kind;
    front = z.front;
    slot = z.slot;
    behind = z.behind ++ grown.more;
    split = grown.slots ∙ ap (λ (l : List Slot). l ++ grown.more) z.split ∙ append_assoc z.front (z.slot ∷ z.behind) grown.more;
    t = z.t;
    way = way_grown g h grown path s z.t z.way;
    spots = λ f. spots_grown g h grown (s ∷ path) (z.spots f);
    at = z.at;
    taken = z.taken;
    left = z.left;
    few = z.few;
  }

  pub answer_grown : (pl : Placed) (j q : ℕ) (rest more : List Slot) (w : World) (turn : Turn Opt) (s : State) (o : Answered) → AnswerDoes m pl j q rest more w turn s o → AnswerDoes (widened m p) pl j q rest more w turn s o
  answer_grown pl j q rest more w turn s (Resumes c u) a = a
  answer_grown pl j q rest more w turn s (Stops c end) a = a

  calling_grown : (x : PiecesNow) (c : Calls) (s : State) (path : List State) (todo : ℕ) → Calling m g x c s path todo → Calling (widened m p) h x c s path todo
  calling_grown x c s path todo z = record {
    pl = z.pl;
    there = grown.placed z.pl z.there;
    op = z.op;
    rest = z.rest;
    env = z.env;
    now = z.now;
    done = z.done;
    before = z.before;
    xs = z.xs;
    more = z.more;
    ops = ops_same p m.pieces z.pl.id (kept.placed z.pl z.there) ∙ z.ops;
    codes = z.codes;
    same = z.same;
    ahead = z.ahead;
    told = z.told;
    register = z.register;
    behind = z.behind;
    t = z.t;
    q = z.q;
    way = way_grown g h grown path s z.t z.way;
    spots = λ f. spots_grown g h grown (s ∷ path) (z.spots f);
    at = z.at;
    stands = has_grown g h grown z.q (Put (instr.CallReg z.register) ∷ z.behind) z.stands;
    meets = z.meets;
    call = record { entry = z.call.entry; stopped = z.call.stopped; stops = z.call.stops; answered = λ o a. answer_grown z.pl (length z.before) _ z.behind _ _ _ _ o (z.call.answered o a) };
    few = z.few;
  }

  returning_grown : (x : PiecesNow) (c : Calls) (s : State) (path : List State) (todo : ℕ) → Returning m g x c s path todo → Returning (widened m p) h x c s path todo
  returning_grown x c s path todo z = record {
    pl = z.pl;
    there = grown.placed z.pl z.there;
    op = z.op;
    rest = z.rest;
    done = z.done;
    ops = ops_same p m.pieces z.pl.id (kept.placed z.pl z.there) ∙ z.ops;
    leave = z.leave;
    kind = z.kind;
    now = z.now;
    t = z.t;
    way = way_grown g h grown path s z.t z.way;
    spots = λ f. spots_grown g h grown (s ∷ path) (z.spots f);
    returned = λ by code small l. z.returned by code small (lists_left by code 0 g.slots grown.more (subst (Lists by code 0) grown.slots l));
    jump = jump_grown g h grown _ z.jump;
    number = z.number ∙ ap (λ (n : ℕ). pos n) (sym (grown.numbers _ z.jump));
    gone = z.gone;
    few = z.few;
  }

  stands_grown : (x : PiecesNow) (c : Calls) (s : State) (path : List State) (todo : ℕ) → Stands m g x c s path todo → Stands (widened m p) h x c s path todo
  stands_grown x c s path todo (Walks z) = Walks (walking_grown x c s path todo z)
  stands_grown x c s path todo (Leaves z) = Leaves (leaving_grown x c s path todo z)
  stands_grown x c s path todo (Asks z) = Asks (calling_grown x c s path todo z)
  stands_grown x c s path todo (Returns z) = Returns (returning_grown x c s path todo z)

  longer : length (code_in g) ≤ length (code_in h)
  longer = omega (arith, length-bytes g.by g.slots, length-bytes h.by h.slots, ap sizes_of grown.slots, sizes-append g.slots grown.more)

  times_longer : (n : ℕ) → n * length (code_in g) ≤ n * length (code_in h)
  times_longer n = mul-le-mul_left n longer

  module _ (closed : IsClosed m g bs) (steady : Steady (pieces m.set m.pieces [])) (b : Begun) (start : PieceHere g b.piece) (act : Activation) (here : map first_of act.cuts ≡ bs) (bridge : ℕ) where
    abbrev grow : (x : PiecesNow) → Reached (pieces m.set m.pieces act.cuts) b x act.machine.instructions act.failures → Reached (pieces m.set p (with_cut bridge act).cuts) b x act.machine.instructions act.failures
    grow x r = reached_grown m p g bs kept closed act.cuts here bridge act.failures (steady_under m act.cuts steady) b start x act.machine.instructions act.failures (omega arith) r

    beside_grown : Beside m g b act → Beside (widened m p) h b (with_cut bridge act)
    beside_grown z = record {
      x = z.x;
      reached = grow z.x z.reached;
      path = z.path;
      todo = z.todo;
      stands = stands_grown z.x act.calls act.machine z.path z.todo z.stands;
      exact = ap (λ (w : World). w.failures) (world_same m p g bs kept closed act.cuts here bridge act.failures (steady_under m act.cuts steady) b start z.x) ∙ z.exact;
      forward = omega (arith, z.forward, times_longer (z.reached.whole + 1 + over z.x));
    }

    follows_grown : Follows m g b act → Follows (widened m p) h b (with_cut bridge act)
    follows_grown (Goes none z) = Goes none (beside_grown z)
    follows_grown (Shows_end end is z) = Shows_end end is (record { pl = z.pl; place = z.place; leave = z.leave; reached = grow _ z.reached; gone = z.gone; row = z.row; row_is = z.row_is; shows = z.shows })
    follows_grown (Refuses end is z) = Refuses end is (record { piece = z.piece; op = z.op; rest = z.rest; env = z.env; reached = grow _ z.reached; ends = z.ends })
    follows_grown (Strays q w r) = Strays q w (grow _ r)

upto_cut : (k : ℕ) (cuts : Cuts) (b : ℕ) → AreUpTo k cuts → AreUpTo k (cuts ++ (b, k) ∷ [])
upto_cut k [] b u = (omega arith, tt)
upto_cut k (c ∷ cs) b u = (u.0, upto_cut k cs b u.1)

-- an attachment keeps every activation, and its failures so far
pub attachment_keeps : (m : Model) (p : List Piece) (g h : Image) (bs : List ℕ) → AreKept m p g bs → Grown g h → IsClosed m g bs → Steady (pieces m.set m.pieces []) → (b : Begun) → PieceHere g b.piece → (bridge : ℕ) (act : Activation) → IsActive m g bs b act → IsActive (widened m p) h (bs ++ bridge ∷ []) b (with_cut bridge act)
attachment_keeps m p g h bs kept grown closed steady b start bridge act z = record {
  follows = follows_grown m p g h bs kept grown closed steady b start act z.cuts bridge z.follows;
  cuts = map-append first_of act.cuts ((bridge, act.failures) ∷ []) ∙ ap (λ (l : List ℕ). l ++ bridge ∷ []) z.cuts;
  upto = upto_cut act.failures act.cuts bridge z.upto;
}
