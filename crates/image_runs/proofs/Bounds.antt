-- How many instructions make how many legs.
use Rattle.std.proofs.Common.{◌≡◌, ℕ, zero, suc, ◌+◌, ◌-◌, ◌*◌, ◌<◌, ◌≤◌, List, ◌∷◌, length, refl, sym, ap, ◌∙◌, subst, arith, None, []}
use Rattle.trace_meaning.specs.World.{World}
use Rattle.trace_meaning.specs.Legs.{Leave, Fails, Jumps, Finishes, Waits, Misfits, Wrong, Turn, On, Off, go_on, drive, In, Over, Leg, At, Ended, land, leg, legs}
use Rattle.trace_ops.specs.declared.piece.PieceId.{PieceId}
use Rattle.trace_ops.specs.declared.piece.OptOp.{OptOp}
use Rattle.opt_meaning.specs.Step.{Opt, opt_step}
use Rattle.image_runs.specs.Runs.{PieceProgram, Steady}
use Rattle.guard_exit.specs.declared.row.ExitRow.{ExitRow}
use Rattle.image_runs.specs.Session.{Activation, End, Full, Waiting, Misfitting}
use Rattle.image_runs.specs.Selection.{Model, EndsBy, ended}
use Rattle.image_runs.specs.Image.{Image, code_in, IsImage}
use Rattle.opt_meaning.specs.Pieces.{PiecesNow, pieces}
use Rattle.image_runs.specs.Kept.{leg_left, over, Ready, Ahead, Slots, Hosts, Stubs, Lost}
use Rattle.image_runs.specs.Following.{AnswersMakeNone, Begun, first_leg, Reached, Shown, Refused, Follows, Goes, Shows_end, Refuses, Strays, IsActive}
use Rattle.image_runs.proofs.Following.{Prepared, prepare, no_end, steady_under, legs_suc, times_up}
use Rattle.image_runs.specs.Relying.{Relies}

legs_on : (a : PieceProgram) (i n : ℕ) (x : Leg PieceId) → legs a (i + n) x ≡ legs a n (legs a i x)
legs_on a zero n x =
    let e : 0 + n ≡ n = omega arith in
    ap (λ (k : ℕ). legs a k x) e
legs_on a (suc i) n x =
    let e : suc i + n ≡ suc (i + n) = omega arith in
    ap (λ (k : ℕ). legs a k x) e ∙ legs_on a i n (leg a x)

legs_ended : (a : PieceProgram) (n : ℕ) (q : PieceId) (l : Leave) → legs a n (Ended q l) ≡ Ended q l
legs_ended a zero q l = refl
legs_ended a (suc n) q l = legs_ended a n q l

-- once ended, so for good
pub ended_stays : (a : PieceProgram) (i n : ℕ) (x : Leg PieceId) (q : PieceId) (l : Leave) → i ≤ n → legs a i x ≡ Ended q l → legs a n x ≡ Ended q l
ended_stays a i n x q l le e =
    let k : n ≡ i + (n - i) = omega arith in
    ap (λ (j : ℕ). legs a j x) k ∙ legs_on a i (n - i) x ∙ ap (legs a (n - i)) e ∙ legs_ended a (n - i) q l

abbrev is_at : Leg PieceId → ℕ
is_at (At q vs w) = 1
is_at (Ended q l) = 0

abbrev leave_of : Leave → Leg PieceId → Leave
leave_of d (At q vs w) = d
leave_of d (Ended q l) = l

-- ---- backward: m instructions are at most m + 1 legs

-- what has ended beside m instructions has ended after m + 1 legs
pub ended_backward : (a : PieceProgram) (b : Begun) (q : PieceId) (l : Leave) (made f n : ℕ) → Reached a b (Over q l) made f → made + 1 ≤ n → legs a n (first_leg b) ≡ Ended q l
ended_backward a b q l made f n r le =
    ended_stays a (r.whole + 1) n (first_leg b) q l (omega (arith, r.backward)) (legs_suc a r.whole (first_leg b) ∙ ap (leg a) r.begun ∙ sym r.within)

-- and what is refused at a call, too
pub left_backward : (a : PieceProgram) (b : Begun) (q : PieceId) (op : OptOp) (rest : List OptOp) (env : Opt) (l : Leave) (made f n : ℕ) → Reached a b (In q (op ∷ rest) env) made f → a.step op env ≡ Off l → (land a q l ≡ Ended q l) → made + 1 ≤ n → legs a n (first_leg b) ≡ Ended q l
left_backward a b q op rest env l made f n r off out le =
    let left : leg_left a (In q (op ∷ rest) env) ≡ Ended q l = ap (λ (t : Turn Opt). land a q (go_on t (drive a.step a.world rest))) off ∙ out in
    ended_stays a (r.whole + 1) n (first_leg b) q l (omega (arith, r.backward)) (legs_suc a r.whole (first_leg b) ∙ ap (leg a) r.begun ∙ sym r.within ∙ left)

-- ---- forward: what ends after n legs ends within (n + 1) times the code's length

less_or : (i j : ℕ) → (i ≤ j → ⊥) → j < i
less_or i j f = grind (arith, f)

-- the legs that are whole are fewer than those after which the pieces have ended
whole_less : (a : PieceProgram) (b : Begun) (x : PiecesNow) (made f : ℕ) (r : Reached a b x made f) (n : ℕ) (q : PieceId) (l : Leave) → legs a n (first_leg b) ≡ Ended q l → r.whole < n
whole_less a b x made f r n q l e = by_order r.whole refl
  where
    by_order : (w : ℕ) → r.whole ≡ w → w < n
    by_order w is = less_or n w (λ le. (let z : 1 ≡ 0 = ap is_at (sym r.begun ∙ ended_stays a n r.whole (first_leg b) q l (omega (arith, is, le)) e) in omega (arith, z)))

strays_alike : (a : PieceProgram) (b : Begun) (q r : PieceId) (w : World) (l : Leave) (made f n : ℕ) (x : Reached a b (Over q (Wrong w)) made f) → legs a n (first_leg b) ≡ Ended r l → l ≡ Wrong w
strays_alike a b q r w l made f n x e =
    let less = whole_less a b (Over q (Wrong w)) made f x n r l e in
    let one = ended_stays a (x.whole + 1) n (first_leg b) q (Wrong w) (omega (arith, less)) (legs_suc a x.whole (first_leg b) ∙ ap (leg a) x.begun ∙ sym x.within) in
    ap (leave_of l) (sym e ∙ one)

over_one : (x : PiecesNow) → over x ≤ 1
over_one (In q rest s) = omega arith
over_one (Over q l) = omega arith

-- a going activation that has made so many instructions has pieces that are wrong
pub forward_bound : Relies → (m : Model) → AnswersMakeNone m.host → Steady (pieces m.set m.pieces []) → (g : Image) (bs : List ℕ) (rows : List ExitRow) → IsImage m g bs rows → (b : Begun) (act : Activation) → IsActive m g bs b act → act.end ≡ None
    → (n : ℕ) (q : PieceId) (l : Leave) → legs (pieces m.set m.pieces act.cuts) n (first_leg b) ≡ Ended q l → (n + 1) * length (code_in g) ≤ act.machine.instructions → (w : World) × (l ≡ Wrong w)
forward_bound law m quiet steady g bs rows image b act z none n q l e long = by_follows z.follows
  where
    too_long : (p : Prepared law m quiet g bs rows image b act) → 1 ≤ p.todo → ⊥
    too_long p some =
        let less = whole_less (pieces m.set m.pieces act.cuts) b p.x act.machine.instructions act.failures p.reached n q l e in
        omega (arith, p.forward, some, long, times_up (p.reached.whole + 1 + over p.x) (n + 1) (length (code_in g)) (omega (arith, less, over_one p.x)))

    by_ready : (p : Prepared law m quiet g bs rows image b act) → Ready m g p.x act.calls act.machine p.todo → (w : World) × (l ≡ Wrong w)
    by_ready p (Ahead w path y) = absurd (too_long p (omega (arith, y.few)))
    by_ready p (Slots path y) = absurd (too_long p (omega (arith, y.few)))
    by_ready p (Hosts path y) = absurd (too_long p (omega (arith, y.few)))
    by_ready p (Stubs path y) = absurd (too_long p (omega (arith, y.few)))
    by_ready p (Lost r w is) =
        (w, strays_alike (pieces m.set m.pieces act.cuts) b r q w l act.machine.instructions act.failures n (subst (λ (y : PiecesNow). Reached (pieces m.set m.pieces act.cuts) b y act.machine.instructions act.failures) is p.reached) e)

    by_follows : Follows m g b act → (w : World) × (l ≡ Wrong w)
    by_follows (Goes nothing y) = let p = prepare law m quiet g bs rows image b act (steady_under m act.cuts steady) y in by_ready p p.ready
    by_follows (Shows_end end is y) = absurd (no_end end (sym is ∙ none))
    by_follows (Refuses end is y) = absurd (no_end end (sym is ∙ none))
    by_follows (Strays r w x) = (w, strays_alike (pieces m.set m.pieces act.cuts) b r q w l act.machine.instructions act.failures n x e)

-- ---- what an end says

-- a shown end is that of the pieces, after any number of legs above the instructions
pub shown_backward : (m : Model) (g : Image) (b : Begun) (act : Activation) (end : End) (z : Shown m g b act end) (n : ℕ) → act.machine.instructions + 1 ≤ n → legs (pieces m.set m.pieces act.cuts) n (first_leg b) ≡ Ended z.pl.id (ended z.leave)
shown_backward m g b act end z n le = ended_backward (pieces m.set m.pieces act.cuts) b z.pl.id (ended z.leave) act.machine.instructions act.failures n z.reached le

-- so is waiting
pub waits_backward : (m : Model) (g : Image) (b : Begun) (act : Activation) (z : Refused m g b act Waiting) (n : ℕ) → act.machine.instructions + 1 ≤ n → (w : World) × (legs (pieces m.set m.pieces act.cuts) n (first_leg b) ≡ Ended z.piece (Waits w)) × m.called w act.calls
waits_backward m g b act z n le = by_turn (opt_step m.set.table z.op z.env) refl z.ends
  where
    by_turn : (t : Turn Opt) → opt_step m.set.table z.op z.env ≡ t → EndsBy m z.env.world t act.calls act.machine Waiting → (w : World) × (legs (pieces m.set m.pieces act.cuts) n (first_leg b) ≡ Ended z.piece (Waits w)) × m.called w act.calls
    by_turn (Off (Waits w)) e h = (w, left_backward (pieces m.set m.pieces act.cuts) b z.piece z.op z.rest z.env (Waits w) act.machine.instructions act.failures n z.reached e refl le, h)
    by_turn (On s) e h = absurd h
    by_turn (Off (Fails k vs w)) e h = absurd h
    by_turn (Off (Jumps vs w)) e h = absurd h
    by_turn (Off (Finishes vs w)) e h = absurd h
    by_turn (Off (Misfits w)) e h = absurd h
    by_turn (Off (Wrong w)) e h = absurd h

-- and an answer that doesn't fit
pub misfits_backward : (m : Model) (g : Image) (b : Begun) (act : Activation) (call : ℕ) (z : Refused m g b act (Misfitting call)) (n : ℕ) → act.machine.instructions + 1 ≤ n → (w : World) × (legs (pieces m.set m.pieces act.cuts) n (first_leg b) ≡ Ended z.piece (Misfits w)) × m.called w act.calls × (call ≡ length w.log - 1)
misfits_backward m g b act call z n le = by_turn (opt_step m.set.table z.op z.env) refl z.ends
  where
    by_turn : (t : Turn Opt) → opt_step m.set.table z.op z.env ≡ t → EndsBy m z.env.world t act.calls act.machine (Misfitting call) → (w : World) × (legs (pieces m.set m.pieces act.cuts) n (first_leg b) ≡ Ended z.piece (Misfits w)) × m.called w act.calls × (call ≡ length w.log - 1)
    by_turn (Off (Misfits w)) e h = (w, left_backward (pieces m.set m.pieces act.cuts) b z.piece z.op z.rest z.env (Misfits w) act.machine.instructions act.failures n z.reached e refl le, h.0, h.1)
    by_turn (On s) e h = absurd h
    by_turn (Off (Fails k vs w)) e h = absurd h
    by_turn (Off (Jumps vs w)) e h = absurd h
    by_turn (Off (Finishes vs w)) e h = absurd h
    by_turn (Off (Waits w)) e h = absurd h
    by_turn (Off (Wrong w)) e h = absurd h

-- an arena that is full at a call is so beside the pieces
pub full_beside : (m : Model) (g : Image) (b : Begun) (act : Activation) (asked left : ℕ) (z : Refused m g b act (Full asked left)) → m.fills z.env.world (opt_step m.set.table z.op z.env) act.machine asked left
full_beside m g b act asked left z = full_of (opt_step m.set.table z.op z.env) z.ends
  where
    full_of : (t : Turn Opt) → EndsBy m z.env.world t act.calls act.machine (Full asked left) → m.fills z.env.world t act.machine asked left
    full_of t h = h
