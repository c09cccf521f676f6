-- A run is the same under cuts that grow, up to the failures so far.
use Rattle.std.proofs.Common.{◌≡◌, ℕ, zero, suc, ◌+◌, ◌<◌, ◌≤◌, List, [], ◌∷◌, Option, Some, None, refl, ap, ◌∙◌, arith}
use Rattle.trace_meaning.specs.declared.value.Value.{Value}
use Rattle.trace_meaning.specs.World.{World, failed}
use Rattle.trace_meaning.specs.Legs.{Leave, Fails, Jumps, Finishes, Waits, Misfits, Wrong, Turn, On, Off, go_on, drive, In, Over, begins, into, enter, settle, next, run, Leg, At, Ended, into_leg, land, leg, legs}
use Rattle.trace_ops.specs.declared.piece.PieceId.{PieceId}
use Rattle.trace_ops.specs.declared.piece.OptOp.{OptOp}
use Rattle.opt_meaning.specs.Step.{Opt}
use Rattle.image_runs.specs.Runs.{PieceProgram, world_now, world_leg, Steady, Grows, IsHere, IsLegHere}
use Rattle.opt_meaning.specs.Pieces.{PiecesNow}
use Rattle.trace_meaning.specs.Observed.{world_left}

pub failures : PieceProgram → PiecesNow → ℕ
failures a x = (world_now a x).failures

module _ (a : PieceProgram) (steady : Steady a) where
  into_more : (p : PieceId) (n : ℕ) (vs : List Value) (w : World) (o : Option PieceId) → (world_now a (into a p n vs w o)).failures ≡ w.failures + 1
  into_more p n vs w None = refl
  into_more p n vs w (Some q) = ap (λ (u : World). u.failures) (steady.begins q vs (failed w))

  enter_more : (p : PieceId) (l : Leave) → (world_left l).failures ≤ (world_now a (enter a p l)).failures
  enter_more p (Fails n vs w) = omega (arith, into_more p n vs w (a.sees p n w.failures))
  enter_more p (Jumps vs w) = omega (arith, ap (λ (u : World). u.failures) (steady.begins (a.target p) vs w))
  enter_more p (Finishes vs w) = omega arith
  enter_more p (Waits w) = omega arith
  enter_more p (Misfits w) = omega arith
  enter_more p (Wrong w) = omega arith

  settle_more : (p : PieceId) (xs : List OptOp) (op : OptOp) (s : Opt) (t : Turn Opt) → a.step op s ≡ t → (a.world s).failures ≤ (world_now a (settle a p xs t)).failures
  settle_more p xs op s (On u) e = omega (arith, steady.goes op s u e)
  settle_more p xs op s (Off l) e = omega (arith, steady.leaves op s l e, enter_more p l)

  next_more : (x : PiecesNow) → (world_now a x).failures ≤ (world_now a (next a x)).failures
  next_more (In p [] s) = omega arith
  next_more (In p (op ∷ xs) s) = settle_more p xs op s (a.step op s) refl
  next_more (Over p l) = omega arith

  pub run_more : (n : ℕ) (x : PiecesNow) → (world_now a x).failures ≤ (world_now a (run a n x)).failures
  run_more zero x = omega arith
  run_more (suc n) x = omega (arith, next_more x, run_more n (next a x))

  into_leg_more : (p : PieceId) (n : ℕ) (vs : List Value) (w : World) (o : Option PieceId) → (world_leg (into_leg p n vs w o)).failures ≡ w.failures + 1
  into_leg_more p n vs w None = refl
  into_leg_more p n vs w (Some q) = refl

  land_more : (p : PieceId) (l : Leave) → (world_left l).failures ≤ (world_leg (land a p l)).failures
  land_more p (Fails n vs w) = omega (arith, into_leg_more p n vs w (a.sees p n w.failures))
  land_more p (Jumps vs w) = omega arith
  land_more p (Finishes vs w) = omega arith
  land_more p (Waits w) = omega arith
  land_more p (Misfits w) = omega arith
  land_more p (Wrong w) = omega arith

  drive_turn : (op : OptOp) (ops : List OptOp) (s : Opt) (t : Turn Opt) → a.step op s ≡ t → ((u : Opt) → (world_left (drive a.step a.world ops u)).failures ≡ (a.world u).failures) → (world_left (go_on t (drive a.step a.world ops))).failures ≡ (a.world s).failures
  drive_turn op ops s (On u) e later = later u ∙ steady.goes op s u e
  drive_turn op ops s (Off l) e later = steady.leaves op s l e

  pub drive_more : (ops : List OptOp) (s : Opt) → (world_left (drive a.step a.world ops s)).failures ≡ (a.world s).failures
  drive_more [] s = refl
  drive_more (op ∷ ops) s = drive_turn op ops s (a.step op s) refl (drive_more ops)

  pub leg_more : (x : Leg PieceId) → (world_leg x).failures ≤ (world_leg (leg a x)).failures
  leg_more (At p vs w) = omega (arith, land_more p (drive a.step a.world (a.ops p) (a.begin p vs w)), drive_more (a.ops p) (a.begin p vs w), ap (λ (u : World). u.failures) (steady.begins p vs w))
  leg_more (Ended p l) = omega arith

  pub legs_more : (n : ℕ) (x : Leg PieceId) → (world_leg x).failures ≤ (world_leg (legs a n x)).failures
  legs_more zero x = omega arith
  legs_more (suc n) x = omega (arith, leg_more x, legs_more n (leg a x))

module _ (a b : PieceProgram) (steady : Steady a) (k : ℕ) (here : PieceId → Type 0) (g : Grows k here a b) where
  pub begins_same : (q : PieceId) (vs : List Value) (w : World) → here q → begins b q vs w ≡ begins a q vs w
  begins_same q vs w h = ap (λ (ops : List OptOp). In q ops (b.begin q vs w)) (g.ops q h) ∙ ap (λ (s : Opt). In q (a.ops q) s) (g.begin q vs w h)

  into_same : (p : PieceId) (n : ℕ) (vs : List Value) (w : World) → here p → (o : Option PieceId) → a.sees p n w.failures ≡ o → into b p n vs w o ≡ into a p n vs w o
  into_same p n vs w h None e = refl
  into_same p n vs w h (Some q) e = begins_same q vs (failed w) (g.bridges p q n w.failures h e)

  enter_same : (p : PieceId) (l : Leave) → here p → (world_now a (enter a p l)).failures ≤ k → enter b p l ≡ enter a p l
  enter_same p (Fails n vs w) h few =
      let lt : w.failures < k = omega (arith, few, into_more a steady p n vs w (a.sees p n w.failures)) in
      ap (into b p n vs w) (g.sees p n w.failures h lt) ∙ into_same p n vs w h (a.sees p n w.failures) refl
  enter_same p (Jumps vs w) h few = ap (λ (q : PieceId). begins b q vs w) (g.target p h) ∙ begins_same (a.target p) vs w (g.targets p h)
  enter_same p (Finishes vs w) h few = refl
  enter_same p (Waits w) h few = refl
  enter_same p (Misfits w) h few = refl
  enter_same p (Wrong w) h few = refl

  settle_same : (p : PieceId) (xs : List OptOp) (t : Turn Opt) → here p → (world_now a (settle a p xs t)).failures ≤ k → settle b p xs t ≡ settle a p xs t
  settle_same p xs (On s) h few = refl
  settle_same p xs (Off l) h few = enter_same p l h few

  next_same : (x : PiecesNow) → IsHere here x → (world_now a (next a x)).failures ≤ k → next b x ≡ next a x
  next_same (In p [] s) h few = ap (λ (w : World). Over p (Wrong w)) (g.world s)
  next_same (In p (op ∷ xs) s) h few = ap (settle b p xs) (g.step op s) ∙ settle_same p xs (a.step op s) h few
  next_same (Over p l) h few = refl

  into_here : (p : PieceId) (n : ℕ) (vs : List Value) (w : World) (o : Option PieceId) → here p → a.sees p n w.failures ≡ o → IsHere here (into a p n vs w o)
  into_here p n vs w None h e = tt
  into_here p n vs w (Some q) h e = g.bridges p q n w.failures h e

  enter_here : (p : PieceId) (l : Leave) → here p → IsHere here (enter a p l)
  enter_here p (Fails n vs w) h = into_here p n vs w (a.sees p n w.failures) h refl
  enter_here p (Jumps vs w) h = g.targets p h
  enter_here p (Finishes vs w) h = tt
  enter_here p (Waits w) h = tt
  enter_here p (Misfits w) h = tt
  enter_here p (Wrong w) h = tt

  settle_here : (p : PieceId) (xs : List OptOp) (t : Turn Opt) → here p → IsHere here (settle a p xs t)
  settle_here p xs (On s) h = h
  settle_here p xs (Off l) h = enter_here p l h

  next_here : (x : PiecesNow) → IsHere here x → IsHere here (next a x)
  next_here (In p [] s) h = tt
  next_here (In p (op ∷ xs) s) h = settle_here p xs (a.step op s) h
  next_here (Over p l) h = tt

  pub run_same : (n : ℕ) (x : PiecesNow) → IsHere here x → (world_now a (run a n x)).failures ≤ k → run b n x ≡ run a n x
  run_same zero x h few = refl
  run_same (suc n) x h few =
      ap (run b n) (next_same x h (omega (arith, few, run_more a steady n (next a x)))) ∙ run_same n (next a x) (next_here x h) few

  drive_turn_same : (ops : List OptOp) (t : Turn Opt) → ((u : Opt) → drive b.step b.world ops u ≡ drive a.step a.world ops u) → go_on t (drive b.step b.world ops) ≡ go_on t (drive a.step a.world ops)
  drive_turn_same ops (On u) later = later u
  drive_turn_same ops (Off l) later = refl

  pub drive_same : (ops : List OptOp) (s : Opt) → drive b.step b.world ops s ≡ drive a.step a.world ops s
  drive_same [] s = ap Wrong (g.world s)
  drive_same (op ∷ ops) s = ap (λ (t : Turn Opt). go_on t (drive b.step b.world ops)) (g.step op s) ∙ drive_turn_same ops (a.step op s) (drive_same ops)

  into_leg_here : (p : PieceId) (n : ℕ) (vs : List Value) (w : World) (o : Option PieceId) → here p → a.sees p n w.failures ≡ o → IsLegHere here (into_leg p n vs w o)
  into_leg_here p n vs w None h e = tt
  into_leg_here p n vs w (Some q) h e = g.bridges p q n w.failures h e

  land_here : (p : PieceId) (l : Leave) → here p → IsLegHere here (land a p l)
  land_here p (Fails n vs w) h = into_leg_here p n vs w (a.sees p n w.failures) h refl
  land_here p (Jumps vs w) h = g.targets p h
  land_here p (Finishes vs w) h = tt
  land_here p (Waits w) h = tt
  land_here p (Misfits w) h = tt
  land_here p (Wrong w) h = tt

  pub leg_here : (x : Leg PieceId) → IsLegHere here x → IsLegHere here (leg a x)
  leg_here (At p vs w) h = land_here p (drive a.step a.world (a.ops p) (a.begin p vs w)) h
  leg_here (Ended p l) h = tt

  pub legs_here : (n : ℕ) (x : Leg PieceId) → IsLegHere here x → IsLegHere here (legs a n x)
  legs_here zero x h = h
  legs_here (suc n) x h = legs_here n (leg a x) (leg_here x h)

  pub run_here : (n : ℕ) (x : PiecesNow) → IsHere here x → IsHere here (run a n x)
  run_here zero x h = h
  run_here (suc n) x h = run_here n (next a x) (next_here x h)

  land_same : (p : PieceId) (l : Leave) → here p → (world_leg (land a p l)).failures ≤ k → land b p l ≡ land a p l
  land_same p (Fails n vs w) h few =
      let lt : w.failures < k = omega (arith, few, into_leg_more a steady p n vs w (a.sees p n w.failures)) in
      ap (into_leg p n vs w) (g.sees p n w.failures h lt)
  land_same p (Jumps vs w) h few = ap (λ (q : PieceId). At q vs w) (g.target p h)
  land_same p (Finishes vs w) h few = refl
  land_same p (Waits w) h few = refl
  land_same p (Misfits w) h few = refl
  land_same p (Wrong w) h few = refl

  pub leg_same : (x : Leg PieceId) → IsLegHere here x → (world_leg (leg a x)).failures ≤ k → leg b x ≡ leg a x
  leg_same (At p vs w) h few =
      ap (λ (ops : List OptOp). land b p (drive b.step b.world ops (b.begin p vs w))) (g.ops p h)
      ∙ ap (λ (s : Opt). land b p (drive b.step b.world (a.ops p) s)) (g.begin p vs w h)
      ∙ ap (land b p) (drive_same (a.ops p) (a.begin p vs w))
      ∙ land_same p (drive a.step a.world (a.ops p) (a.begin p vs w)) h few
  leg_same (Ended p l) h few = refl

  pub legs_same : (n : ℕ) (x : Leg PieceId) → IsLegHere here x → (world_leg (legs a n x)).failures ≤ k → legs b n x ≡ legs a n x
  legs_same zero x h few = refl
  legs_same (suc n) x h few =
      ap (legs b n) (leg_same x h (omega (arith, few, legs_more a steady n (leg a x)))) ∙ legs_same n (leg a x) (leg_here x h) few
