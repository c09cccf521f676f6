-- Where each step only adds to its world, so does each run.
use Rattle.std.proofs.Common.{◌≡◌, ℕ, zero, suc, Option, Some, None, List, [], ◌∷◌, refl, ap, sym, ◌∙◌, subst}
use Rattle.std.proofs.lemmas.List.{append-nil}
use Rattle.trace_meaning.specs.declared.value.Value.{Value}
use Rattle.trace_meaning.specs.World.{World, failed}
use Rattle.trace_meaning.specs.Legs.{Leave, Fails, Jumps, Finishes, Waits, Misfits, Wrong, Turn, On, Off, Program, Now, In, Over, Leg, At, Ended, begins, into, enter, settle, next, run, leg, at_leg}
use Rattle.trace_meaning.specs.Observed.{world_left}
use Rattle.trace_meaning.specs.Growing.{extents, Grown, GrowsIn, waiting_left, waiting, world_now, leg_world, StepsGrow, OnlyAdds, RunsGrow}
use Rattle.trace_meaning.proofs.Running.{run-over}
use Rattle.trace_meaning.proofs.LegRuns.{leg-made}
use Rattle.trace_meaning.proofs.Growing.{grown-same, grown-twice}

abbrev grown : (w : World) → Grown w w 0
grown w = grown-same w w refl refl refl

adds_nothing : (w : World) → OnlyAdds w w
adds_nothing w = (([], sym (append-nil w.log)), ([], sym (append-nil (extents w))))

failed_grown : (w u : World) → Grown w u 0 → Grown w (failed u) 0
failed_grown w u h = grown-twice w u (failed u) 0 h (grown-same u (failed u) refl refl refl)

module _ {P O S : Type 0} (a : Program P O S) (h : StepsGrow a) where
  abbrev GrowsNow : World → Now P O S → Type 0
  GrowsNow w x = Grown w (world_now a x) (waiting x)

  begins_grown : (p : P) (vs : List Value) (w u : World) → Grown w u 0 → GrowsNow w (begins a p vs u)
  begins_grown p vs w u g = subst (λ z. Grown w z 0) (sym (h.begins p vs u)) g

  into_grows : (p : P) (n : ℕ) (vs : List Value) (w u : World) (q : Option P) → Grown w u 0 → GrowsNow w (into a p n vs u q)
  into_grows p n vs w u None g = failed_grown w u g
  into_grows p n vs w u (Some q) g = begins_grown q vs w (failed u) (failed_grown w u g)

  enter_grows : (p : P) (w : World) (l : Leave) → Grown w (world_left l) (waiting_left l) → GrowsNow w (enter a p l)
  enter_grows p w (Fails n vs u) g = into_grows p n vs w u (a.sees p n u.failures) g
  enter_grows p w (Jumps vs u) g = begins_grown (a.target p) vs w u g
  enter_grows p w (Finishes vs u) g = g
  enter_grows p w (Waits u) g = g
  enter_grows p w (Misfits u) g = g
  enter_grows p w (Wrong u) g = g

  settle_grows : (p : P) (rest : List O) (w : World) (t : Turn S) → GrowsIn a w t → GrowsNow w (settle a p rest t)
  settle_grows p rest w (On s) g = g
  settle_grows p rest w (Off l) g = enter_grows p w l g

  -- what a step makes of a run that goes on
  next_grows : (p : P) (ops : List O) (s : S) → GrowsNow (a.world s) (next a (In p ops s))
  next_grows p [] s = grown (a.world s)
  next_grows p (op ∷ ops) s = settle_grows p ops (a.world s) (a.step op s) (h.steps op s)

  more_grows : (w : World) (x : Now P O S) (n : ℕ) → ((p : P) (ops : List O) (s : S) → GrowsNow (a.world s) (run a n (In p ops s))) → GrowsNow w x → GrowsNow w (run a n x)
  more_grows w (In p ops s) n later g = grown-twice w (a.world s) (world_now a (run a n (In p ops s))) (waiting (run a n (In p ops s))) g (later p ops s)
  more_grows w (Over p l) n later g = subst (λ y. GrowsNow w y) (sym (run-over a p l n)) g

  inside-grows : (n : ℕ) (p : P) (ops : List O) (s : S) → GrowsNow (a.world s) (run a n (In p ops s))
  inside-grows zero p ops s = grown (a.world s)
  inside-grows (suc n) p ops s = more_grows (a.world s) (next a (In p ops s)) n (inside-grows n) (next_grows p ops s)

  runs-add : (n : ℕ) (x : Now P O S) → OnlyAdds (world_now a x) (world_now a (run a n x))
  runs-add n (In p ops s) = let g = inside-grows n p ops s in ((g.calls, g.log), (g.added, g.objects))
  runs-add n (Over p l) = subst (λ y. OnlyAdds (world_left l) (world_now a y)) (sym (run-over a p l n)) (adds_nothing (world_left l))

  leg_same : (x : Leg P) → world_now a (at_leg a x) ≡ leg_world x
  leg_same (At p vs w) = h.begins p vs w
  leg_same (Ended p l) = refl

  legs-add : (x : Leg P) → OnlyAdds (leg_world x) (leg_world (leg a x))
  legs-add (At p vs w) =
      let m = leg-made a p vs w in
      let g : OnlyAdds (world_now a (begins a p vs w)) (world_now a (run a m.count (begins a p vs w))) = runs-add m.count (begins a p vs w) in
      let end : world_now a (run a m.count (begins a p vs w)) ≡ leg_world (leg a (At p vs w)) = ap (world_now a) m.makes ∙ leg_same (leg a (At p vs w)) in
      subst (λ z. OnlyAdds w z) end (subst (λ z. OnlyAdds z (world_now a (run a m.count (begins a p vs w)))) (h.begins p vs w) g)
  legs-add (Ended p l) = adds_nothing (world_left l)

  pub all-grow : RunsGrow a
  all-grow = record { inside = inside-grows; runs = runs-add; legs = legs-add }
