use Rattle.std.proofs.Common.{◌≡◌, ◌-◌, ◌+◌, ap, sym, subst, arith}
use Rattle.resume_rebuild.proofs.Noting.{AreNotedFrom, noted_none, noted_step, noted_all}
use Rattle.resume_rebuild.proofs.places.note_places.Goals as goal

pub loop-k-init : goal.loop-k-init
loop-k-init c = record { noted = noted_none c.args.places.now _ c.args.noted.now.items (omega arith); within = omega arith }

pub loop-k-preserved : goal.loop-k-preserved
loop-k-preserved c = record {
  noted = noted_step c.args.places.now c.loop-k.k _ c.loop-k.noted.items c.note.new.noted.items c.loop-k-test.true c.loop-k.invariant.within c.loop-k.invariant.noted c.note.ensures;
  within = omega (arith, c.loop-k.invariant.within);
}

pub returns : goal.returns
returns c =
    let none : c.loop-k.k ≡ 0 = omega (arith, c.loop-k-test.false) in
    record { noted = noted_all c.args.places.now c.loop-k.noted.items (subst (λ k. AreNotedFrom c.args.places.now k c.loop-k.noted.items) none c.loop-k.invariant.noted) }
