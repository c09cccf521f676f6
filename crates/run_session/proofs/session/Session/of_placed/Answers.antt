use Rattle.std.proofs.Common.{◌∙◌, length, sym, ap, subst, arith, List}
use Rattle.std.specs.List.{All}
use Rattle.std.proofs.lemmas.List.Elements.{All-nil}
use Rattle.guard_exit.specs.declared.row.ExitRow.{ExitRow}
use Rattle.trace_ops.specs.declared.trace.TraceSet.{TraceSet}
use Rattle.arena_world.specs.Prebuilt.{IsHostOf}
use Rattle.bridge_patch.specs.Image.{Imaged}
use Rattle.run_session.specs.Guards.{AreGuardPlaces}
use Rattle.run_session.specs.Keeping.{IsKept}
use Rattle.run_session.proofs.Served.{code_short}
use Rattle.run_session.proofs.Serving.{placed_serves}
use Rattle.run_session.proofs.session.Session.of_placed.Goals as goal

pub invariant_of-result : goal.invariant_of-result
invariant_of-result c =
    let p = c.args.placed in
    let set = c.set.ensures.value ∙ c.checked.ensures in
    let rows = c.exits.ensures ∙ ap (λ (i : Imaged). i.exits) c.image.ensures in
    let none = c.in_ok-activations.ensures.items in
    record {
      host = subst (λ (x : TraceSet). IsHostOf x.table c.in_ok-host.host) set c.in_ok-host.ensures;
      places = subst (λ (rows : List ExitRow). AreGuardPlaces rows c.in_ok-guard_places.guard_places.items) rows c.in_ok-guard_places.ensures;
      served = placed_serves c.equality_decides.ensures.piece_id c.equality_decides.ensures.box c.rebuilds_what_is_meant.ensures.kinds c.pieces_are_sound.ensures p.set p.optimised p.image c.stands.ensures;
      size = c.requires.size;
      few = (let e = ap length none in omega (arith, e));
      room = c.in_ok-activations.ensures.capacity;
      each = subst (All (IsKept p.set.table p.image.pieces)) (sym none) (All-nil (IsKept p.set.table p.image.pieces));
    }
