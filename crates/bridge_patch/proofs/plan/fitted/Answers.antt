use Rattle.std.proofs.Common.{List, subst, sym}
use Rattle.target_base.specs.declared.place.Place.{Place}
use Rattle.linear_scan.specs.Placing.{Allocated}
use Rattle.asm_select.specs.Selecting.{CanSelect, IsSelected}
use Rattle.bridge_patch.specs.Planning.{IsLabelled}
use Rattle.bridge_patch.proofs.Plans.{can_place, can_select, fitted}
use Rattle.bridge_patch.proofs.plan.fitted.Goals as goal

pub places_of-requires : goal.places_of-requires
places_of-requires c = record {
  can = can_place c.args.set.now c.args.piece.now c.args.registers c.requires.can;
  label = subst (IsLabelled c.args.piece.now c.args.registers) (sym c.items.ensures) c.requires.ends.labelled;
}

pub select-requires : goal.select-requires
select-requires c =
    let a = subst (λ (l : List Place). Allocated c.args.piece.now c.args.registers l c.in_ok-places.places) c.items.ensures (c.in_ok-places.ensures {u = tt}) in
    subst (λ (l : List Place). CanSelect c.args.set.now c.args.piece.now c.in_ok-places.places l) (sym c.items-2.ensures) (can_select c.args.set.now c.args.piece.now c.args.registers c.args.ends.now.label c.args.ends.now.to c.in_ok-places.places c.requires.can c.requires.ends a)

pub returns : goal.returns
returns c =
    let a = subst (λ (l : List Place). Allocated c.args.piece.now c.args.registers l c.in_ok-places.places) c.items.ensures (c.in_ok-places.ensures {u = tt}) in
    let sel = subst (λ (l : List Place). IsSelected c.args.set.now c.args.piece.now c.in_ok-places.places l c.in_ok-selected.selected) c.items-2.ensures (c.in_ok-selected.ensures {u = tt}).code in
    fitted c.selected_fits.ensures c.chosen_have_rows.ensures c.slots_are_emitted.ensures.rows c.chosen_jumps.ensures c.args.set.now c.args.piece.now c.args.registers c.args.ends.now.label c.args.ends.now.to c.in_ok-places.places c.in_ok-selected.selected c.requires.can c.requires.ends a sel (c.in_ok-selected.ensures {u = tt}).short
