use Rattle.std.proofs.Common.{◌≡◌, ℕ, ◌<◌, List, Option, Some, map, slice_get, slice_set, length-set, get_or, ap, sym, subst, ◌∙◌, arith}
use Rattle.std.specs.Option.{option_map}
use Rattle.std.proofs.lemmas.Option.{get_or_from_slice_get}
use Rattle.trace_ops.specs.declared.piece.Shape.{Shape}
use Rattle.virtuals.specs.Shapes.{IsLive, IsSound, forced, renamed}
use Rattle.virtuals.specs.Namings.{namings, IsAtLeast, AreCounted}
use Rattle.virtuals.proofs.Sound.{sound_forced, live_forced}
use Rattle.virtuals.proofs.Marks.{live_below}
use Rattle.virtuals.proofs.NamingLemmas.{forced_counts, counted_renamed, shape_below, map-set_none, read_is}
use Rattle.virtuals.proofs.virtuals.Virtuals.forced.Goals as goal

-- what is taken is the shape
taken : (shapes : List (Option Shape)) (n : ℕ) (old : Shape) (took found : Option Shape) → slice_get shapes n ≡ Some (Some old) → took ≡ found → found ≡ get_or shapes n found → took ≡ Some old
taken shapes n old took found at e1 e2 = e1 ∙ e2 ∙ get_or_from_slice_get shapes n (Some old) found at

pub without-requires : goal.without-requires
without-requires c = λ s is.
    let live = subst (λ (s : List (Option Shape)). IsLive s c.args.id) (sym c.self.view_is) c.requires in
    shape_below c.self.inside.shapes.items c.self.inside.counts.items c.args.id s c.self.invariant.sound c.self.invariant.counted
    (live.1 ∙ ap Some (sym (taken c.self.inside.shapes.items c.args.id live.0 c.take-shape.result c.index_mut.result.now live.1 c.take-shape.ensures.value c.index_mut.ensures.value) ∙ is))

pub rename_named-requires : goal.rename_named-requires
rename_named-requires c =
    let shapes = c.self.inside.shapes.items in
    let live = subst (λ (s : List (Option Shape)). IsLive s c.args.id) (sym c.self.view_is) c.requires in
    let took = taken shapes c.args.id live.0 c.take-shape.result c.index_mut.result.now live.1 c.take-shape.ensures.value c.index_mut.ensures.value in
    let counted = forced_counts shapes c.args.id live c.self.inside.counts.items c.without.new.counts.items c.take-shape.result c.take-shape.new.self c.self.invariant.counted took c.take-shape.ensures.after
    c.without.ensures.lowers c.without.ensures.len in
    subst (λ (k : ℕ). IsAtLeast k (namings c.args.id (slice_set shapes c.args.id c.take-shape.new.self))) (sym (read_is c.without.new.counts.items c.args.id c.index.result.now (omega (arith, live_below shapes c.args.id live, c.self.invariant.counted.room, c.without.ensures.len)) c.index.ensures)) (counted.each c.args.id (subst (λ n. c.args.id < n) (sym (length-set shapes c.args.id c.take-shape.new.self)) (live_below shapes c.args.id live)))

pub invariant_of-self : goal.invariant_of-self
invariant_of-self c =
    let shapes = c.self.inside.shapes.items in
    let live = subst (λ (s : List (Option Shape)). IsLive s c.args.id) (sym c.self.view_is) c.requires in
    let took = taken shapes c.args.id live.0 c.take-shape.result c.index_mut.result.now live.1 c.take-shape.ensures.value c.index_mut.ensures.value in
    let counted = forced_counts shapes c.args.id live c.self.inside.counts.items c.without.new.counts.items c.take-shape.result c.take-shape.new.self c.self.invariant.counted took c.take-shape.ensures.after
    c.without.ensures.lowers c.without.ensures.len in
    let now = c.rename_named.ensures ∙ ap (λ (o : Option Shape). map (option_map (renamed c.args.id c.args.to)) (slice_set shapes c.args.id o)) c.take-shape.ensures.after
    ∙ map-set_none (renamed c.args.id c.args.to) shapes c.args.id in record {
      sound = subst IsSound (sym now) (sound_forced shapes c.args.id c.args.to live c.self.invariant.sound);
      counted = subst (λ (s : List (Option Shape)). AreCounted s c.without.new.counts.items) (sym c.rename_named.ensures)
          (counted_renamed (slice_set shapes c.args.id c.take-shape.new.self) c.args.id c.args.to c.without.new.counts.items counted);
    }

pub returns-clause-now : goal.returns-clause-now
returns-clause-now c =
    let shapes = c.self.inside.shapes.items in
    c.rename_named.ensures ∙ ap (λ (o : Option Shape). map (option_map (renamed c.args.id c.args.to)) (slice_set shapes c.args.id o)) c.take-shape.ensures.after
    ∙ map-set_none (renamed c.args.id c.args.to) shapes c.args.id ∙ ap (forced c.args.id c.args.to) c.self.view_is

pub returns-clause-live : goal.returns-clause-live
returns-clause-live c = λ n ne live.
    let shapes = c.self.inside.shapes.items in
    let now = c.rename_named.ensures ∙ ap (λ (o : Option Shape). map (option_map (renamed c.args.id c.args.to)) (slice_set shapes c.args.id o)) c.take-shape.ensures.after
    ∙ map-set_none (renamed c.args.id c.args.to) shapes c.args.id in
    subst (λ (s : List (Option Shape)). IsLive s n) (sym now) (live_forced shapes c.args.id c.args.to n ne (subst (λ (s : List (Option Shape)). IsLive s n) (sym c.self.view_is) live))
