use Rattle.std.proofs.Common.{◌≡◌, ℕ, ◌+◌, arith, length-set, List, Option, Some, slice_get, slice_set, get_or, IsSome, ap, sym, subst, ◌∙◌}
use Rattle.std.specs.Option.{option_map}
use Rattle.std.proofs.lemmas.List.{set-set}
use Rattle.std.proofs.lemmas.Option.{get_or_from_slice_get}
use Rattle.trace_ops.specs.declared.piece.Shape.{Shape}
use Rattle.virtuals.specs.Shapes.{part_at, parts_in, put_part, set_part, IsMade, IsSound}
use Rattle.virtuals.specs.Order.{IsBelow}
use Rattle.virtuals.specs.Namings.{naming, namings, AreCounted}
use Rattle.virtuals.proofs.NamingLemmas.{namings-set, namings_in-set, counted_change, value_below, part_made}
use Rattle.trace_ops.specs.declared.piece.Val.{Val}
use Rattle.virtuals.proofs.Sound.{live_part, live_put, put_live, sound_part}
use Rattle.virtuals.proofs.virtuals.Virtuals.set.Goals as goal

-- the slot is taken, changed and put back
stored : (shapes : List (Option Shape)) (n : _) (mid new : Option Shape) (f : Shape → Shape) (old : Shape) (taken found : Option Shape)
    → slice_get shapes n ≡ Some (Some old) → taken ≡ found → found ≡ get_or shapes n found → new ≡ option_map f taken → slice_set (slice_set shapes n mid) n new ≡ slice_set shapes n (Some (f old))
stored shapes n mid new f old taken found at e1 e2 e3 =
    set-set shapes n mid new ∙ ap (slice_set shapes n) (e3 ∙ ap (option_map f) (e1 ∙ e2 ∙ get_or_from_slice_get shapes n (Some old) found at))

-- how many parts name an object once one is another
counts_set : (shapes : List (Option Shape)) (id part : ℕ) (value was : Val) (old : Shape) (m : ℕ) → slice_get shapes id ≡ Some (Some old) → slice_get old.parts part ≡ Some was
    → namings m (slice_set shapes id (Some (set_part part value old))) + naming m was ≡ namings m shapes + naming m value
counts_set shapes id part value was old m at had =
    omega (arith, namings-set shapes id (Some old) (Some (set_part part value old)) m at, namings_in-set old.parts part was value m had)

pub more-requires : goal.more-requires
more-requires c = value_below c.self.inside.shapes.items c.self.inside.counts.items c.args.value c.self.invariant.counted (subst (λ (s : List (Option Shape)). IsMade s c.args.value) (sym c.self.view_is) c.requires.value)

pub fewer-requires : goal.fewer-requires
fewer-requires c =
    subst (λ n. IsBelow n c.get-was.result) (sym c.more.ensures.len)
    (value_below c.self.inside.shapes.items c.self.inside.counts.items c.get-was.result c.self.invariant.counted
    (part_made c.self.inside.shapes.items c.args.id c.args.part c.get-was.result c.self.invariant.sound (ap (λ (s : List (Option Shape)). part_at s c.args.id c.args.part) c.self.view_is ∙ c.get-was.ensures)))

pub invariant_of-self : goal.invariant_of-self
invariant_of-self c =
    let shapes = c.self.inside.shapes.items in
    let live = live_part shapes c.args.id c.args.part (subst (λ (s : List (Option Shape)). IsSome (part_at s c.args.id c.args.part)) (sym c.self.view_is) c.requires.part) in
    let made = subst (λ (s : List (Option Shape)). IsMade s c.args.value) (sym c.self.view_is) c.requires.value in
    let put = stored shapes c.args.id c.take-shape.new.self c.with_part.result (set_part c.args.part c.args.value) live.0 c.take-shape.result c.index_mut.result.now live.1 c.take-shape.ensures.value c.index_mut.ensures.value c.with_part.ensures in
    let had = ap (λ (s : List (Option Shape)). part_at s c.args.id c.args.part) c.self.view_is ∙ c.get-was.ensures in
    let was : slice_get live.0.parts c.args.part ≡ Some c.get-was.result = sym (ap (λ (o : Option (Option Shape)). slice_get (parts_in o) c.args.part) live.1) ∙ had in record {
      sound = subst IsSound (sym put) (sound_part shapes c.args.id c.args.part c.args.value live.0 live.1 made c.self.invariant.sound);
      counted = subst (λ (s : List (Option Shape)). AreCounted s c.fewer.new.counts.items) (sym put)
          (counted_change shapes (slice_set shapes c.args.id (Some (set_part c.args.part c.args.value live.0))) c.self.inside.counts.items c.more.new.counts.items c.fewer.new.counts.items c.args.value c.get-was.result
          c.self.invariant.counted (length-set shapes c.args.id (Some (set_part c.args.part c.args.value live.0))) c.more.ensures.raises c.more.ensures.len c.fewer.ensures.lowers c.fewer.ensures.len
          (λ m. counts_set shapes c.args.id c.args.part c.args.value c.get-was.result live.0 m live.1 was));
    }

pub returns : goal.returns
returns c =
    let shapes = c.self.inside.shapes.items in
    let live = live_part shapes c.args.id c.args.part (subst (λ (s : List (Option Shape)). IsSome (part_at s c.args.id c.args.part)) (sym c.self.view_is) c.requires.part) in
    let now = stored shapes c.args.id c.take-shape.new.self c.with_part.result (set_part c.args.part c.args.value) live.0 c.take-shape.result c.index_mut.result.now live.1 c.take-shape.ensures.value c.index_mut.ensures.value c.with_part.ensures
    ∙ sym (put_live shapes c.args.id c.args.part c.args.value live.0 live.1)
    ∙ ap (put_part c.args.id c.args.part c.args.value) c.self.view_is in
    record { now = now; live = λ n was. live_put c.args.self.now _ c.args.id c.args.part c.args.value n now was }
