use Rattle.std.proofs.Common.{◌≤ℤ◌, ◌*ℤ◌, rules, FitsSigned}
use Rattle.std.specs.Int.{w64, w128}
use Rattle.std.proofs.lemmas.Int.{to_z-of_z}
use Rattle.int_bounds.proofs.Corners.{below-corners, above-corners, through}
use Rattle.int_bounds.proofs.Casts.{below-cast, above-cast}
use Rattle.int_bounds.proofs.products.products.Goals as goal

pub span-requires : goal.span-requires
span-requires c =
    let al : FitsSigned w64 c.args.a.low = search rules in
    let ah : FitsSigned w64 c.args.a.high = search rules in
    let bl : FitsSigned w64 c.args.b.low = search rules in
    let bh : FitsSigned w64 c.args.b.high = search rules in
    let least : FitsSigned w128 c.least.result = search rules in
    let greatest : FitsSigned w128 c.greatest.result = search rules in
    let below : c.least.result ≤ℤ (c.args.a.low *ℤ c.args.b.low) = below-cast _ c.product-first.result _ _ (search rules) al bl c.least.ensures.first c.product-first.ensures in
    let above : (c.args.a.low *ℤ c.args.b.low) ≤ℤ c.greatest.result = above-cast _ c.product-first.result _ _ (search rules) al bl c.greatest.ensures.first c.product-first.ensures in
    rw (to_z-of_z w128 c.least.result least, to_z-of_z w128 c.greatest.result greatest) (through _ _ _ below above)

pub returns : goal.returns
returns c = λ x y a b.
    let al : FitsSigned w64 c.args.a.low = search rules in
    let ah : FitsSigned w64 c.args.a.high = search rules in
    let bl : FitsSigned w64 c.args.b.low = search rules in
    let bh : FitsSigned w64 c.args.b.high = search rules in
    let least : FitsSigned w128 c.least.result = search rules in
    let greatest : FitsSigned w128 c.greatest.result = search rules in
    c.span.ensures.contains (x *ℤ y)
    (rw (to_z-of_z w128 c.least.result least)
    (below-corners c.least.result c.args.a.low c.args.a.high c.args.b.low c.args.b.high x y a.0 a.1 b.0 b.1
    (below-cast _ c.product-first.result _ _ (search rules) al bl c.least.ensures.first c.product-first.ensures)
    (below-cast _ c.product-second.result _ _ (search rules) al bh c.least.ensures.second c.product-second.ensures)
    (below-cast _ c.product-third.result _ _ (search rules) ah bl c.least.ensures.third c.product-third.ensures)
    (below-cast _ c.product-fourth.result _ _ (search rules) ah bh c.least.ensures.fourth c.product-fourth.ensures)))
    (rw (to_z-of_z w128 c.greatest.result greatest)
    (above-corners c.greatest.result c.args.a.low c.args.a.high c.args.b.low c.args.b.high x y a.0 a.1 b.0 b.1
    (above-cast _ c.product-first.result _ _ (search rules) al bl c.greatest.ensures.first c.product-first.ensures)
    (above-cast _ c.product-second.result _ _ (search rules) al bh c.greatest.ensures.second c.product-second.ensures)
    (above-cast _ c.product-third.result _ _ (search rules) ah bl c.greatest.ensures.third c.product-third.ensures)
    (above-cast _ c.product-fourth.result _ _ (search rules) ah bh c.greatest.ensures.fourth c.product-fourth.ensures)))
