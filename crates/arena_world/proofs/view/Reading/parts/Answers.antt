use Rattle.std.proofs.Common.{◌≡◌, ◌+◌, ◌-◌, ◌++◌, ◌∷◌, [], List, append_assoc, sym, ap, ◌∙◌, suc, arith}
use Rattle.arena_objects.specs.ReadBack.{parts_from}
use Rattle.arena_world.proofs.Views.{part_next}
use Rattle.arena_world.proofs.view.Reading.parts.Goals as goal

pub loop-i-preserved : goal.loop-i-preserved
loop-i-preserved c =
    let t = c.args.self.now.table.now in
    let arena = c.args.self.now.arena.now in
    let f = c.args.found in
    let i = c.loop-i.i in
    let items = c.loop-i.parts.items in
    let rest = parts_from t arena f (i + 1) (f.parts - (i + 1)) in
    let less : f.parts - i ≡ suc (f.parts - (i + 1)) = omega (arith, c.loop-i-test.true) in
    let next = part_next t arena f i (f.parts - i) (f.parts - (i + 1)) less in
    ap (λ xs. xs ++ rest) c.in_ok-push.ensures.items
    ∙ append_assoc items (c.part.result ∷ []) rest
    ∙ ap (λ y. items ++ y ∷ rest) c.part.ensures
    ∙ ap (λ l. items ++ l) (sym next)
    ∙ c.loop-i.invariant
