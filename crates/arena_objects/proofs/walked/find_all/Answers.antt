use Rattle.std.proofs.Common.{◌≡◌, ℕ, ◌+◌, ◌*◌, List, [], ◌∷◌, ◌++◌, refl, ap, sym, ◌∙◌, subst, arith}
use Rattle.arena_objects.specs.Layout.{words_ahead}
use Rattle.arena_objects.specs.Walk.{words_found}
use Rattle.arena_objects.proofs.Addresses.{Finding, finds_none, finds_more}
use Rattle.arena_objects.proofs.walked.find_all.Goals as goal

pub loop-init : goal.loop-init
loop-init c = (subst (λ (xs : List ℕ). Finding c.args.table.now c.args.arena.now 0 0x10000000 xs) (sym c.requires.none) (finds_none c.args.table.now c.args.arena.now), refl)

pub loop-preserved : goal.loop-preserved
loop-preserved c =
    let f = c.in-Some.found in
    let same : c.words_ahead.result ≡ words_ahead f.of = c.words_ahead.ensures.value in
    let on : f.at + 8 * words_found f ≡ f.at + 8 * (c.words_ahead.result + f.parts) = ap (λ n. f.at + 8 * (n + f.parts)) (sym same) in
    let more = finds_more c.args.table.now c.args.arena.now c.loop.counter c.loop.at c.loop.addresses.items f (omega (arith, c.loop-test.true, c.taken-taken.ensures.value)) c.loop.invariant.0 (sym c.begins_at.ensures ∙ c.in-Some.is) in (
      subst (λ n. Finding c.args.table.now c.args.arena.now (c.loop.counter + 1) n c.push_reserved.new.self.items) on
          (subst (λ (xs : List ℕ). Finding c.args.table.now c.args.arena.now (c.loop.counter + 1) (f.at + 8 * words_found f) xs) (sym c.push_reserved.ensures.items) more),
      c.push_reserved.ensures.capacity ∙ c.loop.invariant.1,
    )
