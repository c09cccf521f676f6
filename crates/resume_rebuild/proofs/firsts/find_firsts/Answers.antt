use Rattle.std.proofs.Common.{rules, ◌≡◌, ℤ, List, [], ◌∷◌, ◌++◌, ◌+◌, ◌*◌, ◌∙◌, ◌≤◌, ap, sym, refl, subst, arith}
use Rattle.std.specs.Vec.{vec_len}
use Rattle.arena_objects.specs.Layout.{words_ahead}
use Rattle.arena_objects.specs.Walk.{words_found}
use Rattle.resume_rebuild.specs.Rebuilding.{found_addresses}
use Rattle.resume_rebuild.proofs.FirstWalk.{Finding, finds_none, finds_more, finds_all, starts_whole, starts_so_far, is_low}
use Rattle.resume_rebuild.proofs.firsts.find_firsts.Goals as goal

pub loop-init : goal.loop-init
loop-init c =
    let none : vec_len c.args.firsts.now ≡ 0 = search (rules, c.requires.empty) in
    record {
      found = subst (λ (xs : List ℤ). Finding c.args.table.now c.args.arena.now 0 0x10000000 xs) (sym c.requires.empty) (finds_none c.args.table.now c.args.arena.now);
      room = refl;
      count = none;
    }

pub returns-in-None : goal.returns-in-None
returns-in-None c =
    let t = c.args.table.now in
    let arena = c.args.arena.now in
    record { starts = starts_whole c.args.most c.loop.firsts.items (found_addresses t arena) (finds_all t arena c.loop.counter c.loop.at c.loop.firsts.items c.loop.invariant.found (sym c.begins_at.ensures ∙ c.in-None.is)); capacity = c.loop.invariant.room }

pub loop-preserved : goal.loop-preserved
loop-preserved c =
    let f = c.in-Some.found in
    let same : c.words_ahead.result ≡ words_ahead f.of = c.words_ahead.ensures.value in
    let on : f.at + 8 * words_found f ≡ f.at + 8 * (c.words_ahead.result + f.parts) = ap (λ n. f.at + 8 * (n + f.parts)) (sym same) in
    let more = finds_more c.walk_finds.ensures.taken c.args.table.now c.args.arena.now c.loop.counter c.loop.at c.loop.firsts.items f c.loop.invariant.found (sym c.begins_at.ensures ∙ c.in-Some.is) in
    record {
      found = subst (λ n. Finding c.args.table.now c.args.arena.now (c.loop.counter + 1) n c.push_address.new.firsts.items) on (subst (λ (xs : List ℤ). Finding c.args.table.now c.args.arena.now (c.loop.counter + 1) (f.at + 8 * words_found f) xs) (sym c.push_address.ensures.items) more);
      room = c.push_address.ensures.capacity ∙ c.loop.invariant.room;
      count = c.push_address.ensures.len ∙ ap (λ n. n + 1) c.loop.invariant.count;
    }

pub push_address-requires-clause-low : goal.push_address-requires-clause-low
push_address-requires-clause-low c =
    is_low c.walk_finds.ensures.taken c.args.table.now c.args.arena.now c.loop.counter c.loop.at c.loop.firsts.items c.in-Some.found c.loop.invariant.found (sym c.begins_at.ensures ∙ c.in-Some.is) (omega (arith, c.taken-bound.ensures.value, c.taken-bound.ensures.bound))

pub returns : goal.returns
returns c =
    record { starts = starts_so_far c.walk_finds.ensures.taken c.args.table.now c.args.arena.now c.args.most c.loop.counter c.loop.at c.loop.firsts.items c.loop.invariant.found (omega (arith, c.taken-bound.ensures.value, c.taken-bound.ensures.bound)) (subst (λ n. n ≤ c.loop.counter) c.min-count.ensures c.loop-test.false); capacity = c.loop.invariant.room }
