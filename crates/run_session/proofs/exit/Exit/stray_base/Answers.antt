use Rattle.std.proofs.Common.{◌∙◌, w64, sym, ap, FitsSigned, rules}
use Rattle.std.proofs.lemmas.Int.{to_z-of_z}
use Rattle.resume_rebuild.specs.Rebuilding.{sources, arg_word}
use Rattle.session_host.specs.Showing.{stray_base}
use Rattle.run_session.proofs.Lists.{drop-end}
use Rattle.run_session.proofs.Straying.{base_here, base_later}
use Rattle.run_session.proofs.exit.Exit.stray_base.Goals as goal

pub returns-then-not-has_spot : goal.returns-then-not-has_spot
returns-then-not-has_spot c es =
    let self = c.args.self.now in
    let word = arg_word (sources self.table.now es self.places.now self.frame.now self.arena.now) in
    let w = c.arg_word-word.result in
    let fits : FitsSigned w64 w = search rules in
    sym (base_here self.table.now self.arena.now word c.args.stores.now c.loop-store.store-index _ w _ c.has_spot.result (to_z-of_z w64 w fits) c.loop-store-test.true (c.arg_word-word.ensures es) c.has_spot.ensures c.if-not-has_spot.true) ∙ c.loop-store.invariant es

pub loop-store-preserved : goal.loop-store-preserved
loop-store-preserved c es =
    let self = c.args.self.now in
    let word = arg_word (sources self.table.now es self.places.now self.frame.now self.arena.now) in
    let w = c.arg_word-word.result in
    let fits : FitsSigned w64 w = search rules in
    sym (base_later self.table.now self.arena.now word c.args.stores.now c.loop-store.store-index _ w _ c.has_spot.result (to_z-of_z w64 w fits) c.loop-store-test.true (c.arg_word-word.ensures es) c.has_spot.ensures c.if-not-has_spot.false) ∙ c.loop-store.invariant es

pub returns : goal.returns
returns c es =
    let self = c.args.self.now in
    let word = arg_word (sources self.table.now es self.places.now self.frame.now self.arena.now) in
    sym (ap (stray_base self.table.now self.arena.now word) (drop-end c.args.stores.now c.loop-store.store-index c.loop-store-test.false)) ∙ c.loop-store.invariant es
