use Rattle.std.proofs.Common.{◌≡◌, List, drop}
use Rattle.resume_rebuild.specs.Rebuilding.{Extent, sources, arg_word}
use Rattle.session_host.specs.Showing.{stray_base}
use Rattle.run_session.proofs.exit.Exit.stray_base.Given as goal

abbrev pub invariant-loop-store : goal.invariant-loop-store
invariant-loop-store l =
    (es : List Extent)
    → stray_base l.self.table.now l.self.arena.now (arg_word (sources l.self.table.now es l.self.places.now l.self.frame.now l.self.arena.now)) (drop l.store-index l.stores)
    ≡ stray_base l.self.table.now l.self.arena.now (arg_word (sources l.self.table.now es l.self.places.now l.self.frame.now l.self.arena.now)) l.stores
