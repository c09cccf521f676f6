use Rattle.std.proofs.Common.{◌≡◌, drop}
use Rattle.session_host.specs.Entries.{stray_in}
use Rattle.session_host.specs.Showing.{kinds_at, words_at}
use Rattle.run_session.proofs.exit.Exit.stray_box.Given as goal

abbrev pub invariant-loop-p : goal.invariant-loop-p
invariant-loop-p l =
    stray_in l.self.table.now l.self.arena.now (kinds_at (drop l.p-index l.self.places.now)) (words_at l.self.frame.now (drop l.p-index l.self.places.now))
    ≡ stray_in l.self.table.now l.self.arena.now (kinds_at l.self.places.now) (words_at l.self.frame.now l.self.places.now)
