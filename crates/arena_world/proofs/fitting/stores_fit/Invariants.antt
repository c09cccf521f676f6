use Rattle.std.proofs.Common.{◌≡◌, drop}
use Rattle.std.specs.List.{list_all}
use Rattle.arena_world.specs.Fitting.{store_fits_word}
use Rattle.arena_world.proofs.fitting.stores_fit.Given as goal

abbrev pub invariant-loop-store : goal.invariant-loop-store
invariant-loop-store l =
    list_all (store_fits_word l.table l.row l.references l.arena) (drop l.store-index l.stores) ≡ list_all (store_fits_word l.table l.row l.references l.arena) l.stores
