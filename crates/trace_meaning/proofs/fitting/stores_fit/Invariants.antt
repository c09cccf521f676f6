use Rattle.std.proofs.Common.{◌≡◌, drop}
use Rattle.std.specs.List.{list_all}
use Rattle.trace_meaning.specs.Answers.{store_fits}
use Rattle.trace_meaning.proofs.fitting.stores_fit.Given as goal

abbrev pub invariant-loop-store : goal.invariant-loop-store
invariant-loop-store l =
    list_all (store_fits l.table l.row l.references l.objects) (drop l.store-index l.stores) ≡ list_all (store_fits l.table l.row l.references l.objects) l.stores
