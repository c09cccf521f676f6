use Rattle.std.proofs.Common.{drop}
use Rattle.std.specs.List.{AllByRecursion}
use Rattle.set_in_image.specs.Snapshots.{StoreHasWords}
use Rattle.set_in_image.proofs.snapshots.stores_have_words.Given as goal

abbrev pub invariant-loop-store : goal.invariant-loop-store
invariant-loop-store l = AllByRecursion StoreHasWords (drop l.store-index l.stores) → AllByRecursion StoreHasWords l.stores
