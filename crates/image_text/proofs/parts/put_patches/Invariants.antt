use Rattle.std.proofs.Common.{◌≡◌, ◌++◌, take}
use Rattle.image_text.specs.Parted.{changed_patches}
use Rattle.image_text.proofs.parts.put_patches.Given as goal

abbrev pub invariant-loop-patch : goal.invariant-loop-patch
invariant-loop-patch l = l.out.items ≡ l.fn.out.items ++ changed_patches (take l.patch-index l.patches)
