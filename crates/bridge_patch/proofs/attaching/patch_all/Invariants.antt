use Rattle.std.proofs.Common.{◌≡◌, drop, length}
use Rattle.bridge_patch.specs.Attached.{all_patched}
use Rattle.bridge_patch.specs.Bridging.{PatchesWithin}
use Rattle.bridge_patch.proofs.attaching.patch_all.Given as goal

abbrev pub invariant-loop-patch : goal.invariant-loop-patch
invariant-loop-patch l = (all_patched (drop l.patch-index l.patches) l.code.bytes ≡ all_patched l.patches l.initial.code.bytes) × (PatchesWithin (length l.code.bytes) (drop l.patch-index l.patches))
