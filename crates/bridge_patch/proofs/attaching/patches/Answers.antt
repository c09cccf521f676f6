use Rattle.std.proofs.Common.{ℕ, ℤ, ◌+◌, ◌∙◌, List, drop, subst, sym, ap}
use Rattle.bridge_patch.specs.Bridging.{copies_by}
use Rattle.bridge_patch.proofs.Patching.{PatchesSoFar, patches_more, patches_skip, copies_taken, copies_left}
use Rattle.bridge_patch.proofs.attaching.patches.Goals.{then-is_copy+in_ok-push, else-is_copy}
use Rattle.bridge_patch.proofs.attaching.patches.Goals as goal

pub loop-row-preserved : goal.loop-row-preserved
loop-row-preserved c =
    let rows = c.args.rows.now in
    let i = c.loop-row.row-index in
    let row = c.row-item.result in
    let all = copies_by c.args.source rows in
    let here = copies_by c.args.source (drop i rows) in
    let behind = copies_by c.args.source (drop (i + 1) rows) in
    elim c.if-is_copy.branch [
      | then-is_copy+in_ok-push w ↦
          let taken = copies_taken c.args.source rows i row c.loop-row-test.true c.row-item.is (sym c.is_copy.ensures ∙ w.if-is_copy.true) in
          patches_more c.args.bridge c.args.code.now.bytes c.args.heres.now all here behind row c.loop-row.patches.items c.if-is_copy.patches.items w.patch_of.result c.loop-row.invariant taken (ap (λ v. v.items) w.patches-is ∙ w.in_ok-push.ensures.items) w.patch_of.ensures
      | else-is_copy w ↦
          let left = copies_left c.args.source rows i row c.loop-row-test.true c.row-item.is (sym c.is_copy.ensures ∙ w.if-is_copy.false) in
          let so = subst (λ (ps : List (ℕ × ℤ × ℤ)). PatchesSoFar c.args.bridge c.args.code.now.bytes c.args.heres.now all here ps) (sym (ap (λ v. v.items) w.patches-is)) c.loop-row.invariant in
          patches_skip c.args.bridge c.args.code.now.bytes c.args.heres.now all here behind c.if-is_copy.patches.items so left
    ]
