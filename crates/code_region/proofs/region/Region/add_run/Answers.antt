use Rattle.std.proofs.Common.{◌≡◌, ℕ, ◌+◌, ◌*◌, ◌<◌, List, ◌++◌, length, slice_set, ap, sym, subst, ◌∙◌, arith}
use Rattle.std.proofs.lemmas.List.{length-set}
use Rattle.code_region.specs.Chunks.{joined, IsFilled}
use Rattle.code_region.proofs.Filled.{length-joined, length-chunk, in_room, joined-added, filled-added}
use Rattle.code_region.proofs.region.Region.add_run.Goals as goal

pub index_mut-requires : goal.index_mut-requires
index_mut-requires c =
    let i = c.self.inside in
    omega (arith, length-joined i.chunks.items i.len c.self.invariant.filled, ap (λ v. length v.bytes) c.self.view_is, ap (λ v. v.spare) c.self.view_is, c.self.invariant.room, c.requires.end, c.requires.some, c.requires.fits, c.requires.spare)

pub add-requires : goal.add-requires
add-requires c =
    let i = c.self.inside in
    let all = length-joined i.chunks.items i.len c.self.invariant.filled in
    let end : i.len ≡ 65536 * c.args.end.chunk + c.args.end.at = sym all ∙ ap (λ v. length v.bytes) c.self.view_is ∙ c.requires.end in
    let low : c.args.end.chunk < length i.chunks.items = in_room i.chunks.items i.len i.spare c.args.end.chunk c.args.end.at (length c.args.run.now) c.self.invariant.room end c.requires.some (omega (arith, c.requires.spare, ap (λ v. v.spare) c.self.view_is)) in
    let here = length-chunk i.chunks.items i.len c.args.end.chunk c.index_mut.result.now c.self.invariant.filled low c.index_mut.ensures.value in
    omega (arith, here, all, ap (λ v. length v.bytes) c.self.view_is, c.requires.end, c.requires.fits)

pub invariant_of-self : goal.invariant_of-self
invariant_of-self c =
    let i = c.self.inside in let x = c.index_mut.result.now in let more = c.args.run.now in
    let all = length-joined i.chunks.items i.len c.self.invariant.filled in
    let spare = ap (λ v. v.spare) c.self.view_is in
    let end : i.len ≡ 65536 * c.args.end.chunk + c.args.end.at = sym all ∙ ap (λ v. length v.bytes) c.self.view_is ∙ c.requires.end in
    let low : c.args.end.chunk < length i.chunks.items = in_room i.chunks.items i.len i.spare c.args.end.chunk c.args.end.at (length c.args.run.now) c.self.invariant.room end c.requires.some (omega (arith, c.requires.spare, ap (λ v. v.spare) c.self.view_is)) in
    let made = length-set i.chunks.items c.args.end.chunk c.add.new.self in record {
      filled = subst (λ (y : List ℕ). IsFilled (i.len + length more) (slice_set i.chunks.items c.args.end.chunk y)) (sym c.add.ensures)
          (filled-added more i.chunks.items i.len c.args.end.chunk c.args.end.at x c.self.invariant.filled low c.index_mut.ensures.value end c.requires.fits);
      room = omega (arith, made, c.self.invariant.room, spare, c.requires.spare);
      few = omega (arith, c.self.invariant.few, spare, c.requires.spare);
    }

pub returns-clause-bytes : goal.returns-clause-bytes
returns-clause-bytes c =
    let i = c.self.inside in let x = c.index_mut.result.now in let more = c.args.run.now in
    let all = length-joined i.chunks.items i.len c.self.invariant.filled in
    let end : i.len ≡ 65536 * c.args.end.chunk + c.args.end.at = sym all ∙ ap (λ v. length v.bytes) c.self.view_is ∙ c.requires.end in
    let low : c.args.end.chunk < length i.chunks.items = in_room i.chunks.items i.len i.spare c.args.end.chunk c.args.end.at (length c.args.run.now) c.self.invariant.room end c.requires.some (omega (arith, c.requires.spare, ap (λ v. v.spare) c.self.view_is)) in
    ap (λ (y : List ℕ). joined (slice_set i.chunks.items c.args.end.chunk y)) c.add.ensures
    ∙ joined-added more i.chunks.items i.len c.args.end.chunk c.args.end.at x c.self.invariant.filled low c.index_mut.ensures.value end c.requires.fits
    ∙ ap (λ v. v.bytes ++ more) c.self.view_is
