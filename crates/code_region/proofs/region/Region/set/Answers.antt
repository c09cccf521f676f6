use Rattle.std.proofs.Common.{ℕ, ◌<◌, List, length, slice_set, ap, ◌∙◌, arith}
use Rattle.std.proofs.lemmas.List.{length-set}
use Rattle.code_region.specs.Chunks.{joined}
use Rattle.code_region.proofs.Filled.{length-joined, length-chunk, fits_chunks, in_chunk, filled-same, joined-set}
use Rattle.code_region.proofs.region.Region.set.Goals as goal

pub index_mut-requires : goal.index_mut-requires
index_mut-requires c =
    let i = c.self.inside in
    omega (arith, length-joined i.chunks.items i.len c.self.invariant.filled, fits_chunks i.chunks.items i.len c.self.invariant.filled, ap (λ v. length v.bytes) c.self.view_is, c.requires, c.spot_of-place.ensures.at)

pub set-requires : goal.set-requires
set-requires c =
    let i = c.self.inside in
    let all = length-joined i.chunks.items i.len c.self.invariant.filled in
    let within : c.args.at < i.len = omega (arith, all, ap (λ v. length v.bytes) c.self.view_is, c.requires) in
    let low : c.spot_of-place.result.chunk < length i.chunks.items = in_chunk i.chunks.items i.len c.spot_of-place.result.chunk c.spot_of-place.result.at c.args.at c.self.invariant.filled c.spot_of-place.ensures.at within in
    let here = length-chunk i.chunks.items i.len c.spot_of-place.result.chunk c.index_mut.result.now c.self.invariant.filled low c.index_mut.ensures.value in
    omega (arith, here, length-joined i.chunks.items i.len c.self.invariant.filled, ap (λ v. length v.bytes) c.self.view_is, c.requires, c.spot_of-place.ensures.at, c.spot_of-place.ensures.within)

pub invariant_of-self : goal.invariant_of-self
invariant_of-self c =
    let i = c.self.inside in let x = c.index_mut.result.now in let p = c.spot_of-place.result in
    let all = length-joined i.chunks.items i.len c.self.invariant.filled in
    let within : c.args.at < i.len = omega (arith, all, ap (λ v. length v.bytes) c.self.view_is, c.requires) in
    let low : c.spot_of-place.result.chunk < length i.chunks.items = in_chunk i.chunks.items i.len c.spot_of-place.result.chunk c.spot_of-place.result.at c.args.at c.self.invariant.filled c.spot_of-place.ensures.at within in
    let made = length-set i.chunks.items p.chunk c.set.new.self in record {
      filled = filled-same i.chunks.items i.len p.chunk x c.set.new.self c.self.invariant.filled low c.index_mut.ensures.value (ap length c.set.ensures ∙ length-set x p.at c.args.byte);
      room = omega (arith, made, c.self.invariant.room);
      few = c.self.invariant.few;
    }

pub returns-clause-bytes : goal.returns-clause-bytes
returns-clause-bytes c =
    let i = c.self.inside in let x = c.index_mut.result.now in let p = c.spot_of-place.result in
    let all = length-joined i.chunks.items i.len c.self.invariant.filled in
    let within : c.args.at < i.len = omega (arith, all, ap (λ v. length v.bytes) c.self.view_is, c.requires) in
    let low : c.spot_of-place.result.chunk < length i.chunks.items = in_chunk i.chunks.items i.len c.spot_of-place.result.chunk c.spot_of-place.result.at c.args.at c.self.invariant.filled c.spot_of-place.ensures.at within in
    ap (λ (y : List ℕ). joined (slice_set i.chunks.items p.chunk y)) c.set.ensures
    ∙ joined-set i.chunks.items i.len p.chunk p.at c.args.at c.args.byte x c.self.invariant.filled low c.index_mut.ensures.value c.spot_of-place.ensures.at within c.spot_of-place.ensures.within
    ∙ ap (λ v. slice_set v.bytes c.args.at c.args.byte) c.self.view_is
