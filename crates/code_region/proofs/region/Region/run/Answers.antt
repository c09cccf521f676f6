use Rattle.std.proofs.Common.{◌≡◌, ℕ, ◌+◌, ◌-◌, ◌*◌, ◌<◌, min, List, length, take, drop, refl, ap, ◌∙◌, arith}
use Rattle.code_region.proofs.Filled.{length-joined, length-chunk, fits_chunks, in_chunk, take-chunk}
use Rattle.code_region.proofs.region.Region.run.Goals as goal

pub index-requires : goal.index-requires
index-requires c =
    let i = c.self.inside in
    omega (arith, length-joined i.chunks.items i.len c.self.invariant.filled, fits_chunks i.chunks.items i.len c.self.invariant.filled, ap (λ v. length v.bytes) c.self.view_is, c.requires.place)

pub overflow_sub-bytes : goal.overflow_sub-bytes
overflow_sub-bytes c =
    let i = c.self.inside in
    let all = length-joined i.chunks.items i.len c.self.invariant.filled in
    let within : 65536 * c.args.place.chunk + c.args.place.at < i.len = omega (arith, all, ap (λ v. length v.bytes) c.self.view_is, c.requires.place) in
    let low : c.args.place.chunk < length i.chunks.items = in_chunk i.chunks.items i.len c.args.place.chunk c.args.place.at (65536 * c.args.place.chunk + c.args.place.at) c.self.invariant.filled refl within in
    let here = length-chunk i.chunks.items i.len c.args.place.chunk c.index.result.now c.self.invariant.filled low c.index.ensures in
    omega (arith, here, ap length c.bytes-bytes.ensures, length-joined i.chunks.items i.len c.self.invariant.filled, ap (λ v. length v.bytes) c.self.view_is, c.requires.place, c.requires.within)

pub slice_bounds-result-end : goal.slice_bounds-result-end
slice_bounds-result-end c =
    let i = c.self.inside in
    let all = length-joined i.chunks.items i.len c.self.invariant.filled in
    let within : 65536 * c.args.place.chunk + c.args.place.at < i.len = omega (arith, all, ap (λ v. length v.bytes) c.self.view_is, c.requires.place) in
    let low : c.args.place.chunk < length i.chunks.items = in_chunk i.chunks.items i.len c.args.place.chunk c.args.place.at (65536 * c.args.place.chunk + c.args.place.at) c.self.invariant.filled refl within in
    let here = length-chunk i.chunks.items i.len c.args.place.chunk c.index.result.now c.self.invariant.filled low c.index.ensures in
    omega (arith, here, ap length c.bytes-bytes.ensures, all, within, c.requires.within, c.min-most.ensures)

pub returns : goal.returns
returns c =
    let i = c.self.inside in let o = c.args.place.at in let x = c.index.result.now in let at = 65536 * c.args.place.chunk + o in
    let all = length-joined i.chunks.items i.len c.self.invariant.filled in
    let within : at < i.len = omega (arith, all, ap (λ v. length v.bytes) c.self.view_is, c.requires.place) in
    let low : c.args.place.chunk < length i.chunks.items = in_chunk i.chunks.items i.len c.args.place.chunk c.args.place.at (65536 * c.args.place.chunk + c.args.place.at) c.self.invariant.filled refl within in
    let count : o + c.min-most.result - o ≡ min c.args.most (length c.bytes-bytes.result.now - o) = omega (arith, c.min-most.ensures) in
    ap (λ (m : ℕ). take m (drop o c.bytes-bytes.result.now)) count
    ∙ ap (λ (y : List ℕ). take (min c.args.most (length y - o)) (drop o y)) c.bytes-bytes.ensures
    ∙ take-chunk i.chunks.items i.len c.args.place.chunk o at c.args.most x c.self.invariant.filled low c.index.ensures refl within c.requires.within
    ∙ ap (λ v. take (min c.args.most (65536 - o)) (drop at v.bytes)) c.self.view_is
