use Rattle.std.proofs.Common.{ℕ, ℤ, ◌+◌, ◌++◌, List, length, slice_index, slice_set, take, drop, ap, ◌∙◌, arith}
use Rattle.std.specs.Int.{to_le_bytes, cast_unsigned, w32}
use Rattle.std.proofs.lemmas.Int.{to_z-of_z}
use Rattle.code_region.proofs.Filled.{length-joined}
use Rattle.code_region.proofs.Patched.{four_sets}
use Rattle.code_region.proofs.region.Region.patch4.Goals as goal

pub overflow_add-at : goal.overflow_add-at
overflow_add-at c = record { fits = omega (arith, length-joined c.self.inside.chunks.items c.self.inside.len c.self.invariant.filled, ap (λ v. length v.bytes) c.self.view_is, c.requires, c.self.invariant.few) }

pub overflow_add-at-2 : goal.overflow_add-at-2
overflow_add-at-2 c = record { fits = omega (arith, length-joined c.self.inside.chunks.items c.self.inside.len c.self.invariant.filled, ap (λ v. length v.bytes) c.self.view_is, c.requires, c.self.invariant.few) }

pub overflow_add-at-3 : goal.overflow_add-at-3
overflow_add-at-3 c = record { fits = omega (arith, length-joined c.self.inside.chunks.items c.self.inside.len c.self.invariant.filled, ap (λ v. length v.bytes) c.self.view_is, c.requires, c.self.invariant.few) }

pub returns-clause-bytes : goal.returns-clause-bytes
returns-clause-bytes c =
    let old = c.args.self.now.bytes in let at = c.args.at in let bs = c.to_le_bytes-bytes.result in
    c.set-4.ensures.bytes
    ∙ ap (λ (xs : List ℕ). slice_set xs (at + 3) (slice_index bs 3)) (c.set-3.ensures.bytes
    ∙ ap (λ (xs : List ℕ). slice_set xs (at + 2) (slice_index bs 2)) (c.set-2.ensures.bytes
    ∙ ap (λ (xs : List ℕ). slice_set xs (at + 1) (slice_index bs 1)) c.set.ensures.bytes))
    ∙ four_sets old at bs (ap length c.to_le_bytes-bytes.ensures) c.requires
    ∙ ap (λ (xs : List ℕ). take at old ++ xs ++ drop (at + 4) old) (c.to_le_bytes-bytes.ensures ∙ ap (λ (z : ℤ). to_le_bytes w32 (cast_unsigned w32 z)) (to_z-of_z w32 c.args.value c.ranges.value))
