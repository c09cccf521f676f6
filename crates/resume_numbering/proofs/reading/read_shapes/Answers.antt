use Rattle.std.proofs.Common.{◌≡◌, ◌<◌, ◌∙◌, ℕ, Some, length, slice_get, ap, sym, subst}
use Rattle.std.specs.Prelude.{slice_index_or}
use Rattle.std.specs.List.{AllZip}
use Rattle.std.proofs.lemmas.Option.{slice_get-get_or}
use Rattle.resume_numbering.specs.Tags.{Reads}
use Rattle.resume_numbering.specs.Standing.{VirtualStands}
use Rattle.resume_numbering.specs.Reading.{AreReadable, KindsOfShape}
use Rattle.resume_numbering.proofs.ReadingLemmas.{at_same, row_at, one_more_read, one_more_kind}
use Rattle.resume_numbering.proofs.reading.read_shapes.Goals as goal

pub read_shape-requires-clause-readable : goal.read_shape-requires-clause-readable
read_shape-requires-clause-readable c =
    let i = c.loop-k.k-index in let numbers = c.items-numbers.result.now in let table = c.args.table.now in
    let n : ℕ = slice_index_or numbers i 0 in
    let within : n < length table.virtuals = at_same (λ (m k : ℕ). k < length table.virtuals) table.consts table.consts c.args.row.now.virtuals numbers i 0 c.items-numbers.ensures (λ j. table.consts) c.loop-k-test.true c.requires.virtuals in
    let row_is = row_at table.virtuals c.items-rows.result.now n c.index-rows-k.result c.items-rows.ensures within c.index-rows-k.is in
    let here : slice_get c.args.row.now.virtuals i ≡ Some n = ap (λ zs. slice_get zs i) (sym c.items-numbers.ensures) ∙ slice_get-get_or numbers i 0 c.loop-k-test.true in
    subst (λ cs. AreReadable (length cs) (length c.args.kinds.now) c.index-rows-k.result.parts) (sym c.items-consts.ensures) (c.requires.readable.parts i n c.index-rows-k.result here row_is)

pub loop-k-preserved : goal.loop-k-preserved
loop-k-preserved c =
    let i = c.loop-k.k-index in let numbers = c.items-numbers.result.now in let table = c.args.table.now in
    let n : ℕ = slice_index_or numbers i 0 in
    let shape = c.in_ok-read_shape.field-0 in
    let row = c.index-rows-k.result in
    let within : n < length table.virtuals = at_same (λ (m k : ℕ). k < length table.virtuals) table.consts table.consts c.args.row.now.virtuals numbers i 0 c.items-numbers.ensures (λ j. table.consts) c.loop-k-test.true c.requires.virtuals in
    let row_is = row_at table.virtuals c.items-rows.result.now n row c.items-rows.ensures within c.index-rows-k.is in
    let reads = subst (λ cs. AllZip (Reads cs) row.parts shape.parts) c.items-consts.ensures c.in_ok-read_shape.ensures.reads in
    record {
      reads = one_more_read (VirtualStands table.consts table.virtuals) numbers c.loop-k.shapes.items c.push.new.self.items i 0 shape c.loop-k-test.true c.loop-k.invariant.reads (row, row_is, c.in_ok-read_shape.ensures.of, reads) c.in_ok-push.ensures.items;
      kinds = one_more_kind (KindsOfShape c.args.kinds.now) c.loop-k.shapes.items c.push.new.self.items shape c.loop-k.invariant.kinds c.in_ok-read_shape.ensures.kinds c.in_ok-push.ensures.items;
    }
