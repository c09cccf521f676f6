use Rattle.std.proofs.Common.{◌<◌, length}
use Rattle.trace_ops.specs.declared.table.FieldRow.{FieldRow}
use Rattle.lists.proofs.Alls.{all_at}
use Rattle.arena_world.proofs.fitting.store_fits_field.Goals as goal

pub is_base_of-requires-clause-sized : goal.is_base_of-requires-clause-sized
is_base_of-requires-clause-sized c =
    let t = c.args.table.now in
    all_at (λ (x : FieldRow). x.size < length t.sizes) t.fields c.args.store.field c.args.field c.requires.range.fields_name_sizes c.requires.field
