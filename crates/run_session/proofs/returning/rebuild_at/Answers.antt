use Rattle.std.proofs.Common.{subst}
use Rattle.resume_rebuild.specs.Reserved.{IsReserved}
use Rattle.run_session.specs.Keeping.{RebuildsBy}
use Rattle.run_session.proofs.Returns.{rebuilds, table_kept}
use Rattle.run_session.proofs.returning.rebuild_at.Goals as goal

pub rebuild_by-done-requires-clause-lawful : goal.rebuild_by-done-requires-clause-lawful
rebuild_by-done-requires-clause-lawful c =
    let h = c.in-Some.ensures.some in
    let serves = c.requires.served in
    (subst (λ table. RebuildsBy c.args.active.now.rebuilt.table table c.args.guard serves.0) h.3 (serves.1.each h.0 h.1 h.2)).lawful

pub rebuild_by-done-requires-clause-row : goal.rebuild_by-done-requires-clause-row
rebuild_by-done-requires-clause-row c =
    let h = c.in-Some.ensures.some in
    let serves = c.requires.served in
    (subst (λ table. RebuildsBy c.args.active.now.rebuilt.table table c.args.guard serves.0) h.3 (serves.1.each h.0 h.1 h.2)).has

pub rebuild_by-done-requires-clause-reserved : goal.rebuild_by-done-requires-clause-reserved
rebuild_by-done-requires-clause-reserved c =
    let h = c.in-Some.ensures.some in
    subst (λ table. IsReserved table c.args.active.now.rebuilt) h.3 (c.requires.reserved h.0 h.1)

pub rebuild_by-done-requires-clause-shapes : goal.rebuild_by-done-requires-clause-shapes
rebuild_by-done-requires-clause-shapes c =
    let h = c.in-Some.ensures.some in
    let serves = c.requires.served in
    (subst (λ table. RebuildsBy c.args.active.now.rebuilt.table table c.args.guard serves.0) h.3 (serves.1.each h.0 h.1 h.2)).shapes

pub returns-clause-shown : goal.returns-clause-shown
returns-clause-shown c snap serves =
    let h = c.in-Some.ensures.some in
    let old = c.args.active.now in
    let new = c.rebuild_by-done.new.active in
    let by = subst (λ table. RebuildsBy old.rebuilt.table table c.args.guard snap) h.3 (serves.each h.0 h.1 h.2) in
    rebuilds old.rebuilt.table c.args.row.now c.args.guard snap old new c.told.result c.rebuild_by-done.result (c.rebuild_by-done.ensures.given snap by.stands serves.placed) c.told.ensures.ok c.told.ensures.err

pub returns-clause-changes : goal.returns-clause-changes
returns-clause-changes c =
    let h = c.in-Some.ensures.some in
    let serves = c.requires.served in
    let old = c.args.active.now in
    let by = subst (λ table. RebuildsBy old.rebuilt.table table c.args.guard serves.0) h.3 (serves.1.each h.0 h.1 h.2) in
    record {
      same = c.rebuild_by-done.ensures.same;
      table = table_kept _ _ _ _ _ _ _ c.rebuild_by-done.result (c.rebuild_by-done.ensures.given serves.0 by.stands serves.1.placed);
    }
