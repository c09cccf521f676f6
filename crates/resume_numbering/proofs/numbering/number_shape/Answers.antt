use Rattle.resume_numbering.specs.contracts.rows.VirtualRowPartialEq.TheImpl as virtual_eq
use Rattle.resume_numbering.proofs.OrderLemmas.{next_is, grows_by, virtuals_keep_by}
use Rattle.resume_numbering.proofs.numbering.number_shape.Goals as goal

pub returns-clause-order : goal.returns-clause-order
returns-clause-order c =
    next_is virtual_eq.ghosts.eq c.args.rows.now.keys c.insert_full.new.self.keys (record { of = c.args.shape.now.of; parts = c.of.result }) c.in_ok-k.k c.in_ok-k.ensures.index c.in_ok-k.ensures.keys

pub returns-clause-kept : goal.returns-clause-kept
returns-clause-kept c =
    virtuals_keep_by c.args.consts.now.keys c.tag_all.new.consts.keys c.args.rows.now.keys c.insert_full.new.self.keys (record { of = c.args.shape.now.of; parts = c.of.result }) c.in_ok-parts.parts.items c.items.result.now
    c.in_ok-parts.ensures.keys c.requires.kept c.in_ok-parts.ensures.reads c.of.ensures c.in_ok-k.ensures.keys

pub returns-clause-rows : goal.returns-clause-rows
returns-clause-rows c =
    grows_by virtual_eq.ghosts.eq c.args.rows.now.keys c.insert_full.new.self.keys (record { of = c.args.shape.now.of; parts = c.of.result }) c.in_ok-k.ensures.keys
