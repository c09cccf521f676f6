use Rattle.std.proofs.lemmas.Option.{slice_get_within}
use Rattle.parallel_move.proofs.NumberLemmas.{put_more, put_kept, put_is}
use Rattle.parallel_move.proofs.rest.number.Goals as goal

pub returns-clause-more : goal.returns-clause-more
returns-clause-more c = put_more c.args.names.now.keys c.insert_full.new.self.keys c.args.place c.in_ok-found.ensures.keys

pub returns-clause-kept : goal.returns-clause-kept
returns-clause-kept c = put_kept c.args.names.now.keys c.insert_full.new.self.keys c.args.place c.in_ok-found.ensures.keys

pub returns-clause-below : goal.returns-clause-below
returns-clause-below c = let stored = c.in_ok-found.ensures.stored in slice_get_within c.insert_full.new.self.keys c.in_ok-found.found.0 stored.0 stored.1

pub returns-clause-is : goal.returns-clause-is
returns-clause-is c = let stored = c.in_ok-found.ensures.stored in put_is c.insert_full.new.self.keys c.args.place stored.0 c.in_ok-found.found.0 stored.1 stored.2
