-- Merging with nothing, and what is alone.
use Rattle.rf_frontier.proofs.Joins.{nothing_first, nothing_second}
use Rattle.rf_frontier.proofs.Pairs.{alone_value}
use Rattle.rf_frontier.proofs.merging.merge_kept.Goals as goal

pub returns-then-is_empty-clause-merged : goal.returns-then-is_empty-clause-merged
returns-then-is_empty-clause-merged g c = nothing_first (g.F.Factory.costs c.args.factory.now) (g.met.F.Factory.lawful c.args.factory.now) c.args.a c.args.b c.if-is_empty.ensures c.requires.second c.requires.second_values

pub returns-then-is_empty-2-clause-merged : goal.returns-then-is_empty-2-clause-merged
returns-then-is_empty-2-clause-merged g c = nothing_second (g.F.Factory.costs c.args.factory.now) (g.met.F.Factory.lawful c.args.factory.now) c.args.a c.args.b c.if-is_empty-2.ensures c.requires.first c.requires.first_values

pub merge_two-requires-clause-first : goal.merge_two-requires-clause-first
merge_two-requires-clause-first g c = alone_value (g.F.Factory.costs c.args.factory.now) c.args.a c.in-Some-Some.x c.in-Some-Some.ensures c.requires.first_values

pub merge_two-requires-clause-second : goal.merge_two-requires-clause-second
merge_two-requires-clause-second g c = alone_value (g.F.Factory.costs c.args.factory.now) c.args.b c.in-Some-Some.y c.in-Some-Some.ensures' c.requires.second_values

pub merge_one-requires-clause-second_value : goal.merge_one-requires-clause-second_value
merge_one-requires-clause-second_value g c = alone_value (g.F.Factory.costs c.args.factory.now) c.args.b c.in-None-Some.k c.in-None-Some.ensures c.requires.second_values
