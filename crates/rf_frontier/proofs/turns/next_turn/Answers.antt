-- The turn of two frontiers is that of their first measures.
use Rattle.std.proofs.Common.{◌≡◌, length, arith, rules}
use Rattle.rf_frontier.proofs.Steps.{value_at}
use Rattle.rf_frontier.proofs.Seen.{none_first, none_second, some_both}
use Rattle.rf_frontier.proofs.turns.next_turn.Goals as goal

pub heads-requires-clause-first : goal.heads-requires-clause-first
heads-requires-clause-first g c =
    value_at (g.F.Factory.costs c.args.factory.now) c.args.a.now 0 c.index-a-0.result c.requires.first_values (search rules) c.index-a-0.is

pub heads-requires-clause-second : goal.heads-requires-clause-second
heads-requires-clause-second g c =
    value_at (g.F.Factory.costs c.args.factory.now) c.args.b.now 0 c.index-b-0.result c.requires.second_values (search rules) c.index-b-0.is

pub returns-then-is_empty-clause-turn : goal.returns-then-is_empty-clause-turn
returns-then-is_empty-clause-turn g c =
    let none : length c.args.a.now ≡ 0 = search rules in
    none_first (g.F.Factory.costs c.args.factory.now) c.args.a.now c.args.b.now none

pub returns-then-is_empty-2-clause-turn : goal.returns-then-is_empty-2-clause-turn
returns-then-is_empty-2-clause-turn g c =
    let none : length c.args.b.now ≡ 0 = search rules in
    none_second (g.F.Factory.costs c.args.factory.now) c.args.a.now c.args.b.now none (omega arith)

pub returns-else-is_empty-2-clause-turn : goal.returns-else-is_empty-2-clause-turn
returns-else-is_empty-2-clause-turn g c =
    some_both (g.F.Factory.costs c.args.factory.now) c.args.a.now c.args.b.now c.index-a-0.result c.index-b-0.result c.heads.result
    (search rules) (search rules) c.index-a-0.is c.index-b-0.is c.heads.ensures.turn
