-- From the end of the list, each turn of the loop settles one more measure.
use Rattle.std.proofs.Common.{◌≡◌, ◌<◌, ◌-◌, length, ◌∙◌, arith, rules}
use Rattle.rf_frontier.proofs.Steps.{value_at}
use Rattle.rf_frontier.proofs.Prunes.{pruned_none, prune_begins, none_behind, pruned_is, held_left, prune_turn, counted_down}
use Rattle.rf_frontier.proofs.pruning.prune_list.Goals as goal

pub returns-then-is_empty-clause-pruned : goal.returns-then-is_empty-clause-pruned
returns-then-is_empty-clause-pruned g c =
    let none : length c.args.list.now ≡ 0 = search rules in
    c.none.ensures ∙ pruned_none (g.F.Factory.costs c.args.factory.now) c.args.list.now none

pub loop-at-init : goal.loop-at-init
loop-at-init g c =
    let some : 0 < length c.args.list.now = search rules in
    let value = value_at (g.F.Factory.costs c.args.factory.now) c.args.list.now (length c.args.list.now - 1) c.index-list-at.result c.requires.values (omega arith) c.index-list-at.is in
    record {
      pruning = none_behind (g.F.Factory.costs c.args.factory.now) c.index-list-at.result c.new-behind.result.items c.args.list.now (length c.args.list.now - 1) c.new-behind.ensures.items
          (prune_begins (g.F.Factory.costs c.args.factory.now) (g.met.F.Factory.lawful c.args.factory.now) c.index-list-at.result c.args.list.now (length c.args.list.now - 1)
          c.requires.values (omega arith) c.index-list-at.is value);
      in_list = omega arith;
      risen = omega arith;
      steps = omega arith;
    }

pub settle-requires-clause-value : goal.settle-requires-clause-value
settle-requires-clause-value g c =
    value_at (g.F.Factory.costs c.args.factory.now) c.args.list.now (c.loop-at.at - 1) c.index-list-at-in-loop-at.result c.requires.values (omega arith) c.index-list-at-in-loop-at.is

pub settle-requires-clause-ordered : goal.settle-requires-clause-ordered
settle-requires-clause-ordered g c =
    (pruned_is (g.F.Factory.costs c.args.factory.now) (g.met.F.Factory.lawful c.args.factory.now) c.loop-at.held c.loop-at.behind.items c.args.list.now c.loop-at.at
    c.requires.values c.loop-at.invariant.pruning).0

pub settle-requires-clause-values : goal.settle-requires-clause-values
settle-requires-clause-values g c =
    (pruned_is (g.F.Factory.costs c.args.factory.now) (g.met.F.Factory.lawful c.args.factory.now) c.loop-at.held c.loop-at.behind.items c.args.list.now c.loop-at.at
    c.requires.values c.loop-at.invariant.pruning).1

pub settle-requires-clause-right : goal.settle-requires-clause-right
settle-requires-clause-right g c =
    held_left (g.F.Factory.costs c.args.factory.now) c.loop-at.held c.index-list-at-in-loop-at.result c.loop-at.behind.items c.args.list.now (c.loop-at.at - 1) c.requires.falling
    (counted_down (g.F.Factory.costs c.args.factory.now) c.loop-at.held c.loop-at.behind.items c.args.list.now c.loop-at.at (c.loop-at.at - 1) (omega arith) c.loop-at.invariant.pruning)
    (omega arith) c.index-list-at-in-loop-at.is

pub loop-at-preserved : goal.loop-at-preserved
loop-at-preserved g c =
    let value = value_at (g.F.Factory.costs c.args.factory.now) c.args.list.now (c.loop-at.at - 1) c.index-list-at-in-loop-at.result c.requires.values (omega arith) c.index-list-at-in-loop-at.is in
    record {
      pruning = prune_turn (g.F.Factory.costs c.args.factory.now) (g.met.F.Factory.lawful c.args.factory.now) c.loop-at.held c.settle.new.held c.index-list-at-in-loop-at.result
          c.loop-at.behind.items c.settle.new.behind.items c.args.list.now (c.loop-at.at - 1) c.requires.values (omega arith) c.index-list-at-in-loop-at.is value
          (counted_down (g.F.Factory.costs c.args.factory.now) c.loop-at.held c.loop-at.behind.items c.args.list.now c.loop-at.at (c.loop-at.at - 1) (omega arith) c.loop-at.invariant.pruning)
          c.in_ok-settle.ensures.settled;
      in_list = omega arith;
      risen = omega (arith, c.settle.ensures.steps);
      steps = omega (arith, c.settle.ensures.steps);
    }
