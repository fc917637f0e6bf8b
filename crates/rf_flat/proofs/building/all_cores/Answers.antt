-- A turn adds the cores of one node.
use Rattle.std.proofs.Common.{List, length, ap, arith}
use Rattle.rf_flat.specs.declared.cores.CoreNode.{CoreNode}
use Rattle.rf_flat.specs.declared.simple_nodes.Places.{Places}
use Rattle.rf_flat.specs.Cores.{core_nodes}
use Rattle.rf_flat.proofs.Growing.{one_longer, no_places, no_nodes, are_placed_still, are_placed_one_more}
use Rattle.rf_flat.proofs.building.all_cores.Goals as goal

pub loop-n-init : goal.loop-n-init
loop-n-init c = record {
  before = ap (λ (l : List Places). length l) c.new-places.ensures.items;
  placed = no_places _ _ _ c.new-places.ensures.items;
  is_graph = no_nodes _ c.new-nodes.ensures.items;
  few = omega (arith, ap (λ (l : List CoreNode). length (core_nodes l)) c.new-nodes.ensures.items);
}

pub loop-n-preserved : goal.loop-n-preserved
loop-n-preserved c = record {
  before = one_longer _ _ c.in_ok-both.both c.loop-n.n c.in_ok-push.ensures.items c.loop-n.invariant.before;
  placed = are_placed_one_more _ _ _ _ c.loop-n.n c.in_ok-both.both c.in_ok-push.ensures.items c.loop-n.invariant.before
      (are_placed_still _ _ _ _ c.in_ok-both.ensures.older c.loop-n.invariant.placed) c.in_ok-both.ensures.placed;
  is_graph = c.in_ok-both.ensures.is_graph;
  few = omega (arith, c.loop-n.invariant.few, c.in_ok-both.ensures.two_more);
}
