-- The cores of the nodes so far stand at the places.
use Rattle.std.proofs.Common.{◌≡◌, ◌*◌, ◌≤◌, length}
use Rattle.rf_base_document.specs.Graph.{IsGraph}
use Rattle.rf_flat.specs.Cores.{core_nodes}
use Rattle.rf_flat.specs.Places.{ArePlaced}
use Rattle.rf_flat.proofs.building.all_cores.Given as goal

abbrev pub invariant-loop-n : goal.invariant-loop-n
invariant-loop-n l = record {
  before : length l.places.items ≡ l.n;
  placed : ArePlaced l.graph (core_nodes l.nodes.items) l.places.items;
  is_graph : IsGraph (core_nodes l.nodes.items);
  few : length (core_nodes l.nodes.items) ≤ 2 * l.n;
}
