-- What all nodes leave of what is left is what the root leaves of the choices.
use Rattle.std.proofs.Common.{◌≡◌}
use Rattle.rf_base_document.specs.Graph.{unfolded}
use Rattle.rf_flat.specs.Taken.{left_by, left_by_all, AreNodes, turns_of}
use Rattle.rf_flat.proofs.fitting.fits.Given as goal

abbrev pub invariant-loop-n : goal.invariant-loop-n
invariant-loop-n l = record {
  nodes : AreNodes l.core.nodes l.stack.items;
  same : left_by_all l.core.nodes l.stack.items l.left ≡ left_by (unfolded l.core.nodes l.core.root) l.choices;
}

abbrev pub decreases-loop-n : goal.decreases-loop-n
decreases-loop-n l = turns_of l.core.nodes l.stack.items
