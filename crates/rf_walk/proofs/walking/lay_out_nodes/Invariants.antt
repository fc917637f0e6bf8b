-- The walk can go on to the ending of the root's.
use Rattle.std.proofs.Common.{◌≡◌, Some}
use Rattle.rf_walk.specs.Walked.{Ending, CanGoOn, turns_of}
use Rattle.rf_walk.proofs.Ends.{root_ending}
use Rattle.rf_walk.proofs.walking.lay_out_nodes.Given as goal

abbrev pub invariant-loop-frame : goal.invariant-loop-frame
invariant-loop-frame g l =
    (end : Ending) × CanGoOn (g.P.Paper.holds l.fn.paper l.paper) (g.N.Nodes.document l.nodes) l.stack.items l.left end
    × (root_ending (g.N.Nodes.document l.nodes l.fn.root) l.choices ≡ Some end)

abbrev pub decreases-loop-frame : goal.decreases-loop-frame
decreases-loop-frame g l = turns_of (g.N.Nodes.document l.nodes) l.stack.items
