-- The nodes so far are comments.
use Rattle.std.proofs.Common.{List, take}
use Rattle.rf_base_grammar.specs.Token.{Token}
use Rattle.rf_base_tree.specs.Trees.{Tree}
use Rattle.rf_base_tree.specs.Slots.{Entry}
use Rattle.rf_tree.specs.Slots.{NodesStand}
use Rattle.rf_slot_rows.specs.Leads.{AreComments}
use Rattle.rf_slot_rows.proofs.leads.are_comments.Given as goal

abbrev pub invariant-loop-at : goal.invariant-loop-at
invariant-loop-at l = record {
  so_far : (ts : List Token) (es : List (Entry Tree)) → NodesStand ts l.tree.nodes l.nodes es →
      AreComments (take l.at-index es);
}
