-- The nodes so far are laid out, and behind them those that are left.
use Rattle.std.proofs.Common.{List, []}
use Rattle.rf_base_grammar.specs.Token.{Token}
use Rattle.rf_base_tree.specs.Trees.{Tree, Forest}
use Rattle.rf_base_tree.specs.Slots.{Entry}
use Rattle.rf_style.specs.StyleOf.{seen}
use Rattle.rf_tree.specs.Kept.{IsTreeOf}
use Rattle.rf_tree.specs.Slots.{NodesStand}
use Rattle.rf_ways.specs.Steps.{docs_behind}
use Rattle.rf_rows.specs.Laying.{frames_of}
use Rattle.rf_rows.proofs.Frames.{GoesOn}
use Rattle.rf_slot_rows.specs.Leads.{lines_docs}
use Rattle.rf_slot_rows.proofs.LeadLines.{lines_from}
use Rattle.rf_slot_rows.proofs.leads.lay_nodes.Given as goal

abbrev pub invariant-loop-at : goal.invariant-loop-at
invariant-loop-at g l = record {
  laid : (ts : List Token) (trees : Forest) (es : List (Entry Tree)) → IsTreeOf l.context.tree.now ts trees →
      NodesStand ts l.context.tree.now.nodes l.nodes es →
      GoesOn g.P.Paper.holds l.fn.paper l.paper (frames_of l.spot (lines_docs l.place (seen l.context.style.now) ts es)) [] (λ o. o)
      (frames_of l.spot (docs_behind ts l.last (lines_from l.context l.place ts es l.at-index))) [];
}
