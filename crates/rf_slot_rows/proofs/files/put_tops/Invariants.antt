-- The slots so far.
use Rattle.std.proofs.Common.{None, List, take}
use Rattle.rf_base_grammar.specs.Token.{Token}
use Rattle.rf_base_tree.specs.Trees.{Tree, Forest}
use Rattle.rf_base_tree.specs.Slots.{Slot}
use Rattle.rf_base_tree.specs.declared.separators.Want.TheVariants as want
use Rattle.rf_base_file.specs.Rows.{steps_wanting}
use Rattle.rf_style.specs.StyleOf.{seen}
use Rattle.rf_tree.specs.Kept.{IsTreeOf}
use Rattle.rf_tree.specs.Slots.{SlotsStand}
use Rattle.rf_slot_rows.specs.Puts.{StepsPut}
use Rattle.rf_slot_rows.specs.Nodes.{tops_of}
use Rattle.rf_slot_rows.specs.Growth.{FewBlanks, SlotsAdd}
use Rattle.rf_slot_rows.proofs.files.put_tops.Given as goal

abbrev pub invariant-loop-slot : goal.invariant-loop-slot
invariant-loop-slot l =
    record {
      put : (ts : List Token) (trees : Forest) (ss : List (Slot Tree)) → IsTreeOf l.context.tree.now ts trees
          → SlotsStand ts l.context.tree.now.nodes l.slots ss
          → StepsPut ts l.fn.rows l.rows None l.last (steps_wanting want.Must (tops_of (seen l.context.style.now) ts (take l.slot-index ss)));
      grown : FewBlanks l.context.tree.now → (ts : List Token) (trees : Forest) (ss : List (Slot Tree)) → IsTreeOf l.context.tree.now ts trees
          → SlotsStand ts l.context.tree.now.nodes l.slots ss → SlotsAdd 0 ts (take l.slot-index ss) l.fn.rows l.rows;
    }
