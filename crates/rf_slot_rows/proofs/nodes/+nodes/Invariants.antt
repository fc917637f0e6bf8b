-- Each piece is made of pieces of nodes that stand before.
use Rattle.std.proofs.Common.{◌≡◌, ◌≤◌, ◌+◌, ◌-◌, ◌*◌, List, length, take, drop}
use Rattle.rf_base_grammar.specs.Token.{Token}
use Rattle.rf_base_tree.specs.Trees.{Tree, Forest}
use Rattle.rf_base_tree.specs.Slots.{Entry, Slot}
use Rattle.rf_base_tree.specs.declared.separators.Want.TheVariants as want
use Rattle.rf_base_file.specs.Rows.{steps_last, steps_wanting}
use Rattle.rf_style.specs.StyleOf.{seen}
use Rattle.rf_tree.specs.Kept.{IsTreeOf}
use Rattle.rf_tree.specs.Slots.{NodesStand, NodeSlotsStand}
use Rattle.rf_tree.specs.Ahead.{slots_ahead, IsCursor}
use Rattle.rf_rows.specs.Puts.{Fills}
use Rattle.rf_slot_rows.specs.Puts.{StepsPut}
use Rattle.rf_slot_rows.specs.Bodies.{free_steps, roles_behind}
use Rattle.rf_ways.specs.Nodes.{parts_of}
use Rattle.rf_slot_rows.specs.Nodes.{nodes_in}
use Rattle.rf_slot_rows.specs.Growth.{FewBlanks, EntriesGrow, SlotsAdd}
use Rattle.rf_slot_rows.proofs.nodes.+nodes.Given as goal

abbrev pub decreases-put_node : goal.decreases-put_node
decreases-put_node l = 32 * l.at.0 + 30

abbrev pub decreases-put_list : goal.decreases-put_list
decreases-put_list l = 32 * l.at.0 + 29

abbrev pub decreases-put_made : goal.decreases-put_made
decreases-put_made l = 32 * l.at.0 + 28

abbrev pub decreases-put_prefixed : goal.decreases-put_prefixed
decreases-put_prefixed l = 32 * l.place.before + 28

abbrev pub decreases-put_aligned : goal.decreases-put_aligned
decreases-put_aligned l = 32 * l.place.before + 26

abbrev pub decreases-put_lead : goal.decreases-put_lead
decreases-put_lead l = 32 * l.place.before + 24

abbrev pub decreases-put_body : goal.decreases-put_body
decreases-put_body l = 32 * l.place.before + 26

abbrev pub decreases-put_rest : goal.decreases-put_rest
decreases-put_rest l = 32 * l.place.before + 24

abbrev pub decreases-put_others : goal.decreases-put_others
decreases-put_others l = 32 * l.place.before + 22

abbrev pub decreases-put_run : goal.decreases-put_run
decreases-put_run l = 32 * l.place.before + 20

abbrev pub decreases-put_free : goal.decreases-put_free
decreases-put_free l = 32 * l.place.before + 18

abbrev pub decreases-put_first : goal.decreases-put_first
decreases-put_first l = 32 * l.place.before + 18

abbrev pub decreases-put_next : goal.decreases-put_next
decreases-put_next l = 32 * l.place.before + 16

abbrev pub decreases-put_parted : goal.decreases-put_parted
decreases-put_parted l = 32 * l.place.before + 14

abbrev pub decreases-put_slot : goal.decreases-put_slot
decreases-put_slot l = 32 * l.place.before + 12

abbrev pub decreases-put_together : goal.decreases-put_together
decreases-put_together l = 32 * l.place.before + 10

abbrev pub decreases-put_parts : goal.decreases-put_parts
decreases-put_parts l = 32 * l.place.before + 8

abbrev pub decreases-put_nodes : goal.decreases-put_nodes
decreases-put_nodes l = 32 * l.place.before + 6

abbrev pub decreases-put_perhaps : goal.decreases-put_perhaps
decreases-put_perhaps l = 32 * l.place.before + 6

abbrev pub decreases-put_behind : goal.decreases-put_behind
decreases-put_behind l = 32 * l.place.before + 4

-- the nodes so far
abbrev pub invariant-put_nodes-loop-at : goal.invariant-put_nodes-loop-at
invariant-put_nodes-loop-at l =
    record {
      put : (ts : List Token) (trees : Forest) (es : List (Entry Tree)) → IsTreeOf l.context.tree.now ts trees
          → NodesStand ts l.context.tree.now.nodes l.nodes es
          → StepsPut ts l.fn.rows l.rows l.fn.before l.last (steps_wanting l.want (nodes_in (seen l.context.style.now) ts l.place.quoted l.place.role (take l.at-index es)));
      grown : FewBlanks l.context.tree.now → (ts : List Token) (trees : Forest) (es : List (Entry Tree)) → IsTreeOf l.context.tree.now ts trees
          → NodesStand ts l.context.tree.now.nodes l.nodes es → EntriesGrow ts (take l.at-index es) l.fn.rows l.rows;
    }

-- so many slots so far, the roles of those behind, and what is still to come
abbrev pub invariant-put_run-loop-next : goal.invariant-put_run-loop-next
invariant-put_run-loop-next l =
    record {
      cursor : IsCursor l.ahead;
      within : l.count ≤ l.most;
      taken : l.count ≤ length (slots_ahead l.slots);
      ahead : slots_ahead l.ahead ≡ drop l.count (slots_ahead l.slots);
      roles : l.run.roles ≡ roles_behind l.count l.fn.begun.roles;
      last : (ts : List Token) (trees : Forest) (ss : List (Slot Tree)) → IsTreeOf l.context.tree.now ts trees
          → NodeSlotsStand ts l.context.tree.now.nodes (take l.most (slots_ahead l.slots)) ss
          → l.run.last ≡ steps_last l.fn.begun.last (steps_wanting want.Line (parts_of (seen l.context.style.now) ts l.place.quoted l.fn.begun.roles (take l.count ss)));
      put : (ts : List Token) (trees : Forest) (ss : List (Slot Tree)) → IsTreeOf l.context.tree.now ts trees
          → NodeSlotsStand ts l.context.tree.now.nodes (take l.most (slots_ahead l.slots)) ss
          → Fills l.fn.rows l.rows (free_steps ts l.fn.begun.last (parts_of (seen l.context.style.now) ts l.place.quoted l.fn.begun.roles (take l.count ss)));
      grown : FewBlanks l.context.tree.now → (ts : List Token) (trees : Forest) (ss : List (Slot Tree)) → IsTreeOf l.context.tree.now ts trees
          → NodeSlotsStand ts l.context.tree.now.nodes (take l.most (slots_ahead l.slots)) ss → SlotsAdd 0 ts (take l.count ss) l.fn.rows l.rows;
    }

abbrev pub decreases-put_run-loop-next : goal.decreases-put_run-loop-next
decreases-put_run-loop-next l = l.most - l.count
