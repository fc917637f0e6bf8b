-- Each node is written from nodes that stand before it.
use Rattle.std.proofs.Common.{ℕ, ◌+◌, ◌*◌, List, length, take}
use Rattle.rf_base_grammar.specs.Token.{Token}
use Rattle.rf_base_tree.specs.Trees.{Tree, Forest}
use Rattle.rf_base_tree.specs.Slots.{Entry, Slot}
use Rattle.rf_base_lines.specs.Lists.{SomeBreaks}
use Rattle.rf_style.specs.StyleOf.{seen}
use Rattle.rf_tree.specs.Kept.{IsTreeOf}
use Rattle.rf_tree.specs.Slots.{NodesStand, NodeSlotsStand, NodeSlotsBelow}
use Rattle.rf_tree.specs.Ahead.{slots_ahead, IsCursor}
use Rattle.rf_lines.specs.Written.{Stretch}
use Rattle.rf_ways.specs.Nodes.{AreSlots, parts_of}
use Rattle.rf_lines.specs.Turned.{SomeLed}
use Rattle.rf_lines.specs.Nodes.{WritesParts, comment_parts}
use Rattle.rf_lines.proofs.nodes.+nodes.Given as goal

abbrev pub decreases-write_node : goal.decreases-write_node
decreases-write_node l = 11 * l.at.0 + 10

abbrev pub decreases-write_inner : goal.decreases-write_inner
decreases-write_inner l = 11 * l.at.0 + 9

abbrev pub decreases-write_comment : goal.decreases-write_comment
decreases-write_comment l = 11 * l.at.0 + 8

abbrev pub decreases-write_comment_behind : goal.decreases-write_comment_behind
decreases-write_comment_behind l = 11 * l.place.before

abbrev pub decreases-write_list : goal.decreases-write_list
decreases-write_list l = 11 * l.at.0 + 8

abbrev pub decreases-write_prefixed : goal.decreases-write_prefixed
decreases-write_prefixed l = 11 * l.place.before + 7

abbrev pub decreases-write_body : goal.decreases-write_body
decreases-write_body l = 11 * l.place.before + 7

abbrev pub decreases-write_others : goal.decreases-write_others
decreases-write_others l = 11 * l.place.before + 5

abbrev pub decreases-write_next : goal.decreases-write_next
decreases-write_next l = 11 * l.place.before + 4

abbrev pub decreases-write_parted : goal.decreases-write_parted
decreases-write_parted l = 11 * l.place.before + 3

abbrev pub decreases-write_remark : goal.decreases-write_remark
decreases-write_remark l = 11 * l.place.before + 2

abbrev pub decreases-write_led : goal.decreases-write_led
decreases-write_led l = 11 * l.place.before + 2

abbrev pub decreases-write_comments : goal.decreases-write_comments
decreases-write_comments l = 11 * l.place.before + 1

abbrev pub decreases-write_keyed : goal.decreases-write_keyed
decreases-write_keyed l = 11 * l.place.before + 1

abbrev pub decreases-write_behind : goal.decreases-write_behind
decreases-write_behind l = 11 * l.place.before

-- each so far
abbrev pub invariant-write_comments-loop-at : goal.invariant-write_comments-loop-at
invariant-write_comments-loop-at l =
    (ts : List Token) (trees : Forest) (es : List (Entry Tree)) → IsTreeOf l.writer.tree.now ts trees → NodesStand ts l.writer.tree.now.nodes l.comments es →
    WritesParts l.writer ts l.before (comment_parts (seen l.writer.style.now) ts l.place.quoted (take l.at-index es)) l.place.flat l.fn.strip l.strip l.last

-- what is left, once it is written behind what was, makes all of it written
abbrev pub invariant-write_others-loop-ahead : goal.invariant-write_others-loop-ahead
invariant-write_others-loop-ahead l =
    record {
      cursor : IsCursor l.ahead;
      slots : AreSlots l.writer.tree.now (slots_ahead l.ahead);
      below : NodeSlotsBelow l.place.before (slots_ahead l.ahead);
      left : (ts : List Token) (trees : Forest) (ss : List (Slot Tree)) → IsTreeOf l.writer.tree.now ts trees
          → NodeSlotsStand ts l.writer.tree.now.nodes (slots_ahead l.fn.slots) ss
          → (rest : List (Slot Tree)) × NodeSlotsStand ts l.writer.tree.now.nodes (slots_ahead l.ahead) rest
          × ((new : Stretch) (end : ℕ)
          → WritesParts l.writer ts l.last (parts_of (seen l.writer.style.now) ts l.place.quoted l.roles rest) l.place.flat l.strip new end
          → WritesParts l.writer ts l.before (parts_of (seen l.writer.style.now) ts l.place.quoted l.fn.roles ss) l.place.flat l.fn.strip new end)
          × ((SomeLed (slots_ahead l.ahead) → SomeBreaks (parts_of (seen l.writer.style.now) ts l.place.quoted l.roles rest))
          → SomeLed (slots_ahead l.fn.slots) → SomeBreaks (parts_of (seen l.writer.style.now) ts l.place.quoted l.fn.roles ss));
    }

abbrev pub decreases-write_others-loop-ahead : goal.decreases-write_others-loop-ahead
decreases-write_others-loop-ahead l = length (slots_ahead l.ahead)
