-- A datum that begins the first slot has its node's word.
use Rattle.std.proofs.Common.{List, length, map, sym, ap, ◌∙◌}
use Rattle.rf_base_tree.specs.Trees.{Tree}
use Rattle.rf_base_tree.specs.Slots.{Slot}
use Rattle.rf_base_file.specs.Ways.{first_word}
use Rattle.rf_base_file.specs.FileDocument.{slot_piece}
use Rattle.rf_tree.specs.Ahead.{slots_ahead, datum_slot}
use Rattle.rf_ways.specs.Words.{told}
use Rattle.rf_ways.proofs.Taking.{begun_with, below_cut, first_slot}
use Rattle.rf_ways.proofs.Words.{datum_word}
use Rattle.rf_ways.proofs.ways.first_word.Goals as goal

pub node_word-requires-clause-there : goal.node_word-requires-clause-there
node_word-requires-clause-there c =
    let all = slots_ahead c.args.slots in
    let b = begun_with all c.first_datum.result c.in-Some.at c.in-Some.is c.first_datum.ensures in
    (below_cut (length c.args.tree.now.nodes) all (datum_slot c.in-Some.at b.0) b.1 b.2 c.requires.slots).0.0

pub returns-in-Some : goal.returns-in-Some
returns-in-Some c style ts trees ss holds stand =
    let nodes = c.args.tree.now.nodes in
    let all = slots_ahead c.args.slots in
    let at = c.in-Some.at in
    let b = begun_with all c.first_datum.result at c.in-Some.is c.first_datum.ensures in
    let f = first_slot ts nodes all (datum_slot at b.0) b.1 ss b.2 stand in
    datum_word style ts nodes at b.0 f.slot (told c.node_word.result) (λ t u. c.node_word.ensures style ts trees t holds u) f.first
    ∙ ap (λ (xs : List (Slot Tree)). first_word (map (slot_piece style ts) xs)) (sym f.is)
