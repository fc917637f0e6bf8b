-- A leaf has its item's word, and no other node has one.
use Rattle.rf_tree.specs.Told.{told_node}
use Rattle.rf_tree.proofs.ToldNodes.{told_at}
use Rattle.rf_ways.specs.Words.{told}
use Rattle.rf_ways.proofs.Words.{leaf_word, other_word, not_leaf}
use Rattle.rf_ways.proofs.ways.node_word.Goals as goal

pub returns-in-Leaf : goal.returns-in-Leaf
returns-in-Leaf c style ts trees t holds unfolds =
    let nodes = c.args.tree.now.nodes in
    let at = told_at nodes c.args.at.0 c.node.ensures c.in-Leaf.is in
    leaf_word style ts nodes c.args.at.0 c.in-Leaf.item (told c.item_word.result) t at unfolds (c.item_word.ensures ts trees holds)

pub returns-in_default : goal.returns-in_default
returns-in_default c style ts trees t holds unfolds =
    other_word style ts c.args.tree.now.nodes c.args.at.0 (told_node c.node.result) t c.node.ensures (not_leaf c.node.result c.in_default.not-Leaf) unfolds
