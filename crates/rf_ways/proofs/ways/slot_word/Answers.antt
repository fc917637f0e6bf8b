-- A datum without a key.
use Rattle.std.proofs.Common.{subst}
use Rattle.std.proofs.Common.{Option, length}
use Rattle.rf_tree.specs.declared.nodes.At.{At}
use Rattle.rf_ways.specs.Below.{AtBelow}
use Rattle.rf_tree.specs.Slots.{read_slot}
use Rattle.rf_ways.proofs.Below.{slot_below}
use Rattle.rf_ways.proofs.ways.slot_word.Goals as goal

pub node_word-requires-clause-there : goal.node_word-requires-clause-there
node_word-requires-clause-there c =
    let n = length c.args.tree.now.nodes in
    subst (λ (o : Option At). AtBelow n o) c.in-None-Some.is-1 (slot_below n (read_slot c.args.slot) c.requires.slot).datum
