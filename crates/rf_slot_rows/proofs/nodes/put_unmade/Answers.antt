-- The node has one document, which is that of the tree.
use Rattle.std.proofs.Common.{◌∷◌, [], ap}
use Rattle.rf_base_document.specs.Document.{Doc}
use Rattle.rf_ways.proofs.NodeTrees.{node_document}
use Rattle.rf_slot_rows.proofs.Putting.{puts_same}
use Rattle.rf_slot_rows.proofs.nodes.put_unmade.Goals as goal

pub returns-in-Some-room_for-clause-put : goal.returns-in-Some-room_for-clause-put
returns-in-Some-room_for-clause-put c is ts trees t holds unfolds =
    puts_same c.args.rows.now c.unmade.new.self _ _
    (ap (λ (d : Doc). d ∷ []) (node_document (record { tree = c.args.context.now.tree; style = c.args.context.now.style; at = c.args.at; quoted = c.args.place.quoted; role = c.args.place.role }) ts trees t
    holds unfolds)) (c.unmade.ensures.put is)
