-- The part's frontier is the node's, by the node's kind.
use Rattle.rf_flat.proofs.CoreNodes.{told_as}
use Rattle.rf_resolve.proofs.Alike.{nest_limit, nest_same, align_same, reset_same}
use Rattle.rf_resolve.proofs.keys.part.Goals as goal

pub nested-requires-clause-columns : goal.nested-requires-clause-columns
nested-requires-clause-columns g c =
    nest_limit _ c.args.key.node c.in-Nest.n c.in-Nest.a c.node.ensures.is_graph (told_as _ c.args.key.node _ _ c.in-Nest.is c.node.ensures.told)

pub returns-in-Nest-clause-same : goal.returns-in-Nest-clause-same
returns-in-Nest-clause-same g c =
    nest_same _ _ _ c.args.key c.nested.result c.in-Nest.n c.in-Nest.a c.node.ensures.is_graph (told_as _ c.args.key.node _ _ c.in-Nest.is c.node.ensures.told) c.nested.ensures

pub returns-in-Align-clause-same : goal.returns-in-Align-clause-same
returns-in-Align-clause-same g c =
    align_same _ _ _ c.args.key c.at.result c.in-Align.a c.node.ensures.is_graph (told_as _ c.args.key.node _ _ c.in-Align.is c.node.ensures.told) c.at.ensures

pub returns-in-Reset-clause-same : goal.returns-in-Reset-clause-same
returns-in-Reset-clause-same g c =
    reset_same _ _ _ c.args.key c.at-in-Reset.result c.in-Reset.a c.node.ensures.is_graph (told_as _ c.args.key.node _ _ c.in-Reset.is c.node.ensures.told) c.at-in-Reset.ensures
