-- Choices that fit pick a resolution of the core's document.
use Rattle.std.proofs.Common.{arith}
use Rattle.rf_base_document.specs.Graph.{unfolded}
use Rattle.rf_base_document.proofs.Graph.{StandsFor-unfolded}
use Rattle.rf_documents.proofs.layouts.layout_of.Goals as goal

pub render-requires : goal.render-requires
render-requires c =
    let stands = StandsFor-unfolded c.args.core.now.nodes c.args.core.now.root c.root.ensures.is_graph (omega (arith, c.root.ensures.root, c.root.ensures.in_core)) in
    (unfolded c.args.core.now.nodes c.args.core.now.root, stands, (c.in_ok-fit.ensures (unfolded c.args.core.now.nodes c.args.core.now.root) stands).0 c.if-fit.true)
