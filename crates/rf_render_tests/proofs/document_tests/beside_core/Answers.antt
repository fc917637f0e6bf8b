-- What was rendered of the core has a layout, and the document has the same by the same choices.
use Rattle.std.proofs.Common.{◌≡◌, Option, None, Some, refl, arith}
use Rattle.rf_base_document.specs.Document.{Doc}
use Rattle.rf_base_document.specs.Graph.{StandsFor, unfolded}
use Rattle.rf_base_document.proofs.Graph.{StandsFor-unfolded}
use Rattle.rf_base_document.proofs.Simple.{keeps_layouts}
use Rattle.rf_flat.specs.Cores.{CoreGraph}
use Rattle.rf_flat.specs.Simplified.{StandsForCore}
use Rattle.rf_render_tests.proofs.document_tests.beside_core.Goals as goal

pub render-requires : goal.render-requires
render-requires c =
    let stands = StandsFor-unfolded c.args.core.now.nodes c.args.core.now.root c.root.ensures.is_graph (omega (arith, c.root.ensures.root, c.root.ensures.in_core)) in
    (unfolded c.args.core.now.nodes c.args.core.now.root, stands, (c.in_ok-fit.ensures (unfolded c.args.core.now.nodes c.args.core.now.root) stands).0 c.if-fit.true)

-- the core's document
core_is : (core : CoreGraph) (o : Option Doc) → StandsForCore (Some core) o → (s : Doc) × (o ≡ Some s) × StandsFor core.nodes core.root s
core_is core None h = absurd h
core_is core (Some s) h = (s, refl, h)

pub render_document-requires-clause-picked : goal.render_document-requires-clause-picked
render_document-requires-clause-picked c =
    let d : Doc = unfolded c.args.graph.now c.args.root.0 in
    let stands : StandsFor c.args.graph.now c.args.root.0 d = StandsFor-unfolded c.args.graph.now c.args.root.0 c.len-2.ensures.is_graph c.requires.in_graph in
    let core = core_is c.args.core.now _ (c.requires.core d stands) in
    let picked = (c.in_ok-fit.ensures core.0 core.2).0 c.if-fit.true in
    let rendered = c.in-Ok.ensures.rendered core.0 picked.0 core.2 picked.1 in
    (d, rendered.0, stands, (keeps_layouts d _ c.args.choices.now 0 0 rendered.0).1 (core.0, core.1, (picked.0, picked.1, rendered.1)))
