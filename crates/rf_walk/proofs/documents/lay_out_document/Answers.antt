-- What the root is unfolded to is the document that it stands for.
use Rattle.std.proofs.lemmas.Result.{IfOk-weaker}
use Rattle.rf_base_document.specs.TooLong.{IsTooLong}
use Rattle.rf_walk.specs.LaidOut.{IsLaidOn}
use Rattle.rf_walk.proofs.Ends.{unfolded_laid_out, as_unfolded}
use Rattle.rf_walk.proofs.documents.lay_out_document.Goals as goal

pub lay_out_nodes-requires-clause-picked : goal.lay_out_nodes-requires-clause-picked
lay_out_nodes-requires-clause-picked g c =
    unfolded_laid_out c.args.graph.now c.args.root.0 c.args.choices.now c.len.ensures.is_graph c.requires.picked

pub returns-clause-laid : goal.returns-clause-laid
returns-clause-laid g c =
    IfOk-weaker c.lay_out_nodes.result _ _
    (λ _ laid. as_unfolded c.args.graph.now c.args.root.0 c.args.choices.now
    (λ e. IsLaidOn (g.P.Paper.holds c.args.paper.now c.lay_out_nodes.new.paper) e c.args.choices.now) c.len.ensures.is_graph laid)
    c.lay_out_nodes.ensures.laid

pub returns-clause-too_long : goal.returns-clause-too_long
returns-clause-too_long g c = λ long.
    as_unfolded c.args.graph.now c.args.root.0 c.args.choices.now (λ e. IsTooLong e c.args.choices.now) c.len.ensures.is_graph
    (c.lay_out_nodes.ensures.too_long long)
