-- Choices that are seen as they are.
use Rattle.std.proofs.Common.{◌∙◌}
use Rattle.std.proofs.lemmas.Result.{IfOk-weaker}
use Rattle.rf_base_cost.specs.Pareto.{all_rewayed}
use Rattle.rf_frontier.proofs.Results.{same_both}
use Rattle.rf_frontier.proofs.Seen.{seen_same}
use Rattle.rf_frontier.proofs.merging.merge_lists.Goals as goal

pub returns-clause-merged : goal.returns-clause-merged
returns-clause-merged g c =
    IfOk-weaker c.merge_views.result _ _
    (λ f e. e ∙ same_both (g.F.Factory.costs c.args.factory.now) (all_rewayed (λ how. how) c.args.a.now) c.args.a.now (all_rewayed (λ how. how) c.args.b.now) c.args.b.now (seen_same c.args.a.now) (seen_same c.args.b.now))
    c.merge_views.ensures.merged
