-- Choices that are seen as they are.
use Rattle.std.proofs.Common.{◌∙◌, ap}
use Rattle.std.proofs.lemmas.Result.{IfOk-weaker}
use Rattle.rf_base_cost.specs.Pareto.{pareto, all_raised}
use Rattle.rf_frontier.proofs.Seen.{seen_same}
use Rattle.rf_frontier.proofs.raising.raise.Goals as goal

pub returns-clause-raised : goal.returns-clause-raised
returns-clause-raised g c =
    IfOk-weaker c.of.result _ _
    (λ f e. e ∙ (c.in_ok-kept.ensures.raised ∙ ap (λ ms. pareto (g.F.Factory.costs c.args.factory.now) (all_raised (g.F.Factory.costs c.args.factory.now) c.args.by ms)) (seen_same c.args.list.now)))
    c.of.ensures
