-- The way of the one measure is the leaf.
use Rattle.std.proofs.Common.{◌∙◌}
use Rattle.std.proofs.lemmas.Result.{IfOk-weaker}
use Rattle.rf_frontier.proofs.Behind.{one_belongs}
use Rattle.rf_frontier.proofs.Results.{one_ordered, one_value}
use Rattle.rf_frontier.proofs.marking.leaf.Goals as goal

pub returns-clause-belongs : goal.returns-clause-belongs
returns-clause-belongs g c = IfOk-weaker c.of.result _ _ (λ f e. one_belongs c.leaf.new.self f _ (e ∙ c.one.ensures) c.in_ok-how.ensures.in_ways) c.of.ensures

pub returns-clause-ordered : goal.returns-clause-ordered
returns-clause-ordered g c = IfOk-weaker c.of.result _ _ (λ f e. one_ordered f _ (e ∙ c.one.ensures)) c.of.ensures

pub returns-clause-values : goal.returns-clause-values
returns-clause-values g c = IfOk-weaker c.of.result _ _ (λ f e. one_value f _ (e ∙ c.one.ensures)) c.of.ensures
