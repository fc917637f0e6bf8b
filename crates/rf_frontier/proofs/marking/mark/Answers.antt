-- Putting a direction before choices changes no last column and no cost.
use Rattle.std.proofs.Common.{[], ◌∷◌}
use Rattle.rf_frontier.proofs.Steps.{same_frontier, same_values}
use Rattle.rf_frontier.proofs.Results.{behind_ordered, behind_values}
use Rattle.rf_frontier.proofs.marking.mark.Goals as goal

pub returns-clause-ordered : goal.returns-clause-ordered
returns-clause-ordered g c =
    λ costs p. behind_ordered c.args.hows.now c.put_behind.new.hows c.in_ok-marked.marked c.put_behind.new.self (c.args.dir ∷ []) c.in_ok-put_behind.ensures.chosen costs
    (same_frontier costs c.in_ok-marked.marked c.args.f.now c.in_ok-marked.ensures p)

pub returns-clause-values : goal.returns-clause-values
returns-clause-values g c =
    λ costs p. behind_values c.args.hows.now c.put_behind.new.hows c.in_ok-marked.marked c.put_behind.new.self (c.args.dir ∷ []) c.in_ok-put_behind.ensures.chosen costs
    (same_values costs c.in_ok-marked.marked c.args.f.now c.in_ok-marked.ensures p)
