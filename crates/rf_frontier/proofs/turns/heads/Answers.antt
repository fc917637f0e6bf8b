-- At one last column, what isn't at most outdoes nothing and is outdone.
use Rattle.std.proofs.Common.{◌≤◌, arith, rules}
use Rattle.rf_frontier.proofs.Steps.{cheaper_outdoes}
use Rattle.rf_frontier.proofs.turns.heads.Goals as goal

pub returns-then-x-y-2-clause-turn : goal.returns-then-x-y-2-clause-turn
returns-then-x-y-2-clause-turn g c =
    let ends : c.args.y.last ≤ c.args.x.last = omega arith in
    cheaper_outdoes (g.F.Factory.costs c.args.factory.now) (g.met.F.Factory.lawful c.args.factory.now) c.args.x c.args.y c.requires.first c.requires.second ends (search rules)
