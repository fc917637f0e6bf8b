-- No ways are ways.
use Rattle.std.proofs.Common.{sym, subst}
use Rattle.rf_frontier.specs.Ways.{IsWays}
use Rattle.rf_frontier.proofs.Ways.{no_ways}
use Rattle.rf_frontier.proofs.hows.Hows.clear.Goals as goal

pub invariant_of-self : goal.invariant_of-self
invariant_of-self c = subst (λ l. IsWays l) (sym c.clear.ensures.items) no_ways
