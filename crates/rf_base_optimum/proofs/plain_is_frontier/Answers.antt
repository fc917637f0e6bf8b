-- The law is the lemmas.
use Rattle.rf_base_optimum.proofs.Frontier.{plain_frontier, plain_values, plain_ends, plain_short}
use Rattle.rf_base_optimum.proofs.plain_is_frontier.Goals as goal

pub returns : goal.returns
returns g c = λ costs w d column indentation laws p q. (
  plain_frontier costs laws w d column indentation p q,
  plain_values costs laws w d column indentation p q,
  plain_ends costs w d column indentation,
  plain_short costs laws w d column indentation p q,
)
