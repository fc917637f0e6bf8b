-- What isn't charged for is paid already.
use Rattle.rf_rows.proofs.Frames.{paid}
use Rattle.rf_rows.proofs.laying.pay.Goals as goal

pub returns-then-charge-gt0 : goal.returns-then-charge-gt0
returns-then-charge-gt0 g c = paid g.P.Paper.holds c.args.paper.now c.fee.new.self c.args.charge c.if-charge-gt0.true c.fee.ensures
