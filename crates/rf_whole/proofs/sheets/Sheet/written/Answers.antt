-- The text, the cost and the weight are the sheet's.
use Rattle.std.proofs.Common.{refl}
use Rattle.rf_whole.proofs.Writing.{written_of}
use Rattle.rf_whole.proofs.sheets.Sheet.written.Goals as goal

pub returns : goal.returns
returns g c e choices laid =
    written_of (g.F.Factory.costs c.args.self.tally.factory.now) (g.met.F.Factory.lawful c.args.self.tally.factory.now) e choices _ c.args.self.tally.cost c.args.self.tally.extent c.args.self.widest _ refl refl refl
    (λ pieces weight covers. c.weight-weight.ensures pieces weight covers) laid
