-- The charge is counted behind the older costs.
use Rattle.rf_base_document.specs.Render.{Fee}
use Rattle.rf_measure.proofs.Counting.{count_is_value, counts_more}
use Rattle.rf_measure.proofs.tallies.TallyPaper.fee.Goals as goal

pub add-self-requires-clause-first : goal.add-self-requires-clause-first
add-self-requires-clause-first g c =
    let held = c.requires.held in
    count_is_value (g.F.Factory.costs c.args.self.now.factory.now) (g.met.F.Factory.lawful c.args.self.now.factory.now) c.args.self.now.cost c.args.self.now.extent held.1 held.2 held.3.1

pub add-self-requires-clause-second : goal.add-self-requires-clause-second
add-self-requires-clause-second g c = rw c.charge-of_charge.ensures ((g.met.F.Factory.lawful c.args.self.now.factory.now).charge_is_value c.args.k c.requires.charge)

pub returns : goal.returns
returns g c = λ blank pieces weight held. (
  held.0,
  counts_more (g.F.Factory.costs c.args.self.now.factory.now) c.args.self.now.cost _ _ c.args.self.now.extent c.fee.new.self pieces weight _ (Fee c.args.k) held.1
      (c.fee.ensures c.args.self.now.extent pieces weight held.1.covers) c.requires.charge
      c.charge-of_charge.ensures c.add-self.ensures,
)
