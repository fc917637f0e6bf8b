-- A charge costs a value.
use Rattle.rf_frontier.proofs.Steps.{same_value}
use Rattle.rf_search.specs.Sought.{task}
use Rattle.rf_search.proofs.behind.put_charge.Goals as goal

pub add-m-requires-clause-second : goal.add-m-requires-clause-second
add-m-requires-clause-second g c =
    same_value (task c.args.setting.now).costs c.charge-charge.result _ c.charge-charge.ensures
    ((g.met.F.Factory.lawful c.args.setting.now.factory.now).charge_is_value c.args.k c.requires.charge)
