-- A text costs a value.
use Rattle.std.proofs.Common.{arith}
use Rattle.rf_frontier.proofs.Steps.{same_value}
use Rattle.rf_search.specs.Sought.{task}
use Rattle.rf_search.proofs.behind.put_leaf.Goals as goal

pub add-m-requires-clause-second : goal.add-m-requires-clause-second
add-m-requires-clause-second g c =
    same_value (task c.args.setting.now).costs c.text-text.result _ c.text-text.ensures
    ((g.met.F.Factory.lawful c.args.setting.now.factory.now).text_is_value c.args.m.now.last c.args.len
    (omega (arith, c.requires.narrow, c.requires.within)) (omega (arith, c.requires.narrow, c.requires.within)))
