-- A break costs a value.
use Rattle.std.proofs.Common.{refl, arith}
use Rattle.rf_frontier.proofs.Behind.{one_belongs}
use Rattle.rf_frontier.proofs.Steps.{same_value}
use Rattle.rf_search.specs.Sought.{task}
use Rattle.rf_search.proofs.behind.put_break.Goals as goal

pub add-m-requires-clause-second : goal.add-m-requires-clause-second
add-m-requires-clause-second g c =
    same_value (task c.args.setting.now).costs c.newline-newline.result _ c.newline-newline.ensures
    ((g.met.F.Factory.lawful c.args.setting.now.factory.now).newline_is_value c.args.indentation
    (omega (arith, c.requires.narrow, c.requires.within)))

pub returns-clause-belong : goal.returns-clause-belong
returns-clause-belong g c = λ ways less. one_belongs ways _ _ refl less
