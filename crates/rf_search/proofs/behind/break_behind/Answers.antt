-- A break has one measure at most, of the ways that were there.
use Rattle.std.proofs.Common.{[], refl}
use Rattle.rf_search.proofs.Kept.{none_belongs}
use Rattle.rf_search.proofs.behind.break_behind.Goals as goal

pub returns-then-indentation-setting-clause-belong : goal.returns-then-indentation-setting-clause-belong
returns-then-indentation-setting-clause-belong g c = λ ways several less. none_belongs ways [] refl

pub returns-clause-belong : goal.returns-clause-belong
returns-clause-belong g c = λ ways several less. c.put_break.ensures.belong ways less
