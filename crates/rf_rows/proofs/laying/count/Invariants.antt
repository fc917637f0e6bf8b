-- So many choices as turns were made are counted.
use Rattle.rf_rows.specs.Laying.{GainsChoices}
use Rattle.rf_rows.proofs.laying.count.Given as goal

abbrev pub invariant-loop-turn : goal.invariant-loop-turn
invariant-loop-turn g l = record {
  counted : GainsChoices g.P.Paper.holds l.fn.paper l.paper l._turn;
}
