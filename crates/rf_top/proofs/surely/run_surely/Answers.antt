-- Its counts are 0, so what a run says of faults that were counted says that there was none.
use Rattle.rf_top.proofs.Sure.{none_rose, no_read_failed}
use Rattle.rf_top.proofs.surely.run_surely.Goals as goal

pub returns-clause-no_read_fault : goal.returns-clause-no_read_fault
returns-clause-no_read_fault g c is = no_read_failed c.args.words.now (c.run.ensures.read_fault is)

pub returns-clause-no_write_fault : goal.returns-clause-no_write_fault
returns-clause-no_write_fault g c is = none_rose (c.run.ensures.write_fault is)

pub returns-clause-complete : goal.returns-clause-complete
returns-clause-complete g c file source told answer is =
    c.run.ensures.complete file source told answer is (no_read_failed c.args.words.now) none_rose
