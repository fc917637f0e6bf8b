-- There is an item.
use Rattle.std.proofs.Common.{Option, ℕ, [], sym, ap}
use Rattle.rf_base_file.specs.Rows.{gap_docs}
use Rattle.rf_ways.specs.Steps.{gap_behind}
use Rattle.rf_rows.proofs.Stacks.{on_ok}
use Rattle.rf_slot_rows.proofs.Putting.{puts_none, puts_same}
use Rattle.rf_slot_rows.proofs.gaps.put_gap_behind.Goals as goal

pub returns-in-Some-clause-put : goal.returns-in-Some-clause-put
returns-in-Some-clause-put c =
    on_ok c.put_gap.result _ _
    (λ put ts trees holds.
    puts_same c.args.rows.now c.put_gap.new.rows (gap_docs ts c.in-Some.before c.args.next c.args.want) (gap_behind ts c.args.last c.args.next c.args.want)
    (sym (ap (λ (o : Option ℕ). gap_behind ts o c.args.next c.args.want) c.in-Some.is)) (put ts trees holds))
    c.put_gap.ensures.put

pub returns-in-None-clause-put : goal.returns-in-None-clause-put
returns-in-None-clause-put c ts trees holds =
    puts_same c.args.rows.now c.args.rows.now [] (gap_behind ts c.args.last c.args.next c.args.want)
    (sym (ap (λ (o : Option ℕ). gap_behind ts o c.args.next c.args.want) c.in-None.is)) (puts_none c.args.rows.now)
