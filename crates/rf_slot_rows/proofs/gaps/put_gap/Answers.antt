-- The separator is that of the two items.
use Rattle.std.proofs.Common.{length, ap, arith}
use Rattle.rf_base_file.specs.Rows.{separator_docs, gap_docs}
use Rattle.rf_rows.proofs.Stacks.{on_ok}
use Rattle.rf_slot_rows.proofs.Putting.{puts_same}
use Rattle.rf_slot_rows.proofs.Growing.{gap_few}
use Rattle.rf_slot_rows.proofs.gaps.put_gap.Goals as goal

pub returns-clause-put : goal.returns-clause-put
returns-clause-put c =
    on_ok c.put_separator.result _ _
    (λ put ts trees holds.
    puts_same c.args.rows.now c.put_separator.new.rows (separator_docs c.separator.result) (gap_docs ts c.args.before c.args.next c.args.want)
    (c.separator.ensures ts trees holds) put)
    c.put_separator.ensures.put

pub returns-clause-grown : goal.returns-clause-grown
returns-clause-grown c =
    let t = c.requires in
    on_ok c.put_separator.result _ _
    (λ grown few. omega (arith, grown, ap length (c.separator.ensures t.0 t.1 t.2), gap_few c.args.tree.now t.0 t.1 c.args.before c.args.next c.args.want t.2 few))
    c.put_separator.ensures.grown
