-- With comments before them the pieces are aligned.
use Rattle.rf_rows.proofs.Stacks.{on_ok}
use Rattle.rf_slot_rows.proofs.Putting.{joined_behind, aligned_put}
use Rattle.rf_slot_rows.proofs.joins.join_behind.Goals as goal

pub returns-then-leads-eq0-clause-put : goal.returns-then-leads-eq0-clause-put
returns-then-leads-eq0-clause-put c =
    on_ok c.join.result _ _
    (λ made base es ds size high put. joined_behind base c.join.new.rows es ds c.args.leads size c.if-leads-eq0.true (made base ds high put))
    c.join.ensures.put

pub returns-else-leads-eq0-clause-put : goal.returns-else-leads-eq0-clause-put
returns-else-leads-eq0-clause-put c =
    on_ok c.align.result _ _
    (λ made base es ds size high put. aligned_put base c.align.new.rows es ds c.args.leads size c.if-leads-eq0.false (made base ds high put))
    c.align.ensures.put
