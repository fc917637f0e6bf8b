-- The pieces are those that were put on the stack above the height.
use Rattle.std.proofs.Common.{[], ◌∷◌, ap, arith}
use Rattle.rf_base_document.specs.Document.{Doc, Align}
use Rattle.rf_base_document.specs.Sequence.{seq}
use Rattle.rf_rows.proofs.Stacks.{on_ok}
use Rattle.rf_slot_rows.proofs.Putting.{height_is, puts_same, closes, aligned_is, all_marks}
use Rattle.rf_slot_rows.proofs.joins.align.Goals as goal

pub overflow_sub-height : goal.overflow_sub-height
overflow_sub-height c = omega (arith, c.requires, height_is c.args.rows.now c.height.result c.height.ensures)

pub marks_of_all-requires : goal.marks_of_all-requires
marks_of_all-requires c = omega (arith, c.args.rows.now.stand.low, height_is c.args.rows.now c.height.result c.height.ensures)

pub close-requires-clause-marks : goal.close-requires-clause-marks
close-requires-clause-marks c =
    all_marks c.marks_of_all.result _ _ c.marks_of_all.ensures (omega (arith, height_is c.args.rows.now c.height.result c.height.ensures))

pub returns-clause-put : goal.returns-clause-put
returns-clause-put c =
    on_ok c.close.result _ _
    (λ closed base ds high put.
    puts_same base c.close.new.self _ (Align (seq ds) ∷ []) (ap (λ (d : Doc). d ∷ []) (aligned_is c.marks_of_all.result ds))
    (closes base c.args.rows.now c.close.new.self (λ f. ds) c.args.height c.marks_of_all.result _ high put closed))
    c.close.ensures.put
