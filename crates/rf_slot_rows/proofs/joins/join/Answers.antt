-- No piece, one, or more of them.
use Rattle.std.proofs.Common.{ℕ, List, [], ◌∷◌, ap, arith}
use Rattle.rf_base_document.specs.Document.{Doc, Text}
use Rattle.rf_base_document.specs.Sequence.{seq}
use Rattle.rf_rows.proofs.Stacks.{on_ok}
use Rattle.rf_slot_rows.proofs.Putting.{height_is, puts_same, closes, bare_is, all_marks, none_put, one_put, no_text, no_chars}
use Rattle.rf_slot_rows.proofs.joins.join.Goals as goal

pub overflow_sub-height : goal.overflow_sub-height
overflow_sub-height c = omega (arith, c.requires, height_is c.args.rows.now c.height.result c.height.ensures)

pub text-requires-clause-limits : goal.text-requires-clause-limits
text-requires-clause-limits c = no_text

pub marks_of_all-requires : goal.marks_of_all-requires
marks_of_all-requires c = omega (arith, c.args.rows.now.stand.low, height_is c.args.rows.now c.height.result c.height.ensures)

pub close-requires-clause-marks : goal.close-requires-clause-marks
close-requires-clause-marks c =
    all_marks c.marks_of_all.result _ _ c.marks_of_all.ensures (omega (arith, height_is c.args.rows.now c.height.result c.height.ensures))

pub close-requires-clause-layouts : goal.close-requires-clause-layouts
close-requires-clause-layouts c =
    let height = height_is c.args.rows.now c.height.result c.height.ensures in omega arith

pub returns-in-0-clause-put : goal.returns-in-0-clause-put
returns-in-0-clause-put c =
    on_ok c.text.result _ _
    (λ text base ds high put.
    none_put base c.args.rows.now c.text.new.self ds c.args.height c.height.result high put (height_is c.args.rows.now c.height.result c.height.ensures) c.in-0.is
    (puts_same c.args.rows.now c.text.new.self _ _ (ap (λ (s : List ℕ). Text s 0 ∷ []) no_chars) text))
    c.text.ensures.put

pub returns-in-1-clause-put : goal.returns-in-1-clause-put
returns-in-1-clause-put c base ds high put =
    one_put base c.args.rows.now ds c.args.height c.height.result high put (height_is c.args.rows.now c.height.result c.height.ensures) c.in-1.is

pub returns-in-0-clause-grown : goal.returns-in-0-clause-grown
returns-in-0-clause-grown c = on_ok c.text.result _ _ (λ grown. omega (arith, grown)) c.text.ensures.grown

pub returns-in-1-clause-grown : goal.returns-in-1-clause-grown
returns-in-1-clause-grown c = omega arith

pub returns-in_default-clause-put : goal.returns-in_default-clause-put
returns-in_default-clause-put c =
    on_ok c.close.result _ _
    (λ closed base ds high put.
    puts_same base c.close.new.self _ (seq ds ∷ []) (ap (λ (d : Doc). d ∷ []) (bare_is c.marks_of_all.result ds))
    (closes base c.args.rows.now c.close.new.self (λ f. ds) c.args.height c.marks_of_all.result _ high put closed))
    c.close.ensures.put
