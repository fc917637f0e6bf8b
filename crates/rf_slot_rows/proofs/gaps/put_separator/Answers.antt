-- Each separator is its pieces.
use Rattle.std.proofs.Common.{[], ◌∷◌, length, sym, ap, arith}
use Rattle.std.specs.Prelude.{codes}
use Rattle.rf_base_document.specs.Document.{Newline, plain_text}
use Rattle.rf_base_tree.specs.declared.separators.Separator.{Separator}
use Rattle.rf_base_tree.specs.declared.separators.Separator.TheVariants as separator
use Rattle.rf_base_file.specs.Rows.{separator_docs}
use Rattle.rf_rows.proofs.Stacks.{on_ok}
use Rattle.rf_slot_rows.proofs.Putting.{puts_none, puts_same}
use Rattle.rf_slot_rows.proofs.Growing.{hard_length}
use Rattle.rf_slot_rows.proofs.gaps.put_separator.Goals as goal

pub returns-in-Empty-clause-put : goal.returns-in-Empty-clause-put
returns-in-Empty-clause-put c =
    puts_same c.args.rows.now c.args.rows.now [] (separator_docs c.args.separator) (sym (ap separator_docs c.in-Empty.is)) (puts_none c.args.rows.now)

pub returns-in-Space-clause-put : goal.returns-in-Space-clause-put
returns-in-Space-clause-put c =
    on_ok c.space.result _ _
    (puts_same c.args.rows.now c.space.new.self (plain_text (codes " ") ∷ []) (separator_docs c.args.separator) (sym (ap separator_docs c.in-Space.is)))
    c.space.ensures.put

pub returns-in-Line-clause-put : goal.returns-in-Line-clause-put
returns-in-Line-clause-put c =
    on_ok c.newline.result _ _
    (puts_same c.args.rows.now c.newline.new.self (Newline ∷ []) (separator_docs c.args.separator) (sym (ap separator_docs c.in-Line.is)))
    c.newline.ensures.put

pub returns-in-Hard-clause-put : goal.returns-in-Hard-clause-put
returns-in-Hard-clause-put c =
    on_ok c.put_hard.result _ _
    (puts_same c.args.rows.now c.put_hard.new.rows (separator_docs (separator.Hard c.in-Hard.blanks)) (separator_docs c.args.separator)
    (sym (ap separator_docs c.in-Hard.is)))
    c.put_hard.ensures.put

pub returns-in-Empty-clause-grown : goal.returns-in-Empty-clause-grown
returns-in-Empty-clause-grown c = omega arith

pub returns-in-Space-clause-grown : goal.returns-in-Space-clause-grown
returns-in-Space-clause-grown c =
    on_ok c.space.result _ _ (λ grown. omega (arith, grown, ap (λ (s : Separator). length (separator_docs s)) c.in-Space.is)) c.space.ensures.grown

pub returns-in-Line-clause-grown : goal.returns-in-Line-clause-grown
returns-in-Line-clause-grown c =
    on_ok c.newline.result _ _ (λ grown. omega (arith, grown, ap (λ (s : Separator). length (separator_docs s)) c.in-Line.is)) c.newline.ensures.grown

pub returns-in-Hard-clause-grown : goal.returns-in-Hard-clause-grown
returns-in-Hard-clause-grown c =
    on_ok c.put_hard.result _ _
    (λ grown. omega (arith, grown, hard_length c.in-Hard.blanks, ap (λ (s : Separator). length (separator_docs s)) c.in-Hard.is))
    c.put_hard.ensures.grown
