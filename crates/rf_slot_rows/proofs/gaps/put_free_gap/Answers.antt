-- Where a line may stand, each layout fills the gap; elsewhere it is the same in all of them.
use Rattle.std.proofs.Common.{[], ◌∷◌, length, sym, ap, ◌∙◌, arith}
use Rattle.std.specs.Prelude.{codes}
use Rattle.rf_base_document.specs.Document.{plain_text}
use Rattle.rf_base_tree.specs.declared.separators.Separator.{Separator}
use Rattle.rf_base_tree.specs.declared.separators.Separator.TheVariants as separator
use Rattle.rf_base_tree.specs.declared.separators.Want.TheVariants as want
use Rattle.rf_base_file.specs.Rows.{separator_docs}
use Rattle.rf_rows.proofs.Stacks.{on_ok}
use Rattle.rf_rows.specs.Layouts.{fill_doc}
use Rattle.rf_slot_rows.specs.Bodies.{second_gap}
use Rattle.rf_slot_rows.proofs.Putting.{puts_none, fills_same}
use Rattle.rf_slot_rows.proofs.FreeGaps.{line_gap, other_gap}
use Rattle.rf_slot_rows.proofs.Growing.{hard_length, gap_few}
use Rattle.rf_slot_rows.proofs.gaps.put_free_gap.Goals as goal

pub returns-in-Line-clause-put : goal.returns-in-Line-clause-put
returns-in-Line-clause-put c =
    on_ok c.gap.result _ _
    (λ put ts trees holds.
    fills_same c.args.rows.now c.gap.new.self (λ f. fill_doc f ∷ []) (second_gap ts c.args.before c.args.next)
    (λ f. line_gap ts c.args.before c.args.next f (sym (ap separator_docs c.in-Line.is) ∙ c.separator.ensures ts trees holds)) put)
    c.gap.ensures.put

pub returns-in-Empty-clause-put : goal.returns-in-Empty-clause-put
returns-in-Empty-clause-put c ts trees holds =
    fills_same c.args.rows.now c.args.rows.now (λ f. []) (second_gap ts c.args.before c.args.next)
    (λ f. other_gap separator.Empty ts c.args.before c.args.next f tt (sym (ap separator_docs c.in-Empty.is) ∙ c.separator.ensures ts trees holds))
    (puts_none c.args.rows.now)

pub returns-in-Space-clause-put : goal.returns-in-Space-clause-put
returns-in-Space-clause-put c =
    on_ok c.space.result _ _
    (λ put ts trees holds.
    fills_same c.args.rows.now c.space.new.self (λ f. plain_text (codes " ") ∷ []) (second_gap ts c.args.before c.args.next)
    (λ f. other_gap separator.Space ts c.args.before c.args.next f tt (sym (ap separator_docs c.in-Space.is) ∙ c.separator.ensures ts trees holds)) put)
    c.space.ensures.put

pub returns-in-Hard-clause-put : goal.returns-in-Hard-clause-put
returns-in-Hard-clause-put c =
    on_ok c.put_hard.result _ _
    (λ put ts trees holds.
    fills_same c.args.rows.now c.put_hard.new.rows (λ f. separator_docs (separator.Hard c.in-Hard.blanks)) (second_gap ts c.args.before c.args.next)
    (λ f. other_gap (separator.Hard c.in-Hard.blanks) ts c.args.before c.args.next f tt (sym (ap separator_docs c.in-Hard.is) ∙ c.separator.ensures ts trees holds)) put)
    c.put_hard.ensures.put

pub returns-in-Line-clause-grown : goal.returns-in-Line-clause-grown
returns-in-Line-clause-grown c = on_ok c.gap.result _ _ (λ grown few. omega (arith, grown)) c.gap.ensures.grown

pub returns-in-Empty-clause-grown : goal.returns-in-Empty-clause-grown
returns-in-Empty-clause-grown c few = omega arith

pub returns-in-Space-clause-grown : goal.returns-in-Space-clause-grown
returns-in-Space-clause-grown c = on_ok c.space.result _ _ (λ grown few. omega (arith, grown)) c.space.ensures.grown

pub returns-in-Hard-clause-grown : goal.returns-in-Hard-clause-grown
returns-in-Hard-clause-grown c =
    let t = c.requires in
    on_ok c.put_hard.result _ _
    (λ grown few.
    omega (
      arith,
      grown,
      hard_length c.in-Hard.blanks,
      ap (λ (s : Separator). length (separator_docs s)) c.in-Hard.is,
      ap length (c.separator.ensures t.0 t.1 t.2),
      gap_few c.args.tree.now t.0 t.1 c.args.before c.args.next want.Line t.2 few,
    ))
    c.put_hard.ensures.grown
