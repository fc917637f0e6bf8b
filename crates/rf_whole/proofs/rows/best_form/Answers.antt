-- The choices lay the document out.
use Rattle.std.proofs.Common.{◌∙◌, Err, sym, ap, subst, false, List}
use Rattle.rf_base_document.specs.declared.directions.Dir.{Dir}
use Rattle.rf_base_document.specs.Picks.{LaidOutBy}
use Rattle.rf_rows.specs.Laid.{laid_cell}
use Rattle.rf_whole.proofs.Formed.{best_formed, best_long}
use Rattle.rf_whole.proofs.TooLong.{walked_long, told_long}
use Rattle.rf_whole.proofs.rows.best_form.Goals as goal

pub write_cell-requires : goal.write_cell-requires
write_cell-requires g c =
    let t = c.requires in
    let d = laid_cell c.args.laid.now c.args.cell in
    (t.1.laid.0, subst (λ (l : List Dir). LaidOutBy d l 0 0 false t.1.laid.0) (sym c.deref.ensures.value) t.1.laid.1)

pub returns-in_err-written-clause-too_long : goal.returns-in_err-written-clause-too_long
returns-in_err-written-clause-too_long g c is w best =
    let d = laid_cell c.args.laid.now c.args.cell in
    let long = walked_long c.in_err-written.field-0.0 (told_long _ _ c.from_residual.ensures.1 is) in
    best_long (g.F.Factory.costs c.args.factory.now) w d c.args.best.choices.items c.args.best.within best
    ((rw c.deref.ensures.value at c.write_cell.ensures.too_long) (c.in_err-written.was ∙ ap Err long) best.laid.1.0 best.laid.1.1)

pub returns-clause-form : goal.returns-clause-form
returns-clause-form g c = λ is w best.
    let d = laid_cell c.args.laid.now c.args.cell in
    best_formed (g.F.Factory.costs c.args.factory.now) w d c.args.best.choices.items c.args.best.within best c.in-Some.written
    ((rw (c.in-Some.is, c.deref.ensures.value) at c.in_ok-written.ensures.written) best.laid.1.0 best.laid.1.1)
