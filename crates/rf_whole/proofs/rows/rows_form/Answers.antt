-- The cell on the stack is the document that stands alone there.
use Rattle.std.proofs.Common.{◌≡◌, subst}
use Rattle.rf_base_document.specs.Document.{Doc}
use Rattle.rf_rows.specs.Cells.{cell_at}
use Rattle.rf_row_graph.proofs.Alone.{one_alone}
use Rattle.rf_whole.specs.Forms.{IsLongForm}
use Rattle.rf_whole.specs.Laid.{IsFormOf}
use Rattle.rf_whole.proofs.rows.rows_form.Goals as goal

pub settled_form-requires-clause-layout : goal.settled_form-requires-clause-layout
settled_form-requires-clause-layout g c =
    let rows = c.args.rows.now in
    c.requires.layout (cell_at rows.pieces.items rows.cells.items c.in-Some.cell) c.in-Some.ensures

pub returns-then-is_choiceless-clause-form : goal.returns-then-is_choiceless-clause-form
returns-then-is_choiceless-clause-form g c is d alone =
    let rows = c.args.rows.now in
    let costs = g.F.Factory.costs c.args.task.now.factory.now in
    let limit = c.args.task.now.limit in
    let root : Doc = cell_at rows.pieces.items rows.cells.items c.in-Some.cell in
    let same : root ≡ d = one_alone rows root d c.in-Some.ensures alone in
    subst (λ (e : Doc). IsFormOf costs limit e c.settled_form.new.form) same (c.settled_form.ensures.form is)

pub returns-then-is_choiceless-clause-too_long : goal.returns-then-is_choiceless-clause-too_long
returns-then-is_choiceless-clause-too_long g c is d alone =
    let rows = c.args.rows.now in
    let root : Doc = cell_at rows.pieces.items rows.cells.items c.in-Some.cell in
    let same : root ≡ d = one_alone rows root d c.in-Some.ensures alone in
    subst (λ (e : Doc). IsLongForm (g.F.Factory.costs c.args.task.now.factory.now) c.args.task.now.limit e) same (c.settled_form.ensures.too_long is)

pub best_form-requires : goal.best_form-requires
best_form-requires g c =
    let rows = c.args.rows.now in
    let root : Doc = cell_at rows.pieces.items rows.cells.items c.in-Some.cell in
    (c.args.task.now.limit, (rw c.in-Some-2.is at c.in_ok-best.ensures) root c.in-Some.ensures)

pub returns-clause-form : goal.returns-clause-form
returns-clause-form g c is d alone =
    let rows = c.args.rows.now in
    let costs = g.F.Factory.costs c.args.task.now.factory.now in
    let limit = c.args.task.now.limit in
    let root : Doc = cell_at rows.pieces.items rows.cells.items c.in-Some.cell in
    let same : root ≡ d = one_alone rows root d c.in-Some.ensures alone in
    subst (λ (e : Doc). IsFormOf costs limit e c.best_form.new.form) same
    (c.best_form.ensures.form is limit ((rw c.in-Some-2.is at c.in_ok-best.ensures) root c.in-Some.ensures))

pub returns-clause-too_long : goal.returns-clause-too_long
returns-clause-too_long g c is d alone =
    let rows = c.args.rows.now in
    let costs = g.F.Factory.costs c.args.task.now.factory.now in
    let limit = c.args.task.now.limit in
    let root : Doc = cell_at rows.pieces.items rows.cells.items c.in-Some.cell in
    let same : root ≡ d = one_alone rows root d c.in-Some.ensures alone in
    subst (λ (e : Doc). IsLongForm costs limit e) same
    (c.best_form.ensures.too_long is limit ((rw c.in-Some-2.is at c.in_ok-best.ensures) root c.in-Some.ensures))
