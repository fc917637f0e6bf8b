-- The slot's document stands alone on its rows.
use Rattle.std.proofs.Common.{◌≡◌, ◌≤◌, ◌^◌, false, sym, subst, arith}
use Rattle.rf_whole.proofs.Formed.{on_ok_always}
use Rattle.rf_base_document.specs.Document.{Doc}
use Rattle.rf_base_document.specs.Picks.{HasLayout}
use Rattle.rf_base_optimum.specs.MostPieces.{most_pieces}
use Rattle.rf_base_file.specs.FileDocument.{style_doc}
use Rattle.rf_base_file.proofs.Layouts.{slot_has_layout}
use Rattle.rf_style.specs.StyleOf.{seen}
use Rattle.rf_rows.specs.Alone.{StandsAlone}
use Rattle.rf_row_graph.proofs.Alone.{stands_alone, one_alone}
use Rattle.rf_whole.proofs.forms.searched_form.Goals as goal

pub rows_form-requires-clause-pieces : goal.rows_form-requires-clause-pieces
rows_form-requires-clause-pieces g c d stands =
    let t = c.requires.pieces in
    let slot : Doc = style_doc (seen c.args.task.now.style.now) t.0 t.2 in
    let alone : StandsAlone c.slot_rows.new.rows slot = stands_alone c.clear.new.self c.slot_rows.new.rows slot c.clear.ensures.empty (λ f. c.in_ok-slot_rows.ensures.put t.0 t.1 t.2 f t.3 t.4) in
    let one : d ≡ slot = one_alone c.slot_rows.new.rows d slot stands alone in
    let few : most_pieces d ≤ 2 ^ 27 = subst (λ (e : Doc). most_pieces e ≤ 2 ^ 27) (sym one) t.5 in
    omega (arith, few)

pub rows_form-requires-clause-layout : goal.rows_form-requires-clause-layout
rows_form-requires-clause-layout g c d stands =
    let t = c.requires.top in
    let style = seen c.args.task.now.style.now in
    let slot : Doc = style_doc style t.0 t.2 in
    let alone : StandsAlone c.slot_rows.new.rows slot = stands_alone c.clear.new.self c.slot_rows.new.rows slot c.clear.ensures.empty (λ f. c.in_ok-slot_rows.ensures.put t.0 t.1 t.2 f t.3 t.4) in
    let one : d ≡ slot = one_alone c.slot_rows.new.rows d slot stands alone in
    subst (λ (e : Doc). HasLayout e false) (sym one) (slot_has_layout style t.0 t.2)

pub returns-clause-alone : goal.returns-clause-alone
returns-clause-alone g c =
    on_ok_always c.rows_form.result _
    (λ ts trees s holds stands.
    stands_alone c.clear.new.self c.slot_rows.new.rows (style_doc (seen c.args.task.now.style.now) ts s) c.clear.ensures.empty (λ f. c.in_ok-slot_rows.ensures.put ts trees s f holds stands))

pub returns-clause-form : goal.returns-clause-form
returns-clause-form g c = λ is ts trees s holds stands.
    let slot : Doc = style_doc (seen c.args.task.now.style.now) ts s in
    c.rows_form.ensures.form is slot (stands_alone c.clear.new.self c.slot_rows.new.rows slot c.clear.ensures.empty (λ f. c.in_ok-slot_rows.ensures.put ts trees s f holds stands))

pub returns-clause-too_long : goal.returns-clause-too_long
returns-clause-too_long g c is ts trees s holds stands =
    let slot : Doc = style_doc (seen c.args.task.now.style.now) ts s in
    c.rows_form.ensures.too_long is slot (stands_alone c.clear.new.self c.slot_rows.new.rows slot c.clear.ensures.empty (λ f. c.in_ok-slot_rows.ensures.put ts trees s f holds stands))
