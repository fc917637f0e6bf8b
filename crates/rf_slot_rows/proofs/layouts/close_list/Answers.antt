-- The pieces are those that were put on the stack above the height.
use Rattle.std.proofs.Common.{◌-◌, [], ◌∷◌, length, sym, subst, ap, ◌∙◌, arith}
use Rattle.rf_rows.specs.declared.layouts.Marks.{Marks}
use Rattle.rf_rows.specs.declared.layouts.Layouts.{Layouts}
use Rattle.rf_rows.specs.declared.pieces.Fill.TheVariants as fill
use Rattle.rf_rows.specs.Layouts.{AreMarks, AreLayouts, cell_doc}
use Rattle.rf_rows.proofs.Stacks.{on_ok}
use Rattle.rf_slot_rows.specs.Bodies.{marks_at, layouts_of}
use Rattle.rf_slot_rows.proofs.Putting.{closes, fills_same}
use Rattle.rf_slot_rows.proofs.ListLayouts.{marks_stand, layouts_stand}
use Rattle.rf_slot_rows.proofs.layouts.close_list.Goals as goal

pub marks_at-requires-clause-low : goal.marks_at-requires-clause-low
marks_at-requires-clause-low c = omega (arith, c.requires.within, c.args.rows.now.stand.low)

pub close-requires-clause-marks : goal.close-requires-clause-marks
close-requires-clause-marks c =
    subst (λ (m : Marks). AreMarks m (length c.args.rows.now.stack.items - c.args.height)) (sym c.marks_at.ensures)
    (marks_stand c.args.way.shape c.args.height c.args.places (length c.args.rows.now.stack.items) c.requires.first c.requires.second c.requires.bodies c.requires.within)

pub close-requires-clause-layouts : goal.close-requires-clause-layouts
close-requires-clause-layouts c =
    subst (λ (l : Layouts). AreLayouts l (length c.args.rows.now.stack.items - c.args.height)) (sym c.layouts_of.ensures)
    (layouts_stand c.args.way.shape c.args.way.charges _ c.requires.charges)

pub returns-clause-put : goal.returns-clause-put
returns-clause-put c =
    on_ok c.close.result _ _
    (λ closed base r high put.
    fills_same base c.close.new.self
    (λ f. cell_doc c.marks_at.result (length (r fill.Newline)) r c.layouts_of.result ∷ [])
    (λ f. cell_doc (marks_at c.args.way.shape c.args.height c.args.places) (length (r fill.Newline)) r (layouts_of c.args.way.shape c.args.way.charges) ∷ [])
    (λ f. ap (λ (m : Marks). cell_doc m (length (r fill.Newline)) r c.layouts_of.result ∷ []) c.marks_at.ensures ∙ ap (λ (l : Layouts). cell_doc (marks_at c.args.way.shape c.args.height c.args.places) (length (r fill.Newline)) r l ∷ []) c.layouts_of.ensures)
    (closes base c.args.rows.now c.close.new.self r c.args.height c.marks_at.result c.layouts_of.result high put closed))
    c.close.ensures.put
