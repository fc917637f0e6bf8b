-- What holds of the pieces holds of their rows.
use Rattle.std.proofs.Common.{false, true, sym, subst, arith}
use Rattle.rf_outline.specs.Known.{KnownHolds}
use Rattle.rf_rows.specs.declared.pieces.Fill.TheVariants as fill
use Rattle.rf_rows.specs.declared.layouts.Row.{Row}
use Rattle.rf_rows.specs.declared.layouts.Row.TheVariants.{Dropped, Hanging, InLine, InColumn}
use Rattle.rf_rows.specs.Layouts.{row_doc}
use Rattle.rf_rows.specs.Cells.{cell_at, pieces_of}
use Rattle.rf_rows.specs.Nodes.{row_of}
use Rattle.rf_rows.specs.Knowing.{chain, mixed}
use Rattle.rf_rows.proofs.Learning.{known_passes}
use Rattle.rf_rows.proofs.RowLines.{dropped_passes, hanging_passes, in_line_passes, in_column_passes}
use Rattle.rf_rows.proofs.Opened.{count_of}
use Rattle.rf_rows.proofs.known_layouts.row_known.Goals as goal

pub returns-in-Dropped : goal.returns-in-Dropped
returns-in-Dropped c = λ ways ps cs k stand known.
    let e = c.args.cell.now in
    let g = cell_at ps cs in
    let qs = pieces_of ps e in
    let is = sym (count_of ps k e stand) in
    subst (λ (r : Row). KnownHolds ways (row_doc e.marks e.count (row_of ps cs e) r) c.mixed_known.result) (sym c.in-Dropped.is)
    (known_passes ways (chain (mixed g qs 0 0 fill.Newline)) (row_doc e.marks e.count (row_of ps cs e) Dropped) c.mixed_known.result (dropped_passes g qs e.marks e.count false is) (dropped_passes g qs e.marks e.count true is)
    c.mixed_known.ensures.begins (c.mixed_known.ensures.loose ways g qs (omega arith) known.loose known.gaps) (c.mixed_known.ensures.flat ways g qs (omega arith) known.flat known.gaps))

pub returns-in-Hanging : goal.returns-in-Hanging
returns-in-Hanging c = λ ways ps cs k stand known.
    let e = c.args.cell.now in
    let g = cell_at ps cs in
    let qs = pieces_of ps e in
    let is = sym (count_of ps k e stand) in
    let m = c.mixed_known-in-Hanging in
    subst (λ (r : Row). KnownHolds ways (row_doc e.marks e.count (row_of ps cs e) r) m.result) (sym c.in-Hanging.is)
    (known_passes ways (chain (mixed g qs e.marks.second e.marks.second fill.Newline)) (row_doc e.marks e.count (row_of ps cs e) Hanging) m.result (hanging_passes g qs e.marks e.count false is) (hanging_passes g qs e.marks e.count true is)
    m.ensures.begins (m.ensures.loose ways g qs (omega arith) known.loose known.gaps) (m.ensures.flat ways g qs (omega arith) known.flat known.gaps))

pub returns-in-InLine : goal.returns-in-InLine
returns-in-InLine c = λ ways ps cs k stand known.
    let e = c.args.cell.now in
    let g = cell_at ps cs in
    let qs = pieces_of ps e in
    let is = sym (count_of ps k e stand) in
    let m = c.mixed_known-in-InLine in
    subst (λ (r : Row). KnownHolds ways (row_doc e.marks e.count (row_of ps cs e) r) m.result) (sym c.in-InLine.is)
    (known_passes ways (chain (mixed g qs e.marks.bodies e.marks.bodies e.marks.fill)) (row_doc e.marks e.count (row_of ps cs e) InLine) m.result (in_line_passes g qs e.marks e.count false is stand.marks) (in_line_passes g qs e.marks e.count true is stand.marks)
    m.ensures.begins (m.ensures.loose ways g qs (omega arith) known.loose known.gaps) (m.ensures.flat ways g qs (omega arith) known.flat known.gaps))

pub returns-in-InColumn : goal.returns-in-InColumn
returns-in-InColumn c = λ ways ps cs k stand known.
    let e = c.args.cell.now in
    let g = cell_at ps cs in
    let qs = pieces_of ps e in
    let is = sym (count_of ps k e stand) in
    let m = c.mixed_known-in-InColumn in
    subst (λ (r : Row). KnownHolds ways (row_doc e.marks e.count (row_of ps cs e) r) m.result) (sym c.in-InColumn.is)
    (known_passes ways (chain (mixed g qs e.marks.second e.marks.bodies e.marks.fill)) (row_doc e.marks e.count (row_of ps cs e) InColumn) m.result (in_column_passes g qs e.marks e.count false is stand.marks) (in_column_passes g qs e.marks e.count true is stand.marks)
    m.ensures.begins (m.ensures.loose ways g qs stand.marks.second known.loose known.gaps) (m.ensures.flat ways g qs stand.marks.second known.flat known.gaps))

pub returns-in-Hung : goal.returns-in-Hung
returns-in-Hung c = λ ways ps cs k stand known. c.nothing_known.ensures ways _
