-- A cell is its pieces, each made once, in its layouts.
use Rattle.std.proofs.Common.{List, length, refl, ap, sym, subst, ◌∙◌, arith}
use Rattle.std.specs.List.{All}
use Rattle.std.proofs.lemmas.Option.{slice_get_read}
use Rattle.std.proofs.lemmas.Result.{IfOk-weaker}
use Rattle.rf_rows.specs.declared.pieces.Piece.{Piece}
use Rattle.rf_rows.specs.Layouts.{AreLayouts}
use Rattle.rf_rows.specs.Cells.{filled_by, cell_at, IsBelow}
use Rattle.rf_rows.proofs.Opened.{stands_at}
use Rattle.rf_rows.proofs.UnmadeLines.{made_at, layouts_made}
use Rattle.rf_row_graph.specs.declared.parts.PieceNode.{PieceNode}
use Rattle.rf_row_graph.specs.Parts.{PartsStand}
use Rattle.rf_row_graph.proofs.Cells.{is_cell, cell_many, cell_as, one_size_more}
use Rattle.rf_row_graph.proofs.adding.add_cell.Goals as goal

pub add_pieces-requires-clause-below : goal.add_pieces-requires-clause-below
add_pieces-requires-clause-below c =
    let rows = c.args.rows.now in
    let k = length c.args.done.now in
    let is = slice_get_read rows.cells.items (length rows.cells.items) k c.index-cell.result.now refl c.requires.next c.index-cell.ensures in
    subst (λ (ps : List Piece). All (IsBelow k) ps) (sym c.pieces_of.ensures) (stands_at rows.pieces.items rows.cells.items k c.index-cell.result.now rows.stand.cells is).below

pub returns-in_err-add_pieces-clause-grown : goal.returns-in_err-add_pieces-clause-grown
returns-in_err-add_pieces-clause-grown c =
    let rows = c.args.rows.now in
    let k = length c.args.done.now in
    let is = slice_get_read rows.cells.items (length rows.cells.items) k c.index-cell.result.now refl c.requires.next c.index-cell.ensures in
    let many = cell_many rows.pieces.items c.pieces_of.result.now rows.cells.items k (length c.pieces_of.result.now) c.index-cell.result.now rows.stand.cells is c.pieces_of.ensures refl in
    omega (arith, c.add_pieces.ensures.grown, many, one_size_more rows.cells.items k c.index-cell.result.now c.requires.next (sym c.index-cell.ensures))

pub add_layouts-requires-clause-cell : goal.add_layouts-requires-clause-cell
add_layouts-requires-clause-cell c =
    let rows = c.args.rows.now in
    let k = length c.args.done.now in
    let f = cell_at rows.pieces.items rows.cells.items in
    let is = slice_get_read rows.cells.items (length rows.cells.items) k c.index-cell.result.now refl c.requires.next c.index-cell.ensures in
    is_cell c.add_pieces.new.graph (record { marks = c.index-cell.result.now.marks; pieces = c.as_slice.result; shared = c.args.shared.now })
    rows.pieces.items c.pieces_of.result.now rows.cells.items k c.index-cell.result.now rows.stand.cells is c.pieces_of.ensures
    (ap (λ (l : List PieceNode). length l) c.as_slice.ensures.value ∙ c.in_ok-add_pieces.ensures.count) refl
    (subst (λ (l : List PieceNode). PartsStand c.add_pieces.new.graph c.args.shared.now l (filled_by f c.pieces_of.result.now)) (sym c.as_slice.ensures.value) (c.in_ok-add_pieces.ensures.documents f c.requires.done))

pub add_layouts-requires-clause-layouts : goal.add_layouts-requires-clause-layouts
add_layouts-requires-clause-layouts c =
    let rows = c.args.rows.now in
    let k = length c.args.done.now in
    let is = slice_get_read rows.cells.items (length rows.cells.items) k c.index-cell.result.now refl c.requires.next c.index-cell.ensures in
    let count = ap (λ (l : List PieceNode). length l) c.as_slice.ensures.value ∙ c.in_ok-add_pieces.ensures.count in
    let many = cell_many rows.pieces.items c.pieces_of.result.now rows.cells.items k (length c.as_slice.result.now) c.index-cell.result.now rows.stand.cells is c.pieces_of.ensures count in
    subst (λ n. AreLayouts c.index-cell.result.now.layouts n) (sym many)
    (layouts_made c.index-cell.result.now.layouts _ (made_at rows.cells.items k c.index-cell.result.now c.requires.made is) (stands_at rows.pieces.items rows.cells.items k c.index-cell.result.now rows.stand.cells is).layouts)

pub returns-clause-document : goal.returns-clause-document
returns-clause-document c =
    let rows = c.args.rows.now in
    let k = length c.args.done.now in
    let f = cell_at rows.pieces.items rows.cells.items in
    let is = slice_get_read rows.cells.items (length rows.cells.items) k c.index-cell.result.now refl c.requires.next c.index-cell.ensures in
    let count = ap (λ (l : List PieceNode). length l) c.as_slice.ensures.value ∙ c.in_ok-add_pieces.ensures.count in
    let parts = subst (λ (l : List PieceNode). PartsStand c.add_pieces.new.graph c.args.shared.now l (filled_by f c.pieces_of.result.now)) (sym c.as_slice.ensures.value) (c.in_ok-add_pieces.ensures.documents f c.requires.done) in
    IfOk-weaker c.add_layouts.result _ _
    (λ id stands. cell_as c.add_layouts.new.graph id.0 rows.pieces.items c.pieces_of.result.now rows.cells.items k (length c.as_slice.result.now) c.index-cell.result.now rows.stand.cells is c.pieces_of.ensures count
    (stands (filled_by f c.pieces_of.result.now) parts))
    c.add_layouts.ensures.document

pub returns-clause-grown : goal.returns-clause-grown
returns-clause-grown c =
    let rows = c.args.rows.now in
    let k = length c.args.done.now in
    let is = slice_get_read rows.cells.items (length rows.cells.items) k c.index-cell.result.now refl c.requires.next c.index-cell.ensures in
    let count = ap (λ (l : List PieceNode). length l) c.as_slice.ensures.value ∙ c.in_ok-add_pieces.ensures.count in
    let many = cell_many rows.pieces.items c.pieces_of.result.now rows.cells.items k (length c.as_slice.result.now) c.index-cell.result.now rows.stand.cells is c.pieces_of.ensures count in
    omega (arith, c.add_layouts.ensures.grown, c.add_pieces.ensures.grown, count, many, one_size_more rows.cells.items k c.index-cell.result.now c.requires.next (sym c.index-cell.ensures))
