-- Rows as pieces are put on them and taken into cells.
use Rattle.std.proofs.Common.{◌≡◌, ℕ, ◌+◌, ◌-◌, ◌≤◌, ◌<◌, Option, None, List, [], ◌∷◌, ◌++◌, length, take, drop, append-nil, sym, ◌∙◌, ap, subst, Result, Ok, Err, OnOk, arith}
use Rattle.std.specs.Prelude.{OnErr}
use Rattle.std.specs.List.{All}
use Rattle.std.proofs.lemmas.List.{length-append, length-drop, length-take-le}
use Rattle.std.proofs.lemmas.List.Elements.{All-take, All-drop, All-push, All-append}
use Rattle.rf_base_document.specs.declared.directions.Dir.{Dir}
use Rattle.rf_rows.specs.declared.pieces.Piece.{Piece}
use Rattle.rf_rows.specs.declared.cells.Cell.{Cell}
use Rattle.rf_rows.specs.Layouts.{AreMarks, AreCellLayouts}
use Rattle.rf_rows.specs.Cells.{IsBelow, CellsStand}
use Rattle.rf_rows.specs.Unmade.{HasLine, IsMade}
use Rattle.rf_rows.specs.Stands.{AreRows}
use Rattle.rf_base_document.specs.Document.{Doc}
use Rattle.rf_rows.specs.declared.pieces.Fill.{Fill}
use Rattle.rf_rows.specs.declared.rows.Rows.{Rows}
use Rattle.rf_rows.specs.Layouts.{Filled}
use Rattle.rf_rows.specs.Rows.{stacked}
use Rattle.rf_rows.specs.Puts.{Fills, Puts}
use Rattle.rf_rows.proofs.Unfolding.{none_stand, few_of_none, all_below_more, cells_stand_wider}
use Rattle.rf_rows.proofs.Stacks.{closed_stands}
use Rattle.rf_rows.proofs.UnmadeLines.{no_lines, none_made, lines_kept, lines_more, made_more}

-- no cell and no piece
pub no_rows : (ps : List Piece) (cs : List Cell) (on : List Piece) (turns : List Dir) (free : Option ℕ) → ps ≡ [] → cs ≡ [] → on ≡ [] → AreRows ps cs on turns free
no_rows ps cs on turns free bare none empty =
    let stand = none_stand ps cs on bare none empty in
    record { cells = stand.0; pieces = stand.1; stack = stand.2; few = few_of_none ps bare; low = few_of_none on empty; lines = no_lines cs turns none; made = λ all. none_made cs none }

-- choices behind the others
pub turned : (ps : List Piece) (cs : List Cell) (on : List Piece) (old new more : List Dir) (free : Option ℕ) → AreRows ps cs on old free → new ≡ old ++ more → AreRows ps cs on new free
turned ps cs on old new more free rows is =
    record { cells = rows.cells; pieces = rows.pieces; stack = rows.stack; few = rows.few; low = rows.low; lines = lines_kept cs old new more is rows.lines; made = rows.made }

-- the pieces of the stack from a height on behind those of the cells
pub moved : (ps qs : List Piece) (cs : List Cell) (old new : List Piece) (turns : List Dir) (free : Option ℕ) (height : ℕ) → AreRows ps cs old turns free →
    length ps + (length old - height) < 4294967295 → height ≤ length old → qs ≡ ps ++ drop height old → new ≡ take height old → AreRows qs cs new turns free
moved ps qs cs old new turns free height rows room within more rest =
    let P = IsBelow (length cs) in
    record {
      cells = subst (λ (q : List Piece). CellsStand q cs) (sym more) (cells_stand_wider ps (drop height old) cs rows.cells);
      pieces = subst (λ (q : List Piece). All P q) (sym more) (All-append P ps (drop height old) rows.pieces (All-drop P height old rows.stack));
      stack = subst (λ (q : List Piece). All P q) (sym rest) (All-take P height old rows.stack);
      few = omega (arith, room, ap length more, length-append ps (drop height old), length-drop height old);
      low = omega (arith, rows.low, ap length rest, length-take-le height old within);
      lines = rows.lines;
      made = rows.made;
    }

-- these and a cell of them behind the others
pub celled : (ps qs : List Piece) (cs ds : List Cell) (old new : List Piece) (turns : List Dir) (free : Option ℕ) (height : ℕ) (c : Cell) → AreRows ps cs old turns free →
    AreRows qs cs new turns free → c.from ≡ length ps → c.count ≡ length old - height → AreMarks c.marks c.count → AreCellLayouts c.layouts c.count →
    HasLine turns c.layouts → (free ≡ None → IsMade c.layouts) → qs ≡ ps ++ drop height old → ds ≡ cs ++ c ∷ [] → AreRows qs ds new turns free
celled ps qs cs ds old new turns free height c rows half from count marks layouts line made more one =
    let longer : length ds ≡ length cs + 1 = ap length one ∙ length-append cs (c ∷ []) in
    record {
      cells = closed_stands ps qs cs ds old height c rows.cells rows.stack from count marks layouts more one;
      pieces = all_below_more (length cs) (length ds) (omega (arith, longer)) qs half.pieces;
      stack = all_below_more (length cs) (length ds) (omega (arith, longer)) new half.stack;
      few = half.few;
      low = half.low;
      lines = lines_more cs ds turns c half.lines line one;
      made = λ all. made_more cs ds c (half.made all) (made all) one;
    }

-- a piece on the stack, if all is fine
pub piled : {A E : Type 0} (r : Result A E) (ps : List Piece) (cs : List Cell) (old new : List Piece) (turns : List Dir) (free : Option ℕ) (p : Piece) → AreRows ps cs old turns free →
    IsBelow (length cs) p → OnOk r (new ≡ old ++ p ∷ []) → OnErr r (new ≡ old) → OnOk r (length new < 4294967295) → AreRows ps cs new turns free
piled (Ok x) ps cs old new turns free p rows below put same low =
    let P = IsBelow (length cs) in
    record { cells = rows.cells; pieces = rows.pieces; stack = subst (λ (q : List Piece). All P q) (sym put) (All-push P old p rows.stack below); few = rows.few; low = low; lines = rows.lines; made = rows.made }
piled (Err e) ps cs old new turns free p rows below put same low =
    subst (λ (q : List Piece). AreRows ps cs q turns free) (sym same) rows

-- nothing was put, and what was put on rows was put on others that have the same
pub nothing_put : (old new : Rows) → new.free ≡ old.free → ((fill : Fill) → stacked new fill ≡ stacked old fill) → Puts old new []
nothing_put old new free same = record { free = free; docs = λ fill. same fill ∙ sym (append-nil (stacked old fill)) }

pub put_above : (old mid new : Rows) (r : Filled) → mid.free ≡ old.free → ((fill : Fill) → stacked mid fill ≡ stacked old fill) → Fills mid new r → Fills old new r
put_above old mid new r free same put =
    record { free = put.free ∙ free; docs = λ fill. put.docs fill ∙ ap (λ (ds : List Doc). ds ++ r fill) (same fill) }
