-- The pieces are taken from the stack into a cell, which is put in their place.
use Rattle.std.proofs.Common.{◌≡◌, ◌<◌, ℕ, refl, sym, subst, ◌+◌, ◌-◌, ◌++◌, ◌∷◌, [], length, take, drop, ap, ◌∙◌, List, rules}
use Rattle.rf_rows.specs.declared.cells.Cell as declared
use Rattle.rf_rows.specs.declared.pieces.Piece.{Piece}
use Rattle.rf_rows.specs.declared.pieces.Piece.TheVariants.{Cell}
use Rattle.rf_rows.specs.Layouts.{cell_doc, AreMarks, AreCellLayouts}
use Rattle.rf_rows.specs.Cells.{filled_by, cell_at}
use Rattle.rf_rows.specs.Rows.{stacked}
use Rattle.rf_rows.proofs.Stacks.{on_ok, closed}
use Rattle.rf_rows.proofs.Stands.{moved, celled, piled}
use Rattle.rf_rows.proofs.Growth.{closed_grows}
use Rattle.rf_rows.proofs.rows.Rows.put_cell.Goals as goal

pub invariant_of-self-in-Break-branch-3 : goal.invariant_of-self-in-Break-branch-3
invariant_of-self-in-Break-branch-3 c =
    let rows = c.args.self.now in
    let room : length rows.pieces.items + (length rows.stack.items - c.args.height) < 4294967295 = search rules in
    let more : c.take_from.new.pieces.items ≡ rows.pieces.items ++ drop c.args.height rows.stack.items = search rules in
    let rest : c.take_from.new.stack.items ≡ take c.args.height rows.stack.items = search rules in
    let same : c.push.new.self.items ≡ rows.cells.items = search rules in
    rw same record { stand = moved _ _ _ _ _ _ _ c.args.height rows.stand room c.requires.within more rest }

pub invariant_of-self-2 : goal.invariant_of-self-2
invariant_of-self-2 c =
    let rows = c.args.self.now in
    let n = length rows.stack.items - c.args.height in
    let cell : declared.Cell = record { from = c.len-3.result; count = c.len.result - c.args.height; marks = c.args.marks; layouts = c.args.layouts } in
    let room : length rows.pieces.items + n < 4294967295 = search rules in
    let more : c.take_from.new.pieces.items ≡ rows.pieces.items ++ drop c.args.height rows.stack.items = search rules in
    let rest : c.take_from.new.stack.items ≡ take c.args.height rows.stack.items = search rules in
    let one : c.push.new.self.items ≡ rows.cells.items ++ cell ∷ [] = search rules in
    let from : c.len-3.result ≡ length rows.pieces.items = search rules in
    let count : c.len.result - c.args.height ≡ n = search rules in
    let below : c.in_ok-number.number < length c.push.new.self.items = search rules in
    let half = moved _ _ _ _ _ _ _ c.args.height rows.stand room c.requires.within more rest in
    let made = celled _ _ _ _ _ _ _ _ c.args.height cell rows.stand half from count (subst (λ (m : ℕ). AreMarks c.args.marks m) (sym count) c.requires.marks) (subst (λ (m : ℕ). AreCellLayouts c.args.layouts m) (sym count) c.requires.layouts) c.requires.line c.requires.made more one in
    record { stand = piled c.push-2.result _ _ _ _ _ _ (Cell c.in_ok-number.number) made below c.push-2.ensures.items c.push-2.ensures.same c.push-2.ensures.low }

pub returns-clause-put : goal.returns-clause-put
returns-clause-put c =
    let rows = c.args.self.now in
    let old : List Piece = rows.stack.items in
    let cell : declared.Cell = record { from = c.len-3.result; count = c.len.result - c.args.height; marks = c.args.marks; layouts = c.args.layouts } in
    let more : c.take_from.new.pieces.items ≡ rows.pieces.items ++ drop c.args.height old = search rules in
    let one : c.push.new.self.items ≡ rows.cells.items ++ cell ∷ [] = search rules in
    let from : c.len-3.result ≡ length rows.pieces.items = search rules in
    let count : c.len.result - c.args.height ≡ length old - c.args.height = search rules in
    let number : c.in_ok-number.number ≡ length rows.cells.items = search rules in
    let left : c.take_from.new.stack.items ≡ take c.args.height old = search rules in
    on_ok c.push-2.result _ _
    (λ put. record {
      free = refl;
      docs = λ fill. subst (λ (n : ℕ). filled_by (cell_at c.take_from.new.pieces.items c.push.new.self.items) c.push-2.new.stack.items fill ≡ take c.args.height (stacked rows fill) ++ cell_doc c.args.marks n (λ f. drop c.args.height (stacked rows f)) c.args.layouts ∷ []) count
          (closed rows.pieces.items c.take_from.new.pieces.items rows.cells.items c.push.new.self.items old c.push-2.new.stack.items c.args.height cell rows.stand.cells rows.stand.stack c.requires.within from count (subst (λ (n : ℕ). AreMarks c.args.marks n) (sym count) c.requires.marks) (subst (λ (n : ℕ). AreCellLayouts c.args.layouts n) (sym count) c.requires.layouts) more one (put ∙ ap (λ (kept : List Piece). kept ++ Cell c.in_ok-number.number ∷ []) left ∙ ap (λ (n : ℕ). take c.args.height old ++ Cell n ∷ []) number) fill);
    })
    c.push-2.ensures.items

pub returns-clause-grown : goal.returns-clause-grown
returns-clause-grown c =
    let rows = c.args.self.now in
    let cell : declared.Cell = record { from = c.len-3.result; count = c.len.result - c.args.height; marks = c.args.marks; layouts = c.args.layouts } in
    let one : c.push.new.self.items ≡ rows.cells.items ++ cell ∷ [] = search rules in
    let count : c.len.result - c.args.height ≡ length rows.stack.items - c.args.height = search rules in
    let left : c.take_from.new.stack.items ≡ take c.args.height rows.stack.items = search rules in
    on_ok c.push-2.result _ _
    (λ put. closed_grows rows.cells.items c.push.new.self.items rows.stack.items c.push-2.new.stack.items c.args.height cell _ c.requires.within count one (put ∙ ap (λ (kept : List Piece). kept ++ Cell c.in_ok-number.number ∷ []) left))
    c.push-2.ensures.items
