-- A text, a space and a gap are so many columns; the others are what is known of them.
use Rattle.std.proofs.Common.{ap, codes, inl, inr}
use Rattle.std.proofs.lemmas.Result.{IfOk-weaker}
use Rattle.rf_base_document.specs.Document.{Hard, Newline, Reset}
use Rattle.rf_frontier.proofs.Ways.{keeps_same}
use Rattle.rf_outline.proofs.Holds.{without}
use Rattle.rf_rows.specs.declared.pieces.Fill.TheVariants as fill
use Rattle.rf_rows.specs.Cells.{piece_doc}
use Rattle.rf_rows.specs.Laid.{laid_cell}
use Rattle.rf_rows.proofs.Learning.{gathered_of}
use Rattle.rf_rows.proofs.knowing.with_piece.Goals as goal

pub with_known-requires-in-Hard-clause-behind : goal.with_known-requires-in-Hard-clause-behind
with_known-requires-in-Hard-clause-behind c = (Hard, c.hard.ensures c.args.hows.now)

pub returns-in-Text-clause-lines : goal.returns-in-Text-clause-lines
returns-in-Text-clause-lines c = λ d h.
    gathered_of c.args.hows.now d _ _ c.with_columns.result (ap (piece_doc (laid_cell c.args._laid.now) fill.Space) c.in-Text.is) (c.with_columns.ensures c.args.hows.now _ d h)

pub returns-in-Text-clause-older : goal.returns-in-Text-clause-older
returns-in-Text-clause-older c = keeps_same c.args.hows.now

pub returns-in-Space-clause-lines : goal.returns-in-Space-clause-lines
returns-in-Space-clause-lines c = λ d h.
    let f = piece_doc (laid_cell c.args._laid.now) fill.Space in
    let lines = c.with_columns-in-Space.ensures c.args.hows.now (codes " ") d h in
    elim c.in-Space.is [
      | inl e ↦ gathered_of c.args.hows.now d _ _ c.with_columns-in-Space.result (ap f e) lines
      | inr e ↦ gathered_of c.args.hows.now d _ _ c.with_columns-in-Space.result (ap f e) lines
    ]

pub returns-in-Space-clause-older : goal.returns-in-Space-clause-older
returns-in-Space-clause-older c = keeps_same c.args.hows.now

pub returns-in-Newline-clause-lines : goal.returns-in-Newline-clause-lines
returns-in-Newline-clause-lines c =
    IfOk-weaker c.with_known.result _ _ (λ more known d h. gathered_of _ d _ _ more (ap (piece_doc (laid_cell c.args._laid.now) fill.Space) c.in-Newline.is) (known d Newline h c.newline.ensures)) c.with_known.ensures.lines

pub returns-in-Hard-clause-lines : goal.returns-in-Hard-clause-lines
returns-in-Hard-clause-lines c =
    let f = piece_doc (laid_cell c.args._laid.now) fill.Space in
    let known = c.hard.ensures c.args.hows.now in
    elim c.in-Hard.is [
      | inl e ↦ IfOk-weaker c.with_known-in-Hard.result _ _ (λ more lines d h. gathered_of _ d _ _ more (ap f e) (lines d Hard h known)) c.with_known-in-Hard.ensures.lines
      | inr e ↦ IfOk-weaker c.with_known-in-Hard.result _ _ (λ more lines d h. gathered_of _ d _ _ more (ap f e) (lines d (Reset Hard) h (without c.args.hows.now c.hard.result Hard known))) c.with_known-in-Hard.ensures.lines
    ]

pub returns-in-Cell-clause-lines : goal.returns-in-Cell-clause-lines
returns-in-Cell-clause-lines c =
    let rows = c.args._laid.now.rows.now in
    let known = c.known_at.ensures c.args.hows.now rows.pieces.items rows.cells.items c.requires.cells in
    IfOk-weaker c.with_known-in-Cell.result _ _ (λ more lines d h. gathered_of _ d _ _ more (ap (piece_doc (laid_cell c.args._laid.now) fill.Space) c.in-Cell.is) (lines d _ h known)) c.with_known-in-Cell.ensures.lines
