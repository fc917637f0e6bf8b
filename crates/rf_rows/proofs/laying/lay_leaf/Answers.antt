-- A piece that is no cell is a text, a break or a gap.
use Rattle.std.proofs.Common.{◌≡◌, ap, arith}
use Rattle.std.specs.Str.{chars}
use Rattle.rf_rows.specs.declared.laid.LaidRows.{LaidRows}
use Rattle.rf_rows.specs.declared.pieces.Fill.{Fill}
use Rattle.rf_rows.specs.declared.pieces.Piece.{Piece}
use Rattle.rf_rows.specs.Cells.{piece_doc}
use Rattle.rf_rows.specs.Laid.{laid_cell}
use Rattle.rf_rows.proofs.Frames.{text_laid, text_past, newline_laid, newline_past, hard_laid, hard_past, bare_laid, bare_past, past_from, go_as}
use Rattle.rf_rows.proofs.Stacks.{on_ok}
use Rattle.rf_rows.proofs.laying.lay_leaf.Goals as goal

-- the document of a piece is that of the piece that it is
as_piece : (laid : LaidRows) (fill : Fill) {p q : Piece} → p ≡ q → piece_doc (laid_cell laid) fill p ≡ piece_doc (laid_cell laid) fill q
as_piece laid fill is = ap (piece_doc (laid_cell laid) fill) is

pub word-requires-in-Space-clause-columns : goal.word-requires-in-Space-clause-columns
unfolding chars
word-requires-in-Space-clause-columns g c = omega arith

pub returns-in-Text-clause-laid : goal.returns-in-Text-clause-laid
returns-in-Text-clause-laid g c =
    on_ok c.word.result _ _ (text_laid g.P.Paper.holds c.args.spot (as_piece c.args._laid.now c.args.fill c.in-Text.is)) c.word.ensures.put

pub returns-in-Text-clause-too_long : goal.returns-in-Text-clause-too_long
returns-in-Text-clause-too_long g c long =
    text_past g.P.Paper.holds c.args.spot (as_piece c.args._laid.now c.args.fill c.in-Text.is) (c.word.ensures.too_long long)

pub returns-in-Space-clause-laid : goal.returns-in-Space-clause-laid
unfolding chars
returns-in-Space-clause-laid g c =
    on_ok c.word-in-Space.result _ _ (text_laid g.P.Paper.holds c.args.spot (as_piece c.args._laid.now c.args.fill c.in-Space.is)) c.word-in-Space.ensures.put

pub returns-in-Space-clause-too_long : goal.returns-in-Space-clause-too_long
unfolding chars
returns-in-Space-clause-too_long g c long =
    text_past g.P.Paper.holds c.args.spot (as_piece c.args._laid.now c.args.fill c.in-Space.is) (c.word-in-Space.ensures.too_long long)

pub returns-in-Newline-clause-laid : goal.returns-in-Newline-clause-laid
returns-in-Newline-clause-laid g c =
    on_ok c.put_newline.result _ _ (newline_laid g.P.Paper.holds c.args.spot (as_piece c.args._laid.now c.args.fill c.in-Newline.is)) c.put_newline.ensures.put

pub returns-in-Newline-clause-too_long : goal.returns-in-Newline-clause-too_long
returns-in-Newline-clause-too_long g c long =
    newline_past g.P.Paper.holds c.args.spot (as_piece c.args._laid.now c.args.fill c.in-Newline.is) (c.put_newline.ensures.too_long long)

pub returns-in-Hard-clause-laid : goal.returns-in-Hard-clause-laid
returns-in-Hard-clause-laid g c =
    on_ok c.line_break.result _ _ (hard_laid g.P.Paper.holds c.args.spot (as_piece c.args._laid.now c.args.fill c.in-Hard.is)) c.line_break.ensures.put

pub returns-in-Hard-clause-too_long : goal.returns-in-Hard-clause-too_long
returns-in-Hard-clause-too_long g c long =
    hard_past g.P.Paper.holds c.args.spot (as_piece c.args._laid.now c.args.fill c.in-Hard.is) (c.line_break.ensures.too_long long)

pub returns-in-BareBreak-clause-laid : goal.returns-in-BareBreak-clause-laid
returns-in-BareBreak-clause-laid g c =
    on_ok c.line_break-in-BareBreak.result _ _ (bare_laid g.P.Paper.holds c.args.spot (as_piece c.args._laid.now c.args.fill c.in-BareBreak.is)) c.line_break-in-BareBreak.ensures.put

pub returns-in-BareBreak-clause-too_long : goal.returns-in-BareBreak-clause-too_long
returns-in-BareBreak-clause-too_long g c long =
    bare_past g.P.Paper.holds c.args.spot (as_piece c.args._laid.now c.args.fill c.in-BareBreak.is) (c.line_break-in-BareBreak.ensures.too_long long)

pub returns-in-Gap-clause-too_long : goal.returns-in-Gap-clause-too_long
returns-in-Gap-clause-too_long g c long =
    past_from (go_as g.P.Paper.holds (as_piece c.args._laid.now c.args.fill c.in-Gap.is)) (c.put_gap.ensures.too_long long)
