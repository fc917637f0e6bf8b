-- A gap is the space or the break that fills it.
use Rattle.std.proofs.Common.{ap, arith}
use Rattle.std.specs.Str.{chars}
use Rattle.rf_rows.specs.Layouts.{fill_doc}
use Rattle.rf_rows.proofs.Frames.{text_laid, text_past, newline_laid, newline_past, hard_laid, hard_past}
use Rattle.rf_rows.proofs.Stacks.{on_ok}
use Rattle.rf_rows.proofs.laying.put_gap.Goals as goal

pub word-requires-clause-columns : goal.word-requires-clause-columns
unfolding chars
word-requires-clause-columns g c = omega arith

pub returns-in-Space-clause-laid : goal.returns-in-Space-clause-laid
unfolding chars
returns-in-Space-clause-laid g c =
    on_ok c.word.result _ _ (text_laid g.P.Paper.holds c.args.spot (ap fill_doc c.in-Space.is)) c.word.ensures.put

pub returns-in-Space-clause-too_long : goal.returns-in-Space-clause-too_long
unfolding chars
returns-in-Space-clause-too_long g c long =
    text_past g.P.Paper.holds c.args.spot (ap fill_doc c.in-Space.is) (c.word.ensures.too_long long)

pub returns-in-Newline-clause-laid : goal.returns-in-Newline-clause-laid
returns-in-Newline-clause-laid g c =
    on_ok c.put_newline.result _ _ (newline_laid g.P.Paper.holds c.args.spot (ap fill_doc c.in-Newline.is)) c.put_newline.ensures.put

pub returns-in-Newline-clause-too_long : goal.returns-in-Newline-clause-too_long
returns-in-Newline-clause-too_long g c long =
    newline_past g.P.Paper.holds c.args.spot (ap fill_doc c.in-Newline.is) (c.put_newline.ensures.too_long long)

pub returns-in-Hard-clause-laid : goal.returns-in-Hard-clause-laid
returns-in-Hard-clause-laid g c =
    on_ok c.line_break.result _ _ (hard_laid g.P.Paper.holds c.args.spot (ap fill_doc c.in-Hard.is)) c.line_break.ensures.put

pub returns-in-Hard-clause-too_long : goal.returns-in-Hard-clause-too_long
returns-in-Hard-clause-too_long g c long =
    hard_past g.P.Paper.holds c.args.spot (ap fill_doc c.in-Hard.is) (c.line_break.ensures.too_long long)
