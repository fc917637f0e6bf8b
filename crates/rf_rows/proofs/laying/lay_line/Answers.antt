-- The line is written where the choices begin with its own.
use Rattle.std.proofs.Common.{◌++◌, List, length, ap, ◌∙◌}
use Rattle.std.proofs.lemmas.Result.{err_from_is_err_and}
use Rattle.rf_base_document.specs.declared.directions.Dir.{Dir}
use Rattle.rf_rows.specs.Unmade.{list_doc, written, turns_of}
use Rattle.rf_rows.proofs.UnmadeLines.{line_of}
use Rattle.rf_rows.proofs.LineWalks.{line_columns, line_laid, choices_past, line_past}
use Rattle.rf_rows.proofs.laying.lay_line.Goals as goal

pub returns-in_err-count-clause-too_long : goal.returns-in_err-count-clause-too_long
returns-in_err-count-clause-too_long g c = λ long.
    let u = c.args.unmade.now in
    let turns = c.args.laid.now.rows.now.turns.items in
    let own = turns_of turns u c.args.spot.flat in
    let p = err_from_is_err_and c.from_residual.result c.from_residual.ensures.1 in
    choices_past g.P.Paper.holds c.args.paper.now c.args.spot (list_doc u.line) (written u.line own) c.args.choices.now _ _ (line_of turns u c.args.spot.flat c.requires.line)
    (c.in-Some.ensures ∙ ap (λ (l : List Dir). l ++ c.in-Some.left.now) c.turns-turns.ensures) (ap (λ (l : List Dir). length l) c.turns-turns.ensures) (c.in_err-count.ensures.too_long (cc))

pub line-requires-clause-columns : goal.line-requires-clause-columns
line-requires-clause-columns g c =
    let u = c.args.unmade.now in
    let turns = c.args.laid.now.rows.now.turns.items in
    line_columns (list_doc u.line) c.args.spot.flat (written u.line (turns_of turns u c.args.spot.flat)) c.requires.line.line.document (line_of turns u c.args.spot.flat c.requires.line)

pub returns-in_err-line-clause-too_long : goal.returns-in_err-line-clause-too_long
returns-in_err-line-clause-too_long g c = λ long.
    let u = c.args.unmade.now in
    let turns = c.args.laid.now.rows.now.turns.items in
    let own = turns_of turns u c.args.spot.flat in
    let p = err_from_is_err_and c.from_residual-in_err-line.result c.from_residual-in_err-line.ensures.1 in
    line_past g.P.Paper.holds c.args.paper.now c.count.new.paper c.args.spot (list_doc u.line) (written u.line own) c.args.choices.now _ _ (line_of turns u c.args.spot.flat c.requires.line)
    (c.in-Some.ensures ∙ ap (λ (l : List Dir). l ++ c.in-Some.left.now) c.turns-turns.ensures) (ap (λ (l : List Dir). length l) c.turns-turns.ensures) c.in_ok-count.ensures.counted (c.in_err-line.ensures.too_long (cc))

pub returns-clause-laid : goal.returns-clause-laid
returns-clause-laid g c =
    let u = c.args.unmade.now in
    let turns = c.args.laid.now.rows.now.turns.items in
    let own = turns_of turns u c.args.spot.flat in
    line_laid g.P.Paper.holds c.args.paper.now c.count.new.paper c.line.new.self c.args.spot (list_doc u.line) (written u.line own) c.args.choices.now _ _ (line_of turns u c.args.spot.flat c.requires.line)
    (c.in-Some.ensures ∙ ap (λ (l : List Dir). l ++ c.in-Some.left.now) c.turns-turns.ensures) (ap (λ (l : List Dir). length l) c.turns-turns.ensures) c.in_ok-count.ensures.counted c.in_ok-line.ensures.put
