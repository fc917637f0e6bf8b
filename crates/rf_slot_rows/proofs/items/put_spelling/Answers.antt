-- A text of one line is its only line.
use Rattle.std.proofs.Common.{◌≡◌, [], ◌∷◌, sym, ap, ◌∙◌, arith}
use Rattle.std.specs.Str.{chars}
use Rattle.rf_base_document.specs.Document.{Doc}
use Rattle.rf_base_document.specs.Sequence.{seq}
use Rattle.rf_base_document.proofs.Sequence.{seq_of_one}
use Rattle.rf_base_file.specs.Rows.{line_doc, spelling_doc}
use Rattle.rf_ways.proofs.LineCuts.{lines_last}
use Rattle.rf_rows.proofs.Stacks.{on_ok}
use Rattle.rf_slot_rows.proofs.Putting.{puts_same}
use Rattle.rf_slot_rows.proofs.items.put_spelling.Goals as goal

pub returns-in-Some-clause-put : goal.returns-in-Some-clause-put
returns-in-Some-clause-put c =
    let text = chars c.args.text.now in
    let only : spelling_doc c.args.columns text ≡ line_doc c.args.columns text =
    ap seq (lines_last c.args.columns text c.in-Some.ensures.one) ∙ seq_of_one (line_doc c.args.columns text) in
    on_ok c.put_line.result _ _ (λ h. puts_same c.args.rows.now c.put_line.new.rows (line_doc c.args.columns text ∷ []) _ (ap (λ (d : Doc). d ∷ []) (sym only)) h) c.put_line.ensures.put

pub returns-in-Some-clause-grown : goal.returns-in-Some-clause-grown
returns-in-Some-clause-grown c = on_ok c.put_line.result _ _ (λ grown. omega (arith, grown)) c.put_line.ensures.grown
