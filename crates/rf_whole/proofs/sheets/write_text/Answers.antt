-- The text is put on a blank sheet, counted by the factory that was given.
use Rattle.std.proofs.Common.{[], refl, sym, ◌∙◌, subst}
use Rattle.std.specs.Str.{chars}
use Rattle.std.specs.String.{string_bytes}
use Rattle.rf_base_document.specs.Document.{Text as a_text}
use Rattle.rf_base_document.specs.Render.{render, column_after}
use Rattle.rf_base_document.specs.Picks.{leaves_of}
use Rattle.rf_rows.proofs.Turns.{same_err}
use Rattle.rf_whole.specs.Sheets.{Keeps}
use Rattle.rf_whole.specs.Written.{IsWritten}
use Rattle.rf_whole.proofs.sheets.write_text.Goals as goal

pub word-requires-clause-held : goal.word-requires-clause-held
word-requires-clause-held g c =
    let blank = c.blank-sheet.result in
    (blank, [], 0, (refl, subst (λ f. Keeps (g.F.Factory.costs f) (chars (string_bytes blank.text)) blank.tally.cost blank.tally.extent blank.widest [] 0) (sym c.blank-sheet.ensures.factory) c.blank-sheet.ensures.keeps))

pub returns-in_err-word-clause-too_long : goal.returns-in_err-word-clause-too_long
unfolding render column_after leaves_of
returns-in_err-word-clause-too_long g c long =
    let blank = c.blank-sheet.result in
    let begun = subst (λ f. Keeps (g.F.Factory.costs f) (chars (string_bytes blank.text)) blank.tally.cost blank.tally.extent blank.widest [] 0) (sym c.blank-sheet.ensures.factory) c.blank-sheet.ensures.keeps in
    (_, refl, c.in_err-word.ensures.too_long (same_err c.from_residual.ensures.1 long) blank [] 0 (refl, begun))

pub returns-clause-written : goal.returns-clause-written
unfolding render column_after leaves_of
returns-clause-written g c =
    let blank = c.blank-sheet.result in
    let begun = subst (λ f. Keeps (g.F.Factory.costs f) (chars (string_bytes blank.text)) blank.tally.cost blank.tally.extent blank.widest [] 0) (sym c.blank-sheet.ensures.factory) c.blank-sheet.ensures.keeps in
    let put = c.in_ok-word.ensures.put blank [] 0 (refl, begun) in
    subst (λ f. IsWritten (g.F.Factory.costs f) (a_text (chars c.args.s.now) c.args.len) [] c.written.result) (put.0 ∙ c.blank-sheet.ensures.factory)
    (c.written.ensures (a_text (chars c.args.s.now) c.args.len) [] (_, refl, put.1))
