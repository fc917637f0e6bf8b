-- The bytes that are written are those of the answer.
use Rattle.std.proofs.Common.{◌≡◌, ◌∙◌, ℕ, List, length, inr, ap, sym, arith}
use Rattle.std.specs.String.{string_bytes}
use Rattle.std.proofs.lemmas.Str.{encodes-chars, IsUtf8-string_bytes}
use Rattle.rf_text.specs.Lines.{first_difference}
use Rattle.rf_words.specs.declared.words.Mode.{Mode}
use Rattle.rf_whole.specs.Whole.{layout_of}
use Rattle.rf_top.specs.Answer.{answered, compared, fine, summary_lines}
use Rattle.rf_top.proofs.Replies.{bytes_at_most}
use Rattle.rf_top.proofs.answering.replied_in.Goals as goal

pub compared-requires-clause-text : goal.compared-requires-clause-text
compared-requires-clause-text g c =
    let bytes = string_bytes c.in_ok-made.made.formatted.text in
    let same : length c.as_bytes.result.now ≡ length bytes = ap length c.as_bytes.ensures.value in
    omega (arith, same, bytes_at_most bytes (IsUtf8-string_bytes c.in_ok-made.made.formatted.text), c.in_ok-made.ensures.formatted.0.short.0)

pub returns-in-Plain-clause-answer : goal.returns-in-Plain-clause-answer
returns-in-Plain-clause-answer g c =
    let made = c.in_ok-made.made.formatted in
    let f = c.in_ok-made.ensures.formatted in (
    inr (
      c.requires.short,
      layout_of made,
      f.0,
      c.fine.ensures.answer ∙ ap fine (sym (encodes-chars (string_bytes made.text) (IsUtf8-string_bytes made.text)))
          ∙ ap (λ (mode : Mode). answered mode c.args.source.now (length f.0.tokens) (layout_of made)) (sym c.in-Plain.is),
    )
    )

pub returns-in_ok-compared-in-Check-clause-answer : goal.returns-in_ok-compared-in-Check-clause-answer
returns-in_ok-compared-in-Check-clause-answer g c =
    let made = c.in_ok-made.made.formatted in
    let f = c.in_ok-made.ensures.formatted in (
    inr (
      c.requires.short,
      layout_of made,
      f.0,
      c.in_ok-compared-in-Check.ensures.answer
          ∙ ap (λ (l : List ℕ). compared (first_difference c.args.source.now l))
          (c.as_bytes.ensures.value ∙ sym (encodes-chars (string_bytes made.text) (IsUtf8-string_bytes made.text)))
          ∙ ap (λ (mode : Mode). answered mode c.args.source.now (length f.0.tokens) (layout_of made)) (sym c.in-Check.is),
    )
    )

pub returns-in_ok-summary_lines-in-Summary-clause-answer : goal.returns-in_ok-summary_lines-in-Summary-clause-answer
returns-in_ok-summary_lines-in-Summary-clause-answer g c =
    let made = c.in_ok-made.made.formatted in
    let f = c.in_ok-made.ensures.formatted in (
    inr (
      c.requires.short,
      layout_of made,
      f.0,
      c.fine-in-Summary.ensures.answer ∙ ap fine c.in_ok-summary_lines-in-Summary.ensures
          ∙ ap (λ (items : ℕ). fine (summary_lines (length c.args.source.now) items (layout_of made))) (sym f.1)
          ∙ ap (λ (mode : Mode). answered mode c.args.source.now (length f.0.tokens) (layout_of made)) (sym c.in-Summary.is),
    )
    )
