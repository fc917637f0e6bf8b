-- Plain bytes are characters of their own.
use Rattle.std.proofs.Common.{◌≡◌, length, refl, sym, ap, subst}
use Rattle.std.specs.Str.{chars}
use Rattle.std.proofs.lemmas.Str.{chars-IsAscii}
use Rattle.rf_base_document.specs.Document.{IsOneLine}
use Rattle.rf_base_style.specs.Columns.{length_in}
use Rattle.rf_text.proofs.LineEnds.{IsOneLine-byte}
use Rattle.rf_text.proofs.Plain.{plain_ascii, plain_feed}
use Rattle.rf_text.proofs.lines.line_length.Goals as goal

pub returns-in-Characters-clause-one : goal.returns-in-Characters-clause-one
returns-in-Characters-clause-one c =
    let bytes = c.as_bytes.result.now in
    subst (λ bs. IsOneLine (chars bs)) c.as_bytes.ensures.value (IsOneLine-byte bytes c.as_bytes.ensures.utf8 (plain_feed bytes (c.if-are_plain.ensures refl)))

pub returns-in-Characters-clause-columns : goal.returns-in-Characters-clause-columns
unfolding length_in
returns-in-Characters-clause-columns c =
    let bytes = c.as_bytes.result.now in
    let ascii = plain_ascii bytes (c.if-are_plain.ensures refl) in
    let same : chars c.args.s.now ≡ c.args.s.now = subst (λ bs. chars bs ≡ bs) c.as_bytes.ensures.value (chars-IsAscii bytes ascii) in
    subst (λ columns. length c.args.s.now ≡ length_in columns (chars c.args.s.now)) (sym c.in-Characters.is) (ap length (sym same))
