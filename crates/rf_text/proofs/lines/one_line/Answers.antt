-- The byte 10 is looked for, which no other character than LF holds.
use Rattle.std.proofs.Common.{◌≡◌, true, false, sym, ◌∙◌, subst, arith}
use Rattle.std.specs.Str.{chars}
use Rattle.rf_base_document.specs.Document.{IsOneLine}
use Rattle.rf_text.specs.Lines.{HoldsLineEnd}
use Rattle.rf_text.proofs.LineEnds.{HoldsLineEnd-byte, IsOneLine-byte}
use Rattle.rf_text.proofs.lines.one_line.Goals as goal

pub returns-clause-one : goal.returns-clause-one
returns-clause-one c t =
    let none : c.contains.result ≡ false = grind (arith, t) in
    subst (λ bs. IsOneLine (chars bs)) c.as_bytes.ensures.value (IsOneLine-byte _ c.as_bytes.ensures.utf8 (sym c.contains.ensures.value ∙ none))

pub returns-clause-more : goal.returns-clause-more
returns-clause-more c t =
    let found : c.contains.result ≡ true = grind (arith, t) in
    subst (λ bs. HoldsLineEnd (chars bs)) c.as_bytes.ensures.value (HoldsLineEnd-byte _ c.as_bytes.ensures.utf8 (sym c.contains.ensures.value ∙ found))
