-- A text begins with the character that its bytes begin with.
use Rattle.std.proofs.Common.{◌≡◌, [], length, ◌++◌, sym, ◌∙◌, ap, subst}
use Rattle.std.specs.Char.{encode_utf8}
use Rattle.std.specs.Str.{chars}
use Rattle.std.proofs.lemmas.Str.{chars_past_char, chars-nil}
use Rattle.std.proofs.lemmas.List.{nil_from_length}
use Rattle.rf_text.specs.Places.{IsFirst}
use Rattle.rf_lexer.proofs.cursor.first.Goals as goal

pub returns-in_err-c : goal.returns-in_err-c
returns-in_err-c c =
    let text = c.args.text.now in
    let ended = c.in_err-c.ensures.steps.0 in
    let e : chars text ≡ [] = ap chars (nil_from_length text (ap length (sym c.chars-all.ensures.rest) ∙ ended.0)) ∙ chars-nil in
    subst (λ r. IsFirst (chars text) r) (sym c.from_residual.ensures) e

pub returns : goal.returns
returns c =
    let text = c.args.text.now in
    let step : c.chars-all.result.rest.now ≡ encode_utf8 c.in_ok-c.c ++ c.next.new.self.rest.now = c.in_ok-c.ensures.steps.0 in
    let steps : text ≡ encode_utf8 c.in_ok-c.c ++ c.as_str.result.now =
    sym c.chars-all.ensures.rest ∙ step ∙ ap (λ xs. encode_utf8 c.in_ok-c.c ++ xs) (sym c.as_str.ensures) in
    chars_past_char text c.as_str.result.now c.in_ok-c.c c.utf8.text steps
