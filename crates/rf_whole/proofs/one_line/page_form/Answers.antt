-- What is on the page is the form.
use Rattle.std.proofs.Common.{◌≡◌, ◌≤◌, ◌++◌, List, ℕ, length, ◌∙◌, ap, arith}
use Rattle.std.specs.Str.{chars}
use Rattle.std.specs.String.{string_bytes}
use Rattle.rf_base_document.specs.declared.limits.TheConstants.{LAYOUT_LIMIT}
use Rattle.rf_lexer.proofs.Places.{chars_len}
use Rattle.rf_whole.proofs.Formed.{line_formed}
use Rattle.rf_whole.proofs.one_line.page_form.Goals as goal

pub returns : goal.returns
returns g c is w d =
    let page = c.args.page.now.line in
    let text : chars (string_bytes c.push_str.new.self) ≡ chars c.text-text.result.now =
    ap chars (c.in_ok-push_str.ensures.bytes ∙ ap (λ (s : List ℕ). s ++ c.text-text.result.now) c.clear-2.ensures.bytes) in
    let fewer = chars_len c.text-text.result.now c.text-text.utf8 in
    let same : length (chars (string_bytes c.push_str.new.self)) ≡ length (chars c.text-text.result.now) = ap length text in
    let short : length (chars (string_bytes c.push_str.new.self)) ≤ LAYOUT_LIMIT = omega (arith, fewer, same, c.if-text.false) in
    line_formed (g.F.Factory.costs c.args.factory.now) w d page _ _ _ _
    (c.in_ok-extend_from_slice.ensures.items ∙ ap (λ l. l ++ c.choices.result.now) c.clear.ensures.items ∙ c.choices.ensures)
    (text ∙ c.text-text.ensures) c.text-form.ensures c.in-Some.ensures.sum short c.in-Some.ensures.light
