-- The characters before the rest.
use Rattle.std.proofs.Common.{◌≡◌, ◌-◌, length, take, arith, subst, ◌∙◌, ap}
use Rattle.std.proofs.lemmas.Str.{IsCharBoundary-at_seam}
use Rattle.std.specs.Str.{IsCharBoundary, encode_utf8_all}
use Rattle.rf_lexer.proofs.Places.{parts_len, parts_are, front_chars, length_front}
use Rattle.rf_lexer.proofs.cursor.before.Goals as goal

pub overflow_sub-text : goal.overflow_sub-text
overflow_sub-text c =
    omega (arith, parts_len c.args.text.now c.args.rest.now c.requires.0 c.utf8.text c.utf8.rest c.requires.1)

pub range-requires-clause-end_boundary : goal.range-requires-clause-end_boundary
range-requires-clause-end_boundary c =
    let text = c.args.text.now in
    let rest = c.args.rest.now in
    let n : length (encode_utf8_all c.requires.0) ≡ length text - length rest =
    omega (arith, parts_len text rest c.requires.0 c.utf8.text c.utf8.rest c.requires.1, length_front c.requires.0) in
    subst (λ k. IsCharBoundary text k) n (IsCharBoundary-at_seam text (encode_utf8_all c.requires.0) rest (parts_are text rest c.requires.0 c.utf8.text c.utf8.rest c.requires.1) c.utf8.rest)

pub returns : goal.returns
returns c =
    λ front e.
    front_chars c.args.text.now c.args.rest.now front c.range.result.now c.utf8.text c.utf8.rest c.range.utf8 e (c.range.ensures.value ∙ ap (λ n. take n c.args.text.now) (omega arith))
