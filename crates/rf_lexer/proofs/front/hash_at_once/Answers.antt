-- An atom by its beginning, or a mark behind a hash sign.
use Rattle.std.proofs.Common.{refl}
use Rattle.std.specs.Str.{chars}
use Rattle.rf_lexer.proofs.AtOnce.{two_end, hash_front, hash_told, word_front}
use Rattle.rf_lexer.proofs.Openings.{hash_comma_is}
use Rattle.rf_lexer.proofs.front.hash_at_once.Goals as goal

pub range_from-requires-then-c-eq44 : goal.range_from-requires-then-c-eq44
range_from-requires-then-c-eq44 c = λ _. two_end c.args.text.now c.args.len c.utf8.text c.requires.run c.requires.some

pub range_from-requires-2 : goal.range_from-requires-2
range_from-requires-2 c = λ _. two_end c.args.text.now c.args.len c.utf8.text c.requires.run c.requires.some

pub returns-then-begins_word : goal.returns-then-begins_word
returns-then-begins_word c =
    let r = c.requires in
    let begins = rw c.as_bytes.ensures.value at c.if-begins_word.ensures refl in
    λ language.
    word_front language c.args.text.now c.args.len c.range_from.result c.utf8.text c.range_from.utf8 c.range_from.ensures.value r.run r.some r.hash begins

pub returns-then-c-eq44 : goal.returns-then-c-eq44
returns-then-c-eq44 c =
    let r = c.requires in
    let after = c.range_from-then-c-eq44 in
    let comma = rw c.as_bytes.ensures.value at c.if-c-eq44.true in
    λ language.
    rw (hash_front c.args.text.now c.args.len c.utf8.text r.run r.some r.hash, comma, ← after.ensures.value) (hash_comma_is language (chars after.result.now) c.behind_at.result c.behind_at.ensures)

pub returns : goal.returns
returns c =
    let r = c.requires in
    λ language.
    hash_told language c.args.text.now c.args.len c.in_ok-hash_mark.field-0 c.range_from-2.result c.utf8.text r.run r.some r.hash c.range_from-2.ensures.value (λ behind. rw c.as_bytes.ensures.value at c.in_ok-hash_mark.ensures language behind)
