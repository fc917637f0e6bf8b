-- A mark by itself, or an atom.
use Rattle.std.proofs.Common.{arith}
use Rattle.rf_base_grammar.specs.Characters.{is_delimiter}
use Rattle.rf_lexer.proofs.AtOnce.{one_mark, no_run, mark_told, atom_front}
use Rattle.rf_lexer.proofs.Marks.{marks_end}
use Rattle.rf_lexer.proofs.front.item_at_once.Goals as goal

pub range_from-requires : goal.range_from-requires
range_from-requires c =
    let text = c.args.text.now in
    let run = c.in_ok-len.ensures in
    λ _.
    marks_end is_delimiter text 1 c.utf8.text (omega (arith, run.within)) (one_mark is_delimiter text (no_run text c.in_ok-len.len run c.if-len-eq0.true))

pub returns-in-Some-clause-told : goal.returns-in-Some-clause-told
returns-in-Some-clause-told c =
    let text = c.args.text.now in
    let run = c.in_ok-len.ensures in
    λ language.
    mark_told language text c.in-Some.kind c.range_from.result c.utf8.text (omega (arith, run.within)) (no_run text c.in_ok-len.len run c.if-len-eq0.true) c.range_from.ensures.value (λ behind. rw c.as_bytes.ensures.value at c.in-Some.ensures language behind)

pub returns-clause-told : goal.returns-clause-told
returns-clause-told c =
    let text = c.args.text.now in
    let hash = rw c.as_bytes.ensures.value at c.if-byte-eq35.false in
    let dot = rw c.as_bytes.ensures.value at c.if-byte-eq46.false in
    λ language.
    atom_front language text c.in_ok-len.len c.range_from-2.result c.utf8.text c.range_from-2.utf8 c.range_from-2.ensures.value c.in_ok-len.ensures c.if-len-eq0.false hash dot
