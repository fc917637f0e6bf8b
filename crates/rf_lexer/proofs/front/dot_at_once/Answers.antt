-- A dot before a delimiter.
use Rattle.rf_lexer.proofs.AtOnce.{dot_front}
use Rattle.rf_lexer.proofs.front.dot_at_once.Goals as goal

pub returns : goal.returns
returns c =
    let dot = rw c.as_bytes.ensures.value at c.if-as_bytes-ne46.false in
    λ language.
    dot_front language c.args.text.now c.range_from.result c.utf8.text c.range_from.utf8 c.range_from.ensures.value (rw c.if-len-ne1.false at c.requires) dot
