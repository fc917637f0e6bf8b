-- The word is ASCII, so a text begins with it where its bytes do.
use Rattle.std.proofs.Common.{arith, rules}
use Rattle.rf_tree.proofs.Beginning.{two_bytes, one_byte, other_first, other_second}
use Rattle.rf_tree.proofs.texts.is_keyword.Goals as goal

pub returns-in-35 : goal.returns-in-35
returns-in-35 c =
    two_bytes 35 58 c.as_bytes.result.now c.args.text.now (omega arith) (omega arith) c.utf8.text c.as_bytes.ensures.value c.in-35.len_at_least (search rules) (search rules)

pub returns-in_default : goal.returns-in_default
returns-in_default c =
    one_byte 35 58 c.as_bytes.result.now c.args.text.now (omega arith) (omega arith) c.utf8.text c.as_bytes.ensures.value c.in_default.len_below

pub returns-in_default-2 : goal.returns-in_default-2
returns-in_default-2 c =
    other_second 35 58 c.as_bytes.result.now c.args.text.now (omega arith) (omega arith) c.utf8.text c.as_bytes.ensures.value c.in_default.len_at_least (search rules)

pub returns-in_default-3 : goal.returns-in_default-3
returns-in_default-3 c =
    other_first 35 58 c.as_bytes.result.now c.args.text.now (omega arith) (omega arith) c.utf8.text c.as_bytes.ensures.value c.in_default.len_at_least (search rules)
