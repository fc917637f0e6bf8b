-- A graphic byte is one character, and no LF.
use Rattle.rf_lines.proofs.Texts.{one_sign}
use Rattle.rf_lines.proofs.items.is_one_sign.Goals as goal

pub returns-in-len1-clause-one : goal.returns-in-len1-clause-one
returns-in-len1-clause-one c holds =
    (one_sign c.as_bytes.result.now c.args.text.now _ c.is_ascii_graphic.result c.as_bytes.ensures.value c.in-len1.len_at_least c.in-len1.len_below c.is_ascii_graphic.ensures.value holds).0

pub returns-in-len1-clause-long : goal.returns-in-len1-clause-long
returns-in-len1-clause-long c holds =
    (one_sign c.as_bytes.result.now c.args.text.now _ c.is_ascii_graphic.result c.as_bytes.ensures.value c.in-len1.len_at_least c.in-len1.len_below c.is_ascii_graphic.ensures.value holds).1
