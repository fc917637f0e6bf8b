-- The text is cut at its first byte 10.
use Rattle.rf_ways.proofs.LineCuts.{cut_is}
use Rattle.rf_ways.proofs.lines.first_line.Goals as goal

pub returns : goal.returns
returns c = cut_is c.args.text.now c.split_once.result c.utf8.text c.split_once.ensures.cases
