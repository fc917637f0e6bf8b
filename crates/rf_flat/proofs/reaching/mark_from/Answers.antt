-- Where the node is marked its parts are, and otherwise nothing is to be done.
use Rattle.std.proofs.Common.{arith}
use Rattle.rf_flat.proofs.CoreNodes.{told_or, parts_within}
use Rattle.rf_flat.proofs.Marks.{with_parts_marked, without_mark}
use Rattle.rf_flat.proofs.reaching.mark_from.Goals as goal

pub mark_parts-requires : goal.mark_parts-requires
mark_parts-requires c = parts_within c.args.nodes.now c.args.n _ _ c.requires.is_graph (omega arith) (omega (arith, c.requires.later.count))

pub returns-then-marks-n : goal.returns-then-marks-n
returns-then-marks-n c =
    with_parts_marked _ c.args.root c.args.n _ c.args.marks.now _ c.requires.is_graph (told_or c.args.nodes.now c.args.n _ (omega arith)) c.requires.in_marks
    (omega arith) c.requires.later c.if-marks-n.true c.mark_parts.ensures

pub returns-else-marks-n : goal.returns-else-marks-n
returns-else-marks-n c = without_mark _ c.args.root c.args.n c.args.marks.now c.requires.later c.if-marks-n.false
