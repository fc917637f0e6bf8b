-- Ways that were there stay.
use Rattle.rf_frontier.proofs.Ways.{keeps_then}
use Rattle.rf_frontier.proofs.Behind.{belong_keeps}
use Rattle.rf_frontier_tests.proofs.row_tests.merged.Goals as goal

pub shown-requires : goal.shown-requires
shown-requires g c =
    c.in_ok-both.ensures.belongs c.mark-2.new.hows
    (belong_keeps c.mark.new.hows c.mark-2.new.hows c.in_ok-left.left (keeps_then c.mark.new.hows c.leaf-2.new.hows c.mark-2.new.hows c.leaf-2.ensures.older c.mark-2.ensures.older) c.in_ok-left.ensures.belongs)
    c.in_ok-right.ensures.belongs
