-- Nothing was begun yet, and nothing stands here.
use Rattle.std.proofs.Common.{refl}
use Rattle.rf_tree.proofs.Places.{IsAtBehind-start}
use Rattle.rf_tree.proofs.parser.Parser.before_trees.Goals as goal

pub returns : goal.returns
returns c =
    λ ts done n place. IsAtBehind-start ts done n _ c.clear.ensures c.new.ensures.items c.clear-2.ensures.items refl place
