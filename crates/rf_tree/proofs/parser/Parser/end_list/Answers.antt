-- A list ends.
use Rattle.std.proofs.Common.{refl, ◌∙◌}
use Rattle.rf_tree.proofs.Carrying.{list_ends, follows_same}
use Rattle.rf_tree.proofs.parser.Parser.end_list.Goals as goal

pub returns : goal.returns
returns c =
    λ ts frames before here stands level o n.
    follows_same ts c.stand.new.self _ _ (record { nodes = refl; here = refl; begun = refl })
    (list_ends ts c.args.self.now c.leave-nodes.new.self c.stand.new.self c.args.list c.as_slice.result.now c.args.number frames before here stands level o n
    (c.as_slice.ensures.value ∙ c.leave-nodes.ensures.nodes) c.leave-nodes.ensures.left c.in_ok-stand.ensures)
