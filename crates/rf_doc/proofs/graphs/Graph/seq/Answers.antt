-- After a refusal the nodes are cut back to those of before.
use Rattle.std.proofs.Common.{◌≡◌, length, arith}
use Rattle.std.specs.String.{string_bytes}
use Rattle.std.proofs.lemmas.Grind.{common_steps}
use Rattle.rf_doc.specs.Nodes.{seen}
use Rattle.rf_doc.proofs.Seen.{cut_back, each_cut, is_graph_again, adds_none}
use Rattle.rf_doc.proofs.graphs.Graph.seq.Goals as goal

-- the nodes seen after the cut
after : (c : goal.After-truncate) → seen (string_bytes c.self-2.inside.texts) c.truncate.new.self.items ≡ c.args.self.now
after c =
    let place : c.len-start.result ≡ length c.args.self.now = grind (arith, common_steps) in
    cut_back _ c.args.self.now c.seq_halves.new.self c.self-2.inside.nodes.items _ c.len-start.result c.self-2.view_is c.truncate.ensures.items place
    c.seq_halves.ensures.added_at_end

pub invariant_of-self : goal.invariant_of-self
invariant_of-self c =
    (is_graph_again c.args.self.now _ _ c.self.view_is (after c) c.self.invariant.0, each_cut _ _ _ _ c.truncate.ensures.items c.self-2.invariant.1)

pub returns-in-Err-clause-added : goal.returns-in-Err-clause-added
returns-in-Err-clause-added c = adds_none _ _ _ _ (after c)
