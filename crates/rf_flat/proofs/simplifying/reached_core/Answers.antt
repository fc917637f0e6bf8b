-- The kept nodes are the marked ones, the root last.
use Rattle.std.proofs.Common.{◌≡◌, List, length, sym, subst, ◌∙◌, arith}
use Rattle.std.proofs.lemmas.Grind.{common_steps}
use Rattle.rf_flat.specs.declared.cores.CoreNode.{CoreNode}
use Rattle.rf_flat.specs.Cores.{core_nodes}
use Rattle.rf_flat.specs.Reached.{MarkedDownTo}
use Rattle.rf_flat.proofs.CoreNodes.{nodes_count}
use Rattle.rf_flat.proofs.Ranks.{Finished, finished}
use Rattle.rf_flat.proofs.simplifying.reached_core.Goals as goal

-- what the kept nodes are
all : (c : goal.After-len-root) → Finished (core_nodes c.args.nodes.items) c.args.root (core_nodes c.keep.new.nodes.items) c.len-root.result
all c =
    let stored : c.len-root.result ≡ length c.keep.new.nodes.items = grind (arith, common_steps) in
    let marked : MarkedDownTo (core_nodes c.args.nodes.items) c.args.root 0 c.in_ok-marks.marks.items =
    subst (λ (l : List CoreNode). MarkedDownTo (core_nodes l) c.args.root 0 c.in_ok-marks.marks.items) c.deref.ensures.value c.in_ok-marks.ensures in
    finished _ c.in_ok-marks.marks.items c.deref-2.result.now c.args.root c.in_ok-keep.ensures.0 _ c.len-root.result c.requires.is_graph
    (omega (arith, nodes_count c.args.nodes.items)) c.deref-2.ensures.value marked c.in_ok-keep.ensures.1 (stored ∙ sym (nodes_count c.keep.new.nodes.items))

pub overflow_sub-root : goal.overflow_sub-root
overflow_sub-root c = (all c).some

pub invariant_of-result : goal.invariant_of-result
invariant_of-result c = (all c).is_core

pub returns-clause-same : goal.returns-clause-same
returns-clause-same c = (all c.before).same

pub returns-clause-no_more : goal.returns-clause-no_more
returns-clause-no_more c = omega (arith, (all c.before).no_more, nodes_count c.args.nodes.items)

pub returns-clause-reached : goal.returns-clause-reached
returns-clause-reached c = (all c.before).reached
