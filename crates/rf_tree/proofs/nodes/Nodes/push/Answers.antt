-- One more node behind the others, or none.
use Rattle.std.proofs.Common.{refl}
use Rattle.rf_tree.proofs.StoredNodes.{pushed, same_nodes, each_pushed}
use Rattle.rf_tree.proofs.nodes.Nodes.push.Goals as goal

pub returns-clause-pushed : goal.returns-clause-pushed
returns-clause-pushed c =
    pushed _ _ _ _ _ _ _ c.in_ok-stored.ensures.behind c.in_ok-push.ensures.items c.in_ok-stored.ensures.stored c.self.invariant c.self.view_is

pub returns-in_err-stored-clause-same : goal.returns-in_err-stored-clause-same
returns-in_err-stored-clause-same c =
    same_nodes c.from_residual-in_err-stored.result _ _ _ _ _ c.stored.ensures.behind refl c.self.invariant c.self.view_is

pub returns-in_err-push-clause-same : goal.returns-in_err-push-clause-same
returns-in_err-push-clause-same c =
    same_nodes c.from_residual-in_err-push.result _ _ _ _ _ c.stored.ensures.behind c.in_err-push.ensures.items c.self.invariant c.self.view_is

pub invariant_of-self-2 : goal.invariant_of-self-2
invariant_of-self-2 c =
    each_pushed _ _ _ _ _ _ c.in_ok-stored.ensures.behind c.in_ok-push.ensures.items c.in_ok-stored.ensures.stored c.self.invariant
