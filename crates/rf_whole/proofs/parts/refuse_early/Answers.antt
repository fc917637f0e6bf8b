-- Before the first item stands no tree.
use Rattle.std.proofs.lemmas.Result.{IfErr-weaker}
use Rattle.rf_base_tree.specs.Trees.{Empty}
use Rattle.rf_base_tree.proofs.OneTree.{start}
use Rattle.rf_whole.proofs.parts.refuse_early.Goals as goal

pub returns-clause-refused : goal.returns-clause-refused
returns-clause-refused c =
    IfErr-weaker c.accept_rest.result _ _ (λ fault refused ts of is. refused ts Empty of is (start ts)) c.accept_rest.ensures.refused
