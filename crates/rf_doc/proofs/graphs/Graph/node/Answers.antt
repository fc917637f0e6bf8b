-- The stored node is told as it is seen, and the parts of a graph's nodes come first.
use Rattle.rf_base_document.specs.Graph.{ConcatNode, NestNode, AlignNode, ResetNode, FlattenNode, ChoiceNode, ChargeNode}
use Rattle.rf_base_document.proofs.Graph.{parts_come_first}
use Rattle.rf_doc.proofs.Seen.{tells, seen_is_graph}
use Rattle.rf_doc.proofs.graphs.Graph.node.Goals as goal

pub returns-in-Newline-clause-told : goal.returns-in-Newline-clause-told
returns-in-Newline-clause-told c = tells _ _ _ _ _ _ c.self.view_is c.index.ensures c.requires c.in-Newline.is

pub returns-in-Hard-clause-told : goal.returns-in-Hard-clause-told
returns-in-Hard-clause-told c = tells _ _ _ _ _ _ c.self.view_is c.index.ensures c.requires c.in-Hard.is

pub returns-in-Concat-clause-told : goal.returns-in-Concat-clause-told
returns-in-Concat-clause-told c = tells _ _ _ _ _ _ c.self.view_is c.index.ensures c.requires c.in-Concat.is

pub returns-in-Concat-clause-parts_first : goal.returns-in-Concat-clause-parts_first
returns-in-Concat-clause-parts_first c =
    parts_come_first _ _ (ConcatNode c.in-Concat.a c.in-Concat.b) (seen_is_graph _ _ _ c.self.view_is c.self.invariant.0) (returns-in-Concat-clause-told c)

pub returns-in-Nest-clause-told : goal.returns-in-Nest-clause-told
returns-in-Nest-clause-told c = tells _ _ _ _ _ _ c.self.view_is c.index.ensures c.requires c.in-Nest.is

pub returns-in-Nest-clause-parts_first : goal.returns-in-Nest-clause-parts_first
returns-in-Nest-clause-parts_first c =
    parts_come_first _ _ (NestNode c.in-Nest.n c.in-Nest.a) (seen_is_graph _ _ _ c.self.view_is c.self.invariant.0) (returns-in-Nest-clause-told c)

pub returns-in-Align-clause-told : goal.returns-in-Align-clause-told
returns-in-Align-clause-told c = tells _ _ _ _ _ _ c.self.view_is c.index.ensures c.requires c.in-Align.is

pub returns-in-Align-clause-parts_first : goal.returns-in-Align-clause-parts_first
returns-in-Align-clause-parts_first c =
    parts_come_first _ _ (AlignNode c.in-Align.a) (seen_is_graph _ _ _ c.self.view_is c.self.invariant.0) (returns-in-Align-clause-told c)

pub returns-in-Reset-clause-told : goal.returns-in-Reset-clause-told
returns-in-Reset-clause-told c = tells _ _ _ _ _ _ c.self.view_is c.index.ensures c.requires c.in-Reset.is

pub returns-in-Reset-clause-parts_first : goal.returns-in-Reset-clause-parts_first
returns-in-Reset-clause-parts_first c =
    parts_come_first _ _ (ResetNode c.in-Reset.a) (seen_is_graph _ _ _ c.self.view_is c.self.invariant.0) (returns-in-Reset-clause-told c)

pub returns-in-Flatten-clause-told : goal.returns-in-Flatten-clause-told
returns-in-Flatten-clause-told c = tells _ _ _ _ _ _ c.self.view_is c.index.ensures c.requires c.in-Flatten.is

pub returns-in-Flatten-clause-parts_first : goal.returns-in-Flatten-clause-parts_first
returns-in-Flatten-clause-parts_first c =
    parts_come_first _ _ (FlattenNode c.in-Flatten.a) (seen_is_graph _ _ _ c.self.view_is c.self.invariant.0) (returns-in-Flatten-clause-told c)

pub returns-in-Choice-clause-told : goal.returns-in-Choice-clause-told
returns-in-Choice-clause-told c = tells _ _ _ _ _ _ c.self.view_is c.index.ensures c.requires c.in-Choice.is

pub returns-in-Choice-clause-parts_first : goal.returns-in-Choice-clause-parts_first
returns-in-Choice-clause-parts_first c =
    parts_come_first _ _ (ChoiceNode c.in-Choice.a c.in-Choice.b) (seen_is_graph _ _ _ c.self.view_is c.self.invariant.0) (returns-in-Choice-clause-told c)

pub returns-in-Charge-clause-told : goal.returns-in-Charge-clause-told
returns-in-Charge-clause-told c = tells _ _ _ _ _ _ c.self.view_is c.index.ensures c.requires c.in-Charge.is

pub returns-in-Charge-clause-parts_first : goal.returns-in-Charge-clause-parts_first
returns-in-Charge-clause-parts_first c =
    parts_come_first _ _ (ChargeNode c.in-Charge.k c.in-Charge.a) (seen_is_graph _ _ _ c.self.view_is c.self.invariant.0) (returns-in-Charge-clause-told c)
