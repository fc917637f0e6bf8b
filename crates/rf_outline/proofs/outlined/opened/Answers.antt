-- A text is told as it is.
use Rattle.std.proofs.Common.{Some, ap}
use Rattle.rf_base_document.specs.Graph.{tree_of}
use Rattle.rf_doc.specs.Nodes.{told_node}
use Rattle.rf_doc.specs.declared.nodes.DocNode.{DocNode}
use Rattle.rf_outline.proofs.outlined.opened.Goals as goal

pub returns-in-Text : goal.returns-in-Text
returns-in-Text c f = ap (λ (z : DocNode). tree_of f (Some (told_node z))) c.in-Text.is
