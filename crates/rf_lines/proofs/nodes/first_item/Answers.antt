-- The first item of a node is that of its tree.
use Rattle.std.proofs.Common.{ap, sym, ◌∙◌}
use Rattle.rf_tree.specs.Told.{told_node}
use Rattle.rf_tree.specs.declared.nodes.Node.{Node as ToldNode}
use Rattle.rf_lines.proofs.NodesAt.{first_named, first_named_is}
use Rattle.rf_lines.proofs.nodes.first_item.Goals as goal

pub returns-in-Leaf : goal.returns-in-Leaf
returns-in-Leaf c style ts t h =
    let nodes = c.args.tree.now.nodes in
    sym (ap (λ (n : ToldNode). first_named (told_node n)) c.in-Leaf.is)
    ∙ first_named_is style ts nodes c.args.at.0 (told_node c.node.result) t c.node.ensures h

pub returns-in-Comment : goal.returns-in-Comment
returns-in-Comment c style ts t h =
    let nodes = c.args.tree.now.nodes in
    sym (ap (λ (n : ToldNode). first_named (told_node n)) c.in-Comment.is)
    ∙ first_named_is style ts nodes c.args.at.0 (told_node c.node.result) t c.node.ensures h

pub returns-in-Prefixed : goal.returns-in-Prefixed
returns-in-Prefixed c style ts t h =
    let nodes = c.args.tree.now.nodes in
    sym (ap (λ (n : ToldNode). first_named (told_node n)) c.in-Prefixed.is)
    ∙ first_named_is style ts nodes c.args.at.0 (told_node c.node.result) t c.node.ensures h

pub returns-in-DatumComment : goal.returns-in-DatumComment
returns-in-DatumComment c style ts t h =
    let nodes = c.args.tree.now.nodes in
    sym (ap (λ (n : ToldNode). first_named (told_node n)) c.in-DatumComment.is)
    ∙ first_named_is style ts nodes c.args.at.0 (told_node c.node.result) t c.node.ensures h

pub returns-in-List : goal.returns-in-List
returns-in-List c style ts t h =
    let nodes = c.args.tree.now.nodes in
    sym (ap (λ (n : ToldNode). first_named (told_node n)) c.in-List.is)
    ∙ first_named_is style ts nodes c.args.at.0 (told_node c.node.result) t c.node.ensures h
