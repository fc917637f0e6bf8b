-- A comment of one item.
use Rattle.std.proofs.Common.{refl}
use Rattle.std.proofs.lemmas.Result.{on_ok_weaker}
use Rattle.rf_base_tree.specs.Trees.{Comment}
use Rattle.rf_tree.specs.Told as node
use Rattle.rf_tree.proofs.Steps.{Makes-comment, stands_kept, kept_unfolds, stands_push}
use Rattle.rf_tree.proofs.parser.Parser.add_comment.Goals as goal

pub returns : goal.returns
returns c =
    let p = c.args.self.now in
    let q = c.keep.new.self in
    let n = c.args.number in
    let k = c.in_ok-at.ensures in
    on_ok_weaker c.add_comment.result
    (λ gains ts frames here stands lt.
    let makes = Makes-comment ts p.nodes n lt in
    stands_push ts q _ frames here c.in_ok-at.at (Comment n)
    (stands_kept ts p q frames here (node.Comment n) (Comment n) stands k.1 makes)
    (kept_unfolds ts p q (node.Comment n) (Comment n) c.in_ok-at.at k.1 makes k.0) gains refl refl)
    c.add_comment.ensures
