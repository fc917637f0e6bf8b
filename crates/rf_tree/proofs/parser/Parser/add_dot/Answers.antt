-- A dot.
use Rattle.std.proofs.Common.{refl, sym, ◌∙◌}
use Rattle.rf_base_grammar.specs.declared.kinds.Kind.TheVariants.{Dot}
use Rattle.rf_base_tree.specs.Trees.{Point}
use Rattle.rf_base_tree.specs.Moves.{Goes, push, dot_may_stand}
use Rattle.rf_base_tree.proofs.OneTree.{kind_within}
use Rattle.rf_tree.specs.Told as node
use Rattle.rf_tree.proofs.Steps.{Makes-dot, stands_kept, kept_unfolds, stands_push, goes_unless}
use Rattle.rf_tree.proofs.parser.Parser.add_dot.Goals as goal

pub returns-clause-goes_on : goal.returns-clause-goes_on
returns-clause-goes_on c =
    λ ts frames here stands is.
    let p = c.args.self.now in
    let q = c.keep.new.self in
    let n = c.args.number in
    let k = c.in_ok-at.ensures in
    let makes = Makes-dot ts p.nodes n is.0 (kind_within ts n Dot is.0) in
    goes_unless ts _ n (dot_may_stand ts frames here) (Goes frames (push here (Point n)))
    (sym (c.takes_dot.ensures ts frames here stands) ∙ c.if-not-takes_dot.false)
    (stands_push ts q _ frames here c.in_ok-at.at (Point n)
    (stands_kept ts p q frames here (node.Leaf n) (Point n) stands k.1 makes)
    (kept_unfolds ts p q (node.Leaf n) (Point n) c.in_ok-at.at k.1 makes k.0) c.in_ok-add_dot.ensures refl refl)
