-- A datum of one item.
use Rattle.std.proofs.Common.{refl, sym, ◌∙◌}
use Rattle.rf_base_tree.specs.Trees.{Leaf}
use Rattle.rf_base_tree.specs.Moves.{behind_datum, datum_may_stand}
use Rattle.rf_base_tree.proofs.OneTree.{kind_within}
use Rattle.rf_tree.proofs.Steps.{Makes-leaf, goes_unless}
use Rattle.rf_tree.proofs.parser.Parser.add_leaf.Goals as goal

pub returns-clause-goes_on : goal.returns-clause-goes_on
returns-clause-goes_on c =
    λ ts frames here stands is.
    let p = c.args.self.now in
    let n = c.args.number in
    goes_unless ts c.stand.new.self n (datum_may_stand frames here) (behind_datum frames here (Leaf n))
    (sym (c.takes_datum.ensures ts frames here stands) ∙ c.if-not-takes_datum.false)
    (c.in_ok-stand.ensures ts frames here (Leaf n) stands (Makes-leaf ts p.nodes n is.0 (kind_within ts n is.0.0 is.0.1)) refl)
