-- The first of the nodes at the top is one of the tree.
use Rattle.std.proofs.Common.{◌≡◌, List, ◌∷◌, sym, ◌∙◌, subst}
use Rattle.rf_base_grammar.specs.Token.{Token}
use Rattle.rf_base_tree.specs.Trees.{Tree, Forest, Empty, Then}
use Rattle.rf_tree.specs.Nodes.{UnfoldsTo, UnfoldTo}
use Rattle.rf_tree.specs.declared.nodes.At.{At}
use Rattle.rf_tree.specs.Told.{Node}
use Rattle.rf_lines_tests.proofs.laying.first_node_line.Goals as goal

first_of : (ts : List Token) (nodes : List Node) (at : At) (rest : List At) (f : Forest) → UnfoldTo ts nodes (at ∷ rest) f → (t : Tree) × UnfoldsTo ts nodes at.0 t
unfolding UnfoldTo
first_of ts nodes at rest Empty h = absurd h
first_of ts nodes at rest (Then t f) h = (t, h.0)

pub placed_line-requires-clause-node : goal.placed_line-requires-clause-node
placed_line-requires-clause-node c =
    let tree = c.args.tree.now in
    let ts = c.requires.tree.0 in
    let trees = c.requires.tree.1 in
    let holds = c.requires.tree.2 in
    let at = c.in-Some.at.now in
    let rest = c.in-Some.field-0-1.now in
    let cut : tree.tops.items ≡ at ∷ rest = sym c.deref.ensures.value ∙ c.in-Some.ensures.cases.0 in
    let first = first_of ts tree.nodes at rest trees (subst (λ (ats : List At). UnfoldTo ts tree.nodes ats trees) cut holds.stand_for) in
    (ts, trees, first.0, holds, first.1)
