-- A prefix and its datum become one node.
use Rattle.std.proofs.Common.{List, ◌++◌, ◌∷◌, [], length, ap, ◌∙◌}
use Rattle.rf_tree.specs.Told.{Node}
use Rattle.rf_tree.specs.Told as node
use Rattle.rf_tree.proofs.parser.Parser.wrap.Goals as goal

pub returns : goal.returns
returns c =
    let l = c.leave-nodes.ensures.left in
    let h = c.in_ok-at.ensures in
    let lead = c.as_slice.result.now in
    let added = node.Prefixed c.args.prefix.item lead c.args.inner in (
      h.0 ∙ ap (λ (xs : List Node). length xs) l.nodes,
      record {
        lead = lead;
        lead_is = c.as_slice.ensures.value ∙ c.leave-nodes.ensures.nodes;
        nodes = h.1.nodes ∙ ap (λ (xs : List Node). xs ++ added ∷ []) l.nodes;
        here = h.1.here ∙ l.here;
        begun = h.1.begun ∙ l.begun;
      },
    )
