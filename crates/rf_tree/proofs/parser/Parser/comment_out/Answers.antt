-- A skip and its datum become one comment.
use Rattle.std.proofs.Common.{List, ◌++◌, ◌∷◌, [], length, ap, ◌∙◌, subst}
use Rattle.std.proofs.lemmas.Result.{on_ok_weaker}
use Rattle.rf_tree.specs.Levels.{Gains}
use Rattle.rf_tree.specs.declared.levels.Level.{Level}
use Rattle.rf_tree.specs.Told.{Node}
use Rattle.rf_tree.specs.Told as node
use Rattle.rf_tree.proofs.parser.Parser.comment_out.Goals as goal

pub returns : goal.returns
returns c =
    let l = c.leave-nodes.ensures.left in
    let k = c.in_ok-at.ensures in
    let lead = c.as_slice.result.now in
    let added = node.DatumComment c.args.skip.item lead c.args.inner in
    on_ok_weaker c.add_comment.result
    (λ gains. record {
      lead = lead;
      lead_is = c.as_slice.ensures.value ∙ c.leave-nodes.ensures.nodes;
      nodes = k.1.nodes ∙ ap (λ (xs : List Node). xs ++ added ∷ []) l.nodes;
      here = (
        c.in_ok-at.at,
        k.0 ∙ ap (λ (xs : List Node). length xs) l.nodes,
        subst (λ (old : Level). Gains c.in_ok-at.at [] old c.add_comment.new.self) (k.1.here ∙ l.here) gains,
      );
      begun = k.1.begun ∙ l.begun;
    })
    c.add_comment.ensures
