-- What stays of both lists is made.
use Rattle.std.proofs.Common.{◌≡◌, ◌≤◌, ◌+◌, length, ◌∙◌, ap, arith}
use Rattle.std.proofs.lemmas.Result.{IfOk-weaker}
use Rattle.rf_base_document.specs.declared.directions.Dir.TheVariants.{Left, Right}
use Rattle.rf_frontier.specs.declared.before.Before.TheVariants.{Choice}
use Rattle.rf_frontier.proofs.Marks.{same_behind, marks_are, behind_is_frontier, behind_belongs, behind_shorter}
use Rattle.rf_frontier.proofs.choosing.either.Goals as goal

pub make-requires : goal.make-requires
make-requires g c =
    let costs = g.F.Factory.costs c.args.factory.now in
    behind_belongs costs c.args.hows.now (Choice Left) (Choice Right) c.args.a.now c.args.b.now c.in_ok-merged.merged
    (c.in_ok-merged.ensures.merged ∙ same_behind costs (Choice Left) (Choice Right) c.args.a.now c.measures.result.now c.args.b.now c.measures-2.result.now c.measures.ensures c.measures-2.ensures)
    tt tt c.requires.first_belongs c.requires.second_belongs

pub returns : goal.returns
returns g c =
    let costs = g.F.Factory.costs c.args.factory.now in
    let laws = g.met.F.Factory.lawful c.args.factory.now in
    let is =
    c.in_ok-merged.ensures.merged ∙ same_behind costs (Choice Left) (Choice Right) c.args.a.now c.measures.result.now c.args.b.now c.measures-2.result.now c.measures.ensures c.measures-2.ensures in
    let whole = behind_is_frontier costs laws (Choice Left) (Choice Right) c.args.a.now c.args.b.now c.in_ok-merged.merged is c.requires.first_values c.requires.second_values in
    let fewer : length c.in_ok-merged.merged ≤ length c.args.a.now + length c.args.b.now =
    behind_shorter costs (Choice Left) (Choice Right) c.args.a.now c.args.b.now c.in_ok-merged.merged is in
    let first : length c.measures.result.now ≡ length c.args.a.now = ap length c.measures.ensures in
    let second : length c.measures-2.result.now ≡ length c.args.b.now = ap length c.measures-2.ensures in
    record {
      chosen = IfOk-weaker c.make.result _ _ (λ f e. e ∙ marks_are costs c.args.hows.now Left Right c.args.a.now c.args.b.now c.in_ok-merged.merged is) c.make.ensures.chosen;
      ordered = IfOk-weaker c.make.result _ _ (λ f e. e costs whole.0) c.make.ensures.ordered;
      values = IfOk-weaker c.make.result _ _ (λ f e. e costs whole.1) c.make.ensures.values;
      belongs = c.make.ensures.belongs;
      older = c.make.ensures.older;
      few_more = omega (arith, c.make.ensures.few_more);
      steps = (omega (arith, c.merge_views.ensures.steps), omega (arith, c.merge_views.ensures.steps));
    }
