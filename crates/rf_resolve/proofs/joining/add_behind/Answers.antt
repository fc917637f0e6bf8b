-- What is given at the key is its frontier.
use Rattle.std.proofs.Common.{◌≤◌, ◌+◌, ◌++◌, [], ◌∷◌, List, length, Some, refl, sym, ◌∙◌, ap, arith}
use Rattle.std.proofs.lemmas.Result.{IfOk-weaker}
use Rattle.std.specs.Option.{option_copied}
use Rattle.rf_base_document.specs.declared.directions.Dir.{Dir}
use Rattle.rf_base_cost.specs.declared.measures.Measure.{Measure}
use Rattle.rf_base_cost.specs.Pareto.{pareto, all_shifted}
use Rattle.rf_frontier.specs.Frontiers.{chosen}
use Rattle.rf_frontier.specs.Plans.{all_planned}
use Rattle.rf_resolve.proofs.Parts.{held_at, at_frontier, at_values, at_short}
use Rattle.rf_resolve.proofs.Leaves.{leaf_is}
use Rattle.rf_resolve.proofs.Joins.{rest_values}
use Rattle.rf_resolve.proofs.Joined.{nothing_joined}
use Rattle.rf_resolve.proofs.joining.add_behind.Goals as goal

pub add_one-requires-clause-right_value : goal.add_one-requires-clause-right_value
add_one-requires-clause-right_value g c =
    (rest_values (g.F.Factory.costs c.args.setting.now.factory.now) (c.in-Some-alone.right ∷ []) [] c.in-Some-alone.right refl
    (at_values _ (g.met.F.Factory.lawful c.args.setting.now.factory.now) _ _ c.args.hows.now c.args.key (c.in-Some-alone.right ∷ []) c.args.setting.now.narrow c.requires.asked
    (leaf_is _ _ _ c.args.hows.now c.args.key (Some c.in-Some-alone.right) (c.in-Some-alone.right ∷ []) refl (rw c.in-Some-alone.is at c.in-Some.ensures.measure)))).0

pub returns-in-None-alone-clause-chosen : goal.returns-in-None-alone-clause-chosen
returns-in-None-alone-clause-chosen g c =
    nothing_joined (g.F.Factory.costs c.args.setting.now.factory.now) (g.met.F.Factory.lawful c.args.setting.now.factory.now) c.args.hows.now c.args.m.now _ c.args.joined
    (rw c.in-None-alone.is at c.in-Some.ensures.measure) c.requires.joined_ordered c.requires.joined_values

pub add-requires-clause-right_ordered : goal.add-requires-clause-right_ordered
add-requires-clause-right_ordered g c =
    at_frontier _ (g.met.F.Factory.lawful c.args.setting.now.factory.now) _ _ c.args.hows.now c.args.key c.in-Some-get.right.now c.args.setting.now.narrow c.requires.asked
    (held_at _ _ _ c.args.hows.now c.args.memo.now c.args.key c.in-Some-get.right.now c.requires.holds (sym c.get.ensures ∙ ap option_copied c.in-Some-get.is))

pub add-requires-clause-right_values : goal.add-requires-clause-right_values
add-requires-clause-right_values g c =
    at_values _ (g.met.F.Factory.lawful c.args.setting.now.factory.now) _ _ c.args.hows.now c.args.key c.in-Some-get.right.now c.args.setting.now.narrow c.requires.asked
    (held_at _ _ _ c.args.hows.now c.args.memo.now c.args.key c.in-Some-get.right.now c.requires.holds (sym c.get.ensures ∙ ap option_copied c.in-Some-get.is))

pub returns-in-Some-get-clause-chosen : goal.returns-in-Some-get-clause-chosen
returns-in-Some-get-clause-chosen g c =
    let held = held_at _ _ _ c.args.hows.now c.args.memo.now c.args.key c.in-Some-get.right.now c.requires.holds (sym c.get.ensures ∙ ap option_copied c.in-Some-get.is) in
    IfOk-weaker c.add.result _ _
    (λ after added. added c.args.hows.now
    ∙ ap (λ (x : List (Measure _ (List Dir))). pareto (g.F.Factory.costs c.args.setting.now.factory.now)
    (all_planned c.args.hows.now c.args.joined ++ all_shifted (g.F.Factory.costs c.args.setting.now.factory.now) (chosen c.args.hows.now c.args.m.now) x)) held.measures)
    c.add.ensures.chosen

pub returns-in-Some-get-clause-plans : goal.returns-in-Some-get-clause-plans
returns-in-Some-get-clause-plans g c =
    let held = held_at (g.F.Factory.costs c.args.setting.now.factory.now) _ _ c.args.hows.now c.args.memo.now c.args.key c.in-Some-get.right.now c.requires.holds (sym c.get.ensures ∙ ap option_copied c.in-Some-get.is) in
    IfOk-weaker c.add.result _ _ (λ after belongs. belongs c.args.hows.now c.requires.plans c.requires.belongs held.belong) c.add.ensures.belongs

pub returns-in-Some-get-clause-steps : goal.returns-in-Some-get-clause-steps
returns-in-Some-get-clause-steps g c =
    let held = held_at (g.F.Factory.costs c.args.setting.now.factory.now) _ _ c.args.hows.now c.args.memo.now c.args.key c.in-Some-get.right.now c.requires.holds (sym c.get.ensures ∙ ap option_copied c.in-Some-get.is) in
    let short : length c.in-Some-get.right.now ≤ c.args.setting.now.limit + 1 =
    at_short _ (g.met.F.Factory.lawful c.args.setting.now.factory.now) _ _ c.args.hows.now c.args.key c.in-Some-get.right.now c.args.setting.now.narrow c.requires.asked held in
    (omega (arith, c.add.ensures.steps.0), omega (arith, c.add.ensures.steps.1, short))
