-- The left part's measures with the right part behind each are the concatenation's frontier.
use Rattle.std.proofs.Common.{◌≡◌, ◌<◌, ◌+◌, List, [], ◌∷◌, length, Some, None, refl, sym, ◌∙◌, ap, subst, arith}
use Rattle.std.proofs.lemmas.Result.{IfOk-weaker}
use Rattle.std.specs.Option.{option_copied}
use Rattle.rf_base_cost.specs.declared.measures.Measure.{Measure}
use Rattle.rf_base_cost.specs.Pareto.{EachIsValue}
use Rattle.rf_base_optimum.specs.Plain.{EachEndsBy}
use Rattle.rf_frontier.specs.declared.hows.HowId.{HowId}
use Rattle.rf_frontier.specs.Frontiers.{BelongTo, all_chosen}
use Rattle.rf_resolve.proofs.Parts.{part_asked, held_at, at_values, at_ends, at_short}
use Rattle.rf_resolve.proofs.Needs.{part_needed, earlier_needed, few_steps_each}
use Rattle.rf_resolve.proofs.Branches.{at_part}
use Rattle.rf_resolve.proofs.Joined.{concat_at}
use Rattle.rf_resolve.proofs.Leaves.{leaf_is}
use Rattle.rf_resolve.proofs.Alone.{alone_ends, alone_value, concat_alone, concat_none}
use Rattle.rf_resolve.proofs.joining.concatenation.Goals as goal

pub through-first-requires : goal.through-first-requires
through-first-requires g c =
    (part_asked _ _ c.args.key c.at.result _ c.args.a c.args.key.indentation c.requires.asked c.requires.node (omega arith) c.requires.asked.indentation c.at.ensures).0

pub returns-in_default-get-clause-answer : goal.returns-in_default-get-clause-answer
returns-in_default-get-clause-answer g c =
    part_needed _ _ c.args.memo.now c.args.key c.at.result c.through-first.result _ c.args.a c.args.key.indentation c.requires.asked c.requires.node (omega arith)
    c.requires.asked.indentation c.at.ensures c.through-first.ensures.asked c.through-first.ensures.earlier (sym c.get.ensures ∙ ap option_copied c.in_default-get.is)

pub missing_behind-requires-clause-asked : goal.missing_behind-requires-clause-asked
missing_behind-requires-clause-asked g c =
    (part_asked _ _ c.args.key c.at-part.result _ c.args.b c.args.key.indentation c.requires.asked c.requires.node (omega arith) c.requires.asked.indentation c.at-part.ensures).0

pub missing_behind-requires-clause-ends : goal.missing_behind-requires-clause-ends
missing_behind-requires-clause-ends g c =
    subst (λ (l : List (Measure _ HowId)). EachEndsBy c.args.setting.now.limit l) (sym c.measures-measures.ensures)
    (at_ends _ _ _ c.args.hows.now c.through-first.result c.in-Some-get.left.now
    (held_at _ _ _ c.args.hows.now c.args.memo.now c.through-first.result c.in-Some-get.left.now c.requires.holds (sym c.get.ensures ∙ ap option_copied c.in-Some-get.is)))

pub returns-in-Some-missing_behind-clause-answer : goal.returns-in-Some-missing_behind-clause-answer
returns-in-Some-missing_behind-clause-answer g c =
    earlier_needed _ _ c.args.memo.now c.in-Some-missing_behind.second (c.at-part.result.node + 1) c.args.key.node
    (let before : c.at-part.result.node < c.args.key.node =
    (part_asked _ _ c.args.key c.at-part.result _ c.args.b c.args.key.indentation c.requires.asked c.requires.node (omega arith) c.requires.asked.indentation c.at-part.ensures).1 in omega (arith, before))
    c.in-Some-missing_behind.ensures.needed

pub joined_measures-requires-clause-asked : goal.joined_measures-requires-clause-asked
joined_measures-requires-clause-asked g c =
    (part_asked _ _ c.args.key c.at-part.result _ c.args.b c.args.key.indentation c.requires.asked c.requires.node (omega arith) c.requires.asked.indentation c.at-part.ensures).0

pub joined_measures-requires-clause-ends : goal.joined_measures-requires-clause-ends
joined_measures-requires-clause-ends g c =
    subst (λ (l : List (Measure _ HowId)). EachEndsBy c.args.setting.now.limit l) (sym c.measures-measures.ensures)
    (at_ends _ _ _ c.args.hows.now c.through-first.result c.in-Some-get.left.now
    (held_at _ _ _ c.args.hows.now c.args.memo.now c.through-first.result c.in-Some-get.left.now c.requires.holds (sym c.get.ensures ∙ ap option_copied c.in-Some-get.is)))

pub joined_measures-requires-clause-values : goal.joined_measures-requires-clause-values
joined_measures-requires-clause-values g c =
    subst (λ (l : List (Measure _ HowId)). EachIsValue (g.F.Factory.costs c.args.setting.now.factory.now) l) (sym c.measures-measures.ensures)
    (at_values _ (g.met.F.Factory.lawful c.args.setting.now.factory.now) _ _ c.args.hows.now c.through-first.result c.in-Some-get.left.now c.args.setting.now.narrow c.through-first.ensures.asked
    (held_at _ _ _ c.args.hows.now c.args.memo.now c.through-first.result c.in-Some-get.left.now c.requires.holds (sym c.get.ensures ∙ ap option_copied c.in-Some-get.is)))

pub joined_measures-requires-clause-belong : goal.joined_measures-requires-clause-belong
joined_measures-requires-clause-belong g c =
    subst (λ (l : List (Measure _ HowId)). BelongTo c.args.hows.now l) (sym c.measures-measures.ensures)
    (held_at _ _ _ c.args.hows.now c.args.memo.now c.through-first.result c.in-Some-get.left.now c.requires.holds (sym c.get.ensures ∙ ap option_copied c.in-Some-get.is)).belong

pub returns-in_err-joined-clause-steps : goal.returns-in_err-joined-clause-steps
returns-in_err-joined-clause-steps g c =
    few_steps_each c.args.setting.now.limit _ c.args.steps.now c.joined_measures.new.steps
    (let short = at_short _ (g.met.F.Factory.lawful c.args.setting.now.factory.now) _ _ c.args.hows.now c.through-first.result c.in-Some-get.left.now c.args.setting.now.narrow c.through-first.ensures.asked
    (held_at _ _ _ c.args.hows.now c.args.memo.now c.through-first.result c.in-Some-get.left.now c.requires.holds (sym c.get.ensures ∙ ap option_copied c.in-Some-get.is)) in
    let same : length c.measures-measures.result.now ≡ length c.in-Some-get.left.now = ap length c.measures-measures.ensures in omega (arith, short, same))
    c.joined_measures.ensures.steps

pub returns-in_err-finish-clause-steps : goal.returns-in_err-finish-clause-steps
returns-in_err-finish-clause-steps g c =
    few_steps_each c.args.setting.now.limit _ c.args.steps.now c.joined_measures.new.steps
    (let short = at_short _ (g.met.F.Factory.lawful c.args.setting.now.factory.now) _ _ c.args.hows.now c.through-first.result c.in-Some-get.left.now c.args.setting.now.narrow c.through-first.ensures.asked
    (held_at _ _ _ c.args.hows.now c.args.memo.now c.through-first.result c.in-Some-get.left.now c.requires.holds (sym c.get.ensures ∙ ap option_copied c.in-Some-get.is)) in
    let same : length c.measures-measures.result.now ≡ length c.in-Some-get.left.now = ap length c.measures-measures.ensures in omega (arith, short, same))
    c.joined_measures.ensures.steps

pub returns-clause-steps : goal.returns-clause-steps
returns-clause-steps g c =
    few_steps_each c.args.setting.now.limit _ c.args.steps.now c.joined_measures.new.steps
    (let short = at_short _ (g.met.F.Factory.lawful c.args.setting.now.factory.now) _ _ c.args.hows.now c.through-first.result c.in-Some-get.left.now c.args.setting.now.narrow c.through-first.ensures.asked
    (held_at _ _ _ c.args.hows.now c.args.memo.now c.through-first.result c.in-Some-get.left.now c.requires.holds (sym c.get.ensures ∙ ap option_copied c.in-Some-get.is)) in
    let same : length c.measures-measures.result.now ≡ length c.in-Some-get.left.now = ap length c.measures-measures.ensures in omega (arith, short, same))
    c.joined_measures.ensures.steps

pub returns-clause-answer : goal.returns-clause-answer
returns-clause-answer g c =
    concat_at _ _ _ c.args.hows.now _ c.args.key c.at-part.result c.args.a c.args.b c.measures-measures.result.now _ c.in_ok-joined.joined c.requires.asked.graph c.requires.node c.at-part.ensures
    (ap (λ (l : List (Measure _ HowId)). all_chosen c.args.hows.now l) c.measures-measures.ensures
    ∙ at_part _ _ _ c.args.hows.now c.args.key c.through-first.result c.at.result c.args.a c.in-Some-get.left.now c.at.ensures c.through-first.ensures.same
    (held_at _ _ _ c.args.hows.now c.args.memo.now c.through-first.result c.in-Some-get.left.now c.requires.holds (sym c.get.ensures ∙ ap option_copied c.in-Some-get.is)))
    c.in_ok-joined.ensures.joined c.in_ok-finish.ensures.chosen c.in_ok-finish.ensures.belongs

pub behind_leaf-requires-clause-asked : goal.behind_leaf-requires-clause-asked
behind_leaf-requires-clause-asked g c =
    (part_asked _ _ c.args.key c.at-part.result _ c.args.b c.args.key.indentation c.requires.asked c.requires.node (omega arith) c.requires.asked.indentation c.at-part.ensures).0

pub behind_leaf-requires-clause-ends : goal.behind_leaf-requires-clause-ends
behind_leaf-requires-clause-ends g c =
    alone_ends (g.F.Factory.costs c.args.setting.now.factory.now) _ _ c.args.hows.now c.through-first.result c.in-Some-alone.m
    (leaf_is _ _ _ c.args.hows.now c.through-first.result (Some c.in-Some-alone.m) (c.in-Some-alone.m ∷ []) refl (rw c.in-Some-alone.is at c.in-Some.ensures.measure))

pub behind_leaf-requires-clause-value : goal.behind_leaf-requires-clause-value
behind_leaf-requires-clause-value g c =
    alone_value _ (g.met.F.Factory.lawful c.args.setting.now.factory.now) _ _ c.args.hows.now c.through-first.result c.in-Some-alone.m c.args.setting.now.narrow c.through-first.ensures.asked
    (leaf_is _ _ _ c.args.hows.now c.through-first.result (Some c.in-Some-alone.m) (c.in-Some-alone.m ∷ []) refl (rw c.in-Some-alone.is at c.in-Some.ensures.measure))

pub returns-in-Some-alone-clause-answer : goal.returns-in-Some-alone-clause-answer
returns-in-Some-alone-clause-answer g c =
    IfOk-weaker c.behind_leaf.result _ _
    (λ said joins. concat_alone _ _ _ c.args.hows.now _ c.args.memo.now c.args.key c.at-part.result c.args.a c.args.b c.in-Some-alone.m said c.requires.asked.graph c.requires.node c.at-part.ensures
    (at_part _ _ _ c.args.hows.now c.args.key c.through-first.result c.at.result c.args.a (c.in-Some-alone.m ∷ []) c.at.ensures c.through-first.ensures.same
    (leaf_is _ _ _ c.args.hows.now c.through-first.result (Some c.in-Some-alone.m) (c.in-Some-alone.m ∷ []) refl (rw c.in-Some-alone.is at c.in-Some.ensures.measure)))
    (part_asked _ _ c.args.key c.at-part.result _ c.args.b c.args.key.indentation c.requires.asked c.requires.node (omega arith) c.requires.asked.indentation c.at-part.ensures).1
    joins)
    c.behind_leaf.ensures.answer

pub returns-in-None-clause-answer : goal.returns-in-None-clause-answer
returns-in-None-clause-answer g c =
    concat_none _ (g.met.F.Factory.lawful c.args.setting.now.factory.now) _ _ c.args.hows.now c.args.key c.at-part.result c.args.a c.args.b c.none.result c.requires.asked.graph c.requires.node c.at-part.ensures
    (at_part _ _ _ c.args.hows.now c.args.key c.through-first.result c.at.result c.args.a [] c.at.ensures c.through-first.ensures.same
    (leaf_is _ _ _ c.args.hows.now c.through-first.result None [] refl (rw c.in-None.is at c.in-Some.ensures.measure)))
    c.none.ensures
