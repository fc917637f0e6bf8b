-- Both sides' frontiers, marked, are pruned to the choice's.
use Rattle.std.proofs.Common.{arith}
use Rattle.rf_resolve.proofs.Parts.{part_asked, at_frontier, at_values, at_short}
use Rattle.rf_resolve.proofs.Needs.{part_needed, few_steps_of_two}
use Rattle.rf_resolve.proofs.Branches.{at_part, choice_at}
use Rattle.rf_resolve.proofs.answering.choice.Goals as goal

pub through-first-requires : goal.through-first-requires
through-first-requires g c =
    (part_asked _ _ c.args.key c.at.result _ c.args.a c.args.key.indentation c.requires.asked c.requires.node (omega arith) c.requires.asked.indentation c.at.ensures).0

pub returns-in_default-clause-answer : goal.returns-in_default-clause-answer
returns-in_default-clause-answer g c =
    part_needed _ _ c.args.memo.now c.args.key c.at.result c.through-first.result _ c.args.a c.args.key.indentation c.requires.asked c.requires.node (omega arith)
    c.requires.asked.indentation c.at.ensures c.through-first.ensures.asked c.through-first.ensures.earlier (c.known.ensures.missing c.in_default.is)

pub through-second-requires : goal.through-second-requires
through-second-requires g c =
    (part_asked _ _ c.args.key c.at-2.result _ c.args.b c.args.key.indentation c.requires.asked c.requires.node (omega arith) c.requires.asked.indentation c.at-2.ensures).0

pub returns-in_default-known-clause-answer : goal.returns-in_default-known-clause-answer
returns-in_default-known-clause-answer g c =
    part_needed _ _ c.args.memo.now c.args.key c.at-2.result c.through-second.result _ c.args.b c.args.key.indentation c.requires.asked c.requires.node (omega arith)
    c.requires.asked.indentation c.at-2.ensures c.through-second.ensures.asked c.through-second.ensures.earlier (c.known-2.ensures.missing c.in_default-known.is)

pub either-requires-clause-first : goal.either-requires-clause-first
either-requires-clause-first g c =
    at_frontier _ (g.met.F.Factory.lawful c.args.setting.now.factory.now) _ _ c.args.hows.now c.through-first.result c.in-Some.left.now c.args.setting.now.narrow c.through-first.ensures.asked
    c.in-Some.ensures.frontier

pub either-requires-clause-first_values : goal.either-requires-clause-first_values
either-requires-clause-first_values g c =
    at_values _ (g.met.F.Factory.lawful c.args.setting.now.factory.now) _ _ c.args.hows.now c.through-first.result c.in-Some.left.now c.args.setting.now.narrow c.through-first.ensures.asked
    c.in-Some.ensures.frontier

pub either-requires-clause-second : goal.either-requires-clause-second
either-requires-clause-second g c =
    at_frontier _ (g.met.F.Factory.lawful c.args.setting.now.factory.now) _ _ c.args.hows.now c.through-second.result c.in-Some-known.right.now c.args.setting.now.narrow c.through-second.ensures.asked
    c.in-Some-known.ensures.frontier

pub either-requires-clause-second_values : goal.either-requires-clause-second_values
either-requires-clause-second_values g c =
    at_values _ (g.met.F.Factory.lawful c.args.setting.now.factory.now) _ _ c.args.hows.now c.through-second.result c.in-Some-known.right.now c.args.setting.now.narrow c.through-second.ensures.asked
    c.in-Some-known.ensures.frontier

pub returns-in_err-both-clause-steps : goal.returns-in_err-both-clause-steps
returns-in_err-both-clause-steps g c =
    few_steps_of_two c.args.setting.now.limit _ _ c.args.steps.now c.either.new.steps
    (at_short _ (g.met.F.Factory.lawful c.args.setting.now.factory.now) _ _ c.args.hows.now c.through-first.result c.in-Some.left.now c.args.setting.now.narrow c.through-first.ensures.asked
    c.in-Some.ensures.frontier)
    (at_short _ (g.met.F.Factory.lawful c.args.setting.now.factory.now) _ _ c.args.hows.now c.through-second.result c.in-Some-known.right.now c.args.setting.now.narrow c.through-second.ensures.asked
    c.in-Some-known.ensures.frontier)
    c.either.ensures.steps

pub returns-clause-steps : goal.returns-clause-steps
returns-clause-steps g c =
    few_steps_of_two c.args.setting.now.limit _ _ c.args.steps.now c.either.new.steps
    (at_short _ (g.met.F.Factory.lawful c.args.setting.now.factory.now) _ _ c.args.hows.now c.through-first.result c.in-Some.left.now c.args.setting.now.narrow c.through-first.ensures.asked
    c.in-Some.ensures.frontier)
    (at_short _ (g.met.F.Factory.lawful c.args.setting.now.factory.now) _ _ c.args.hows.now c.through-second.result c.in-Some-known.right.now c.args.setting.now.narrow c.through-second.ensures.asked
    c.in-Some-known.ensures.frontier)
    c.either.ensures.steps

pub returns-clause-answer : goal.returns-clause-answer
returns-clause-answer g c =
    choice_at _ _ _ c.args.hows.now _ c.args.key c.args.a c.args.b c.in-Some.left.now c.in-Some-known.right.now _ c.requires.asked.graph c.requires.node
    (at_part _ _ _ c.args.hows.now c.args.key c.through-first.result c.at.result c.args.a c.in-Some.left.now c.at.ensures c.through-first.ensures.same
    c.in-Some.ensures.frontier)
    (at_part _ _ _ c.args.hows.now c.args.key c.through-second.result c.at-2.result c.args.b c.in-Some-known.right.now c.at-2.ensures c.through-second.ensures.same
    c.in-Some-known.ensures.frontier)
    c.in_ok-both.ensures.chosen c.in_ok-both.ensures.belongs
