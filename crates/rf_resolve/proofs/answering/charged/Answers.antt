-- The part's frontier, for the charge, is the charge's.
use Rattle.std.proofs.Common.{arith}
use Rattle.rf_resolve.proofs.Parts.{part_asked, at_frontier, at_values, at_short}
use Rattle.rf_resolve.proofs.Needs.{part_needed, few_steps}
use Rattle.rf_resolve.proofs.Branches.{at_part, charge_at, charge_limit}
use Rattle.rf_resolve.proofs.answering.charged.Goals as goal

pub through-part-requires : goal.through-part-requires
through-part-requires g c =
    (part_asked _ _ c.args.key c.at.result _ c.args.a c.args.key.indentation c.requires.asked c.requires.node (omega arith) c.requires.asked.indentation c.at.ensures).0

pub returns-in_default-clause-answer : goal.returns-in_default-clause-answer
returns-in_default-clause-answer g c =
    part_needed _ _ c.args.memo.now c.args.key c.at.result c.through-part.result _ c.args.a c.args.key.indentation c.requires.asked c.requires.node (omega arith)
    c.requires.asked.indentation c.at.ensures c.through-part.ensures.asked c.through-part.ensures.earlier (c.known.ensures.missing c.in_default.is)

pub charge-requires-clause-charge : goal.charge-requires-clause-charge
charge-requires-clause-charge g c = charge_limit _ c.args.key.node c.args.k c.args.a c.requires.asked.graph c.requires.node

pub charge-requires-clause-ordered : goal.charge-requires-clause-ordered
charge-requires-clause-ordered g c =
    at_frontier _ (g.met.F.Factory.lawful c.args.setting.now.factory.now) _ _ c.args.hows.now c.through-part.result c.in-Some.found.now c.args.setting.now.narrow c.through-part.ensures.asked
    c.in-Some.ensures.frontier

pub charge-requires-clause-values : goal.charge-requires-clause-values
charge-requires-clause-values g c =
    at_values _ (g.met.F.Factory.lawful c.args.setting.now.factory.now) _ _ c.args.hows.now c.through-part.result c.in-Some.found.now c.args.setting.now.narrow c.through-part.ensures.asked
    c.in-Some.ensures.frontier

pub returns-in_err-raised-clause-steps : goal.returns-in_err-raised-clause-steps
returns-in_err-raised-clause-steps g c =
    few_steps c.args.setting.now.limit _ c.args.steps.now c.charge.new.steps
    (at_short _ (g.met.F.Factory.lawful c.args.setting.now.factory.now) _ _ c.args.hows.now c.through-part.result c.in-Some.found.now c.args.setting.now.narrow c.through-part.ensures.asked
    c.in-Some.ensures.frontier)
    c.charge.ensures.steps

pub returns-clause-steps : goal.returns-clause-steps
returns-clause-steps g c =
    few_steps c.args.setting.now.limit _ c.args.steps.now c.charge.new.steps
    (at_short _ (g.met.F.Factory.lawful c.args.setting.now.factory.now) _ _ c.args.hows.now c.through-part.result c.in-Some.found.now c.args.setting.now.narrow c.through-part.ensures.asked
    c.in-Some.ensures.frontier)
    c.charge.ensures.steps

pub returns-clause-answer : goal.returns-clause-answer
returns-clause-answer g c =
    charge_at _ _ _ c.args.hows.now c.args.key c.args.k c.args.a c.in-Some.found.now _ c.requires.asked.graph c.requires.node
    (at_part _ _ _ c.args.hows.now c.args.key c.through-part.result c.at.result c.args.a c.in-Some.found.now c.at.ensures c.through-part.ensures.same
    c.in-Some.ensures.frontier)
    (c.in_ok-raised.ensures.chosen c.args.hows.now) (c.in_ok-raised.ensures.belongs c.args.hows.now c.in-Some.ensures.frontier.belong)
