-- A node that only places a part has the part's frontier.
use Rattle.std.proofs.Common.{◌≤◌, ◌+◌, min, arith}
use Rattle.std.proofs.lemmas.Result.{IfOk-weaker}
use Rattle.rf_flat.proofs.CoreNodes.{told_as}
use Rattle.rf_resolve.proofs.Alike.{nest_limit, nest_same, align_same, reset_same}
use Rattle.rf_resolve.proofs.Leaves.{leaf_is}
use Rattle.rf_resolve.proofs.Parts.{part_asked}
use Rattle.rf_resolve.proofs.Needs.{said_of_part}
use Rattle.rf_resolve.proofs.answering.frontier_or_need.Goals as goal

pub nested-requires-clause-columns : goal.nested-requires-clause-columns
nested-requires-clause-columns g c =
    nest_limit _ c.args.key.node c.in-Nest.n c.in-Nest.a c.node.ensures.is_graph (told_as _ c.args.key.node _ _ c.in-Nest.is c.node.ensures.told)

pub returns-in-Nest-clause-answer : goal.returns-in-Nest-clause-answer
returns-in-Nest-clause-answer g c =
    IfOk-weaker c.passed.result _ _
    (λ said says. said_of_part _ _ _ c.args.hows.now c.args.memo.now c.args.key c.nested.result said
    (nest_same _ _ _ c.args.key c.nested.result c.in-Nest.n c.in-Nest.a c.node.ensures.is_graph (told_as _ c.args.key.node _ _ c.in-Nest.is c.node.ensures.told) c.nested.ensures)
    (part_asked _ _ c.args.key c.nested.result _ c.in-Nest.a _ c.requires.asked (told_as _ c.args.key.node _ _ c.in-Nest.is c.node.ensures.told) (omega arith) (let deep : min (c.args.key.indentation + c.in-Nest.n) (c.args.setting.now.limit + 1) ≤ c.args.setting.now.limit + 1 = omega arith in deep) c.nested.ensures).1
    says)
    c.passed.ensures

pub returns-in-Align-clause-answer : goal.returns-in-Align-clause-answer
returns-in-Align-clause-answer g c =
    IfOk-weaker c.passed-in-Align.result _ _
    (λ said says. said_of_part _ _ _ c.args.hows.now c.args.memo.now c.args.key c.at.result said
    (align_same _ _ _ c.args.key c.at.result c.in-Align.a c.node.ensures.is_graph (told_as _ c.args.key.node _ _ c.in-Align.is c.node.ensures.told) c.at.ensures)
    (part_asked _ _ c.args.key c.at.result _ c.in-Align.a _ c.requires.asked (told_as _ c.args.key.node _ _ c.in-Align.is c.node.ensures.told) (omega arith) (let deep : c.args.key.column ≤ c.args.setting.now.limit + 1 = omega (arith, c.requires.asked.column) in deep) c.at.ensures).1
    says)
    c.passed-in-Align.ensures

pub returns-in-Reset-clause-answer : goal.returns-in-Reset-clause-answer
returns-in-Reset-clause-answer g c =
    IfOk-weaker c.passed-in-Reset.result _ _
    (λ said says. said_of_part _ _ _ c.args.hows.now c.args.memo.now c.args.key c.at-in-Reset.result said
    (reset_same _ _ _ c.args.key c.at-in-Reset.result c.in-Reset.a c.node.ensures.is_graph (told_as _ c.args.key.node _ _ c.in-Reset.is c.node.ensures.told) c.at-in-Reset.ensures)
    (part_asked _ _ c.args.key c.at-in-Reset.result _ c.in-Reset.a _ c.requires.asked (told_as _ c.args.key.node _ _ c.in-Reset.is c.node.ensures.told) (omega arith) (let deep : 0 ≤ c.args.setting.now.limit + 1 = omega arith in deep) c.at-in-Reset.ensures).1
    says)
    c.passed-in-Reset.ensures

pub returns-in_ok-at_most_one-in-Text-clause-answer : goal.returns-in_ok-at_most_one-in-Text-clause-answer
returns-in_ok-at_most_one-in-Text-clause-answer g c = leaf_is _ _ _ c.args.hows.now c.args.key c.text.result _ c.in_ok-at_most_one-in-Text.ensures c.text.ensures

pub returns-in_ok-at_most_one-in-Newline-clause-answer : goal.returns-in_ok-at_most_one-in-Newline-clause-answer
returns-in_ok-at_most_one-in-Newline-clause-answer g c = leaf_is _ _ _ c.args.hows.now c.args.key c.newline.result _ c.in_ok-at_most_one-in-Newline.ensures c.newline.ensures
