-- A turn over a node, by the node's kind.
use Rattle.std.proofs.Common.{inl, inr}
use Rattle.std.proofs.lemmas.Result.{IfOk-weaker}
use Rattle.rf_flat.proofs.CoreNodes.{told_as}
use Rattle.rf_flat.proofs.Taking.{AreNodes-last, leaf_took, text_takes, newline_takes, nest_took, align_took, reset_took, charge_took, concat_took, empty_list, choice_stopped, choice_took, only_stopped, only_took}
use Rattle.rf_flat.proofs.fitting.turn.Goals as goal

pub node-requires : goal.node-requires
node-requires c = AreNodes-last _ c.args.stack.now.items c.args.n c.requires

pub returns-in_default : goal.returns-in_default
returns-in_default c =
    choice_stopped _ c.args.stack.now.items c.args.n c.in-Choice.a c.in-Choice.b c.args.choices.now c.node.ensures.is_graph
    (told_as _ c.args.n _ _ c.in-Choice.is c.node.ensures.told) (empty_list c.args.choices.now c.in_default.ensures.cases)

pub returns-in_default-after : goal.returns-in_default-after
returns-in_default-after c =
    only_stopped _ c.args.stack.now.items c.args.n c.in-Only.a c.args.choices.now c.in-Only.dir c.node.ensures.is_graph
    (told_as _ c.args.n _ _ c.in-Only.is c.node.ensures.told) c.in_default-after.ensures

pub returns-in-Text : goal.returns-in-Text
returns-in-Text c = leaf_took _ c.args.stack.now.items c.args.n c.args.choices.now c.requires
    (elim c.in-Text.is [
      | inl h ↦ text_takes _ c.args.n h.1 _ c.args.choices.now c.node.ensures.is_graph (told_as _ c.args.n _ _ h.2 c.node.ensures.told)
      | inr h ↦ newline_takes _ c.args.n c.args.choices.now c.node.ensures.is_graph (told_as _ c.args.n _ _ h c.node.ensures.told)
    ])

pub returns-in_ok-push-in-Concat-2 : goal.returns-in_ok-push-in-Concat-2
returns-in_ok-push-in-Concat-2 c =
    concat_took _ c.args.stack.now.items _ _ c.args.n c.in-Concat.a c.in-Concat.b c.args.choices.now c.node.ensures.is_graph
    (told_as _ c.args.n _ _ c.in-Concat.is c.node.ensures.told) c.requires c.in_ok-push-in-Concat.ensures.items c.in_ok-push-in-Concat-2.ensures.items

pub returns-in_ok-push-in-Choice : goal.returns-in_ok-push-in-Choice
returns-in_ok-push-in-Choice c =
    choice_took _ c.args.stack.now.items _ c.args.n c.in-Choice.a c.in-Choice.b c.side.result c.args.choices.now c.in-Some.rest.now c.in-Some.dir.now
    c.node.ensures.is_graph (told_as _ c.args.n _ _ c.in-Choice.is c.node.ensures.told) c.requires c.in-Some.ensures.cases.0 c.side.ensures c.in_ok-push-in-Choice.ensures.items

pub returns-in_ok-push-in-Only : goal.returns-in_ok-push-in-Only
returns-in_ok-push-in-Only c =
    only_took _ c.args.stack.now.items _ c.args.n c.in-Only.a c.args.choices.now c.in-Some-after.rest.now c.in-Only.dir
    c.node.ensures.is_graph (told_as _ c.args.n _ _ c.in-Only.is c.node.ensures.told) c.requires c.in-Some-after.ensures c.in_ok-push-in-Only.ensures.items

pub returns-in-Nest : goal.returns-in-Nest
returns-in-Nest c =
    IfOk-weaker c.under.result _ _
    (λ left went. nest_took _ c.args.stack.now.items _ c.args.n c.in-Nest.field-0 c.in-Nest.a c.args.choices.now _ c.node.ensures.is_graph
    (told_as _ c.args.n _ _ c.in-Nest.is c.node.ensures.told) c.requires went.0 went.1)
    c.under.ensures

pub returns-in-Align : goal.returns-in-Align
returns-in-Align c =
    IfOk-weaker c.under-in-Align.result _ _
    (λ left went. align_took _ c.args.stack.now.items _ c.args.n c.in-Align.a c.args.choices.now _ c.node.ensures.is_graph
    (told_as _ c.args.n _ _ c.in-Align.is c.node.ensures.told) c.requires went.0 went.1)
    c.under-in-Align.ensures

pub returns-in-Reset : goal.returns-in-Reset
returns-in-Reset c =
    IfOk-weaker c.under-in-Reset.result _ _
    (λ left went. reset_took _ c.args.stack.now.items _ c.args.n c.in-Reset.a c.args.choices.now _ c.node.ensures.is_graph
    (told_as _ c.args.n _ _ c.in-Reset.is c.node.ensures.told) c.requires went.0 went.1)
    c.under-in-Reset.ensures

pub returns-in-Charge : goal.returns-in-Charge
returns-in-Charge c =
    IfOk-weaker c.under-in-Charge.result _ _
    (λ left went. charge_took _ c.args.stack.now.items _ c.args.n c.in-Charge.field-0 c.in-Charge.a c.args.choices.now _ c.node.ensures.is_graph
    (told_as _ c.args.n _ _ c.in-Charge.is c.node.ensures.told) c.requires went.0 went.1)
    c.under-in-Charge.ensures
