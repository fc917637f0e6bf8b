-- What is known of a node, by its kind, holds of its tree.
use Rattle.std.proofs.lemmas.Result.{IfOk-weaker}
use Rattle.rf_base_document.specs.Graph.{unfolded}
use Rattle.rf_outline.proofs.Holds.{known_is_in, nested, without, at_node, part_holds}
use Rattle.rf_outline.proofs.outlining.outline_node.Goals as goal

pub concat-requires-clause-first : goal.concat-requires-clause-first
concat-requires-clause-first c = known_is_in c.args.hows.now (unfolded c.args.graph.now c.in-Concat.a.0) c.part.result (part_holds c.args.hows.now c.args.graph.now c.args.list.now c.in-Concat.a.0 c.part.result c.requires.known c.part.ensures)

pub concat-requires-clause-second : goal.concat-requires-clause-second
concat-requires-clause-second c = known_is_in c.args.hows.now (unfolded c.args.graph.now c.in-Concat.b.0) c.part-in-Concat.result (part_holds c.args.hows.now c.args.graph.now c.args.list.now c.in-Concat.b.0 c.part-in-Concat.result c.requires.known c.part-in-Concat.ensures)

pub returns-in-Concat-clause-known : goal.returns-in-Concat-clause-known
returns-in-Concat-clause-known c =
    IfOk-weaker c.concat.result _ _
    (λ known h. at_node _ c.args.graph.now c.args.n.0 _ known c.in-Concat.ensures.is_graph c.in-Concat.ensures.told
    (h (unfolded c.args.graph.now c.in-Concat.a.0) (unfolded c.args.graph.now c.in-Concat.b.0) (part_holds c.args.hows.now c.args.graph.now c.args.list.now c.in-Concat.a.0 c.part.result c.requires.known c.part.ensures) (part_holds c.args.hows.now c.args.graph.now c.args.list.now c.in-Concat.b.0 c.part-in-Concat.result c.requires.known c.part-in-Concat.ensures)))
    c.concat.ensures.known

pub choice-requires-clause-first : goal.choice-requires-clause-first
choice-requires-clause-first c = known_is_in c.args.hows.now (unfolded c.args.graph.now c.in-Choice.a.0) c.part-in-Choice.result (part_holds c.args.hows.now c.args.graph.now c.args.list.now c.in-Choice.a.0 c.part-in-Choice.result c.requires.known c.part-in-Choice.ensures)

pub choice-requires-clause-second : goal.choice-requires-clause-second
choice-requires-clause-second c = known_is_in c.args.hows.now (unfolded c.args.graph.now c.in-Choice.b.0) c.part-in-Choice-2.result (part_holds c.args.hows.now c.args.graph.now c.args.list.now c.in-Choice.b.0 c.part-in-Choice-2.result c.requires.known c.part-in-Choice-2.ensures)

pub returns-in-Choice-clause-known : goal.returns-in-Choice-clause-known
returns-in-Choice-clause-known c =
    IfOk-weaker c.choice.result _ _
    (λ known h. at_node _ c.args.graph.now c.args.n.0 _ known c.in-Choice.ensures.is_graph c.in-Choice.ensures.told
    (h (unfolded c.args.graph.now c.in-Choice.a.0) (unfolded c.args.graph.now c.in-Choice.b.0) (part_holds c.args.hows.now c.args.graph.now c.args.list.now c.in-Choice.a.0 c.part-in-Choice.result c.requires.known c.part-in-Choice.ensures) (part_holds c.args.hows.now c.args.graph.now c.args.list.now c.in-Choice.b.0 c.part-in-Choice-2.result c.requires.known c.part-in-Choice-2.ensures)))
    c.choice.ensures.known

pub returns-in-Text-clause-known : goal.returns-in-Text-clause-known
returns-in-Text-clause-known c =
    at_node c.args.hows.now c.args.graph.now c.args.n.0 _ c.text.result c.in-Text.ensures.is_graph c.in-Text.ensures.told
    (c.text.ensures _)

pub returns-in-Newline-clause-known : goal.returns-in-Newline-clause-known
returns-in-Newline-clause-known c =
    at_node c.args.hows.now c.args.graph.now c.args.n.0 _ c.newline.result c.in-Newline.ensures.is_graph c.in-Newline.ensures.told
    (c.newline.ensures)

pub returns-in-Hard-clause-known : goal.returns-in-Hard-clause-known
returns-in-Hard-clause-known c =
    at_node c.args.hows.now c.args.graph.now c.args.n.0 _ c.hard.result c.in-Hard.ensures.is_graph c.in-Hard.ensures.told
    (c.hard.ensures c.args.hows.now)

pub returns-in-Nest-clause-known : goal.returns-in-Nest-clause-known
returns-in-Nest-clause-known c =
    at_node c.args.hows.now c.args.graph.now c.args.n.0 _ c.part-in-Nest.result c.in-Nest.ensures.is_graph c.in-Nest.ensures.told
    (nested c.args.hows.now c.in-Nest.field-0 c.part-in-Nest.result (unfolded c.args.graph.now c.in-Nest.a.0) (part_holds c.args.hows.now c.args.graph.now c.args.list.now c.in-Nest.a.0 c.part-in-Nest.result c.requires.known c.part-in-Nest.ensures))

pub returns-in-Reset-clause-known : goal.returns-in-Reset-clause-known
returns-in-Reset-clause-known c =
    at_node c.args.hows.now c.args.graph.now c.args.n.0 _ c.part-in-Reset.result c.in-Reset.ensures.is_graph c.in-Reset.ensures.told
    (without c.args.hows.now c.part-in-Reset.result (unfolded c.args.graph.now c.in-Reset.a.0) (part_holds c.args.hows.now c.args.graph.now c.args.list.now c.in-Reset.a.0 c.part-in-Reset.result c.requires.known c.part-in-Reset.ensures))

pub returns-in-Align-clause-known : goal.returns-in-Align-clause-known
returns-in-Align-clause-known c =
    at_node c.args.hows.now c.args.graph.now c.args.n.0 _ c.aligned.result c.in-Align.ensures.is_graph c.in-Align.ensures.told
    (c.aligned.ensures c.args.hows.now (unfolded c.args.graph.now c.in-Align.a.0) (part_holds c.args.hows.now c.args.graph.now c.args.list.now c.in-Align.a.0 c.part-in-Align.result c.requires.known c.part-in-Align.ensures))

pub returns-in-Flatten-clause-known : goal.returns-in-Flatten-clause-known
returns-in-Flatten-clause-known c =
    at_node c.args.hows.now c.args.graph.now c.args.n.0 _ c.flattened.result c.in-Flatten.ensures.is_graph c.in-Flatten.ensures.told
    (c.flattened.ensures c.args.hows.now (unfolded c.args.graph.now c.in-Flatten.a.0) (part_holds c.args.hows.now c.args.graph.now c.args.list.now c.in-Flatten.a.0 c.part-in-Flatten.result c.requires.known c.part-in-Flatten.ensures))

pub returns-in-Charge-clause-known : goal.returns-in-Charge-clause-known
returns-in-Charge-clause-known c =
    at_node c.args.hows.now c.args.graph.now c.args.n.0 _ c.charged.result c.in-Charge.ensures.is_graph c.in-Charge.ensures.told
    (c.charged.ensures c.args.hows.now (unfolded c.args.graph.now c.in-Charge.a.0) (part_holds c.args.hows.now c.args.graph.now c.args.list.now c.in-Charge.a.0 c.part-in-Charge.result c.requires.known c.part-in-Charge.ensures))
