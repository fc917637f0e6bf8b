-- What is done is a core of the node's tree, by the node's kind.
use Rattle.std.proofs.Common.{true, refl, arith}
use Rattle.rf_base_document.specs.Document.{Nest, Align, Reset, Charge}
use Rattle.rf_base_document.specs.Simple.{simple}
use Rattle.rf_flat.specs.declared.cores.CoreNode.TheVariants.{Text}
use Rattle.rf_flat.proofs.Making.{at_node, limits_of, part_placed, none_made, older_made, no_older_made, nest_made, align_made, reset_made, charge_made, concat_is_made, choice_is_made, text_made, newline_is_made, hard_is_made}
use Rattle.rf_flat.proofs.simple_nodes.simple_node.Goals as goal

pub returns-in-Text : goal.returns-in-Text
unfolding simple
returns-in-Text c =
    at_node _ _ c.args.n.0 _ c.args.flat _ c.in-Text.ensures.is_graph c.in-Text.ensures.told
    (text_made _ (Text c.in-Text.s c.in-Text.len) _ c.in-Text.len refl (limits_of _ c.args.n.0 _ c.in-Text.ensures.is_graph c.in-Text.ensures.told))

pub returns-in-Newline : goal.returns-in-Newline
unfolding simple
returns-in-Newline c =
    at_node _ _ c.args.n.0 _ c.args.flat _ c.in-Newline.ensures.is_graph c.in-Newline.ensures.told
    (newline_is_made _ c.args.flat c.newline_node.result c.newline_node.ensures)

pub returns-in-Hard : goal.returns-in-Hard
unfolding simple
returns-in-Hard c =
    at_node _ _ c.args.n.0 _ c.args.flat _ c.in-Hard.ensures.is_graph c.in-Hard.ensures.told
    (hard_is_made _ c.args.flat c.hard_node.result c.hard_node.ensures)

pub returns-in-Concat : goal.returns-in-Concat
unfolding simple
returns-in-Concat c =
    at_node _ _ c.args.n.0 _ c.args.flat _ c.in-Concat.ensures.is_graph c.in-Concat.ensures.told
    (concat_is_made _ _ _ _ _ c.concat_node.result c.concat_node.ensures
    (part_placed _ _ c.args.places.now c.in-Concat.a.0 c.args.flat c.part.result c.requires.placed (omega (arith, c.in-Concat.ensures.parts_first)) c.part.ensures)
    (part_placed _ _ c.args.places.now c.in-Concat.b.0 c.args.flat c.part-in-Concat.result c.requires.placed (omega (arith, c.in-Concat.ensures.parts_first)) c.part-in-Concat.ensures))

pub returns-in-Some : goal.returns-in-Some
unfolding simple
returns-in-Some c =
    at_node _ _ c.args.n.0 _ c.args.flat _ c.in-Nest.ensures.is_graph c.in-Nest.ensures.told
    (nest_made _ c.in-Nest.n c.in-Some.a (limits_of _ c.args.n.0 _ c.in-Nest.ensures.is_graph c.in-Nest.ensures.told) _ c.part-in-Nest.result c.in-Some.is
    (part_placed _ _ c.args.places.now c.in-Nest.a.0 c.args.flat c.part-in-Nest.result c.requires.placed (omega (arith, c.in-Nest.ensures.parts_first)) c.part-in-Nest.ensures))

pub returns-in-None : goal.returns-in-None
unfolding simple
returns-in-None c =
    at_node _ _ c.args.n.0 _ c.args.flat _ c.in-Nest.ensures.is_graph c.in-Nest.ensures.told
    (none_made _ (Nest c.in-Nest.n) _ c.part-in-Nest.result c.in-None.is
    (part_placed _ _ c.args.places.now c.in-Nest.a.0 c.args.flat c.part-in-Nest.result c.requires.placed (omega (arith, c.in-Nest.ensures.parts_first)) c.part-in-Nest.ensures))

pub returns-in-Some-part : goal.returns-in-Some-part
unfolding simple
returns-in-Some-part c =
    at_node _ _ c.args.n.0 _ c.args.flat _ c.in-Align.ensures.is_graph c.in-Align.ensures.told
    (align_made _ c.in-Some-part.a _ c.part-in-Align.result c.in-Some-part.is
    (part_placed _ _ c.args.places.now c.in-Align.a.0 c.args.flat c.part-in-Align.result c.requires.placed (omega (arith, c.in-Align.ensures.parts_first)) c.part-in-Align.ensures))

pub returns-in-None-part : goal.returns-in-None-part
unfolding simple
returns-in-None-part c =
    at_node _ _ c.args.n.0 _ c.args.flat _ c.in-Align.ensures.is_graph c.in-Align.ensures.told
    (none_made _ Align _ c.part-in-Align.result c.in-None-part.is
    (part_placed _ _ c.args.places.now c.in-Align.a.0 c.args.flat c.part-in-Align.result c.requires.placed (omega (arith, c.in-Align.ensures.parts_first)) c.part-in-Align.ensures))

pub returns-in-Some-part-2 : goal.returns-in-Some-part-2
unfolding simple
returns-in-Some-part-2 c =
    at_node _ _ c.args.n.0 _ c.args.flat _ c.in-Reset.ensures.is_graph c.in-Reset.ensures.told
    (reset_made _ c.in-Some-part-2.a _ c.part-in-Reset.result c.in-Some-part-2.is
    (part_placed _ _ c.args.places.now c.in-Reset.a.0 c.args.flat c.part-in-Reset.result c.requires.placed (omega (arith, c.in-Reset.ensures.parts_first)) c.part-in-Reset.ensures))

pub returns-in-None-part-2 : goal.returns-in-None-part-2
unfolding simple
returns-in-None-part-2 c =
    at_node _ _ c.args.n.0 _ c.args.flat _ c.in-Reset.ensures.is_graph c.in-Reset.ensures.told
    (none_made _ Reset _ c.part-in-Reset.result c.in-None-part-2.is
    (part_placed _ _ c.args.places.now c.in-Reset.a.0 c.args.flat c.part-in-Reset.result c.requires.placed (omega (arith, c.in-Reset.ensures.parts_first)) c.part-in-Reset.ensures))

pub returns-in-Some-part-4 : goal.returns-in-Some-part-4
unfolding simple
returns-in-Some-part-4 c =
    at_node _ _ c.args.n.0 _ c.args.flat _ c.in-Charge.ensures.is_graph c.in-Charge.ensures.told
    (charge_made _ c.in-Charge.k c.in-Some-part-4.a (limits_of _ c.args.n.0 _ c.in-Charge.ensures.is_graph c.in-Charge.ensures.told) _ c.part-in-Charge.result c.in-Some-part-4.is
    (part_placed _ _ c.args.places.now c.in-Charge.a.0 c.args.flat c.part-in-Charge.result c.requires.placed (omega (arith, c.in-Charge.ensures.parts_first)) c.part-in-Charge.ensures))

pub returns-in-None-part-4 : goal.returns-in-None-part-4
unfolding simple
returns-in-None-part-4 c =
    at_node _ _ c.args.n.0 _ c.args.flat _ c.in-Charge.ensures.is_graph c.in-Charge.ensures.told
    (none_made _ (Charge c.in-Charge.k) _ c.part-in-Charge.result c.in-None-part-4.is
    (part_placed _ _ c.args.places.now c.in-Charge.a.0 c.args.flat c.part-in-Charge.result c.requires.placed (omega (arith, c.in-Charge.ensures.parts_first)) c.part-in-Charge.ensures))

pub returns-in-Some-part-3 : goal.returns-in-Some-part-3
unfolding simple
returns-in-Some-part-3 c =
    at_node _ _ c.args.n.0 _ c.args.flat _ c.in-Flatten.ensures.is_graph c.in-Flatten.ensures.told
    (older_made _ _ c.part-in-Flatten.result c.in-Some-part-3.a c.in-Some-part-3.is
    (part_placed _ _ c.args.places.now c.in-Flatten.a.0 true c.part-in-Flatten.result c.requires.placed (omega (arith, c.in-Flatten.ensures.parts_first)) c.part-in-Flatten.ensures))

pub returns-in-None-part-3 : goal.returns-in-None-part-3
unfolding simple
returns-in-None-part-3 c =
    at_node _ _ c.args.n.0 _ c.args.flat _ c.in-Flatten.ensures.is_graph c.in-Flatten.ensures.told
    (no_older_made _ _ c.part-in-Flatten.result c.in-None-part-3.is
    (part_placed _ _ c.args.places.now c.in-Flatten.a.0 true c.part-in-Flatten.result c.requires.placed (omega (arith, c.in-Flatten.ensures.parts_first)) c.part-in-Flatten.ensures))

pub returns-in-Choice : goal.returns-in-Choice
unfolding simple
returns-in-Choice c =
    at_node _ _ c.args.n.0 _ c.args.flat _ c.in-Choice.ensures.is_graph c.in-Choice.ensures.told
    (choice_is_made _ _ _ _ _ c.choice_node.result c.choice_node.ensures
    (part_placed _ _ c.args.places.now c.in-Choice.a.0 c.args.flat c.part-in-Choice.result c.requires.placed (omega (arith, c.in-Choice.ensures.parts_first)) c.part-in-Choice.ensures)
    (part_placed _ _ c.args.places.now c.in-Choice.b.0 c.args.flat c.part-in-Choice-2.result c.requires.placed (omega (arith, c.in-Choice.ensures.parts_first)) c.part-in-Choice-2.ensures))
