-- A node has the pieces of its parts, and at most its own one besides.
use Rattle.std.proofs.Common.{◌≡◌, ◌+◌, suc, max, arith}
use Rattle.rf_base_document.specs.Graph.{unfolded}
use Rattle.rf_base_optimum.specs.MostPieces.{most_pieces}
use Rattle.rf_documents.proofs.Counts.{by_kind, counted, as_part}
use Rattle.rf_documents.proofs.pieces.pieces_of.Goals as goal

pub returns-in-Text : goal.returns-in-Text
unfolding most_pieces
returns-in-Text c =
    let one : most_pieces (unfolded c.args.graph.now c.args.node.0) ≡ 1 = by_kind c.args.graph.now c.args.node.0 _ c.node.ensures.is_graph c.in-Text.ensures.told in
    omega (arith, one)

pub returns-in-Newline : goal.returns-in-Newline
unfolding most_pieces
returns-in-Newline c =
    let one : most_pieces (unfolded c.args.graph.now c.args.node.0) ≡ 1 = by_kind c.args.graph.now c.args.node.0 _ c.node.ensures.is_graph c.in-Newline.ensures.told in
    omega (arith, one)

pub returns-in-Hard : goal.returns-in-Hard
unfolding most_pieces
returns-in-Hard c =
    let one : most_pieces (unfolded c.args.graph.now c.args.node.0) ≡ 1 = by_kind c.args.graph.now c.args.node.0 _ c.node.ensures.is_graph c.in-Hard.ensures.told in
    omega (arith, one)

pub returns-in_ok-both-in-Concat : goal.returns-in_ok-both-in-Concat
unfolding most_pieces
returns-in_ok-both-in-Concat c =
    let sum : most_pieces (unfolded c.args.graph.now c.args.node.0) ≡ most_pieces (unfolded c.args.graph.now c.in-Concat.a.0) + most_pieces (unfolded c.args.graph.now c.in-Concat.b.0) = by_kind c.args.graph.now c.args.node.0 _ c.node.ensures.is_graph c.in-Concat.ensures.told in
    let first = counted c.args.graph.now c.args.counts.now c.in-Concat.a.0 c.requires.counted (omega (arith, c.requires.before, c.in-Concat.ensures.parts_first)) in
    let second = counted c.args.graph.now c.args.counts.now c.in-Concat.b.0 c.requires.counted (omega (arith, c.requires.before, c.in-Concat.ensures.parts_first)) in
    omega (arith, sum, first, second, c.in_ok-both-in-Concat.ensures)

pub returns-in-Nest : goal.returns-in-Nest
unfolding most_pieces
returns-in-Nest c =
    as_part c.args.graph.now c.args.counts.now c.args.node.0 c.in-Nest.a.0 (by_kind c.args.graph.now c.args.node.0 _ c.node.ensures.is_graph c.in-Nest.ensures.told) c.requires.counted (omega (arith, c.requires.before, c.in-Nest.ensures.parts_first))

pub returns-in-Align : goal.returns-in-Align
unfolding most_pieces
returns-in-Align c =
    as_part c.args.graph.now c.args.counts.now c.args.node.0 c.in-Align.a.0 (by_kind c.args.graph.now c.args.node.0 _ c.node.ensures.is_graph c.in-Align.ensures.told) c.requires.counted (omega (arith, c.requires.before, c.in-Align.ensures.parts_first))

pub returns-in-Reset : goal.returns-in-Reset
unfolding most_pieces
returns-in-Reset c =
    as_part c.args.graph.now c.args.counts.now c.args.node.0 c.in-Reset.a.0 (by_kind c.args.graph.now c.args.node.0 _ c.node.ensures.is_graph c.in-Reset.ensures.told) c.requires.counted (omega (arith, c.requires.before, c.in-Reset.ensures.parts_first))

pub returns-in-Flatten : goal.returns-in-Flatten
unfolding most_pieces
returns-in-Flatten c =
    as_part c.args.graph.now c.args.counts.now c.args.node.0 c.in-Flatten.a.0 (by_kind c.args.graph.now c.args.node.0 _ c.node.ensures.is_graph c.in-Flatten.ensures.told) c.requires.counted (omega (arith, c.requires.before, c.in-Flatten.ensures.parts_first))

pub returns-in-Choice : goal.returns-in-Choice
unfolding most_pieces
returns-in-Choice c =
    let most : most_pieces (unfolded c.args.graph.now c.args.node.0) ≡ max (most_pieces (unfolded c.args.graph.now c.in-Choice.a.0)) (most_pieces (unfolded c.args.graph.now c.in-Choice.b.0)) = by_kind c.args.graph.now c.args.node.0 _ c.node.ensures.is_graph c.in-Choice.ensures.told in
    let first = counted c.args.graph.now c.args.counts.now c.in-Choice.a.0 c.requires.counted (omega (arith, c.requires.before, c.in-Choice.ensures.parts_first)) in
    let second = counted c.args.graph.now c.args.counts.now c.in-Choice.b.0 c.requires.counted (omega (arith, c.requires.before, c.in-Choice.ensures.parts_first)) in
    omega (arith, most, first, second, c.max.ensures)

pub returns-in_ok-more-in-Charge : goal.returns-in_ok-more-in-Charge
unfolding most_pieces
returns-in_ok-more-in-Charge c =
    let more : most_pieces (unfolded c.args.graph.now c.args.node.0) ≡ suc (most_pieces (unfolded c.args.graph.now c.in-Charge.a.0)) = by_kind c.args.graph.now c.args.node.0 _ c.node.ensures.is_graph c.in-Charge.ensures.told in
    let part = counted c.args.graph.now c.args.counts.now c.in-Charge.a.0 c.requires.counted (omega (arith, c.requires.before, c.in-Charge.ensures.parts_first)) in
    omega (arith, more, part, c.in_ok-more-in-Charge.ensures)
