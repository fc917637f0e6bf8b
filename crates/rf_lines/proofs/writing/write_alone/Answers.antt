-- What is written on an empty strip is all that stands there.
use Rattle.std.proofs.Common.{◌≡◌, ◌≤◌, Some, List, length, slice_get, refl, sym, ap, ◌∙◌, arith}
use Rattle.std.proofs.lemmas.Option.{slice_get_read}
use Rattle.std.proofs.lemmas.Result.{IfOk-weaker}
use Rattle.rf_base_grammar.specs.declared.items.Item.{Item}
use Rattle.rf_base_file.specs.FileDocument.{tree_piece}
use Rattle.rf_style.specs.StyleOf.{seen}
use Rattle.rf_tree.proofs.ItemTexts.{item_stands}
use Rattle.rf_tree.proofs.Unfolding.{UnfoldsTo-below}
use Rattle.rf_lines.proofs.Behind.{written_alone}
use Rattle.rf_lines.proofs.writing.write_alone.Goals as goal

pub first_item-first-requires : goal.first_item-first-requires
first_item-first-requires c =
    UnfoldsTo-below c.requires.node.0 c.args.writer.now.tree.now.nodes c.args.at.0 c.requires.node.2 c.requires.node.4

pub returns-in_ok-write_node-in-Some : goal.returns-in_ok-write_node-in-Some
returns-in_ok-write_node-in-Some c =
    let tree = c.args.writer.now.tree.now in
    let place = c.args.place in
    let item = c.in-Some.item.now in
    let items = c.deref.result.now in
    let first = c.first_item-first.result in
    let found = c.in-Some.ensures.lookup in
    let there : slice_get tree.items.items first ≡ Some item =
    ap (λ (all : List Item). slice_get all first) (sym c.deref.ensures.value) ∙ slice_get_read items (length items) first item refl found.3.0 found.1 in
    IfOk-weaker c.text_on.result _ _
    (λ text is ts trees t holds unfolds.
    let stands = item_stands tree ts trees first item holds there in
    let within : item.start ≤ length tree.src.now = omega (arith, stands.ordered, stands.ends.0) in
    let piece = tree_piece (seen c.args.writer.now.style.now) ts t in
    written_alone c.args.writer.now place.flat item.start c.begin.new.self c.write_node.new.strip (piece.doc place.quoted c.args.role) text.now c.begin.ensures within is
    (c.in_ok-write_node-in-Some.ensures ts trees t holds unfolds).1)
    c.text_on.ensures
