-- An item's bytes are a part of the source, between characters.
use Rattle.std.proofs.Common.{ap, ◌∙◌, ◌≡◌, slice_range, arith}
use Rattle.std.specs.Str.{chars}
use Rattle.rf_base_grammar.specs.declared.items.Item.{Item}
use Rattle.rf_tree.proofs.ItemTexts.{item_stands, item_read}
use Rattle.rf_tree.proofs.trees.Tree.text.Goals as goal

pub range-requires-clause-start_le_end : goal.range-requires-clause-start_le_end
range-requires-clause-start_le_end c =
    let there = item_read c.args.self.now c.args.item c.index-item.result.now c.requires.there c.index-item.ensures in
    (item_stands c.args.self.now c.requires.tree.0 c.requires.tree.1 c.args.item c.index-item.result.now c.requires.tree.2 there).ordered

pub range-requires-clause-start_boundary : goal.range-requires-clause-start_boundary
range-requires-clause-start_boundary c =
    let there = item_read c.args.self.now c.args.item c.index-item.result.now c.requires.there c.index-item.ensures in
    λ z. (item_stands c.args.self.now c.requires.tree.0 c.requires.tree.1 c.args.item c.index-item.result.now c.requires.tree.2 there).begins

pub range-requires-clause-end_boundary : goal.range-requires-clause-end_boundary
range-requires-clause-end_boundary c =
    let there = item_read c.args.self.now c.args.item c.index-item.result.now c.requires.there c.index-item.ensures in
    (item_stands c.args.self.now c.requires.tree.0 c.requires.tree.1 c.args.item c.index-item.result.now c.requires.tree.2 there).ends

pub returns-clause-characters : goal.returns-clause-characters
returns-clause-characters c =
    λ ts trees h.
    let there = item_read c.args.self.now c.args.item c.index-item.result.now c.requires.there c.index-item.ensures in
    ap chars c.range.ensures.value ∙ (item_stands c.args.self.now ts trees c.args.item c.index-item.result.now h there).chars_are

pub returns-clause-bytes : goal.returns-clause-bytes
returns-clause-bytes c =
    λ i e.
    let there = item_read c.args.self.now c.args.item c.index-item.result.now c.requires.there c.index-item.ensures in
    let same : c.index-item.result.now ≡ i = cc in
    c.range.ensures.value ∙ ap (λ (x : Item). slice_range c.args.self.now.src.now x.start x.end) same

pub returns-clause-short : goal.returns-clause-short
returns-clause-short c =
    let there = item_read c.args.self.now c.args.item c.index-item.result.now c.requires.there c.index-item.ensures in
    let stands = item_stands c.args.self.now c.requires.tree.0 c.requires.tree.1 c.args.item c.index-item.result.now c.requires.tree.2 there in
    let short = c.requires.tree.2.short in
    omega (arith, stands.ends.0, c.range.ensures.len, short)
