-- Neither a comment that trails nor a break stands there.
use Rattle.std.proofs.Common.{sym, ◌∙◌}
use Rattle.rf_tree.proofs.ItemTexts.{item_read}
use Rattle.rf_tree.proofs.Gapping.{gap_plain}
use Rattle.rf_tree.proofs.gaps.gap.Goals as goal

pub returns-else-needs_break : goal.returns-else-needs_break
returns-else-needs_break c =
    λ ts trees a b h e f.
    gap_plain c.args.tree.now ts trees c.args.before c.args.next a b c.index.result.now c.index-item.result.now c.args.want c.as_wanted.result h e f
    (item_read c.args.tree.now c.args.before c.index.result.now c.requires.before c.index.ensures)
    (item_read c.args.tree.now c.args.next c.index-item.result.now c.requires.next c.index-item.ensures)
    (sym c.trails.ensures ∙ c.if-trails.false) (sym c.needs_break.ensures ∙ c.if-needs_break.false) c.as_wanted.ensures
