-- A text has its one measure, or none past the width.
use Rattle.std.proofs.Common.{◌≤◌, ◌+◌, refl, arith}
use Rattle.rf_resolve.proofs.Leaves.{text_past, text_here}
use Rattle.rf_resolve.proofs.knowing.text.Goals as goal

pub returns-then-len-setting : goal.returns-then-len-setting
returns-then-len-setting g c =
    text_past _ _ _ c.args.key c.requires.node.0 c.args.len c.requires.asked.graph c.requires.node.1 (omega (arith, c.if-len-setting.true, c.requires.asked.column))

pub returns : goal.returns
returns g c =
    let near : c.args.key.column + c.args.len ≤ c.args.setting.now.limit = omega (arith, c.if-len-setting.false, c.requires.asked.column) in (
      text_here _ _ _ c.args.hows.now c.args.key c.requires.node.0 c.args.len (c.args.key.column + c.args.len) c.text-cost.result c.leaf_measure.result c.requires.asked.graph c.requires.node.1
          near refl c.text-cost.ensures c.leaf_measure.ensures.measure,
      c.leaf_measure.ensures.belongs,
    )
