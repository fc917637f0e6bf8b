-- A line break has its one measure, or none past the width.
use Rattle.std.proofs.Common.{arith}
use Rattle.rf_resolve.proofs.Leaves.{newline_past, newline_here}
use Rattle.rf_resolve.proofs.knowing.newline.Goals as goal

pub returns-then-key-setting : goal.returns-then-key-setting
returns-then-key-setting g c = newline_past _ _ _ c.args.key c.requires.asked.graph c.requires.node c.requires.asked.column (omega (arith, c.if-key-setting.true))

pub returns : goal.returns
returns g c = (
  newline_here _ _ _ c.args.hows.now c.args.key c.newline-cost.result c.leaf_measure.result c.requires.asked.graph c.requires.node c.requires.asked.column (omega (arith, c.if-key-setting.false))
      c.newline-cost.ensures c.leaf_measure.ensures.measure,
  c.leaf_measure.ensures.belongs,
)
