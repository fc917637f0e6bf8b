-- The pieces of a layout are counted, and few enough.
use Rattle.rf_cost.proofs.Sums.{squares_sum_plainly, linear_sums_plainly, lines_sum_plainly}
use Rattle.rf_cost.proofs.Layouts.{layout_sums}
use Rattle.rf_cost.specs.Factories.{squares, linear, lines}
use Rattle.rf_cost.proofs.layouts_sum_plainly.Goals as goal

pub returns : goal.returns
returns c = record {
  squares = λ width. layout_sums (squares width) (squares_sum_plainly width);
  linear = λ width. layout_sums (linear width) (linear_sums_plainly width);
  lines = layout_sums lines lines_sum_plainly;
}
