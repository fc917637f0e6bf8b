-- Sums that stay plain reflect the order of costs.
use Rattle.rf_cost.specs.Factories.{squares_text, squares_newline, linear_text, linear_newline}
use Rattle.rf_cost.proofs.Sums.{squares_sum_plainly, linear_sums_plainly, lines_sum_plainly}
use Rattle.rf_cost.proofs.Reflecting.{reflects}
use Rattle.rf_cost.proofs.sums_reflect_order.Goals as goal

pub returns : goal.returns
returns c = record {
  squares = λ width. reflects (squares_text width) (squares_newline width) (squares_sum_plainly width);
  linear = λ width. reflects (linear_text width) (linear_newline width) (linear_sums_plainly width);
  lines = reflects (λ column len. 0) (λ indentation. 1) lines_sum_plainly;
}
