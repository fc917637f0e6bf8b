-- A number below 2^128 passes the test of values.
use Rattle.std.specs.Prelude.{◌^◌}
use Rattle.rf_cost.specs.Numbers.{below-value}
use Rattle.rf_cost.proofs.each_number_is_value.Goals as goal

pub returns : goal.returns
returns c = record {
  squares = λ width a p. below-value a (2 ^ 128) p;
  linear = λ width a p. below-value a (2 ^ 128) p;
  lines = λ a p. below-value a (2 ^ 128) p;
}
