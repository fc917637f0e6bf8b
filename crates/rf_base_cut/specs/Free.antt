-- Ways of counting under which a resolver may cut frontiers short.
use Rattle.std.specs.Prelude.{ℕ, ◌^◌}
use Rattle.rf_base_cost.specs.Cost.{Costs}
use Rattle.rf_base_cost.specs.Reflecting.{ReflectsOrderUpTo}
use Rattle.rf_base_cut.specs.Indifferent.{IsFree}
use Rattle.rf_base_cut.specs.OneLine.{NothingIsLeast}

-- a text that ends by this column costs nothing, no cost is less, a break and a charge of at least 1 cost more, and
-- addition reflects the order of what layouts cost that have at most 2^32 pieces together
pub record TextsAreFree {C : Type 0} (costs : Costs C) (free : ℕ) : Type 0 where
  pub texts : IsFree costs free
  pub nothing : NothingIsLeast costs
  pub reflects : ReflectsOrderUpTo costs (2 ^ 32)
