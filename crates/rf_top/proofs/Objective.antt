-- What a style chooses by keeps the laws.
use Rattle.std.proofs.Common.{ℕ, arith}
use Rattle.rf_base_cost.specs.Cost.{Lawful, IsColumn}
use Rattle.rf_base_style.specs.Table.{IsWidth}
use Rattle.rf_cost.specs.Lawful.{squares_lawful, linear_lawful, lines_lawful}
use Rattle.rf_cost.specs.declared.kinds.CostKind.{CostKind}
use Rattle.rf_cost.specs.declared.kinds.CostKind.TheVariants.{Squares, Linear, Lines}
use Rattle.rf_top.specs.Objective.{costs_of}

pub costs_lawful : (kind : CostKind) (width : ℕ) → Lawful (costs_of kind width)
costs_lawful Squares width = squares_lawful width
costs_lawful Linear width = linear_lawful width
costs_lawful Lines width = lines_lawful

pub width_is_column : (n : ℕ) → IsWidth n → IsColumn n
width_is_column n is = omega (arith, is.1)
