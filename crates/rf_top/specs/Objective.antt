-- What a style chooses layouts by.
use Rattle.std.specs.Prelude.{ℕ}
use Rattle.rf_base_cost.specs.Cost.{Costs}
use Rattle.rf_base_file.specs.LaidOut.{Objective}
use Rattle.rf_cost.specs.Factories.{squares, linear, lines}
use Rattle.rf_cost.specs.declared.kinds.CostKind.{CostKind}
use Rattle.rf_cost.specs.declared.kinds.CostKind.TheVariants.{Squares, Linear, Lines}
use Rattle.rf_style.specs.declared.style.Style.{Style}

-- how the factory of this kind counts, for this page width
abbrev pub costs_of : CostKind → ℕ → Costs ℕ
costs_of Squares width = squares width
costs_of Linear width = linear width
costs_of Lines width = lines

-- as the style's factory counts for its page width, sought within its computation width
abbrev pub objective : Style → Objective ℕ
objective style = record { costs = costs_of style.cost style.width; limit = style.limit }
