-- The kinds of factories that a style can ask for.
use Rattle.std.specs.Prelude.{ℕ, List, Option, Some, None, codes, if◌then◌else◌}
use Rattle.std.specs.Str.{bytes_eq}
use Rattle.rf_cost.specs.declared.kinds.CostKind.{CostKind}
use Rattle.rf_cost.specs.declared.kinds.CostKind.TheVariants.{Squares, Linear, Lines}

-- the cost factory of this name
unfoldable pub cost_named : List ℕ → Option CostKind
cost_named text =
    if bytes_eq text (codes "squares") then Some Squares
    else if bytes_eq text (codes "linear") then Some Linear
    else if bytes_eq text (codes "lines") then Some Lines
    else None
