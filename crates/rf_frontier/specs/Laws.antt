-- Laws of ways and of frontiers, as ways are added and frontiers grow.
use Rattle.std.specs.Prelude.{◌≡◌, List, ◌++◌}
use Rattle.rf_base_cost.specs.declared.measures.Measure.{Measure}
use Rattle.rf_base_cost.specs.Cost.{Costs, Lawful}
use Rattle.rf_base_cost.specs.Pareto.{pareto, EachIsValue}
use Rattle.rf_frontier.specs.declared.hows.How.{How}
use Rattle.rf_frontier.specs.declared.hows.HowId.{HowId}
use Rattle.rf_frontier.specs.Ways.{KeepsWays}
use Rattle.rf_frontier.specs.Frontiers.{BelongTo, all_chosen}

-- ways keep themselves
abbrev pub WaysKeepThemselves : Type 0
WaysKeepThemselves = (ways : List How) → KeepsWays ways ways

-- ways that keep ways which keep older ones keep the older ones
abbrev pub WaysGoOn : Type 0
WaysGoOn = (one two three : List How) → KeepsWays one two → KeepsWays two three → KeepsWays one three

-- what belongs to older ways belongs to newer ones that keep them, and unfolds to the same choices
abbrev pub FrontiersGoOn : Type 0 → Type 0
FrontiersGoOn C =
    (old new : List How) (f : List (Measure C HowId)) → KeepsWays old new → BelongTo old f →
    BelongTo new f × (all_chosen new f ≡ all_chosen old f)

-- pruning the first part of a list before the whole changes nothing
abbrev pub ParetoGoesOn : Type 0 → Type 0 → Type 0
ParetoGoesOn C H =
    (costs : Costs C) (list more : List (Measure C H)) → Lawful costs → EachIsValue costs list →
    EachIsValue costs more →
    pareto costs (pareto costs list ++ more) ≡ pareto costs (list ++ more)
