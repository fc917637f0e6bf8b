-- Ways that aren't made yet.
use Rattle.std.specs.Prelude.{◌<◌, List, [], ◌∷◌, ◌++◌, length, ⊤}
use Rattle.rf_base_document.specs.declared.directions.Dir.{Dir}
use Rattle.rf_base_cost.specs.declared.measures.Measure.{Measure}
use Rattle.rf_base_cost.specs.Pareto.{all_rewayed}
use Rattle.rf_frontier.specs.declared.hows.HowId.{HowId}
use Rattle.rf_frontier.specs.declared.hows.How.{How}
use Rattle.rf_frontier.specs.declared.before.Before.{Before}
use Rattle.rf_frontier.specs.declared.views.Planned.{Planned}
use Rattle.rf_frontier.specs.Ways.{choices_of, IsIn, choices_before}

-- the way of these choices and then those of the way
abbrev pub planned_behind : Before → HowId → Planned
planned_behind before how = record { before = before; how = how }

-- the choices that a planned way is to unfold to
abbrev pub planned_choices : List How → Planned → List Dir
planned_choices ways plan = choices_before ways plan.before ++ choices_of ways plan.how.0

-- the measures with the choices that their planned ways are to unfold to
abbrev pub all_planned : {C : Type 0} → List How → List (Measure C Planned) → List (Measure C (List Dir))
all_planned ways list = all_rewayed (planned_choices ways) list

-- what comes before and the way behind it are of the ways
abbrev pub PlanIsIn : List How → Planned → Type 0
PlanIsIn ways plan = IsIn ways plan.before × (plan.how.0 < length ways)

-- the planned way of each measure is made of these ways
unfoldable pub PlansBelongTo : {C : Type 0} → List How → List (Measure C Planned) → Type 0
PlansBelongTo ways [] = ⊤
PlansBelongTo ways (m ∷ rest) = PlanIsIn ways m.how × PlansBelongTo ways rest
