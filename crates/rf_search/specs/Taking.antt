-- What stands behind a measure, where it is put.
use Rattle.std.specs.Prelude.{List, [], ◌∷◌}
use Rattle.rf_base_cost.specs.declared.measures.Measure.{Measure}
use Rattle.rf_frontier.specs.declared.hows.HowId.{HowId}
use Rattle.rf_search.specs.declared.taking.Behind.{Behind}
use Rattle.rf_search.specs.declared.taking.Behind.TheVariants.{Nothing, One, Several}

-- nothing, the measure that stands in place of the other one, or these several
abbrev pub measures_of : {C : Type 0} → Behind → Measure C HowId → List (Measure C HowId) → List (Measure C HowId)
measures_of Nothing k several = []
measures_of One k several = k ∷ []
measures_of Several k several = several
