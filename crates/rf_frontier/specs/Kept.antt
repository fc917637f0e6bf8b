-- What is kept, as a list.
use Rattle.std.specs.Prelude.{List, [], ◌∷◌, Option, None, Some}
use Rattle.rf_base_cost.specs.declared.measures.Measure.{Measure}
use Rattle.std.specs.Global.{Vec}
use Rattle.rf_frontier.specs.declared.hows.HowId.{HowId}
use Rattle.rf_frontier.specs.declared.kept.Place.{Place}
use Rattle.rf_frontier.specs.declared.kept.Place.TheVariants.{Nothing, One, More}

-- the measures that are kept so
abbrev pub kept_measures : {C H : Type 0} → Place C H → List (Measure C H)
kept_measures Nothing = []
kept_measures (One m) = m ∷ []
kept_measures (More all) = all.items

-- what stands in the vector, where there is one
abbrev pub items_of : {C : Type 0} → Option (Vec (Measure C HowId)) → List (Measure C HowId)
items_of None = []
items_of (Some all) = all.items
