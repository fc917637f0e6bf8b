-- What is known of a node without its parts.
use Rattle.std.specs.Prelude.{◌≡◌, ℕ, Bool, List, [], ◌∷◌}
use Rattle.rf_base_cost.specs.declared.measures.Measure.{Measure}
use Rattle.rf_frontier.specs.declared.hows.How.{How}
use Rattle.rf_frontier.specs.declared.hows.HowId.{HowId}
use Rattle.rf_search.specs.declared.at_once.AtOnce.{AtOnce}
use Rattle.rf_search.specs.declared.at_once.AtOnce.TheVariants.{Nothing, One, Unknown}
use Rattle.rf_search.specs.declared.sought.Found.{Found}
use Rattle.rf_search.specs.declared.sought.Place.{Place}
use Rattle.rf_search.specs.Tasks.{Task}
use Rattle.rf_search.specs.Behind.{AreBehind}

-- what is known at once, and put in place of the measure, is what stands behind it of the node, cut at x; where nothing
-- is known the measure stays
abbrev pub IsKnownBehind : {C N : Type 0} → Task C N → List How → List How → N → Bool → ℕ → ℕ → Measure C HowId →
    Measure C HowId → AtOnce → Type 0
IsKnownBehind task old new n flat indentation x m k Nothing = AreBehind task old new n flat indentation x m []
IsKnownBehind task old new n flat indentation x m k One = AreBehind task old new n flat indentation x m (k ∷ [])
IsKnownBehind task old new n flat indentation x m k Unknown = k ≡ m

-- the same of the node in a place
abbrev pub IsKnown : {C N : Type 0} → Task C N → Found C → Found C → Place N → Measure C HowId → Measure C HowId →
    AtOnce → Type 0
IsKnown task old new place =
    IsKnownBehind task old.hows new.hows place.node place.flat place.indentation place.cut
