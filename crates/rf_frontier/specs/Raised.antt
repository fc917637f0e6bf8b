-- Frontiers of which each cost was raised by the same: the costs needn't rise strictly any more.
use Rattle.std.specs.Prelude.{◌<◌, if◌then◌else◌, List, [], ◌∷◌, ◌++◌, ⊤}
use Rattle.rf_base_cost.specs.declared.measures.Measure.{Measure}
use Rattle.rf_base_cost.specs.Cost.{Costs, AtMost}

-- each of these measures ends further left than m, and costs no less
unfoldable pub EachCostsNoLess : {C H : Type 0} → Costs C → Measure C H → List (Measure C H) → Type 0
EachCostsNoLess costs m [] = ⊤
EachCostsNoLess costs m (x ∷ rest) = (x.last < m.last) × AtMost costs m.cost x.cost × EachCostsNoLess costs m rest

-- the last columns strictly fall, and the costs never fall
unfoldable pub IsRaised : {C H : Type 0} → Costs C → List (Measure C H) → Type 0
IsRaised costs [] = ⊤
IsRaised costs (m ∷ rest) = EachCostsNoLess costs m rest × IsRaised costs rest

-- what is kept, and behind it the held measure, unless the next one costs no more
abbrev pub kept_before : {C H : Type 0} → Costs C → List (Measure C H) → Measure C H → Measure C H → List (Measure C H)
kept_before costs kept held next = if costs.le next.cost held.cost then kept else (kept ++ held ∷ [])
