-- Frontiers cut short, and frontiers behind a measure, for a resolver that goes on from the measures that it has.
use Rattle.std.specs.Prelude.{◌≡◌, ℕ, ◌+◌, ◌≤◌, nat_le, if◌then◌else◌, List, [], ◌∷◌, ◌++◌, length, Some}
use Rattle.rf_base_document.specs.declared.directions.Dir.{Dir}
use Rattle.rf_base_document.specs.Document.{Doc}
use Rattle.rf_base_document.specs.Render.{Piece}
use Rattle.rf_base_cost.specs.declared.measures.Measure.{Measure}
use Rattle.rf_base_cost.specs.Cost.{Costs, cost_of, PiecesAreCounted}
use Rattle.rf_base_cost.specs.Pareto.{IsMember, all_shifted}
use Rattle.rf_base_cost.specs.Reflecting.{ReflectsOrderUpTo}
use Rattle.rf_base_optimum.specs.Plain.{plain}

-- the measures up to and with the first that ends by column x, and all of them where none does; of a frontier, where
-- last columns strictly fall, 0 cuts nothing off
unfoldable pub cut : {C H : Type 0} → ℕ → List (Measure C H) → List (Measure C H)
cut x [] = []
cut x (m ∷ rest) = m ∷ (if nat_le m.last x then [] else cut x rest)

-- the frontier of a core that begins where m ends, each measure behind m, cut at x
unfoldable pub after : {C : Type 0} → Costs C → ℕ → Doc → Measure C (List Dir) → ℕ → ℕ → List (Measure C (List Dir))
after costs w d m indentation x = cut x (all_shifted costs m (plain costs w d m.last indentation))

-- the measure with this direction behind its choices
abbrev pub turned : {C : Type 0} → Dir → Measure C (List Dir) → Measure C (List Dir)
turned dir m = record { last = m.last; cost = m.cost; how = m.how ++ dir ∷ [] }

-- the measure and then, for this cost and without a choice, on to this column
abbrev pub extended : {C H : Type 0} → Costs C → Measure C H → ℕ → C → Measure C H
extended costs m last cost = record { last = last; cost = costs.add m.cost cost; how = m.how }

-- the cost is what counted pieces cost, of which there are at most n
abbrev pub CostsPieces : {C : Type 0} → Costs C → ℕ → C → Type 0
CostsPieces costs n cost =
    (pieces : List Piece) × PiecesAreCounted pieces × (length pieces ≤ n) × (cost_of costs pieces ≡ Some cost)

-- each measure of the list costs what counted pieces cost, of which there are at most n
abbrev pub EachCostsPieces : {C : Type 0} → Costs C → ℕ → List (Measure C (List Dir)) → Type 0
EachCostsPieces {C} costs n list = (m : Measure C (List Dir)) → IsMember m list → CostsPieces costs n m.cost

-- the cost is what counted pieces cost, and addition reflects the order of what layouts cost that have as many pieces
-- and n more
unfoldable pub HasRoom : {C : Type 0} → Costs C → ℕ → C → Type 0
HasRoom costs n cost =
    (pieces : List Piece) × PiecesAreCounted pieces × (cost_of costs pieces ≡ Some cost)
    × ReflectsOrderUpTo costs (length pieces + n)
