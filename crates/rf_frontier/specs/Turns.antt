-- What a merge does next with two frontiers.
use Rattle.std.specs.Prelude.{◌≡◌, ◌<◌, List, [], ◌∷◌, IsTrue, IsFalse}
use Rattle.rf_base_cost.specs.declared.measures.Measure.{Measure}
use Rattle.rf_base_cost.specs.Cost.{Costs}
use Rattle.rf_base_cost.specs.Pareto.{dominates, outdoes}
use Rattle.rf_frontier.specs.declared.turns.Turn.{Turn}
use Rattle.rf_frontier.specs.declared.turns.Turn.TheVariants.{KeepFirst, KeepSecond, DropFirst, DropSecond}

-- why of two measures the first or second is kept before the other, or dropped
abbrev pub HeadsTurn : {C H : Type 0} → Costs C → Measure C H → Measure C H → Turn → Type 0
HeadsTurn costs x y KeepFirst = (y.last < x.last) × IsFalse (costs.le y.cost x.cost)
HeadsTurn costs x y KeepSecond = (x.last < y.last) × IsFalse (costs.le x.cost y.cost)
HeadsTurn costs x y DropFirst = IsTrue (outdoes costs y x)
HeadsTurn costs x y DropSecond = IsTrue (dominates costs x y)

-- the turn is that of the first measures, and of one list alone it keeps the first measure
abbrev pub ListsTurn : {C H : Type 0} → Costs C → List (Measure C H) → List (Measure C H) → Turn → Type 0
ListsTurn costs [] b turn = turn ≡ KeepSecond
ListsTurn costs (x ∷ a) [] turn = turn ≡ KeepFirst
ListsTurn costs (x ∷ a) (y ∷ b) turn = HeadsTurn costs x y turn
