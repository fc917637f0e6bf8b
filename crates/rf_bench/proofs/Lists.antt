-- What is read of a list of measures.
use Rattle.std.proofs.Common.{ℕ, zero, suc, ◌<◌, List, [], ◌∷◌, length, get_or, arith}
use Rattle.rf_base_cost.specs.declared.measures.Measure.{Measure}
use Rattle.rf_base_cost.specs.Cost.{Costs, IsValue}
use Rattle.rf_base_cost.specs.Pareto.{EachIsValue}
use Rattle.rf_frontier.specs.declared.hows.How.{How}
use Rattle.rf_frontier.specs.declared.hows.HowId.{HowId}
use Rattle.rf_frontier.specs.Frontiers.{BelongTo}

pub value_get : {C H : Type 0} (costs : Costs C) (xs : List (Measure C H)) (n : ℕ) (d : Measure C H) → EachIsValue costs xs → n < length xs → IsValue costs (get_or xs n d).cost
unfolding EachIsValue
value_get costs [] n d v p = absurd (omega arith)
value_get costs (x ∷ xs) zero d v p = v.0
value_get costs (x ∷ xs) (suc n) d v p = value_get costs xs n d v.1 (omega arith)

pub belong_get : {C : Type 0} (ways : List How) (xs : List (Measure C HowId)) (n : ℕ) (d : Measure C HowId) → BelongTo ways xs → n < length xs → (get_or xs n d).how.0 < length ways
unfolding BelongTo
belong_get ways [] n d b p = absurd (omega arith)
belong_get ways (x ∷ xs) zero d b p = b.0
belong_get ways (x ∷ xs) (suc n) d b p = belong_get ways xs n d b.1 (omega arith)
