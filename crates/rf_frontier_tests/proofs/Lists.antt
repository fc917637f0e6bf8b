-- Frontiers never rise, and the way of each measure is one of the ways that they belong to.
use Rattle.std.proofs.Common.{ℕ, zero, suc, ◌<◌, List, [], ◌∷◌, length, get_or, arith}
use Rattle.rf_base_cost.specs.declared.measures.Measure.{Measure}
use Rattle.rf_base_cost.specs.Cost.{Costs}
use Rattle.rf_base_cost.specs.Pareto.{EachFollows, IsFrontier, NoneFurther, NeverRises}
use Rattle.rf_frontier.specs.declared.hows.How.{How}
use Rattle.rf_frontier.specs.declared.hows.HowId.{HowId}
use Rattle.rf_frontier.specs.Frontiers.{BelongTo}

follows_no_further : {C H : Type 0} (costs : Costs C) (m : Measure C H) (xs : List (Measure C H)) → EachFollows costs m xs → NoneFurther m xs
unfolding EachFollows NoneFurther
follows_no_further costs m [] f = tt
follows_no_further costs m (x ∷ xs) f = let less : x.last < m.last = f.0 in (omega arith, follows_no_further costs m xs f.2)

pub frontier_never_rises : {C H : Type 0} (costs : Costs C) (xs : List (Measure C H)) → IsFrontier costs xs → NeverRises xs
unfolding IsFrontier NeverRises
frontier_never_rises costs [] f = tt
frontier_never_rises costs (x ∷ xs) f = (follows_no_further costs x xs f.0, frontier_never_rises costs xs f.1)

pub belong_get : {C : Type 0} (ways : List How) (xs : List (Measure C HowId)) (n : ℕ) (d : Measure C HowId) → BelongTo ways xs → n < length xs → (get_or xs n d).how.0 < length ways
unfolding BelongTo
belong_get ways [] n d b p = absurd (omega arith)
belong_get ways (x ∷ xs) zero d b p = b.0
belong_get ways (x ∷ xs) (suc n) d b p = belong_get ways xs n d b.1 (omega arith)
