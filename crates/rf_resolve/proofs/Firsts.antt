-- First measures of frontiers.
use Rattle.std.proofs.Common.{◌≡◌, ℕ, ◌<◌, List, [], ◌∷◌, length, refl, sym, ◌∙◌, ap, subst, Option, None, Some, arith}
use Rattle.rf_base_document.specs.Graph.{GraphNode}
use Rattle.rf_base_cost.specs.declared.measures.Measure.{Measure}
use Rattle.rf_base_cost.specs.Cost.{Costs}
use Rattle.rf_frontier.specs.declared.hows.How.{How}
use Rattle.rf_frontier.specs.declared.hows.HowId.{HowId}
use Rattle.rf_frontier.specs.Frontiers.{BelongTo, all_chosen}
use Rattle.rf_resolve.specs.declared.keys.Key.{Key}
use Rattle.rf_resolve.specs.Keys.{frontier_of}
use Rattle.rf_resolve.specs.Holding.{IsFrontierAt}
use Rattle.rf_resolve.specs.Walk.{FirstIs, HeadIs}

none_of : {C : Type 0} (ways : List How) (f : List (Measure C HowId)) → length f ≡ 0 → all_chosen ways f ≡ []
none_of ways [] none = refl
none_of ways (m ∷ rest) none = absurd (omega (arith, none))

first_belongs : {C : Type 0} (ways : List How) (m : Measure C HowId) (rest : List (Measure C HowId)) → BelongTo ways (m ∷ rest) → m.how.0 < length ways
unfolding BelongTo
first_belongs ways m rest belong = belong.0

pub first_at : {C : Type 0} (costs : Costs C) (w : ℕ) (nodes : List GraphNode) (ways : List How) (key : Key) (f seen : List (Measure C HowId)) (head : Option (Measure C HowId)) → seen ≡ f →
    IsFrontierAt costs w nodes ways key f → HeadIs seen head → FirstIs (frontier_of costs w nodes key) ways head
first_at costs w nodes ways key f seen None same at none = sym at.measures ∙ none_of ways f (sym (ap length same) ∙ none)
first_at {C} costs w nodes ways key f seen (Some m) same at first =
    let is : f ≡ m ∷ first.0 = sym same ∙ first.1 in (
      first_belongs ways m first.0 (subst (λ (l : List (Measure C HowId)). BelongTo ways l) is at.belong),
      all_chosen ways first.0,
      sym at.measures ∙ ap (λ (l : List (Measure C HowId)). all_chosen ways l) is,
    )
