-- What the vector holds is the frontier.
use Rattle.std.proofs.Common.{sym, ap, ◌∙◌, subst}
use Rattle.rf_base_cost.specs.Pareto.{IsFrontier}
use Rattle.rf_frontier.specs.Kept.{kept_measures}
use Rattle.rf_frontier.proofs.kept.Kept.cut_off.Goals as goal

pub stay_from_end-stay-requires : goal.stay_from_end-stay-requires
stay_from_end-stay-requires g c = (
  c.requires.0,
  subst (λ ms. IsFrontier c.requires.0 ms) (sym c.self.view_is ∙ ap kept_measures c.in-More.is ∙ sym c.as_slice.ensures.value) c.requires.1,
)
