-- A text has one measure at most, of the ways that were there.
use Rattle.std.proofs.Common.{[], ◌∷◌, refl, sym, subst}
use Rattle.rf_frontier.proofs.Behind.{one_belongs}
use Rattle.rf_frontier.specs.Frontiers.{BelongTo}
use Rattle.rf_search.proofs.Kept.{none_belongs}
use Rattle.rf_search.proofs.behind.text_behind.Goals as goal

pub returns-then-len-setting-clause-belong : goal.returns-then-len-setting-clause-belong
returns-then-len-setting-clause-belong g c = λ ways several less. none_belongs ways [] refl

pub returns-clause-belong : goal.returns-clause-belong
returns-clause-belong g c =
    λ ways several less. subst (λ z. BelongTo ways (z ∷ [])) (sym c.put_leaf.ensures) (one_belongs ways _ _ refl less)
