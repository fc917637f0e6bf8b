-- The way of the text is a new one or an old one.
use Rattle.std.proofs.Common.{[], ◌∷◌, refl, sym, subst}
use Rattle.rf_frontier.proofs.Behind.{one_belongs}
use Rattle.rf_frontier.specs.Frontiers.{BelongTo}
use Rattle.rf_search.proofs.behind.put_text.Goals as goal

pub returns-clause-belong : goal.returns-clause-belong
returns-clause-belong g c =
    subst (λ z. BelongTo c.join.new.self (z ∷ [])) (sym c.put_leaf.ensures) (one_belongs c.join.new.self _ _ refl c.in_ok-m.ensures.in_ways)
