-- What is merged is cut.
use Rattle.std.proofs.Common.{sym, ◌∙◌, ap, subst}
use Rattle.rf_base_cut.specs.Cut.{cut}
use Rattle.rf_frontier.specs.Frontiers.{BelongTo, all_chosen}
use Rattle.rf_search.proofs.Kept.{chosen_cut, belong_cut}
use Rattle.rf_search.proofs.behind.merged.Goals as goal

pub returns-clause-chosen : goal.returns-clause-chosen
returns-clause-chosen g c =
    λ ways.
    ap (λ z. all_chosen ways z) c.cut.ensures ∙ (chosen_cut ways c.args.x c.in_ok-all.all ∙ ap (λ z. cut c.args.x z) (c.in_ok-all.ensures.chosen ways))

pub returns-clause-belongs : goal.returns-clause-belongs
returns-clause-belongs g c =
    λ ways p q. subst (λ z. BelongTo ways z) (sym c.cut.ensures) (belong_cut ways c.args.x c.in_ok-all.all (c.in_ok-all.ensures.belongs ways p q))
