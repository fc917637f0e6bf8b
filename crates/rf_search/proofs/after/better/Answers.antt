-- Of one measure in all that one, and of two alone the one that is kept.
use Rattle.std.proofs.Common.{◌++◌, ◌∷◌, [], ap, sym, ◌∙◌}
use Rattle.rf_base_cost.specs.Pareto.{pareto}
use Rattle.rf_base_cut.specs.Cut.{cut}
use Rattle.rf_frontier.proofs.Pairs.{alone_value}
use Rattle.rf_search.specs.Sought.{task}
use Rattle.rf_search.proofs.Kept.{one_value_of, one_kept, second_alone, first_alone}
use Rattle.rf_search.proofs.after.better.Goals as goal

pub best_of_two-requires-clause-first : goal.best_of_two-requires-clause-first
best_of_two-requires-clause-first g c =
    alone_value (task c.args.setting.now).costs c.args.firsts c.in-Some-One.first c.in-Some-One.ensures c.requires.first_values

pub best_of_two-requires-clause-second : goal.best_of_two-requires-clause-second
best_of_two-requires-clause-second g c =
    one_value_of (task c.args.setting.now).costs c.args.behind c.args.m.now c.args.found.now.several c.in-Some-One.is-1 c.requires.second_values

pub returns-2-clause-chosen : goal.returns-2-clause-chosen
returns-2-clause-chosen g c =
    let costs = (task c.args.setting.now).costs in
    (one_kept costs (g.met.F.Factory.lawful c.args.setting.now.factory.now) c.args.x c.args.firsts (c.in-Some.best ∷ []) c.args.behind c.args.m.now c.args.found.now.several c.in-Some-One.is-1
    c.requires.first_values c.requires.second_values
    (sym c.in-Some.ensures.best ∙ ap (λ z. cut c.args.x (pareto costs (z ++ c.args.m.now ∷ []))) (sym c.in-Some-One.ensures))).chosen

pub returns-2-clause-belongs : goal.returns-2-clause-belongs
returns-2-clause-belongs g c =
    let costs = (task c.args.setting.now).costs in
    (one_kept costs (g.met.F.Factory.lawful c.args.setting.now.factory.now) c.args.x c.args.firsts (c.in-Some.best ∷ []) c.args.behind c.args.m.now c.args.found.now.several c.in-Some-One.is-1
    c.requires.first_values c.requires.second_values
    (sym c.in-Some.ensures.best ∙ ap (λ z. cut c.args.x (pareto costs (z ++ c.args.m.now ∷ []))) (sym c.in-Some-One.ensures))).belongs

pub returns-clause-chosen : goal.returns-clause-chosen
returns-clause-chosen g c =
    (second_alone (task c.args.setting.now).costs (g.met.F.Factory.lawful c.args.setting.now.factory.now) c.args.x c.args.firsts c.args.behind c.args.m.now c.args.found.now.several c.if-is_empty.ensures c.in-One.is
    c.requires.first_values c.requires.second_values c.requires.second).chosen

pub returns-in-Some-Nothing-clause-chosen : goal.returns-in-Some-Nothing-clause-chosen
returns-in-Some-Nothing-clause-chosen g c =
    (first_alone (task c.args.setting.now).costs (g.met.F.Factory.lawful c.args.setting.now.factory.now) c.args.x c.args.firsts c.args.behind c.in-Some-Nothing.first c.args.m.now c.args.found.now.several c.in-Some-Nothing.ensures c.in-Some-Nothing.is-1
    c.requires.first_values c.requires.second_values c.requires.first).chosen

pub returns-in-Some-Nothing-clause-belongs : goal.returns-in-Some-Nothing-clause-belongs
returns-in-Some-Nothing-clause-belongs g c =
    (first_alone (task c.args.setting.now).costs (g.met.F.Factory.lawful c.args.setting.now.factory.now) c.args.x c.args.firsts c.args.behind c.in-Some-Nothing.first c.args.m.now c.args.found.now.several c.in-Some-Nothing.ensures c.in-Some-Nothing.is-1
    c.requires.first_values c.requires.second_values c.requires.first).belongs
