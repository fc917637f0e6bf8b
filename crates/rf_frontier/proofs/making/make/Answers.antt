-- Making ways changes no last column and no cost.
use Rattle.std.proofs.Common.{◌∙◌, ap}
use Rattle.rf_frontier.specs.Frontiers.{all_chosen}
use Rattle.rf_frontier.proofs.Behind.{same_belong}
use Rattle.rf_frontier.proofs.Made.{made_ordered, made_values}
use Rattle.rf_frontier.proofs.making.make.Goals as goal

pub returns-clause-chosen : goal.returns-clause-chosen
returns-clause-chosen g c = ap (all_chosen c.make_all.new.hows) c.of_vec.ensures ∙ c.in_ok-all.ensures.chosen

pub returns-clause-ordered : goal.returns-clause-ordered
returns-clause-ordered g c = made_ordered c.args.hows.now c.make_all.new.hows c.args.planned c.of_vec.result (returns-clause-chosen g c)

pub returns-clause-values : goal.returns-clause-values
returns-clause-values g c = made_values c.args.hows.now c.make_all.new.hows c.args.planned c.of_vec.result (returns-clause-chosen g c)

pub returns-clause-belongs : goal.returns-clause-belongs
returns-clause-belongs g c = same_belong c.make_all.new.hows c.of_vec.result c.in_ok-all.all.items c.of_vec.ensures c.in_ok-all.ensures.belongs
