-- One measure is put among the others, and others are merged with them.
use Rattle.std.proofs.Common.{ap, ◌∙◌}
use Rattle.rf_base_cut.specs.Cut.{cut}
use Rattle.rf_search.specs.Sought.{task}
use Rattle.rf_search.proofs.Kept.{one_value_of, one_kept, one_more_is_frontier}
use Rattle.rf_search.proofs.behind.keep_behind.Goals as goal

pub merge_one-requires-clause-second_value : goal.merge_one-requires-clause-second_value
merge_one-requires-clause-second_value g c =
    one_value_of (task c.args.setting.now).costs c.args.behind c.args.k.now c.args.found.now.several c.in-One.is c.requires.second_values

pub cut_off-requires : goal.cut_off-requires
cut_off-requires g c = (
  (task c.args.setting.now).costs,
  one_more_is_frontier (task c.args.setting.now).costs (g.met.F.Factory.lawful c.args.setting.now.factory.now) c.args.all.now c.merge_one.new.all c.args.k.now c.requires.first_values
      (one_value_of (task c.args.setting.now).costs c.args.behind c.args.k.now c.args.found.now.several c.in-One.is c.requires.second_values) c.in_ok-merge_one-in-One.ensures.merged,
)

pub returns-in_ok-merge_one-in-One-clause-chosen : goal.returns-in_ok-merge_one-in-One-clause-chosen
returns-in_ok-merge_one-in-One-clause-chosen g c =
    (one_kept (task c.args.setting.now).costs (g.met.F.Factory.lawful c.args.setting.now.factory.now) c.args.x c.args.all.now c.cut_off.new.self c.args.behind c.args.k.now c.args.found.now.several c.in-One.is
    c.requires.first_values c.requires.second_values (c.cut_off.ensures ∙ ap (λ z. cut c.args.x z) c.in_ok-merge_one-in-One.ensures.merged)).chosen

pub returns-in_ok-merge_one-in-One-clause-belongs : goal.returns-in_ok-merge_one-in-One-clause-belongs
returns-in_ok-merge_one-in-One-clause-belongs g c =
    (one_kept (task c.args.setting.now).costs (g.met.F.Factory.lawful c.args.setting.now.factory.now) c.args.x c.args.all.now c.cut_off.new.self c.args.behind c.args.k.now c.args.found.now.several c.in-One.is
    c.requires.first_values c.requires.second_values (c.cut_off.ensures ∙ ap (λ z. cut c.args.x z) c.in_ok-merge_one-in-One.ensures.merged)).belongs
