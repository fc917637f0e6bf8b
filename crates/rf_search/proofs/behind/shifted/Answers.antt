-- One measure more stands behind the one at each turn.
use Rattle.std.proofs.Common.{◌+◌, refl, ◌∙◌, ap, arith}
use Rattle.std.specs.Prelude.{slice_get}
use Rattle.rf_base_cost.specs.Pareto.{all_shifted}
use Rattle.rf_frontier.specs.Frontiers.{chosen, all_chosen}
use Rattle.rf_frontier.proofs.Cuts.{cut_here_next, cut_behind_next, cut_end}
use Rattle.rf_frontier.proofs.Ways.{keeps_same, keeps_then, keeps_length}
use Rattle.rf_search.specs.Sought.{task}
use Rattle.rf_search.proofs.Kept.{chosen_cut}
use Rattle.rf_search.proofs.Shifts.{none_shifted, one_shifted, alone_shifted, belong_there, value_there}
use Rattle.rf_search.proofs.behind.shifted.Goals as goal

pub measure_behind-requires-clause-second_value : goal.measure_behind-requires-clause-second_value
measure_behind-requires-clause-second_value g c = value_there (task c.args.setting.now).costs c.args.row.now 0 c.in-Some.k c.requires.values (ap (λ z. slice_get z 0) c.in-Some.ensures)

pub measure_behind-requires-clause-second_way : goal.measure_behind-requires-clause-second_way
measure_behind-requires-clause-second_way g c = belong_there c.args.hows.now c.args.row.now 0 c.in-Some.k c.requires.belong (ap (λ z. slice_get z 0) c.in-Some.ensures)

pub returns-in-Some-clause-shifted : goal.returns-in-Some-clause-shifted
returns-in-Some-clause-shifted g c =
    (alone_shifted (task c.args.setting.now).costs c.args.hows.now c.measure_behind.new.hows c.args.m.now c.in-Some.k c.in_ok-one.one c.args.row.now c.one.result c.args.x c.in-Some.ensures c.in_ok-one.ensures.last c.in_ok-one.ensures.cost c.in_ok-one.ensures.belongs c.in_ok-one.ensures.choices c.one.ensures).1

pub returns-in-Some-clause-belong : goal.returns-in-Some-clause-belong
returns-in-Some-clause-belong g c =
    (alone_shifted (task c.args.setting.now).costs c.args.hows.now c.measure_behind.new.hows c.args.m.now c.in-Some.k c.in_ok-one.one c.args.row.now c.one.result c.args.x c.in-Some.ensures c.in_ok-one.ensures.last c.in_ok-one.ensures.cost c.in_ok-one.ensures.belongs c.in_ok-one.ensures.choices c.one.ensures).0

pub returns-in_err-all-clause-older : goal.returns-in_err-all-clause-older
returns-in_err-all-clause-older g c = keeps_same c.args.hows.now

pub loop-at-init : goal.loop-at-init
loop-at-init g c =
    record {
      near = omega arith;
      older = keeps_same c.args.hows.now;
      so_far = none_shifted (task c.args.setting.now).costs c.args.hows.now c.args.m.now c.in_ok-all.all c.in_ok-all.ensures;
      uncut = refl;
    }

pub measure_behind-requires-in-loop-at-clause-way : goal.measure_behind-requires-in-loop-at-clause-way
measure_behind-requires-in-loop-at-clause-way g c = omega (arith, keeps_length c.args.hows.now c.loop-at.hows c.loop-at.invariant.older, c.requires.way)

pub measure_behind-requires-in-loop-at-clause-second_way : goal.measure_behind-requires-in-loop-at-clause-second_way
measure_behind-requires-in-loop-at-clause-second_way g c =
    omega (arith, keeps_length c.args.hows.now c.loop-at.hows c.loop-at.invariant.older, belong_there c.args.hows.now c.args.row.now c.loop-at.at c.get-k.result c.requires.belong c.get-k.ensures)

pub returns-in_err-one-2-clause-older : goal.returns-in_err-one-2-clause-older
returns-in_err-one-2-clause-older g c = keeps_then c.args.hows.now c.loop-at.hows c.measure_behind-in-loop-at.new.hows c.loop-at.invariant.older c.measure_behind-in-loop-at.ensures.older

pub measure_behind-requires-in-loop-at-clause-second_value : goal.measure_behind-requires-in-loop-at-clause-second_value
measure_behind-requires-in-loop-at-clause-second_value g c =
    value_there (task c.args.setting.now).costs c.args.row.now c.loop-at.at c.get-k.result c.requires.values c.get-k.ensures

pub returns-in_err-push-clause-older : goal.returns-in_err-push-clause-older
returns-in_err-push-clause-older g c = keeps_then c.args.hows.now c.loop-at.hows c.measure_behind-in-loop-at.new.hows c.loop-at.invariant.older c.measure_behind-in-loop-at.ensures.older

pub returns-then-k-x-clause-shifted : goal.returns-then-k-x-clause-shifted
returns-then-k-x-clause-shifted g c =
    let so_far = one_shifted (task c.args.setting.now).costs c.args.hows.now c.loop-at.hows c.measure_behind-in-loop-at.new.hows c.args.m.now c.get-k.result
    c.in_ok-one-2.one c.args.row.now c.loop-at.all c.push.new.self c.loop-at.at (c.loop-at.at + 1)
    c.loop-at.invariant.so_far c.loop-at.invariant.older c.in_ok-one-2.ensures.older c.requires.way c.requires.belong
    (belong_there c.args.hows.now c.args.row.now c.loop-at.at c.get-k.result c.requires.belong c.get-k.ensures) c.get-k.ensures refl c.in_ok-one-2.ensures.last c.in_ok-one-2.ensures.cost
    c.in_ok-one-2.ensures.belongs c.in_ok-one-2.ensures.choices c.in_ok-push.ensures in
    let here = cut_here_next c.args.x c.loop-at.at (c.loop-at.at + 1) c.args.row.now c.get-k.result refl c.get-k.ensures c.if-k-x.true c.loop-at.invariant.uncut in
    so_far.1 ∙ ap (λ z. all_shifted (task c.args.setting.now).costs (chosen c.args.hows.now c.args.m.now) z) (ap (λ z. all_chosen c.args.hows.now z) here ∙ chosen_cut c.args.hows.now c.args.x c.args.row.now)

pub returns-then-k-x-clause-belong : goal.returns-then-k-x-clause-belong
returns-then-k-x-clause-belong g c =
    let so_far = one_shifted (task c.args.setting.now).costs c.args.hows.now c.loop-at.hows c.measure_behind-in-loop-at.new.hows c.args.m.now c.get-k.result
    c.in_ok-one-2.one c.args.row.now c.loop-at.all c.push.new.self c.loop-at.at (c.loop-at.at + 1)
    c.loop-at.invariant.so_far c.loop-at.invariant.older c.in_ok-one-2.ensures.older c.requires.way c.requires.belong
    (belong_there c.args.hows.now c.args.row.now c.loop-at.at c.get-k.result c.requires.belong c.get-k.ensures) c.get-k.ensures refl c.in_ok-one-2.ensures.last c.in_ok-one-2.ensures.cost
    c.in_ok-one-2.ensures.belongs c.in_ok-one-2.ensures.choices c.in_ok-push.ensures in so_far.0

pub returns-then-k-x-clause-older : goal.returns-then-k-x-clause-older
returns-then-k-x-clause-older g c = keeps_then c.args.hows.now c.loop-at.hows c.measure_behind-in-loop-at.new.hows c.loop-at.invariant.older c.measure_behind-in-loop-at.ensures.older

pub loop-at-preserved : goal.loop-at-preserved
loop-at-preserved g c =
    record {
      near = omega (arith, c.loop-at-test.true, c.len.ensures);
      older = keeps_then c.args.hows.now c.loop-at.hows c.measure_behind-in-loop-at.new.hows c.loop-at.invariant.older c.measure_behind-in-loop-at.ensures.older;
      so_far = one_shifted (task c.args.setting.now).costs c.args.hows.now c.loop-at.hows c.measure_behind-in-loop-at.new.hows c.args.m.now c.get-k.result
          c.in_ok-one-2.one c.args.row.now c.loop-at.all c.push.new.self c.loop-at.at (c.loop-at.at + 1)
          c.loop-at.invariant.so_far c.loop-at.invariant.older c.in_ok-one-2.ensures.older c.requires.way c.requires.belong
          (belong_there c.args.hows.now c.args.row.now c.loop-at.at c.get-k.result c.requires.belong c.get-k.ensures) c.get-k.ensures refl c.in_ok-one-2.ensures.last c.in_ok-one-2.ensures.cost
          c.in_ok-one-2.ensures.belongs c.in_ok-one-2.ensures.choices c.in_ok-push.ensures;
      uncut = cut_behind_next c.args.x c.loop-at.at (c.loop-at.at + 1) c.args.row.now c.get-k.result refl c.get-k.ensures c.if-k-x.false c.loop-at.invariant.uncut;
    }

pub returns-clause-shifted : goal.returns-clause-shifted
returns-clause-shifted g c =
    let all = cut_end c.args.x c.loop-at.at c.args.row.now (omega (arith, c.loop-at-test.false, c.len.ensures)) c.loop-at.invariant.uncut in
    c.loop-at.invariant.so_far.1
    ∙ ap (λ z. all_shifted (task c.args.setting.now).costs (chosen c.args.hows.now c.args.m.now) z) (ap (λ z. all_chosen c.args.hows.now z) all ∙ chosen_cut c.args.hows.now c.args.x c.args.row.now)
