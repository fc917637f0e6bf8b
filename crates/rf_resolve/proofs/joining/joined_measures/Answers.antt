-- Each turn joins one measure with the part's frontier behind it.
use Rattle.std.proofs.Common.{◌+◌, ◌≤◌, ◌∙◌, ap, arith}
use Rattle.rf_resolve.specs.declared.keys.Key.{Key}
use Rattle.rf_resolve.specs.Keys.{frontier_of}
use Rattle.rf_resolve.proofs.Joins.{behind_asked, ends_rest, first_given, rest_values, rest_belongs, step_paid, step_paid_on}
use Rattle.rf_resolve.proofs.Joined.{join_begins, join_turn, join_ends, join_short}
use Rattle.rf_resolve.proofs.joining.joined_measures.Goals as goal

pub loop-m-init : goal.loop-m-init
loop-m-init g c = record {
  ends = c.requires.ends;
  values = c.requires.values;
  belong = c.requires.belong;
  known = c.requires.known;
  on = join_begins _ _ _ c.args.hows.now c.args.part c.args.measures.now c.none-joined.result c.none-joined.ensures;
  risen = omega arith;
  paid = omega arith;
}

pub through-key-requires : goal.through-key-requires
through-key-requires g c =
    behind_asked _ _ c.args.part c.behind.result c.loop-m.left.now c.in-Some.rest.now c.in-Some.m.now c.requires.asked c.loop-m.invariant.ends c.in-Some.ensures.cases.0 c.behind.ensures

pub add_behind-requires : goal.add_behind-requires
add_behind-requires g c = record {
  asked = c.through-key.ensures.asked;
  holds = c.requires.holds;
  given = (first_given _ _ c.args.memo.now c.args.part c.behind.result c.through-key.result c.loop-m.left.now c.in-Some.rest.now c.in-Some.m.now
      c.in-Some.ensures.cases.0 c.behind.ensures c.through-key.ensures.seen c.loop-m.invariant.known).0;
  joined_ordered = c.loop-m.invariant.on.ordered;
  joined_values = c.loop-m.invariant.on.values;
  value = (rest_values _ c.loop-m.left.now c.in-Some.rest.now c.in-Some.m.now c.in-Some.ensures.cases.0 c.loop-m.invariant.values).0;
  belongs = (rest_belongs c.args.hows.now c.loop-m.left.now c.in-Some.rest.now c.in-Some.m.now c.in-Some.ensures.cases.0 c.loop-m.invariant.belong).0;
  plans = c.loop-m.invariant.on.plans;
}

pub returns-in_err-joined-clause-steps : goal.returns-in_err-joined-clause-steps
returns-in_err-joined-clause-steps g c =
    step_paid c.args.setting.now.limit c.loop-m.left.now c.in-Some.rest.now c.in-Some.m.now _ _ _ c.args.steps.now c.loop-m.steps c.add_behind.new.steps c.in-Some.ensures.cases.0
    (join_short _ _ _ c.args.hows.now c.args.part c.args.measures.now c.loop-m.left.now c.loop-m.joined c.loop-m.invariant.on)
    (let most : c.args.setting.now.limit + 1 ≤ c.args.setting.now.limit + 1 = omega arith in most)
    c.loop-m.invariant.risen c.loop-m.invariant.paid c.add_behind.ensures.steps

pub loop-m-preserved : goal.loop-m-preserved
loop-m-preserved g c =
    let paid = step_paid_on c.args.setting.now.limit c.loop-m.left.now c.in-Some.rest.now c.in-Some.m.now _ _ _ c.args.steps.now c.loop-m.steps c.add_behind.new.steps c.in-Some.ensures.cases.0
    (join_short _ _ _ c.args.hows.now c.args.part c.args.measures.now c.loop-m.left.now c.loop-m.joined c.loop-m.invariant.on)
    (let most : c.args.setting.now.limit + 1 ≤ c.args.setting.now.limit + 1 = omega arith in most)
    c.loop-m.invariant.risen c.loop-m.invariant.paid c.add_behind.ensures.steps in
    record {
      ends = ends_rest _ c.loop-m.left.now c.in-Some.rest.now c.in-Some.m.now c.loop-m.invariant.ends c.in-Some.ensures.cases.0;
      values = (rest_values _ c.loop-m.left.now c.in-Some.rest.now c.in-Some.m.now c.in-Some.ensures.cases.0 c.loop-m.invariant.values).1;
      belong = (rest_belongs c.args.hows.now c.loop-m.left.now c.in-Some.rest.now c.in-Some.m.now c.in-Some.ensures.cases.0 c.loop-m.invariant.belong).1;
      known = (first_given _ _ c.args.memo.now c.args.part c.behind.result c.through-key.result c.loop-m.left.now c.in-Some.rest.now c.in-Some.m.now
          c.in-Some.ensures.cases.0 c.behind.ensures c.through-key.ensures.seen c.loop-m.invariant.known).1;
      on = join_turn _ (g.met.F.Factory.lawful c.args.setting.now.factory.now) _ _ c.args.hows.now c.args.part c.args.measures.now c.loop-m.left.now c.in-Some.rest.now
          (frontier_of _ _ _ c.through-key.result) c.in-Some.m.now
          c.loop-m.joined c.in_ok-joined.joined c.args.setting.now.narrow c.requires.asked c.loop-m.invariant.values c.in-Some.ensures.cases.0
          (c.through-key.ensures.same ∙ ap (λ (k : Key). frontier_of (g.F.Factory.costs c.args.setting.now.factory.now) c.args.setting.now.limit c.args.setting.now.core.now.nodes k) c.behind.ensures)
          c.in_ok-joined.ensures.chosen c.in_ok-joined.ensures.plans c.in_ok-joined.ensures.ordered c.in_ok-joined.ensures.values c.loop-m.invariant.on;
      risen = paid.0;
      paid = paid.1;
    }

pub returns-clause-joined : goal.returns-clause-joined
returns-clause-joined g c =
    join_ends _ (g.met.F.Factory.lawful c.args.setting.now.factory.now) _ _ c.args.hows.now c.args.part c.args.measures.now c.loop-m.left.now c.loop-m.joined c.in_default.ensures.cases c.loop-m.invariant.on
