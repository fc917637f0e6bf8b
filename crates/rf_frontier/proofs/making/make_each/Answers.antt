-- Each turn of the loop makes one more way.
use Rattle.std.proofs.Common.{◌≡◌, ◌<◌, length, refl, sym, ◌∙◌, arith, rules}
use Rattle.rf_frontier.proofs.Ways.{keeps_same, keeps_then}
use Rattle.rf_frontier.proofs.Steps.{is_some}
use Rattle.rf_frontier.proofs.Made.{plan_at, plan_keeps, make_begins, make_turn, make_ends}
use Rattle.rf_frontier.proofs.making.make_each.Goals as goal

pub loop-left-init : goal.loop-left-init
loop-left-init g c = record {
  making = make_begins c.args.hows.now c.in_ok-made.made.items c.args.planned.now c.in_ok-made.ensures.items c.requires (keeps_same c.args.hows.now);
  few_more = omega arith;
}

pub behind-requires-clause-before : goal.behind-requires-clause-before
behind-requires-clause-before g c =
    let some : 0 < length c.loop-left.left.now = is_some (length c.loop-left.left.now) (sym c.is_empty.ensures ∙ c.loop-left-test.true) in
    (plan_keeps c.args.hows.now c.loop-left.hows c.index-left-0.result.how c.loop-left.invariant.making.3
    (plan_at c.args.hows.now c.loop-left.left.now c.index-left-0.result c.loop-left.invariant.making.2 some c.index-left-0.is)).0

pub behind-requires-clause-id : goal.behind-requires-clause-id
behind-requires-clause-id g c =
    let some : 0 < length c.loop-left.left.now = is_some (length c.loop-left.left.now) (sym c.is_empty.ensures ∙ c.loop-left-test.true) in
    (plan_keeps c.args.hows.now c.loop-left.hows c.index-left-0.result.how c.loop-left.invariant.making.3
    (plan_at c.args.hows.now c.loop-left.left.now c.index-left-0.result c.loop-left.invariant.making.2 some c.index-left-0.is)).1

pub returns-in_err-how-clause-older : goal.returns-in_err-how-clause-older
returns-in_err-how-clause-older g c = keeps_then c.args.hows.now c.loop-left.hows c.behind.new.self c.loop-left.invariant.making.3 c.behind.ensures.older

pub returns-in_err-push-clause-older : goal.returns-in_err-push-clause-older
returns-in_err-push-clause-older g c = keeps_then c.args.hows.now c.loop-left.hows c.behind.new.self c.loop-left.invariant.making.3 c.behind.ensures.older

pub loop-left-preserved : goal.loop-left-preserved
loop-left-preserved g c =
    let some : 0 < length c.loop-left.left.now = is_some (length c.loop-left.left.now) (sym c.is_empty.ensures ∙ c.loop-left-test.true) in
    record {
      making = make_turn c.args.hows.now c.loop-left.hows c.behind.new.self c.loop-left.made.items c.push.new.self.items c.loop-left.left.now c.rest-left.result.now c.args.planned.now c.index-left-0.result _ c.in_ok-how.how
          c.loop-left.invariant.making some c.index-left-0.is c.rest-left.ensures.rest c.behind.ensures.older c.in_ok-how.ensures.in_ways c.in_ok-how.ensures.choices refl c.in_ok-push.ensures.items;
      few_more = omega (arith, c.behind.ensures.few_more);
    }

pub returns-clause-chosen : goal.returns-clause-chosen
returns-clause-chosen g c =
    let none : length c.loop-left.left.now ≡ 0 = search rules in
    make_ends c.args.hows.now c.loop-left.hows c.loop-left.made.items c.loop-left.left.now c.args.planned.now none c.loop-left.invariant.making
