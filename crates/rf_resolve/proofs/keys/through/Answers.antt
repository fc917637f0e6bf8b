-- Each turn goes on to the part, and stops where there is none.
use Rattle.std.proofs.Common.{◌≡◌, ◌≤◌, ◌+◌, ◌-◌, suc, sym, ◌∙◌, arith}
use Rattle.rf_resolve.proofs.Alike.{seen_step, seen_stops, seen_none_more}
use Rattle.rf_resolve.proofs.keys.through.Goals as goal

pub returns-in-None-clause-seen : goal.returns-in-None-clause-seen
returns-in-None-clause-seen g c =
    sym (seen_stops (16 - c.loop.counter) c.args.setting.now.core.now.nodes c.args.setting.now.limit c.loop.at (sym c.part.ensures.placed ∙ c.in-None.is)) ∙ c.loop.invariant.seen_is

pub loop-preserved : goal.loop-preserved
loop-preserved g c =
    let less : 16 - c.loop.counter ≡ suc (16 - (c.loop.counter + 1)) = omega (arith, c.loop-test.true) in
    let before : c.in-Some.next.node ≤ c.args.key.node = omega (arith, c.in-Some.ensures.earlier, c.loop.invariant.earlier) in
    record {
      asked = c.in-Some.ensures.asked;
      earlier = before;
      same = c.in-Some.ensures.same ∙ c.loop.invariant.same;
      seen_is = sym (seen_step (16 - c.loop.counter) (16 - (c.loop.counter + 1)) c.args.setting.now.core.now.nodes c.args.setting.now.limit c.loop.at c.in-Some.next less (sym c.part.ensures.placed ∙ c.in-Some.is))
          ∙ c.loop.invariant.seen_is;
    }

pub returns-clause-seen : goal.returns-clause-seen
returns-clause-seen g c =
    let none : 16 - c.loop.counter ≡ 0 = omega (arith, c.loop-test.false) in
    sym (seen_none_more (16 - c.loop.counter) c.args.setting.now.core.now.nodes c.args.setting.now.limit c.loop.at none) ∙ c.loop.invariant.seen_is
