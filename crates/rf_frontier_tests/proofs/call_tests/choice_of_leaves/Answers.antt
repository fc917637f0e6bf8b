-- Marked leaves of values are frontiers of values, and ways that were there stay.
use Rattle.std.proofs.Common.{arith}
use Rattle.std.proofs.lemmas.Result.{IfOk-weaker}
use Rattle.rf_frontier.proofs.Steps.{same_value}
use Rattle.rf_frontier.proofs.Ways.{keeps_then}
use Rattle.rf_frontier.proofs.Behind.{belong_keeps}
use Rattle.rf_frontier_tests.proofs.call_tests.choice_of_leaves.Goals as goal

pub merge-requires : goal.merge-requires
merge-requires g c =
    let text = same_value (g.F.Factory.costs c.args.factory.now) c.text-text.result ((g.F.Factory.costs c.args.factory.now).text 0 9) c.text-text.ensures
    ((g.met.F.Factory.lawful c.args.factory.now).text_is_value 0 9 (omega arith) (omega arith)) in
    let newline = same_value (g.F.Factory.costs c.args.factory.now) c.newline-newline.result ((g.F.Factory.costs c.args.factory.now).newline 4) c.newline-newline.ensures
    ((g.met.F.Factory.lawful c.args.factory.now).newline_is_value 4 (omega arith)) in
    record {
      first = c.in_ok-left.ensures.ordered (g.F.Factory.costs c.args.factory.now) (c.in_ok-short.ensures.ordered (g.F.Factory.costs c.args.factory.now));
      second = c.in_ok-right.ensures.ordered (g.F.Factory.costs c.args.factory.now) (c.in_ok-line.ensures.ordered (g.F.Factory.costs c.args.factory.now));
      first_values = c.in_ok-left.ensures.values (g.F.Factory.costs c.args.factory.now) (c.in_ok-short.ensures.values (g.F.Factory.costs c.args.factory.now) text);
      second_values = c.in_ok-right.ensures.values (g.F.Factory.costs c.args.factory.now) (c.in_ok-line.ensures.values (g.F.Factory.costs c.args.factory.now) newline);
    }

pub returns-clause-belongs : goal.returns-clause-belongs
returns-clause-belongs g c =
    IfOk-weaker c.merge.result _ _
    (λ f p. p c.mark-2.new.hows
    (belong_keeps c.mark.new.hows c.mark-2.new.hows c.in_ok-left.left (keeps_then c.mark.new.hows c.leaf-2.new.hows c.mark-2.new.hows c.leaf-2.ensures.older c.mark-2.ensures.older) c.in_ok-left.ensures.belongs)
    c.in_ok-right.ensures.belongs)
    c.merge.ensures.belongs
