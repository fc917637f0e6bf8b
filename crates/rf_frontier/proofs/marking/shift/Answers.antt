-- What is raised and put behind the choices of the left measure is shifted.
use Rattle.std.proofs.Common.{◌≡◌, ◌≤◌, length, ap, arith}
use Rattle.rf_frontier.proofs.Behind.{shifted_is, shifted_length, shifted_belongs}
use Rattle.rf_frontier.specs.Ways.{choices_of}
use Rattle.rf_frontier.proofs.Steps.{same_values}
use Rattle.rf_frontier.proofs.Raises.{raised_values}
use Rattle.rf_frontier.proofs.Results.{is_ordered, are_values, behind_ordered, behind_values}
use Rattle.rf_frontier.proofs.marking.shift.Goals as goal

pub put_behind-requires : goal.put_behind-requires
put_behind-requires g c = record {
  before = c.requires.left_belongs;
  belong = shifted_belongs (g.F.Factory.costs c.args.factory.now) c.args.left.now.cost c.args.hows.now c.in_ok-shifted.shifted c.measures.result.now c.args.right.now
      c.in_ok-shifted.ensures.raised c.measures.ensures c.requires.belongs;
}

pub returns-in_err-put_behind-clause-few_more : goal.returns-in_err-put_behind-clause-few_more
returns-in_err-put_behind-clause-few_more g c =
    let fewer : length c.in_ok-shifted.shifted ≤ length c.args.right.now =
    shifted_length (g.F.Factory.costs c.args.factory.now) c.args.left.now.cost c.in_ok-shifted.shifted c.measures.result.now c.args.right.now c.in_ok-shifted.ensures.raised c.measures.ensures in
    omega (arith, c.put_behind.ensures.few_more)

pub returns : goal.returns
returns g c =
    let costs = g.F.Factory.costs c.args.factory.now in
    let laws = g.met.F.Factory.lawful c.args.factory.now in
    let raised = raised_values costs laws c.args.left.now.cost c.measures.result.now c.requires.left_value
    (same_values costs c.measures.result.now c.args.right.now c.measures.ensures c.requires.values) in
    let before = choices_of c.args.hows.now c.args.left.now.how.0 in
    let fewer : length c.in_ok-shifted.shifted ≤ length c.args.right.now =
    shifted_length costs c.args.left.now.cost c.in_ok-shifted.shifted c.measures.result.now c.args.right.now c.in_ok-shifted.ensures.raised c.measures.ensures in
    let same : length c.measures.result.now ≡ length c.args.right.now = ap length c.measures.ensures in
    record {
      shifted = shifted_is costs c.args.hows.now c.put_behind.new.hows c.args.left.now c.put_behind.new.self c.in_ok-shifted.shifted c.measures.result.now c.args.right.now
          c.in_ok-shifted.ensures.raised c.measures.ensures c.in_ok-put_behind.ensures.chosen;
      ordered = behind_ordered c.args.hows.now c.put_behind.new.hows c.in_ok-shifted.shifted c.put_behind.new.self before c.in_ok-put_behind.ensures.chosen costs
          (is_ordered costs laws c.in_ok-shifted.shifted _ raised c.in_ok-shifted.ensures.raised);
      values = behind_values c.args.hows.now c.put_behind.new.hows c.in_ok-shifted.shifted c.put_behind.new.self before c.in_ok-put_behind.ensures.chosen costs
          (are_values costs c.in_ok-shifted.shifted _ raised c.in_ok-shifted.ensures.raised);
      belongs = c.in_ok-put_behind.ensures.belong;
      older = c.put_behind.ensures.older;
      few_more = omega (arith, c.put_behind.ensures.few_more);
      steps = (omega (arith, c.raise.ensures.steps), omega (arith, c.raise.ensures.steps));
    }
