-- Each line end costs a break.
use Rattle.std.proofs.Common.{◌-◌, replicate, sym, ◌∙◌, ap, subst, arith}
use Rattle.rf_base_document.specs.Render.{Break}
use Rattle.rf_base_cost.specs.Cost.{IsValue, cost_after}
use Rattle.rf_whole.proofs.FormEnds.{ends_less, no_ends}
use Rattle.rf_whole.proofs.ends.ends_cost.Goals as goal

pub add-sum-requires-clause-second : goal.add-sum-requires-clause-second
add-sum-requires-clause-second g c =
    subst (λ v. IsValue (g.F.Factory.costs c.args.factory.now) v) (sym c.newline.ensures)
    ((g.met.F.Factory.lawful c.args.factory.now).newline_is_value 0 (omega arith))

pub loop-left-preserved : goal.loop-left-preserved
loop-left-preserved g c =
    let costs = g.F.Factory.costs c.args.factory.now in
    let laws = g.met.F.Factory.lawful c.args.factory.now in
    let sum = c.add-sum.ensures ∙ ap (λ v. costs.add c.loop-left.sum v) c.newline.ensures in
    record {
      value = subst (λ v. IsValue costs v) (sym sum) (laws.add_is_value c.loop-left.sum (costs.newline 0) c.loop-left.invariant.value (laws.newline_is_value 0 (omega arith)));
      so_far = ap (λ v. cost_after costs v (replicate (c.loop-left.left - 1) (Break 0))) sum
          ∙ sym (ends_less costs c.loop-left.sum c.loop-left.left (omega (arith, c.loop-left-test.true))) ∙ c.loop-left.invariant.so_far;
    }

pub returns : goal.returns
returns g c =
    let costs = g.F.Factory.costs c.args.factory.now in
    sym (no_ends costs c.loop-left.sum c.loop-left.left (omega (arith, c.loop-left-test.false))) ∙ c.loop-left.invariant.so_far
