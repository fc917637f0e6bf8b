-- Each turn puts a direction before the way.
use Rattle.std.proofs.Common.{◌∷◌, ◌-◌, get_or, sym, ◌∙◌, ap, refl, arith}
use Rattle.rf_base_document.specs.declared.directions.Dir.TheVariants.{Left}
use Rattle.rf_frontier.proofs.Ways.{keeps_same, keeps_then}
use Rattle.rf_rows.proofs.Turns.{drop_whole, drop_before}
use Rattle.rf_rows.proofs.known_layouts.way_of.Goals as goal

pub loop-at-init : goal.loop-at-init
loop-at-init c = record {
  within = omega arith;
  in_ways = c.first-way.ensures.in_ways;
  choices = c.first-way.ensures.choices ∙ sym (drop_whole c.args.turns.now _ refl);
  older = keeps_same c.args.hows.now;
}

pub returns-in_err-way-clause-older : goal.returns-in_err-way-clause-older
returns-in_err-way-clause-older c = keeps_then c.args.hows.now c.loop-at.hows _ c.loop-at.invariant.older c.behind.ensures.older

pub loop-at-preserved : goal.loop-at-preserved
loop-at-preserved c = record {
  within = omega (arith, c.loop-at.invariant.within);
  in_ways = c.in_ok-way.ensures.in_ways;
  choices = c.in_ok-way.ensures.choices ∙ ap (λ l. get_or c.args.turns.now (c.loop-at.at - 1) Left ∷ l) c.loop-at.invariant.choices ∙ sym (drop_before c.args.turns.now (c.loop-at.at - 1) c.loop-at.at Left (omega (arith, c.loop-at-test.true)) c.loop-at.invariant.within);
  older = keeps_then c.args.hows.now c.loop-at.hows _ c.loop-at.invariant.older c.in_ok-way.ensures.older;
}
