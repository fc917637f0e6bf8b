-- The first measure of the root tells whether anything is within, and the walk takes what is chosen.
use Rattle.std.proofs.Common.{◌∙◌, Err, ap, sym, arith}
use Rattle.std.proofs.lemmas.Result.{err_from_is_err_and}
use Rattle.rf_resolve.proofs.Fills.{paid_and_most}
use Rattle.rf_resolve.proofs.Resolutions.{empty_holds, chosen_picks, chosen_at, heavy_is_long, long_is_chosen, within_at, gaps_resolve, fault_is, layout_is_long}
use Rattle.rf_resolve.proofs.resolving.resolve.Goals as goal

pub first_measure-requires-clause-holds : goal.first_measure-requires-clause-holds
first_measure-requires-clause-holds g c = empty_holds _ _ _ _ _ c.in_ok-hows.ensures c.new-memo.ensures

pub returns-in_err-first_measure-clause-steps : goal.returns-in_err-first_measure-clause-steps
returns-in_err-first_measure-clause-steps g c = gaps_resolve c.new-memo.result _ c.args.limit _ _ c.first_measure.ensures.steps

pub returns-in_err-choices-clause-too_long : goal.returns-in_err-choices-clause-too_long
returns-in_err-choices-clause-too_long g c is =
    let p = err_from_is_err_and c.from_residual-in_err-choices.result c.from_residual-in_err-choices.ensures.1 in
    let same = sym p.2 ∙ fault_is c.from_residual-in_err-choices.result p.0 p.1 is in
    heavy_is_long _ (g.met.F.Factory.lawful c.args.factory.now) c.args.limit _ _ c.requires.width c.root.ensures.is_graph c.root.ensures.is_core
    (c.chosen_choices.ensures.too_long (c.in_err-choices.was ∙ ap Err same))

pub returns-in_err-choices-clause-steps : goal.returns-in_err-choices-clause-steps
returns-in_err-choices-clause-steps g c =
    gaps_resolve c.new-memo.result _ c.args.limit _ _ (paid_and_most c.args.limit _ _ _ _ _ c.in_ok-first_measure.ensures.paid c.chosen_choices.ensures.steps)

pub measure-requires : goal.measure-requires
measure-requires g c =
    chosen_picks _ (g.met.F.Factory.lawful c.args.factory.now) c.args.limit _ _ c.deref.result.now c.requires.width c.root.ensures.is_graph (omega (arith, c.root.ensures.root, c.root.ensures.in_core)) c.root.ensures.is_core (c.deref.ensures.value ∙ c.in_ok-choices.ensures.choices)

pub returns-in_err-total-clause-too_long : goal.returns-in_err-total-clause-too_long
returns-in_err-total-clause-too_long g c is =
    let p = err_from_is_err_and c.from_residual-in_err-total.result c.from_residual-in_err-total.ensures.1 in
    let long = layout_is_long c.in_err-total.field-0.0 p.0 p.2 (fault_is c.from_residual-in_err-total.result p.0 p.1 is) in
    long_is_chosen _ c.args.limit _ _ c.deref.result.now c.root.ensures.is_graph c.root.ensures.is_core (c.deref.ensures.value ∙ c.in_ok-choices.ensures.choices)
    (c.measure.ensures.too_long (c.in_err-total.was ∙ ap Err long))

pub returns-in_err-total-clause-steps : goal.returns-in_err-total-clause-steps
returns-in_err-total-clause-steps g c =
    gaps_resolve c.new-memo.result _ c.args.limit _ _ (paid_and_most c.args.limit _ _ _ _ _ c.in_ok-first_measure.ensures.paid c.chosen_choices.ensures.steps)

pub returns-clause-chosen : goal.returns-clause-chosen
returns-clause-chosen g c d stands = c.in_ok-choices.ensures.choices ∙ chosen_at _ c.args.limit _ _ d c.root.ensures.is_graph (c.root.ensures.is_core d stands) stands

pub returns-clause-within : goal.returns-clause-within
returns-clause-within g c = within_at _ (g.met.F.Factory.lawful c.args.factory.now) c.args.limit _ _ _ _ _ c.requires.width c.root.ensures.is_graph c.root.ensures.is_core (rw c.root.ensures.root at c.in_ok-first_measure.ensures.first) c.is_some-within.ensures

pub returns-clause-steps : goal.returns-clause-steps
returns-clause-steps g c =
    gaps_resolve c.new-memo.result _ c.args.limit _ _ (paid_and_most c.args.limit _ _ _ _ _ c.in_ok-first_measure.ensures.paid c.chosen_choices.ensures.steps)
