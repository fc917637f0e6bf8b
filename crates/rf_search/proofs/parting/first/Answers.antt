-- The best layout within the width, or none where nothing stands behind nothing.
use Rattle.std.proofs.Common.{refl, ap, ◌∙◌, arith}
use Rattle.rf_base_optimum.specs.Plain.{leaf_measure}
use Rattle.rf_base_optimum.proofs.Frontier.{plain_past}
use Rattle.rf_frontier.specs.Ways.{choices_of}
use Rattle.rf_search.specs.Sought.{task}
use Rattle.rf_frontier.proofs.Ways.{keeps_same}
use Rattle.rf_frontier.proofs.ToCome.{true_holds}
use Rattle.rf_search.proofs.Given.{given_back, goes_on_given}
use Rattle.rf_search.proofs.Shifts.{belong_there}
use Rattle.rf_search.proofs.Beginnings.{nothing_asked, nothing_behind, first_part}
use Rattle.rf_search.proofs.parting.first.Goals as goal

pub returns-then-column-setting-clause-part : goal.returns-then-column-setting-clause-part
returns-then-column-setting-clause-part g c =
    (λ s core. plain_past (task c.args.setting.now).costs c.args.setting.now.sought.limit s c.args.column c.args.place.indentation c.if-column-setting.true, refl)

pub after-requires-clause-asked : goal.after-requires-clause-asked
after-requires-clause-asked g c =
    nothing_asked (task c.args.setting.now) c.args.found.now.hows c.args.place.node c.args.column c.leaf_measure-onward.result c.requires.holds.told c.requires.room
    c.if-column-setting.false (c.leaf_measure-onward.ensures.measure ∙ ap (λ z. leaf_measure c.args.column z) c.text.ensures) c.leaf_measure-onward.ensures.belongs

pub returns-then-len-eq0-clause-part : goal.returns-then-len-eq0-clause-part
returns-then-len-eq0-clause-part g c = (
  nothing_behind (task c.args.setting.now) c.args.found.now.hows c.take-kept.new.self.hows c.args.place.node c.args.place.flat c.args.column c.args.place.indentation c.leaf_measure-onward.result c.take-kept.result
      c.requires.holds.told c.if-column-setting.false (c.leaf_measure-onward.ensures.measure ∙ ap (λ z. leaf_measure c.args.column z) c.text.ensures) (given_back (task c.args.setting.now) c.args.found.now.hows c.after.new.found.hows c.take-kept.new.self.hows c.args.place.node c.args.place.flat c.args.place.indentation c.args.setting.now.sought.limit c.leaf_measure-onward.result _ c.take-kept.result c.take-kept.ensures.ways c.take-kept.ensures.taken c.in_ok-behind.ensures.given)
      (omega (arith, c.len.ensures, c.if-len-eq0.true)),
  refl,
)

pub unfold-requires-clause-id : goal.unfold-requires-clause-id
unfold-requires-clause-id g c = belong_there c.take-kept.new.self.hows c.take-kept.result 0 c.get-m.result (given_back (task c.args.setting.now) c.args.found.now.hows c.after.new.found.hows c.take-kept.new.self.hows c.args.place.node c.args.place.flat c.args.place.indentation c.args.setting.now.sought.limit c.leaf_measure-onward.result _ c.take-kept.result c.take-kept.ensures.ways c.take-kept.ensures.taken c.in_ok-behind.ensures.given).0 c.get-m.ensures

pub returns-clause-part : goal.returns-clause-part
returns-clause-part g c =
    let by = first_part (task c.args.setting.now) c.args.found.now.hows c.take-kept.new.self.hows c.args.place.node c.args.place.flat c.args.column c.args.place.indentation c.leaf_measure-onward.result c.get-m.result c.take-kept.result
    c.requires.holds.told c.if-column-setting.false (c.leaf_measure-onward.ensures.measure ∙ ap (λ z. leaf_measure c.args.column z) c.text.ensures) (given_back (task c.args.setting.now) c.args.found.now.hows c.after.new.found.hows c.take-kept.new.self.hows c.args.place.node c.args.place.flat c.args.place.indentation c.args.setting.now.sought.limit c.leaf_measure-onward.result _ c.take-kept.result c.take-kept.ensures.ways c.take-kept.ensures.taken c.in_ok-behind.ensures.given) c.get-m.ensures in
    (by.0, (choices_of c.take-kept.new.self.hows c.get-m.result.how.0, true_holds c.in_ok-unfold.field-0 _ c.if-not-branch.false c.in_ok-unfold.ensures.choices, by.1))

pub returns-then-len-eq0-clause-holds : goal.returns-then-len-eq0-clause-holds
returns-then-len-eq0-clause-holds g c = (goes_on_given (task c.args.setting.now) c.after.new.found c.take-kept.new.self c.after.new.found.hows c.take-kept.ensures.ways c.take-kept.ensures.rows (keeps_same c.after.new.found.hows) c.in_ok-behind.ensures.goes_on.holds).holds

pub returns-clause-holds : goal.returns-clause-holds
returns-clause-holds g c = (goes_on_given (task c.args.setting.now) c.after.new.found c.take-kept.new.self c.after.new.found.hows c.take-kept.ensures.ways c.take-kept.ensures.rows (keeps_same c.after.new.found.hows) c.in_ok-behind.ensures.goes_on.holds).holds
