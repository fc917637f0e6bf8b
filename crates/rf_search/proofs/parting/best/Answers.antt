-- What is chosen from the beginning is best.
use Rattle.std.proofs.Common.{◌∙◌, false, Some, subst}
use Rattle.rf_search.specs.Sought.{task}
use Rattle.rf_search.specs.Parting.{IsPart, IsFirstPart}
use Rattle.rf_search.proofs.Told.{is_document}
use Rattle.rf_search.proofs.Nodes.{is_column}
use Rattle.rf_search.proofs.Partly.{best_within, best_by_parts}
use Rattle.rf_search.proofs.parting.best.Goals as goal

pub returns-in-Some : goal.returns-in-Some
returns-in-Some g c =
    let d = (task c.args.setting.now).documents.document c.args.root in
    let told = c.requires.holds.told in
    best_within (task c.args.setting.now).costs told.lawful c.args.setting.now.sought.limit d c.first.new.choices.items c.in-Some.field-0 (is_column (task c.args.setting.now) c.args.found.now.hows told) (is_document (task c.args.setting.now) c.args.found.now.hows c.args.root told)
    (subst (λ old. IsFirstPart (task c.args.setting.now).costs c.args.setting.now.sought.limit d false 0 0 old c.first.new.choices.items (Some c.in-Some.field-0)) c.requires.none
    (subst (λ last. IsFirstPart (task c.args.setting.now).costs c.args.setting.now.sought.limit d false 0 0 c.args.choices.now.items c.first.new.choices.items last) c.in-Some.is c.in_ok-first.ensures.part))

pub returns-in-Some-2 : goal.returns-in-Some-2
returns-in-Some-2 g c =
    let d = (task c.args.setting.now).documents.document c.args.root in
    let told = c.requires.holds.told in
    let first = subst (λ last. IsFirstPart (task c.args.setting.now).costs c.args.setting.now.sought.limit d false 0 0 c.args.choices.now.items c.first.new.choices.items last) c.in-None.is c.in_ok-first.ensures.part in
    best_by_parts (task c.args.setting.now).costs told.lawful c.args.setting.now.sought.limit d c.by_parts.new.choices.items c.in-Some-2.field-0 (is_column (task c.args.setting.now) c.args.found.now.hows told) (is_document (task c.args.setting.now) c.args.found.now.hows c.args.root told) first.0
    (subst (λ old. IsPart (task c.args.setting.now).costs c.args.setting.now.sought.limit d false 0 0 old c.by_parts.new.choices.items (Some c.in-Some-2.field-0)) (first.1 ∙ c.requires.none)
    (subst (λ last. IsPart (task c.args.setting.now).costs c.args.setting.now.sought.limit d false 0 0 c.first.new.choices.items c.by_parts.new.choices.items last) c.in-Some-2.is c.in_ok-by_parts-in-None.ensures.part))
