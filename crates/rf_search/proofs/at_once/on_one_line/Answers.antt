-- What is told of a node says what stands behind a measure of it.
use Rattle.std.proofs.Common.{List, [], refl, sym, ◌∙◌, subst, arith}
use Rattle.rf_base_document.specs.declared.directions.Dir.{Dir}
use Rattle.rf_outline.specs.declared.documents.Span.{Span}
use Rattle.rf_outline.specs.Documents.{SpanHolds}
use Rattle.rf_search.specs.Sought.{task}
use Rattle.rf_search.proofs.Told.{told_at, goes_on_same}
use Rattle.rf_search.proofs.Nodes.{long_text_found, nothing_found}
use Rattle.rf_search.proofs.at_once.on_one_line.Goals as goal

pub returns-in-Nothing-clause-known : goal.returns-in-Nothing-clause-known
returns-in-Nothing-clause-known g c =
    let known = told_at (task c.args.setting.now) c.args.found.now.hows c.args.place.now.node c.args.place.now.flat ((task c.args.setting.now).documents.told c.args.place.now.node c.args.place.now.flat) c.requires.holds.told refl in
    let nothing = subst (λ (z : Span). (how : List Dir) × SpanHolds ((task c.args.setting.now).documents.document c.args.place.now.node) c.args.place.now.flat z how) (sym c.span.ensures ∙ c.in-Nothing.is) known.0 in
    nothing_found (task c.args.setting.now) c.args.found.now.hows c.args.place.now.node c.args.place.now.flat c.args.place.now.indentation c.args.place.now.cut c.args.m.now [] nothing refl

pub returns-in-Nothing-clause-goes_on : goal.returns-in-Nothing-clause-goes_on
returns-in-Nothing-clause-goes_on g c = goes_on_same (task c.args.setting.now) c.args.found.now c.requires.holds

pub returns-in-Text-clause-known : goal.returns-in-Text-clause-known
returns-in-Text-clause-known g c =
    let known = told_at (task c.args.setting.now) c.args.found.now.hows c.args.place.now.node c.args.place.now.flat ((task c.args.setting.now).documents.told c.args.place.now.node c.args.place.now.flat) c.requires.holds.told refl in
    let line = subst (λ (z : Span). (how : List Dir) × SpanHolds ((task c.args.setting.now).documents.document c.args.place.now.node) c.args.place.now.flat z how) (sym c.span.ensures ∙ c.in-Text.is) known.0 in
    long_text_found (task c.args.setting.now) c.args.found.now.hows c.args.place.now.node c.args.place.now.flat c.args.place.now.indentation c.args.place.now.cut c.in-Text.len c.args.m.now []
    c.requires.holds.told line (omega (arith, c.if-len-setting.true)) refl

pub returns-in-Text-clause-goes_on : goal.returns-in-Text-clause-goes_on
returns-in-Text-clause-goes_on g c = goes_on_same (task c.args.setting.now) c.args.found.now c.requires.holds

pub returns-in_default-clause-goes_on : goal.returns-in_default-clause-goes_on
returns-in_default-clause-goes_on g c = goes_on_same (task c.args.setting.now) c.args.found.now c.requires.holds

pub returns-in_default-2-clause-goes_on : goal.returns-in_default-2-clause-goes_on
returns-in_default-2-clause-goes_on g c = goes_on_same (task c.args.setting.now) c.args.found.now c.requires.holds
