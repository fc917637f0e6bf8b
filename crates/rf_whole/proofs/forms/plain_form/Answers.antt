-- The document has a layout, and what is chosen of its core picks one.
use Rattle.std.proofs.Common.{◌∙◌, Err, refl, sym, ap, subst, List}
use Rattle.rf_base_document.specs.declared.directions.Dir.{Dir}
use Rattle.rf_base_document.specs.Picks.{HasPicked}
use Rattle.rf_base_document.proofs.Graph.{StandsFor-documents, StandsFor-within}
use Rattle.rf_base_optimum.specs.Chosen.{choose}
use Rattle.rf_whole.proofs.Formed.{width_is_column, no_layout_apart, found, cored, formed, formed_long}
use Rattle.rf_whole.proofs.TooLong.{resolved_long, walked_long, told_long}
use Rattle.rf_whole.proofs.forms.plain_form.Goals as goal

pub simplify-requires : goal.simplify-requires
simplify-requires g c = let t = c.requires.document in StandsFor-within c.args.graph.now c.args.root.0 t.0 t.1

pub unreachable-requires : goal.unreachable-requires
unreachable-requires g c =
    let t = c.requires.document in
    no_layout_apart t.0 t.2 ((rw c.in_default.is at c.in_ok-core.ensures.none) t.0 t.1)

pub returns-in_err-found-clause-too_long : goal.returns-in_err-found-clause-too_long
returns-in_err-found-clause-too_long g c is d stands =
    let f = found d c.in-Some.core ((rw c.in-Some.is at c.in_ok-core.ensures.core) d stands) in
    let costs = g.F.Factory.costs c.args.factory.now in
    let core = cored costs c.args.limit d f.s (choose costs c.args.limit f.s 0 0).choices (g.met.F.Factory.lawful c.args.factory.now)
    (width_is_column c.args.limit c.requires.width) f.is
    (StandsFor-documents c.in-Some.core.nodes c.in-Some.core.root f.s c.root.ensures.is_graph f.stands) refl in
    let long = resolved_long c.in_err-found.field-0.0 (told_long _ _ c.from_residual-in_err-found.ensures.1 is) in
    formed_long costs c.args.limit d f.s (choose costs c.args.limit f.s 0 0).choices core
    (c.resolved.ensures.too_long (c.in_err-found.was ∙ ap Err long) f.s core.core_laid.0 f.stands core.core_laid.1)

pub write_core-requires : goal.write_core-requires
write_core-requires g c =
    let t = c.requires.document in
    let f = found t.0 c.in-Some.core ((rw c.in-Some.is at c.in_ok-core.ensures.core) t.0 t.1) in
    let core = cored (g.F.Factory.costs c.args.factory.now) c.args.limit t.0 f.s c.in_ok-found.found.choices.items (g.met.F.Factory.lawful c.args.factory.now)
    (width_is_column c.args.limit c.requires.width) f.is
    (StandsFor-documents c.in-Some.core.nodes c.in-Some.core.root f.s c.root.ensures.is_graph f.stands) (c.in_ok-found.ensures.chosen f.s f.stands) in
    (f.s, f.stands, subst (λ (l : List Dir). HasPicked f.s l) (sym c.deref.ensures.value) (core.core_laid.0, core.core_laid.1))

pub returns-in_err-written-clause-too_long : goal.returns-in_err-written-clause-too_long
returns-in_err-written-clause-too_long g c is d stands =
    let f = found d c.in-Some.core ((rw c.in-Some.is at c.in_ok-core.ensures.core) d stands) in
    let costs = g.F.Factory.costs c.args.factory.now in
    let choices = c.in_ok-found.found.choices.items in
    let core = cored costs c.args.limit d f.s choices (g.met.F.Factory.lawful c.args.factory.now) (width_is_column c.args.limit c.requires.width) f.is
    (StandsFor-documents c.in-Some.core.nodes c.in-Some.core.root f.s c.root.ensures.is_graph f.stands) (c.in_ok-found.ensures.chosen f.s f.stands) in
    let long = walked_long c.in_err-written.field-0.0 (told_long _ _ c.from_residual-in_err-written.ensures.1 is) in
    formed_long costs c.args.limit d f.s choices core
    ((rw c.deref.ensures.value at c.write_core.ensures.too_long) (c.in_err-written.was ∙ ap Err long) f.s core.core_laid.0 f.stands core.core_laid.1)

pub returns-clause-form : goal.returns-clause-form
returns-clause-form g c = λ d stands.
    let f = found d c.in-Some.core ((rw c.in-Some.is at c.in_ok-core.ensures.core) d stands) in
    let costs = g.F.Factory.costs c.args.factory.now in
    let choices = c.in_ok-found.found.choices.items in
    let core = cored costs c.args.limit d f.s choices (g.met.F.Factory.lawful c.args.factory.now) (width_is_column c.args.limit c.requires.width) f.is
    (StandsFor-documents c.in-Some.core.nodes c.in-Some.core.root f.s c.root.ensures.is_graph f.stands) (c.in_ok-found.ensures.chosen f.s f.stands) in
    formed costs c.args.limit d f.s choices c.in_ok-found.found.within core c.in_ok-written.written
    ((rw c.deref.ensures.value at c.in_ok-written.ensures.written) f.s core.core_laid.0 f.stands core.core_laid.1)
    (c.in_ok-found.ensures.within f.s f.stands)
