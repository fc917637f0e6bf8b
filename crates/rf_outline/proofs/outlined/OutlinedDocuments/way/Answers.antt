-- The way of a line that is known.
use Rattle.std.proofs.Common.{Option, length, refl, sym, subst, arith}
use Rattle.std.proofs.lemmas.Bool.Decides.{nat_tests}
use Rattle.std.proofs.lemmas.Option.{slice_get_read}
use Rattle.rf_base_document.specs.Graph.{unfolded}
use Rattle.rf_outline.specs.declared.facts.Known.{Known}
use Rattle.rf_outline.specs.Documents.{IsWayOf}
use Rattle.rf_outline.specs.Outlined.{told_of}
use Rattle.rf_outline.proofs.Tellings.{way_known}
use Rattle.rf_outline.proofs.outlined.OutlinedDocuments.way.Goals as goal

pub returns-in-Some-clause-way : goal.returns-in-Some-clause-way
returns-in-Some-clause-way c =
    let ways = c.args.hows.now in
    let d = unfolded c.args.self.now.graph.now c.args.node.0 in
    let list = c.args.self.now.known.now in
    let there = slice_get_read list (length list) c.args.node.0 c.in-Some.known.now refl (grind (arith, nat_tests, c.in-Some.ensures.lookup.0)) c.in-Some.ensures.lookup.1 in
    let facts = way_known ways c.args.self.now.graph.now c.args.self.now.known.now c.args.node.0 c.args.flat c.in-Some.known.now c.requires.1 there in
    subst (λ (o : Option Known). IsWayOf ways d c.args.flat (told_of o c.args.flat).span c.way.result) (sym there)
    (c.way.ensures d c.args.flat facts)
