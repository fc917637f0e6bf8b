-- The way of the line of a cell that is known, and that of no choice of all else.
use Rattle.std.proofs.Common.{◌≡◌, Some, List, slice_get, refl, sym, subst}
use Rattle.rf_base_document.specs.declared.directions.Dir.{Dir}
use Rattle.rf_frontier.proofs.Ways.{keeps_same}
use Rattle.rf_outline.specs.Documents.{Told}
use Rattle.rf_outline.specs.declared.facts.Line.{Line}
use Rattle.rf_outline.specs.Known.{LineHolds}
use Rattle.rf_outline.specs.Outlined.{span_of}
use Rattle.rf_rows.specs.declared.nodes.Node.{Node}
use Rattle.rf_rows.specs.declared.nodes.Node.TheVariants.{Laid}
use Rattle.rf_outline.specs.Documents.{IsWayOf, SpanHolds}
use Rattle.rf_rows.specs.Nodes.{node_doc}
use Rattle.rf_rows.specs.Telling.{told_node}
use Rattle.rf_rows.proofs.Slices.{get_some}
use Rattle.rf_rows.proofs.Tellings.{alone_span, cell_facts, laid_line, told_cell_is}
use Rattle.rf_rows.proofs.told.ToldRowsDocuments.way.Goals as goal

pub returns-in-None-clause-older : goal.returns-in-None-clause-older
returns-in-None-clause-older c = keeps_same c.args.hows.now

pub returns-in-Some-clause-way : goal.returns-in-Some-clause-way
returns-in-Some-clause-way c =
    let ways = c.args.hows.now in
    let rows = c.args.self.now.laid.rows.now in
    let list = c.args.self.now.known.now in
    let d = node_doc rows.pieces.items rows.cells.items c.args.node in
    let there : slice_get list c.in-Cell.k ≡ Some c.in-Some.known.now = get_some c.in-Cell.k refl c.in-Some.ensures.lookup.0 c.in-Some.ensures.lookup.1 in
    subst (λ (t : Told). IsWayOf ways d c.args.flat t.span c.way.result) (sym (told_cell_is rows.pieces.items rows.cells.items list c.args.node c.in-Cell.k c.in-Some.known.now c.args.flat c.in-Cell.is there))
    (c.way.ensures d c.args.flat (cell_facts ways rows.pieces.items rows.cells.items list c.args.node c.in-Cell.k c.in-Some.known.now c.args.flat c.requires.1 c.in-Cell.is there))

pub returns-in-Some-clause-older : goal.returns-in-Some-clause-older
returns-in-Some-clause-older c = keeps_same c.args.hows.now

pub returns-in_default : goal.returns-in_default
returns-in_default c =
    let rows = c.args.self.now.laid.rows.now in
    record {
      way = (
        c.first-in_default.ensures.in_ways,
        subst (λ (how : List Dir). SpanHolds (node_doc rows.pieces.items rows.cells.items c.args.node) c.args.flat (told_node rows.pieces.items rows.cells.items c.args.self.now.known.now c.args.node c.args.flat).span how) (sym c.first-in_default.ensures.choices)
            (alone_span rows.pieces.items rows.cells.items c.args.self.now.known.now c.args.node c.args.flat c.in_default.not-Cell c.in_default.not-Laid),
      );
      older = keeps_same c.args.hows.now;
    }

pub returns-in-Laid-clause-way : goal.returns-in-Laid-clause-way
returns-in-Laid-clause-way c =
    let ways = c.args.hows.now in
    let rows = c.args.self.now.laid.rows.now in
    let ps = rows.pieces.items in
    let cs = rows.cells.items in
    let list = c.args.self.now.known.now in
    let d = node_doc ps cs (Laid c.in-Laid.k c.in-Laid.which) in
    subst (λ (n : Node). IsWayOf ways (node_doc ps cs n) c.args.flat (told_node ps cs list n c.args.flat).span c.way-in-Laid.result) (sym c.in-Laid.is)
    (subst (λ (l : Line). IsWayOf ways d c.args.flat (span_of l) c.way-in-Laid.result) c.line_of_laid.ensures
    (c.way-in-Laid.ensures d c.args.flat
    (subst (λ (l : Line). LineHolds ways d c.args.flat l) (sym c.line_of_laid.ensures) (laid_line ways ps cs list c.in-Laid.k c.in-Laid.which c.args.flat c.args.self.now.laid.rows.now.stand.cells c.requires.1))))

pub returns-in-Laid-clause-older : goal.returns-in-Laid-clause-older
returns-in-Laid-clause-older c = keeps_same c.args.hows.now
