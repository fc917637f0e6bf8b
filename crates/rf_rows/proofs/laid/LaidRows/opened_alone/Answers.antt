-- A leaf is its piece.
use Rattle.std.proofs.Common.{◌≡◌, refl, sym, ap, ◌∙◌, subst, Some, None, Option, List, ℕ, slice_get}
use Rattle.rf_base_document.specs.Document.{Text}
use Rattle.rf_outline.specs.Documents.{IsOpened}
use Rattle.rf_rows.specs.declared.pieces.Piece.{Piece}
use Rattle.rf_rows.specs.declared.nodes.Node.{Node}
use Rattle.rf_rows.specs.Nodes.{node_doc, leaf_doc}
use Rattle.rf_rows.proofs.Slices.{get_some, get_none}
use Rattle.rf_rows.proofs.Empty.{no_chars}
use Rattle.rf_rows.proofs.laid.LaidRows.opened_alone.Goals as goal

pub returns-in-Some : goal.returns-in-Some
returns-in-Some c =
    let rows = c.args.self.now.rows.now in
    let f = node_doc rows.pieces.items rows.cells.items in
    let found : slice_get rows.pieces.items c.in-Leaf.e ≡ Some c.in-Some.piece.now = get_some c.in-Leaf.e c.deref.ensures.value c.in-Some.ensures.lookup.0 c.in-Some.ensures.lookup.1 in
    subst (λ (n : Node). IsOpened f (f n) c.opened_leaf.result) (sym c.in-Leaf.is)
    (subst (λ (o : Option Piece). IsOpened f (leaf_doc c.in-Leaf.fill o) c.opened_leaf.result) (sym found) (c.opened_leaf.ensures f refl))

pub returns-in-None : goal.returns-in-None
returns-in-None c =
    let rows = c.args.self.now.rows.now in
    let f = node_doc rows.pieces.items rows.cells.items in
    let none : slice_get rows.pieces.items c.in-Leaf.e ≡ None = get_none c.in-Leaf.e c.deref.ensures.value c.in-None.ensures.lookup.0 in
    ap f c.in-Leaf.is ∙ ap (leaf_doc c.in-Leaf.fill) none ∙ ap (λ (s : List ℕ). Text s 0) (sym no_chars)
