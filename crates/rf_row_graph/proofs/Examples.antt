-- Worked examples of nodes of pieces: a definition that changes its meaning fails here.
use Rattle.std.proofs.Common.{arith, length, ap, sym, subst, ◌≡◌, ℕ, zero, suc, List, [], ◌∷◌, Some, None, codes, refl}
use Rattle.rf_base_document.specs.Document as doc
use Rattle.rf_base_document.specs.Document.{Doc}
use Rattle.rf_base_document.specs.Graph.{GraphNode, TextNode, NewlineNode, HardNode, ResetNode, NestNode, StandsFor, EachStandsFor}
use Rattle.rf_doc.specs.declared.nodes.NodeId.{NodeId}
use Rattle.rf_rows.specs.declared.pieces.Fill.TheVariants as fill
use Rattle.rf_rows.specs.declared.layouts.Row.TheVariants.{Dropped, Hanging, Hung, InLine, Lines, InColumn, Columns, Column}
use Rattle.rf_rows.specs.declared.layouts.Inner.TheVariants.{Aligned, Nested}
use Rattle.rf_rows.specs.declared.layouts.Marks.{Marks}
use Rattle.rf_rows.specs.Layouts.{Filled, fill_doc}
use Rattle.rf_row_graph.specs.declared.shared.Shared.{Shared}
use Rattle.rf_row_graph.specs.declared.parts.PieceNode.{PieceNode}
use Rattle.rf_row_graph.specs.declared.parts.PieceNode.TheVariants.{Node, Gap}
use Rattle.rf_row_graph.specs.declared.parts.CellParts.{CellParts}
use Rattle.rf_row_graph.specs.Parts.{SharedStand, fill_node, piece_node, PartsStand, IsCell, inner_nodes, AreDone}
use Rattle.rf_row_graph.specs.Sizes.{row_size, inner_size}

abbrev id : ℕ → NodeId
id n = record { 0 = n }

abbrev shared : Shared
shared = record { space = id 0; newline = id 1; hard = id 2; bare_break = id 3 }

-- the shared nodes, and a nested one
abbrev graph : List GraphNode
graph = TextNode (codes " ") 1 ∷ NewlineNode ∷ HardNode ∷ ResetNode 2 ∷ NestNode 1 2 ∷ []

shared_stand : SharedStand graph shared
unfolding StandsFor
shared_stand = record { space = refl; newline = refl; hard = refl; bare_break = (2, refl, refl) }

-- a hard newline isn't one that may be flat, nor one without indentation
hard_stands : (SharedStand graph (record { space = id 0; newline = id 2; hard = id 2; bare_break = id 3 }) → ⊥)
    × (SharedStand graph (record { space = id 0; newline = id 1; hard = id 2; bare_break = id 2 }) → ⊥)
unfolding StandsFor
hard_stands = (λ h. let e = h.newline in cc, λ h. let e = h.bare_break.1 in cc)

-- each gap is filled by its own node, and a piece is the same whatever fills gaps
fill_nodes : (fill_node shared fill.Space ≡ 0) × (fill_node shared fill.Newline ≡ 1) × (fill_node shared fill.Hard ≡ 2)
fill_nodes = (refl, refl, refl)

piece_nodes : (piece_node shared fill.Space (Node (id 4)) ≡ 4) × (piece_node shared fill.Hard (Node (id 4)) ≡ 4) × (piece_node shared fill.Hard Gap ≡ 2)
piece_nodes = (refl, refl, refl)

-- a piece, and a gap behind it
abbrev docs : Filled
docs f = doc.Nest 1 doc.Hard ∷ fill_doc f ∷ []

parts_stand : PartsStand graph shared (Node (id 4) ∷ Gap ∷ []) docs
unfolding EachStandsFor StandsFor
parts_stand fill.Space = ((2, refl, refl), (refl, tt))
parts_stand fill.Newline = ((2, refl, refl), (refl, tt))
parts_stand fill.Hard = ((2, refl, refl), (refl, tt))

-- a gap isn't a space in each layout
spaces_stand : PartsStand graph shared (Node (id 4) ∷ Node (id 0) ∷ []) docs → ⊥
unfolding EachStandsFor StandsFor
spaces_stand h = let e = (h fill.Hard).1.0 in cc

-- a cell of them has its slots among them
two_parts : (cell : CellParts) → cell.shared ≡ shared → cell.pieces.now ≡ Node (id 4) ∷ Gap ∷ [] → cell.marks.first ≡ 1 → cell.marks.second ≡ 2 →
    cell.marks.bodies ≡ 2 → IsCell graph cell
two_parts cell same is a b c =
    record {
      docs = docs;
      stand = subst (λ (l : List PieceNode). PartsStand graph cell.shared l docs) (sym is)
          (subst (λ (s : Shared). PartsStand graph s (Node (id 4) ∷ Gap ∷ []) docs) (sym same) parts_stand);
      marks = record {
        first = omega (arith, a, b);
        second = omega (arith, b, c);
        bodies = omega (arith, c, ap (λ (l : List PieceNode). length l) is);
      };
    }

few_parts : (cell : CellParts) → cell.pieces.now ≡ Node (id 4) ∷ Gap ∷ [] → cell.marks.bodies ≡ 3 → IsCell graph cell → ⊥
few_parts cell is c h = omega (arith, c, ap (λ (l : List PieceNode). length l) is, h.marks.bodies)

-- the node of another row, if there is one
nodes_of_inner : (inner_nodes None ≡ []) × (inner_nodes (Some (id 4)) ≡ 4 ∷ [])
nodes_of_inner = (refl, refl)

-- cells are numbered from 0
abbrev told : ℕ → Doc
told zero = doc.Hard
told (suc k) = doc.Nest 1 doc.Hard

done_are : AreDone graph told (id 2 ∷ id 4 ∷ []) × (AreDone graph told (id 4 ∷ id 4 ∷ []) → ⊥)
unfolding StandsFor
done_are = (both, λ h. let e = h 0 (id 4) refl in cc) where
  both : AreDone graph told (id 2 ∷ id 4 ∷ [])
  both zero n is = let same : id 2 ≡ n = cc in subst (λ (m : NodeId). StandsFor graph m.0 doc.Hard) same refl
  both (suc zero) n is = let same : id 4 ≡ n = cc in subst (λ (m : NodeId). StandsFor graph m.0 (doc.Nest 1 doc.Hard)) same (2, refl, refl)
  both (suc (suc k)) n is = cc

-- rows of seven pieces, of which the second slot is the third and bodies begin behind five
abbrev marks : Marks
marks = record { first = 1; second = 2; bodies = 5; fill = fill.Hard }

sizes : (row_size marks 7 Dropped ≡ 8) × (row_size marks 7 Hanging ≡ 9) × (row_size marks 7 Hung ≡ 6) × (row_size marks 7 InLine ≡ 9)
    × (row_size marks 7 Lines ≡ 7) × (row_size marks 7 InColumn ≡ 10) × (row_size marks 7 Columns ≡ 8) × (row_size marks 7 Column ≡ 4)
sizes = (refl, refl, refl, refl, refl, refl, refl, refl)

inner_sizes : (inner_size marks 7 None ≡ 0) × (inner_size marks 7 (Some (Aligned Column)) ≡ 5) × (inner_size marks 7 (Some (Nested Lines)) ≡ 8)
inner_sizes = (refl, refl, refl)
