-- The pieces of a cell as nodes of a graph, and what they stand for.
use Rattle.std.specs.Prelude.{◌≡◌, ℕ, List, [], ◌∷◌, Option, None, Some, length, map, slice_get}
use Rattle.rf_base_document.specs.Document.{Doc, Newline, Hard}
use Rattle.rf_base_document.specs.Graph.{GraphNode, StandsFor, EachStandsFor}
use Rattle.rf_base_file.specs.Rows.{bare_break}
use Rattle.rf_doc.specs.declared.nodes.NodeId.{NodeId}
use Rattle.rf_rows.specs.declared.pieces.Fill.{Fill}
use Rattle.rf_rows.specs.declared.pieces.Fill.TheVariants as fill
use Rattle.rf_rows.specs.Layouts.{Filled, fill_doc, AreMarks}
use Rattle.rf_row_graph.specs.declared.shared.Shared.{Shared}
use Rattle.rf_row_graph.specs.declared.parts.PieceNode.{PieceNode}
use Rattle.rf_row_graph.specs.declared.parts.PieceNode.TheVariants.{Node, Gap}
use Rattle.rf_row_graph.specs.declared.parts.CellParts.{CellParts}

-- the shared nodes stand for what their names say
pub record SharedStand (g : List GraphNode) (shared : Shared) : Type 0 where
  pub space : StandsFor g shared.space.0 (fill_doc fill.Space)
  pub newline : StandsFor g shared.newline.0 Newline
  pub hard : StandsFor g shared.hard.0 Hard
  pub bare_break : StandsFor g shared.bare_break.0 bare_break

-- the node of what stands in a gap
abbrev pub fill_node : Shared → Fill → ℕ
fill_node shared fill.Space = shared.space.0
fill_node shared fill.Newline = shared.newline.0
fill_node shared fill.Hard = shared.hard.0

-- the node of a piece with this in its gap
abbrev pub piece_node : Shared → Fill → PieceNode → ℕ
piece_node shared f (Node id) = id.0
piece_node shared f Gap = fill_node shared f

-- the pieces stand for these documents, whatever fills their gaps
abbrev pub PartsStand : List GraphNode → Shared → List PieceNode → Filled → Type 0
PartsStand g shared nodes docs = (f : Fill) → EachStandsFor g (map (piece_node shared f) nodes) (docs f)

-- the pieces of a cell do
abbrev pub CellStands : List GraphNode → CellParts → Filled → Type 0
CellStands g cell docs = PartsStand g cell.shared cell.pieces.now docs

-- the pieces of a cell stand for some documents, and its slots in order
pub record IsCell (g : List GraphNode) (cell : CellParts) : Type 0 where
  pub docs : Filled
  pub stand : CellStands g cell docs
  pub marks : AreMarks cell.marks (length cell.pieces.now)

-- the node of the row that stands as one in another row, if there is one
abbrev pub inner_nodes : Option NodeId → List ℕ
inner_nodes None = []
inner_nodes (Some id) = id.0 ∷ []

-- the nodes of the first cells, in order, where cells are told by f
abbrev pub AreDone : List GraphNode → (ℕ → Doc) → List NodeId → Type 0
AreDone g f done = (k : ℕ) (id : NodeId) → slice_get done k ≡ Some id → StandsFor g id.0 (f k)
