-- Nodes that stand for documents, one more of them, and in a graph of more nodes.
use Rattle.std.proofs.Common.{ℕ, ◌-◌, ◌<◌, List, [], ◌∷◌, ◌++◌, length, map, drop, subst}
use Rattle.std.specs.List.{All, slice_range}
use Rattle.std.proofs.lemmas.List.Elements.{All-nil, All-cons}
use Rattle.rf_base_document.specs.Document.{Doc}
use Rattle.rf_base_document.specs.Graph.{GraphNode, StandsFor, EachStandsFor}
use Rattle.rf_base_document.proofs.Graph.{StandsFor-within, EachStandsFor-kept, EachStandsFor-take, EachStandsFor-drop}
use Rattle.rf_doc.specs.declared.nodes.NodeId.{NodeId}
use Rattle.rf_doc.specs.Nodes.{Extends}
use Rattle.rf_doc.proofs.Extending.{extends_keeps}
use Rattle.rf_rows.specs.declared.pieces.Fill.{Fill}
use Rattle.rf_rows.specs.Layouts.{Filled}
use Rattle.rf_rows.proofs.Slices.{mapped_slice}
use Rattle.rf_row_graph.specs.declared.shared.Shared.{Shared}
use Rattle.rf_row_graph.specs.declared.parts.PieceNode.{PieceNode}
use Rattle.rf_row_graph.specs.declared.parts.CellParts.{CellParts}
use Rattle.rf_row_graph.specs.Parts.{SharedStand, piece_node, PartsStand, IsCell, AreDone}

-- in a graph of more nodes
pub shared_kept : (g h : List GraphNode) (shared : Shared) → Extends g h → SharedStand g shared → SharedStand h shared
shared_kept g h shared extends s =
    record {
      space = extends_keeps g h extends _ _ s.space;
      newline = extends_keeps g h extends _ _ s.newline;
      hard = extends_keeps g h extends _ _ s.hard;
      bare_break = extends_keeps g h extends _ _ s.bare_break;
    }

pub each_kept : (g h : List GraphNode) → Extends g h → (ns : List ℕ) (ds : List Doc) → EachStandsFor g ns ds → EachStandsFor h ns ds
each_kept g h extends ns ds each = EachStandsFor-kept g h (extends_keeps g h extends) ns ds each

pub parts_kept : (g h : List GraphNode) (shared : Shared) (nodes : List PieceNode) (docs : Filled) → Extends g h → PartsStand g shared nodes docs → PartsStand h shared nodes docs
parts_kept g h shared nodes docs extends s = λ f. each_kept g h extends (map (piece_node shared f) nodes) (docs f) (s f)

pub cell_kept : (g h : List GraphNode) (cell : CellParts) → Extends g h → IsCell g cell → IsCell h cell
cell_kept g h cell extends s =
    record {
      docs = s.docs;
      stand = parts_kept g h cell.shared cell.pieces.now s.docs extends s.stand;
      marks = s.marks;
    }

pub done_kept : (g h : List GraphNode) (f : ℕ → Doc) (done : List NodeId) → Extends g h → AreDone g f done → AreDone h f done
done_kept g h f done extends all = λ k id is. extends_keeps g h extends id.0 (f k) (all k id is)

-- nodes in a row, and a slice of them
pub each_both : (g : List GraphNode) (ns ms : List ℕ) (ds es : List Doc) → EachStandsFor g ns ds → EachStandsFor g ms es → EachStandsFor g (ns ++ ms) (ds ++ es)
unfolding EachStandsFor
each_both g [] ms [] es first second = second
each_both g [] ms (d ∷ ds) es first second = absurd first
each_both g (n ∷ ns) ms [] es first second = absurd first
each_both g (n ∷ ns) ms (d ∷ ds) es first second = (first.0, each_both g ns ms ds es first.1 second)

pub each_none : (g : List GraphNode) → EachStandsFor g [] []
unfolding EachStandsFor
each_none g = tt

pub each_one : (g : List GraphNode) (n : ℕ) (d : Doc) → StandsFor g n d → EachStandsFor g (n ∷ []) (d ∷ [])
unfolding EachStandsFor
each_one g n d s = (s, tt)

pub each_below : (g : List GraphNode) (ns : List ℕ) (ds : List Doc) → EachStandsFor g ns ds → All (λ n. n < length g) ns
unfolding EachStandsFor
each_below g [] [] each = All-nil (λ n. n < length g)
each_below g [] (d ∷ ds) each = absurd each
each_below g (n ∷ ns) [] each = absurd each
each_below g (n ∷ ns) (d ∷ ds) each = All-cons (λ m. m < length g) n ns (StandsFor-within g n d each.0) (each_below g ns ds each.1)

pub each_sliced : (g : List GraphNode) (ns : List ℕ) (ds : List Doc) (a b : ℕ) → EachStandsFor g ns ds → EachStandsFor g (slice_range ns a b) (slice_range ds a b)
each_sliced g ns ds a b each = EachStandsFor-take g (b - a) (drop a ns) (drop a ds) (EachStandsFor-drop g a ns ds each)

pub parts_sliced : (g : List GraphNode) (shared : Shared) (nodes : List PieceNode) (docs : Filled) (f : Fill) (a b : ℕ) → PartsStand g shared nodes docs →
    EachStandsFor g (map (piece_node shared f) (slice_range nodes a b)) (slice_range (docs f) a b)
parts_sliced g shared nodes docs f a b s =
    subst (λ (ns : List ℕ). EachStandsFor g ns (slice_range (docs f) a b)) (mapped_slice (piece_node shared f) nodes a b)
    (each_sliced g (map (piece_node shared f) nodes) (docs f) a b (s f))
