-- One piece more of a cell, and one cell more.
use Rattle.std.proofs.Common.{inl, inr, ◌≡◌, ℕ, zero, suc, ◌+◌, ◌*◌, ◌<◌, ◌≤◌, List, [], ◌∷◌, ◌++◌, length, map, take, get_or, Some, slice_get, sym, ap, ap₂, subst, ◌∙◌, arith}
use Rattle.std.proofs.lemmas.List.{length-append, map_push, map_more, take_more}
use Rattle.rf_base_document.specs.Document.{Doc}
use Rattle.rf_base_document.specs.Graph.{GraphNode, StandsFor, EachStandsFor}
use Rattle.rf_base_document.proofs.Graph.{slice_get-added, StandsFor-within}
use Rattle.rf_doc.specs.declared.nodes.NodeId.{NodeId}
use Rattle.rf_doc.specs.Nodes.{Extends}
use Rattle.rf_rows.specs.declared.pieces.Fill.{Fill}
use Rattle.rf_rows.specs.declared.pieces.Fill.TheVariants as fill
use Rattle.rf_rows.specs.declared.pieces.Piece.{Piece}
use Rattle.rf_rows.specs.declared.pieces.Piece.TheVariants.{Cell}
use Rattle.rf_rows.specs.declared.layouts.Marks.{Marks}
use Rattle.rf_rows.specs.Layouts.{cell_doc, AreMarks}
use Rattle.rf_rows.proofs.Opened.{stands_at, count_of}
use Rattle.std.proofs.lemmas.Option.{slice_get-get_or}
use Rattle.rf_row_graph.specs.declared.parts.CellParts.{CellParts}
use Rattle.rf_rows.specs.declared.cells.Cell as declared
use Rattle.rf_rows.specs.Cells.{piece_doc, filled_by, pieces_of, cell_at, IsBelow, CellsStand}
use Rattle.rf_rows.specs.Sizes.{cells_size}
use Rattle.rf_rows.proofs.Growth.{cells_size-push}
use Rattle.rf_rows.proofs.Unfolding.{cell_unfolds}
use Rattle.rf_row_graph.specs.declared.shared.Shared.{Shared}
use Rattle.rf_row_graph.specs.declared.parts.PieceNode.{PieceNode}
use Rattle.rf_row_graph.specs.Parts.{piece_node, PartsStand, IsCell, AreDone}
use Rattle.rf_row_graph.proofs.Standing.{each_both, each_one, each_none, parts_kept}

-- no piece, and one more
pub no_part : (g : List GraphNode) (shared : Shared) (nodes : List PieceNode) (f : ℕ → Doc) → nodes ≡ [] → PartsStand g shared nodes (filled_by f [])
no_part g shared nodes f none = λ fill.
    subst (λ (l : List PieceNode). EachStandsFor g (map (piece_node shared fill) l) []) (sym none) (each_none g)

pub one_part_more : (g h : List GraphNode) (shared : Shared) (nodes more : List PieceNode) (node : PieceNode) (f : ℕ → Doc) (pieces : List Piece) (i : ℕ) (d : Piece) →
    i < length pieces → more ≡ nodes ++ node ∷ [] → Extends g h → PartsStand g shared nodes (filled_by f (take i pieces)) →
    ((fill : Fill) → StandsFor h (piece_node shared fill node) (piece_doc f fill (get_or pieces i d))) → PartsStand h shared more (filled_by f (take (i + 1) pieces))
one_part_more g h shared nodes more node f pieces i d less is extends before stands = λ fill.
    subst (λ (ns : List ℕ). EachStandsFor h ns (map (piece_doc f fill) (take (i + 1) pieces)))
    (sym (ap (λ (l : List PieceNode). map (piece_node shared fill) l) is ∙ map_push (piece_node shared fill) nodes node))
    (subst (λ (ds : List Doc). EachStandsFor h (map (piece_node shared fill) nodes ++ piece_node shared fill node ∷ []) ds)
    (sym (map_more (piece_doc f fill) pieces i d less))
    (each_both h (map (piece_node shared fill) nodes) (piece_node shared fill node ∷ []) (map (piece_doc f fill) (take i pieces)) (piece_doc f fill (get_or pieces i d) ∷ [])
    (parts_kept g h shared nodes (filled_by f (take i pieces)) extends before fill)
    (each_one h (piece_node shared fill node) (piece_doc f fill (get_or pieces i d)) (stands fill))))

pub one_done_more : (g : List GraphNode) (f : ℕ → Doc) (done more : List NodeId) (id : NodeId) (k : ℕ) → more ≡ done ++ id ∷ [] → length done ≡ k → AreDone g f done →
    StandsFor g id.0 (f k) → AreDone g f more
one_done_more g f done more id k is long before stands j other at =
    elim (slice_get-added done id j other (ap (λ (l : List NodeId). slice_get l j) (sym is) ∙ at)) [
      | inl h ↦ before j other h
      | inr h ↦ subst (λ (o : NodeId). StandsFor g o.0 (f j)) h.1 (subst (λ (n : ℕ). StandsFor g id.0 (f n)) (sym (h.0 ∙ long)) stands)
    ]

-- the cell of a piece stands before
pub done_found : (g : List GraphNode) (f : ℕ → Doc) (done : List NodeId) (k : ℕ) (d : NodeId) (p : Piece) (gap : Fill) → p ≡ Cell k → IsBelow (length done) p → AreDone g f done →
    StandsFor g (get_or done k d).0 (piece_doc f gap p)
done_found g f done k d p gap is below all =
    let less : k < length done = subst (λ (q : Piece). IsBelow (length done) q) is below in
    subst (λ (q : Piece). StandsFor g (get_or done k d).0 (piece_doc f gap q)) (sym is) (all k (get_or done k d) (slice_get-get_or done k d less))

-- the pieces of a cell stand for its documents
pub is_cell : (g : List GraphNode) (cell : CellParts) (ps qs : List Piece) (cs : List declared.Cell) (k : ℕ) (c : declared.Cell) → CellsStand ps cs → slice_get cs k ≡ Some c →
    qs ≡ pieces_of ps c → length cell.pieces.now ≡ length qs → cell.marks ≡ c.marks → PartsStand g cell.shared cell.pieces.now (filled_by (cell_at ps cs) qs) → IsCell g cell
is_cell g cell ps qs cs k c stand is range count same parts =
    let here = stands_at ps cs k c stand is in
    let many : length cell.pieces.now ≡ c.count = count ∙ ap length range ∙ count_of ps k c here in
    record {
      docs = filled_by (cell_at ps cs) qs;
      stand = parts;
      marks = subst (λ (n : ℕ). AreMarks cell.marks n) (sym many) (subst (λ (m : Marks). AreMarks m c.count) (sym same) here.marks);
    }

pub cell_many : (ps qs : List Piece) (cs : List declared.Cell) (k n : ℕ) (c : declared.Cell) → CellsStand ps cs → slice_get cs k ≡ Some c → qs ≡ pieces_of ps c → n ≡ length qs → n ≡ c.count
cell_many ps qs cs k n c stand is range count = count ∙ ap length range ∙ count_of ps k c (stands_at ps cs k c stand is)

-- what its layouts stand for is the cell
pub cell_as : (g : List GraphNode) (id : ℕ) (ps qs : List Piece) (cs : List declared.Cell) (k n : ℕ) (c : declared.Cell) → CellsStand ps cs → slice_get cs k ≡ Some c →
    qs ≡ pieces_of ps c → n ≡ length qs → StandsFor g id (cell_doc c.marks n (filled_by (cell_at ps cs) qs) c.layouts) → StandsFor g id (cell_at ps cs k)
cell_as g id ps qs cs k n c stand is range count stands =
    subst (λ (d : Doc). StandsFor g id d)
    (ap₂ (λ (m : ℕ) (rs : List Piece). cell_doc c.marks m (filled_by (cell_at ps cs) rs) c.layouts) (cell_many ps qs cs k n c stand is range count) range
    ∙ sym (cell_unfolds ps cs k c stand is))
    stands

-- the piece that stands alone
alone_is : (f : Piece → Doc) (ps : List Piece) (p q : Piece) (d : Doc) → p ≡ get_or ps 0 q → map f ps ≡ d ∷ [] → f p ≡ d
alone_is f [] p q d is alone = cc
alone_is f (r ∷ ps) p q d is alone = let first : f r ≡ d = cc in ap f is ∙ first

pub node_alone : (g : List GraphNode) (n : ℕ) (shared : Shared) (node : PieceNode) (f : ℕ → Doc) (ps : List Piece) (p q : Piece) (d : Doc) → n ≡ piece_node shared fill.Newline node →
    p ≡ get_or ps 0 q → map (piece_doc f fill.Newline) ps ≡ d ∷ [] → StandsFor g (piece_node shared fill.Newline node) (piece_doc f fill.Newline p) → StandsFor g n d
node_alone g n shared node f ps p q d is first alone stands =
    subst (λ (m : ℕ). StandsFor g m d) (sym is)
    (subst (λ (e : Doc). StandsFor g (piece_node shared fill.Newline node) e) (alone_is (piece_doc f fill.Newline) ps p q d first alone) stands)

pub node_within : (g : List GraphNode) (n : ℕ) (shared : Shared) (node : PieceNode) (f : ℕ → Doc) (p : Piece) → n ≡ piece_node shared fill.Newline node →
    StandsFor g (piece_node shared fill.Newline node) (piece_doc f fill.Newline p) → n < length g
node_within g n shared node f p is stands =
    subst (λ (m : ℕ). m < length g) (sym is) (StandsFor-within g (piece_node shared fill.Newline node) (piece_doc f fill.Newline p) stands)

-- one element more
pub one_longer : {A : Type 0} (xs ys : List A) (x : A) (n : ℕ) → ys ≡ xs ++ x ∷ [] → length xs ≡ n → length ys ≡ n + 1
one_longer xs ys x n is count = ap length is ∙ length-append xs (x ∷ []) ∙ ap (λ (m : ℕ). m + 1) count

-- the size of the first cells, and of one more
pub one_size_more : (cs : List declared.Cell) (k : ℕ) (c : declared.Cell) → k < length cs → get_or cs k c ≡ c →
    cells_size (take (k + 1) cs) ≡ cells_size (take k cs) + (4 * c.count + 24)
one_size_more cs k c less is =
    ap cells_size (take_more cs k c less) ∙ ap (λ (e : declared.Cell). cells_size (take k cs ++ e ∷ [])) is ∙ cells_size-push (take k cs) c

pub first_size : (cs : List declared.Cell) (k : ℕ) → cells_size (take k cs) ≤ cells_size cs
unfolding cells_size
first_size [] zero = omega arith
first_size [] (suc k) = omega arith
first_size (c ∷ cs) zero = omega arith
first_size (c ∷ cs) (suc k) = omega (arith, first_size cs k)
