-- The documents of a row in sequence, and how many nodes they take.
use Rattle.std.proofs.Common.{◌≡◌, ℕ, zero, suc, ◌+◌, ◌-◌, ◌*◌, ◌<◌, ◌≤◌, List, [], ◌∷◌, ◌++◌, length, map, Option, None, Some, sym, ap, subst, ◌∙◌, arith}
use Rattle.std.specs.List.{All, slice_range}
use Rattle.std.proofs.lemmas.List.{append_assoc}
use Rattle.rf_base_document.specs.Document.{Doc}
use Rattle.rf_base_document.specs.Sequence.{seq}
use Rattle.rf_base_document.specs.Graph.{GraphNode, StandsFor, EachStandsFor}
use Rattle.rf_doc.specs.declared.nodes.NodeId.{NodeId}
use Rattle.rf_doc.specs.Nodes.{numbers, joints, StandsOverAll}
use Rattle.rf_rows.specs.declared.pieces.Fill.TheVariants as fill
use Rattle.rf_rows.specs.declared.layouts.Row.{Row}
use Rattle.rf_rows.specs.declared.layouts.Row.TheVariants.{Dropped, Hanging, Hung, InLine, Lines, InColumn, Columns, Column}
use Rattle.rf_rows.specs.declared.layouts.Inner.{Inner}
use Rattle.rf_rows.specs.declared.layouts.Inner.TheVariants.{Aligned, Nested}
use Rattle.rf_rows.specs.declared.layouts.Strip.{Strip}
use Rattle.rf_rows.specs.declared.layouts.Marks.{Marks}
use Rattle.rf_rows.specs.Layouts.{Filled, strip_of, strip_docs, inner_doc, inner_docs, row_doc, AreMarks}
use Rattle.rf_rows.proofs.Strips.{row_is_seq, length_inner}
use Rattle.rf_base_document.proofs.Graph.{EachStandsFor-length}
use Rattle.rf_rows.specs.Nodes.{inner_length}
use Rattle.rf_rows.proofs.Frames.{depth_of}
use Rattle.rf_row_graph.specs.declared.parts.CellParts.{CellParts}
use Rattle.rf_row_graph.specs.Parts.{piece_node, CellStands, inner_nodes}
use Rattle.rf_row_graph.specs.Sizes.{row_size, inner_size}
use Rattle.rf_row_graph.proofs.Standing.{each_both, each_below, each_one, each_none, parts_sliced}

-- the nodes of the parts of a row
abbrev pub head_nodes : CellParts → Strip → List ℕ
head_nodes cell s = map (piece_node cell.shared fill.Space) (slice_range cell.pieces.now s.head s.head_end)

abbrev pub tail_nodes : CellParts → Strip → List ℕ
tail_nodes cell s = map (piece_node cell.shared s.fill) (slice_range cell.pieces.now s.tail s.tail_end)

abbrev pub strip_nodes : CellParts → Strip → Option NodeId → List ℕ
strip_nodes cell s inner = head_nodes cell s ++ (inner_nodes inner ++ tail_nodes cell s)

abbrev pub docs_with : Filled → Strip → List Doc → List Doc
docs_with docs s ds = slice_range (docs fill.Space) s.head s.head_end ++ (ds ++ slice_range (docs s.fill) s.tail s.tail_end)

pub strip_each : (g : List GraphNode) (cell : CellParts) (s : Strip) (inner : Option NodeId) (docs : Filled) (ds : List Doc) → CellStands g cell docs →
    EachStandsFor g (inner_nodes inner) ds → EachStandsFor g (strip_nodes cell s inner) (docs_with docs s ds)
strip_each g cell s inner docs ds stand each =
    each_both g (head_nodes cell s) (inner_nodes inner ++ tail_nodes cell s) (slice_range (docs fill.Space) s.head s.head_end) (ds ++ slice_range (docs s.fill) s.tail s.tail_end)
    (parts_sliced g cell.shared cell.pieces.now docs fill.Space s.head s.head_end stand)
    (each_both g (inner_nodes inner) (tail_nodes cell s) ds (slice_range (docs s.fill) s.tail s.tail_end) each
    (parts_sliced g cell.shared cell.pieces.now docs s.fill s.tail s.tail_end stand))

-- they are put one behind another
pub put_together : (cell : CellParts) (s : Strip) (inner : Option NodeId) (a b c d : List NodeId) → a ≡ [] → numbers b ≡ numbers a ++ head_nodes cell s →
    numbers c ≡ numbers b ++ inner_nodes inner → numbers d ≡ numbers c ++ tail_nodes cell s → numbers d ≡ strip_nodes cell s inner
put_together cell s inner a b c d none first second third =
    third ∙ ap (λ (l : List ℕ). l ++ tail_nodes cell s) (second ∙ ap (λ (l : List ℕ). l ++ inner_nodes inner) (first ∙ ap (λ (l : List NodeId). numbers l ++ head_nodes cell s) none))
    ∙ append_assoc (head_nodes cell s) (inner_nodes inner) (tail_nodes cell s)

pub strip_below : (g : List GraphNode) (cell : CellParts) (s : Strip) (inner : Option NodeId) (ns : List ℕ) (docs : Filled) (ds : List Doc) → CellStands g cell docs →
    EachStandsFor g (inner_nodes inner) ds → ns ≡ strip_nodes cell s inner → All (λ n. n < length g) ns
strip_below g cell s inner ns docs ds stand each is =
    subst (λ (l : List ℕ). All (λ n. n < length g) l) (sym is) (each_below g (strip_nodes cell s inner) (docs_with docs s ds) (strip_each g cell s inner docs ds stand each))

pub strip_seq : (g h : List GraphNode) (cell : CellParts) (s : Strip) (inner : Option NodeId) (ns : List ℕ) (id : ℕ) → ns ≡ strip_nodes cell s inner → StandsOverAll g ns seq h id →
    (docs : Filled) (ds : List Doc) → CellStands g cell docs → EachStandsFor g (inner_nodes inner) ds → StandsFor h id (seq (docs_with docs s ds))
strip_seq g h cell s inner ns id is over docs ds stand each =
    over (docs_with docs s ds) (subst (λ (l : List ℕ). EachStandsFor g l (docs_with docs s ds)) (sym is) (strip_each g cell s inner docs ds stand each))

-- a row takes no more nodes than its size
joints_few : (n : ℕ) → joints n ≤ n + 1
joints_few zero = omega arith
joints_few (suc n) = omega arith

joints_some : (a b : ℕ) → joints (a + (1 + b)) ≡ a + b
joints_some a b = let e : a + (1 + b) ≡ suc (a + b) = omega arith in ap joints e

pub row_fits : (m : Marks) (count n : ℕ) (row : Row) (s : Strip) → AreMarks m count → s ≡ strip_of m count row → n ≡ inner_length s.inner →
    joints ((s.head_end - s.head) + (n + (s.tail_end - s.tail))) + inner_size m count s.inner ≤ row_size m count row
row_fits m count n row s h is one =
    subst (λ (t : Strip). joints ((t.head_end - t.head) + (n + (t.tail_end - t.tail))) + inner_size m count t.inner ≤ row_size m count row) (sym is)
    (fits row (one ∙ ap (λ (t : Strip). inner_length t.inner) is))
  where
    fits : (row : Row) → n ≡ inner_length (strip_of m count row).inner →
        joints (((strip_of m count row).head_end - (strip_of m count row).head) + (n + ((strip_of m count row).tail_end - (strip_of m count row).tail)))
        + inner_size m count (strip_of m count row).inner ≤ row_size m count row
    fits Dropped e = omega (arith, e, joints_few ((0 - 0) + (n + (count - 0))))
    fits Hanging e = subst (λ k. joints ((m.second - 0) + (k + (count - count))) + ((count - m.second) + 1 + 1) ≤ count + 2) (sym e) (omega (arith, joints_some (m.second - 0) (count - count), h.second, h.bodies))
    fits Hung e = omega (arith, e, joints_few ((m.second - m.second) + (n + (count - m.second))))
    fits InLine e = subst (λ k. joints ((m.first - 0) + (k + (count - count))) + ((count - m.first) + 1 + 1) ≤ count + 2) (sym e) (omega (arith, joints_some (m.first - 0) (count - count), h.first, h.second, h.bodies))
    fits Lines e = omega (arith, e, joints_few ((m.bodies - m.first) + (n + (count - m.bodies))), h.first, h.second, h.bodies)
    fits InColumn e = subst (λ k. joints ((m.first - 0) + (k + (count - count))) + ((count - m.first) + 2 + 1) ≤ count + 3) (sym e) (omega (arith, joints_some (m.first - 0) (count - count), h.first, h.second, h.bodies))
    fits Columns e = subst (λ k. joints ((m.second - m.first) + (k + (count - m.bodies))) + ((m.bodies - m.second) + 1 + 1) ≤ (count - m.first) + 2) (sym e) (omega (arith, joints_some (m.second - m.first) (count - m.bodies), h.first, h.second, h.bodies))
    fits Column e = omega (arith, e, joints_few ((m.second - m.second) + (n + (m.bodies - m.second))))

-- how deep rows stand in a row
abbrev pub inner_depth : Option Inner → ℕ
inner_depth None = 0
inner_depth (Some (Aligned row)) = 2 * depth_of row + 2
inner_depth (Some (Nested row)) = 2 * depth_of row + 2

-- the other row in a row
pub inner_stands : (g : List GraphNode) (f : Row → Doc) (o : Option Inner) (inner : Inner) (n : ℕ) → o ≡ Some inner → StandsFor g n (inner_doc f inner) →
    EachStandsFor g (n ∷ []) (inner_docs f o)
inner_stands g f o inner n is stands = subst (λ (p : Option Inner). EachStandsFor g (n ∷ []) (inner_docs f p)) (sym is) (each_one g n (inner_doc f inner) stands)

pub no_inner_stands : (g : List GraphNode) (f : Row → Doc) (o : Option Inner) → o ≡ None → EachStandsFor g [] (inner_docs f o)
no_inner_stands g f o is = subst (λ (p : Option Inner). EachStandsFor g [] (inner_docs f p)) (sym is) (each_none g)

pub inner_many : (g : List GraphNode) (f : Row → Doc) (o : Option Inner) (inner : Option NodeId) → EachStandsFor g (inner_nodes inner) (inner_docs f o) → length (inner_nodes inner) ≡ inner_length o
inner_many g f o inner each = sym (EachStandsFor-length g (inner_nodes inner) (inner_docs f o) each) ∙ length_inner f o

-- a row is what it is made of, in sequence
pub row_as : (m : Marks) (count : ℕ) (docs : Filled) (row : Row) (s : Strip) → s ≡ strip_of m count row →
    row_doc m count docs row ≡ seq (docs_with docs s (inner_docs (row_doc m count docs) s.inner))
row_as m count docs row s is =
    row_is_seq m count docs row ∙ ap (λ (t : Strip). seq (strip_docs docs (row_doc m count docs) t)) (sym is)
