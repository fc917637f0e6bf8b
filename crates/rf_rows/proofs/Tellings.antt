-- What laid rows tell of their nodes holds.
use Rattle.std.proofs.lemmas.Bool.Decides.{nat_tests}
use Rattle.std.proofs.lemmas.List.{length-map}
use Rattle.std.proofs.Common.{◌≡◌, ℕ, ◌+◌, ◌≤◌, ◌<◌, ◌&&◌, ◌==◌, nat_le, if◌then◌else◌, Bool, true, false, List, [], ◌∷◌, length, refl, sym, ◌∙◌, ap, subst, Option, Some, None, slice_get, arith}
use Rattle.std.specs.List.{slice_range}
use Rattle.std.specs.Option.{option_map}
use Rattle.std.proofs.lemmas.Bool.{and_parts}
use Rattle.rf_base_document.specs.declared.directions.Dir.{Dir}
use Rattle.rf_base_document.specs.Document as doc
use Rattle.rf_base_document.specs.Document.{Doc, Align, Flatten}
use Rattle.rf_base_cut.specs.Documents.{flat_length_in, begins_in, first_begins_in, KnowsNoIndentation}
use Rattle.rf_base_cut.specs.DocumentLines.{never_free_in, OneLineIn}
use Rattle.rf_base_cut.proofs.Halves.{sequence_from_parts}
use Rattle.rf_frontier.specs.declared.hows.How.{How}
use Rattle.rf_frontier.proofs.Ways.{keeps_length}
use Rattle.rf_outline.specs.declared.documents.Leaf.TheVariants as leaf
use Rattle.rf_outline.specs.declared.documents.Span.{Span}
use Rattle.rf_outline.specs.declared.documents.Span.TheVariants as spans
use Rattle.rf_outline.specs.declared.facts.Line.{Line}
use Rattle.rf_outline.specs.declared.facts.Line.TheVariants.{Unsure}
use Rattle.rf_outline.specs.Known.{LineHolds, FactsHold, KnownHolds}
use Rattle.rf_outline.specs.Documents.{SpanHolds, LeafHolds, IsTold}
use Rattle.rf_outline.specs.Outlined.{facts_of}
use Rattle.rf_outline.proofs.Tellings.{span_holds}
use Rattle.rf_lines.proofs.Between.{some_at}
use Rattle.rf_rows.specs.declared.pieces.Fill.{Fill}
use Rattle.rf_rows.specs.declared.pieces.Fill.TheVariants as fill
use Rattle.rf_rows.specs.declared.pieces.Piece.{Piece}
use Rattle.rf_rows.specs.declared.pieces.Piece.TheVariants as piece
use Rattle.rf_rows.specs.declared.cells.Cell as declared
use Rattle.rf_rows.specs.declared.known.KnownCell.{KnownCell}
use Rattle.rf_rows.specs.declared.layouts.Row.{Row}
use Rattle.rf_rows.specs.declared.layouts.Which.{Which}
use Rattle.rf_rows.specs.declared.layouts.Marks.{Marks}
use Rattle.rf_rows.specs.declared.layouts.Layout.{Layout}
use Rattle.rf_rows.specs.declared.layouts.Layouts.{Layouts}
use Rattle.rf_rows.specs.declared.layouts.Layouts.TheVariants.{Bare, One, Two, Three, Unmade}
use Rattle.rf_rows.specs.declared.rows.Rows.{Rows}
use Rattle.rf_rows.specs.declared.nodes.Node.{Node}
use Rattle.rf_rows.specs.declared.nodes.Node.TheVariants.{Leaf, Run, Cell, Others, Laid, Unpaid, Aligned, Nested, Range, Break, Nothing}
use Rattle.rf_rows.specs.Layouts.{Filled, fill_doc, flattened, row_doc, unpaid_doc, layout_doc, cell_doc, AreMarks}
use Rattle.rf_rows.specs.Cells.{piece_doc, filled_by, pieces_of, cell_at, CellsStand}
use Rattle.rf_rows.specs.Nodes.{nothing, leaf_doc, run_docs, row_of, range_doc, of_cell, of_layout, layout_at, node_doc}
use Rattle.rf_rows.specs.Knowing.{chain, spaced, is_spaced, line_of_layout, line_of_laid, AreKnownCells}
use Rattle.rf_rows.specs.Telling.{told_newline, told_gap, told_piece, run_begins, told_cell, told_node, laid_number, cell_number, number_of, seen}
use Rattle.rf_rows.proofs.OneLines.{flat_line_holds}
use Rattle.rf_rows.proofs.Learning.{known_cell, cells_kept, spaced_row}
use Rattle.rf_rows.proofs.Slices.{get_sliced, get_mapped}
use Rattle.rf_rows.proofs.Limits.{node_document}
use Rattle.rf_rows.proofs.Unfolding.{cell_unfolds}
use Rattle.rf_rows.proofs.Opened.{count_of, range_here}
use Rattle.rf_rows.proofs.Splits.{node_sequence}

-- the spans of pieces that are no cells, without a choice
gap_span : (f : Fill) (flat : Bool) → SpanHolds (piece_doc (λ k. nothing) f piece.Gap) flat (told_gap f flat).span []
unfolding never_free_in OneLineIn flat_length_in
gap_span fill.Space flat = ((refl, refl), refl)
gap_span fill.Newline true = ((refl, refl, refl), refl)
gap_span fill.Newline false = refl
gap_span fill.Hard flat = refl

newline_span : (flat : Bool) → SpanHolds doc.Newline flat (told_newline flat).span []
unfolding never_free_in OneLineIn flat_length_in
newline_span true = ((refl, refl, refl), refl)
newline_span false = refl

piece_span : (f : Fill) (flat : Bool) (o : Option Piece) → SpanHolds (leaf_doc f o) flat (told_piece f flat o).span []
unfolding never_free_in OneLineIn flat_length_in
piece_span f flat None = ((refl, refl), refl)
piece_span f flat (Some (piece.Text len s)) = ((refl, refl), refl)
piece_span f flat (Some piece.Space) = ((refl, refl), refl)
piece_span f flat (Some piece.Newline) = newline_span flat
piece_span f flat (Some piece.Hard) = refl
piece_span f flat (Some piece.BareBreak) = refl
piece_span f flat (Some piece.Gap) = gap_span f flat
piece_span f flat (Some (piece.Cell k)) = ((refl, refl), refl)

-- a piece that is told to be one text is one without a choice
pub piece_text : (f : Fill) (flat : Bool) (p : Piece) (l : Span) (len : ℕ) → l ≡ (told_piece f flat (Some p)).span → l ≡ spans.Text len → LeafHolds (leaf_doc f (Some p)) flat (Some (leaf.Text len))
piece_text f flat p l len told is = subst (λ (s : Span). SpanHolds (leaf_doc f (Some p)) flat s []) (sym told ∙ is) (piece_span f flat (Some p))

pub alone_span : (ps : List Piece) (cs : List declared.Cell) (list : List KnownCell) (n : Node) (flat : Bool) → ((k : ℕ) → n ≡ Cell k → ⊥) →
    ((k : ℕ) (which : Which) → n ≡ Laid k which → ⊥) → SpanHolds (node_doc ps cs n) flat (told_node ps cs list n flat).span []
unfolding never_free_in OneLineIn flat_length_in
alone_span ps cs list (Leaf e f) flat never unlaid = piece_span f flat (slice_get ps e)
alone_span ps cs list (Cell k) flat never unlaid = absurd (never k refl)
alone_span ps cs list (Laid k which) flat never unlaid = absurd (unlaid k which refl)
alone_span ps cs list Break flat never unlaid = refl
alone_span ps cs list Nothing flat never unlaid = ((refl, refl), refl)
alone_span ps cs list _ flat never unlaid = tt

-- what is known of a cell
pub cell_facts : (ways : List How) (ps : List Piece) (cs : List declared.Cell) (list : List KnownCell) (n : Node) (k : ℕ) (known : KnownCell) (flat : Bool) → AreKnownCells ways ps cs list →
    n ≡ Cell k → slice_get list k ≡ Some known → FactsHold ways (node_doc ps cs n) flat (facts_of known.document flat)
cell_facts ways ps cs list n k known flat h kind is =
    subst (λ (m : Node). FactsHold ways (node_doc ps cs m) flat (facts_of known.document flat)) (sym kind) (side flat)
  where
    both : KnownHolds ways (cell_at ps cs k) known.document
    both = (known_cell ways ps cs list k known h is).document

    side : (b : Bool) → FactsHold ways (cell_at ps cs k) b (facts_of known.document b)
    side true = both.1
    side false = both.0

pub told_cell_is : (ps : List Piece) (cs : List declared.Cell) (list : List KnownCell) (n : Node) (k : ℕ) (known : KnownCell) (flat : Bool) → n ≡ Cell k → slice_get list k ≡ Some known →
    told_node ps cs list n flat ≡ told_cell (Some known) flat
told_cell_is ps cs list n k known flat kind is =
    ap (λ (m : Node). told_node ps cs list m flat) kind ∙ ap (λ (o : Option KnownCell). told_cell o flat) is

free_layout : (m : Marks) (count : ℕ) (r : Filled) (l : Layout) → l.flat ≡ true → (l.charge == 0) ≡ true → layout_doc m count r l ≡ Flatten (Align (row_doc m count r l.row))
free_layout m count r l flat free =
    ap (λ (b : Bool). if b then unpaid_doc m count r l else doc.Charge l.charge (unpaid_doc m count r l)) free
    ∙ ap (λ (b : Bool). flattened b (Align (row_doc m count r l.row))) flat

layout_line : (ways : List How) (g : ℕ → Doc) (qs : List Piece) (m : Marks) (count : ℕ) (o : Option Layout) (line : Line) (flat : Bool) → count ≡ length qs → AreMarks m count →
    LineHolds ways (chain (spaced g qs)) true line → LineHolds ways (of_layout o (layout_doc m count (filled_by g qs))) flat (line_of_layout m o line)
layout_line ways g qs m count None line flat is marks h = tt
layout_line ways g qs m count (Some l) line flat is marks h = by_test (l.flat && (l.charge == 0) && is_spaced m l.row) refl where
  d : Doc
  d = layout_doc m count (filled_by g qs) l

  by_test : (b : Bool) → (l.flat && (l.charge == 0) && is_spaced m l.row) ≡ b → LineHolds ways d flat (if b then line else Unsure)
  by_test false e = tt
  by_test true e =
      let parts = and_parts (l.flat && (l.charge == 0)) (is_spaced m l.row) e in
      let first = and_parts l.flat (l.charge == 0) parts.0 in
      subst (λ (x : Doc). LineHolds ways x flat line) (sym (free_layout m count (filled_by g qs) l first.0 first.1))
      (flat_line_holds ways (row_doc m count (filled_by g qs) l.row) flat line (spaced_row ways g qs m count l.row line is marks parts.1 h))

found_line : (ways : List How) (ps : List Piece) (cs : List declared.Cell) (list : List KnownCell) (k : ℕ) (which : Which) (flat : Bool) (oc : Option declared.Cell) (ol : Option KnownCell) →
    CellsStand ps cs → AreKnownCells ways ps cs list → slice_get cs k ≡ oc → slice_get list k ≡ ol →
    LineHolds ways (of_cell oc (λ c. of_layout (layout_at c.layouts which) (layout_doc c.marks c.count (row_of ps cs c)))) flat (line_of_laid oc ol which)
unfolding CellsStand
found_line ways ps cs list k which flat (Some c) (Some it) stand known is_cell is_known =
    layout_line ways (cell_at ps cs) (pieces_of ps c) c.marks c.count (layout_at c.layouts which) it.line flat (sym (count_of ps k c (stand k c is_cell))) (stand k c is_cell).marks
    ((known_cell ways ps cs list k it known is_known).line c is_cell)
found_line ways ps cs list k which flat _ _ stand known is_cell is_known = tt

pub laid_line : (ways : List How) (ps : List Piece) (cs : List declared.Cell) (list : List KnownCell) (k : ℕ) (which : Which) (flat : Bool) → CellsStand ps cs → AreKnownCells ways ps cs list →
    LineHolds ways (node_doc ps cs (Laid k which)) flat (line_of_laid (slice_get cs k) (slice_get list k) which)
laid_line ways ps cs list k which flat stand known = found_line ways ps cs list k which flat (slice_get cs k) (slice_get list k) stand known refl refl

-- what begins with a break
gap_begins : (f : Fill) (flat : Bool) → (told_gap f flat).begins ≡ true → begins_in (fill_doc f) flat ≡ true
unfolding begins_in
gap_begins fill.Space flat h = cc
gap_begins fill.Newline true h = cc
gap_begins fill.Newline false h = refl
gap_begins fill.Hard flat h = refl

newline_begins : (flat : Bool) → (told_newline flat).begins ≡ true → begins_in doc.Newline flat ≡ true
unfolding begins_in
newline_begins true h = cc
newline_begins false h = refl

piece_begins : (g : ℕ → Doc) (f : Fill) (flat : Bool) (p : Piece) → (told_piece f flat (Some p)).begins ≡ true → begins_in (piece_doc g f p) flat ≡ true
unfolding begins_in
piece_begins g f flat (piece.Text len s) h = cc
piece_begins g f flat piece.Space h = cc
piece_begins g f flat piece.Newline h = newline_begins flat h
piece_begins g f flat piece.Hard h = refl
piece_begins g f flat piece.BareBreak h = refl
piece_begins g f flat piece.Gap h = gap_begins f flat h
piece_begins g f flat (piece.Cell k) h = cc

leaf_begins : (f : Fill) (flat : Bool) (o : Option Piece) → (told_piece f flat o).begins ≡ true → begins_in (leaf_doc f o) flat ≡ true
leaf_begins f flat None h = cc
leaf_begins f flat (Some p) h = piece_begins (λ k. nothing) f flat p h

same_doc : {x y : Doc} → Some x ≡ Some y → x ≡ y
same_doc e = cc

first_sliced : (docs : List Doc) (from to : ℕ) (d : Doc) (flat : Bool) → from < to → slice_get docs from ≡ Some d → first_begins_in (slice_range docs from to) flat ≡ begins_in d flat
first_sliced docs from to d flat less is = at (slice_range docs from to) (get_sliced docs from to 0 (omega (arith, less)) ∙ ap (slice_get docs) (omega arith) ∙ is) where
  at : (xs : List Doc) → slice_get xs 0 ≡ Some d → first_begins_in xs flat ≡ begins_in d flat
  at [] h = cc
  at (x ∷ xs) h = ap (λ (y : Doc). begins_in y flat) (same_doc h)

both_true : (a b c : Bool) → (if a && b then c else false) ≡ true → (a ≡ true) × (b ≡ true) × (c ≡ true)
both_true true true c h = (refl, refl, h)
both_true _ _ c h = cc

run_starts : (ps : List Piece) (cs : List declared.Cell) (from to : ℕ) (f : Fill) (flat : Bool) → run_begins ps from to f flat ≡ true → begins_in (range_doc (run_docs ps cs f) from to) flat ≡ true
run_starts ps cs from to f flat begins =
    let parts = both_true (nat_le (from + 2) to) (nat_le to (length ps)) (told_piece f flat (slice_get ps from)).begins begins in
    let some : from + 2 ≤ to = grind (arith, nat_tests, parts.0) in
    let within : to ≤ length ps = grind (arith, nat_tests, parts.1) in
    let p = some_at ps from (omega (arith, some, within)) in
    let docs = run_docs ps cs f in
    ap (λ (d : Doc). begins_in d flat) (range_here docs from to some (omega (arith, within, length-map ps (piece_doc (cell_at ps cs) f))))
    ∙ (sequence_from_parts (slice_range docs from to) flat).0
    ∙ first_sliced docs from to (piece_doc (cell_at ps cs) f p.0) flat (omega (arith, some)) (get_mapped (piece_doc (cell_at ps cs) f) ps from ∙ ap (option_map (piece_doc (cell_at ps cs) f)) p.1)
    ∙ piece_begins (cell_at ps cs) f flat p.0 (ap (λ (o : Option Piece). (told_piece f flat o).begins) (sym p.1) ∙ parts.2)

-- a node of a number is the cell of that number
laid_again : (k x : ℕ) (ls : Layouts) → laid_number k ls ≡ Some x → k ≡ x
laid_again k x Bare e = cc
laid_again k x (One a) e = cc
laid_again k x (Two a b) e = cc
laid_again k x (Three a b c) e = cc
laid_again k x (Unmade u) e = cc

cell_again : (k x : ℕ) (o : Option declared.Cell) → cell_number k o ≡ Some x → k ≡ x
cell_again k x None e = cc
cell_again k x (Some c) e = laid_again k x c.layouts e

node_again : (cs : List declared.Cell) (n : Node) (x : ℕ) → number_of cs n ≡ Some x → n ≡ Cell x
node_again cs (Cell k) x e = ap Cell (cell_again k x (slice_get cs k) e)
node_again cs n x e = cc

-- and each layout of it is aligned
flattened_knows : (m : Marks) (count : ℕ) (r : Filled) (row : Row) (b flat : Bool) → KnowsNoIndentation (flattened b (Align (row_doc m count r row))) flat
unfolding KnowsNoIndentation
flattened_knows m count r row true flat = tt
flattened_knows m count r row false flat = tt

layout_knows : (m : Marks) (count : ℕ) (r : Filled) (l : Layout) (flat : Bool) → KnowsNoIndentation (layout_doc m count r l) flat
unfolding KnowsNoIndentation
layout_knows m count r l flat = by_test (l.charge == 0) where
  d : Doc
  d = unpaid_doc m count r l

  by_test : (b : Bool) → KnowsNoIndentation (if b then d else doc.Charge l.charge d) flat
  by_test true = flattened_knows m count r l.row l.flat flat
  by_test false = flattened_knows m count r l.row l.flat flat

layouts_know : (m : Marks) (count : ℕ) (r : Filled) (k x : ℕ) (ls : Layouts) (flat : Bool) → laid_number k ls ≡ Some x → KnowsNoIndentation (cell_doc m count r ls) flat
unfolding KnowsNoIndentation cell_doc
layouts_know m count r k x (One a) flat e = layout_knows m count r a flat
layouts_know m count r k x (Two a b) flat e = (layout_knows m count r a flat, layout_knows m count r b flat)
layouts_know m count r k x (Three a b c) flat e = (layout_knows m count r a flat, (layout_knows m count r b flat, layout_knows m count r c flat))
layouts_know m count r k x _ flat e = cc

cell_knows : (ps : List Piece) (cs : List declared.Cell) (k x : ℕ) (o : Option declared.Cell) (flat : Bool) → CellsStand ps cs → slice_get cs k ≡ o → cell_number k o ≡ Some x →
    KnowsNoIndentation (cell_at ps cs k) flat
cell_knows ps cs k x None flat stand is e = cc
cell_knows ps cs k x (Some c) flat stand is e =
    subst (λ (d : Doc). KnowsNoIndentation d flat) (sym (cell_unfolds ps cs k c stand is))
    (layouts_know c.marks c.count (row_of ps cs c) k x c.layouts flat e)

node_knows : (ps : List Piece) (cs : List declared.Cell) (n : Node) (x : ℕ) (flat : Bool) → CellsStand ps cs → number_of cs n ≡ Some x → KnowsNoIndentation (node_doc ps cs n) flat
node_knows ps cs (Cell k) x flat stand e = cell_knows ps cs k x (slice_get cs k) flat stand refl e
node_knows ps cs n x flat stand e = cc

-- what is told of a node holds
cell_begins : (ways : List How) (ps : List Piece) (cs : List declared.Cell) (list : List KnownCell) (k : ℕ) (flat : Bool) (o : Option KnownCell) → AreKnownCells ways ps cs list → slice_get list k ≡ o →
    (told_cell o flat).begins ≡ true → begins_in (cell_at ps cs k) flat ≡ true
cell_begins ways ps cs list k flat None known is h = cc
cell_begins ways ps cs list k flat (Some it) known is h = (cell_facts ways ps cs list (Cell k) k it flat known refl is).1 h

node_begins : (ways : List How) (ps : List Piece) (cs : List declared.Cell) (list : List KnownCell) (n : Node) (flat : Bool) → AreKnownCells ways ps cs list →
    (told_node ps cs list n flat).begins ≡ true → begins_in (node_doc ps cs n) flat ≡ true
unfolding begins_in
node_begins ways ps cs list (Leaf e f) flat known h = leaf_begins f flat (slice_get ps e) h
node_begins ways ps cs list (Run from to f) flat known h = run_starts ps cs from to f flat h
node_begins ways ps cs list (Cell k) flat known h = cell_begins ways ps cs list k flat (slice_get list k) known refl h
node_begins ways ps cs list Break flat known h = refl
node_begins ways ps cs list _ flat known h = cc

-- the choices of the line that is told
cell_span : (ways : List How) (ps : List Piece) (cs : List declared.Cell) (list : List KnownCell) (k : ℕ) (flat : Bool) (o : Option KnownCell) → AreKnownCells ways ps cs list → slice_get list k ≡ o →
    (how : List Dir) × SpanHolds (cell_at ps cs k) flat (told_cell o flat).span how
cell_span ways ps cs list k flat None known is = ([], tt)
cell_span ways ps cs list k flat (Some it) known is = span_holds ways (cell_at ps cs k) flat (facts_of it.document flat).line (cell_facts ways ps cs list (Cell k) k it flat known refl is).0

node_span : (ways : List How) (ps : List Piece) (cs : List declared.Cell) (list : List KnownCell) (n : Node) (flat : Bool) → CellsStand ps cs → AreKnownCells ways ps cs list →
    (how : List Dir) × SpanHolds (node_doc ps cs n) flat (told_node ps cs list n flat).span how
node_span ways ps cs list (Cell k) flat stand known = cell_span ways ps cs list k flat (slice_get list k) known refl
node_span ways ps cs list (Leaf e f) flat stand known = ([], alone_span ps cs list (Leaf e f) flat (λ k e. cc) (λ k which e. cc))
node_span ways ps cs list (Laid k which) flat stand known =
    span_holds ways (node_doc ps cs (Laid k which)) flat (line_of_laid (slice_get cs k) (slice_get list k) which) (laid_line ways ps cs list k which flat stand known)
node_span ways ps cs list Break flat stand known = ([], alone_span ps cs list Break flat (λ k e. cc) (λ k which e. cc))
node_span ways ps cs list Nothing flat stand known = ([], alone_span ps cs list Nothing flat (λ k e. cc) (λ k which e. cc))
node_span ways ps cs list _ flat stand known = ([], tt)

-- laid rows tell what holds
pub rows_are_told : (ways : List How) (rows : Rows) (list : List KnownCell) → 0 < length ways → AreKnownCells ways rows.pieces.items rows.cells.items list → IsTold (seen rows list) ways
rows_are_told ways rows list some known =
    let stand = rows.stand in
    let ps = rows.pieces.items in
    let cs = rows.cells.items in
    record {
      documents = node_document ps cs stand.cells stand.pieces;
      sequences = node_sequence ps cs;
      told = λ n flat. (node_span ways ps cs list n flat stand.cells known, λ h. node_begins ways ps cs list n flat known h);
      numbers = λ n m k e f. ap (node_doc ps cs) (node_again cs n k e ∙ sym (node_again cs m k f));
      unindented = λ n k flat e. node_knows ps cs n k flat stand.cells e;
      rests = (some, known);
      goes_on = λ old new kept rests. (omega (arith, keeps_length old new kept, rests.0), cells_kept old new ps cs list kept rests.1);
    }
