-- Worked examples of stacks, of how large rows are, and of what laid rows tell of their nodes: a definition that
-- changes its meaning fails here.
use Rattle.std.proofs.Common.{length, ◌≡◌, ℕ, ◌+◌, ◌*◌, ◌<◌, Bool, List, [], ◌∷◌, ◌++◌, take, Some, None, true, false, codes, refl, sym, ap, ap₂, ◌∙◌, subst, arith}
use Rattle.std.specs.List.{All}
use Rattle.rf_base_document.specs.declared.directions.Dir.{Dir}
use Rattle.rf_base_document.specs.Document as doc
use Rattle.rf_base_document.specs.Document.{Doc, Align, Concat, Nest, plain_text}
use Rattle.rf_base_document.specs.Sequence.{seq, seq_within}
use Rattle.rf_frontier.specs.declared.hows.HowId.{HowId}
use Rattle.rf_outline.specs.declared.documents.Span.TheVariants as span
use Rattle.rf_outline.specs.declared.facts.Facts.{Facts}
use Rattle.rf_outline.specs.declared.facts.Line.TheVariants as line
use Rattle.rf_rows.specs.declared.cells.Cell as declared
use Rattle.rf_rows.specs.declared.known.KnownCell.{KnownCell}
use Rattle.rf_rows.specs.declared.layouts.Inner.TheVariants as inner
use Rattle.rf_rows.specs.declared.layouts.Layout.{Layout}
use Rattle.rf_rows.specs.declared.layouts.Layouts.{Layouts}
use Rattle.rf_rows.specs.declared.layouts.Layouts.TheVariants.{Bare, One, Two, Three}
use Rattle.rf_rows.specs.declared.layouts.Layouts.TheVariants as layouts
use Rattle.rf_rows.specs.declared.layouts.Marks.{Marks}
use Rattle.rf_rows.specs.declared.layouts.Row.{Row}
use Rattle.rf_rows.specs.declared.layouts.Row.TheVariants.{Dropped, Hanging, Hung, InLine, InColumn, Column}
use Rattle.rf_rows.specs.declared.layouts.Strip.{Strip}
use Rattle.rf_rows.specs.declared.layouts.Which.TheVariants.{First, Second, Third}
use Rattle.rf_rows.specs.declared.laying.Spot.{Spot}
use Rattle.rf_rows.specs.declared.nodes.Node.TheVariants as node
use Rattle.rf_rows.specs.declared.pieces.Fill.{Fill}
use Rattle.rf_rows.specs.declared.pieces.Fill.TheVariants as fill
use Rattle.rf_rows.specs.declared.pieces.Piece.{Piece}
use Rattle.rf_rows.specs.declared.pieces.Piece.TheVariants.{Space, Newline, Hard, Gap, Cell}
use Rattle.rf_rows.specs.declared.rows.Rows.{Rows}
use Rattle.rf_rows.specs.declared.unmade.Unmade.{Unmade}
use Rattle.rf_rows.specs.Alone.{StandsAlone}
use Rattle.rf_rows.specs.Cells.{filled_by, cell_at, cell_to, CellStands, CellsStand, IsBelow}
use Rattle.rf_rows.specs.Knowing.{is_spaced, line_of_laid}
use Rattle.rf_rows.specs.Laying.{framed, frames_of}
use Rattle.rf_rows.specs.Layouts.{AreLayouts, fill_doc, cell_doc, row_to}
use Rattle.rf_rows.specs.Nodes.{nothing, layout_at, node_doc, node_docs, inner_node, inner_length, before_tail, strip_length, others_doc, cell_of}
use Rattle.rf_rows.specs.Puts.{Fills, Puts, Closes, IsHigh}
use Rattle.rf_rows.specs.Rows.{stacked}
use Rattle.rf_rows.specs.Sizes.{cells_size, rows_size, Grows}
use Rattle.rf_rows.specs.Stands.{AreRows}
use Rattle.rf_rows.specs.Telling.{told_node, number_of, seen}
use Rattle.rf_rows.specs.Unmade.{HaveLines, IsMade, AllAreMade}

abbrev space : Doc
space = plain_text (codes " ")

-- pieces, and cells of them
abbrev pieces : List Piece
pieces = Space ∷ Hard ∷ Cell 0 ∷ Gap ∷ Newline ∷ []

abbrev cell : ℕ → ℕ → Layouts → declared.Cell
cell from count layouts =
    record {
      from = from;
      count = count;
      marks = record { first = 1; second = 1; bodies = 2; fill = fill.Newline };
      layouts = layouts;
    }

abbrev layout : Row → Bool → ℕ → Layout
layout row flat charge = record { row = row; flat = flat; charge = charge }

abbrev a : Layout
a = layout Hung false 0

abbrev b : Layout
b = layout Dropped true 0

abbrev c : Layout
c = layout Dropped true 1001

abbrev cells : List declared.Cell
cells = cell 0 2 Bare ∷ cell 2 3 (Two a b) ∷ []

-- a stack is as its pieces are in order, and a gap is filled by what each layout fills it with
stack_is : (rows : Rows) (ps : List Piece) → rows.stack.items ≡ ps → (f : Fill) →
    stacked rows f ≡ filled_by (cell_at rows.pieces.items rows.cells.items) ps f
stack_is rows ps e f = ap (λ (l : List Piece). filled_by (cell_at rows.pieces.items rows.cells.items) l f) e

stacks : (rows : Rows) → rows.stack.items ≡ Gap ∷ Hard ∷ [] → (stacked rows fill.Space ≡ space ∷ doc.Hard ∷ [])
    × (stacked rows fill.Newline ≡ doc.Newline ∷ doc.Hard ∷ [])
stacks rows e = (stack_is rows _ e fill.Space, stack_is rows _ e fill.Newline)

-- a document that stands alone is the only one, and is no gap
alone : (rows : Rows) → (rows.stack.items ≡ Hard ∷ [] → StandsAlone rows doc.Hard)
    × (rows.stack.items ≡ Hard ∷ Hard ∷ [] → StandsAlone rows doc.Hard → ⊥)
    × (rows.stack.items ≡ Gap ∷ [] → StandsAlone rows space → ⊥)
alone rows = (
  λ e f. stack_is rows _ e f,
  λ e h. (let is : doc.Hard ∷ doc.Hard ∷ [] ≡ doc.Hard ∷ [] = sym (stack_is rows _ e fill.Space) ∙ h fill.Space in cc),
  λ e h. (let is : doc.Hard ∷ [] ≡ space ∷ [] = sym (stack_is rows _ e fill.Hard) ∙ h fill.Hard in cc),
)

-- documents are put above the old stack, in order, and the gaps among them are filled as those of the old one are
puts_are : (old new : Rows) → old.stack.items ≡ Gap ∷ [] → new.stack.items ≡ Gap ∷ Space ∷ Hard ∷ [] →
    new.free ≡ old.free → Puts old new (space ∷ doc.Hard ∷ []) × (Puts old new (doc.Hard ∷ space ∷ []) → ⊥)
puts_are old new o n free = (
  record {
    free = free;
    docs = λ f. stack_is new _ n f ∙ ap (λ (l : List Doc). l ++ space ∷ doc.Hard ∷ []) (sym (stack_is old _ o f));
  },
  λ h.
      let is : doc.Hard ∷ space ∷ doc.Hard ∷ [] ≡ doc.Hard ∷ doc.Hard ∷ space ∷ [] =
      sym (stack_is new _ n fill.Hard) ∙ h.docs fill.Hard
      ∙ ap (λ (l : List Doc). l ++ doc.Hard ∷ space ∷ []) (stack_is old _ o fill.Hard) in
      cc,
)

fills_are : (old new : Rows) → old.stack.items ≡ Hard ∷ [] → new.stack.items ≡ Hard ∷ Gap ∷ [] → new.free ≡ old.free →
    Fills old new (λ f. fill_doc f ∷ []) × (Puts old new (doc.Hard ∷ []) → ⊥)
fills_are old new o n free = (
  record {
    free = free;
    docs = λ f. stack_is new _ n f ∙ ap (λ (l : List Doc). l ++ fill_doc f ∷ []) (sym (stack_is old _ o f));
  },
  λ h.
      let is : doc.Hard ∷ space ∷ [] ≡ doc.Hard ∷ doc.Hard ∷ [] =
      sym (stack_is new _ n fill.Space) ∙ h.docs fill.Space
      ∙ ap (λ (l : List Doc). l ++ doc.Hard ∷ []) (stack_is old _ o fill.Space) in
      cc,
)

-- what is closed is put in place of what stood above the height, and no more
closes_are : (old new : Rows) → old.stack.items ≡ Hard ∷ Space ∷ Gap ∷ [] → new.stack.items ≡ Hard ∷ Gap ∷ [] →
    new.free ≡ old.free → Closes 1 old new (λ f. fill_doc f ∷ []) × (Closes 2 old new (λ f. fill_doc f ∷ []) → ⊥)
closes_are old new o n free = (
  record {
    free = free;
    docs = λ f. stack_is new _ n f ∙ ap (λ (l : List Doc). take 1 l ++ fill_doc f ∷ []) (sym (stack_is old _ o f));
  },
  λ h.
      let is : doc.Hard ∷ doc.Hard ∷ [] ≡ doc.Hard ∷ space ∷ doc.Hard ∷ [] =
      sym (stack_is new _ n fill.Hard) ∙ h.docs fill.Hard
      ∙ ap (λ (l : List Doc). take 2 l ++ doc.Hard ∷ []) (stack_is old _ o fill.Hard) in
      cc,
)

-- neither where the column up to which lists may stay unmade has changed
other_columns : (old new : Rows) → old.free ≡ Some 1 → new.free ≡ None →
    (Fills old new (λ f. []) → ⊥) × (Closes 0 old new (λ f. []) → ⊥)
other_columns old new o n = (
  λ h. (let is : Some 1 ≡ None = sym o ∙ sym h.free ∙ n in cc),
  λ h. (let is : Some 1 ≡ None = sym o ∙ sym h.free ∙ n in cc),
)

-- two pieces are two documents high
heights_are : (rows : Rows) → rows.stack.items ≡ Gap ∷ Hard ∷ [] → IsHigh rows 2 × (IsHigh rows 1 → ⊥)
    × (IsHigh rows 3 → ⊥)
heights_are rows e =
    let high : IsHigh rows 2 = λ f. ap (λ (l : List Doc). length l) (stack_is rows _ e f) in
    (high, λ h. omega (arith, high fill.Hard, h fill.Hard), λ h. omega (arith, high fill.Hard, h fill.Hard))

-- rows have at most 4,294,967,294 pieces, and so many on the stack, and a piece of a cell names no later one
many_pieces : (rows : Rows) → length rows.pieces.items ≡ 4294967295 → ⊥
many_pieces rows e = omega (arith, e, rows.stand.few)

many_on_stack : (rows : Rows) → length rows.stack.items ≡ 4294967295 → ⊥
many_on_stack rows e = omega (arith, e, rows.stand.low)

-- so many may be; lists may stay unmade where there is a column for that, and not where there is none
as_many_as_may_be : (ps : List Piece) (cs : List declared.Cell) (on : List Piece) (turns : List Dir) →
    length ps ≡ 4294967294 → length on ≡ 4294967294 → CellsStand ps cs → All (IsBelow (length cs)) ps →
    All (IsBelow (length cs)) on → HaveLines cs turns → AreRows ps cs on turns (Some 0)
as_many_as_may_be ps cs on turns pieces stack cells pieces_below stack_below lines = record {
  cells = cells;
  pieces = pieces_below;
  stack = stack_below;
  few = omega (arith, pieces);
  low = omega (arith, stack);
  lines = lines;
  made = λ none. cc;
}

all_made : (ps : List Piece) (c : declared.Cell) (u : Unmade) → c.layouts ≡ layouts.Unmade u →
    AreRows ps (c ∷ []) [] [] None → ⊥
unfolding AllAreMade
all_made ps c u is h =
    let made : IsMade (layouts.Unmade u) = subst (λ (l : Layouts). IsMade l) is (h.made refl 0 c refl) in made

no_such_piece : AreRows (Cell 0 ∷ []) [] [] [] None → ⊥
no_such_piece h = (let below : 0 < 0 = h.pieces 0 Space (omega arith) in omega (arith, below))

no_such_cell : (rows : Rows) → rows.cells.items ≡ [] → rows.stack.items ≡ Cell 0 ∷ [] → ⊥
no_such_cell rows none e =
    let below : IsBelow (length rows.cells.items) (Cell 0) =
    subst (λ (l : List Piece). All (IsBelow (length rows.cells.items)) l) e rows.stand.stack 0 Space (omega arith) in
    omega (arith, below, ap (λ (l : List declared.Cell). length l) none)

cell_ends : CellStands pieces 1 (cell 2 4 Bare) → ⊥
cell_ends h = omega (arith, h.within)

cell_names_itself : CellStands pieces 0 (cell 2 3 Bare) → ⊥
cell_names_itself h = let below : 0 < 0 = h.below 0 Space (omega arith) in omega (arith, below)

-- a layout of three is charged for at most 1,000, as one of two
layouts_are : (AreLayouts (Two a c) 2 → ⊥) × (AreLayouts (Two c a) 2 → ⊥) × (AreLayouts (Three a b c) 2 → ⊥)
    × (AreLayouts (Three c a b) 2 → ⊥)
    × (AreLayouts (Three a c b) 2 → ⊥) × AreLayouts Bare 2
layouts_are = (
  λ h. omega (arith, h.1),
  λ h. omega (arith, h.0),
  λ h. omega (arith, h.1.1),
  λ h. omega (arith, h.0),
  λ h. omega (arith, h.1.0),
  omega arith,
)

-- two cells of five pieces take 68 nodes, and each piece that is in none 4 more
size_of_cells : cells_size cells ≡ 68
unfolding cells_size
size_of_cells = refl

size_of_rows : (rows : Rows) → rows.cells.items ≡ cells → rows.stack.items ≡ Gap ∷ Hard ∷ [] → rows_size rows ≡ 76
size_of_rows rows e h = ap₂ (λ (l : List declared.Cell) (s : List Piece). cells_size l + 4 * length s) e h ∙ ap (λ (n : ℕ). n + 8) size_of_cells

grows : (old new : Rows) → rows_size old ≡ 10 → (rows_size new ≡ 15 → Grows 5 old new)
    × (rows_size new ≡ 16 → Grows 5 old new → ⊥)
grows old new e = (λ h. omega (arith, e, h), λ h grown. omega (arith, e, h, grown))

-- layouts by their places
layouts_at : (layout_at (One a) First ≡ Some a) × (layout_at (One a) Second ≡ None)
    × (layout_at (Two a b) First ≡ Some a) × (layout_at (Two a b) Second ≡ Some b)
    × (layout_at (Three a b c) First ≡ Some a) × (layout_at (Three a b c) Third ≡ Some c)
layouts_at = (refl, refl, refl, refl, refl, refl)

others_are : (f : Layout → Doc) → (others_doc f (Two a b) ≡ nothing)
    × (others_doc f (Three a b c) ≡ doc.Choice (f b) (f c))
others_are f = (refl, refl)

-- a row that stands in another one is a node of its own, between the head and the tail
strip : Strip
strip = record { head = 1; head_end = 3; inner = Some (inner.Aligned Hung); tail = 4; tail_end = 9; fill = fill.Hard }

inner_nodes : (inner_node 7 (inner.Aligned Hung) ≡ node.Aligned 7 Hung)
    × (inner_node 7 (inner.Nested Hung) ≡ node.Nested 7 Hung)
inner_nodes = (refl, refl)

lengths_are : (inner_length None ≡ 0) × (before_tail strip ≡ 3) × (strip_length strip ≡ 8)
unfolding strip
lengths_are = (refl, refl, refl)

-- nodes: a cell, a row of it, and the documents of a row from one up to another
first_cell : node_doc pieces cells (node.Cell 0) ≡ Concat space doc.Hard
unfolding cell_at cell_to cell_doc row_to seq seq_within
first_cell = refl

row_nodes : (node_doc pieces cells (node.Aligned 0 Dropped) ≡ Align (Concat space doc.Hard))
    × (node_doc pieces cells (node.Nested 0 Hung) ≡ Nest 1 doc.Hard)
    × (node_doc pieces cells (node.Nested 2 Hung) ≡ nothing) × (node_doc pieces cells node.Nothing ≡ nothing)
unfolding cell_at cell_to cell_doc row_to seq seq_within
row_nodes = (refl, refl, refl, refl)

ranges_are : (node_doc pieces cells (node.Range 0 Dropped 0 2) ≡ Concat space doc.Hard)
    × (node_docs pieces cells (node.Range 0 Dropped 0 2) ≡ space ∷ doc.Hard ∷ [])
    × (node_doc pieces cells (node.Range 0 Dropped 1 2) ≡ nothing)
    × (node_docs pieces cells (node.Range 0 Dropped 0 3) ≡ nothing ∷ [])
    × (node_docs pieces cells (node.Range 2 Dropped 0 2) ≡ nothing ∷ [])
unfolding cell_at cell_to cell_doc row_to seq seq_within
ranges_are = (refl, refl, refl, refl, refl)

cells_of : (cell_of (node.Leaf 3 fill.Hard) ≡ None) × (cell_of (node.Cell 3) ≡ Some 3)
    × (cell_of (node.Unpaid 3 First) ≡ Some 3) × (cell_of (node.Range 3 Hung 0 2) ≡ Some 3)
    × (cell_of (node.Run 3 5 fill.Hard) ≡ None) × (cell_of node.Break ≡ None)
    × (cell_of (node.Others 3) ≡ Some 3) × (cell_of (node.Laid 3 Second) ≡ Some 3)
    × (cell_of (node.Aligned 3 Hung) ≡ Some 3) × (cell_of (node.Nested 3 Hung) ≡ Some 3)
cells_of = (refl, refl, refl, refl, refl, refl, refl, refl, refl, refl)

-- rows in which all pieces stand with spaces where they are flat
abbrev soft : Fill → Marks
soft f = record { first = 1; second = 1; bodies = 2; fill = f }

spaced_are : (is_spaced (soft fill.Newline) InLine ≡ true) × (is_spaced (soft fill.Hard) InLine ≡ false)
    × (is_spaced (soft fill.Newline) InColumn ≡ true)
    × (is_spaced (soft fill.Hard) InColumn ≡ false) × (is_spaced (soft fill.Hard) Dropped ≡ true)
    × (is_spaced (soft fill.Hard) Hanging ≡ true)
    × (is_spaced (soft fill.Newline) Hung ≡ false) × (is_spaced (soft fill.Newline) Column ≡ false)
spaced_are = (refl, refl, refl, refl, refl, refl, refl, refl)

-- what is told of a cell is what is known of it, flat or not, and of a layout that is flat and free its pieces' line
abbrev way : HowId
way = record { 0 = 1 }

abbrev facts : ℕ → Bool → Facts
facts len begins = record { line = line.Long len way; begins = begins }

abbrev known : KnownCell
known = record { document = record { loose = facts 5 true; flat = facts 6 false }; line = line.Text 7 way }

cells_told : ((told_node pieces cells (known ∷ []) (node.Cell 0) false).span ≡ span.Long 5)
    × ((told_node pieces cells (known ∷ []) (node.Cell 0) false).begins ≡ true)
    × ((told_node pieces cells (known ∷ []) (node.Cell 0) true).span ≡ span.Long 6)
    × ((told_node pieces cells (known ∷ []) (node.Cell 1) true).span ≡ span.Unsure)
cells_told = (refl, refl, refl, refl)

lines_told : (line_of_laid (Some (cell 2 3 (Two a b))) (Some known) Second ≡ line.Text 7 way)
    × (line_of_laid (Some (cell 2 3 (Two a b))) (Some known) First ≡ line.Unsure)
    × (line_of_laid (Some (cell 2 3 (Two a b))) None Second ≡ line.Unsure)
    × (line_of_laid None (Some known) Second ≡ line.Unsure)
lines_told = (refl, refl, refl, refl)

layouts_told : ((told_node pieces cells (known ∷ known ∷ []) (node.Laid 1 Second) false).span ≡ span.Text 7)
    × ((told_node pieces cells (known ∷ known ∷ []) (node.Laid 1 Second) false).begins ≡ false)
    × ((told_node pieces cells (known ∷ known ∷ []) (node.Unpaid 1 Second) false).span ≡ span.Unsure)
layouts_told = (refl, refl, refl)

-- pieces are told by themselves, a hard newline is never flat, and a run has no length
pieces_told : ((told_node pieces cells [] (node.Leaf 0 fill.Hard) true).span ≡ span.Text 1)
    × ((told_node pieces cells [] (node.Leaf 1 fill.Space) true).span ≡ span.Never)
    × ((told_node pieces cells [] (node.Leaf 3 fill.Hard) false).begins ≡ true)
    × ((told_node pieces cells [] (node.Leaf 3 fill.Newline) true).span ≡ span.Text 1)
    × ((told_node pieces cells [] (node.Run 3 5 fill.Newline) false).begins ≡ true)
    × ((told_node pieces cells [] (node.Run 3 5 fill.Newline) false).span ≡ span.Unsure)
    × ((told_node pieces cells [] node.Break true).span ≡ span.Never)
    × ((told_node pieces cells [] node.Break true).begins ≡ true)
    × ((told_node pieces cells [] node.Nothing true).span ≡ span.Text 0)
pieces_told = (refl, refl, refl, refl, refl, refl, refl, refl, refl)

-- a cell with layouts has its own number, and its layouts and rows have none
abbrev numbered : List declared.Cell
numbered = cell 2 3 Bare ∷ cell 2 3 (One a) ∷ cell 2 3 (Two a b) ∷ cell 2 3 (Three a b c) ∷ []

numbers_are : (number_of numbered (node.Cell 0) ≡ None) × (number_of numbered (node.Cell 1) ≡ Some 1)
    × (number_of numbered (node.Cell 2) ≡ Some 2) × (number_of numbered (node.Cell 3) ≡ Some 3)
    × (number_of numbered (node.Cell 4) ≡ None) × (number_of numbered (node.Laid 2 Second) ≡ None)
    × (number_of numbered (node.Unpaid 2 Second) ≡ None) × (number_of numbered (node.Aligned 2 Hung) ≡ None)
    × (number_of numbered (node.Others 3) ≡ None) × (number_of numbered (node.Run 2 4 fill.Hard) ≡ None)
numbers_are = (refl, refl, refl, refl, refl, refl, refl, refl, refl, refl)

-- laid rows are seen as their nodes' documents, and rest on what is known of their cells
seen_are : (rows : Rows) → rows.pieces.items ≡ pieces →
    ((seen rows (known ∷ [])).document (node.Leaf 1 fill.Space) ≡ doc.Hard)
    × ((seen rows (known ∷ [])).sequence node.Break ≡ doc.Hard ∷ [])
    × (((seen rows (known ∷ [])).told (node.Cell 0) true).span ≡ span.Long 6)
    × ((seen rows (known ∷ [])).number (node.Laid 0 First) ≡ None)
seen_are rows e = (ap (λ (l : List Piece). node_doc l rows.cells.items (node.Leaf 1 fill.Space)) e, refl, refl, refl)

-- documents that are still to be laid out at a spot: the last one is the first to come
abbrev spot : Spot
spot = record { indentation = 3; flat = true }

frames_are : (frames_of spot (doc.Hard ∷ space ∷ []) ≡ framed spot space ∷ framed spot doc.Hard ∷ [])
    × (framed spot space ≡ record { node = space; indentation = 3; flat = true })
unfolding frames_of
frames_are = (refl, refl)
