-- Worked examples of what is put on a stack, of how much rows grow, and of lists as pieces: a definition that changes
-- its meaning fails here.
use Rattle.std.proofs.Common.{length, ◌≡◌, ℕ, ◌≤◌, List, [], ◌∷◌, ◌++◌, Some, None, true, false, codes, refl, sym, ap, ◌∙◌, subst, arith}
use Rattle.std.specs.List.{AllByRecursion}
use Rattle.rf_base_document.specs.Document as doc
use Rattle.rf_base_document.specs.Document.{Doc, plain_text}
use Rattle.rf_base_grammar.specs.Characters.{is_delimiter, is_white}
use Rattle.rf_base_grammar.specs.Token.{Token}
use Rattle.rf_base_grammar.specs.declared.items.Item.{Item}
use Rattle.rf_base_grammar.specs.declared.kinds.Bracket.TheVariants.{Round}
use Rattle.rf_base_grammar.specs.declared.kinds.Kind.{Kind}
use Rattle.rf_base_grammar.specs.declared.kinds.Kind.TheVariants.{Opener, Closer, Atom, Str}
use Rattle.rf_base_style.specs.Table.{StyleView}
use Rattle.rf_base_style.specs.declared.rules.Charges.{Charges}
use Rattle.rf_base_tree.specs.declared.separators.Want.TheVariants as want
use Rattle.rf_base_tree.specs.Cut as cut
use Rattle.rf_base_tree.specs.Slots as definition
use Rattle.rf_base_tree.specs.Slots.{Entry}
use Rattle.rf_base_tree.specs.Size.{size_of, entries_items}
use Rattle.rf_base_tree.specs.Trees.{Tree, Leaf, Forest, Empty, Then, tree_items, forest_items}
use Rattle.rf_base_file.specs.declared.shapes.Roles.TheVariants.{AllFree, ClausesBehind, BindingsBehind}
use Rattle.rf_base_file.specs.declared.shapes.Shape.TheVariants as shape
use Rattle.rf_base_file.specs.FileDocument.{style_doc}
use Rattle.rf_base_file.specs.LaidOut.{kept}
use Rattle.rf_base_file.specs.Rows.{Part, part, steps_docs, steps_last}
use Rattle.rf_base_file.specs.Shapes.{Slots}
use Rattle.rf_tree.specs.Kept.{IsTreeOf}
use Rattle.rf_tree.specs.Slots.{SlotStands}
use Rattle.rf_tree.specs.declared.slotting.Slot.{Slot}
use Rattle.rf_tree.specs.declared.trees.Tree.{Tree as KeptTree}
use Rattle.rf_rows.specs.declared.layouts.Layouts.TheVariants.{One, Two, Three}
use Rattle.rf_rows.specs.declared.layouts.Row.TheVariants.{Dropped, Hanging, InLine, InColumn}
use Rattle.rf_rows.specs.declared.pieces.Fill.{Fill}
use Rattle.rf_rows.specs.declared.pieces.Fill.TheVariants as fill
use Rattle.rf_rows.specs.declared.pieces.Piece.{Piece}
use Rattle.rf_rows.specs.declared.pieces.Piece.TheVariants.{Space, Hard, Gap}
use Rattle.rf_rows.specs.declared.rows.Rows.{Rows}
use Rattle.rf_rows.specs.Cells.{filled_by, cell_at}
use Rattle.rf_rows.specs.Layouts.{fill_doc}
use Rattle.rf_rows.specs.Rows.{stacked}
use Rattle.rf_rows.specs.Sizes.{rows_size}
use Rattle.rf_slot_rows.specs.declared.layouts.Places.{Places}
use Rattle.rf_slot_rows.specs.Bodies.{want_of, headers_docs, more_headers, body_fill, marks_at, marks_by, layout, layouts_of, roles_behind}
use Rattle.rf_slot_rows.specs.Growth.{FewBlanks, AreKept, GrowsLess, TopGrows, FileGrows}
use Rattle.rf_slot_rows.specs.Nodes.{TopPut}
use Rattle.rf_slot_rows.proofs.ShapeRows.{places_of}
use Rattle.rf_rows.specs.Puts.{Fills, Puts, IsHigh}

abbrev space : Doc
space = plain_text (codes " ")

-- the documents of a stack of these pieces
stack_is : (rows : Rows) (ps : List Piece) → rows.stack.items ≡ ps → (f : Fill) →
    stacked rows f ≡ filled_by (cell_at rows.pieces.items rows.cells.items) ps f
stack_is rows ps e f = ap (λ (l : List Piece). filled_by (cell_at rows.pieces.items rows.cells.items) l f) e

-- what is put stands above what stood there, in order, and a gap is filled by what each layout fills it with
put_above : (old new : Rows) → new.free ≡ old.free → old.stack.items ≡ Space ∷ [] → new.stack.items ≡ Space ∷ Gap ∷ Hard ∷ [] →
    Fills old new (λ f. fill_doc f ∷ doc.Hard ∷ [])
put_above old new free e h = record {
  free = free;
  docs = λ f. stack_is new _ h f ∙ ap (λ (l : List Doc). l ++ fill_doc f ∷ doc.Hard ∷ []) (sym (stack_is old _ e f));
}

put_below : (old new : Rows) → old.stack.items ≡ Space ∷ [] → new.stack.items ≡ Hard ∷ Space ∷ [] →
    Puts old new (doc.Hard ∷ []) → ⊥
put_below old new e h put =
    let is : doc.Hard ∷ space ∷ [] ≡ space ∷ doc.Hard ∷ [] =
    sym (stack_is new _ h fill.Space) ∙ put.docs fill.Space ∙ ap (λ (l : List Doc). l ++ doc.Hard ∷ []) (stack_is old _ e fill.Space) in
    cc

gap_is_free : (old new : Rows) → old.stack.items ≡ [] → new.stack.items ≡ Gap ∷ [] → Puts old new (space ∷ []) → ⊥
gap_is_free old new e h put =
    let is : doc.Hard ∷ [] ≡ space ∷ [] =
    sym (stack_is new _ h fill.Hard) ∙ put.docs fill.Hard ∙ ap (λ (l : List Doc). l ++ space ∷ []) (stack_is old _ e fill.Hard) in
    cc

high : (rows : Rows) → rows.stack.items ≡ Space ∷ Gap ∷ [] → IsHigh rows 2 × (IsHigh rows 3 → ⊥)
high rows e = (both, λ h. let is : 2 ≡ 3 = sym (both fill.Space) ∙ h fill.Space in cc)
  where
    both : IsHigh rows 2
    both f = ap (λ (l : List Doc). length l) (stack_is rows _ e f)

-- rows of 10 nodes that grow by an item and spare 52 have at most 158
grows_less : (old new : Rows) → rows_size old ≡ 10 → (rows_size new ≡ 158 → GrowsLess 52 1 old new)
    × (rows_size new ≡ 159 → GrowsLess 52 1 old new → ⊥)
grows_less old new e = (λ h. omega (arith, e, h), λ h grown. omega (arith, e, h, grown))

-- items behind so many blank lines
abbrev below : ℕ → Kind → List ℕ → Token
below blanks kind spelling = record { kind = kind; start = 0; spelling = spelling; blanks = blanks; own_line = false }

abbrev item : ℕ → Item
item blanks = record { kind = Atom; start = 0; end = 1; blanks = blanks; own_line = false }

few_blanks : (tree : KeptTree) → (tree.items.items ≡ item 9 ∷ [] → FewBlanks tree)
    × (tree.items.items ≡ item 10 ∷ [] → FewBlanks tree → ⊥)
few_blanks tree = (few, many)
  where
    few : tree.items.items ≡ item 9 ∷ [] → FewBlanks tree
    few e = subst (λ (l : List Item). AllByRecursion (λ (i : Item). i.blanks ≤ 9) l) (sym e) (omega arith, tt)

    many : tree.items.items ≡ item 10 ∷ [] → FewBlanks tree → ⊥
    many e h = let all = subst (λ (l : List Item). AllByRecursion (λ (i : Item). i.blanks ≤ 9) l) e h in omega (arith, all.0)

-- a layout keeps no blank line before the first item
abbrev ab : ℕ → List Token
ab blanks = below blanks Atom (codes "a") ∷ below 0 Atom (codes "b") ∷ []

abbrev first_blanks : List Token → ℕ
first_blanks [] = 0
first_blanks (t ∷ ts) = t.blanks

kept_are : (style : StyleView) → AreKept style (kept style (ab 3)) × (AreKept style (ab 3) → ⊥)
kept_are style = ((ab 3, refl), never)
  where
    never : AreKept style (ab 3) → ⊥
    never ([], e) = cc
    never (t ∷ ts, e) = let is : 3 ≡ 0 = ap first_blanks e in omega (arith, is)

-- a slot of an atom takes 148 nodes at most, one of a string of two lines 348, and a file of an atom 208
abbrev atom : List Token
atom = below 0 Atom (codes "a") ∷ []

abbrev lines : List Token
lines = below 0 Str (34 ∷ 10 ∷ 34 ∷ []) ∷ []

abbrev leaf : definition.Slot Tree
leaf = cut.slot [] None (Some (record { sort = definition.Datum; what = Leaf 0 })) None

leaf_sizes : (size_of atom (entries_items (definition.slot_entries leaf)) ≡ 1)
    × (size_of lines (entries_items (definition.slot_entries leaf)) ≡ 2)
    × (size_of atom (forest_items (Then (Leaf 0) Empty)) ≡ 1)
unfolding tree_items
leaf_sizes = (refl, refl, refl)

top_grows : (style : StyleView) (tree : KeptTree) (slot : Slot) (trees : Forest) (old new : Rows) → rows_size old ≡ 0 →
    TopGrows style tree slot old new →
    (AreKept style atom → IsTreeOf tree atom trees → SlotStands atom tree.nodes slot leaf → rows_size new ≤ 148)
    × (AreKept style lines → IsTreeOf tree lines trees → SlotStands lines tree.nodes slot leaf →
    rows_size new ≤ 348)
top_grows style tree slot trees old new none grows = (
  λ read is stands. (let h = grows atom trees leaf read is stands (λ e. cc) in omega (arith, none, leaf_sizes.0, h)),
  λ read is stands. (let h = grows lines trees leaf read is stands (λ e. cc) in omega (arith, none, leaf_sizes.1, h)),
)

file_grows : (style : StyleView) (tree : KeptTree) (old new : Rows) → rows_size old ≡ 0 → AreKept style atom →
    IsTreeOf tree atom (Then (Leaf 0) Empty) → FileGrows style tree old new → rows_size new ≤ 208
file_grows style tree old new none read is grows = let h = grows atom (Then (Leaf 0) Empty) read is in omega (arith, none, leaf_sizes.2, h)

-- the document of a slot is put alone above what stood there
top_put : (style : StyleView) (tree : KeptTree) (slot : Slot) (trees : Forest) (old new : Rows) (f : Fill) →
    old.stack.items ≡ Space ∷ [] →
    IsTreeOf tree atom trees → SlotStands atom tree.nodes slot leaf → TopPut style tree slot old new →
    stacked new f ≡ space ∷ style_doc style atom leaf ∷ []
top_put style tree slot trees old new f e is stands put =
    put atom trees leaf f is stands ∙ ap (λ (l : List Doc). l ++ style_doc style atom leaf ∷ []) (stack_is old _ e f)

-- what is wanted in gaps, and what fills those before bodies
wants_are : (want_of fill.Space ≡ want.Space) × (want_of fill.Newline ≡ want.Line) × (want_of fill.Hard ≡ want.Must)
wants_are = (refl, refl, refl)

fills_are : (body_fill (shape.Body 1 false) ≡ fill.Hard) × (body_fill (shape.Body 1 true) ≡ fill.Newline)
    × (body_fill shape.Application ≡ fill.Newline)
fills_are = (refl, refl, refl)

-- a list of four slots, the atoms behind its opener, the second of which stands behind a blank line
abbrev four : List Token
four =
    below 0 (Opener Round) (codes "(") ∷ below 0 Atom (codes "a") ∷ below 1 Atom (codes "b") ∷ below 0 Atom (codes "c")
    ∷ below 0 Atom (codes "d") ∷ below 0 (Closer Round) (codes ")") ∷ []

abbrev at : ℕ → Part
at n = part n n (doc.Nest n doc.Hard)

abbrev slots : Slots
slots = record { opener = 0; first = at 1; second = at 2; others = at 3 ∷ at 4 ∷ []; closer = 5 }

-- the gap behind the first slot, the second slot, and the gap before the bodies: behind it, or behind one header more
abbrev places : ℕ → ℕ → ℕ → Places
places first second bodies = record { first = first; second = second; bodies = bodies }

places_are : (places_of four slots 0 7 ≡ places 8 10 11) × (places_of four slots 1 7 ≡ places 8 10 13)
    × (places_of four slots 2 7 ≡ places 8 10 15)
unfolding steps_docs steps_last is_delimiter is_white
places_are = (refl, refl, refl)

-- above the list's height; without headers bodies begin behind the first slot
marks_are : (marks_at (shape.Body 2 false) 7 (places 8 9 12) ≡ marks_by 1 2 5 fill.Hard)
    × (marks_at (shape.Body 0 true) 7 (places 8 9 10) ≡ marks_by 1 1 1 fill.Newline)
    × (marks_at shape.Hanging 7 (places 8 9 10) ≡ marks_by 1 2 3 fill.Newline)
marks_are = (refl, refl, refl)

more_are : (more_headers (shape.Body 3 true) ≡ 2) × (more_headers (shape.Body 0 true) ≡ 0)
    × (more_headers shape.Plain ≡ 0)
more_are = (refl, refl, refl)

-- headers with bodies behind them end with the last header, and without with the gap before the closer
headers_are : (headers_docs four 2 (at 3 ∷ []) (at 4 ∷ []) 5 fill.Hard ≡ doc.Hard ∷ (at 3).doc ∷ [])
    × (headers_docs four 3 (at 4 ∷ []) [] 5 fill.Space ≡ space ∷ (at 4).doc ∷ [])
unfolding steps_docs steps_last is_delimiter is_white
headers_are = (refl, refl)

-- the layouts of each shape, and by what each is charged
abbrev charges : Charges
charges = record { broken = 3; hung = 5; flat = 7 }

layouts_are : (layouts_of shape.Application charges
    ≡ Three (layout Dropped false 3) (layout Hanging false 5) (layout Dropped true 7))
    × (layouts_of shape.Hanging charges ≡ Two (layout Hanging false 5) (layout Dropped true 7))
    × (layouts_of shape.Plain charges ≡ Two (layout Dropped false 3) (layout Dropped true 7))
    × (layouts_of (shape.Body 1 true) charges ≡ Two (layout InLine false 3) (layout InLine true 7))
    × (layouts_of (shape.Body 1 false) charges ≡ One (layout InLine false 3))
    × (layouts_of (shape.Body 2 true) charges
    ≡ Three (layout InLine false 3) (layout InColumn false 5) (layout InLine true 7))
    × (layouts_of (shape.Body 2 false) charges ≡ Two (layout InLine false 3) (layout InColumn false 5))
layouts_are = (refl, refl, refl, refl, refl, refl, refl)

-- roles behind slots
roles_are : (roles_behind 2 (ClausesBehind 3) ≡ ClausesBehind 1) × (roles_behind 2 (BindingsBehind 1) ≡ AllFree)
    × (roles_behind 0 (BindingsBehind 1) ≡ BindingsBehind 1)
unfolding roles_behind
roles_are = (refl, refl, refl)
