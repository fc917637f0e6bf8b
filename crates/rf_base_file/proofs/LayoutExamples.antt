-- Worked examples of which layouts each shape has, in order, and of what each is charged; and of columns: a definition
-- that changes its meaning fails here.
use Rattle.std.proofs.Common.{◌≡◌, ℕ, true, false, List, [], ◌∷◌, refl, Some, None}
use Rattle.std.specs.Prelude.{codes}
use Rattle.rf_base_document.specs.Document.{Doc, Text, Newline, Hard, Concat, Align, Reset, Flatten, Charge, plain_text}
use Rattle.rf_base_document.specs.Sequence.{seq_within, seq}
use Rattle.rf_base_grammar.specs.Characters.{is_delimiter, is_white}
use Rattle.rf_base_grammar.specs.Token.{Token}
use Rattle.rf_base_grammar.specs.declared.kinds.Kind.TheVariants.{Atom, Str, Prefix}
use Rattle.rf_base_style.specs.declared.columns.Columns.TheVariants.{Characters, Display}
use Rattle.rf_base_style.specs.declared.rules.Charges.{Charges}
use Rattle.rf_base_style.specs.Columns.{length_in}
use Rattle.rf_base_style.specs.Table.{StyleView}
use Rattle.rf_base_tree.specs.declared.separators.Separator.TheVariants as separator
use Rattle.rf_base_tree.specs.declared.separators.Want.TheVariants as want
use Rattle.rf_base_tree.specs.Slots.{Datum, Entry}
use Rattle.rf_base_tree.specs.Cut.{slot}
use Rattle.rf_base_tree.specs.Trees.{Leaf, Point, Comment, Prefixed, Empty}
use Rattle.rf_base_file.specs.declared.shapes.Role.TheVariants.{Free}
use Rattle.rf_base_file.specs.declared.shapes.Shape.TheVariants.{Application, Hanging, Plain, Body}
use Rattle.rf_base_file.specs.Rows.{Part, part, step, slot_steps, steps_docs, aligned_behind, line_doc, spelling_doc, item_doc, mark_doc, separator_docs}
use Rattle.rf_base_file.specs.Shapes.{Slots, Layouts, drop_doc, hang_doc, in_line_doc, in_column_doc, layouts_of}
use Rattle.rf_base_file.specs.FileDocument.{tree_piece, forest_entries, file_docs}

abbrev dear : Charges
dear = record { broken = 1; hung = 2; flat = 3 }

abbrev layouts : Doc → List Doc → Layouts
layouts first others = record { first = first; others = others }

-- all slots of a list below the first one
abbrev dropped : List Token → Slots → Doc
dropped ts l = drop_doc ts l.opener l.first (l.second ∷ l.others) l.closer

-- an application: below one another, below the second slot, or on one line, which is charged by itself
of_application : (ts : List Token) (l : Slots) → layouts_of Application dear ts l
    ≡ layouts (Charge 1 (dropped ts l)) (Charge 2 (hang_doc ts l) ∷ Charge 3 (Flatten (dropped ts l)) ∷ [])
of_application ts l = refl

-- hanging: below the second slot, or on one line
of_hanging : (ts : List Token) (l : Slots) → layouts_of Hanging dear ts l
    ≡ layouts (Charge 2 (hang_doc ts l)) (Charge 3 (Flatten (dropped ts l)) ∷ [])
of_hanging ts l = refl

-- plain data: below one another, or on one line
of_plain : (ts : List Token) (l : Slots) → layouts_of Plain dear ts l
    ≡ layouts (Charge 1 (dropped ts l)) (Charge 3 (Flatten (dropped ts l)) ∷ [])
of_plain ts l = refl

-- a body of one header has them in its line, and on one line where it may
of_body : (ts : List Token) (l : Slots) → layouts_of (Body 1 true) dear ts l
    ≡ layouts (Charge 1 (in_line_doc ts l 1 want.Line)) (Charge 3 (Flatten (in_line_doc ts l 1 want.Line)) ∷ [])
of_body ts l = refl

of_broken_body : (ts : List Token) (l : Slots) → layouts_of (Body 1 false) dear ts l
    ≡ layouts (Charge 1 (in_line_doc ts l 1 want.Must)) []
of_broken_body ts l = refl

-- one of more headers has them below one another too
of_headers : (ts : List Token) (l : Slots) → layouts_of (Body 3 true) dear ts l
    ≡ layouts (Charge 1 (in_line_doc ts l 3 want.Line))
    (Charge 2 (in_column_doc ts l 2 want.Line) ∷ Charge 3 (Flatten (in_line_doc ts l 3 want.Line)) ∷ [])
of_headers ts l = refl

of_broken_headers : (ts : List Token) (l : Slots) → layouts_of (Body 2 false) dear ts l
    ≡ layouts (Charge 1 (in_line_doc ts l 2 want.Must)) (Charge 2 (in_column_doc ts l 1 want.Must) ∷ [])
of_broken_headers ts l = refl

-- an item's columns are counted as the style says, and those of prefixes, skips and brackets by characters
abbrev wide : List ℕ
wide = 0x6F22 ∷ []

abbrev wide_item : List Token
wide_item = record { kind = Atom; start = 0; spelling = wide; blanks = 0; own_line = false } ∷ []

abbrev display_style : StyleView
display_style = record { width = 102; limit = 120; blanks = 1; columns = Display; table = [] }

item_columns : (item_doc Display wide_item 0 ≡ Text wide (length_in Display wide))
    × (item_doc Characters wide_item 0 ≡ Text wide (length_in Characters wide))
    × ((tree_piece display_style wide_item (Leaf 0)).doc false Free ≡ Text wide (length_in Display wide))
unfolding seq seq_within tree_piece
item_columns = (refl, refl, refl)

mark_columns : mark_doc wide_item 0 ≡ Text wide (length_in Characters wide)
unfolding seq seq_within
mark_columns = refl

-- an item is cut at LF alone: here a CR stands before it
item_lines : spelling_doc Characters (120 ∷ 13 ∷ 10 ∷ 121 ∷ [])
    ≡ seq (line_doc Characters (120 ∷ 13 ∷ []) ∷ Reset Hard ∷ line_doc Characters (121 ∷ []) ∷ [])
item_lines = refl

-- an atom is told by its characters, and nothing else is: not a string, a dot, or an atom behind a prefix
abbrev three_items : List Token
three_items =
    record { kind = Atom; start = 0; spelling = codes "a"; blanks = 0; own_line = false }
    ∷ record { kind = Str; start = 0; spelling = codes "s"; blanks = 0; own_line = false }
    ∷ record { kind = Prefix; start = 0; spelling = codes "'"; blanks = 0; own_line = false } ∷ []

atoms : ((tree_piece display_style three_items (Leaf 0)).atom ≡ Some (codes "a"))
    × ((tree_piece display_style three_items (Leaf 1)).atom ≡ None)
    × ((tree_piece display_style three_items (Point 0)).atom ≡ None)
    × ((tree_piece display_style three_items (Comment 0)).atom ≡ None)
    × ((tree_piece display_style three_items (Prefixed 2 Empty (Leaf 0))).atom ≡ None)
unfolding tree_piece forest_entries
atoms = (refl, refl, refl, refl, refl)

-- what stands behind a prefix is aligned
behind_prefix : (tree_piece display_style three_items (Prefixed 2 Empty (Leaf 0))).doc false Free
    ≡ Concat (Text (codes "'") (length_in Characters (codes "'")))
    (Align (Text (codes "a") (length_in Display (codes "a"))))
unfolding seq seq_within steps_docs tree_piece forest_entries is_delimiter is_white
behind_prefix = refl

-- a prefix with its datum begins with the prefix and ends with the datum
ends_of_prefixed : ((tree_piece display_style three_items (Prefixed 2 Empty (Leaf 0))).first ≡ 2)
    × ((tree_piece display_style three_items (Prefixed 2 Empty (Leaf 0))).last ≡ 0)
unfolding tree_piece forest_entries
ends_of_prefixed = (refl, refl)

-- what is wanted before each part of a slot: a line behind a comment, one space behind a key and before a comment that
-- trails
abbrev standing : ℕ → Part
standing n = part n n (plain_text [])

abbrev entry : ℕ → Entry Part
entry n = record { sort = Datum; what = standing n }

wanted_in_slot : (slot_steps (slot (entry 0 ∷ entry 1 ∷ []) (Some (entry 2)) (Some (entry 3)) (Some (entry 4)))
    ≡ step want.Nothing (standing 0) ∷ step want.Line (standing 1) ∷ step want.Line (standing 2)
    ∷ step want.Space (standing 3) ∷ step want.Space (standing 4) ∷ [])
    × (slot_steps (slot [] None (Some (entry 0)) (Some (entry 1)))
    ≡ step want.Nothing (standing 0) ∷ step want.Space (standing 1) ∷ [])
wanted_in_slot = (refl, refl)

-- a slot is aligned where it begins with comments
aligned_slots : (aligned_behind [] Newline ≡ Newline) × (aligned_behind (entry 0 ∷ []) Newline ≡ Align Newline)
aligned_slots = (refl, refl)

-- between the slots of a file stands a line break in any case
between_forms : file_docs three_items (standing 0 ∷ standing 1 ∷ [])
    ≡ plain_text [] ∷ Hard ∷ plain_text [] ∷ Hard ∷ []
unfolding steps_docs is_delimiter is_white
between_forms = refl

-- what stands for each separator
separators : (separator_docs separator.Empty ≡ []) × (separator_docs separator.Space ≡ plain_text (codes " ") ∷ [])
    × (separator_docs separator.Line ≡ Newline ∷ []) × (separator_docs (separator.Hard 0) ≡ Hard ∷ [])
    × (separator_docs (separator.Hard 2) ≡ Reset Hard ∷ Reset Hard ∷ Hard ∷ [])
separators = (refl, refl, refl, refl, refl)
