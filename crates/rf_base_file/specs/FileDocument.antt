-- The documents of top-level slots and of files: how they may be laid out in a style.
use Rattle.std.specs.Prelude.{ℕ, ◌||◌, Bool, true, false, Option, None, Some, List, [], ◌∷◌, ◌++◌, map, codes, slice_get}
use Rattle.std.specs.Option.{option_map}
use Rattle.rf_base_document.specs.Document.{Doc, Hard}
use Rattle.rf_base_document.specs.Sequence.{seq}
use Rattle.rf_base_grammar.specs.Reader.{begins}
use Rattle.rf_base_grammar.specs.Token.{Token}
use Rattle.rf_base_grammar.specs.declared.kinds.Kind.{Kind}
use Rattle.rf_base_grammar.specs.declared.kinds.Kind.TheVariants.{Atom}
use Rattle.rf_base_style.specs.Table.{StyleView}
use Rattle.rf_base_tree.specs.declared.separators.Want.TheVariants as want
use Rattle.rf_base_tree.specs.Trees.{Tree, Leaf, Point, Comment, Prefixed, DatumComment, Listed, Forest, Empty, Then, spelling_at}
use Rattle.rf_base_tree.specs.Slots.{Entry, Slot, sort_of, entries_of}
use Rattle.rf_base_tree.specs.Cut.{slot, slots_of}
use Rattle.rf_base_file.specs.declared.shapes.Role.{Role}
use Rattle.rf_base_file.specs.declared.shapes.Role.TheVariants.{Free}
use Rattle.rf_base_file.specs.declared.shapes.Way.{Way}
use Rattle.rf_base_file.specs.Rows.{Part, item_doc, mark_doc, steps_docs, steps_wanting, prefixed_doc, whats, slot_steps, slot_doc, part_of, slot_parts}
use Rattle.rf_base_file.specs.Shapes.{drop_doc, shape_doc}
use Rattle.rf_base_file.specs.Ways.{Piece, part_in, slot_in, slots_in, way_of, quoted_behind}

-- the body of a list: what stands between its opener and its closer
abbrev pub body_docs : List Token → Way → ℕ → List Part → ℕ → List Doc
body_docs ts w opener [] closer = []
body_docs ts w opener (s ∷ []) closer = drop_doc ts opener s [] closer ∷ []
body_docs ts w opener (s ∷ next ∷ slots) closer =
    shape_doc w.shape w.charges ts
    (record { opener = opener; first = s; second = next; others = slots; closer = closer }) ∷ []

-- the document of a list of these slots
abbrev pub list_doc : List Token → Way → ℕ → List Part → ℕ → Doc
list_doc ts w opener slots closer =
    seq (mark_doc ts opener ∷ (body_docs ts w opener slots closer ++ mark_doc ts closer ∷ []))

-- whether the opener of this number begins with a hash sign
abbrev pub is_vector : List Token → ℕ → Bool
is_vector ts opener = begins (codes "#") (spelling_at ts opener)

-- the document of a list of these slots, quoted or not, in a vector or one itself, with this role
abbrev pub list_doc_in : StyleView → List Token → ℕ → List (Slot Piece) → ℕ → Bool → Role → Doc
list_doc_in style ts opener slots closer quoted role =
    let w = way_of style.table quoted role slots in
    list_doc ts w opener (slot_parts ts (slots_in quoted w.roles slots)) closer

-- the characters of an item that is an atom
abbrev pub atom_of : Kind → List ℕ → Option (List ℕ)
atom_of Atom spelling = Some spelling
atom_of _ spelling = None

abbrev pub token_atom : Option Token → Option (List ℕ)
token_atom None = None
token_atom (Some t) = atom_of t.kind t.spelling

abbrev pub atom_at : List Token → ℕ → Option (List ℕ)
atom_at ts item = token_atom (slice_get ts item)

-- an item by itself
abbrev pub item_piece : StyleView → List Token → ℕ → Option (List ℕ) → Piece
item_piece style ts item atom =
    record { first = item; last = item; atom = atom; doc = λ quoted role. item_doc style.columns ts item }

-- a prefix or a skip behind which what is quoted by this stands
abbrev pub prefixed_piece : List Token → ℕ → (Bool → Bool) → List Piece → Piece → Piece
prefixed_piece ts item quotes lead inner =
    record {
      first = item;
      last = inner.last;
      atom = None;
      doc = λ quoted role. prefixed_doc ts item (map (part_in (quotes quoted) Free) lead)
          (part_in (quotes quoted) Free inner);
    }

-- a list
abbrev pub list_piece : StyleView → List Token → ℕ → List (Slot Piece) → ℕ → Piece
list_piece style ts opener slots closer =
    record {
      first = opener;
      last = closer;
      atom = None;
      doc = λ quoted role. list_doc_in style ts opener slots closer (is_vector ts opener || quoted) role;
    }

-- a tree as a piece, and trees as entries
unfoldable mutual
  pub tree_piece : StyleView → List Token → Tree → Piece
  tree_piece style ts (Leaf item) = item_piece style ts item (atom_at ts item)
  tree_piece style ts (Point item) = item_piece style ts item None
  tree_piece style ts (Comment item) = item_piece style ts item None
  tree_piece style ts (Prefixed item lead inner) =
      prefixed_piece ts item (quoted_behind (spelling_at ts item)) (whats (forest_entries style ts lead))
      (tree_piece style ts inner)
  tree_piece style ts (DatumComment item lead inner) =
      prefixed_piece ts item (λ quoted. quoted) (whats (forest_entries style ts lead)) (tree_piece style ts inner)
  tree_piece style ts (Listed opener entries closer) =
      list_piece style ts opener (slots_of true (forest_entries style ts entries)) closer

  pub forest_entries : StyleView → List Token → Forest → List (Entry Piece)
  forest_entries style ts Empty = []
  forest_entries style ts (Then tree rest) =
      record { sort = sort_of ts tree; what = tree_piece style ts tree } ∷ forest_entries style ts rest

-- an entry and a slot of trees as one of pieces
abbrev pub entry_piece : StyleView → List Token → Entry Tree → Entry Piece
entry_piece style ts e = record { sort = e.sort; what = tree_piece style ts e.what }

abbrev pub slot_piece : StyleView → List Token → Slot Tree → Slot Piece
slot_piece style ts s =
    slot (map (entry_piece style ts) s.leads) (option_map (entry_piece style ts) s.key)
    (option_map (entry_piece style ts) s.datum) (option_map (entry_piece style ts) s.trailing)

-- a slot of the file as it is laid out
abbrev pub top_slot : StyleView → List Token → Slot Tree → Slot Part
top_slot style ts s = slot_in false Free (slot_piece style ts s)

-- the document of a slot of the file, whose items are these, as a layout keeps them
unfoldable pub style_doc : StyleView → List Token → Slot Tree → Doc
style_doc style ts s = slot_doc ts (top_slot style ts s)

-- the same as a part
abbrev pub top_part : StyleView → List Token → Slot Tree → Part
top_part style ts s = part_of (slot_steps (top_slot style ts s)) (style_doc style ts s)

-- the slots of the file, each on a line of its own, and a line break at the end; a file of no slot is a text of nothing
abbrev pub file_docs : List Token → List Part → List Doc
file_docs ts [] = []
file_docs ts (s ∷ slots) = s.doc ∷ (steps_docs ts s.last (steps_wanting want.Must slots) ++ Hard ∷ [])

-- the document of the file whose items are these, as a layout keeps them
unfoldable pub file_doc : StyleView → List Token → Forest → Doc
file_doc style ts trees = seq (file_docs ts (map (top_part style ts) (slots_of false (entries_of ts trees))))
