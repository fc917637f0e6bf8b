-- What is written of nodes.
use Rattle.std.specs.Prelude.{ℕ, ◌≡◌, Bool, false, None, Some, List, [], ◌∷◌, ◌++◌, map, slice_get}
use Rattle.rf_base_grammar.specs.Token.{Token}
use Rattle.rf_base_grammar.specs.declared.items.Item.{Item}
use Rattle.rf_base_document.specs.Document.{Doc}
use Rattle.rf_base_style.specs.Table.{StyleView}
use Rattle.rf_base_style.specs.declared.columns.Columns.{Columns}
use Rattle.rf_base_tree.specs.declared.separators.Want.{Want}
use Rattle.rf_base_tree.specs.declared.separators.Want.TheVariants as want
use Rattle.rf_base_tree.specs.Trees.{Tree, Listed, Forest}
use Rattle.rf_base_tree.specs.Slots.{Entry}
use Rattle.rf_base_tree.specs.Slots as definition
use Rattle.rf_base_tree.specs.Cut.{slot}
use Rattle.rf_base_file.specs.declared.shapes.Role.{Role}
use Rattle.rf_base_file.specs.declared.shapes.Role.TheVariants.{Free}
use Rattle.rf_base_file.specs.declared.shapes.Roles.{Roles}
use Rattle.rf_base_file.specs.Rows.{Part, gap_docs, item_doc, mark_doc, prefixed_doc, Step, steps_docs, steps_last, row_docs, steps_wanting, whats, slot_steps, slot_part}
use Rattle.rf_base_file.specs.Ways.{Piece, entry_in}
use Rattle.rf_base_file.specs.FileDocument.{tree_piece, entry_piece, style_doc}
use Rattle.rf_base_lines.specs.Spelled.{spelled_line}
use Rattle.rf_base_lines.specs.Lists.{between_docs, EachMayBreak, PartsMayBreak, SomeBreaks}
use Rattle.rf_style.specs.StyleOf.{seen}
use Rattle.rf_tree.specs.Kept.{IsTreeOf}
use Rattle.rf_tree.specs.Nodes.{UnfoldsTo}
use Rattle.rf_tree.specs.Slots.{NodeSlot, NodesStand, NodeSlotStands, NodeSlotsStand, SlotStands}
use Rattle.rf_tree.specs.declared.slotting.Slot.{Slot}
use Rattle.rf_tree.specs.declared.nodes.At.{At}
use Rattle.rf_tree.specs.declared.trees.Tree.{Tree as KeptTree}
use Rattle.rf_lines.specs.Written.{Lined, Stretch, IsLonger, IsOn, IsGrown, IsLineOf, spaced, MayStand}
use Rattle.rf_lines.specs.Turned.{IsLed, SomeLed}
use Rattle.rf_lines.specs.declared.writer.Writer.{Writer}
use Rattle.rf_ways.specs.declared.places.Brackets.{Brackets}
use Rattle.rf_ways.specs.Nodes.{node_in, slot_of, parts_of}
use Rattle.rf_ways.specs.declared.places.Placed.{Placed}
use Rattle.rf_lines.specs.declared.writer.LinePlace.{LinePlace}

-- something holds of each tree that the node is, unfolded, and the file's items
abbrev pub OfNode : Writer → At → (StyleView → List Token → Tree → Type 0) → Type 0
OfNode writer at P =
    (ts : List Token) (trees : Forest) (t : Tree) → IsTreeOf writer.tree.now ts trees →
    UnfoldsTo ts writer.tree.now.nodes at.0 t → P (seen writer.style.now) ts t

-- the same of a slot and of slots
abbrev pub OfSlot : Writer → NodeSlot → (StyleView → List Token → definition.Slot Tree → Type 0) → Type 0
OfSlot writer slot P =
    (ts : List Token) (trees : Forest) (s : definition.Slot Tree) → IsTreeOf writer.tree.now ts trees →
    NodeSlotStands ts writer.tree.now.nodes slot s → P (seen writer.style.now) ts s

abbrev pub OfSlots : Writer → List NodeSlot → (StyleView → List Token → List (definition.Slot Tree) → Type 0) → Type 0
OfSlots writer slots P =
    (ts : List Token) (trees : Forest) (ss : List (definition.Slot Tree)) → IsTreeOf writer.tree.now ts trees →
    NodeSlotsStand ts writer.tree.now.nodes slots ss → P (seen writer.style.now) ts ss

-- these documents in a row, flat or not, and where all is flat, were written behind what stood on the stretch
abbrev pub IsWritten : Writer → Bool → Stretch → Stretch → List Doc → Type 0
IsWritten writer flat old new ds =
    IsOn writer.tree.now.src.now old → IsGrown writer.tree.now.src.now flat old new ds

-- the text of the item was added, with so many columns
abbrev pub AddsItem : KeptTree → ℕ → ℕ → Stretch → Stretch → Type 0
AddsItem tree item columns old new =
    (i : Item) → slice_get tree.items.items item ≡ Some i → IsLonger old new i.start i.end columns

-- something holds of the document of what stands at the node, where it stands
abbrev pub OfPlaced : Placed → (Doc → Type 0) → Type 0
OfPlaced p P =
    (ts : List Token) (trees : Forest) (t : Tree) → IsTreeOf p.tree.now ts trees →
    UnfoldsTo ts p.tree.now.nodes p.at.0 t → P ((tree_piece (seen p.style.now) ts t).doc p.quoted p.role)

-- the item was written, flat or not, its columns counted in this way; the same of a prefix, an opener or a closer, and
-- of the gap between two items, in which this is wanted
abbrev pub WritesItem : Writer → ℕ → Columns → Stretch → Stretch → Type 0
WritesItem writer item columns old new =
    (ts : List Token) (trees : Forest) (flat : Bool) → IsTreeOf writer.tree.now ts trees →
    IsWritten writer flat old new (item_doc columns ts item ∷ [])

abbrev pub WritesMark : Writer → ℕ → Stretch → Stretch → Type 0
WritesMark writer item old new =
    (ts : List Token) (trees : Forest) (flat : Bool) → IsTreeOf writer.tree.now ts trees →
    IsWritten writer flat old new (mark_doc ts item ∷ [])

abbrev pub WritesGap : Writer → ℕ → ℕ → Want → Stretch → Stretch → Type 0
WritesGap writer before next w old new =
    (ts : List Token) (trees : Forest) (flat : Bool) → IsTreeOf writer.tree.now ts trees →
    IsWritten writer flat old new (gap_docs ts before next w)

-- this is the number of the first item of what stands at the node
abbrev pub IsFirstItem : KeptTree → At → ℕ → Type 0
IsFirstItem tree at item =
    (style : StyleView) (ts : List Token) (t : Tree) → UnfoldsTo ts tree.nodes at.0 t →
    item ≡ (tree_piece style ts t).first

-- the piece was written in this place, with this role, and this is the number of its last item
abbrev pub WritesPiece : Writer → Piece → LinePlace → Role → Stretch → Stretch → ℕ → Type 0
WritesPiece writer piece place role old new last =
    (last ≡ piece.last) × IsWritten writer place.flat old new (piece.doc place.quoted role ∷ [])

-- what stands at the node was
abbrev pub WritesNode : Writer → At → LinePlace → Role → Stretch → Stretch → ℕ → Type 0
WritesNode writer at place role old new last =
    OfNode writer at (λ style ts t. WritesPiece writer (tree_piece style ts t) place role old new last)

-- a prefix or a skip and its datum were
abbrev pub WritesPrefixed : Writer → ℕ → At → LinePlace → Stretch → Stretch → ℕ → Type 0
WritesPrefixed writer item inner place old new last =
    OfNode writer inner (λ style ts t.
    (last ≡ (tree_piece style ts t).last)
    × IsWritten writer place.flat old new
    (prefixed_doc ts item [] (node_in style ts place.quoted Free t) ∷ []))

-- the list at the node, which has these brackets, was
abbrev pub WritesList : Writer → At → Brackets → LinePlace → Role → Stretch → Stretch → Type 0
WritesList writer at list place role old new =
    (ts : List Token) (trees : Forest) (f : Forest) → IsTreeOf writer.tree.now ts trees →
    UnfoldsTo ts writer.tree.now.nodes at.0 (Listed list.opener f list.closer) →
    IsWritten writer place.flat old new
    ((node_in (seen writer.style.now) ts place.quoted role (Listed list.opener f list.closer)).doc ∷ [])

-- what stands between these brackets was: slots with these roles, between which lines may stand, and which break where
-- one begins with a comment
abbrev pub WritesBody : Writer → Brackets → List NodeSlot → Roles → LinePlace → Stretch → Stretch → Type 0
WritesBody writer list slots roles place old new =
    OfSlots writer slots (λ style ts ss.
    let parts = parts_of style ts place.quoted roles ss in
    (PartsMayBreak ts parts × IsWritten writer place.flat old new (between_docs ts list.opener parts list.closer))
    × (SomeLed slots → SomeBreaks parts))

-- the part was written behind the item of this number, with the gap in which this is wanted
abbrev pub WritesPart : Writer → List Token → ℕ → Want → Part → Bool → Stretch → Stretch → ℕ → Type 0
WritesPart writer ts before w p flat old new last =
    MayStand ts before p.first w × (last ≡ p.last)
    × IsWritten writer flat old new (gap_docs ts before p.first (spaced w) ++ p.doc ∷ [])

-- what stands at a node was; a slot of a list was, which breaks where it begins with a comment
abbrev pub WritesBehind : Writer → ℕ → Want → At → LinePlace → Role → Stretch → Stretch → ℕ → Type 0
WritesBehind writer before w at place role old new last =
    OfNode writer at (λ style ts t.
    WritesPart writer ts before w (node_in style ts place.quoted role t) place.flat old new last)

abbrev pub WritesSlotBehind : Writer → ℕ → Want → NodeSlot → LinePlace → Role → Stretch → Stretch → ℕ → Type 0
WritesSlotBehind writer before w slot place role old new last =
    OfSlot writer slot (λ style ts s.
    let part = slot_part ts (slot_of style ts place.quoted role s) in
    WritesPart writer ts before w part place.flat old new last × (IsLed slot → spelled_line part.doc false ≡ None))

-- steps were, of which there are some, the first with the gap in which this is wanted
abbrev pub WritesRow : Writer → List Token → ℕ → Want → List Step → Bool → Stretch → Stretch → ℕ → Type 0
WritesRow writer ts before w [] flat old new last = ⊥
WritesRow writer ts before w (s ∷ steps) flat old new last =
    MayStand ts before s.part.first w × (last ≡ steps_last s.part.last steps)
    × IsWritten writer flat old new (gap_docs ts before s.part.first (spaced w) ++ row_docs ts (s ∷ steps))

-- what stands in a slot behind its comments was, where there is a datum
abbrev pub behind_comments : definition.Slot Tree → definition.Slot Tree
behind_comments s = slot [] s.key s.datum s.trailing

abbrev pub WritesKeyed : Writer → ℕ → Want → NodeSlot → LinePlace → Role → Stretch → Stretch → ℕ → Type 0
WritesKeyed writer before w slot place role old new last =
    OfSlot writer slot (λ style ts s. ((e : Entry Tree) × (s.datum ≡ Some e))
    × WritesRow writer ts before w (slot_steps (slot_of style ts place.quoted role (behind_comments s))) place.flat
    old new last)

-- parts were written one behind the other, each behind a space in place of which a line may stand
abbrev pub WritesParts : Writer → List Token → ℕ → List Part → Bool → Stretch → Stretch → ℕ → Type 0
WritesParts writer ts before parts flat old new last =
    EachMayBreak ts before parts × (last ≡ steps_last before (steps_wanting want.Space parts))
    × IsWritten writer flat old new (steps_docs ts before (steps_wanting want.Space parts))

-- comments as parts; they were
abbrev pub comment_parts : StyleView → List Token → Bool → List (Entry Tree) → List Part
comment_parts style ts quoted es = whats (map (entry_in quoted Free) (map (entry_piece style ts) es))

abbrev pub WritesComments : Writer → ℕ → List At → LinePlace → Stretch → Stretch → ℕ → Type 0
WritesComments writer before comments place old new last =
    (ts : List Token) (trees : Forest) (es : List (Entry Tree)) → IsTreeOf writer.tree.now ts trees →
    NodesStand ts writer.tree.now.nodes comments es →
    WritesParts writer ts before (comment_parts (seen writer.style.now) ts place.quoted es) place.flat old new last

-- slots with these roles were, which break where one begins with a comment
abbrev pub WritesOthers : Writer → ℕ → List NodeSlot → Roles → LinePlace → Stretch → Stretch → ℕ → Type 0
WritesOthers writer before slots roles place old new last =
    OfSlots writer slots (λ style ts ss.
    let parts = parts_of style ts place.quoted roles ss in
    WritesParts writer ts before parts place.flat old new last × (SomeLed slots → SomeBreaks parts))

-- this is what is written of what stands at the node, in this place; of a top-level slot
abbrev pub WritesAlone : Writer → At → LinePlace → Role → Lined → Type 0
WritesAlone writer at place role l =
    OfNode writer at (λ style ts t. IsLineOf place.flat l
    ((tree_piece style ts t).doc place.quoted role))

abbrev pub WritesSlot : Writer → Slot → Lined → Type 0
WritesSlot writer slot l =
    (ts : List Token) (trees : Forest) (top : definition.Slot Tree) → IsTreeOf writer.tree.now ts trees →
    SlotStands ts writer.tree.now.nodes slot top
    → IsLineOf false l (style_doc (seen writer.style.now) ts top)
