-- What is put on the stack for nodes and slots.
use Rattle.std.specs.Prelude.{ℕ, ◌≡◌, ◌≤◌, ◌+◌, Bool, false, Option, None, Some, List, [], ◌∷◌, ◌++◌, map, length, take, drop, unwrap_or}
use Rattle.std.specs.Option.{option_map}
use Rattle.rf_base_document.specs.Document.{Align}
use Rattle.rf_base_document.specs.Sequence.{seq}
use Rattle.rf_base_grammar.specs.Token.{Token}
use Rattle.rf_base_style.specs.Table.{StyleView}
use Rattle.rf_base_tree.specs.declared.separators.Want.{Want}
use Rattle.rf_base_tree.specs.declared.separators.Want.TheVariants as want
use Rattle.rf_base_tree.specs.Trees.{Tree, Listed, Forest}
use Rattle.rf_base_tree.specs.Slots.{Entry}
use Rattle.rf_base_tree.specs.Slots as definition
use Rattle.rf_base_file.specs.declared.shapes.Role.{Role}
use Rattle.rf_base_file.specs.declared.shapes.Role.TheVariants.{Free}
use Rattle.rf_base_file.specs.declared.shapes.Roles.{Roles}
use Rattle.rf_base_file.specs.declared.shapes.Way.{Way}
use Rattle.rf_base_file.specs.Rows.{Part, step, steps_docs, steps_last, row_docs, steps_wanting, prefixed_doc, whats, perhaps_step, slot_steps, slot_part}
use Rattle.rf_base_file.specs.Shapes.{Slots, shape_doc}
use Rattle.rf_base_file.specs.Ways.{part_in, entry_in, first_role, later_roles}
use Rattle.rf_base_file.specs.FileDocument.{body_docs, tree_piece, entry_piece, style_doc, top_part}
use Rattle.rf_style.specs.StyleOf.{seen}
use Rattle.rf_tree.specs.Kept.{IsTreeOf}
use Rattle.rf_tree.specs.Nodes.{UnfoldsTo}
use Rattle.rf_tree.specs.Ahead.{BeginWith, alone_slot}
use Rattle.rf_tree.specs.Slots.{NodeSlot, NodesStand, NodeStands, NodeSlotStands, NodeSlotsStand, SlotStands}
use Rattle.rf_tree.specs.declared.slotting.Slot.{Slot}
use Rattle.rf_tree.specs.declared.nodes.At.{At}
use Rattle.rf_tree.specs.declared.trees.Tree.{Tree as KeptTree}
use Rattle.rf_ways.specs.Steps.{prefixed_steps}
use Rattle.rf_rows.specs.declared.pieces.Fill.{Fill}
use Rattle.rf_rows.specs.declared.pieces.Fill.TheVariants as fill
use Rattle.rf_rows.specs.declared.rows.Rows.{Rows}
use Rattle.rf_rows.specs.Rows.{stacked}
use Rattle.rf_slot_rows.specs.declared.context.Context.{Context}
use Rattle.rf_ways.specs.declared.places.Place.{Place}
use Rattle.rf_ways.specs.declared.places.Brackets.{Brackets}
use Rattle.rf_ways.specs.Nodes.{node_in, slot_of, parts_of}
use Rattle.rf_slot_rows.specs.declared.nodes.Begun.{Begun}
use Rattle.rf_slot_rows.specs.declared.nodes.Run.{Run}
use Rattle.rf_rows.specs.Puts.{Fills, Puts, IsHigh}
use Rattle.rf_slot_rows.specs.Puts.{StepsPut}
use Rattle.rf_slot_rows.specs.Bodies.{free_steps, free_inner, first_docs, headers_docs, roles_behind}

-- the node, unfolded, is that of some entry, if it is there; the same of those behind a prefix or a skip
abbrev pub MayBeNode : KeptTree → Option At → Type 0
MayBeNode tree at =
    (ts : List Token) × (trees : Forest) × (e : Option (Entry Tree)) × IsTreeOf tree ts trees
    × NodeStands ts tree.nodes at e

abbrev pub ArePrefixed : KeptTree → List At → At → Type 0
ArePrefixed tree lead inner =
    (ts : List Token) × (trees : Forest) × (es : List (Entry Tree)) × (t : Tree) × IsTreeOf tree ts trees
    × NodesStand ts tree.nodes lead es × UnfoldsTo ts tree.nodes inner.0 t

-- something holds of each tree that the node is, unfolded, and the file's items; the same of nodes, of a node that may
-- be there, of a slot and of slots
abbrev pub OfNode : Context → At → (StyleView → List Token → Tree → Type 0) → Type 0
OfNode context at P =
    (ts : List Token) (trees : Forest) (t : Tree) → IsTreeOf context.tree.now ts trees →
    UnfoldsTo ts context.tree.now.nodes at.0 t → P (seen context.style.now) ts t

abbrev pub OfNodes : Context → List At → (StyleView → List Token → List (Entry Tree) → Type 0) → Type 0
OfNodes context ats P =
    (ts : List Token) (trees : Forest) (es : List (Entry Tree)) → IsTreeOf context.tree.now ts trees →
    NodesStand ts context.tree.now.nodes ats es → P (seen context.style.now) ts es

abbrev pub OfPerhaps : Context → Option At → (StyleView → List Token → Option (Entry Tree) → Type 0) → Type 0
OfPerhaps context at P =
    (ts : List Token) (trees : Forest) (e : Option (Entry Tree)) → IsTreeOf context.tree.now ts trees →
    NodeStands ts context.tree.now.nodes at e → P (seen context.style.now) ts e

abbrev pub OfSlot : Context → NodeSlot → (StyleView → List Token → definition.Slot Tree → Type 0) → Type 0
OfSlot context slot P =
    (ts : List Token) (trees : Forest) (s : definition.Slot Tree) → IsTreeOf context.tree.now ts trees →
    NodeSlotStands ts context.tree.now.nodes slot s → P (seen context.style.now) ts s

abbrev pub OfSlots : Context → List NodeSlot → (StyleView → List Token → List (definition.Slot Tree) → Type 0) → Type 0
OfSlots context slots P =
    (ts : List Token) (trees : Forest) (ss : List (definition.Slot Tree)) → IsTreeOf context.tree.now ts trees →
    NodeSlotsStand ts context.tree.now.nodes slots ss → P (seen context.style.now) ts ss

-- entries as parts in a place
abbrev pub nodes_in : StyleView → List Token → Bool → Role → List (Entry Tree) → List Part
nodes_in style ts quoted role es = map (part_in quoted role) (whats (map (entry_piece style ts) es))

abbrev pub perhaps_in : StyleView → List Token → Bool → Role → Option (Entry Tree) → Option (Entry Part)
perhaps_in style ts quoted role e = option_map (entry_in quoted role) (option_map (entry_piece style ts) e)

-- the slots of a file as parts
abbrev pub tops_of : StyleView → List Token → List (definition.Slot Tree) → List Part
tops_of style ts ss = map (top_part style ts) ss

-- the number of the first item of a tree, or this number where there is none
abbrev pub first_or : StyleView → List Token → Option (Entry Tree) → ℕ → ℕ
first_or style ts None n = n
first_or style ts (Some e) n = (tree_piece style ts e.what).first

-- this is the number of the first item of the slot, in each style and place
abbrev pub IsSlotFirst : KeptTree → NodeSlot → ℕ → Type 0
IsSlotFirst tree slot item =
    (style : StyleView) (quoted : Bool) (role : Role) (ts : List Token) (s : definition.Slot Tree) →
    NodeSlotStands ts tree.nodes slot s → item ≡ (slot_part ts (slot_of style ts quoted role s)).first

-- this is that of what stands at a node, or the other number where there is no node
abbrev pub IsFirstOr : KeptTree → Option At → ℕ → ℕ → Type 0
IsFirstOr tree at other item =
    (style : StyleView) (ts : List Token) (e : Option (Entry Tree)) → NodeStands ts tree.nodes at e →
    item ≡ first_or style ts e other

-- this part was put on the stack, and this is the number of its last item
abbrev pub PartPut : Part → Rows → Rows → ℕ → Type 0
PartPut p old new last = (last ≡ p.last) × Puts old new (p.doc ∷ [])

-- what stands at the node was
abbrev pub NodePut : Context → At → Place → Rows → Rows → ℕ → Type 0
NodePut context at place old new last =
    OfNode context at (λ style ts t. PartPut (node_in style ts place.quoted place.role t) old new last)

-- what stands at the node was, behind this item, if there is one, with the gap before it
abbrev pub BehindPut : Context → At → Place → Want → Option ℕ → Rows → Rows → ℕ → Type 0
BehindPut context at place want before old new last =
    OfNode context at (λ style ts t.
    StepsPut ts old new before (Some last) (step want (node_in style ts place.quoted place.role t) ∷ []))

-- the same of nodes and of a node that may be there
abbrev pub NodesPut : Context → List At → Place → Want → Option ℕ → Rows → Rows → Option ℕ → Type 0
NodesPut context ats place want before old new last =
    OfNodes context ats (λ style ts es.
    StepsPut ts old new before last (steps_wanting want (nodes_in style ts place.quoted place.role es)))

abbrev pub PerhapsPut : Context → Option At → Place → Want → Option ℕ → Rows → Rows → Option ℕ → Type 0
PerhapsPut context at place want before old new last =
    OfPerhaps context at (λ style ts e.
    StepsPut ts old new before last (perhaps_step want (perhaps_in style ts place.quoted place.role e) []))

-- something holds of a prefix's or a skip's comments and of its datum, as parts
abbrev pub OfPrefixed : Context → List At → At → Place → (List Token → List Part → Part → Type 0) → Type 0
OfPrefixed context lead inner place P =
    (ts : List Token) (trees : Forest) (es : List (Entry Tree)) (t : Tree) → IsTreeOf context.tree.now ts trees →
    NodesStand ts context.tree.now.nodes lead es → UnfoldsTo ts context.tree.now.nodes inner.0 t →
    P ts (nodes_in (seen context.style.now) ts place.quoted place.role es)
    (node_in (seen context.style.now) ts place.quoted place.role t)

-- a prefix or a skip was put on the stack
abbrev pub PrefixedPut : Context → ℕ → List At → At → Place → Rows → Rows → ℕ → Type 0
PrefixedPut context item lead inner place old new last =
    OfPrefixed context lead inner place (λ ts comments datum.
    (last ≡ datum.last) × Puts old new (prefixed_doc ts item comments datum ∷ []))

-- what stands behind it was, aligned
abbrev pub AlignedPut : Context → ℕ → List At → At → Place → Rows → Rows → ℕ → Type 0
AlignedPut context item lead inner place old new last =
    OfPrefixed context lead inner place (λ ts comments datum.
    (last ≡ datum.last) × Puts old new (Align (seq (steps_docs ts item (prefixed_steps comments datum))) ∷ []))

-- the same, piece by piece
abbrev pub LeadPut : Context → ℕ → List At → At → Place → Rows → Rows → ℕ → Type 0
LeadPut context item lead inner place old new last =
    OfPrefixed context lead inner place (λ ts comments datum.
    (last ≡ datum.last) × Puts old new (steps_docs ts item (prefixed_steps comments datum)))

-- the slot is this datum alone
abbrev pub IsAlone : NodeSlot → At → Type 0
IsAlone slot at = slot ≡ alone_slot at

-- a slot was put
abbrev pub SlotPut : Context → NodeSlot → Place → Rows → Rows → ℕ → Type 0
SlotPut context slot place old new last =
    OfSlot context slot (λ style ts s. PartPut (slot_part ts (slot_of style ts place.quoted place.role s)) old new last)

-- its parts were, piece by piece
abbrev pub SlotPartsPut : Context → NodeSlot → Place → Rows → Rows → Option ℕ → Type 0
SlotPartsPut context slot place old new last =
    OfSlot context slot (λ style ts s.
    let slot = slot_of style ts place.quoted place.role s in
    (unwrap_or last 0 ≡ (slot_part ts slot).last) × Puts old new (row_docs ts (slot_steps slot)))

-- the list at the node, which has these brackets, was
abbrev pub ListPut : Context → At → Brackets → Place → Rows → Rows → Type 0
ListPut context at list place old new =
    (ts : List Token) (trees : Forest) (f : Forest) → IsTreeOf context.tree.now ts trees →
    UnfoldsTo ts context.tree.now.nodes at.0 (Listed list.opener f list.closer) →
    Puts old new
    ((node_in (seen context.style.now) ts place.quoted place.role (Listed list.opener f list.closer)).doc ∷ [])

-- what stands at the node was put as one piece
abbrev pub UnmadePut : Context → At → Place → Rows → Rows → Type 0
UnmadePut context at place old new =
    OfNode context at (λ style ts t. Puts old new ((node_in style ts place.quoted place.role t).doc ∷ []))

-- what stands between the brackets of a list of these slots was
abbrev pub BodyPut : Context → Brackets → Way → List NodeSlot → Place → Rows → Rows → Type 0
BodyPut context list way slots place old new =
    OfSlots context slots (λ style ts ss.
    Puts old new (body_docs ts way list.opener (parts_of style ts place.quoted way.roles ss) list.closer))

-- the first slot of a list was, behind its opener
abbrev pub FirstPut : Context → ℕ → NodeSlot → Place → Rows → Rows → ℕ → Type 0
FirstPut context opener slot place old new last =
    OfSlot context slot (λ style ts s.
    let p = slot_part ts (slot_of style ts place.quoted place.role s) in
    (last ≡ p.last) × Puts old new (first_docs ts opener p))

-- a list of two slots or more, whose first slot is this part
abbrev pub slots_behind : StyleView → List Token → Brackets → Bool → Roles → Part → definition.Slot Tree →
    List (definition.Slot Tree) → Slots
slots_behind style ts list quoted roles first s ss =
    record {
      opener = list.opener;
      first = first;
      second = slot_part ts (slot_of style ts quoted (first_role roles) s);
      others = parts_of style ts quoted (later_roles roles) ss;
      closer = list.closer;
    }

-- the other slots of a list, of which there is one at least, were put behind its first one, which was put on this
-- stack, and all of them were taken together
abbrev pub RestPut : Context → Begun → List NodeSlot → Place → Rows → Rows → Type 0
RestPut context begun slots place old new =
    (base : Rows) (first : Part) (ts : List Token) (trees : Forest) (s : definition.Slot Tree)
    (ss : List (definition.Slot Tree)) → IsHigh base begun.height → begun.last ≡ first.last →
    Puts base old (first_docs ts begun.list.opener first) → IsTreeOf context.tree.now ts trees →
    NodeSlotsStand ts context.tree.now.nodes slots (s ∷ ss) →
    Puts base new (shape_doc begun.way.shape begun.way.charges ts
    (slots_behind (seen context.style.now) ts begun.list place.quoted (later_roles begun.way.roles) first s ss) ∷ [])

-- slots of a list were put behind what was put, and the gap before the closer; the bodies stand at this height, behind
-- so many headers
abbrev pub OthersPut : Context → ℕ → ℕ → Run → List NodeSlot → Place → Rows → Rows → ℕ → Type 0
OthersPut context closer more run others place old new bodies =
    OfSlots context others (λ style ts ss.
    let parts = parts_of style ts place.quoted run.roles ss in
    Fills old new (free_inner ts run.last parts closer)
    × (bodies ≡ length old.stack.items
    + length (headers_docs ts run.last (take more parts) (drop more parts) closer fill.Newline)))

-- slots of a list were put behind what was put, each with a free gap before it
abbrev pub RunPut : Context → Run → List NodeSlot → Place → Rows → Rows → Run → Type 0
RunPut context run slots place old new next =
    OfSlots context slots (λ style ts ss.
    let parts = parts_of style ts place.quoted run.roles ss in
    (next.last ≡ steps_last run.last (steps_wanting want.Line parts))
    × (next.roles ≡ roles_behind (length ss) run.roles) × Fills old new (free_steps ts run.last parts))

-- of so many of these slots at most the first begins with this node, or there are none
abbrev pub BeginOf : ℕ → List NodeSlot → Option At → Type 0
BeginOf left slots None = take left slots ≡ []
BeginOf left slots (Some at) = (1 ≤ left) × BeginWith slots (Some at)

-- a slot of a list was put behind this item, with a free gap before it
abbrev pub FreePut : Context → ℕ → NodeSlot → Place → Rows → Rows → ℕ → Type 0
FreePut context before slot place old new last =
    OfSlot context slot (λ style ts s.
    let p = slot_part ts (slot_of style ts place.quoted place.role s) in
    (last ≡ p.last) × Fills old new (free_steps ts before (p ∷ [])))

-- where top-level slots stand
abbrev pub place_of_tops : KeptTree → Place
place_of_tops tree =
    record { before = length tree.nodes; quoted = false; role = Free; right = 0; behind = 0 }

-- the document of a top-level slot was put on the stack
abbrev pub TopPut : StyleView → KeptTree → Slot → Rows → Rows → Type 0
TopPut style tree slot old new =
    (ts : List Token) (trees : Forest) (s : definition.Slot Tree) (f : Fill) → IsTreeOf tree ts trees →
    SlotStands ts tree.nodes slot s → stacked new f ≡ stacked old f ++ style_doc style ts s ∷ []
