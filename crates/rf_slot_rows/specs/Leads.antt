-- Top-level slots that are comments alone.
use Rattle.std.specs.Prelude.{ℕ, ◌≡◌, ◌<◌, Option, None, List, [], ◌∷◌, length}
use Rattle.std.specs.List.{AllByRecursion}
use Rattle.rf_base_document.specs.Document.{Doc}
use Rattle.rf_base_document.specs.Render.{Piece}
use Rattle.rf_base_grammar.specs.Token.{Token}
use Rattle.rf_base_style.specs.Table.{StyleView}
use Rattle.rf_base_tree.specs.declared.separators.Want.TheVariants as want
use Rattle.rf_base_tree.specs.Trees.{Tree, Comment, Forest}
use Rattle.rf_base_tree.specs.Slots.{Entry}
use Rattle.rf_base_file.specs.Rows.{step, steps_wanting}
use Rattle.rf_style.specs.StyleOf.{seen}
use Rattle.rf_tree.specs.Kept.{IsTreeOf}
use Rattle.rf_tree.specs.Nodes.{UnfoldsTo}
use Rattle.rf_tree.specs.Slots.{NodesStand}
use Rattle.rf_tree.specs.declared.slotting.Slot.{Slot}
use Rattle.rf_tree.specs.declared.nodes.At.{At}
use Rattle.rf_tree.specs.declared.trees.Tree.{Tree as KeptTree}
use Rattle.rf_ways.specs.Nodes.{node_in}
use Rattle.rf_ways.specs.Steps.{docs_behind}
use Rattle.rf_ways.specs.declared.places.Place.{Place}
use Rattle.rf_slot_rows.specs.declared.context.Context.{Context}
use Rattle.rf_rows.specs.declared.laying.Spot.{Spot}
use Rattle.rf_rows.specs.Laying.{frames_of, AreLaid}
use Rattle.rf_slot_rows.specs.Nodes.{OfNode, nodes_in}

-- the slot has comments, and behind them no key, no datum and no other comment
pub record HasLeadsAlone (slot : Slot) : Type 0 where
  pub some : 0 < length slot.leads.items
  pub key : slot.key ≡ None
  pub datum : slot.datum ≡ None
  pub trailing : slot.trailing ≡ None

-- each of the entries is a comment of one item
abbrev pub AreComments : List (Entry Tree) → Type 0
AreComments es = AllByRecursion (λ e. (item : ℕ) × (e.what ≡ Comment item)) es

-- each of the nodes, unfolded, is one
abbrev pub NodesAreComments : KeptTree → List At → Type 0
NodesAreComments tree ats =
    (ts : List Token) (es : List (Entry Tree)) → NodesStand ts tree.nodes ats es → AreComments es

-- the entries in this place as documents, each with the gap before it, where a line is wanted
abbrev pub lines_docs : Place → StyleView → List Token → List (Entry Tree) → List Doc
lines_docs place style ts es =
    docs_behind ts None (steps_wanting want.Line (nodes_in style ts place.quoted place.role es))

-- the tree in this place as documents, behind this item, if there is one, with the gap before it, where a line is
-- wanted
abbrev pub line_docs : Place → StyleView → List Token → Option ℕ → Tree → List Doc
line_docs place style ts before t =
    docs_behind ts before (step want.Line (node_in style ts place.quoted place.role t) ∷ [])

-- something holds of some tree that the node is, unfolded, and the file's items; the same of some entries that the
-- nodes are
abbrev pub OfSomeNode : Context → At → (StyleView → List Token → Tree → Type 0) → Type 0
OfSomeNode context at P =
    (ts : List Token) × (trees : Forest) × (t : Tree) × IsTreeOf context.tree.now ts trees
    × UnfoldsTo ts context.tree.now.nodes at.0 t × P (seen context.style.now) ts t

abbrev pub OfSomeNodes : Context → List At → (StyleView → List Token → List (Entry Tree) → Type 0) → Type 0
OfSomeNodes context ats P =
    (ts : List Token) × (trees : Forest) × (es : List (Entry Tree)) × IsTreeOf context.tree.now ts trees
    × NodesStand ts context.tree.now.nodes ats es × P (seen context.style.now) ts es

-- the node was laid out so, and this is the number of its last item
abbrev pub BehindLaid : {P : Type 0} → Context → At → Place → Spot → Option ℕ → (P → P → List Piece → ℕ → Type 0) → P
    → P → ℕ → Type 0
BehindLaid context at place spot before holds old new last =
    OfNode context at (λ style ts t. (last ≡ (node_in style ts place.quoted place.role t).last)
    × AreLaid holds old new (frames_of spot (line_docs place style ts before t)) [] [])
