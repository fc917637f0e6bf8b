-- A slot that is a datum alone is that datum.
use Rattle.std.proofs.Common.{◌≡◌, ℕ, ◌+◌, ◌*◌, ◌<◌, ◌≤◌, Bool, Option, None, Some, List, [], ◌∷◌, length, refl, sym, ap, ◌∙◌, subst, arith}
use Rattle.std.specs.List.{AllByRecursion}
use Rattle.std.specs.Option.{IfSome}
use Rattle.rf_base_document.specs.Document.{Doc}
use Rattle.rf_base_document.proofs.Sequence.{seq_of_one}
use Rattle.rf_base_grammar.specs.Token.{Token}
use Rattle.rf_base_style.specs.Table.{StyleView}
use Rattle.rf_base_tree.specs.Trees.{Tree, tree_items}
use Rattle.rf_base_tree.specs.Slots.{Entry, slot_entries}
use Rattle.rf_base_tree.specs.Slots as definition
use Rattle.rf_base_tree.specs.Size.{size_of, entries_items}
use Rattle.rf_base_tree.specs.Cut.{slot}
use Rattle.rf_base_file.specs.declared.shapes.Role.{Role}
use Rattle.rf_base_file.specs.Rows.{Part, part, steps_docs, steps_last, slot_part}
use Rattle.rf_tree.specs.Nodes.{UnfoldsTo}
use Rattle.rf_tree.specs.Slots.{NodeSlot, NodesStand, NodeStands, NodeSlotStands, parts_in}
use Rattle.rf_tree.specs.declared.nodes.At.{At}
use Rattle.rf_tree.specs.Told.{Node}
use Rattle.rf_rows.specs.Sizes.{rows_size}
use Rattle.rf_rows.specs.declared.rows.Rows.{Rows}
use Rattle.rf_slot_rows.specs.Growth.{GrowsLess}
use Rattle.rf_ways.specs.Nodes.{node_in, slot_of}
use Rattle.rf_slot_rows.specs.Nodes.{IsAlone, PartPut}
use Rattle.rf_slot_rows.proofs.Sizes.{entry_size}

-- a slot of one entry
abbrev one : Entry Tree → definition.Slot Tree
one e = slot [] None (Some e) None

-- the trees of a slot that is a datum alone are the datum's
record IsOne (ts : List Token) (nodes : List Node) (at : At) (s : definition.Slot Tree) : Type 0 where
  entry : Entry Tree
  is : s ≡ one entry
  unfolds : UnfoldsTo ts nodes at.0 entry.what

one_parts : (ts : List Token) (nodes : List Node) (at : At) (leads : List (Entry Tree)) (key datum trailing : Option (Entry Tree)) →
    NodesStand ts nodes [] leads → NodeStands ts nodes None key → NodeStands ts nodes (Some at) datum → NodeStands ts nodes None trailing → IsOne ts nodes at (slot leads key datum trailing)
one_parts ts nodes at (l ∷ leads) key datum trailing h i j k = absurd h
one_parts ts nodes at [] (Some e) datum trailing h i j k = absurd i
one_parts ts nodes at [] None None trailing h i j k = absurd j
one_parts ts nodes at [] None (Some e) (Some u) h i j k = absurd k
one_parts ts nodes at [] None (Some e) None h i j k = record { entry = e; is = refl; unfolds = j }

one_slot : (ts : List Token) (nodes : List Node) (kept : NodeSlot) (at : At) (s : definition.Slot Tree) → IsAlone kept at → NodeSlotStands ts nodes kept s → IsOne ts nodes at s
one_slot ts nodes kept at s is stands =
    let h = subst (λ (k : NodeSlot). NodeSlotStands ts nodes k s) is stands in
    one_parts ts nodes at s.leads s.key s.datum s.trailing h.leads h.key h.datum h.trailing

pub told_alone : (kept : NodeSlot) (o : Option At) (at : At) → o ≡ Some at → IfSome o (IsAlone kept) → IsAlone kept at
told_alone kept o at is h = subst (λ (x : Option At). IfSome x (IsAlone kept)) is h

-- its node
pub alone_node : (ts : List Token) (nodes : List Node) (kept : NodeSlot) (at : At) (s : definition.Slot Tree) → IsAlone kept at → NodeSlotStands ts nodes kept s → (t : Tree) × UnfoldsTo ts nodes at.0 t
alone_node ts nodes kept at s is stands =
    let o = one_slot ts nodes kept at s is stands in (o.entry.what, o.unfolds)

pub alone_below : (n : ℕ) (kept : NodeSlot) (at : At) → IsAlone kept at → AllByRecursion (λ a. a.0 < n) (parts_in kept) → at.0 < n
alone_below n kept at is below =
    let all = subst (λ (k : NodeSlot). AllByRecursion (λ a. a.0 < n) (parts_in k)) is below in all.0

-- its part
one_part : (style : StyleView) (ts : List Token) (quoted : Bool) (role : Role) (e : Entry Tree) → node_in style ts quoted role e.what ≡ slot_part ts (slot_of style ts quoted role (one e))
unfolding steps_docs steps_last
one_part style ts quoted role e =
    let p = node_in style ts quoted role e.what in ap (λ (d : Doc). part p.first p.last d) (sym (seq_of_one p.doc))

pub alone_put : (style : StyleView) (ts : List Token) (nodes : List Node) (quoted : Bool) (role : Role) (kept : NodeSlot) (at : At) (s : definition.Slot Tree) (old new : Rows) (last : ℕ) → IsAlone kept at → NodeSlotStands ts nodes kept s →
    ((t : Tree) → UnfoldsTo ts nodes at.0 t → PartPut (node_in style ts quoted role t) old new last) → PartPut (slot_part ts (slot_of style ts quoted role s)) old new last
alone_put style ts nodes quoted role kept at s old new last is stands put =
    let o = one_slot ts nodes kept at s is stands in
    let same = one_part style ts quoted role o.entry ∙ ap (λ (x : definition.Slot Tree). slot_part ts (slot_of style ts quoted role x)) (sym o.is) in
    subst (λ (p : Part). PartPut p old new last) same (put o.entry.what o.unfolds)

-- how it grows
pub alone_grown : (ts : List Token) (nodes : List Node) (kept : NodeSlot) (at : At) (s : definition.Slot Tree) (old new : Rows) → IsAlone kept at → NodeSlotStands ts nodes kept s →
    ((t : Tree) → UnfoldsTo ts nodes at.0 t → GrowsLess 140 (size_of ts (tree_items t)) old new) →
    rows_size new + 100 * length (slot_entries s) ≤ rows_size old + 200 * size_of ts (entries_items (slot_entries s)) + 28
alone_grown ts nodes kept at s old new is stands grown =
    let o = one_slot ts nodes kept at s is stands in
    subst (λ (x : definition.Slot Tree). rows_size new + 100 * length (slot_entries x) ≤ rows_size old + 200 * size_of ts (entries_items (slot_entries x)) + 28) (sym o.is)
    (omega (arith, grown o.entry.what o.unfolds, entry_size ts o.entry))
