-- The slots of nodes are those of the trees that they stand for.
use Rattle.std.proofs.Common.{◌≡◌, ℕ, Bool, true, Option, None, Some, List, [], ◌∷◌, map, slice_get, refl, sym, ap, ◌∙◌, subst}
use Rattle.std.specs.Option.{option_map}
use Rattle.std.proofs.lemmas.Bool.{false≢true}
use Rattle.std.proofs.lemmas.Option.{same_Some}
use Rattle.rf_base_grammar.specs.Token.{Token}
use Rattle.rf_base_grammar.specs.declared.kinds.Kind.{Kind}
use Rattle.rf_base_grammar.specs.declared.kinds.Kind.TheVariants.{Dot}
use Rattle.rf_base_tree.specs.Trees.{Tree, Leaf, Point, Comment, Listed, Forest, Empty, Then}
use Rattle.rf_base_tree.specs.Formed.{is_whole}
use Rattle.rf_base_tree.specs.Slots.{Entry, Sort, Dotted, datum_of, remark_of, sort_of, entries_of}
use Rattle.rf_base_tree.specs.Slots as definition
use Rattle.rf_base_tree.specs.Cut.{slots_of}
use Rattle.rf_base_tree.proofs.Cuts.{map_entry, map_slot, slots_of_map}
use Rattle.rf_tree.specs.Nodes.{UnfoldsTo, UnfoldTo}
use Rattle.rf_tree.specs.Kept.{IsTreeOf}
use Rattle.rf_tree.specs.Sorts.{whole_of, leaf_sort, node_sort, entries_at}
use Rattle.rf_tree.specs.Slots.{NodesStand, NodeStands, NodeSlotsStand}
use Rattle.rf_tree.specs.Ahead.{bare_slot, node_slots}
use Rattle.rf_tree.specs.declared.nodes.At.{At}
use Rattle.rf_tree.specs.Told.{Node}
use Rattle.rf_tree.specs.declared.trees.Tree as source
use Rattle.rf_tree.proofs.ItemTexts.{token_at_is}

-- a whole datum is no dot
whole_told : (k : Kind) (t : Option Token) → is_whole k ≡ true → whole_of k t ≡ datum_of t
whole_told Dot t h = absurd (false≢true h)
whole_told _ t h = refl

leaf_told : (o : Option Token) (k : Kind) → option_map (λ (t : Token). t.kind) o ≡ Some k → is_whole k ≡ true → leaf_sort o ≡ datum_of o
leaf_told None k e h = cc
leaf_told (Some t) k e h =
    whole_told t.kind (Some t) (ap is_whole (same_Some t.kind k e) ∙ h)

dot_told : (o : Option Token) → option_map (λ (t : Token). t.kind) o ≡ Some Dot → leaf_sort o ≡ Dotted
dot_told None e = cc
dot_told (Some t) e = ap (λ (k : Kind). whole_of k (Some t)) (same_Some t.kind Dot e)

-- a node's sort is that of its tree
pub sort_is : (tree : source.Tree) (ts : List Token) (trees : Forest) (at : ℕ) (t : Tree) → IsTreeOf tree ts trees → UnfoldsTo ts tree.nodes at t → node_sort tree (slice_get tree.nodes at) ≡ sort_of ts t
unfolding UnfoldsTo
sort_is tree ts trees at (Leaf item) h u =
    ap (node_sort tree) u.0 ∙ ap leaf_sort (token_at_is tree ts trees item h) ∙ leaf_told (slice_get ts item) u.1.0 u.1.1 u.1.2
sort_is tree ts trees at (Point item) h u =
    ap (node_sort tree) u.0 ∙ ap leaf_sort (token_at_is tree ts trees item h) ∙ dot_told (slice_get ts item) u.1
sort_is tree ts trees at (Comment item) h u = ap (node_sort tree) u ∙ ap remark_of (token_at_is tree ts trees item h)
sort_is tree ts trees at (Listed opener entries closer) h u = ap (node_sort tree) u.1
sort_is tree ts trees at _ h u = ap (node_sort tree) u.2

-- a node and the tree that it stands for
record Stood (ts : List Token) (nodes : List Node) : Type 0 where
  at : At
  tree : Tree
  stands : UnfoldsTo ts nodes at.0 tree

-- nodes and their trees as entries
stood : (ts : List Token) (nodes : List Node) (ats : List At) (f : Forest) → UnfoldTo ts nodes ats f → List (Entry (Stood ts nodes))
unfolding UnfoldTo
stood ts nodes [] Empty h = []
stood ts nodes [] (Then t f) h = absurd h
stood ts nodes (a ∷ ats) Empty h = absurd h
stood ts nodes (a ∷ ats) (Then t f) h =
    record { sort = sort_of ts t; what = record { at = a; tree = t; stands = h.0 } } ∷ stood ts nodes ats f h.1

by_trees : (ts : List Token) (nodes : List Node) (ats : List At) (f : Forest) (h : UnfoldTo ts nodes ats f) → map (map_entry (λ (s : Stood ts nodes). s.tree)) (stood ts nodes ats f h) ≡ entries_of ts f
unfolding UnfoldTo stood
by_trees ts nodes [] Empty h = refl
by_trees ts nodes [] (Then t f) h = absurd h
by_trees ts nodes (a ∷ ats) Empty h = absurd h
by_trees ts nodes (a ∷ ats) (Then t f) h = ap (λ (es : List (Entry Tree)). record { sort = sort_of ts t; what = t } ∷ es) (by_trees ts nodes ats f h.1)

by_nodes : (tree : source.Tree) (ts : List Token) (trees : Forest) (ats : List At) (f : Forest) (k : IsTreeOf tree ts trees) (h : UnfoldTo ts tree.nodes ats f) → entries_at tree ats ≡ map (map_entry (λ (s : Stood ts tree.nodes). s.at)) (stood ts tree.nodes ats f h)
unfolding UnfoldTo stood
by_nodes tree ts trees [] Empty k h = refl
by_nodes tree ts trees [] (Then t f) k h = absurd h
by_nodes tree ts trees (a ∷ ats) Empty k h = absurd h
by_nodes tree ts trees (a ∷ ats) (Then t f) k h =
    ap (λ (s : Sort). record { sort = s; what = a } ∷ entries_at tree ats) (sort_is tree ts trees a.0 t k h.0)
    ∙ ap (λ (es : List (Entry At)). record { sort = sort_of ts t; what = a } ∷ es) (by_nodes tree ts trees ats f k h.1)

-- the nodes of such entries stand for their trees
module _ (tree : source.Tree) (ts : List Token) where
  nodes_stand : (es : List (Entry (Stood ts tree.nodes))) → NodesStand ts tree.nodes (map (λ e. e.what) (map (map_entry (λ (s : Stood ts tree.nodes). s.at)) es)) (map (map_entry (λ (s : Stood ts tree.nodes). s.tree)) es)
  nodes_stand [] = tt
  nodes_stand (e ∷ es) = (e.what.stands, nodes_stand es)

  one_stands : (e : Option (Entry (Stood ts tree.nodes))) → NodeStands ts tree.nodes (option_map (λ e. e.what) (option_map (map_entry (λ (s : Stood ts tree.nodes). s.at)) e)) (option_map (map_entry (λ (s : Stood ts tree.nodes). s.tree)) e)
  one_stands None = tt
  one_stands (Some e) = e.what.stands

  slots_stand : (ss : List (definition.Slot (Stood ts tree.nodes))) → NodeSlotsStand ts tree.nodes (map bare_slot (map (map_slot (λ (s : Stood ts tree.nodes). s.at)) ss)) (map (map_slot (λ (s : Stood ts tree.nodes). s.tree)) ss)
  slots_stand [] = tt
  slots_stand (s ∷ ss) = (
    record { leads = nodes_stand s.leads; key = one_stands s.key; datum = one_stands s.datum; trailing = one_stands s.trailing },
    slots_stand ss,
  )

-- slots of nodes that stand for trees stand for the slots of the trees
pub ahead_stands : (tree : source.Tree) (ts : List Token) (trees : Forest) (in_list : Bool) (ats : List At) (f : Forest) → IsTreeOf tree ts trees → UnfoldTo ts tree.nodes ats f → NodeSlotsStand ts tree.nodes (node_slots tree in_list ats) (slots_of in_list (entries_of ts f))
unfolding node_slots
ahead_stands tree ts trees in_list ats f k u =
    let es = stood ts tree.nodes ats f u in
    let nodes_are : map (map_slot (λ (s : Stood ts tree.nodes). s.at)) (slots_of in_list es) ≡ slots_of in_list (entries_at tree ats) =
    sym (slots_of_map (λ (s : Stood ts tree.nodes). s.at) in_list es) ∙ sym (ap (slots_of in_list) (by_nodes tree ts trees ats f k u)) in
    let trees_are : map (map_slot (λ (s : Stood ts tree.nodes). s.tree)) (slots_of in_list es) ≡ slots_of in_list (entries_of ts f) =
    sym (slots_of_map (λ (s : Stood ts tree.nodes). s.tree) in_list es) ∙ ap (slots_of in_list) (by_trees ts tree.nodes ats f u) in
    subst (λ (ss : List (definition.Slot Tree)). NodeSlotsStand ts tree.nodes (map bare_slot (slots_of in_list (entries_at tree ats))) ss) trees_are
    (subst (λ (ks : List (definition.Slot At)). NodeSlotsStand ts tree.nodes (map bare_slot ks) (map (map_slot (λ (s : Stood ts tree.nodes). s.tree)) (slots_of in_list es))) nodes_are
    (slots_stand tree ts (slots_of in_list es)))
