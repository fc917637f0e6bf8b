-- What stands at nodes, and the parts of trees by those of what they hold.
use Rattle.std.proofs.Common.{◌≡◌, ℕ, zero, suc, ◌<◌, Bool, Option, None, Some, List, [], ◌∷◌, ◌++◌, length, map, take, drop, slice_get, refl, sym, ap, ◌∙◌, subst, arith}
use Rattle.std.specs.Option.{option_map}
use Rattle.std.proofs.lemmas.List.{length-map}
use Rattle.std.proofs.lemmas.List.Elements.{All-from_recursion}
use Rattle.std.proofs.lemmas.Option.{slice_get_within, get_or_from_slice_get}
use Rattle.rf_base_grammar.specs.Token.{Token, item_of}
use Rattle.rf_base_style.specs.Table.{StyleView}
use Rattle.rf_base_tree.specs.Trees.{Tree, Comment, Prefixed, DatumComment, Listed, Forest, Empty, Then}
use Rattle.rf_base_tree.specs.Slots.{Entry, entries_of, perhaps}
use Rattle.rf_base_tree.specs.Slots as definition
use Rattle.rf_base_file.specs.declared.shapes.Role.{Role}
use Rattle.rf_base_file.specs.declared.shapes.Role.TheVariants.{Free}
use Rattle.rf_base_file.specs.Rows.{Part as a_part, whats}
use Rattle.rf_base_file.specs.Ways.{part_in, entry_in, role_behind as a_role_behind}
use Rattle.rf_base_file.specs.FileDocument.{tree_piece, entry_piece}
use Rattle.rf_base_file.proofs.SlotStrands.{whats_of}
use Rattle.rf_tree.specs.Kept.{IsTreeOf}
use Rattle.rf_tree.specs.Nodes.{UnfoldsTo, UnfoldTo, NamesBelow, AreSound}
use Rattle.rf_tree.specs.Slots.{NodeSlot, NodesStand, NodeStands, NodeSlotsStand}
use Rattle.rf_tree.specs.declared.nodes.At.{At}
use Rattle.rf_tree.specs.Told.{Node}
use Rattle.rf_tree.specs.Told as node
use Rattle.rf_tree.specs.declared.trees.Tree.{Tree as KeptTree}
use Rattle.rf_ways.specs.Steps.{role_behind}

-- and its items are
pub names_at : (ts : List Token) (nodes : List Node) (at : ℕ) (n : Node) → AreSound ts nodes → slice_get nodes at ≡ Some n → NamesBelow (length ts) n
names_at ts nodes at n sound e =
    subst (λ (m : Node). NamesBelow (length ts) m) (get_or_from_slice_get nodes at n n e)
    (All-from_recursion (NamesBelow (length ts)) nodes sound.names at n (slice_get_within nodes at n e))

pub item_there : (tree : KeptTree) (ts : List Token) (trees : Forest) (item : ℕ) → IsTreeOf tree ts trees → item < length ts → item < length tree.items.items
item_there tree ts trees item h less =
    let size : length tree.items.items ≡ length ts = ap length h.items_are ∙ length-map ts item_of in
    omega arith

-- what stands at a node of each kind
pub record PrefixedAt (ts : List Token) (nodes : List Node) (item : ℕ) (lead : List At) (inner : At) (t : Tree) : Type 0 where
  pub comments : Forest
  pub datum : Tree
  pub is : t ≡ Prefixed item comments datum
  pub lead_unfolds : UnfoldTo ts nodes lead comments
  pub inner_unfolds : UnfoldsTo ts nodes inner.0 datum

pub prefixed_at : (ts : List Token) (nodes : List Node) (at item : ℕ) (lead : List At) (inner : At) (t : Tree) → slice_get nodes at ≡ Some (node.Prefixed item lead inner) → UnfoldsTo ts nodes at t → PrefixedAt ts nodes item lead inner t
unfolding UnfoldsTo
prefixed_at ts nodes at item lead inner (Comment i) e h = cc
prefixed_at ts nodes at item lead inner (Prefixed i l x) e h =
    let is = h.2 in
    let items : item ≡ i = cc in
    let leads : h.0 ≡ lead = cc in
    let inners : h.1 ≡ inner = cc in
    record {
      comments = l;
      datum = x;
      is = ap (λ (n : ℕ). Prefixed n l x) (sym items);
      lead_unfolds = subst (λ (v : List At). UnfoldTo ts nodes v l) leads h.3;
      inner_unfolds = subst (λ (a : At). UnfoldsTo ts nodes a.0 x) inners h.4;
    }
prefixed_at ts nodes at item lead inner (DatumComment i l x) e h = let is = h.2 in cc
prefixed_at ts nodes at item lead inner (Listed o f c) e h = let is = h.1 in cc
prefixed_at ts nodes at item lead inner _ e h = let is = h.0 in cc

pub record SkippedAt (ts : List Token) (nodes : List Node) (item : ℕ) (lead : List At) (inner : At) (t : Tree) : Type 0 where
  pub comments : Forest
  pub datum : Tree
  pub is : t ≡ DatumComment item comments datum
  pub lead_unfolds : UnfoldTo ts nodes lead comments
  pub inner_unfolds : UnfoldsTo ts nodes inner.0 datum

pub skipped_at : (ts : List Token) (nodes : List Node) (at item : ℕ) (lead : List At) (inner : At) (t : Tree) → slice_get nodes at ≡ Some (node.DatumComment item lead inner) → UnfoldsTo ts nodes at t → SkippedAt ts nodes item lead inner t
unfolding UnfoldsTo
skipped_at ts nodes at item lead inner (Comment i) e h = cc
skipped_at ts nodes at item lead inner (Prefixed i l x) e h = let is = h.2 in cc
skipped_at ts nodes at item lead inner (DatumComment i l x) e h =
    let is = h.2 in
    let items : item ≡ i = cc in
    let leads : h.0 ≡ lead = cc in
    let inners : h.1 ≡ inner = cc in
    record {
      comments = l;
      datum = x;
      is = ap (λ (n : ℕ). DatumComment n l x) (sym items);
      lead_unfolds = subst (λ (v : List At). UnfoldTo ts nodes v l) leads h.3;
      inner_unfolds = subst (λ (a : At). UnfoldsTo ts nodes a.0 x) inners h.4;
    }
skipped_at ts nodes at item lead inner (Listed o f c) e h = let is = h.1 in cc
skipped_at ts nodes at item lead inner _ e h = let is = h.0 in cc

pub record ListedAt (opener closer : ℕ) (t : Tree) : Type 0 where
  pub entries : Forest
  pub is : t ≡ Listed opener entries closer

pub listed_at : (ts : List Token) (nodes : List Node) (at opener : ℕ) (entries : List At) (closer : ℕ) (t : Tree) → slice_get nodes at ≡ Some (node.ListNode opener entries closer) → UnfoldsTo ts nodes at t → ListedAt opener closer t
unfolding UnfoldsTo
listed_at ts nodes at opener entries closer (Comment i) e h = cc
listed_at ts nodes at opener entries closer (Prefixed i l x) e h = let is = h.2 in cc
listed_at ts nodes at opener entries closer (DatumComment i l x) e h = let is = h.2 in cc
listed_at ts nodes at opener entries closer (Listed o f c) e h =
    let is = h.1 in
    let openers : o ≡ opener = cc in
    let closers : c ≡ closer = cc in
    record { entries = f; is = ap (λ (n : ℕ). Listed n f c) openers ∙ ap (λ (n : ℕ). Listed opener f n) closers }
listed_at ts nodes at opener entries closer _ e h = let is = h.0 in cc

-- the list is there as a list
pub list_there : (ts : List Token) (nodes : List Node) (at opener closer : ℕ) (f : Forest) → UnfoldsTo ts nodes at (Listed opener f closer) → (o : ℕ) × (entries : List At) × (c : ℕ) × (slice_get nodes at ≡ Some (node.ListNode o entries c))
unfolding UnfoldsTo
list_there ts nodes at opener closer f h = (opener, h.0, closer, h.1)

-- nodes of trees are nodes of entries
pub forest_stand : (ts : List Token) (nodes : List Node) (ats : List At) (f : Forest) → UnfoldTo ts nodes ats f → NodesStand ts nodes ats (entries_of ts f)
unfolding UnfoldTo
forest_stand ts nodes [] Empty h = tt
forest_stand ts nodes [] (Then t f) h = absurd h
forest_stand ts nodes (at ∷ ats) Empty h = absurd h
forest_stand ts nodes (at ∷ ats) (Then t f) h = (h.0, forest_stand ts nodes ats f h.1)

-- what stands at the node of this number, and behind the first so many
pub record EntryAt (ts : List Token) (nodes : List Node) (at : At) (es : List (Entry Tree)) (i : ℕ) : Type 0 where
  pub entry : Entry Tree
  pub taken : take (suc i) es ≡ take i es ++ entry ∷ []
  pub dropped : drop i es ≡ entry ∷ drop (suc i) es
  pub stands : UnfoldsTo ts nodes at.0 entry.what

pub entry_at : (ts : List Token) (nodes : List Node) (ats : List At) (es : List (Entry Tree)) (i : ℕ) (at : At) → NodesStand ts nodes ats es → slice_get ats i ≡ Some at → EntryAt ts nodes at es i
entry_at ts nodes [] es i at h e = cc
entry_at ts nodes (a ∷ ats) [] i at h e = absurd h
entry_at ts nodes (a ∷ ats) (x ∷ es) zero at h e =
    let same : a ≡ at = cc in record { entry = x; taken = refl; dropped = refl; stands = subst (λ (b : At). UnfoldsTo ts nodes b.0 x.what) same h.0 }
entry_at ts nodes (a ∷ ats) (x ∷ es) (suc i) at h e =
    let rest = entry_at ts nodes ats es i at h.1 e in
    record { entry = rest.entry; taken = ap (λ (xs : List (Entry Tree)). x ∷ xs) rest.taken; dropped = rest.dropped; stands = rest.stands }

pub entries_length : (ts : List Token) (nodes : List Node) (ats : List At) (es : List (Entry Tree)) → NodesStand ts nodes ats es → length es ≡ length ats
entries_length ts nodes [] [] h = refl
entries_length ts nodes [] (x ∷ es) h = absurd h
entries_length ts nodes (a ∷ ats) [] h = absurd h
entries_length ts nodes (a ∷ ats) (x ∷ es) h = ap suc (entries_length ts nodes ats es h.1)

pub slots_length : (ts : List Token) (nodes : List Node) (kept : List NodeSlot) (ss : List (definition.Slot Tree)) → NodeSlotsStand ts nodes kept ss → length ss ≡ length kept
slots_length ts nodes [] [] h = refl
slots_length ts nodes [] (s ∷ ss) h = absurd h
slots_length ts nodes (k ∷ kept) [] h = absurd h
slots_length ts nodes (k ∷ kept) (s ∷ ss) h = ap suc (slots_length ts nodes kept ss h.1)

-- a key's role
pub role_same : (ts : List Token) (nodes : List Node) (style : StyleView) (key : Option At) (e : Option (Entry Tree)) (role : Role) → NodeStands ts nodes key e → role_behind key role ≡ a_role_behind (option_map (entry_piece style ts) e) role
role_same ts nodes style None (Some e) role h = absurd h
role_same ts nodes style (Some at) None role h = absurd h
role_same ts nodes style _ _ role h = refl

-- the comments of a slot
pub leads_same : (style : StyleView) (ts : List Token) (quoted : Bool) (es : List (Entry Tree)) → whats (map (entry_in quoted Free) (map (entry_piece style ts) es)) ≡ map (part_in quoted Free) (whats (map (entry_piece style ts) es))
leads_same style ts quoted es = whats_of quoted Free (map (entry_piece style ts) es)

-- the parts of entries, one more
pub parts_more : (style : StyleView) (ts : List Token) (quoted : Bool) (role : Role) (es : List (Entry Tree)) (e : Entry Tree) → map (part_in quoted role) (whats (map (entry_piece style ts) (es ++ e ∷ []))) ≡ map (part_in quoted role) (whats (map (entry_piece style ts) es)) ++ part_in quoted role (tree_piece style ts e.what) ∷ []
parts_more style ts quoted role [] e = refl
parts_more style ts quoted role (x ∷ es) e =
    ap (λ (ps : List a_part). part_in quoted role (tree_piece style ts x.what) ∷ ps) (parts_more style ts quoted role es e)
