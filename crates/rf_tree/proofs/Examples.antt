-- Worked examples of nodes, slots, sorts and settled items: a definition that changes its meaning fails here.
use Rattle.std.proofs.Common.{◌≡◌, ℕ, ◌<◌, ◌≤◌, true, false, Option, List, [], ◌∷◌, ◌++◌, length, map, slice_get, Some, None, refl, sym, ap, subst, inl, inr, ◌∙◌, arith}
use Rattle.std.specs.Borrow.{Bor}
use Rattle.std.specs.Global.{Vec}
use Rattle.std.specs.List.{AllByRecursion}
use Rattle.rf_base_grammar.specs.declared.items.Item.{Item}
use Rattle.rf_base_grammar.specs.declared.kinds.Bracket.TheVariants.{Round}
use Rattle.rf_base_grammar.specs.declared.kinds.Kind.{Kind}
use Rattle.rf_base_grammar.specs.declared.kinds.Kind.TheVariants.{Opener, Closer, Dot, Atom}
use Rattle.rf_base_grammar.specs.Itemised.{Itemised}
use Rattle.rf_base_grammar.specs.Token.{Token, normal}
use Rattle.rf_base_tree.specs.declared.refusals.TreeKind.{TreeKind}
use Rattle.rf_base_tree.specs.declared.refusals.TreeKind.TheVariants as kind
use Rattle.rf_base_tree.specs.Dotting as read
use Rattle.rf_base_tree.specs.Formed.{Treed}
use Rattle.rf_base_tree.specs.Places.{InList, InPrefix, InSkip, IsPlace}
use Rattle.rf_base_tree.specs.Refusals.{TreeRefused}
use Rattle.rf_base_tree.specs.Slots as definition
use Rattle.rf_base_tree.specs.Slots.{Entry}
use Rattle.rf_base_tree.specs.Cut.{slots_of}
use Rattle.rf_base_tree.specs.Trees as trees
use Rattle.rf_base_tree.specs.Trees.{Leaf, Forest}
use Rattle.rf_tree.specs.declared.cursors.SlotRef.{SlotRef}
use Rattle.rf_tree.specs.declared.dots.Dots.TheVariants as dots
use Rattle.rf_tree.specs.declared.parser.Opened.TheVariants as opened
use Rattle.rf_tree.specs.declared.slotting.Slot.{Slot}
use Rattle.rf_tree.specs.declared.sorts.Sort.TheVariants as sort
use Rattle.rf_tree.specs.declared.nodes.At.{At}
use Rattle.rf_tree.specs.Told as node
use Rattle.rf_tree.specs.declared.trees.Tree.{Tree}
use Rattle.rf_tree.specs.declared.trees.TreeError.TheVariants as fault
use Rattle.rf_tree.specs.Dots.{dotting_of}
use Rattle.rf_tree.specs.Kept.{StandAtTop, IsTreeOf, HasNode, HasItem}
use Rattle.rf_tree.specs.Next.{followed_by, frames_behind, here_behind, IsOfDatum, EndInDatum}
use Rattle.rf_tree.specs.Nodes.{parts_of, PartsStandFirst, NamesBelow}
use Rattle.rf_tree.specs.Parsing.{kind_left_open, TreeFault, HasNoRefusal, IsRefusal, HasNoTree}
use Rattle.rf_tree.specs.Settled.{settled_items}
use Rattle.rf_tree.specs.Slots.{NodesStand, NodeStands, NodeSlot, slot_nodes, NodeSlotsBelow, SlotsBelow, parts_in, read_slot}
use Rattle.rf_tree.specs.Ahead.{node_slots, bare_slot, datum_slot, alone_slot, TakesFirst, TakesAlone, BeginWithDatum, BeginWith}
use Rattle.rf_tree.specs.Sorts.{sort_told, whole_of, leaf_sort, node_sort, first_passes, is_trailing, is_datum, begins_with_key, Splits, first_sort}
use Rattle.rf_tree.specs.Texts.{AreTokensOf}

abbrev place : ℕ → At
place n = record { 0 = n }

-- what a list is read as
dots_are : map dotting_of
    (dots.NoData ∷ dots.Data ∷ dots.Dotted ∷ dots.Paired ∷ dots.Infixed ∷ dots.Closed ∷ dots.Broken ∷ [])
    ≡ read.NoData ∷ read.Data ∷ read.Dotted ∷ read.Paired ∷ read.Infixed ∷ read.Closed ∷ read.Broken ∷ []
dots_are = refl

-- what nodes name: what leads comes before the datum
parts_are : (parts : List At) → parts ≡ place 1 ∷ place 2 ∷ [] →
    (parts_of (node.Prefixed 7 parts (place 3)) ≡ place 1 ∷ place 2 ∷ place 3 ∷ [])
    × (parts_of (node.DatumComment 7 parts (place 3)) ≡ place 1 ∷ place 2 ∷ place 3 ∷ [])
    × (parts_of (node.ListNode 7 parts 8) ≡ place 1 ∷ place 2 ∷ []) × (parts_of (node.Leaf 7) ≡ [])
    × (parts_of (node.Comment 7) ≡ [])
parts_are parts e =
    (ap (λ l. l ++ place 3 ∷ []) e, ap (λ l. l ++ place 3 ∷ []) e, e, refl, refl)

names_itself : (parts : List At) → parts ≡ place 0 ∷ [] → PartsStandFirst (node.ListNode 0 parts 1 ∷ []) → ⊥
names_itself parts e first =
    let all : AllByRecursion (λ (part : At). part.0 < 0) (place 0 ∷ []) =
    subst (λ l. AllByRecursion (λ (part : At). part.0 < 0) l) e (first 0 (node.ListNode 0 parts 1) refl) in
    omega (arith, all.0)

-- a node's items are below the number of items, both brackets of a list too
names_below : (parts : List At) → NamesBelow 3 (node.Leaf 2) × (NamesBelow 3 (node.Leaf 3) → ⊥)
    × (NamesBelow 3 (node.Comment 3) → ⊥) × (NamesBelow 3 (node.Prefixed 3 parts (place 0)) → ⊥)
    × (NamesBelow 3 (node.DatumComment 3 parts (place 0)) → ⊥) × (NamesBelow 3 (node.ListNode 3 parts 2) → ⊥)
    × (NamesBelow 3 (node.ListNode 2 parts 3) → ⊥)
names_below parts =
    (omega arith, λ h. omega (arith, h), λ h. omega (arith, h), λ h. omega (arith, h), λ h. omega (arith, h), λ h. omega (arith, h.0), λ h. omega (arith, h.1))

-- the last number of a tree's nodes and of its items names one, and the next one doesn't
nodes_end : (tree : Tree) → HasNode tree (place (length tree.nodes)) → ⊥
nodes_end tree h = let e : length tree.nodes < length tree.nodes = h in omega (arith, e)

items_end : (tree : Tree) → HasItem tree (length tree.items.items) → ⊥
items_end tree h = omega (arith, h)

tree_is_short : (tree : Tree) (ts : List Token) (trees : Forest) → IsTreeOf tree ts trees →
    (length tree.src.now ≤ 4194304) × StandAtTop ts trees
tree_is_short tree ts trees is = (is.short, is.at_top)

-- items as they were read, or settled
read_or_settled : (text : List ℕ) (ts : List Token) (most : ℕ) → Itemised text ts →
    AreTokensOf text ts × AreTokensOf text (normal most ts)
read_or_settled text ts most is = ((ts, is, inl refl), (ts, is, inr (most, refl)))

-- an item behind so many blank lines
abbrev item : Kind → ℕ → Item
item k blanks = record { kind = k; start = 0; end = 1; blanks = blanks; own_line = true }

-- at most two blank lines are kept, and none behind an opener or before a closer
settled_are : settled_items false 2 (item Atom 1 ∷ item Atom 5 ∷ item (Opener Round) 3 ∷ item Atom 3 ∷ item (Closer Round) 3 ∷ item Atom 2 ∷ [])
    ≡ item Atom 1 ∷ item Atom 2 ∷ item (Opener Round) 2 ∷ item Atom 0 ∷ item (Closer Round) 0 ∷ item Atom 2 ∷ []
settled_are = refl

settled_bare : settled_items true 2 (item Atom 1 ∷ item Atom 1 ∷ []) ≡ item Atom 0 ∷ item Atom 1 ∷ []
settled_bare = refl

-- a slot's nodes in order: comments, the key, the datum and what trails
abbrev whole_slot : Vec At → Slot
whole_slot leads = record { leads = leads; key = Some (place 2); datum = Some (place 3); trailing = Some (place 4) }

slot_nodes_are : (leads : Vec At) → leads.items ≡ place 1 ∷ [] →
    slot_nodes (whole_slot leads) ≡ place 1 ∷ place 2 ∷ place 3 ∷ place 4 ∷ []
slot_nodes_are leads e = ap (λ l. l ++ place 2 ∷ place 3 ∷ place 4 ∷ []) e

slots_below : (leads : Vec At) → leads.items ≡ place 1 ∷ [] →
    SlotsBelow 5 (whole_slot leads ∷ []) × (SlotsBelow 4 (whole_slot leads ∷ []) → ⊥)
slots_below leads e =
    let below : AllByRecursion (λ (at : At). at.0 < 5) (place 1 ∷ place 2 ∷ place 3 ∷ place 4 ∷ []) =
    (omega arith, (omega arith, (omega arith, (omega arith, tt)))) in (
      (subst (λ l. AllByRecursion (λ (at : At). at.0 < 5) l) (sym (slot_nodes_are leads e)) below, tt),
      λ h.
          let all : AllByRecursion (λ (at : At). at.0 < 4) (place 1 ∷ place 2 ∷ place 3 ∷ place 4 ∷ []) =
          subst (λ l. AllByRecursion (λ (at : At). at.0 < 4) l) (slot_nodes_are leads e) h.0 in
          omega (arith, all.1.1.1.0),
    )

-- nodes and entries are as many
abbrev leaf : Entry trees.Tree
leaf = record { sort = definition.Datum; what = Leaf 0 }

as_many : (NodesStand [] [] [] (leaf ∷ []) → ⊥) × (NodesStand [] [] (place 0 ∷ []) [] → ⊥)
    × (NodeStands [] [] None (Some leaf) → ⊥) × (NodeStands [] [] (Some (place 0)) None → ⊥) × NodeStands [] [] None None
as_many = (λ h. h, λ h. h, λ h. h, λ h. h, tt)

-- sorts as they are told
sorts_are : map sort_told (sort.Trailing ∷ sort.Remark ∷ sort.Keyword ∷ sort.Dotted ∷ sort.Datum ∷ [])
    ≡ definition.Remark true ∷ definition.Remark false ∷ definition.Keyword ∷ definition.Dotted ∷ definition.Datum ∷ []
sorts_are = refl

leaf_sorts : (whole_of Dot None ≡ definition.Dotted) × (leaf_sort None ≡ definition.Datum)
leaf_sorts = (refl, refl)

node_sorts : (tree : Tree) (parts : List At) → (node_sort tree None ≡ definition.Datum)
    × (node_sort tree (Some (node.Prefixed 0 parts (place 1))) ≡ definition.Datum)
    × (node_sort tree (Some (node.ListNode 0 parts 1)) ≡ definition.Datum)
    × (node_sort tree (Some (node.DatumComment 0 parts (place 1))) ≡ definition.Remark false)
node_sorts tree parts = (refl, refl, refl, refl)

trailing_are : map is_trailing (definition.Remark true ∷ definition.Remark false ∷ definition.Keyword ∷ definition.Datum ∷ [])
    ≡ true ∷ false ∷ false ∷ false ∷ []
trailing_are = refl

data_are : map is_datum (definition.Datum ∷ definition.Keyword ∷ definition.Dotted ∷ definition.Remark true ∷ [])
    ≡ true ∷ false ∷ false ∷ false ∷ []
data_are = refl

abbrev entry : definition.Sort → ℕ → Entry At
entry s n = record { sort = s; what = place n }

firsts_pass : (first_passes is_datum (entry definition.Datum 0 ∷ entry definition.Dotted 1 ∷ []) ≡ true)
    × (first_passes is_datum (entry definition.Dotted 1 ∷ entry definition.Datum 0 ∷ []) ≡ false)
    × (first_passes is_datum [] ≡ false)
firsts_pass = (refl, refl, refl)

first_sorts : (first_sort (entry definition.Dotted 1 ∷ entry definition.Datum 0 ∷ []) ≡ Some definition.Dotted) × (first_sort [] ≡ None)
first_sorts = (refl, refl)

-- a keyword or a dot in a list is the key of a datum behind it, and of nothing else
keys_are : (begins_with_key true (entry definition.Keyword 0 ∷ entry definition.Datum 1 ∷ []) ≡ true)
    × (begins_with_key true (entry definition.Dotted 0 ∷ entry definition.Datum 1 ∷ []) ≡ true)
    × (begins_with_key false (entry definition.Keyword 0 ∷ entry definition.Datum 1 ∷ []) ≡ false)
    × (begins_with_key true (entry definition.Datum 0 ∷ entry definition.Datum 1 ∷ []) ≡ false)
    × (begins_with_key true (entry definition.Keyword 0 ∷ entry definition.Keyword 1 ∷ []) ≡ false)
    × (begins_with_key true (entry definition.Keyword 0 ∷ []) ≡ false) × (begins_with_key true [] ≡ false)
keys_are = (refl, refl, refl, refl, refl, refl, refl)

splits_are : Splits true (place 0 ∷ place 1 ∷ []) (Some (place 0)) (place 1 ∷ [])
    × Splits false (place 0 ∷ []) None (place 0 ∷ []) × (Splits false (place 0 ∷ []) (Some (place 0)) [] → ⊥)
    × (Splits true (place 0 ∷ []) None (place 0 ∷ []) → ⊥) × (Splits true (place 0 ∷ place 1 ∷ []) (Some (place 0)) [] → ⊥)
splits_are = ((refl, refl), (refl, refl), λ h. (let e = h.0 in cc), λ h. (let e = h.0 in cc), λ h. (let e = h.1 in cc))

-- what is still to come: behind no entries nothing; a keyword is a key in a list and a datum at the top; a comment behind
-- a datum on its line is the datum's; and comments at the end stand without a datum
abbrev node_slot : List At → Option At → Option At → Option At → NodeSlot
node_slot leads key datum trailing = record { leads = leads; key = key; datum = datum; trailing = trailing }

none_is_ahead : (tree : Tree) → (node_slots tree true [] ≡ []) × (node_slots tree false [] ≡ [])
unfolding node_slots slots_of
none_is_ahead tree = (refl, refl)

key_is_ahead : (map bare_slot (slots_of true (entry definition.Keyword 0 ∷ entry definition.Datum 1 ∷ []))
    ≡ node_slot [] (Some (place 0)) (Some (place 1)) None ∷ [])
    × (map bare_slot (slots_of false (entry definition.Keyword 0 ∷ entry definition.Datum 1 ∷ []))
    ≡ node_slot [] None (Some (place 0)) None ∷ node_slot [] None (Some (place 1)) None ∷ [])
unfolding slots_of
key_is_ahead = (refl, refl)

comments_are_ahead : map bare_slot (slots_of true (entry definition.Datum 0 ∷ entry (definition.Remark true) 1 ∷ entry (definition.Remark false) 2 ∷ []))
    ≡ node_slot [] None (Some (place 0)) (Some (place 1)) ∷ node_slot (place 2 ∷ []) None None None ∷ []
unfolding slots_of
comments_are_ahead = refl

-- none comes only where none is ahead
none_is_taken : (slot : NodeSlot) → TakesFirst [] None [] × (TakesFirst (slot ∷ []) None [] → ⊥)
none_is_taken slot = ((refl, refl), λ h. (let e = h.0 in cc))

-- a slot's nodes keep their places where it is bare, and where its comments stand where they stand
abbrev whole : NodeSlot
whole = node_slot (place 1 ∷ []) (Some (place 2)) (Some (place 3)) (Some (place 4))

bare_is : bare_slot (record {
  leads = entry (definition.Remark false) 1 ∷ [];
  key = Some (entry definition.Keyword 2);
  datum = Some (entry definition.Datum 3);
  trailing = Some (entry (definition.Remark true) 4);
})
    ≡ whole
bare_is = refl

read_is : (leads : Bor (List At)) → leads.now ≡ place 1 ∷ [] → read_slot (record {
  leads = leads;
  key = Some (place 2);
  datum = Some (place 3);
  trailing = Some (place 4);
})
    ≡ whole
read_is leads e = ap (λ l. node_slot l (Some (place 2)) (Some (place 3)) (Some (place 4))) e

-- a slot of a datum has no comments and no key, and alone nothing behind it
data_slots : (datum_slot (place 3) (Some (place 4)) ≡ node_slot [] None (Some (place 3)) (Some (place 4)))
    × (alone_slot (place 3) ≡ node_slot [] None (Some (place 3)) None)
data_slots = (refl, refl)

parts_are_in : (parts_in whole ≡ place 1 ∷ place 2 ∷ place 3 ∷ place 4 ∷ [])
    × (parts_in (alone_slot (place 3)) ≡ place 3 ∷ [])
parts_are_in = (refl, refl)

-- each node of each slot is below
node_slots_below : NodeSlotsBelow 5 (alone_slot (place 3) ∷ alone_slot (place 4) ∷ [])
    × (NodeSlotsBelow 4 (alone_slot (place 3) ∷ alone_slot (place 4) ∷ []) → ⊥)
    × (NodeSlotsBelow 3 (alone_slot (place 3) ∷ []) → ⊥)
node_slots_below = (
  ((omega arith, tt), ((omega arith, tt), tt)),
  λ h. omega (arith, h.1.0.0),
  λ h. omega (arith, h.0.0),
)

-- of the first of slots: what trails its datum, its comments, its key, its datum and its first node
abbrev trailing_of : List NodeSlot → Option At
trailing_of [] = None
trailing_of (s ∷ slots) = s.trailing

abbrev leads_of : List NodeSlot → List At
leads_of [] = []
leads_of (s ∷ slots) = s.leads

abbrev key_of : List NodeSlot → Option At
key_of [] = None
key_of (s ∷ slots) = s.key

abbrev datum_of : List NodeSlot → Option At
datum_of [] = None
datum_of (s ∷ slots) = s.datum

abbrev first_part : List NodeSlot → Option At
first_part [] = None
first_part (s ∷ slots) = slice_get (parts_in s) 0

abbrev number_in : Option At → ℕ
number_in None = 0
number_in (Some at) = at.0

-- the slot that is taken is the first, and the others are left
first_is_taken : (first : SlotRef) (rest : List NodeSlot) → TakesFirst (read_slot first ∷ rest) (Some first) rest
    × (TakesFirst [] (Some first) rest → ⊥) × (TakesFirst [] None (read_slot first ∷ rest) → ⊥)
first_is_taken first rest = (refl, λ h. cc, λ h. (let e = h.1 in cc))

-- a datum is taken alone, not one with a comment behind it; and where none is, all are left
alone_is_taken : (rest : List NodeSlot) → TakesAlone (alone_slot (place 3) ∷ rest) (Some (place 3)) rest
    × TakesAlone rest None rest × (TakesAlone (whole ∷ []) None [] → ⊥)
    × (TakesAlone [] (Some (place 3)) rest → ⊥)
    × (TakesAlone (datum_slot (place 3) (Some (place 4)) ∷ rest) (Some (place 3)) rest → ⊥)
alone_is_taken rest = (
  refl,
  refl,
  λ h. cc,
  λ h. cc,
  λ h. (let e : Some (place 4) ≡ None = ap trailing_of h in cc),
)

-- slots begin with a datum where no comment and no key stands before it, whatever trails it
begin_with_datum : (rest : List NodeSlot) →
    BeginWithDatum (datum_slot (place 3) (Some (place 4)) ∷ rest) (Some (place 3))
    × BeginWithDatum (alone_slot (place 3) ∷ rest) (Some (place 3)) × BeginWithDatum rest None
    × (BeginWithDatum [] (Some (place 3)) → ⊥)
    × (BeginWithDatum (alone_slot (place 4) ∷ rest) (Some (place 3)) → ⊥)
    × (BeginWithDatum (node_slot (place 1 ∷ []) None (Some (place 3)) None ∷ rest) (Some (place 3)) → ⊥)
    × (BeginWithDatum (node_slot [] (Some (place 2)) (Some (place 3)) None ∷ rest) (Some (place 3)) → ⊥)
begin_with_datum rest = (
  (Some (place 4), rest, refl),
  (None, rest, refl),
  tt,
  λ h. (let e = h.2 in cc),
  λ h. (let e : 4 ≡ 3 = ap (λ (l : List NodeSlot). number_in (datum_of l)) h.2 in omega (arith, e)),
  λ h. (let e : place 1 ∷ [] ≡ [] = ap leads_of h.2 in cc),
  λ h. (let e : Some (place 2) ≡ None = ap key_of h.2 in cc),
)

-- they begin with the first of their nodes, and with none where there are no slots
begin_with : (rest : List NodeSlot) → BeginWith (whole ∷ rest) (Some (place 1))
    × BeginWith (node_slot [] (Some (place 2)) (Some (place 3)) None ∷ rest) (Some (place 2))
    × BeginWith (alone_slot (place 3) ∷ rest) (Some (place 3)) × BeginWith [] None
    × (BeginWith (whole ∷ rest) None → ⊥) × (BeginWith [] (Some (place 1)) → ⊥)
    × (BeginWith (node_slot [] (Some (place 2)) (Some (place 3)) None ∷ rest) (Some (place 3)) → ⊥)
begin_with rest = (
  (whole, rest, place 2 ∷ place 3 ∷ place 4 ∷ [], refl, refl),
  (node_slot [] (Some (place 2)) (Some (place 3)) None, rest, place 3 ∷ [], refl, refl),
  (alone_slot (place 3), rest, [], refl, refl),
  refl,
  λ h. cc,
  λ h. (let e = h.3 in cc),
  λ h.
      let e : Some (place 2) ≡ Some (place 3) = ap first_part h.3 ∙ ap (λ (l : List At). slice_get l 0) h.4 in
      let n : 2 ≡ 3 = ap number_in e in
      omega (arith, n),
)

-- what is wrong at the end
left_open_are : (kind_left_open (opened.List Round false) ≡ kind.OpenList) × (kind_left_open opened.Prefix ≡ kind.NothingAfter)
    × (kind_left_open opened.Skip ≡ kind.NothingAfter)
left_open_are = (refl, refl, refl)

-- a refusal says why, and an answer that there is none
refusals_are : (ts : List Token) (k : TreeKind) (offset : ℕ) →
    (TreeFault ts (fault.Refused k offset) → TreeRefused ts k offset) × IsRefusal (fault.Refused k offset)
    × (HasNoRefusal ts → TreeRefused ts k offset → ⊥)
refusals_are ts k offset = (λ h. h, tt, λ none h. none k offset h)

no_tree : (ts : List Token) (trees : Forest) → HasNoTree ts → Treed ts trees → ⊥
no_tree ts trees none treed = none trees treed

-- trees at the top stand before what was begun outermost, and before what stands here where nothing was begun
abbrev before : Forest
before = trees.Then (Leaf 0) trees.Empty

abbrev here : Forest
here = trees.Then (Leaf 2) trees.Empty

trees_stand_first : followed_by before here ≡ trees.Then (Leaf 0) (trees.Then (Leaf 2) trees.Empty)
trees_stand_first = refl

frames_are_behind : frames_behind before (InPrefix here 4 ∷ InList here 3 ∷ []) ≡ InPrefix here 4 ∷ InList (followed_by before here) 3 ∷ []
frames_are_behind = refl

top_is_behind : (here_behind before [] here ≡ followed_by before here) × (here_behind before (InSkip here 3 ∷ []) here ≡ here)
top_is_behind = (refl, refl)

-- slots end behind the node of a datum, and not of a comment
ends_in_datum : EndInDatum (node.Comment 0 ∷ node.Leaf 1 ∷ []) (place 0 ∷ place 1 ∷ [])
ends_in_datum = (place 1, node.Leaf 1, refl, refl, tt)

ends_in_comment : EndInDatum (node.Leaf 0 ∷ node.Comment 1 ∷ []) (place 0 ∷ place 1 ∷ []) → ⊥
ends_in_comment (last, n, at, is, datum) =
    let same : place 1 ≡ last = cc in
    let there : Some (node.Comment 1) ≡ Some n = subst (λ (a : At). slice_get (node.Leaf 0 ∷ node.Comment 1 ∷ []) a.0 ≡ Some n) (sym same) is in
    let comment : node.Comment 1 ≡ n = cc in
    subst IsOfDatum (sym comment) datum

-- the first trees and those behind them stand at the top
stand_behind : (ts : List Token) (n : ℕ) → IsPlace ts n [] (followed_by before here) → StandAtTop ts here
unfolding StandAtTop
stand_behind ts n to = (before, n, to)
