-- What entries are, as the program tells it from the nodes and the items.
use Rattle.std.specs.Prelude.{ℕ, ◌≡◌, ◌&&◌, Bool, true, false, Option, None, Some, List, [], ◌∷◌, ◌++◌, map, slice_get}
use Rattle.std.specs.Prelude.{slice_range}
use Rattle.std.specs.Option.{option_map}
use Rattle.std.specs.Str.{chars}
use Rattle.rf_base_grammar.specs.Token.{Token}
use Rattle.rf_base_grammar.specs.declared.items.Item.{Item}
use Rattle.rf_base_grammar.specs.declared.kinds.Kind.{Kind}
use Rattle.rf_base_grammar.specs.declared.kinds.Kind.TheVariants.{Dot}
use Rattle.rf_base_tree.specs.Slots.{Entry, slot_entries, is_comment, may_be_key, datum_of, remark_of, AreLeads}
use Rattle.rf_base_tree.specs.Slots.{MayStandTogether, MayTrail, BeginsNot, MayEnd, perhaps}
use Rattle.rf_base_tree.specs.Slots as definition
use Rattle.rf_base_tree.specs.Cut.{slot}
use Rattle.rf_tree.specs.declared.nodes.At.{At}
use Rattle.rf_tree.specs.Told.{Node}
use Rattle.rf_tree.specs.Told as node
use Rattle.rf_tree.specs.declared.trees.Tree.{Tree}
use Rattle.rf_tree.specs.declared.cursors.SlotRef.{SlotRef}
use Rattle.rf_tree.specs.declared.sorts.Sort.{Sort}
use Rattle.rf_tree.specs.declared.sorts.Sort.TheVariants as sort

-- the characters of an item of the tree
abbrev pub item_chars : Tree → Item → List ℕ
item_chars tree item = chars (slice_range tree.src.now item.start item.end)

-- the item with its characters
abbrev pub token_of : Tree → Item → Token
token_of tree item =
    record {
      kind = item.kind;
      start = item.start;
      spelling = item_chars tree item;
      blanks = item.blanks;
      own_line = item.own_line;
    }

abbrev pub token_at : Tree → ℕ → Option Token
token_at tree n = option_map (token_of tree) (slice_get tree.items.items n)

-- a sort
abbrev pub sort_told : Sort → definition.Sort
sort_told sort.Trailing = definition.Remark true
sort_told sort.Remark = definition.Remark false
sort_told sort.Keyword = definition.Keyword
sort_told sort.Dotted = definition.Dotted
sort_told sort.Datum = definition.Datum

-- the sort of a datum of one item or of a dot
abbrev pub whole_of : Kind → Option Token → definition.Sort
whole_of Dot t = definition.Dotted
whole_of _ t = datum_of t

abbrev pub leaf_sort : Option Token → definition.Sort
leaf_sort None = definition.Datum
leaf_sort (Some t) = whole_of t.kind (Some t)

-- the sort of a node
abbrev pub node_sort : Tree → Option Node → definition.Sort
node_sort tree None = definition.Datum
node_sort tree (Some (node.Leaf item)) = leaf_sort (token_at tree item)
node_sort tree (Some (node.Prefixed item lead inner)) = definition.Datum
node_sort tree (Some (node.ListNode opener entries closer)) = definition.Datum
node_sort tree (Some (node.Comment item)) = remark_of (token_at tree item)
node_sort tree (Some (node.DatumComment item lead inner)) = definition.Remark false

-- the nodes of these numbers as entries
abbrev pub entry_at : Tree → At → Entry At
entry_at tree at = record { sort = node_sort tree (slice_get tree.nodes at.0); what = at }

abbrev pub entries_at : Tree → List At → List (Entry At)
entries_at tree ats = map (entry_at tree) ats

-- a slot's nodes as entries
abbrev pub ref_at : Tree → SlotRef → definition.Slot At
ref_at tree s =
    slot (entries_at tree s.leads.now) (option_map (entry_at tree) s.key) (option_map (entry_at tree) s.datum)
    (option_map (entry_at tree) s.trailing)

-- the slot is the first of these entries, and these are behind it
pub record IsNext (in_list : Bool) (entries : List (Entry At)) (s : definition.Slot At)
    (after : List (Entry At)) : Type 0 where
  pub parts : entries ≡ slot_entries s ++ after
  pub leads : AreLeads s.leads
  pub together : MayStandTogether in_list s.leads s.key s.datum
  pub trails : MayTrail s.datum s.trailing
  pub ends : MayEnd in_list s.key s.datum s.trailing after

-- whether the first of the entries passes the test
abbrev pub first_passes : (definition.Sort → Bool) → List (Entry At) → Bool
first_passes test [] = false
first_passes test (e ∷ entries) = test e.sort

-- whether the sort is that of a comment behind another item on its line, or of a datum that is no key
abbrev pub is_trailing : definition.Sort → Bool
is_trailing (definition.Remark trailing) = trailing
is_trailing _ = false

abbrev pub is_datum : definition.Sort → Bool
is_datum definition.Datum = true
is_datum _ = false

-- the entries are these comments, and others that don't begin with a comment
pub record SplitsLeads (tree : Tree) (entries leads rest : List At) : Type 0 where
  pub parts : entries ≡ leads ++ rest
  pub comments : AreLeads (entries_at tree leads)
  pub ends : first_passes is_comment (entries_at tree rest) ≡ false

-- whether the first of the entries is the key of the second
abbrev pub begins_with_key : Bool → List (Entry At) → Bool
begins_with_key false entries = false
begins_with_key true [] = false
begins_with_key true (e ∷ entries) = may_be_key e.sort && first_passes is_datum entries

-- the first of the entries was taken away exactly where the test says so
abbrev pub Splits : Bool → List At → Option At → List At → Type 0
Splits test entries None rest = (test ≡ false) × (entries ≡ rest)
Splits test entries (Some at) rest = (test ≡ true) × (entries ≡ at ∷ rest)

-- the sort of the first of the entries
abbrev pub first_sort : List (Entry At) → Option definition.Sort
first_sort [] = None
first_sort (e ∷ entries) = Some e.sort

-- whether it passes the test, if there is one
abbrev pub sort_passes : (definition.Sort → Bool) → Option definition.Sort → Bool
sort_passes test None = false
sort_passes test (Some sort) = test sort
