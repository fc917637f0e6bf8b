-- What the entries of slots and of trees add to the size.
use Rattle.std.proofs.Common.{◌≡◌, ℕ, ◌+◌, ◌*◌, ◌≤◌, true, false, Option, None, Some, List, [], ◌∷◌, ◌++◌, length, length-append, slice_get, refl, sym, ap, ◌∙◌, subst, append_assoc, arith}
use Rattle.rf_base_grammar.specs.Token.{Token}
use Rattle.rf_base_tree.specs.Trees.{Tree, Leaf, Point, Comment, Prefixed, DatumComment, Listed, Forest, tree_items, forest_items}
use Rattle.rf_base_tree.specs.Slots.{Entry, slot_entries, perhaps, entries_of}
use Rattle.rf_base_tree.specs.Slots as definition
use Rattle.rf_base_tree.specs.Size.{size_of, entries_items, slots_entries}
use Rattle.rf_base_tree.specs.Cut.{slots_of}
use Rattle.rf_base_tree.proofs.Sizes.{size_of-append, entries_size-append, forest_entries_items, slots_entries_are, slots_few}
use Rattle.rf_tree.specs.Nodes.{UnfoldsTo}
use Rattle.rf_tree.specs.Told.{Node}
use Rattle.rf_tree.specs.Told as node
use Rattle.rf_tree.specs.Slots.{NodeStands}
use Rattle.rf_tree.specs.declared.nodes.At.{At}
use Rattle.rf_rows.specs.declared.rows.Rows.{Rows}
use Rattle.rf_slot_rows.specs.Growth.{GrowsLess, EntriesGrow}
use Rattle.rf_slot_rows.proofs.Growing.{one_size}

-- one entry by itself, before others and behind others
pub entry_size : (ts : List Token) (e : Entry Tree) → size_of ts (entries_items (e ∷ [])) ≡ size_of ts (tree_items e.what)
entry_size ts e = omega (arith, size_of-append ts (tree_items e.what) [])

pub entries_begin : (ts : List Token) (e : Entry Tree) (es all : List (Entry Tree)) → all ≡ e ∷ es →
    (size_of ts (entries_items all) ≡ size_of ts (tree_items e.what) + size_of ts (entries_items es)) × (length all ≡ length es + 1)
entries_begin ts e es all is = (
  ap (λ xs. size_of ts (entries_items xs)) is ∙ size_of-append ts (tree_items e.what) (entries_items es),
  omega (arith, ap length is),
)

pub entries_more : (ts : List Token) (es all : List (Entry Tree)) (e : Entry Tree) → all ≡ es ++ e ∷ [] →
    (size_of ts (entries_items all) ≡ size_of ts (entries_items es) + size_of ts (tree_items e.what)) × (length all ≡ length es + 1)
entries_more ts es all e is = (
  ap (λ xs. size_of ts (entries_items xs)) is ∙ omega (arith, entries_size-append ts es (e ∷ []), entry_size ts e),
  ap length is ∙ length-append es (e ∷ []),
)

-- slots behind others
slots_entries-append : (ss rs : List (definition.Slot Tree)) → slots_entries (ss ++ rs) ≡ slots_entries ss ++ slots_entries rs
slots_entries-append [] rs = refl
slots_entries-append (s ∷ ss) rs =
    ap (λ xs. slot_entries s ++ xs) (slots_entries-append ss rs) ∙ sym (append_assoc (slot_entries s) (slots_entries ss) (slots_entries rs))

pub slots_both : (ts : List Token) (ss rs all : List (definition.Slot Tree)) → all ≡ ss ++ rs →
    (size_of ts (entries_items (slots_entries all)) ≡ size_of ts (entries_items (slots_entries ss)) + size_of ts (entries_items (slots_entries rs)))
    × (length (slots_entries all) ≡ length (slots_entries ss) + length (slots_entries rs)) × (length all ≡ length ss + length rs)
slots_both ts ss rs all is =
    let are = ap (λ xs. slots_entries xs) is ∙ slots_entries-append ss rs in (
      ap (λ xs. size_of ts (entries_items xs)) are ∙ entries_size-append ts (slots_entries ss) (slots_entries rs),
      ap length are ∙ length-append (slots_entries ss) (slots_entries rs),
      ap length is ∙ length-append ss rs,
    )

-- a slot before others, and one behind others
pub slots_begin : (ts : List Token) (s : definition.Slot Tree) (ss all : List (definition.Slot Tree)) → all ≡ s ∷ ss →
    (size_of ts (entries_items (slots_entries all)) ≡ size_of ts (entries_items (slot_entries s)) + size_of ts (entries_items (slots_entries ss)))
    × (length (slots_entries all) ≡ length (slot_entries s) + length (slots_entries ss)) × (length all ≡ length ss + 1)
slots_begin ts s ss all is = (
  ap (λ xs. size_of ts (entries_items (slots_entries xs))) is ∙ entries_size-append ts (slot_entries s) (slots_entries ss),
  ap (λ xs. length (slots_entries xs)) is ∙ length-append (slot_entries s) (slots_entries ss),
  omega (arith, ap length is),
)

pub slots_more : (ts : List Token) (ss all : List (definition.Slot Tree)) (s : definition.Slot Tree) → all ≡ ss ++ s ∷ [] →
    (size_of ts (entries_items (slots_entries all)) ≡ size_of ts (entries_items (slots_entries ss)) + size_of ts (entries_items (slot_entries s)))
    × (length (slots_entries all) ≡ length (slots_entries ss) + length (slot_entries s)) × (length all ≡ length ss + 1)
slots_more ts ss all s is =
    let both = slots_both ts ss (s ∷ []) all is in
    let one = slots_begin ts s [] (s ∷ []) refl in
    (omega (arith, both.0, one.0), omega (arith, both.1, one.1), omega (arith, both.2))

-- the entries of a slot, each in its place
perhaps-append : {X : Type 0} (o : Option X) (xs : List X) → perhaps o xs ≡ perhaps o [] ++ xs
perhaps-append None xs = refl
perhaps-append (Some x) xs = refl

entries_in : (s : definition.Slot Tree) → slot_entries s ≡ s.leads ++ (perhaps s.key [] ++ (perhaps s.datum [] ++ perhaps s.trailing []))
entries_in s =
    ap (λ xs. s.leads ++ xs) (perhaps-append s.key (perhaps s.datum (perhaps s.trailing [])) ∙ ap (λ xs. perhaps s.key [] ++ xs) (perhaps-append s.datum (perhaps s.trailing [])))

pub slot_size : (ts : List Token) (s : definition.Slot Tree) → size_of ts (entries_items (slot_entries s)) ≡ size_of ts (entries_items s.leads) + size_of ts (entries_items (perhaps s.key [])) + size_of ts (entries_items (perhaps s.datum [])) + size_of ts (entries_items (perhaps s.trailing []))
slot_size ts s =
    let key = perhaps s.key [] in
    let datum = perhaps s.datum [] in
    let trailing = perhaps s.trailing [] in
    let one = entries_size-append ts s.leads (key ++ (datum ++ trailing)) in
    let two = entries_size-append ts key (datum ++ trailing) in
    let three = entries_size-append ts datum trailing in
    ap (λ xs. size_of ts (entries_items xs)) (entries_in s) ∙ omega (arith, one, two, three)

pub slot_length : (s : definition.Slot Tree) → length (slot_entries s) ≡ length s.leads + length (perhaps s.key []) + length (perhaps s.datum []) + length (perhaps s.trailing [])
slot_length s =
    let key = perhaps s.key [] in
    let datum = perhaps s.datum [] in
    let trailing = perhaps s.trailing [] in
    ap length (entries_in s) ∙ omega (arith, length-append s.leads (key ++ (datum ++ trailing)), length-append key (datum ++ trailing), length-append datum trailing)

-- a node that may be there, with the gap before it
pub none_grow : (ts : List Token) (nodes : List Node) (at : Option At) (e : Option (Entry Tree)) (rows : Rows) → at ≡ None → NodeStands ts nodes at e → EntriesGrow ts (perhaps e []) rows rows
none_grow ts nodes None None rows is h = omega arith
none_grow ts nodes None (Some e) rows is h = absurd h
none_grow ts nodes (Some a) e rows is h = cc

pub some_grow : (ts : List Token) (nodes : List Node) (at : Option At) (a : At) (e : Option (Entry Tree)) (old new : Rows) → at ≡ Some a → ((t : Tree) → UnfoldsTo ts nodes a.0 t → GrowsLess 100 (size_of ts (tree_items t)) old new) → NodeStands ts nodes at e → EntriesGrow ts (perhaps e []) old new
some_grow ts nodes None a e old new is grown h = cc
some_grow ts nodes (Some b) a None old new is grown h = absurd h
some_grow ts nodes (Some b) a (Some e) old new is grown h =
    let same : b ≡ a = cc in
    omega (arith, grown e.what (subst (λ (x : At). UnfoldsTo ts nodes x.0 e.what) same h), entry_size ts e)

-- a slot that isn't empty has an entry
some_length : {A : Type 0} (xs : List A) → (xs ≡ [] → ⊥) → 1 ≤ length xs
some_length [] h = absurd (h refl)
some_length (x ∷ xs) h = omega arith

pub some_entry : (s : definition.Slot Tree) → (slot_entries s ≡ [] → ⊥) → 1 ≤ length (slot_entries s)
some_entry s h = some_length (slot_entries s) h

-- the items of a tree of each kind
pub leaf_items : (ts : List Token) (nodes : List Node) (at item : ℕ) (t : Tree) → slice_get nodes at ≡ Some (node.Leaf item) → UnfoldsTo ts nodes at t → tree_items t ≡ item ∷ []
unfolding UnfoldsTo tree_items
leaf_items ts nodes at item (Leaf i) e h = let is = h.0 in let same : i ≡ item = cc in ap (λ (n : ℕ). n ∷ []) same
leaf_items ts nodes at item (Point i) e h = let is = h.0 in let same : i ≡ item = cc in ap (λ (n : ℕ). n ∷ []) same
leaf_items ts nodes at item (Comment i) e h = cc
leaf_items ts nodes at item (Prefixed i l x) e h = let is = h.2 in cc
leaf_items ts nodes at item (DatumComment i l x) e h = let is = h.2 in cc
leaf_items ts nodes at item (Listed o f c) e h = let is = h.1 in cc

pub comment_items : (ts : List Token) (nodes : List Node) (at item : ℕ) (t : Tree) → slice_get nodes at ≡ Some (node.Comment item) → UnfoldsTo ts nodes at t → tree_items t ≡ item ∷ []
unfolding UnfoldsTo tree_items
comment_items ts nodes at item (Comment i) e h = let same : i ≡ item = cc in ap (λ (n : ℕ). n ∷ []) same
comment_items ts nodes at item (Prefixed i l x) e h = let is = h.2 in cc
comment_items ts nodes at item (DatumComment i l x) e h = let is = h.2 in cc
comment_items ts nodes at item (Listed o f c) e h = let is = h.1 in cc
comment_items ts nodes at item _ e h = let is = h.0 in cc

behind_size : (ts : List Token) (item : ℕ) (l : Forest) (x : Tree) → size_of ts (item ∷ (forest_items l ++ tree_items x)) ≡ size_of ts (item ∷ []) + size_of ts (entries_items (entries_of ts l)) + size_of ts (tree_items x)
behind_size ts item l x =
    let lead = ap (size_of ts) (forest_entries_items ts l) in
    omega (arith, size_of-append ts (item ∷ []) (forest_items l ++ tree_items x), size_of-append ts (forest_items l) (tree_items x), lead)

pub prefixed_size : (ts : List Token) (item : ℕ) (l : Forest) (x : Tree) → size_of ts (tree_items (Prefixed item l x)) ≡ size_of ts (item ∷ []) + size_of ts (entries_items (entries_of ts l)) + size_of ts (tree_items x)
unfolding tree_items
prefixed_size ts item l x = behind_size ts item l x

pub skipped_size : (ts : List Token) (item : ℕ) (l : Forest) (x : Tree) → size_of ts (tree_items (DatumComment item l x)) ≡ size_of ts (item ∷ []) + size_of ts (entries_items (entries_of ts l)) + size_of ts (tree_items x)
unfolding tree_items
skipped_size ts item l x = behind_size ts item l x

listed_size : (ts : List Token) (opener : ℕ) (f : Forest) (closer : ℕ) → size_of ts (tree_items (Listed opener f closer)) ≡ size_of ts (opener ∷ []) + size_of ts (entries_items (entries_of ts f)) + size_of ts (closer ∷ [])
unfolding tree_items
listed_size ts opener f closer =
    let inner = ap (size_of ts) (forest_entries_items ts f) in
    omega (arith, size_of-append ts (opener ∷ []) (forest_items f ++ closer ∷ []), size_of-append ts (forest_items f) (closer ∷ []), inner)

-- what a file adds, by what its slots add, the line end and what joins all
pub tops_grown : (ts : List Token) (ss : List (definition.Slot Tree)) (old slots ended new : ℕ) → (length ss ≡ 0 → ⊥) → length ss ≤ length (slots_entries ss) →
    slots + 100 * length (slots_entries ss) ≤ old + 200 * size_of ts (entries_items (slots_entries ss)) + 68 * length ss + 0 →
    ended ≤ slots + 4 → new ≤ ended + 28 → new ≤ old + (200 * size_of ts (entries_items (slots_entries ss)) + 8)
tops_grown ts ss old slots ended new some few a b c =
    let one : 1 ≤ length ss = some_length ss (λ (none : ss ≡ []). some (ap length none)) in
    omega (arith, one, few, a, b, c)

pub file_grown : (ts : List Token) (trees : Forest) (old new : ℕ) → (length (slots_of false (entries_of ts trees)) ≤ length (slots_entries (slots_of false (entries_of ts trees))) →
    new ≤ old + (200 * size_of ts (entries_items (slots_entries (slots_of false (entries_of ts trees)))) + 8)) → new ≤ old + (200 * size_of ts (forest_items trees) + 8)
file_grown ts trees old new grown =
    let es = entries_of ts trees in
    let are = slots_entries_are false es in
    let few : length (slots_of false es) ≤ length (slots_entries (slots_of false es)) = omega (arith, ap length are, slots_few false es) in
    omega (arith, grown few, ap (λ xs. size_of ts (entries_items xs)) are, ap (size_of ts) (forest_entries_items ts trees))

-- what a list adds, by what its brackets, its body and what joins them add
pub list_grown : (ts : List Token) (opener : ℕ) (f : Forest) (closer old opened body closed new : ℕ) →
    opened ≤ old + (8 * size_of ts (opener ∷ []) + 24) →
    body + 100 * length (slots_entries (slots_of true (entries_of ts f))) ≤ opened + 200 * size_of ts (entries_items (slots_entries (slots_of true (entries_of ts f)))) + 68 * length (slots_of true (entries_of ts f)) + 68 →
    closed ≤ body + (8 * size_of ts (closer ∷ []) + 24) → new ≤ closed + 28 → new + 140 ≤ old + 200 * size_of ts (tree_items (Listed opener f closer))
list_grown ts opener f closer old opened body closed new a b c d =
    let es = entries_of ts f in
    let are = slots_entries_are true es in
    omega (
      arith,
      a,
      b,
      c,
      d,
      ap length are,
      ap (λ xs. size_of ts (entries_items xs)) are,
      slots_few true es,
      listed_size ts opener f closer,
      one_size ts opener,
      one_size ts closer,
    )

-- and what it adds where it isn't made of others
pub unmade_grown : (ts : List Token) (opener : ℕ) (f : Forest) (closer old new : ℕ) → new ≤ old + 28 → new + 140 ≤ old + 200 * size_of ts (tree_items (Listed opener f closer))
unmade_grown ts opener f closer old new few = omega (arith, few, listed_size ts opener f closer, one_size ts opener)
