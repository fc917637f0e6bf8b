-- Sizes of what stands one behind another, and of what slots hold.
use Rattle.std.proofs.Common.{◌≡◌, ℕ, ◌+◌, ◌≤◌, Bool, Option, None, Some, List, [], ◌∷◌, ◌++◌, length, length-append, refl, sym, ap, ◌∙◌, append_assoc, arith}
use Rattle.std.proofs.lemmas.List.Sums.{sum_by-cons, sum_by-append}
use Rattle.rf_base_grammar.specs.Itemised.{line_ends}
use Rattle.rf_base_grammar.specs.Token.{Token}
use Rattle.rf_base_tree.specs.Trees.{Tree, Leaf, Point, Comment, Prefixed, DatumComment, Listed, Forest, Empty, Then, spelling_at, tree_items, forest_items}
use Rattle.rf_base_tree.specs.Slots.{Entry, Slot, slot_entries, perhaps, MayStandTogether, AreSlots, entries_of}
use Rattle.rf_base_tree.specs.Cut.{slots_of}
use Rattle.rf_base_tree.specs.Size.{size_of, entries_items, slots_entries}
use Rattle.rf_base_tree.proofs.Cuts.{slots_of_cut}

pub size_of-append : (ts : List Token) (xs ys : List ℕ) → size_of ts (xs ++ ys) ≡ size_of ts xs + size_of ts ys
size_of-append ts xs ys = sum_by-append (λ item. line_ends (spelling_at ts item) + 1) xs ys

pub size_of-cons : (ts : List Token) (x : ℕ) (xs : List ℕ) →
    size_of ts (x ∷ xs) ≡ line_ends (spelling_at ts x) + 1 + size_of ts xs
size_of-cons ts x xs = sum_by-cons (λ item. line_ends (spelling_at ts item) + 1) x xs

-- the items of entries one behind another
pub entries_items-append : (es fs : List (Entry Tree)) → entries_items (es ++ fs) ≡ entries_items es ++ entries_items fs
entries_items-append [] fs = refl
entries_items-append (e ∷ es) fs =
    ap (λ xs. tree_items e.what ++ xs) (entries_items-append es fs)
    ∙ sym (append_assoc (tree_items e.what) (entries_items es) (entries_items fs))

pub entries_size-append : (ts : List Token) (es fs : List (Entry Tree)) →
    size_of ts (entries_items (es ++ fs)) ≡ size_of ts (entries_items es) + size_of ts (entries_items fs)
entries_size-append ts es fs =
    ap (size_of ts) (entries_items-append es fs) ∙ size_of-append ts (entries_items es) (entries_items fs)

-- trees as entries have the items of the trees
pub forest_entries_items : (ts : List Token) (f : Forest) → entries_items (entries_of ts f) ≡ forest_items f
unfolding forest_items
forest_entries_items ts Empty = refl
forest_entries_items ts (Then t f) = ap (λ xs. tree_items t ++ xs) (forest_entries_items ts f)

-- slots have the entries that are cut into them, and each has an entry
some_entries : (in_list : Bool) (leads : List (Entry Tree)) (key datum trailing : Option (Entry Tree)) →
    MayStandTogether in_list leads key datum → 1 ≤ length (leads ++ perhaps key (perhaps datum (perhaps trailing [])))
some_entries in_list leads (Some k) datum trailing h =
    omega (arith, length-append leads (k ∷ perhaps datum (perhaps trailing [])))
some_entries in_list leads None (Some d) trailing h = omega (arith, length-append leads (d ∷ perhaps trailing []))
some_entries in_list [] None None trailing h = absurd (h refl)
some_entries in_list (e ∷ leads) None None trailing h = omega arith

cut_entries : (in_list : Bool) (es : List (Entry Tree)) (slots : List (Slot Tree)) → AreSlots in_list es slots →
    (slots_entries slots ≡ es) × (length slots ≤ length es)
cut_entries in_list es [] h = (sym h, omega arith)
cut_entries in_list es (s ∷ slots) h =
    let rest = cut_entries in_list h.0 slots h.6 in
    let some = some_entries in_list s.leads s.key s.datum s.trailing h.3 in
    let count : length es ≡ length (slot_entries s) + length h.0 = ap length h.1 ∙ length-append (slot_entries s) h.0 in
    (ap (λ xs. slot_entries s ++ xs) rest.0 ∙ sym h.1, omega (arith, rest.1, some, count))

pub slots_entries_are : (in_list : Bool) (es : List (Entry Tree)) → slots_entries (slots_of in_list es) ≡ es
slots_entries_are in_list es = (cut_entries in_list es (slots_of in_list es) (slots_of_cut in_list es)).0

pub slots_few : (in_list : Bool) (es : List (Entry Tree)) → length (slots_of in_list es) ≤ length es
slots_few in_list es = (cut_entries in_list es (slots_of in_list es) (slots_of_cut in_list es)).1
