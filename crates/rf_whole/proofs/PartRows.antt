-- Slots of a part of a file: their first item, and their paragraphs behind those before.
use Rattle.std.proofs.Common.{◌≡◌, ℕ, zero, suc, ◌+◌, false, Option, None, Some, List, [], ◌∷◌, ◌++◌, length, map, slice_get, refl, sym, ◌∙◌, ap, arith}
use Rattle.std.proofs.lemmas.List.{append-nil}
use Rattle.std.proofs.lemmas.List.FromFn.{length-range_with_len}
use Rattle.std.specs.List.{range_with_len}
use Rattle.rf_base_grammar.specs.Token.{Token}
use Rattle.rf_base_style.specs.Table.{StyleView}
use Rattle.rf_base_tree.specs.Trees.{Tree, Prefixed, DatumComment, Listed, Forest, Empty, Then, tree_items, forest_items}
use Rattle.rf_base_tree.specs.Slots.{Entry, Slot, slot_entries, MayStandTogether, AreSlots, sort_of, entries_of}
use Rattle.rf_base_tree.specs.Cut.{slot, slots_of}
use Rattle.rf_base_tree.specs.Places.{IsPlace}
use Rattle.rf_base_tree.proofs.Cuts.{slots_of_cut}
use Rattle.rf_base_file.specs.Rows.{Part}
use Rattle.rf_base_file.specs.FileDocument.{tree_piece, top_part}
use Rattle.rf_base_file.specs.ByForms.{blanks_before, top_slots}
use Rattle.rf_base_file.proofs.RenamedDocuments.{tree_begins}
use Rattle.rf_tree.specs.Next.{followed_by, SlotsEnd}
use Rattle.rf_tree.proofs.SlotEnds.{items_behind, next_number}
use Rattle.rf_joins.specs.Paragraphs.{blanks_or, group_paragraphs, slots_paragraphs}
use Rattle.rf_joins.proofs.ParagraphsJoin.{group-append, parts-append}

-- a slot begins with the first item of its first entry
slot_begins : (style : StyleView) (ts : List Token) (leads : List (Entry Tree)) (key datum trailing : Option (Entry Tree)) (e : Entry Tree) (entries after : List (Entry Tree)) →
    MayStandTogether false leads key datum → e ∷ entries ≡ slot_entries (slot leads key datum trailing) ++ after →
    (top_part style ts (slot leads key datum trailing)).first ≡ (tree_piece style ts e.what).first
slot_begins style ts (l ∷ leads) key datum trailing e entries after both is = let same : l ≡ e = cc in ap (λ (x : Entry Tree). (tree_piece style ts x.what).first) same
slot_begins style ts [] (Some k) (Some d) trailing e entries after both is = let same : k ≡ e = cc in ap (λ (x : Entry Tree). (tree_piece style ts x.what).first) same
slot_begins style ts [] (Some k) None trailing e entries after both is = absurd both
slot_begins style ts [] None (Some d) trailing e entries after both is = let same : d ≡ e = cc in ap (λ (x : Entry Tree). (tree_piece style ts x.what).first) same
slot_begins style ts [] None None trailing e entries after both is = absurd (both refl)

-- the blank lines before an item
abbrev pub before_item : List Token → ℕ → ℕ
before_item ts n = blanks_before (slice_get ts n)

-- before the first slot of the trees that come next stand the blank lines before the next item
first_blanks : (style : StyleView) (ts : List Token) (e : Entry Tree) (entries : List (Entry Tree)) (qs : List (Slot Tree)) (n next : ℕ) → AreSlots false (e ∷ entries) qs →
    (tree_piece style ts e.what).first ≡ next → blanks_or n ts (map (top_part style ts) qs) ≡ before_item ts next
first_blanks style ts e entries [] n next h is = cc
first_blanks style ts e entries (q ∷ qs) n next h is =
    ap (λ (k : ℕ). before_item ts k) (slot_begins style ts q.leads q.key q.datum q.trailing e entries h.0 h.3 h.1 ∙ is)

next_blanks : (style : StyleView) (ts : List Token) (next n : ℕ) (part : Forest) → range_with_len 0 next ++ forest_items part ≡ range_with_len 0 n →
    blanks_or (before_item ts n) ts (map (top_part style ts) (top_slots ts part)) ≡ before_item ts next
unfolding forest_items slots_of
next_blanks style ts next n Empty is =
    let counted : length (range_with_len 0 next) ≡ length (range_with_len 0 n) = ap length (sym (append-nil (range_with_len 0 next)) ∙ is) in
    let same : next ≡ n = sym (length-range_with_len 0 next) ∙ counted ∙ length-range_with_len 0 n in
    ap (λ (k : ℕ). before_item ts k) (sym same)
next_blanks style ts next n (Then t part) is =
    let begins = tree_begins style ts t in
    let row : range_with_len 0 next ++ (tree_piece style ts t).first ∷ (begins.0 ++ forest_items part) ≡ range_with_len 0 n =
    ap (λ (ns : List ℕ). range_with_len 0 next ++ (ns ++ forest_items part)) (sym begins.1) ∙ is in
    let first : (tree_piece style ts t).first ≡ next = omega (arith, next_number 0 n next _ _ row) in
    first_blanks style ts (record { sort = sort_of ts t; what = t }) (entries_of ts part) (top_slots ts (Then t part)) (before_item ts n) next
    (slots_of_cut false (entries_of ts (Then t part))) first

-- the paragraphs of trees where slots end, and of those behind them
pub paragraphs_behind : (style : StyleView) (ts : List Token) (next n : ℕ) (done part : Forest) → IsPlace ts next [] done → SlotsEnd ts done → IsPlace ts n [] (followed_by done part) →
    slots_paragraphs style ts (before_item ts n) (top_slots ts (followed_by done part))
    ≡ slots_paragraphs style ts (before_item ts next) (top_slots ts done) ++ slots_paragraphs style ts (before_item ts n) (top_slots ts part)
unfolding SlotsEnd
paragraphs_behind style ts next n done part place ends to =
    let row : range_with_len 0 next ++ forest_items part ≡ range_with_len 0 n =
    ap (λ (ns : List ℕ). ns ++ forest_items part) (sym place.items_are) ∙ sym (items_behind done part) ∙ to.items_are in
    let slots = ends n part to in
    ap (λ (qs : List (Slot Tree)). slots_paragraphs style ts (before_item ts n) qs) slots
    ∙ ap (λ (ps : List Part). group_paragraphs (before_item ts n) ts ps) (parts-append style ts (top_slots ts done) (top_slots ts part))
    ∙ group-append (before_item ts n) ts (map (top_part style ts) (top_slots ts done)) (map (top_part style ts) (top_slots ts part))
    ∙ ap (λ (k : ℕ). slots_paragraphs style ts k (top_slots ts done) ++ slots_paragraphs style ts (before_item ts n) (top_slots ts part)) (next_blanks style ts next n part row)
