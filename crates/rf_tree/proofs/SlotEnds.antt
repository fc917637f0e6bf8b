-- Where slots of a file end.
use Rattle.std.proofs.Common.{◌≡◌, ◌≢◌, ℕ, zero, suc, ◌+◌, ◌&&◌, not, Bool, true, false, Option, None, Some, List, [], ◌∷◌, ◌++◌, map, slice_get, refl, sym, ap, ◌∙◌, subst, arith}
use Rattle.std.proofs.lemmas.Bool.{false≢true}
use Rattle.std.proofs.lemmas.List.{append_assoc, append-nil}
use Rattle.std.specs.List.{range_with_len}
use Rattle.rf_base_grammar.specs.Token.{Token, item_of, is_line_comment}
use Rattle.rf_base_grammar.specs.Woven.{trails}
use Rattle.rf_base_grammar.specs.declared.items.Item.{Item}
use Rattle.rf_base_tree.specs.Trees.{Tree, Leaf, Comment, DatumComment, Forest, Empty, Then, tree_items, forest_items}
use Rattle.std.specs.Prelude.{⊤}
use Rattle.rf_base_tree.specs.Slots.{Sort, Remark, Entry, Slot, perhaps, slot_entries, is_comment, AreLeads, MayStandTogether, MayTrail, BeginsNot, MayEnd, AreSlots, is_keyword_of, keyword_or_datum, remark_of, datum_of, sort_of, entries_of}
use Rattle.rf_base_tree.specs.Cut.{slots_of}
use Rattle.rf_base_tree.specs.Places.{IsPlace}
use Rattle.rf_base_tree.proofs.Cuts.{slots_of_cut, cut_slots_of}
use Rattle.rf_tree.specs.Nodes.{UnfoldsTo, UnfoldTo}
use Rattle.rf_tree.specs.Next.{followed_by, EndInDatum, IsOfDatum, SlotsEnd}
use Rattle.rf_tree.proofs.Ends.{last_splits}
use Rattle.rf_tree.specs.declared.nodes.At.{At}
use Rattle.rf_tree.specs.Told.{Node}
use Rattle.rf_tree.specs.Told as node

-- the last of the entries, if there is one, is no comment
abbrev LastIsDatum : {A : Type 0} → List (Entry A) → Type 0
LastIsDatum [] = ⊤
LastIsDatum (e ∷ []) = is_comment e.sort ≡ false
LastIsDatum (e ∷ f ∷ entries) = LastIsDatum (f ∷ entries)

last_behind : {A : Type 0} (first after : List (Entry A)) → LastIsDatum (first ++ after) → LastIsDatum after
last_behind [] after h = h
last_behind (e ∷ []) [] h = tt
last_behind (e ∷ []) (f ∷ after) h = h
last_behind (e ∷ g ∷ first) after h = last_behind (g ∷ first) after h

-- comments alone don't end in a datum
leads_last : {A : Type 0} (leads : List (Entry A)) → leads ≢ [] → AreLeads leads → LastIsDatum leads → ⊥
leads_last [] some all h = some refl
leads_last (e ∷ []) some all h = false≢true (sym h ∙ all.0)
leads_last (e ∷ f ∷ leads) some all h = leads_last (f ∷ leads) (λ e. cc) all.1 h

begins_behind : {A : Type 0} (sort : Sort) (after others : List (Entry A)) → BeginsNot sort after → BeginsNot sort others → BeginsNot sort (after ++ others)
begins_behind sort [] others h k = k
begins_behind sort (e ∷ after) others h k = h

-- a slot ends where it does, whatever comes behind the others
ends_behind : {A : Type 0} (leads : List (Entry A)) (key datum trailing : Option (Entry A)) (after others : List (Entry A)) →
    AreLeads leads → MayStandTogether false leads key datum → LastIsDatum ((leads ++ perhaps key (perhaps datum (perhaps trailing []))) ++ after) → BeginsNot (Remark true) others →
    MayTrail datum trailing →
    MayEnd false key datum trailing after → MayEnd false key datum trailing (after ++ others)
ends_behind leads (Some k) (Some d) trailing after others all both last n t h = absurd (false≢true both.0)
ends_behind leads (Some k) None trailing after others all both last n t h = absurd both
ends_behind leads None (Some d) (Some x) after others all both last n t h = tt
ends_behind leads None (Some d) None after others all both last n t h =
    (begins_behind (Remark true) after others h.0 n, λ no. absurd (false≢true no))
ends_behind leads None None (Some x) after others all both last n t h = absurd t
ends_behind leads None None None after others all both last n t h =
    absurd (leads_last leads both all
    (subst LastIsDatum (append-nil leads) (subst LastIsDatum (append-nil (leads ++ []))
    (subst (λ (xs : List (Entry _)). LastIsDatum ((leads ++ []) ++ xs)) h last))))

-- slots of entries that end in a datum, and of others, the first of which is no comment on its line, are those of both
slots_behind : {A : Type 0} (entries others : List (Entry A)) (slots behind : List (Slot A)) → LastIsDatum entries → BeginsNot (Remark true) others →
    AreSlots false entries slots → AreSlots false others behind → AreSlots false (entries ++ others) (slots ++ behind)
slots_behind entries others [] behind last n h k = subst (λ (es : List (Entry _)). AreSlots false (es ++ others) behind) (sym h) k
slots_behind entries others (s ∷ slots) behind last n h k =
    let whole : LastIsDatum (slot_entries s ++ h.0) = subst LastIsDatum h.1 last in (
      h.0 ++ others,
      ap (λ es. es ++ others) h.1 ∙ append_assoc (slot_entries s) h.0 others,
      h.2,
      h.3,
      h.4,
      ends_behind s.leads s.key s.datum s.trailing h.0 others h.2 h.3 whole n h.4 h.5,
      slots_behind h.0 others slots behind (last_behind (slot_entries s) h.0 whole) n h.6 k,
    )

cut_behind : {A : Type 0} (entries others : List (Entry A)) → LastIsDatum entries → BeginsNot (Remark true) others →
    slots_of false (entries ++ others) ≡ slots_of false entries ++ slots_of false others
cut_behind entries others last n =
    sym (cut_slots_of false (entries ++ others) (slots_of false entries ++ slots_of false others)
    (slots_behind entries others (slots_of false entries) (slots_of false others) last n (slots_of_cut false entries) (slots_of_cut false others)))

-- the entries and the items of trees and of those behind them
pub entries_behind : (ts : List Token) (f g : Forest) → entries_of ts (followed_by f g) ≡ entries_of ts f ++ entries_of ts g
entries_behind ts Empty g = refl
entries_behind ts (Then t f) g = ap (λ es. record { sort = sort_of ts t; what = t } ∷ es) (entries_behind ts f g)

pub items_behind : (f g : Forest) → forest_items (followed_by f g) ≡ forest_items f ++ forest_items g
unfolding forest_items
items_behind Empty g = refl
items_behind (Then t f) g = ap (λ ns. tree_items t ++ ns) (items_behind f g) ∙ sym (append_assoc (tree_items t) (forest_items f) (forest_items g))

-- the number behind so many in order
tail_is : (x y : ℕ) (xs ys : List ℕ) → x ∷ xs ≡ y ∷ ys → xs ≡ ys
tail_is x y xs ys e = cc

pub next_number : (a n k : ℕ) (x : ℕ) (xs : List ℕ) → range_with_len a k ++ x ∷ xs ≡ range_with_len a n → x ≡ a + k
next_number a zero zero x xs e = cc
next_number a (suc n) zero x xs e = let same : x ≡ a = cc in omega (arith, same)
next_number a zero (suc k) x xs e = cc
next_number a (suc n) (suc k) x xs e =
    let rest = next_number (a + 1) n k x xs (tail_is a a (range_with_len (a + 1) k ++ x ∷ xs) (range_with_len (a + 1) n) e) in
    rest ∙ plus_assoc a k
  where
    plus_assoc : (b j : ℕ) → b + 1 + j ≡ b + suc j
    plus_assoc b j = omega arith

-- the tree that comes next is no comment on its line, if the next item isn't
not_trailing : (ts : List Token) (next : ℕ) (t : Tree) (ns : List ℕ) → ((u : Token) → slice_get ts next ≡ Some u → trails u ≡ false) →
    (n : ℕ) → range_with_len 0 next ++ (tree_items t ++ ns) ≡ range_with_len 0 n → sort_of ts t ≢ Remark true
unfolding tree_items
not_trailing ts next (Leaf item) ns comes n e = by_token (slice_get ts item)
  where
    by_kind : (b : Bool) → keyword_or_datum b ≢ Remark true
    by_kind true = λ e. cc
    by_kind false = λ e. cc

    by_token : (o : Option Token) → datum_of o ≢ Remark true
    by_token None = λ e. cc
    by_token (Some u) = by_kind (is_keyword_of u.kind u.spelling)
not_trailing ts next (Comment item) ns comes n e =
    let same : item ≡ next = omega (arith, next_number 0 n next item ns e) in
    by_token (slice_get ts item) (ap (λ (k : ℕ). slice_get ts k) same)
  where
    by_token : (o : Option Token) → o ≡ slice_get ts next → remark_of o ≢ Remark true
    by_token None z = λ r. cc
    by_token (Some u) z = λ r. let t : trails u ≡ true = cc in false≢true (sym (comes u (sym z)) ∙ t)
not_trailing ts next _ ns comes n e = λ z. cc

begins_not : (ts : List Token) (next n : ℕ) (rest : Forest) → ((u : Token) → slice_get ts next ≡ Some u → trails u ≡ false) →
    range_with_len 0 next ++ forest_items rest ≡ range_with_len 0 n → BeginsNot (Remark true) (entries_of ts rest)
unfolding forest_items
begins_not ts next n Empty comes e = tt
begins_not ts next n (Then t rest) comes e = not_trailing ts next t (forest_items rest) comes n e

-- the item of a number, as the program keeps it, is its token's
token_comes : (ts : List Token) (items : List Item) (next : ℕ) (item : Item) → items ≡ map item_of ts → slice_get items next ≡ Some item →
    (is_line_comment item.kind && not item.own_line) ≡ false → (u : Token) → slice_get ts next ≡ Some u → trails u ≡ false
token_comes ts items next item e is free u there =
    by_items ts next (ap (λ (xs : List Item). slice_get xs next) (sym e) ∙ is) there
  where
    by_items : (us : List Token) (k : ℕ) → slice_get (map item_of us) k ≡ Some item → slice_get us k ≡ Some u → trails u ≡ false
    by_items [] k a b = cc
    by_items (v ∷ us) zero a b =
        let one : item_of v ≡ item = cc in
        let same : v ≡ u = cc in
        subst (λ (w : Token). trails w ≡ false) same (subst (λ (i : Item). (is_line_comment i.kind && not i.own_line) ≡ false) (sym one) free)
    by_items (v ∷ us) (suc k) a b = by_items us k a b

-- the node of a datum is that of no comment
datum_sort : (ts : List Token) (nodes : List Node) (at : At) (t : Tree) (n : Node) → UnfoldsTo ts nodes at.0 t → slice_get nodes at.0 ≡ Some n → IsOfDatum n →
    is_comment (sort_of ts t) ≡ false
unfolding UnfoldsTo
datum_sort ts nodes at (Leaf item) n h e d = by_token (slice_get ts item)
  where
    by_kind : (b : Bool) → is_comment (keyword_or_datum b) ≡ false
    by_kind true = refl
    by_kind false = refl

    by_token : (o : Option Token) → is_comment (datum_of o) ≡ false
    by_token None = refl
    by_token (Some u) = by_kind (is_keyword_of u.kind u.spelling)
datum_sort ts nodes at (Comment item) n h e d =
    let same : node.Comment item ≡ n = cc in
    absurd (subst IsOfDatum (sym same) d)
datum_sort ts nodes at (DatumComment item lead inner) n h e d =
    let is = h.2 in
    let same : node.DatumComment item h.0 h.1 ≡ n = cc in
    absurd (subst IsOfDatum (sym same) d)
datum_sort ts nodes at _ n h e d = refl

-- trees whose last node is that of a datum end in a datum
ends_so : (ts : List Token) (nodes : List Node) (others : List At) (last : At) (n : Node) (f : Forest) → UnfoldTo ts nodes (others ++ last ∷ []) f →
    slice_get nodes last.0 ≡ Some n → IsOfDatum n → LastIsDatum (entries_of ts f)
unfolding UnfoldTo
ends_so ts nodes [] last n Empty h e d = tt
ends_so ts nodes [] last n (Then t Empty) h e d = datum_sort ts nodes last t n h.0 e d
ends_so ts nodes [] last n (Then t (Then u f)) h e d = absurd h.1
ends_so ts nodes (at ∷ others) last n Empty h e d = tt
ends_so ts nodes (at ∷ []) last n (Then t Empty) h e d = absurd h.1
ends_so ts nodes (at ∷ b ∷ others) last n (Then t Empty) h e d = absurd h.1
ends_so ts nodes (at ∷ others) last n (Then t (Then u f)) h e d = ends_so ts nodes others last n (Then u f) h.1 e d

last_datum : (ts : List Token) (nodes : List Node) (tops : List At) (f : Forest) → UnfoldTo ts nodes tops f → EndInDatum nodes tops → LastIsDatum (entries_of ts f)
last_datum ts nodes tops f h d =
    let split = last_splits tops d.0 d.2 in
    ends_so ts nodes split.0 d.0 d.1 f (subst (λ (ats : List At). UnfoldTo ts nodes ats f) split.1 h) d.3 d.4

-- trees, the last of which are such, end in a datum
some_last : {A : Type 0} (first after : List (Entry A)) → after ≢ [] → LastIsDatum after → LastIsDatum (first ++ after)
some_last [] after some h = h
some_last (e ∷ []) [] some h = absurd (some refl)
some_last (e ∷ []) (f ∷ after) some h = h
some_last (e ∷ g ∷ first) after some h = some_last (g ∷ first) after some h

none_end : (ts : List Token) (nodes : List Node) (tops : List At) → UnfoldTo ts nodes tops Empty → EndInDatum nodes tops → ⊥
unfolding UnfoldTo
none_end ts nodes [] h d = let none = d.2 in cc
none_end ts nodes (at ∷ tops) h d = h

some_entries : (ts : List Token) (nodes : List Node) (tops : List At) (f : Forest) → UnfoldTo ts nodes tops f → EndInDatum nodes tops → entries_of ts f ≢ []
some_entries ts nodes tops Empty h d = λ e. none_end ts nodes tops h d
some_entries ts nodes tops (Then t f) h d = λ e. cc

-- slots end behind trees the last of which has a datum's node, where the next item is no comment on its line
pub slots_end : (ts : List Token) (done part : Forest) (nodes : List Node) (tops : List At) (items : List Item) (next : ℕ) (item : Item) →
    items ≡ map item_of ts → slice_get items next ≡ Some item → (is_line_comment item.kind && not item.own_line) ≡ false →
    IsPlace ts next [] (followed_by done part) → UnfoldTo ts nodes tops part → EndInDatum nodes tops → SlotsEnd ts (followed_by done part)
unfolding SlotsEnd
slots_end ts done part nodes tops items next item e is free place stand last =
    λ n rest to.
    let both = followed_by done part in
    let ends : LastIsDatum (entries_of ts both) =
    subst LastIsDatum (sym (entries_behind ts done part)) (some_last (entries_of ts done) (entries_of ts part) (some_entries ts nodes tops part stand last) (last_datum ts nodes tops part stand last)) in
    let in_order : range_with_len 0 next ++ forest_items rest ≡ range_with_len 0 n =
    ap (λ ns. ns ++ forest_items rest) (sym place.items_are) ∙ sym (items_behind both rest) ∙ to.items_are in
    ap (λ es. slots_of false es) (entries_behind ts both rest)
    ∙ cut_behind (entries_of ts both) (entries_of ts rest) ends (begins_not ts next n rest (token_comes ts items next item e is free) in_order)
