-- The first slot of entries, and all of them.
use Rattle.std.proofs.Common.{◌≡◌, ◌≢◌, ℕ, zero, suc, ◌+◌, ◌<◌, ◌≤◌, Bool, true, false, not, Option, None, Some, List, [], ◌∷◌, ◌++◌, length, map, take, drop, slice_get, refl, sym, ap, ◌∙◌, subst, arith}
use Rattle.std.specs.Prelude.{◌&&◌, ◌==◌}
use Rattle.std.specs.List.{AllByRecursion}
use Rattle.std.specs.Option.{option_map}
use Rattle.std.proofs.lemmas.Bool.{false≢true, and_parts, not-false, eqb-true}
use Rattle.std.proofs.lemmas.List.{append_assoc, nil_from_length, map-append, length-append, length-map}
use Rattle.rf_base_tree.specs.Slots.{Sort, Remark, Datum, Entry, perhaps, slot_entries, is_comment, may_be_key, AreLeads, MayStandTogether, MayTrail, BeginsNot, MayEnd, AreSlots}
use Rattle.rf_base_tree.specs.Slots as definition
use Rattle.rf_base_tree.specs.Cut.{slot, slots_of}
use Rattle.rf_base_tree.proofs.Cuts.{slots_of_cut, cut_slots_of}
use Rattle.rf_tree.specs.Kept.{HasNode}
use Rattle.rf_tree.specs.Sorts.{entry_at, entries_at, ref_at, IsNext, first_passes, is_trailing, is_datum, SplitsLeads, begins_with_key, Splits, first_sort, sort_passes}
use Rattle.rf_tree.specs.Slots.{NodeSlot, read_slot, parts_in, NodeSlotsBelow}
use Rattle.rf_tree.specs.Ahead.{bare_slot, node_slots, BeginWith, BeginWithDatum, datum_slot, alone_slot}
use Rattle.rf_tree.proofs.Unfolding.{all_push}
use Rattle.std.proofs.Math.Dec.{eqb-suc-zero}
use Rattle.rf_tree.specs.declared.nodes.At.{At}
use Rattle.rf_tree.specs.declared.trees.Tree.{Tree}
use Rattle.rf_tree.specs.declared.cursors.SlotRef.{SlotRef}

-- what holds of all holds of those behind some
pub all_behind : {A : Type 0} (P : A → Type 0) (xs ys : List A) → AllByRecursion P (xs ++ ys) → AllByRecursion P ys
all_behind P [] ys h = h
all_behind P (x ∷ xs) ys h = all_behind P xs ys h.1

-- the entries are the first, if it was taken away, and the rest
pub split_parts : (test : Bool) (entries : List At) (o : Option At) (rest : List At) → Splits test entries o rest → entries ≡ perhaps o rest
split_parts test entries None rest h = h.1
split_parts test entries (Some at) rest h = h.1

-- the parts of a slot, in order, are its entries
pub map_parts : (f : At → Entry At) (leads rest : List At) (key datum trailing : Option At) → map f (leads ++ perhaps key (perhaps datum (perhaps trailing rest))) ≡ (map f leads ++ perhaps (option_map f key) (perhaps (option_map f datum) (perhaps (option_map f trailing) []))) ++ map f rest
map_parts f leads rest key datum trailing =
    map-append f leads (perhaps key (perhaps datum (perhaps trailing rest)))
    ∙ ap (λ (xs : List (Entry At)). map f leads ++ xs) (by_parts key datum trailing)
    ∙ sym (append_assoc (map f leads) (perhaps (option_map f key) (perhaps (option_map f datum) (perhaps (option_map f trailing) []))) (map f rest))
  where
    by_parts : (k d t : Option At) → map f (perhaps k (perhaps d (perhaps t rest))) ≡ perhaps (option_map f k) (perhaps (option_map f d) (perhaps (option_map f t) [])) ++ map f rest
    by_parts None None None = refl
    by_parts None None (Some z) = refl
    by_parts None (Some y) None = refl
    by_parts None (Some y) (Some z) = refl
    by_parts (Some x) None None = refl
    by_parts (Some x) None (Some z) = refl
    by_parts (Some x) (Some y) None = refl
    by_parts (Some x) (Some y) (Some z) = refl

-- a test of the first entry is one of its sort
pub passes_is : (test : Sort → Bool) (entries : List (Entry At)) → first_passes test entries ≡ sort_passes test (first_sort entries)
passes_is test [] = refl
passes_is test (e ∷ entries) = refl

pub passes_by : (test : Sort → Bool) (entries : List (Entry At)) (sort : Option Sort) (b : Bool) → sort ≡ first_sort entries → b ≡ sort_passes test sort → b ≡ first_passes test entries
passes_by test entries sort b e h = h ∙ ap (sort_passes test) e ∙ sym (passes_is test entries)

-- what a test of the first entry says of it
not_trailing : (entries : List (Entry At)) → first_passes is_trailing entries ≡ false → BeginsNot (Remark true) entries
not_trailing [] h = tt
not_trailing (e ∷ entries) h = λ s. false≢true (sym h ∙ ap is_trailing s)

not_datum : (entries : List (Entry At)) → first_passes is_datum entries ≡ false → BeginsNot Datum entries
not_datum [] h = tt
not_datum (e ∷ entries) h = λ s. false≢true (sym h ∙ ap is_datum s)

sort_trailing : (sort : Sort) → is_trailing sort ≡ true → sort ≡ Remark true
sort_trailing (Remark true) h = refl
sort_trailing _ h = absurd (false≢true h)

sort_datum : (sort : Sort) → is_datum sort ≡ true → sort ≡ Datum
sort_datum Datum h = refl
sort_datum _ h = absurd (false≢true h)

-- what stands behind the datum of a slot
may_end : (in_list : Bool) (key : Option (Entry At)) (d : Entry At) (trailing : Option (Entry At)) (after : List (Entry At)) → (trailing ≡ None → BeginsNot (Remark true) after) → (key ≡ None → trailing ≡ None → (in_list && may_be_key d.sort) ≡ true → BeginsNot Datum after) → MayEnd in_list key (Some d) trailing after
may_end in_list key d (Some x) after t k = tt
may_end in_list (Some x) d None after t k = t refl
may_end in_list None d None after t k = (t refl, k refl refl)

-- the comment behind a datum
trailing_told : (tree : Tree) (d : Entry At) (entries : List At) (o : Option At) (rest : List At) → Splits (first_passes is_trailing (entries_at tree entries)) entries o rest → MayTrail (Some d) (option_map (entry_at tree) o)
trailing_told tree d entries None rest h = tt
trailing_told tree d entries (Some at) rest h =
    sort_trailing (entry_at tree at).sort (sym (ap (λ (xs : List At). first_passes is_trailing (entries_at tree xs)) h.1) ∙ h.0)

none_trails : (tree : Tree) (entries : List At) (o : Option At) (rest : List At) → Splits (first_passes is_trailing (entries_at tree entries)) entries o rest → option_map (entry_at tree) o ≡ None → BeginsNot (Remark true) (entries_at tree rest)
none_trails tree entries None rest h e =
    not_trailing (entries_at tree rest) (sym (ap (λ (xs : List At). first_passes is_trailing (entries_at tree xs)) h.1) ∙ h.0)
none_trails tree entries (Some at) rest h e = cc

none_rest : (tree : Tree) (entries : List At) (o : Option At) (rest : List At) → Splits (first_passes is_trailing (entries_at tree entries)) entries o rest → option_map (entry_at tree) o ≡ None → entries ≡ rest
none_rest tree entries None rest h e = h.1
none_rest tree entries (Some at) rest h e = cc

-- a keyword or a dot that isn't the key of what is behind it
no_key : (tree : Tree) (in_list : Bool) (at : At) (rest : List At) → begins_with_key in_list (entries_at tree (at ∷ rest)) ≡ false → (in_list && may_be_key (entry_at tree at).sort) ≡ true → BeginsNot Datum (entries_at tree rest)
no_key tree true at rest h k = not_datum (entries_at tree rest) (by_first (may_be_key (entry_at tree at).sort) k h)
  where
    by_first : (b : Bool) → b ≡ true → (b && first_passes is_datum (entries_at tree rest)) ≡ false → first_passes is_datum (entries_at tree rest) ≡ false
    by_first true e f = f
    by_first false e f = absurd (false≢true e)
no_key tree false at rest h k = absurd (false≢true k)

-- what a key tells
record IsKeyed (tree : Tree) (in_list : Bool) (at : At) (rest : List At) : Type 0 where
  in_list_is : in_list ≡ true
  may_be : may_be_key (entry_at tree at).sort ≡ true
  datum : first_passes is_datum (entries_at tree rest) ≡ true

keyed : (tree : Tree) (in_list : Bool) (at : At) (rest : List At) → begins_with_key in_list (entries_at tree (at ∷ rest)) ≡ true → IsKeyed tree in_list at rest
keyed tree true at rest h = let both = and_parts _ _ h in record { in_list_is = refl; may_be = both.0; datum = both.1 }
keyed tree false at rest h = absurd (false≢true h)

map_none : {A B : Type 0} (f : A → B) (xs : List A) → map f xs ≡ [] → xs ≡ []
map_none f [] e = refl
map_none f (x ∷ xs) e = cc

-- the parts behind the comments
record PartsTold (tree : Tree) (in_list : Bool) (leads : List At) (key datum trailing : Option At) (after : List At) : Type 0 where
  together : MayStandTogether in_list (entries_at tree leads) (option_map (entry_at tree) key) (option_map (entry_at tree) datum)
  trails : MayTrail (option_map (entry_at tree) datum) (option_map (entry_at tree) trailing)
  ends : MayEnd in_list (option_map (entry_at tree) key) (option_map (entry_at tree) datum) (option_map (entry_at tree) trailing) (entries_at tree after)

parts_told : (tree : Tree) (in_list : Bool) (leads r1 r2 r3 r4 : List At) (key datum trailing : Option At) (some : Bool) → leads ++ r1 ≢ [] → first_passes is_comment (entries_at tree r1) ≡ false → Splits (begins_with_key in_list (entries_at tree r1)) r1 key r2 → (some ≡ false → r2 ≡ []) → Splits some r2 datum r3 → Splits (first_passes is_trailing (entries_at tree r3)) r3 trailing r4 → PartsTold tree in_list leads key datum trailing r4
parts_told tree in_list leads r1 r2 r3 r4 None None None some n c k s d t =
    let ended : r2 ≡ [] = s d.0 in
    let behind : r4 ≡ [] = sym (d.1 ∙ t.1) ∙ ended in
    record {
      together = λ z. n (ap (λ (xs : List At). xs ++ r1) (map_none (entry_at tree) leads z) ∙ k.1 ∙ ended);
      trails = tt;
      ends = ap (entries_at tree) behind;
    }
parts_told tree in_list leads r1 r2 r3 r4 None None (Some z) some n c k s d t =
    absurd (false≢true (ap (λ (xs : List At). first_passes is_trailing (entries_at tree xs)) (sym (s d.0) ∙ d.1) ∙ t.0))
parts_told tree in_list leads r1 r2 r3 r4 None (Some y) trailing some n c k s d t =
    let first : r1 ≡ y ∷ r3 = k.1 ∙ d.1 in
    let plain : is_comment (entry_at tree y).sort ≡ false = sym (ap (λ (xs : List At). first_passes is_comment (entries_at tree xs)) first) ∙ c in
    let not_key : begins_with_key in_list (entries_at tree (y ∷ r3)) ≡ false = sym (ap (λ (xs : List At). begins_with_key in_list (entries_at tree xs)) first) ∙ k.0 in
    record {
      together = plain;
      trails = trailing_told tree (entry_at tree y) r3 trailing r4 t;
      ends =
          may_end in_list None (entry_at tree y) (option_map (entry_at tree) trailing) (entries_at tree r4) (none_trails tree r3 trailing r4 t)
          (λ z e m. subst (λ (xs : List At). BeginsNot Datum (entries_at tree xs)) (none_rest tree r3 trailing r4 t e) (no_key tree in_list y r3 not_key m));
    }
parts_told tree in_list leads r1 r2 r3 r4 (Some x) None trailing some n c k s d t =
    let key = keyed tree in_list x r2 (sym (ap (λ (xs : List At). begins_with_key in_list (entries_at tree xs)) k.1) ∙ k.0) in
    absurd (false≢true (ap (λ (xs : List At). first_passes is_datum (entries_at tree xs)) (sym (s d.0)) ∙ key.datum))
parts_told tree in_list leads r1 r2 r3 r4 (Some x) (Some y) trailing some n c k s d t =
    let key = keyed tree in_list x r2 (sym (ap (λ (xs : List At). begins_with_key in_list (entries_at tree xs)) k.1) ∙ k.0) in
    let datum : (entry_at tree y).sort ≡ Datum =
    sort_datum (entry_at tree y).sort (sym (ap (λ (xs : List At). first_passes is_datum (entries_at tree xs)) d.1) ∙ key.datum) in
    record {
      together = (key.in_list_is, key.may_be, datum);
      trails = trailing_told tree (entry_at tree y) r3 trailing r4 t;
      ends =
          may_end in_list (Some (entry_at tree x)) (entry_at tree y) (option_map (entry_at tree) trailing) (entries_at tree r4) (none_trails tree r3 trailing r4 t)
          (λ z. cc);
    }

-- where nothing is told to be left, nothing is
pub none_left : (xs : List At) (q : Bool) → q ≡ (length xs == 0) → q ≡ true → xs ≡ []
none_left xs q e t = nil_from_length xs (eqb-true (length xs) 0 (sym e ∙ t))

-- what was taken away, piece by piece, is the first slot
pub next_is : (tree : Tree) (in_list : Bool) (entries r1 r2 r3 r4 : List At) (s : SlotRef) (key_test empty trail_test : Bool) → entries ≢ [] → SplitsLeads tree entries s.leads.now r1 → key_test ≡ begins_with_key in_list (entries_at tree r1) → Splits key_test r1 s.key r2 → empty ≡ (length r2 == 0) → Splits (not empty) r2 s.datum r3 → trail_test ≡ first_passes is_trailing (entries_at tree r3) → Splits trail_test r3 s.trailing r4 → IsNext in_list (entries_at tree entries) (ref_at tree s) (entries_at tree r4)
next_is tree in_list entries r1 r2 r3 r4 s key_test empty trail_test n l key_is kk empty_is d trail_is tt' =
    let k = subst (λ (b : Bool). Splits b r1 s.key r2) key_is kk in
    let t = subst (λ (b : Bool). Splits b r3 s.trailing r4) trail_is tt' in
    let some = not empty in
    let e : some ≡ false → r2 ≡ [] = λ z. none_left r2 empty empty_is (not-false empty z) in
    let told = parts_told tree in_list s.leads.now r1 r2 r3 r4 s.key s.datum s.trailing some (λ z. n (l.parts ∙ z)) l.ends k e d t in
    let third : r2 ≡ perhaps s.datum (perhaps s.trailing r4) =
    split_parts some r2 s.datum r3 d ∙ ap (perhaps s.datum) (split_parts (first_passes is_trailing (entries_at tree r3)) r3 s.trailing r4 t) in
    let whole : entries ≡ s.leads.now ++ perhaps s.key (perhaps s.datum (perhaps s.trailing r4)) =
    l.parts ∙ ap (λ (xs : List At). s.leads.now ++ xs) (split_parts (begins_with_key in_list (entries_at tree r1)) r1 s.key r2 k ∙ ap (perhaps s.key) third) in
    record {
      parts = ap (entries_at tree) whole ∙ map_parts (entry_at tree) s.leads.now r4 s.key s.datum s.trailing;
      leads = l.comments;
      together = told.together;
      trails = told.trails;
      ends = told.ends;
    }

-- the nodes behind the first slot are there
pub rest_there : (tree : Tree) (entries leads rest : List At) → SplitsLeads tree entries leads rest → AllByRecursion (HasNode tree) entries → AllByRecursion (HasNode tree) rest
rest_there tree entries leads rest l h =
    all_behind (HasNode tree) leads rest (subst (λ (xs : List At). AllByRecursion (HasNode tree) xs) l.parts h)

-- the nodes of a slot's parts are those of its entries, in order
parts_told_in : (k : definition.Slot At) → parts_in (bare_slot k) ≡ map (λ e. e.what) (slot_entries k)
parts_told_in k =
    ap (λ (xs : List At). map (λ (e : Entry At). e.what) k.leads ++ xs) (by_parts k.key k.datum k.trailing)
    ∙ sym (map-append (λ (e : Entry At). e.what) k.leads (perhaps k.key (perhaps k.datum (perhaps k.trailing []))))
  where
    by_parts : (k d t : Option (Entry At)) → perhaps (option_map (λ e. e.what) k) (perhaps (option_map (λ e. e.what) d) (perhaps (option_map (λ e. e.what) t) [])) ≡ map (λ e. e.what) (perhaps k (perhaps d (perhaps t [])))
    by_parts None None None = refl
    by_parts None None (Some z) = refl
    by_parts None (Some y) None = refl
    by_parts None (Some y) (Some z) = refl
    by_parts (Some x) None None = refl
    by_parts (Some x) None (Some z) = refl
    by_parts (Some x) (Some y) None = refl
    by_parts (Some x) (Some y) (Some z) = refl

told_each : (P : At → Type 0) (es : List (Entry At)) → AllByRecursion (λ e. P e.what) es → AllByRecursion P (map (λ e. e.what) es)
told_each P [] h = tt
told_each P (e ∷ es) h = (h.0, told_each P es h.1)

each_told : (tree : Tree) (P : At → Type 0) (ats : List At) → AllByRecursion P ats → AllByRecursion (λ e. P e.what) (entries_at tree ats)
each_told tree P [] h = tt
each_told tree P (a ∷ ats) h = (h.0, each_told tree P ats h.1)

all_before : {A : Type 0} (P : A → Type 0) (xs ys : List A) → AllByRecursion P (xs ++ ys) → AllByRecursion P xs
all_before P [] ys h = tt
all_before P (x ∷ xs) ys h = (h.0, all_before P xs ys h.1)

slots_below : (in_list : Bool) (n : ℕ) (es : List (Entry At)) (ks : List (definition.Slot At)) → AllByRecursion (λ e. e.what.0 < n) es → AreSlots in_list es ks → NodeSlotsBelow n (map bare_slot ks)
slots_below in_list n es [] h cut = tt
slots_below in_list n es (k ∷ ks) h cut =
    let all = subst (λ (xs : List (Entry At)). AllByRecursion (λ e. e.what.0 < n) xs) cut.1 h in
    let first = told_each (λ (a : At). a.0 < n) (slot_entries k) (all_before (λ (e : Entry At). e.what.0 < n) (slot_entries k) cut.0 all) in
    let rest = all_behind (λ (e : Entry At). e.what.0 < n) (slot_entries k) cut.0 all in
    (subst (λ (xs : List At). AllByRecursion (λ a. a.0 < n) xs) (sym (parts_told_in k)) first, slots_below in_list n cut.0 ks rest cut.6)

-- the slots of entries that are among the first nodes are so
pub ahead_below : (tree : Tree) (in_list : Bool) (n : ℕ) (ats : List At) → AllByRecursion (λ at. at.0 < n) ats → NodeSlotsBelow n (node_slots tree in_list ats)
unfolding node_slots
ahead_below tree in_list n ats h =
    slots_below in_list n (entries_at tree ats) (slots_of in_list (entries_at tree ats)) (each_told tree (λ (a : At). a.0 < n) ats h) (slots_of_cut in_list (entries_at tree ats))

-- no entries have no slots, and some have some, but no more than there are entries
some_entries : (in_list : Bool) (leads : List (Entry At)) (key datum trailing : Option (Entry At)) → MayStandTogether in_list leads key datum → 1 ≤ length (leads ++ perhaps key (perhaps datum (perhaps trailing [])))
some_entries in_list leads (Some k) datum trailing h =
    omega (arith, length-append leads (k ∷ perhaps datum (perhaps trailing [])))
some_entries in_list leads None (Some d) trailing h = omega (arith, length-append leads (d ∷ perhaps trailing []))
some_entries in_list [] None None trailing h = absurd (h refl)
some_entries in_list (e ∷ leads) None None trailing h = omega arith

slots_few : (in_list : Bool) (es : List (Entry At)) (ks : List (definition.Slot At)) → AreSlots in_list es ks → length ks ≤ length es
slots_few in_list es [] cut = omega arith
slots_few in_list es (k ∷ ks) cut =
    let some = some_entries in_list k.leads k.key k.datum k.trailing cut.3 in
    omega (arith, slots_few in_list cut.0 ks cut.6, some, ap length cut.1, length-append (slot_entries k) cut.0)

slots_some : (in_list : Bool) (es : List (Entry At)) (ks : List (definition.Slot At)) → AreSlots in_list es ks → length ks ≡ 0 → length es ≡ 0
slots_some in_list es [] cut none = ap length cut
slots_some in_list es (k ∷ ks) cut none = cc

pub ahead_few : (tree : Tree) (in_list : Bool) (ats : List At) → length (node_slots tree in_list ats) ≤ length ats
unfolding node_slots
ahead_few tree in_list ats =
    let es = entries_at tree ats in
    omega (arith, slots_few in_list es (slots_of in_list es) (slots_of_cut in_list es), length-map (slots_of in_list es) bare_slot, length-map ats (entry_at tree))

ahead_some : (tree : Tree) (in_list : Bool) (ats : List At) → length (node_slots tree in_list ats) ≡ 0 → length ats ≡ 0
unfolding node_slots
ahead_some tree in_list ats none =
    let es = entries_at tree ats in
    sym (length-map ats (entry_at tree)) ∙ slots_some in_list es (slots_of in_list es) (slots_of_cut in_list es) (sym (length-map (slots_of in_list es) bare_slot) ∙ none)

both_none : (m n : ℕ) → m ≤ n → (m ≡ 0 → n ≡ 0) → (n == 0) ≡ (m == 0)
both_none zero n le h = ap (λ (k : ℕ). k == 0) (h refl)
both_none (suc m) zero le h = absurd (let none : suc m ≤ 0 = le in omega (arith, none))
both_none (suc m) (suc n) le h = eqb-suc-zero n ∙ sym (eqb-suc-zero m)

pub ahead_empty : (tree : Tree) (in_list : Bool) (ats : List At) → (length ats == 0) ≡ (length (node_slots tree in_list ats) == 0)
ahead_empty tree in_list ats =
    both_none (length (node_slots tree in_list ats)) (length ats) (ahead_few tree in_list ats) (ahead_some tree in_list ats)

-- a slot without its entries' sorts
whats_are : (tree : Tree) (ats : List At) → map (λ e. e.what) (entries_at tree ats) ≡ ats
whats_are tree [] = refl
whats_are tree (a ∷ ats) = ap (λ (xs : List At). a ∷ xs) (whats_are tree ats)

what_is : (tree : Tree) (o : Option At) → option_map (λ (e : Entry At). e.what) (option_map (entry_at tree) o) ≡ o
what_is tree None = refl
what_is tree (Some a) = refl

abbrev node_slot : List At → Option At → Option At → Option At → NodeSlot
node_slot leads key datum trailing = record { leads = leads; key = key; datum = datum; trailing = trailing }

bare_is : (tree : Tree) (s : SlotRef) → bare_slot (ref_at tree s) ≡ read_slot s
bare_is tree s =
    ap (λ (xs : List At). node_slot xs (bare_slot (ref_at tree s)).key (bare_slot (ref_at tree s)).datum (bare_slot (ref_at tree s)).trailing) (whats_are tree s.leads.now)
    ∙ ap (λ (o : Option At). node_slot s.leads.now o (bare_slot (ref_at tree s)).datum (bare_slot (ref_at tree s)).trailing) (what_is tree s.key)
    ∙ ap (λ (o : Option At). node_slot s.leads.now s.key o (bare_slot (ref_at tree s)).trailing) (what_is tree s.datum)
    ∙ ap (λ (o : Option At). node_slot s.leads.now s.key s.datum o) (what_is tree s.trailing)

-- the first slot, and those behind it
pub next_ahead : (tree : Tree) (in_list : Bool) (entries after : List At) (s : SlotRef) → IsNext in_list (entries_at tree entries) (ref_at tree s) (entries_at tree after) → node_slots tree in_list entries ≡ read_slot s ∷ node_slots tree in_list after
unfolding node_slots
next_ahead tree in_list entries after s next =
    let behind = slots_of in_list (entries_at tree after) in
    sym (ap (map bare_slot) (cut_slots_of in_list (entries_at tree entries) (ref_at tree s ∷ behind)
    (entries_at tree after, next.parts, next.leads, next.together, next.trails, next.ends, slots_of_cut in_list (entries_at tree after))))
    ∙ ap (λ (k : NodeSlot). k ∷ map bare_slot behind) (bare_is tree s)

pub none_ahead : (tree : Tree) (in_list : Bool) (entries : List At) → entries ≡ [] → node_slots tree in_list entries ≡ []
unfolding node_slots slots_of
none_ahead tree in_list [] h = refl
none_ahead tree in_list (a ∷ entries) h = cc

-- the first slot begins with the first entry
record Headed (e : Entry At) (es : List (Entry At)) : Type 0 where
  others : List (Entry At)
  is : es ≡ e ∷ others

headed : (e : Entry At) (es xs rest : List (Entry At)) → 1 ≤ length xs → e ∷ es ≡ xs ++ rest → Headed e xs
headed e es [] rest some is = absurd (omega (arith, some))
headed e es (x ∷ xs) rest some is =
    let same : x ≡ e = cc in record { others = xs; is = ap (λ (y : Entry At). y ∷ xs) same }

slots_begin : (in_list : Bool) (e : Entry At) (es : List (Entry At)) (ks : List (definition.Slot At)) → AreSlots in_list (e ∷ es) ks → BeginWith (map bare_slot ks) (Some e.what)
slots_begin in_list e es [] cut = cc
slots_begin in_list e es (k ∷ ks) cut =
    let head = headed e es (slot_entries k) cut.0 (some_entries in_list k.leads k.key k.datum k.trailing cut.3) cut.1 in
    (bare_slot k, map bare_slot ks, map (λ (x : Entry At). x.what) head.others, refl, parts_told_in k ∙ ap (map (λ (x : Entry At). x.what)) head.is)

pub ahead_begin : (tree : Tree) (in_list : Bool) (at : At) (ats : List At) → BeginWith (node_slots tree in_list (at ∷ ats)) (Some at)
unfolding node_slots
ahead_begin tree in_list at ats =
    slots_begin in_list (entry_at tree at) (entries_at tree ats) (slots_of in_list (entries_at tree (at ∷ ats))) (slots_of_cut in_list (entries_at tree (at ∷ ats)))

pub some_ahead : (tree : Tree) (in_list : Bool) (entries : List At) (at : At) → slice_get entries 0 ≡ Some at → BeginWith (node_slots tree in_list entries) (Some at)
some_ahead tree in_list [] at is = cc
some_ahead tree in_list (a ∷ entries) at is =
    let same : a ≡ at = cc in subst (λ (x : At). BeginWith (node_slots tree in_list (a ∷ entries)) (Some x)) same (ahead_begin tree in_list a entries)

pub none_first : (entries : List At) → slice_get entries 0 ≡ None → entries ≡ []
none_first [] is = refl
none_first (a ∷ entries) is = cc

sort_of_first : (e : Entry At) (sort : Option Sort) → sort ≡ Some Datum → sort ≡ Some e.sort → e.sort ≡ Datum
sort_of_first e sort is told = cc

pub datum_first : (tree : Tree) (at : At) (behind : List At) (sort : Option Sort) → sort ≡ Some Datum → sort ≡ first_sort (entries_at tree (at ∷ behind)) → (entry_at tree at).sort ≡ Datum
datum_first tree at behind sort is told = sort_of_first (entry_at tree at) sort is told

-- a datum that is neither a keyword nor a dot, and has no comment behind it on its line, is a slot alone
pub alone_ahead : (tree : Tree) (in_list : Bool) (at : At) (behind : List At) → (entry_at tree at).sort ≡ Datum → first_passes is_trailing (entries_at tree behind) ≡ false → node_slots tree in_list (at ∷ behind) ≡ alone_slot at ∷ node_slots tree in_list behind
unfolding node_slots
alone_ahead tree in_list at behind datum plain =
    let d : Entry At = entry_at tree at in
    let s : definition.Slot At = slot [] None (Some d) None in
    let rest = slots_of in_list (entries_at tree behind) in
    let no_key : (in_list && may_be_key d.sort) ≡ true → BeginsNot Datum (entries_at tree behind) =
    λ m. absurd (false≢true (sym (ap may_be_key datum) ∙ (and_parts _ _ m).1)) in
    sym (ap (map bare_slot) (cut_slots_of in_list (entries_at tree (at ∷ behind)) (s ∷ rest)
    (entries_at tree behind, refl, tt, ap is_comment datum, tt, (not_trailing (entries_at tree behind) plain, no_key), slots_of_cut in_list (entries_at tree behind))))

-- with a comment behind it on its line it is a slot with that
trailed_ahead : (tree : Tree) (in_list : Bool) (at remark : At) (behind : List At) → (entry_at tree at).sort ≡ Datum → (entry_at tree remark).sort ≡ Remark true → node_slots tree in_list (at ∷ remark ∷ behind) ≡ datum_slot at (Some remark) ∷ node_slots tree in_list behind
unfolding node_slots
trailed_ahead tree in_list at remark behind datum trails =
    let s : definition.Slot At = slot [] None (Some (entry_at tree at)) (Some (entry_at tree remark)) in
    let rest = slots_of in_list (entries_at tree behind) in
    sym (ap (map bare_slot) (cut_slots_of in_list (entries_at tree (at ∷ remark ∷ behind)) (s ∷ rest)
    (entries_at tree behind, refl, tt, ap is_comment datum, trails, tt, slots_of_cut in_list (entries_at tree behind))))

pub datum_ahead : (tree : Tree) (in_list : Bool) (at : At) (behind : List At) → (entry_at tree at).sort ≡ Datum → BeginWithDatum (node_slots tree in_list (at ∷ behind)) (Some at)
datum_ahead tree in_list at [] datum = (None, node_slots tree in_list [], alone_ahead tree in_list at [] datum refl)
datum_ahead tree in_list at (a ∷ behind) datum = by_test (is_trailing (entry_at tree a).sort) refl
  where
    by_test : (b : Bool) → is_trailing (entry_at tree a).sort ≡ b → BeginWithDatum (node_slots tree in_list (at ∷ a ∷ behind)) (Some at)
    by_test false e = (None, node_slots tree in_list (a ∷ behind), alone_ahead tree in_list at (a ∷ behind) datum e)
    by_test true e =
        (Some a, node_slots tree in_list behind, trailed_ahead tree in_list at a behind datum (sort_trailing (entry_at tree a).sort e))

-- one comment more
record LeadMore (count : ℕ) (entries behind : List At) (at : At) : Type 0 where
  pub behind_is : behind ≡ drop (count + 1) entries
  pub taken : take (count + 1) entries ≡ take count entries ++ at ∷ []
  pub within : count + 1 ≤ length entries

lead_more : (count : ℕ) (entries behind : List At) (at : At) → at ∷ behind ≡ drop count entries → LeadMore count entries behind at
lead_more zero [] behind at d = cc
lead_more zero (a ∷ entries) behind at d = record { behind_is = cc; taken = cc; within = omega arith }
lead_more (suc count) [] behind at d = cc
lead_more (suc count) (a ∷ entries) behind at d =
    let more : suc count + 1 ≡ suc (count + 1) = omega arith in
    let rest = lead_more count entries behind at d in
    let within = rest.within in
    record {
      behind_is = rest.behind_is ∙ sym (ap (λ (n : ℕ). drop n (a ∷ entries)) more);
      taken = ap (λ (n : ℕ). take n (a ∷ entries)) more ∙ ap (λ (xs : List At). a ∷ xs) rest.taken;
      within = omega (arith, within);
    }

pub record LeadsMore (tree : Tree) (count : ℕ) (entries behind : List At) : Type 0 where
  pub behind_is : behind ≡ drop (count + 1) entries
  pub comments : AreLeads (entries_at tree (take (count + 1) entries))
  pub within : count + 1 ≤ length entries

pub leads_more : (tree : Tree) (count : ℕ) (entries rest behind : List At) (o : Option At) (at : At) (test : Bool) → o ≡ Some at → rest ≡ drop count entries → Splits test rest o behind → test ≡ first_passes is_comment (entries_at tree rest) → AreLeads (entries_at tree (take count entries)) → LeadsMore tree count entries behind
leads_more tree count entries rest behind o at test is d split passes leads =
    let s = subst (λ (x : Option At). Splits test rest x behind) is split in
    let more = lead_more count entries behind at (sym s.1 ∙ d) in
    let comment : is_comment (entry_at tree at).sort ≡ true = sym (passes ∙ ap (λ (xs : List At). first_passes is_comment (entries_at tree xs)) s.1) ∙ s.0 in
    record {
      behind_is = more.behind_is;
      comments =
          subst (λ (xs : List (Entry At)). AreLeads xs) (sym (ap (entries_at tree) more.taken ∙ map-append (entry_at tree) (take count entries) (at ∷ [])))
          (all_push (λ (e : Entry At). is_comment e.sort ≡ true) (entries_at tree (take count entries)) (entry_at tree at) leads comment);
      within = more.within;
    }

-- what is among fewer is among more
pub all_wider : (m n : ℕ) (ats : List At) → m ≤ n → AllByRecursion (λ at. at.0 < m) ats → AllByRecursion (λ at. at.0 < n) ats
all_wider m n [] le h = tt
all_wider m n (a ∷ ats) le h =
    let first = h.0 in (omega (arith, first), all_wider m n ats le h.1)
