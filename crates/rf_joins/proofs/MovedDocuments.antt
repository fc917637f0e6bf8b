-- The document of a top-level slot doesn't change where its items stand in a longer list of items.
use Rattle.std.proofs.Common.{◌≡◌, ◌≢◌, ℕ, zero, suc, zero-add, ◌+◌, ◌≤◌, ◌<◌, inl, inr, ltb, if◌then◌else◌, Bool, true, false, Option, Some, None, List, [], ◌∷◌, ◌++◌, length, map, slice_get, refl, sym, ap, ap₂, ◌∙◌, subst, arith}
use Rattle.std.specs.Prelude.{⊤}
use Rattle.std.specs.Option.{option_map}
use Rattle.std.specs.List.{AllByRecursion, range_with_len}
use Rattle.std.proofs.lemmas.Bool.{lt-ltb, le-ltb, ltb-true, ltb-false}
use Rattle.std.proofs.lemmas.List.{map-id}
use Rattle.std.proofs.lemmas.Option.{slice_get_cases, slice_get_past}
use Rattle.std.proofs.lemmas.Iterator.Adapters.{option_map_id}
use Rattle.rf_base_grammar.specs.Token.{Token}
use Rattle.rf_base_style.specs.Table.{StyleView}
use Rattle.rf_base_tree.specs.declared.separators.Want.{Want}
use Rattle.rf_base_tree.specs.Trees.{Tree, Leaf, Point, Comment, Prefixed, DatumComment, Listed, Forest, Empty, Then, spelling_at, tree_items, forest_items}
use Rattle.rf_base_tree.specs.Slots.{Entry, Slot, datum_of, remark_of, sort_of, entries_of}
use Rattle.rf_base_tree.specs.Cut.{slot, slots_of}
use Rattle.rf_base_tree.proofs.Cuts.{slots_of_cut, map_entry, map_slot, slots_of_map}
use Rattle.rf_base_file.specs.declared.shapes.Roles.TheVariants.{AllFree}
use Rattle.rf_base_file.specs.Rows.{Part, part, docs_between, slot_parts}
use Rattle.rf_base_file.specs.Ways.{Piece, slots_in}
use Rattle.rf_base_file.specs.FileDocument.{token_atom, tree_piece, forest_entries, top_part}
use Rattle.rf_base_file.specs.ByForms.{top_slots}
use Rattle.rf_base_file.proofs.TreeStrands.{tops_mapped, tops_are}
use Rattle.rf_joins.specs.Moved.{moved, all_moved}
use Rattle.rf_base_file.proofs.Firsts.{Later, BehindFirst, Begins, begins_behind, each_front, each_back, later_back, behind_front, behind_back, firsts, entry_firsts, slots_rows, slots_begin}
use Rattle.rf_joins.proofs.TreesJoin.{moved_none, moved_slot}
use Rattle.rf_base_file.proofs.RenamedDocuments.{funext, same_slots, renamed_part, renamed_piece, renamed, all_renamed, Renames, parts_renamed, slots_in_renamed, tree_begins, forest_later, tree_renamed}

-- a part whose items' numbers are so many greater
abbrev pub moved_part : ℕ → Part → Part
moved_part n p = part (n + p.first) (n + p.last) p.doc

-- the items us stand in ws, so many numbers further on; before the first of them other blank lines may stand
pub record StandsIn (n : ℕ) (us ws : List Token) : Type 0 where
  pub at : (i : ℕ) (t : Token) → slice_get us i ≡ Some t →
      (u : Token) × (slice_get ws (n + i) ≡ Some u) × (u.kind ≡ t.kind) × (u.spelling ≡ t.spelling)
      × (u.own_line ≡ t.own_line) × (i ≢ 0 → u.blanks ≡ t.blanks)

-- the parts begin with a later item than the first, of so many; and the first of the parts begins with the first item,
-- and those behind it with a later one
abbrev pub StandLater : ℕ → List Part → Type 0
StandLater size parts = AllByRecursion (λ p. (1 ≤ p.first) × (p.first < size)) parts

abbrev pub BeginAtFirst : ℕ → List Part → Type 0
BeginAtFirst size [] = ⊤
BeginAtFirst size (p ∷ parts) = (p.first ≡ 0) × StandLater size parts

-- an item and the one that stands for it, if they are there: alike, with the same blank lines before them where that is
-- said
abbrev StandFor : Type 0 → Option Token → Option Token → Type 0
StandFor Same None None = ⊤
StandFor Same (Some t) (Some u) =
    (u.kind ≡ t.kind) × (u.spelling ≡ t.spelling) × (u.own_line ≡ t.own_line) × (Same → u.blanks ≡ t.blanks)
StandFor Same _ _ = ⊥

between_stand : (S Same : Type 0) (a b c d : Option Token) (w : Want) → StandFor S a c → StandFor Same b d → Same →
    docs_between c d w ≡ docs_between a b w
between_stand S Same None b None d w h k s = refl
between_stand S Same None b (Some c) d w h k s = absurd h
between_stand S Same (Some a) b None d w h k s = absurd h
between_stand S Same (Some a) None (Some c) None w h k s = refl
between_stand S Same (Some a) None (Some c) (Some d) w h k s = absurd k
between_stand S Same (Some a) (Some b) (Some c) None w h k s = absurd k
between_stand S Same (Some a) (Some b) (Some c) (Some d) w h k s =
    rw (h.0, h.1, k.0, k.1, k.2, k.3 s) refl

datum_stand : (Same : Type 0) (a c : Option Token) → StandFor Same a c → datum_of c ≡ datum_of a
datum_stand Same None None h = refl
datum_stand Same None (Some c) h = absurd h
datum_stand Same (Some a) None h = absurd h
datum_stand Same (Some a) (Some c) h = rw (h.0, h.1) refl

remark_stand : (Same : Type 0) (a c : Option Token) → StandFor Same a c → remark_of c ≡ remark_of a
remark_stand Same None None h = refl
remark_stand Same None (Some c) h = absurd h
remark_stand Same (Some a) None h = absurd h
remark_stand Same (Some a) (Some c) h = rw (h.0, h.2) refl

atom_stand : (Same : Type 0) (a c : Option Token) → StandFor Same a c → token_atom c ≡ token_atom a
atom_stand Same None None h = refl
atom_stand Same None (Some c) h = absurd h
atom_stand Same (Some a) None h = absurd h
atom_stand Same (Some a) (Some c) h = rw (h.0, h.1) refl

abbrev spelling_of : Option Token → List ℕ
spelling_of None = []
spelling_of (Some t) = t.spelling

spelling_got : (ts : List Token) (n : ℕ) → spelling_at ts n ≡ spelling_of (slice_get ts n)
spelling_got [] n = refl
spelling_got (t ∷ ts) zero = refl
spelling_got (t ∷ ts) (suc n) = spelling_got ts n

spelling_stand : (Same : Type 0) (a c : Option Token) → StandFor Same a c → spelling_of c ≡ spelling_of a
spelling_stand Same None None h = refl
spelling_stand Same None (Some c) h = absurd h
spelling_stand Same (Some a) None h = absurd h
spelling_stand Same (Some a) (Some c) h = h.1

-- the numbers of the first so many items, n further on, and of others far behind them
abbrev shifted : ℕ → ℕ → ℕ → ℕ → ℕ
shifted n size far i = if ltb i size then n + i else far + i

shifted_there : (n size far i : ℕ) → i < size → shifted n size far i ≡ n + i
shifted_there n size far i h = ap (λ (b : Bool). if b then n + i else far + i) (lt-ltb i size h)

shifted_far : (n size far i : ℕ) → size ≤ i → shifted n size far i ≡ far + i
shifted_far n size far i h = ap (λ (b : Bool). if b then n + i else far + i) (le-ltb i size h)

-- so each item has one that stands for it, where its number is moved so
stands : (n far : ℕ) (us ws : List Token) → StandsIn n us ws → length ws ≤ far → (i : ℕ) →
    StandFor (i ≢ 0) (slice_get us i) (slice_get ws (shifted n (length us) far i))
stands n far us ws e h i = elim ((slice_get_cases us i).1) [
  | inl w ↦
      let there = e.at i w.0 w.2 in
      let got : slice_get ws (shifted n (length us) far i) ≡ Some there.0 =
      ap (λ (k : ℕ). slice_get ws k) (shifted_there n (length us) far i w.1) ∙ there.1 in
      subst (λ (o : Option Token). StandFor (i ≢ 0) o (slice_get ws (shifted n (length us) far i))) (sym w.2)
      (subst (λ (o : Option Token). StandFor (i ≢ 0) (Some w.0) o) (sym got) (there.2, there.3, there.4, there.5))
  | inr w ↦
      let none : slice_get ws (shifted n (length us) far i) ≡ None =
      ap (λ (k : ℕ). slice_get ws k) (shifted_far n (length us) far i w.0)
      ∙ slice_get_past ws (far + i) (omega arith) in
      subst (λ (o : Option Token). StandFor (i ≢ 0) o (slice_get ws (shifted n (length us) far i))) (sym w.1)
      (subst (λ (o : Option Token). StandFor (i ≢ 0) None o) (sym none) tt)
]

sorts_stand : (n far : ℕ) (us ws : List Token) → StandsIn n us ws → length ws ≤ far → (t : Tree) →
    sort_of ws (renamed (shifted n (length us) far) t) ≡ sort_of us t
unfolding renamed
sorts_stand n far us ws e h (Leaf item) =
    datum_stand (item ≢ 0) (slice_get us item) (slice_get ws (shifted n (length us) far item))
    (stands n far us ws e h item)
sorts_stand n far us ws e h (Comment item) =
    remark_stand (item ≢ 0) (slice_get us item) (slice_get ws (shifted n (length us) far item))
    (stands n far us ws e h item)
sorts_stand n far us ws e h _ = refl

not_first : (n : ℕ) → 1 ≤ n → n ≢ 0
not_first n h = λ e. omega arith

shifted_renames : (n far : ℕ) (us ws : List Token) → StandsIn n us ws → length ws ≤ far →
    Renames 1 (shifted n (length us) far) us ws
shifted_renames n far us ws e h =
    let f : ℕ → ℕ = shifted n (length us) far in
    record {
      gaps = λ a b w later.
          between_stand (a ≢ 0) (b ≢ 0) (slice_get us a) (slice_get us b) (slice_get ws (f a)) (slice_get ws (f b)) w
          (stands n far us ws e h a) (stands n far us ws e h b) (not_first b later);
      spellings = λ i.
          spelling_got ws (f i)
          ∙ spelling_stand (i ≢ 0) (slice_get us i) (slice_get ws (f i)) (stands n far us ws e h i)
          ∙ sym (spelling_got us i);
      sorts = sorts_stand n far us ws e h;
      atoms = λ i. atom_stand (i ≢ 0) (slice_get us i) (slice_get ws (f i)) (stands n far us ws e h i);
    }

-- trees of items that are all moved are moved
mutual
  unfolding renamed all_renamed moved all_moved tree_items forest_items

  renamed_is : (f : ℕ → ℕ) (n : ℕ) (t : Tree) → AllByRecursion (λ i. f i ≡ n + i) (tree_items t) →
      renamed f t ≡ moved n t
  renamed_is f n (Leaf item) h = ap (λ (i : ℕ). Leaf i) h.0
  renamed_is f n (Point item) h = ap (λ (i : ℕ). Point i) h.0
  renamed_is f n (Comment item) h = ap (λ (i : ℕ). Comment i) h.0
  renamed_is f n (Prefixed item lead inner) h =
      ap (λ (i : ℕ). Prefixed i (all_renamed f lead) (renamed f inner)) h.0
      ∙ ap₂ (λ (l : Forest) (t : Tree). Prefixed (n + item) l t)
      (all_renamed_are f n lead (each_front (λ i. f i ≡ n + i) (forest_items lead) (tree_items inner) h.1))
      (renamed_is f n inner (each_back (λ i. f i ≡ n + i) (forest_items lead) (tree_items inner) h.1))
  renamed_is f n (DatumComment item lead inner) h =
      ap (λ (i : ℕ). DatumComment i (all_renamed f lead) (renamed f inner)) h.0
      ∙ ap₂ (λ (l : Forest) (t : Tree). DatumComment (n + item) l t)
      (all_renamed_are f n lead (each_front (λ i. f i ≡ n + i) (forest_items lead) (tree_items inner) h.1))
      (renamed_is f n inner (each_back (λ i. f i ≡ n + i) (forest_items lead) (tree_items inner) h.1))
  renamed_is f n (Listed opener entries closer) h =
      ap (λ (i : ℕ). Listed i (all_renamed f entries) (f closer)) h.0
      ∙ ap₂ (λ (g : Forest) (i : ℕ). Listed (n + opener) g i)
      (all_renamed_are f n entries (each_front (λ i. f i ≡ n + i) (forest_items entries) (closer ∷ []) h.1))
      (each_back (λ i. f i ≡ n + i) (forest_items entries) (closer ∷ []) h.1).0

  all_renamed_are : (f : ℕ → ℕ) (n : ℕ) (g : Forest) → AllByRecursion (λ i. f i ≡ n + i) (forest_items g) →
      all_renamed f g ≡ all_moved n g
  all_renamed_are f n Empty h = refl
  all_renamed_are f n (Then t g) h =
      ap₂ (λ (x : Tree) (xs : Forest). Then x xs)
      (renamed_is f n t (each_front (λ i. f i ≡ n + i) (tree_items t) (forest_items g) h))
      (all_renamed_are f n g (each_back (λ i. f i ≡ n + i) (tree_items t) (forest_items g) h))

-- what holds of each of the numbers in a row
each_number : (P : ℕ → Type 0) (a n : ℕ) → ((i : ℕ) → a ≤ i → i < a + n → P i) → AllByRecursion P (range_with_len a n)
each_number P a zero h = tt
each_number P a (suc n) h = (
  h a (omega arith) (omega arith),
  each_number P (a + 1) n (λ i above below. h i (omega arith) (omega arith)),
)

-- the slots of moved trees as parts
moved_entries : (f : ℕ → ℕ) (style : StyleView) (n : ℕ) (us ws : List Token) (g : Forest) → Renames 1 f us ws →
    BehindFirst 1 (forest_items g) → AllByRecursion (λ i. f i ≡ n + i) (forest_items g) →
    map (map_entry (tree_piece style ws)) (map (map_entry (moved n)) (entries_of us g))
    ≡ map (map_entry (renamed_piece f)) (forest_entries style us g)
unfolding forest_items forest_entries
moved_entries f style n us ws Empty e b h = refl
moved_entries f style n us ws (Then t g) e b h =
    let same : renamed f t ≡ moved n t =
    renamed_is f n t (each_front (λ i. f i ≡ n + i) (tree_items t) (forest_items g) h) in
    ap₂ (λ (p : Piece) (es : List (Entry Piece)). record { sort = sort_of us t; what = p } ∷ es)
    (ap (λ (x : Tree). tree_piece style ws x) (sym same)
    ∙ tree_renamed 1 f style us ws e t (behind_front 1 (tree_items t) (forest_items g) b))
    (moved_entries f style n us ws g e (behind_back 1 (tree_items t) (forest_items g) b)
    (each_back (λ i. f i ≡ n + i) (tree_items t) (forest_items g) h))

moved_tops : (f : ℕ → ℕ) (style : StyleView) (n : ℕ) (us ws : List Token) (g : Forest) → Renames 1 f us ws →
    BehindFirst 1 (forest_items g) → AllByRecursion (λ i. f i ≡ n + i) (forest_items g) →
    BehindFirst 1 (entry_firsts (forest_entries style us g)) →
    map (top_part style ws) (map (moved_slot n) (top_slots us g))
    ≡ map (renamed_part f) (map (top_part style us) (top_slots us g))
moved_tops f style n us ws g e b h firsts =
    let es : List (Entry Piece) = forest_entries style us g in
    let slots : List (Slot Piece) = slots_of false es in
    tops_mapped style ws (map (moved_slot n) (top_slots us g))
    ∙ ap (λ (ss : List (Slot Piece)). slot_parts ws (slots_in false AllFree ss))
    (ap (λ (ss : List (Slot Tree)). map (map_slot (tree_piece style ws)) ss)
    (sym (slots_of_map (moved n) false (entries_of us g)))
    ∙ sym (slots_of_map (tree_piece style ws) false (map (map_entry (moved n)) (entries_of us g)))
    ∙ ap (λ (xs : List (Entry Piece)). slots_of false xs) (moved_entries f style n us ws g e b h)
    ∙ slots_of_map (renamed_piece f) false es)
    ∙ ap (λ (ss : List (Slot Part)). slot_parts ws ss) (slots_in_renamed f false AllFree slots)
    ∙ parts_renamed 1 f us ws e (slots_in false AllFree slots)
    (slots_rows 1 false false AllFree es slots (slots_of_cut false es) firsts)
    ∙ ap (λ (ps : List Part). map (renamed_part f) ps) (sym (tops_are style us g))

-- trees of items in a row begin with the first one, and those behind the first with later ones
range_begins : (n : ℕ) → Begins (range_with_len 0 n)
range_begins zero = tt
range_begins (suc n) = (refl, each_number (λ i. 1 ≤ i) 1 n (λ i above below. above))

forest_begins : (style : StyleView) (ts : List Token) (g : Forest) → Begins (forest_items g) →
    Begins (entry_firsts (forest_entries style ts g))
unfolding forest_items forest_entries
forest_begins style ts Empty h = tt
forest_begins style ts (Then t g) h =
    let begin = tree_begins style ts t in
    let row : Begins ((tree_piece style ts t).first ∷ (begin.0 ++ forest_items g)) =
    subst (λ (ns : List ℕ). Begins (ns ++ forest_items g)) begin.1 h in
    (row.0, forest_later 1 style ts g (later_back 1 begin.0 (forest_items g) row.1))

tops_shifted : (style : StyleView) (n far : ℕ) (us ws : List Token) (g : Forest) →
    forest_items g ≡ range_with_len 0 (length us) → StandsIn n us ws → length ws ≤ far →
    map (top_part style ws) (map (moved_slot n) (top_slots us g))
    ≡ map (renamed_part (shifted n (length us) far)) (map (top_part style us) (top_slots us g))
tops_shifted style n far us ws g row e h =
    let f : ℕ → ℕ = shifted n (length us) far in
    let begin : Begins (forest_items g) = subst Begins (sym row) (range_begins (length us)) in
    let there : AllByRecursion (λ i. f i ≡ n + i) (forest_items g) =
    subst (λ (ns : List ℕ). AllByRecursion (λ i. f i ≡ n + i) ns) (sym row)
    (each_number (λ i. f i ≡ n + i) 0 (length us)
    (λ i above below. shifted_there n (length us) far i (omega arith))) in
    moved_tops f style n us ws g (shifted_renames n far us ws e h) (begins_behind (forest_items g) begin) there
    (begins_behind (entry_firsts (forest_entries style us g)) (forest_begins style us g begin))

-- the items of parts are among so many, where it doesn't matter how far others are moved
abbrev AreWithin : ℕ → List Part → Type 0
AreWithin size parts = AllByRecursion (λ p. (p.first < size) × (p.last < size)) parts

number_within : (n size far i : ℕ) → shifted n size far i ≡ shifted n size (suc far) i → i < size
number_within n size far i h = by_test (ltb i size) refl
  where
    by_test : (b : Bool) → ltb i size ≡ b → i < size
    by_test true e = ltb-true i size e
    by_test false e =
        let past : size ≤ i = ltb-false i size e in
        let same : far + i ≡ suc far + i =
        sym (shifted_far n size far i past) ∙ h ∙ shifted_far n size (suc far) i past in
        absurd (omega arith)

parts_within : (n size far : ℕ) (parts : List Part) →
    map (renamed_part (shifted n size far)) parts ≡ map (renamed_part (shifted n size (suc far))) parts →
    AreWithin size parts
parts_within n size far [] h = tt
parts_within n size far (p ∷ parts) h =
    let f : ℕ → ℕ = shifted n size far in
    let g : ℕ → ℕ = shifted n size (suc far) in
    let same : renamed_part f p ≡ renamed_part g p = cc in
    let rest : map (renamed_part f) parts ≡ map (renamed_part g) parts = cc in (
      (
        number_within n size far p.first (ap (λ (q : Part). q.first) same),
        number_within n size far p.last (ap (λ (q : Part). q.last) same),
      ),
      parts_within n size far parts rest,
    )

parts_shifted : (n size far : ℕ) (parts : List Part) → AreWithin size parts →
    map (renamed_part (shifted n size far)) parts ≡ map (moved_part n) parts
parts_shifted n size far [] h = refl
parts_shifted n size far (p ∷ parts) h =
    ap₂ (λ (q : Part) (qs : List Part). q ∷ qs)
    (ap₂ (λ (i k : ℕ). part i k p.doc) (shifted_there n size far p.first h.0.0)
    (shifted_there n size far p.last h.0.1)) (parts_shifted n size far parts h.1)

tops_within : (style : StyleView) (n : ℕ) (us ws : List Token) (g : Forest) →
    forest_items g ≡ range_with_len 0 (length us) → StandsIn n us ws →
    AreWithin (length us) (map (top_part style us) (top_slots us g))
tops_within style n us ws g row e =
    parts_within n (length us) (length ws) (map (top_part style us) (top_slots us g))
    (sym (tops_shifted style n (length ws) us ws g row e (omega arith))
    ∙ tops_shifted style n (suc (length ws)) us ws g row e (omega arith))

-- so the parts of moved trees are those of the trees, moved
pub parts_moved : (style : StyleView) (n : ℕ) (us ws : List Token) (g : Forest) →
    forest_items g ≡ range_with_len 0 (length us) → StandsIn n us ws →
    map (top_part style ws) (map (moved_slot n) (top_slots us g))
    ≡ map (moved_part n) (map (top_part style us) (top_slots us g))
parts_moved style n us ws g row e =
    tops_shifted style n (length ws) us ws g row e (omega arith)
    ∙ parts_shifted n (length us) (length ws) (map (top_part style us) (top_slots us g))
    (tops_within style n us ws g row e)

-- slots and parts that are moved by nothing
slots_unmoved : (slots : List (Slot Tree)) → map (moved_slot 0) slots ≡ slots
slots_unmoved slots =
    ap (λ (m : Tree → Tree). map (map_slot m) slots) (funext (moved 0) (λ t. t) moved_none) ∙ same_slots slots

pub parts_unmoved : (parts : List Part) → map (moved_part 0) parts ≡ parts
parts_unmoved [] = refl
parts_unmoved (p ∷ parts) =
    ap₂ (λ (q : Part) (qs : List Part). q ∷ qs)
    (ap₂ (λ (i k : ℕ). part i k p.doc) (zero-add p.first) (zero-add p.last)) (parts_unmoved parts)

-- where items stand at the front of a longer list, the parts are the same
pub parts_same : (style : StyleView) (us ws : List Token) (g : Forest) →
    forest_items g ≡ range_with_len 0 (length us) → StandsIn 0 us ws →
    map (top_part style ws) (top_slots us g) ≡ map (top_part style us) (top_slots us g)
parts_same style us ws g row e =
    ap (λ (ss : List (Slot Tree)). map (top_part style ws) ss) (sym (slots_unmoved (top_slots us g)))
    ∙ parts_moved style 0 us ws g row e ∙ parts_unmoved (map (top_part style us) (top_slots us g))

-- the first part begins with the first item, and the others with later ones
stands_itself : (us : List Token) → StandsIn 0 us us
stands_itself us = record {
  at = λ i t e. (t, ap (λ (k : ℕ). slice_get us k) (zero-add i) ∙ e, refl, refl, refl, λ later. refl);
}

stand_later : (size : ℕ) (parts : List Part) → Later 1 (firsts parts) → AreWithin size parts → StandLater size parts
stand_later size [] h k = tt
stand_later size (p ∷ parts) h k = ((h.0, k.0.0), stand_later size parts h.1 k.1)

begin_at_first : (size : ℕ) (parts : List Part) → Begins (firsts parts) → AreWithin size parts → BeginAtFirst size parts
begin_at_first size [] h k = tt
begin_at_first size (p ∷ parts) h k = (h.0, stand_later size parts h.1 k.1)

pub parts_begin : (style : StyleView) (us : List Token) (g : Forest) → forest_items g ≡ range_with_len 0 (length us) →
    BeginAtFirst (length us) (map (top_part style us) (top_slots us g))
parts_begin style us g row =
    let es : List (Entry Piece) = forest_entries style us g in
    let begin : Begins (forest_items g) = subst Begins (sym row) (range_begins (length us)) in
    begin_at_first (length us) (map (top_part style us) (top_slots us g))
    (subst (λ (ps : List Part). Begins (firsts ps)) (sym (tops_are style us g))
    (slots_begin us false false AllFree es (slots_of false es) (slots_of_cut false es)
    (forest_begins style us g begin)))
    (tops_within style 0 us us g row (stands_itself us))
