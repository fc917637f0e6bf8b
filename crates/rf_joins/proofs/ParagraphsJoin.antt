-- Paragraphs of trees that end in a datum, and those of trees behind them, are the paragraphs of all.
use Rattle.std.proofs.Common.{◌≡◌, ◌≢◌, ℕ, ◌+◌, ◌≤◌, ◌<◌, add-zero, min, inl, inr, List, [], ◌∷◌, ◌++◌, length, map, slice_get, refl, sym, ap, ap₂, ◌∙◌, arith}
use Rattle.std.specs.List.{range_with_len}
use Rattle.std.proofs.lemmas.Option.{slice_get_cases}
use Rattle.rf_base_optimum.specs.Paragraphs.{Paragraph}
use Rattle.rf_base_grammar.specs.Token.{Token}
use Rattle.rf_base_style.specs.Table.{StyleView}
use Rattle.rf_base_tree.specs.Trees.{Tree, Forest, Empty, Then, forest_items}
use Rattle.rf_base_tree.specs.Formed.{Treed}
use Rattle.rf_base_tree.specs.Slots.{Slot, sort_of, entries_of}
use Rattle.rf_base_file.specs.Rows.{Part}
use Rattle.rf_base_file.specs.FileDocument.{top_part}
use Rattle.rf_base_file.specs.LaidOut.{kept}
use Rattle.rf_base_file.specs.ByForms.{blanks_before, top_slots}
use Rattle.rf_tree.specs.Next.{followed_by}
use Rattle.rf_joins.specs.Laws.{ParagraphsJoin}
use Rattle.rf_joins.specs.Moved.{all_moved, joined}
use Rattle.rf_joins.specs.Paragraphs.{blanks_or, group_paragraphs}
use Rattle.rf_joins.proofs.MovedDocuments.{moved_part, StandsIn, StandLater, BeginAtFirst, parts_begin, parts_moved, parts_same, parts_unmoved}
use Rattle.rf_joins.proofs.SlotsJoin.{first_behind, no_trees, slots_joined, some_slots, stands_behind, stands_first, treed_kept}
use Rattle.rf_joins.proofs.TreesJoin.{moved_slot}

-- slots and then others as paragraphs
pub group-append : (n : ℕ) (ts : List Token) (ps qs : List Part) →
    group_paragraphs n ts (ps ++ qs) ≡ group_paragraphs (blanks_or n ts qs) ts ps ++ group_paragraphs n ts qs
unfolding group_paragraphs
group-append n ts [] qs = refl
group-append n ts (p ∷ []) qs = refl
group-append n ts (p ∷ r ∷ ps) qs =
    ap (λ (xs : List Paragraph). record { doc = p.doc; blanks = blanks_before (slice_get ts r.first) } ∷ xs)
    (group-append n ts (r ∷ ps) qs)

pub parts-append : (style : StyleView) (ts : List Token) (ps qs : List (Slot Tree)) →
    map (top_part style ts) (ps ++ qs) ≡ map (top_part style ts) ps ++ map (top_part style ts) qs
parts-append style ts [] qs = refl
parts-append style ts (p ∷ ps) qs = ap (λ (xs : List Part). top_part style ts p ∷ xs) (parts-append style ts ps qs)

-- the blank lines before an item that isn't the first are the same where the item stands in a longer list
blanks_stand : (n : ℕ) (us ws : List Token) → StandsIn n us ws → (i : ℕ) → 1 ≤ i → i < length us →
    blanks_before (slice_get ws (n + i)) ≡ blanks_before (slice_get us i)
blanks_stand n us ws e i later within = elim ((slice_get_cases us i).1) [
  | inl w ↦
      let there = e.at i w.0 w.2 in
      ap blanks_before there.1 ∙ there.5 (λ none. omega arith) ∙ ap blanks_before (sym w.2)
  | inr w ↦ absurd (omega arith)
]

-- so moved parts as paragraphs are those of the parts
behind_moved : (n m : ℕ) (us ws : List Token) (p : Part) (parts : List Part) → StandsIn n us ws →
    StandLater (length us) parts →
    group_paragraphs m ws (map (moved_part n) (p ∷ parts)) ≡ group_paragraphs m us (p ∷ parts)
unfolding group_paragraphs
behind_moved n m us ws p [] e h = refl
behind_moved n m us ws p (q ∷ parts) e h =
    ap₂ (λ (k : ℕ) (xs : List Paragraph). record { doc = p.doc; blanks = k } ∷ xs)
    (blanks_stand n us ws e q.first h.0.0 h.0.1) (behind_moved n m us ws q parts e h.1)

group_moved : (n m : ℕ) (us ws : List Token) (parts : List Part) → StandsIn n us ws → BeginAtFirst (length us) parts →
    group_paragraphs m ws (map (moved_part n) parts) ≡ group_paragraphs m us parts
unfolding group_paragraphs
group_moved n m us ws [] e h = refl
group_moved n m us ws (p ∷ parts) e h = behind_moved n m us ws p parts e h.1

-- before moved parts stand the blank lines that stand before the item to which the first one is moved
blanks_first : (n m size : ℕ) (ws : List Token) (parts : List Part) → parts ≢ [] → BeginAtFirst size parts →
    blanks_or m ws (map (moved_part n) parts) ≡ blanks_before (slice_get ws n)
blanks_first n m size ws [] some h = absurd (some refl)
blanks_first n m size ws (p ∷ parts) some h =
    ap (λ (i : ℕ). blanks_before (slice_get ws (n + i))) h.0
    ∙ ap (λ (i : ℕ). blanks_before (slice_get ws i)) (add-zero n)

-- trees of items have parts
some_parts : (style : StyleView) (t : Token) (ts us : List Token) (g : Forest) → Treed (t ∷ ts) g →
    map (top_part style us) (top_slots us g) ≢ []
some_parts style t ts us Empty h = absurd (no_trees t ts h)
some_parts style t ts us (Then x g) h =
    no_part (top_slots us (Then x g)) (some_slots (record { sort = sort_of us x; what = x }) (entries_of us g))
  where
    no_part : (slots : List (Slot Tree)) → slots ≢ [] → map (top_part style us) slots ≢ []
    no_part [] some e = some refl
    no_part (s ∷ slots) some e = cc

-- the paragraphs of both are those of the trees that end in a datum, and those of the trees behind them
pub paragraphs_joined : ParagraphsJoin
paragraphs_joined style n behind us vs v f g h d k plain =
    let all : List Token = kept style (joined n us (v ∷ vs)) in
    let first : List Token = kept style us in
    let second : List Token = kept style (v ∷ vs) in
    let size : ℕ = length us in
    let front : List Part = map (top_part style first) (top_slots first f) in
    let back : List Part = map (top_part style second) (top_slots second g) in
    let front_row : forest_items f ≡ range_with_len 0 (length first) = (treed_kept style us f h).items_are in
    let back_row : forest_items g ≡ range_with_len 0 (length second) = (treed_kept style (v ∷ vs) g k).items_are in
    let front_stands : StandsIn 0 first all =
    record {
      at = λ i t e. (t, stands_first style n us vs v f g h d k i t e, refl, refl, refl, λ later. refl);
    } in
    let back_stands : StandsIn size second all = record { at = stands_behind style n us vs v f g h d k } in
    let back_begins : BeginAtFirst (length second) back = parts_begin style second g back_row in
    let between : blanks_or behind all (map (moved_part size) back) ≡ min v.blanks style.blanks =
    blanks_first size behind (length second) all back (some_parts style v vs second g k) back_begins
    ∙ first_behind style n us vs v f g h d k in
    let parts : map (top_part style all) (top_slots all (followed_by f (all_moved size g)))
    ≡ front ++ map (moved_part size) back =
    ap (λ (ss : List (Slot Tree)). map (top_part style all) ss) (slots_joined style n us vs v f g h d k plain)
    ∙ parts-append style all (top_slots first f) (map (moved_slot size) (top_slots second g))
    ∙ ap₂ (λ (ps qs : List Part). ps ++ qs) (parts_same style first all f front_row front_stands)
    (parts_moved style size second all g back_row back_stands) in
    ap (λ (ps : List Part). group_paragraphs behind all ps) parts
    ∙ group-append behind all front (map (moved_part size) back)
    ∙ ap₂ (λ (xs ys : List Paragraph). xs ++ ys)
    (ap₂ (λ (m : ℕ) (ps : List Part). group_paragraphs m all ps) between (sym (parts_unmoved front))
    ∙ group_moved 0 (min v.blanks style.blanks) first all front front_stands (parts_begin style first f front_row))
    (group_moved size behind second all back back_stands back_begins)
