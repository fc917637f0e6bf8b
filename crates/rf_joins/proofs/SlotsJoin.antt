-- Slots of trees that end in a datum, and those of trees behind them, are the slots of all.
use Rattle.std.proofs.Common.{◌≡◌, ◌≢◌, ℕ, zero, suc, ◌+◌, ◌||◌, min, if◌then◌else◌, Bool, true, false, Option, None, Some, List, [], ◌∷◌, ◌++◌, length, refl, sym, ap, ◌∙◌, subst, arith, add-zero, zero-add}
use Rattle.std.specs.Prelude.{map, slice_get}
use Rattle.std.specs.Option.{option_map}
use Rattle.std.specs.List.{range_with_len}
use Rattle.std.proofs.lemmas.Bool.{false≢true}
use Rattle.std.proofs.lemmas.List.{append_assoc, append-nil}
use Rattle.std.proofs.lemmas.Option.{slice_get-map}
use Rattle.rf_base_document.proofs.Graph.{slice_get-append}
use Rattle.rf_base_grammar.specs.Token.{Token, with_blanks, opens, closes, settled}
use Rattle.rf_base_grammar.specs.Woven.{trails}
use Rattle.rf_base_grammar.specs.declared.kinds.Kind.{Kind}
use Rattle.rf_base_grammar.specs.declared.kinds.Kind.TheVariants.{Opener, Closer, Prefix, Skip, Dot}
use Rattle.rf_base_style.specs.Table.{StyleView}
use Rattle.rf_base_tree.specs.Trees.{Tree, Leaf, Point, Comment, Prefixed, DatumComment, Listed, Forest, Empty, Then, kind_at, tree_items, forest_items}
use Rattle.rf_base_tree.specs.Formed.{is_whole, is_remark, IsDatum, IsFormed, AreFormed, Treed}
use Rattle.rf_base_tree.specs.Slots.{Sort, Remark, Keyword, Dotted, Datum, Entry, Slot, is_comment, BeginsNot, AreSlots, is_keyword_of, keyword_or_datum, remark_of, datum_of, sort_of, entries_of}
use Rattle.rf_base_tree.specs.Cut.{slot, unless_empty, alone, trailed_by, before_leads, behind_datum, put_by, slots_of}
use Rattle.rf_base_tree.proofs.Alike.{length-settled, alike-back, read_alike, Treed-alike}
use Rattle.rf_base_tree.proofs.Cuts.{map_entry, slots_of_cut, cut_slots_of, slots_of_map}
use Rattle.rf_base_file.specs.LaidOut.{kept}
use Rattle.rf_base_file.specs.ByForms.{blanks_before, top_slots}
use Rattle.rf_tree.specs.Next.{followed_by}
use Rattle.rf_tree.proofs.SlotEnds.{entries_behind}
use Rattle.rf_joins.specs.Moved.{moved, all_moved, further, joined, EndInDatum}
use Rattle.rf_joins.proofs.TreesJoin.{Carried, token_at, moved_none, all_moved_none, get_behind, moved_slot}

-- the last of these items is no opener, prefix or skip
record LastItem (ts : List Token) (items : List ℕ) : Type 0 where
  front : List ℕ
  item : ℕ
  kind : Kind
  items_are : items ≡ front ++ item ∷ []
  kind_is : kind_at ts item ≡ Some kind
  no_opener : opens kind ≡ false

whole_opens_not : (k : Kind) → is_whole k ≡ true → opens k ≡ false
whole_opens_not (Opener b) h = absurd (false≢true h)
whole_opens_not Prefix h = absurd (false≢true h)
whole_opens_not Skip h = absurd (false≢true h)
whole_opens_not _ h = refl

remark_opens_not : (k : Kind) → is_remark k ≡ true → opens k ≡ false
remark_opens_not (Opener b) h = absurd (false≢true h)
remark_opens_not Prefix h = absurd (false≢true h)
remark_opens_not Skip h = absurd (false≢true h)
remark_opens_not _ h = refl

last_behind : (ts : List Token) (before items : List ℕ) → LastItem ts items → LastItem ts (before ++ items)
last_behind ts before items h = record {
  front = before ++ h.front;
  item = h.item;
  kind = h.kind;
  items_are = ap (λ is. before ++ is) h.items_are ∙ sym (append_assoc before h.front (h.item ∷ []));
  kind_is = h.kind_is;
  no_opener = h.no_opener;
}

last_alone : (ts : List Token) (item : ℕ) (k : Kind) → kind_at ts item ≡ Some k → opens k ≡ false →
    LastItem ts (item ∷ [])
last_alone ts item k h o =
    record { front = []; item = item; kind = k; items_are = refl; kind_is = h; no_opener = o }

tree_last : (ts : List Token) (t : Tree) → IsFormed ts t → LastItem ts (tree_items t)
unfolding IsFormed tree_items
tree_last ts (Leaf item) h = last_alone ts item h.0 h.1 (whole_opens_not h.0 h.2)
tree_last ts (Point item) h = last_alone ts item Dot h refl
tree_last ts (Comment item) h = last_alone ts item h.0 h.1 (remark_opens_not h.0 h.2)
tree_last ts (Prefixed item lead inner) h =
    last_behind ts (item ∷ forest_items lead) (tree_items inner) (tree_last ts inner h.3)
tree_last ts (DatumComment item lead inner) h =
    last_behind ts (item ∷ forest_items lead) (tree_items inner) (tree_last ts inner h.3)
tree_last ts (Listed opener entries closer) h =
    last_behind ts (opener ∷ forest_items entries) (closer ∷ []) (last_alone ts closer (Closer h.0) h.3 refl)

forest_last : (ts : List Token) (f : Forest) → AreFormed ts f → EndInDatum f → LastItem ts (forest_items f)
unfolding AreFormed forest_items
forest_last ts Empty h d = absurd d
forest_last ts (Then t Empty) h d = subst (LastItem ts) (sym (append-nil (tree_items t))) (tree_last ts t h.0)
forest_last ts (Then t (Then u f)) h d =
    last_behind ts (tree_items t) (forest_items (Then u f)) (forest_last ts (Then u f) h.1 d)

-- the last of so many numbers
last_number : (a n : ℕ) (front : List ℕ) (i : ℕ) → front ++ i ∷ [] ≡ range_with_len a n → suc i ≡ a + n
last_number a zero [] i e = cc
last_number a (suc zero) [] i e = let same : i ≡ a = cc in omega (arith, same)
last_number a (suc (suc n)) [] i e = cc
last_number a zero (x ∷ front) i e = cc
last_number a (suc n) (x ∷ front) i e =
    let others = tail_is x a (front ++ i ∷ []) (range_with_len (a + 1) n) e in
    let rest : suc i ≡ a + 1 + n = last_number (a + 1) n front i others in
    omega (arith, rest)
  where
    tail_is : (x y : ℕ) (xs ys : List ℕ) → x ∷ xs ≡ y ∷ ys → xs ≡ ys
    tail_is x y xs ys e = cc

-- whether no blank line is kept behind these tokens
bare_behind : Bool → List Token → Bool
bare_behind bare [] = bare
bare_behind bare (t ∷ ts) = bare_behind (opens t.kind) ts

bare_last : (bare : Bool) (ts : List Token) (i : ℕ) (k : Kind) → kind_at ts i ≡ Some k → suc i ≡ length ts →
    bare_behind bare ts ≡ opens k
unfolding bare_behind
bare_last bare [] i k h e = cc
bare_last bare (t ∷ []) zero k h e = ap opens (by_kind t.kind h)
  where
    by_kind : (x : Kind) → Some x ≡ Some k → x ≡ k
    by_kind x z = cc
bare_last bare (t ∷ u ∷ ts) zero k h e = absurd (omega (arith, e))
bare_last bare (t ∷ ts) (suc i) k h e = bare_last (opens t.kind) ts i k h (omega (arith, e))

bare_not : (us : List Token) (f : Forest) → Treed us f → EndInDatum f → bare_behind true us ≡ false
bare_not us f h d =
    let last = forest_last us f h.formed d in
    let count : suc last.item ≡ 0 + length us =
    last_number 0 (length us) last.front last.item (sym last.items_are ∙ h.items_are) in
    bare_last true us last.item last.kind last.kind_is (count ∙ zero-add (length us)) ∙ last.no_opener

-- trees have a first item, which is no closer
record FirstItem (ts : List Token) (items : List ℕ) : Type 0 where
  item : ℕ
  rest : List ℕ
  kind : Kind
  items_are : items ≡ item ∷ rest
  kind_is : kind_at ts item ≡ Some kind
  no_closer : closes kind ≡ false

whole_closes_not : (k : Kind) → is_whole k ≡ true → closes k ≡ false
whole_closes_not (Closer b) h = absurd (false≢true h)
whole_closes_not _ h = refl

remark_closes_not : (k : Kind) → is_remark k ≡ true → closes k ≡ false
remark_closes_not (Closer b) h = absurd (false≢true h)
remark_closes_not _ h = refl

first_of_all : (ts : List Token) (item : ℕ) (rest : List ℕ) (k : Kind) → kind_at ts item ≡ Some k →
    closes k ≡ false → FirstItem ts (item ∷ rest)
first_of_all ts item rest k h c =
    record { item = item; rest = rest; kind = k; items_are = refl; kind_is = h; no_closer = c }

forest_first : (ts : List Token) (t : Tree) (f : Forest) → IsFormed ts t → FirstItem ts (forest_items (Then t f))
unfolding IsFormed tree_items
forest_first ts (Leaf item) f h = first_of_all ts item _ h.0 h.1 (whole_closes_not h.0 h.2)
forest_first ts (Point item) f h = first_of_all ts item _ Dot h refl
forest_first ts (Comment item) f h = first_of_all ts item _ h.0 h.1 (remark_closes_not h.0 h.2)
forest_first ts (Prefixed item lead inner) f h = first_of_all ts item _ Prefix h.0 refl
forest_first ts (DatumComment item lead inner) f h = first_of_all ts item _ Skip h.0 refl
forest_first ts (Listed opener entries closer) f h = first_of_all ts opener _ (Opener h.0) h.1 refl

-- where there is an item, there are trees; so the first item is no closer
pub no_trees : (t : Token) (ts : List Token) → Treed (t ∷ ts) Empty → ⊥
unfolding forest_items
no_trees t ts h = none h.items_are
  where
    none : forest_items Empty ≡ range_with_len 0 (length (t ∷ ts)) → ⊥
    none e = cc

closes_not : (v : Token) (vs : List Token) (g : Forest) → Treed (v ∷ vs) g → closes v.kind ≡ false
unfolding forest_items AreFormed
closes_not v vs Empty h = absurd (no_trees v vs h)
closes_not v vs (Then t g) h = by_first (forest_first (v ∷ vs) t g (first_formed h.formed))
  where
    first_formed : AreFormed (v ∷ vs) (Then t g) → IsFormed (v ∷ vs) t
    first_formed k = k.0

    head_is : (x y : ℕ) (xs ys : List ℕ) → x ∷ xs ≡ y ∷ ys → x ≡ y
    head_is x y xs ys e = cc

    by_kind : (x k : Kind) → Some x ≡ Some k → closes k ≡ false → closes x ≡ false
    by_kind x k e c = cc

    by_first : FirstItem (v ∷ vs) (forest_items (Then t g)) → closes v.kind ≡ false
    by_first first =
        let zeroth : first.item ≡ 0 =
        head_is first.item 0 first.rest (range_with_len (0 + 1) (length vs)) (sym first.items_are ∙ h.items_are) in
        by_kind v.kind first.kind (ap (λ i. kind_at (v ∷ vs) i) (sym zeroth) ∙ first.kind_is) first.no_closer

-- tokens one behind the other, and tokens further on, as they are settled
settled_behind : (bare : Bool) (most : ℕ) (us ws : List Token) →
    settled bare most (us ++ ws) ≡ settled bare most us ++ settled (bare_behind bare us) most ws
unfolding bare_behind
settled_behind bare most [] ws = refl
settled_behind bare most (u ∷ us) ws =
    ap (λ ts. with_blanks u (if bare || closes u.kind then 0 else min u.blanks most) ∷ ts)
    (settled_behind (opens u.kind) most us ws)

settled_further : (n : ℕ) (bare : Bool) (most : ℕ) (ts : List Token) →
    settled bare most (map (further n) ts) ≡ map (further n) (settled bare most ts)
settled_further n bare most [] = refl
settled_further n bare most (t ∷ ts) =
    ap (λ us. further n (with_blanks t (if bare || closes t.kind then 0 else min t.blanks most)) ∷ us)
    (settled_further n (opens t.kind) most ts)

-- what is kept of a text behind another one, with the blank lines before it
abbrev kept_second : StyleView → Token → List Token → List Token
kept_second style v vs = with_blanks v (min v.blanks style.blanks) ∷ settled (opens v.kind) style.blanks vs

-- what is kept of both texts: what is kept of the first, and what is kept of the second, with the blank lines before it
kept_joined : (style : StyleView) (n : ℕ) (us vs : List Token) (v : Token) (f g : Forest) → Treed us f →
    EndInDatum f → Treed (v ∷ vs) g →
    kept style (joined n us (v ∷ vs))
    ≡ kept style us ++ map (further n) (kept_second style v vs)
kept_joined style n us vs v f g h d k =
    settled_behind true style.blanks us (map (further n) (v ∷ vs))
    ∙ ap (λ ts. kept style us ++ ts)
    (settled_further n (bare_behind true us) style.blanks (v ∷ vs)
    ∙ ap (λ (b : Bool). map (further n) (settled b style.blanks (v ∷ vs))) (bare_not us f h d)
    ∙ ap (λ (b : Bool). map (further n) (with_blanks v (if b then 0 else min v.blanks style.blanks)
    ∷ settled (opens v.kind) style.blanks vs)) (closes_not v vs g k))

pub stands_first : (style : StyleView) (n : ℕ) (us vs : List Token) (v : Token) (f g : Forest) → Treed us f →
    EndInDatum f → Treed (v ∷ vs) g → (i : ℕ) (t : Token) → slice_get (kept style us) i ≡ Some t →
    slice_get (kept style (joined n us (v ∷ vs))) (0 + i) ≡ Some t
stands_first style n us vs v f g h d k i t e =
    ap (λ m. slice_get (kept style (joined n us (v ∷ vs))) m) (zero-add i)
    ∙ ap (λ ts. slice_get ts i) (kept_joined style n us vs v f g h d k)
    ∙ slice_get-append (kept style us) (map (further n) (kept_second style v vs)) i t e

-- an item of the second text stands behind all the items of the first
kept_behind : (style : StyleView) (n : ℕ) (us vs : List Token) (v : Token) (f g : Forest) → Treed us f →
    EndInDatum f → Treed (v ∷ vs) g → (i : ℕ) →
    slice_get (kept style (joined n us (v ∷ vs))) (length us + i)
    ≡ option_map (further n) (slice_get (kept_second style v vs) i)
kept_behind style n us vs v f g h d k i =
    let behind : List Token = kept_second style v vs in
    ap (λ ts. slice_get ts (length us + i)) (kept_joined style n us vs v f g h d k)
    ∙ ap (λ m. slice_get (kept style us ++ map (further n) behind) (m + i)) (sym (length-settled true style.blanks us))
    ∙ get_behind (kept style us) (map (further n) behind) i
    ∙ slice_get-map (further n) behind i

pub stands_behind : (style : StyleView) (n : ℕ) (us vs : List Token) (v : Token) (f g : Forest) → Treed us f →
    EndInDatum f → Treed (v ∷ vs) g → (i : ℕ) (t : Token) → slice_get (kept style (v ∷ vs)) i ≡ Some t →
    (u : Token) × (slice_get (kept style (joined n us (v ∷ vs))) (length us + i) ≡ Some u) × (u.kind ≡ t.kind)
    × (u.spelling ≡ t.spelling) × (u.own_line ≡ t.own_line) × (i ≢ 0 → u.blanks ≡ t.blanks)
stands_behind style n us vs v f g h d k zero t e =
    let same : with_blanks v 0 ≡ t = cc in (
      further n (with_blanks v (min v.blanks style.blanks)),
      kept_behind style n us vs v f g h d k zero,
      ap (λ w. w.kind) same,
      ap (λ w. w.spelling) same,
      ap (λ w. w.own_line) same,
      λ some. absurd (some refl),
    )
stands_behind style n us vs v f g h d k (suc i) t e = (
  further n t,
  kept_behind style n us vs v f g h d k (suc i) ∙ ap (λ o. option_map (further n) o) e,
  refl,
  refl,
  refl,
  λ some. refl,
)

pub first_behind : (style : StyleView) (n : ℕ) (us vs : List Token) (v : Token) (f g : Forest) → Treed us f →
    EndInDatum f → Treed (v ∷ vs) g →
    blanks_before (slice_get (kept style (joined n us (v ∷ vs))) (length us)) ≡ min v.blanks style.blanks
first_behind style n us vs v f g h d k =
    ap (λ m. blanks_before (slice_get (kept style (joined n us (v ∷ vs))) m)) (sym (add-zero (length us)))
    ∙ ap blanks_before (kept_behind style n us vs v f g h d k 0)

-- there are entries, and the last of them is no comment
abbrev EndsInDatum : {A : Type 0} → List (Entry A) → Type 0
EndsInDatum [] = ⊥
EndsInDatum (e ∷ []) = is_comment e.sort ≡ false
EndsInDatum (e ∷ f ∷ entries) = EndsInDatum (f ∷ entries)

-- what is put before slots leaves those behind the first
unless_behind : {A : Type 0} (leads : List (Entry A)) (key datum trailing : Option (Entry A))
    (slots others : List (Slot A)) →
    unless_empty leads key datum trailing (slots ++ others) ≡ unless_empty leads key datum trailing slots ++ others
unless_behind [] None None trailing slots others = refl
unless_behind _ _ _ trailing slots others = refl

datum_behind : {A : Type 0} (e : Entry A) (s : Slot A) (slots others : List (Slot A)) →
    behind_datum e (s ∷ (slots ++ others)) ≡ behind_datum e (s ∷ slots) ++ others
datum_behind e s slots others = by_leads s.leads
  where
    by_sort : (sort : Sort) (c : Entry _) (leads : List (Entry _)) →
        trailed_by sort e c leads s (slots ++ others) ≡ trailed_by sort e c leads s slots ++ others
    by_sort (Remark true) c leads =
        ap (λ ss. slot [] None (Some e) (Some c) ∷ ss) (unless_behind leads s.key s.datum s.trailing slots others)
    by_sort (Remark false) c leads = refl
    by_sort Keyword c leads = refl
    by_sort Dotted c leads = refl
    by_sort Datum c leads = refl

    by_leads : (leads : List (Entry _)) →
        before_leads e leads s (slots ++ others) ≡ before_leads e leads s slots ++ others
    by_leads [] = refl
    by_leads (c ∷ leads) = by_sort c.sort c leads

put_behind : {A : Type 0} (sort : Sort) (e : Entry A) (slots others : List (Slot A)) → slots ≢ [] →
    put_by false sort e (slots ++ others) ≡ put_by false sort e slots ++ others
put_behind sort e [] others some = absurd (some refl)
put_behind (Remark trailing) e (s ∷ slots) others some = refl
put_behind Keyword e (s ∷ slots) others some = datum_behind e s slots others
put_behind Dotted e (s ∷ slots) others some = datum_behind e s slots others
put_behind Datum e (s ∷ slots) others some = datum_behind e s slots others

-- a datum stands alone before what is no comment on its line
stands_alone : {A : Type 0} (e : Entry A) (others : List (Entry A)) → is_comment e.sort ≡ false →
    BeginsNot (Remark true) others → slots_of false (e ∷ others) ≡ alone e (slots_of false others)
stands_alone e others c n =
    sym (cut_slots_of false (e ∷ others) (alone e (slots_of false others))
    (others, refl, tt, c, tt, (n, λ no. absurd (false≢true no)), slots_of_cut false others))

pub some_slots : {A : Type 0} (e : Entry A) (entries : List (Entry A)) → slots_of false (e ∷ entries) ≢ []
some_slots e entries z =
    let none : e ∷ entries ≡ [] =
    subst (λ (slots : List (Slot _)). AreSlots false (e ∷ entries) slots) z (slots_of_cut false (e ∷ entries)) in
    cc

-- slots of entries that end in a datum, and of others, the first of which is no comment on its line, are those of both
cut_behind : {A : Type 0} (entries others : List (Entry A)) → EndsInDatum entries → BeginsNot (Remark true) others →
    slots_of false (entries ++ others) ≡ slots_of false entries ++ slots_of false others
unfolding slots_of
cut_behind [] others last n = absurd last
cut_behind (e ∷ []) others last n =
    stands_alone e others last n ∙ ap (λ ss. ss ++ slots_of false others) (sym (stands_alone e [] last tt))
cut_behind (e ∷ f ∷ entries) others last n =
    ap (λ ss. put_by false e.sort e ss) (cut_behind (f ∷ entries) others last n)
    ∙ put_behind e.sort e (slots_of false (f ∷ entries)) (slots_of false others) (some_slots f entries)

-- trees that end in a datum do so as entries
datum_plain : (o : Option Token) → is_comment (datum_of o) ≡ false
datum_plain None = refl
datum_plain (Some t) = by_kind (is_keyword_of t.kind t.spelling)
  where
    by_kind : (b : Bool) → is_comment (keyword_or_datum b) ≡ false
    by_kind true = refl
    by_kind false = refl

sort_plain : (ts : List Token) (t : Tree) → IsDatum t → is_comment (sort_of ts t) ≡ false
sort_plain ts (Leaf item) d = datum_plain (slice_get ts item)
sort_plain ts (Comment item) d = cc
sort_plain ts (DatumComment item lead inner) d = cc
sort_plain ts _ d = refl

entries_end : (ts : List Token) (f : Forest) → EndInDatum f → EndsInDatum (entries_of ts f)
entries_end ts Empty d = d
entries_end ts (Then t Empty) d = sort_plain ts t d
entries_end ts (Then t (Then u f)) d = entries_end ts (Then u f) d

-- the first item's tree is no comment on its line, if the item isn't
sort_begins : (ts : List Token) (v : Token) (t : Tree) (f : Forest) (n : ℕ) → slice_get ts 0 ≡ Some v →
    trails v ≡ false → forest_items (Then t f) ≡ range_with_len 0 n → sort_of ts t ≢ Remark true
unfolding tree_items
sort_begins ts v (Leaf item) f n first plain e z =
    false≢true (sym (datum_plain (slice_get ts item)) ∙ ap is_comment z)
sort_begins ts v (Comment item) f zero first plain e z = cc
sort_begins ts v (Comment item) f (suc n) first plain e z =
    let same : item ≡ 0 = cc in
    let there : Remark (trails v) ≡ Remark true =
    ap remark_of (sym first ∙ ap (λ i. slice_get ts i) (sym same)) ∙ z in
    by_trails (trails v) plain there
  where
    by_trails : (b : Bool) → b ≡ false → Remark b ≡ Remark true → ⊥
    by_trails true p q = cc
    by_trails false p q = cc
sort_begins ts v _ f n first plain e z = cc

entries_begin : (n : ℕ) (ts : List Token) (v : Token) (g : Forest) → slice_get ts 0 ≡ Some v → trails v ≡ false →
    Treed ts g → BeginsNot (Remark true) (map (map_entry (moved n)) (entries_of ts g))
entries_begin n ts v Empty first plain h = tt
entries_begin n ts v (Then t g) first plain h = sort_begins ts v t g (length ts) first plain h.items_are

-- trees as entries, where their items are carried to
sort_carried : (n : ℕ) (ts us : List Token) (t : Tree) → Carried n ts us → IsFormed ts t →
    sort_of us (moved n t) ≡ sort_of ts t
unfolding moved IsFormed
sort_carried n ts us (Leaf item) c h =
    let t = token_at ts item h.0 h.1 in
    let u = c item t.0 t.1 in
    ap datum_of u.1
    ∙ rw (u.2, u.3) refl
    ∙ ap datum_of (sym t.1)
sort_carried n ts us (Comment item) c h =
    let t = token_at ts item h.0 h.1 in
    let u = c item t.0 t.1 in
    ap remark_of u.1
    ∙ rw (u.2, u.4) refl
    ∙ ap remark_of (sym t.1)
sort_carried n ts us _ c h = refl

entries_carried : (n : ℕ) (ts us : List Token) (f : Forest) → Carried n ts us → AreFormed ts f →
    entries_of us (all_moved n f) ≡ map (map_entry (moved n)) (entries_of ts f)
unfolding moved AreFormed
entries_carried n ts us Empty c h = refl
entries_carried n ts us (Then t f) c h =
    rw (sort_carried n ts us t c h.0, entries_carried n ts us f c h.1) refl

entries_stay : (es : List (Entry Tree)) → map (map_entry (moved 0)) es ≡ es
entries_stay [] = refl
entries_stay (e ∷ es) = rw (moved_none e.what, entries_stay es) refl

-- trees as items are kept
pub treed_kept : (style : StyleView) (ts : List Token) (f : Forest) → Treed ts f → Treed (kept style ts) f
treed_kept style ts f h =
    Treed-alike ts (kept style ts) f (alike-back (kept style ts) ts (read_alike ts style.blanks)) h

pub slots_joined : (style : StyleView) (n : ℕ) (us vs : List Token) (v : Token) (f g : Forest) → Treed us f →
    EndInDatum f → Treed (v ∷ vs) g → trails v ≡ false →
    top_slots (kept style (joined n us (v ∷ vs))) (followed_by f (all_moved (length us) g))
    ≡ top_slots (kept style us) f ++ map (moved_slot (length us)) (top_slots (kept style (v ∷ vs)) g)
slots_joined style n us vs v f g h d k plain =
    let all : List Token = kept style (joined n us (v ∷ vs)) in
    let first : List Token = kept style us in
    let behind : List Token = kept style (v ∷ vs) in
    let carried : Carried 0 first all =
    λ i t e. (t, stands_first style n us vs v f g h d k i t e, refl, refl, refl) in
    let moves : Carried (length us) behind all =
    λ i t e. let u = stands_behind style n us vs v f g h d k i t e in (u.0, u.1, u.2, u.3, u.4) in
    let begins : entries_of all f ≡ entries_of first f =
    ap (entries_of all) (sym (all_moved_none f))
    ∙ entries_carried 0 first all f carried (treed_kept style us f h).formed
    ∙ entries_stay (entries_of first f) in
    let others : List (Entry Tree) = entries_of behind g in
    let ends : entries_of all (all_moved (length us) g) ≡ map (map_entry (moved (length us))) (entries_of behind g) =
    entries_carried (length us) behind all g moves (treed_kept style (v ∷ vs) g k).formed in
    ap (slots_of false) (entries_behind all f (all_moved (length us) g) ∙ rw (begins, ends) refl)
    ∙ cut_behind (entries_of first f) (map (map_entry (moved (length us))) others) (entries_end first f d)
    (entries_begin (length us) behind (with_blanks v 0) g refl plain (treed_kept style (v ∷ vs) g k))
    ∙ ap (λ ss. slots_of false (entries_of first f) ++ ss) (slots_of_map (moved (length us)) false others)
