-- Slots: what stands together on a line of a list or of the file.
use Rattle.std.specs.Prelude.{ℕ, ◌≡◌, ◌≢◌, ◌&&◌, Bool, true, false, Option, None, Some, List, [], ◌∷◌, ◌++◌, slice_get, codes, ⊤}
use Rattle.std.specs.List.{AllByRecursion}
use Rattle.rf_base_grammar.specs.Reader.{begins}
use Rattle.rf_base_grammar.specs.Token.{Token}
use Rattle.rf_base_grammar.specs.Woven.{trails}
use Rattle.rf_base_grammar.specs.declared.kinds.Kind.{Kind}
use Rattle.rf_base_grammar.specs.declared.kinds.Kind.TheVariants.{Atom}
use Rattle.rf_base_tree.specs.Trees.{Tree, Leaf, Point, Comment, Prefixed, DatumComment, Listed, Forest, Empty, Then}

-- what stands at one place of a list or of the file, as slots see it: a comment, and whether it stands behind another
-- item on its line; a keyword; a dot; or any other datum
pub data Sort : Type 0 where
  Remark : (trailing : Bool) → Sort
  Keyword : Sort
  Dotted : Sort
  Datum : Sort

-- an entry: its sort, and what stands there
pub record Entry (A : Type 0) : Type 0 where
  pub sort : Sort
  pub what : A

-- a slot: comments, a key, a datum, and a comment behind it
pub record Slot (A : Type 0) : Type 0 where
  pub leads : List (Entry A)
  pub key : Option (Entry A)
  pub datum : Option (Entry A)
  pub trailing : Option (Entry A)

-- what is there, in front of others
abbrev pub perhaps : {X : Type 0} → Option X → List X → List X
perhaps None xs = xs
perhaps (Some x) xs = x ∷ xs

-- a slot's entries in order
abbrev pub slot_entries : {A : Type 0} → Slot A → List (Entry A)
slot_entries s = s.leads ++ perhaps s.key (perhaps s.datum (perhaps s.trailing []))

-- whether an entry of the sort is a comment
abbrev pub is_comment : Sort → Bool
is_comment (Remark trailing) = true
is_comment _ = false

-- whether an entry of the sort may be a key: a keyword or a dot
abbrev pub may_be_key : Sort → Bool
may_be_key Keyword = true
may_be_key Dotted = true
may_be_key _ = false

-- these are comments
abbrev pub AreLeads : {A : Type 0} → List (Entry A) → Type 0
AreLeads leads = AllByRecursion (λ e. is_comment e.sort ≡ true) leads

-- the key and the datum: in a list a keyword or a dot, and a datum that is neither; or anything but a comment, without
-- a key; or neither, behind some comments
abbrev pub MayStandTogether : {A : Type 0} → Bool → List (Entry A) → Option (Entry A) → Option (Entry A) → Type 0
MayStandTogether in_list leads (Some key) (Some datum) =
    (in_list ≡ true) × (may_be_key key.sort ≡ true) × (datum.sort ≡ Datum)
MayStandTogether in_list leads None (Some datum) = is_comment datum.sort ≡ false
MayStandTogether in_list leads None None = leads ≢ []
MayStandTogether in_list leads (Some key) None = ⊥

-- a comment stands behind the datum on its line, or none does
abbrev pub MayTrail : {A : Type 0} → Option (Entry A) → Option (Entry A) → Type 0
MayTrail datum None = ⊤
MayTrail None (Some comment) = ⊥
MayTrail (Some datum) (Some comment) = comment.sort ≡ Remark true

-- the first of the entries isn't of this sort
abbrev pub BeginsNot : {A : Type 0} → Sort → List (Entry A) → Type 0
BeginsNot sort [] = ⊤
BeginsNot sort (e ∷ entries) = e.sort ≢ sort

-- no entry stands behind comments without a datum; behind a datum without a comment on its line stands none; and in a
-- list no datum stands behind a keyword or a dot that is a datum itself
abbrev pub MayEnd : {A : Type 0} → Bool → Option (Entry A) → Option (Entry A) → Option (Entry A) → List (Entry A) →
    Type 0
MayEnd in_list key None trailing after = after ≡ []
MayEnd in_list key (Some datum) (Some comment) after = ⊤
MayEnd in_list (Some key) (Some datum) None after = BeginsNot (Remark true) after
MayEnd in_list None (Some datum) None after =
    BeginsNot (Remark true) after × ((in_list && may_be_key datum.sort) ≡ true → BeginsNot Datum after)

-- the entries are cut into these slots
abbrev pub AreSlots : {A : Type 0} → Bool → List (Entry A) → List (Slot A) → Type 0
AreSlots in_list entries [] = entries ≡ []
AreSlots in_list entries (s ∷ slots) =
    (after : List (Entry _)) × (entries ≡ slot_entries s ++ after) × AreLeads s.leads
    × MayStandTogether in_list s.leads s.key s.datum × MayTrail s.datum s.trailing
    × MayEnd in_list s.key s.datum s.trailing after × AreSlots in_list after slots

-- the sort of a comment, and of a datum of one item
abbrev pub remark_of : Option Token → Sort
remark_of None = Remark false
remark_of (Some t) = Remark (trails t)

abbrev pub is_keyword_of : Kind → List ℕ → Bool
is_keyword_of Atom spelling = begins (codes "#:") spelling
is_keyword_of _ spelling = false

abbrev pub keyword_or_datum : Bool → Sort
keyword_or_datum true = Keyword
keyword_or_datum false = Datum

abbrev pub datum_of : Option Token → Sort
datum_of None = Datum
datum_of (Some t) = keyword_or_datum (is_keyword_of t.kind t.spelling)

-- the sort of a tree
abbrev pub sort_of : List Token → Tree → Sort
sort_of ts (Leaf item) = datum_of (slice_get ts item)
sort_of ts (Point item) = Dotted
sort_of ts (Comment item) = remark_of (slice_get ts item)
sort_of ts (Prefixed item lead inner) = Datum
sort_of ts (DatumComment item lead inner) = Remark false
sort_of ts (Listed opener entries closer) = Datum

-- trees as entries
abbrev pub entries_of : List Token → Forest → List (Entry Tree)
entries_of ts Empty = []
entries_of ts (Then tree rest) = record { sort = sort_of ts tree; what = tree } ∷ entries_of ts rest
