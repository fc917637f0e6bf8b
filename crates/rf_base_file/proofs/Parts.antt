-- Parts of a sequence have the strands of their items, which are told by their numbers.
use Rattle.std.proofs.Common.{◌≡◌, ℕ, Bool, List, [], ◌∷◌, ◌++◌, map, slice_get, refl, sym, ap, ◌∙◌, subst, append_assoc, append-nil}
use Rattle.rf_base_grammar.specs.Token.{Token}
use Rattle.rf_base_style.specs.declared.columns.Columns.{Columns}
use Rattle.rf_base_tree.specs.declared.separators.Want.{Want}
use Rattle.rf_base_tree.specs.Trees.{spelling_at}
use Rattle.rf_base_file.specs.Rows.{Part, part, item_doc, gap_docs, Step, steps_docs, steps_last, row_docs, steps_wanting}
use Rattle.rf_base_file.specs.Signature.{Strand, Drawn, Signed}
use Rattle.rf_base_file.specs.Strands.{spelling_strands}
use Rattle.rf_base_file.proofs.Signatures.{SignedParts, SignedParts-nil, SignedParts-cons, SignedParts-append}
use Rattle.rf_base_file.proofs.GapStrands.{spelling-signed, gap_between, docs_between-signed}

-- the strands of the item of this number
unfoldable pub item_strands : List Token → ℕ → List Strand
item_strands ts n = spelling_strands (spelling_at ts n)

-- the strands of the gap between the items of these numbers
unfoldable pub gap_at : List Token → ℕ → ℕ → List Strand
gap_at ts n m = gap_between (slice_get ts n) (slice_get ts m)

-- what stands behind item n: a gap and an item, for each of these numbers
unfoldable pub behind : List Token → ℕ → List ℕ → List Strand
behind ts n [] = []
behind ts n (m ∷ ms) = gap_at ts n m ++ (item_strands ts m ++ behind ts m ms)

-- the last of these numbers
unfoldable pub last_of : ℕ → List ℕ → ℕ
last_of n [] = n
last_of n (m ∷ ms) = last_of m ms

pub last_of-append : (n : ℕ) (ms ks : List ℕ) → last_of n (ms ++ ks) ≡ last_of (last_of n ms) ks
unfolding last_of
last_of-append n [] ks = refl
last_of-append n (m ∷ ms) ks = last_of-append m ms ks

-- the numbers behind others
pub behind-append : (ts : List Token) (n : ℕ) (ms ks : List ℕ) →
    behind ts n (ms ++ ks) ≡ behind ts n ms ++ behind ts (last_of n ms) ks
unfolding behind last_of
behind-append ts n [] ks = refl
behind-append ts n (m ∷ ms) ks =
    ap (λ xs. gap_at ts n m ++ (item_strands ts m ++ xs)) (behind-append ts m ms ks)
    ∙ ap (λ xs. gap_at ts n m
    ++ xs) (sym (append_assoc (item_strands ts m) (behind ts m ms) (behind ts (last_of m ms) ks)))
    ∙ sym (append_assoc (gap_at ts n m) (item_strands ts m ++ behind ts m ms) (behind ts (last_of m ms) ks))

-- what stands between items of these numbers has the strands of their gap
pub gap-signed : (ts : List Token) (n m : ℕ) (w : Want) (i : ℕ) (flat : Bool) →
    SignedParts (gap_docs ts n m w) i flat (gap_at ts n m)
unfolding gap_at
gap-signed ts n m w i flat = docs_between-signed (slice_get ts n) (slice_get ts m) w i flat

-- the items of the numbers first and later
unfoldable pub items_strands : List Token → ℕ → List ℕ → List Strand
items_strands ts first later = item_strands ts first ++ behind ts first later

-- the part stands for these items, and its document has their strands
pub record PartSigned (ts : List Token) (p : Part) (items : List ℕ) : Type 0 where
  pub later : List ℕ
  pub items_are : items ≡ p.first ∷ later
  pub last_is : last_of p.first later ≡ p.last
  pub signed : (i : ℕ) (flat : Bool) → Signed p.doc i flat (items_strands ts p.first later)

-- an item stands for itself
pub item_part-signed : (columns : Columns) (ts : List Token) (item : ℕ) →
    PartSigned ts (part item item (item_doc columns ts item)) (item ∷ [])
unfolding last_of items_strands behind item_strands
item_part-signed columns ts item = record {
  later = [];
  items_are = refl;
  last_is = refl;
  signed =
      λ i flat. subst (λ (xs : List Strand). Signed (item_doc columns ts item) i flat xs)
      (sym (append-nil (item_strands ts item))) (spelling-signed columns (spelling_at ts item) i flat);
}

pub item-signed : (columns : Columns) (ts : List Token) (item i : ℕ) (flat : Bool) →
    Signed (item_doc columns ts item) i flat (item_strands ts item)
unfolding item_strands
item-signed columns ts item i flat = spelling-signed columns (spelling_at ts item) i flat

-- what stands in a row stands for these items, each for some of them
unfoldable pub Sections : {A : Type 0} → (A → List ℕ → Type 0) → List A → List ℕ → Type 0
Sections Stands [] items = items ≡ []
Sections Stands (x ∷ xs) items =
    (front : List ℕ) × (rest : List ℕ) × (items ≡ front ++ rest) × Stands x front × Sections Stands xs rest

pub Sections-cons : {A : Type 0} (Stands : A → List ℕ → Type 0) (x : A) (xs : List A) (front rest : List ℕ) →
    Stands x front → Sections Stands xs rest → Sections Stands (x ∷ xs) (front ++ rest)
unfolding Sections
Sections-cons Stands x xs front rest h k = (front, rest, refl, h, k)

pub Sections-append : {A : Type 0} (Stands : A → List ℕ → Type 0) (xs others : List A) (front rest : List ℕ) →
    Sections Stands xs front → Sections Stands others rest → Sections Stands (xs ++ others) (front ++ rest)
unfolding Sections
Sections-append Stands [] others front rest h k = rw h k
Sections-append Stands (x ∷ xs) others front rest h k = (
  h.0,
  h.1 ++ rest,
  ap (λ ys. ys ++ rest) h.2 ∙ append_assoc h.0 h.1 rest,
  h.3,
  Sections-append Stands xs others h.1 rest h.4 k,
)

-- a row cut in two
pub record SectionsCut {A : Type 0} (Stands : A → List ℕ → Type 0) (xs others : List A) (items : List ℕ) : Type 0 where
  pub front : List ℕ
  pub rest : List ℕ
  pub items_are : items ≡ front ++ rest
  pub first : Sections Stands xs front
  pub second : Sections Stands others rest

pub Sections-cut : {A : Type 0} (Stands : A → List ℕ → Type 0) (xs others : List A) (items : List ℕ) →
    Sections Stands (xs ++ others) items → SectionsCut Stands xs others items
unfolding Sections
Sections-cut Stands [] others items h = record { front = []; rest = items; items_are = refl; first = refl; second = h }
Sections-cut Stands (x ∷ xs) others items h =
    let cut = Sections-cut Stands xs others h.1 h.4 in
    record {
      front = h.0 ++ cut.front;
      rest = cut.rest;
      items_are = h.2 ∙ ap (λ ys. h.0 ++ ys) cut.items_are ∙ sym (append_assoc h.0 cut.front cut.rest);
      first = (h.0, cut.front, refl, h.3, cut.first);
      second = cut.second;
    }

-- the parts stand for these items, one after another
abbrev pub PartsSigned : List Token → List Part → List ℕ → Type 0
PartsSigned ts parts items = Sections (PartSigned ts) parts items

pub PartsSigned-one : (ts : List Token) (p : Part) (items : List ℕ) → PartSigned ts p items →
    PartsSigned ts (p ∷ []) items
unfolding Sections
PartsSigned-one ts p items h = (items, [], sym (append-nil items), h, refl)

-- a part's last item, and what stands behind a part
pub part_last : (ts : List Token) (p : Part) (front : List ℕ) (n : ℕ) → PartSigned ts p front → last_of n front ≡ p.last
unfolding last_of
part_last ts p front n h = ap (last_of n) h.items_are ∙ h.last_is

pub part_then : (ts : List Token) (n : ℕ) (p : Part) (front rest : List ℕ) (h : PartSigned ts p front) →
    behind ts n (front ++ rest) ≡ gap_at ts n p.first ++ (items_strands ts p.first h.later ++ behind ts p.last rest)
unfolding behind items_strands
part_then ts n p front rest h =
    behind-append ts n front rest
    ∙ ap (λ m. behind ts n front ++ behind ts m rest) (part_last ts p front n h)
    ∙ ap (λ ms. behind ts n ms ++ behind ts p.last rest) h.items_are
    ∙ append_assoc (gap_at ts n p.first) (item_strands ts p.first ++ behind ts p.first h.later) (behind ts p.last rest)

-- the parts of steps
unfoldable pub step_parts : List Step → List Part
step_parts steps = map (λ s. s.part) steps

pub step_parts-wanting : (w : Want) (parts : List Part) → step_parts (steps_wanting w parts) ≡ parts
unfolding step_parts
step_parts-wanting w [] = refl
step_parts-wanting w (p ∷ parts) = ap (λ ps. p ∷ ps) (step_parts-wanting w parts)

-- steps have the strands of their items, with a gap before each
pub steps-signed : (ts : List Token) (n : ℕ) (steps : List Step) (items : List ℕ) (i : ℕ) (flat : Bool) →
    PartsSigned ts (step_parts steps) items →
    SignedParts (steps_docs ts n steps) i flat (behind ts n items)
unfolding steps_docs step_parts Sections behind Drawn
steps-signed ts n [] items i flat h = rw h (SignedParts-nil i flat [] refl)
steps-signed ts n (s ∷ steps) items i flat h =
    let p : Part = s.part in
    let here : PartSigned ts p h.0 = h.3 in
    let strands : List Strand = items_strands ts p.first here.later in
    subst (λ (xs : List Strand). SignedParts (steps_docs ts n (s ∷ steps)) i flat xs)
    (sym (ap (behind ts n) h.2 ∙ part_then ts n p h.0 h.1 here))
    (SignedParts-append (gap_docs ts n p.first s.want) (p.doc ∷ steps_docs ts p.last steps) i flat (gap_at ts n p.first)
    (strands ++ behind ts p.last h.1)
    (gap-signed ts n p.first s.want i flat)
    (SignedParts-cons p.doc (steps_docs ts p.last steps) i flat strands (behind ts p.last h.1) (here.signed i flat)
    (steps-signed ts p.last steps h.1 i flat h.4)))

-- the last item of steps
pub steps_last-is : (ts : List Token) (n : ℕ) (steps : List Step) (items : List ℕ) →
    PartsSigned ts (step_parts steps) items → last_of n items ≡ steps_last n steps
unfolding steps_last step_parts Sections last_of
steps_last-is ts n [] items h = ap (last_of n) h
steps_last-is ts n (s ∷ steps) items h =
    ap (last_of n) h.2 ∙ last_of-append n h.0 h.1 ∙ ap (λ m. last_of m h.1) (part_last ts s.part h.0 n h.3)
    ∙ steps_last-is ts s.part.last steps h.1 h.4

-- a row: a part, and the steps behind it
pub record RowSigned (ts : List Token) (s : Step) (steps : List Step) (items : List ℕ) : Type 0 where
  pub later : List ℕ
  pub items_are : items ≡ s.part.first ∷ later
  pub last_is : last_of s.part.first later ≡ steps_last s.part.last steps
  pub signed : (i : ℕ) (flat : Bool) →
      SignedParts (row_docs ts (s ∷ steps)) i flat (items_strands ts s.part.first later)

pub row-signed : (ts : List Token) (s : Step) (steps : List Step) (items : List ℕ) →
    PartsSigned ts (step_parts (s ∷ steps)) items → RowSigned ts s steps items
unfolding step_parts Sections items_strands
row-signed ts s steps items h =
    let p : Part = s.part in
    let here : PartSigned ts p h.0 = h.3 in
    let whole : items_strands ts p.first (here.later ++ h.1)
    ≡ items_strands ts p.first here.later ++ behind ts p.last h.1 =
    ap (λ xs. item_strands ts p.first ++ xs)
    (behind-append ts p.first here.later h.1 ∙ ap (λ m. behind ts p.first here.later ++ behind ts m h.1) here.last_is)
    ∙ sym (append_assoc (item_strands ts p.first) (behind ts p.first here.later) (behind ts p.last h.1)) in
    record {
      later = here.later ++ h.1;
      items_are = h.2 ∙ ap (λ xs. xs ++ h.1) here.items_are;
      last_is =
          last_of-append p.first here.later h.1 ∙ ap (λ m. last_of m h.1) here.last_is
          ∙ steps_last-is ts p.last steps h.1 h.4;
      signed = λ i flat. subst (λ (xs : List Strand). SignedParts (row_docs ts (s ∷ steps)) i flat xs) (sym whole)
          (SignedParts-cons p.doc (steps_docs ts p.last steps) i flat (items_strands ts p.first here.later)
          (behind ts p.last h.1) (here.signed i flat)
          (steps-signed ts p.last steps h.1 i flat h.4));
    }
