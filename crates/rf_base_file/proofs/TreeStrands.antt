-- The document of a file has the strands of its items.
use Rattle.std.proofs.Common.{◌≡◌, ℕ, zero, suc, ◌+◌, min, inl, Bool, true, false, Option, Some, None, List, [], ◌∷◌, ◌++◌, length, map, slice_get, if◌then◌else◌, ◌||◌, refl, sym, ap, ◌∙◌, subst, append_assoc, option_map}
use Rattle.std.specs.List.{range_with_len}
use Rattle.std.proofs.Math.Numerals.{add-one}
use Rattle.rf_base_document.specs.Document.{Hard}
use Rattle.rf_base_grammar.specs.Token.{Token, with_blanks, opens, closes, settled, normal}
use Rattle.rf_base_grammar.specs.declared.kinds.Bracket.{Bracket}
use Rattle.rf_base_grammar.specs.declared.kinds.Kind.{Kind}
use Rattle.rf_base_grammar.specs.declared.kinds.Kind.TheVariants.{Opener, Closer}
use Rattle.rf_base_tree.specs.declared.separators.Want.TheVariants as want
use Rattle.rf_base_tree.specs.Trees.{Tree, Leaf, Point, Comment, Prefixed, DatumComment, Listed, Forest, Empty, Then, kind_at, spelling_at, tree_items, forest_items}
use Rattle.rf_base_style.specs.Table.{StyleView}
use Rattle.rf_base_tree.specs.Slots.{Entry, Slot, sort_of, entries_of}
use Rattle.rf_base_tree.specs.Cut.{slots_of}
use Rattle.rf_base_tree.specs.Formed.{IsFormed, AreFormed, Treed}
use Rattle.rf_base_tree.proofs.Cuts.{slots_of_cut, map_entry, map_slot, slots_of_map}
use Rattle.rf_base_file.specs.declared.shapes.Role.TheVariants.{Free}
use Rattle.rf_base_file.specs.declared.shapes.Roles.TheVariants.{AllFree}
use Rattle.rf_base_file.specs.declared.shapes.Way.{Way}
use Rattle.rf_base_file.specs.Rows.{Part, Step, steps_docs, steps_wanting, whats, slot_parts}
use Rattle.rf_base_file.specs.Ways.{Piece, part_in, slots_in, way_of, quoted_behind}
use Rattle.rf_base_file.specs.FileDocument.{is_vector, tree_piece, forest_entries, top_part, style_doc, file_docs, file_doc}
use Rattle.rf_base_file.specs.Signature.{Strand, Tight, Drawn, Signed}
use Rattle.rf_base_file.specs.Strands.{line_end, gap_strands, spelling_strands, strands_behind, file_strands}
use Rattle.rf_base_file.proofs.DrawnTexts.{Drawn-one}
use Rattle.rf_base_file.proofs.Signatures.{SignedParts, SignedParts-nil, SignedParts-cons, SignedParts-one, SignedParts-append, seq-signed}
use Rattle.rf_base_file.proofs.GapStrands.{gap_between}
use Rattle.rf_base_file.proofs.Parts.{item_strands, gap_at, behind, behind-append, items_strands, PartSigned, item_part-signed, Sections, Sections-cons, PartsSigned, steps-signed}
use Rattle.rf_base_file.proofs.SlotStrands.{PieceSigned, PiecesSigned, pieces-signed, slots-signed}
use Rattle.rf_base_file.proofs.ShapeStrands.{wanting-signed, list-signed, prefixed-signed}

-- no blank lines stand before what closes
pub AreBare : List Token → Type 0
AreBare ts = (n : ℕ) (t : Token) → slice_get ts n ≡ Some t → closes t.kind ≡ true → t.blanks ≡ 0

-- none stand before what closes in items that a layout keeps
closes_bare : (bare : Bool) (k : Kind) (blanks : ℕ) → closes k ≡ true → (if bare || closes k then 0 else blanks) ≡ 0
closes_bare true k blanks h = refl
closes_bare false k blanks h = ap (λ b. if b then 0 else blanks) h

pub settled_bare : (bare : Bool) (max : ℕ) (ts : List Token) → AreBare (settled bare max ts)
unfolding AreBare
settled_bare bare max [] n t e c = cc
settled_bare bare max (u ∷ ts) zero t e c =
    let b : ℕ = if bare || closes u.kind then 0 else min u.blanks max in
    let same : with_blanks u b ≡ t = cc in
    ap (λ (z : Token). z.blanks) (sym same)
    ∙ closes_bare bare u.kind (min u.blanks max) (ap (λ (z : Token). closes z.kind) same ∙ c)
settled_bare bare max (u ∷ ts) (suc n) t e c = settled_bare (opens u.kind) max ts n t e c

-- an item of a kind is there
kind_found : (o : Option Token) (k : Kind) → option_map (λ t. t.kind) o ≡ Some k →
    (t : Token) × (o ≡ Some t) × (t.kind ≡ k)
kind_found None k e = cc
kind_found (Some t) k e = (t, refl, cc)

-- nothing need stand between an opener and its closer
tight_between : (a c : Token) (b : Bracket) → a.kind ≡ Opener b → c.kind ≡ Closer b → c.blanks ≡ 0 →
    gap_strands a c ≡ Tight ∷ []
tight_between a c b h k n = rw (h, k, n) refl

tight_at : (ts : List Token) (opener closer : ℕ) (b : Bracket) → AreBare ts → kind_at ts opener ≡ Some (Opener b) →
    kind_at ts closer ≡ Some (Closer b) → gap_at ts opener closer ≡ Tight ∷ []
unfolding gap_at gap_between AreBare
tight_at ts opener closer b bare h k =
    let first = kind_found (slice_get ts opener) (Opener b) h in
    let last = kind_found (slice_get ts closer) (Closer b) k in
    let none : last.0.blanks ≡ 0 = bare closer last.0 last.1 (ap closes last.2) in
    rw (first.1, last.1) (tight_between first.0 last.0 b first.2 last.2 none)

empty_at : (ts : List Token) (opener closer : ℕ) (b : Bracket) → AreBare ts → kind_at ts opener ≡ Some (Opener b) →
    kind_at ts closer ≡ Some (Closer b) → Drawn (gap_at ts opener closer) []
empty_at ts opener closer b bare h k =
    subst (λ (xs : List Strand). Drawn xs []) (sym (tight_at ts opener closer b bare h k))
    (Drawn-one Tight [] (inl refl))

-- trees have the strands of their items, whatever they stand in
mutual
  unfolding tree_piece forest_entries tree_items forest_items IsFormed AreFormed Sections

  tree-signed : (style : StyleView) (ts : List Token) (t : Tree) → AreBare ts → IsFormed ts t →
      PieceSigned ts (tree_piece style ts t) (tree_items t)
  tree-signed style ts (Leaf item) bare h quoted role = item_part-signed style.columns ts item
  tree-signed style ts (Point item) bare h quoted role = item_part-signed style.columns ts item
  tree-signed style ts (Comment item) bare h quoted role = item_part-signed style.columns ts item
  tree-signed style ts (Prefixed item lead inner) bare h quoted role =
      let q : Bool = quoted_behind (spelling_at ts item) quoted in
      prefixed-signed ts item (map (part_in q Free) (whats (forest_entries style ts lead)))
      (part_in q Free (tree_piece style ts inner)) (forest_items lead) (tree_items inner)
      (pieces-signed ts q Free (whats (forest_entries style ts lead)) (forest_items lead)
      (forest-signed style ts lead bare h.1)) (tree-signed style ts inner bare h.3 q Free)
  tree-signed style ts (DatumComment item lead inner) bare h quoted role =
      prefixed-signed ts item (map (part_in quoted Free) (whats (forest_entries style ts lead)))
      (part_in quoted Free (tree_piece style ts inner)) (forest_items lead) (tree_items inner)
      (pieces-signed ts quoted Free (whats (forest_entries style ts lead)) (forest_items lead)
      (forest-signed style ts lead bare h.1)) (tree-signed style ts inner bare h.3 quoted Free)
  tree-signed style ts (Listed opener entries closer) bare h quoted role =
      let es : List (Entry Piece) = forest_entries style ts entries in
      let q : Bool = is_vector ts opener || quoted in
      let w : Way = way_of style.table q role (slots_of true es) in
      list-signed ts w opener (slot_parts ts (slots_in q w.roles (slots_of true es))) closer (forest_items entries)
      (empty_at ts opener closer h.0 bare h.1 h.3)
      (slots-signed ts true q w.roles es (slots_of true es) (forest_items entries) (slots_of_cut true es)
      (forest-signed style ts entries bare h.2))

  forest-signed : (style : StyleView) (ts : List Token) (f : Forest) → AreBare ts → AreFormed ts f →
      PiecesSigned ts (whats (forest_entries style ts f)) (forest_items f)
  forest-signed style ts Empty bare h = refl
  forest-signed style ts (Then t f) bare h =
      Sections-cons (PieceSigned ts) (tree_piece style ts t) (whats (forest_entries style ts f)) (tree_items t) (forest_items f)
      (tree-signed style ts t bare h.0) (forest-signed style ts f bare h.1)

-- the parts of the file's slots are those of slots of pieces
pub entries_are : (style : StyleView) (ts : List Token) (f : Forest) →
    forest_entries style ts f ≡ map (map_entry (tree_piece style ts)) (entries_of ts f)
unfolding forest_entries
entries_are style ts Empty = refl
entries_are style ts (Then tree rest) =
    ap (λ (es : List (Entry Piece)). record { sort = sort_of ts tree; what = tree_piece style ts tree } ∷ es)
    (entries_are style ts rest)

pub tops_mapped : (style : StyleView) (ts : List Token) (slots : List (Slot Tree)) →
    map (top_part style ts) slots ≡ slot_parts ts (slots_in false AllFree (map (map_slot (tree_piece style ts)) slots))
unfolding style_doc slots_in
tops_mapped style ts [] = refl
tops_mapped style ts (s ∷ slots) = ap (λ (ps : List Part). top_part style ts s ∷ ps) (tops_mapped style ts slots)

-- the slots of trees are those of pieces
pub slots_are : (style : StyleView) (ts : List Token) (in_list : Bool) (f : Forest) →
    map (map_slot (tree_piece style ts)) (slots_of in_list (entries_of ts f))
    ≡ slots_of in_list (forest_entries style ts f)
slots_are style ts in_list f =
    sym (ap (slots_of in_list) (entries_are style ts f) ∙ slots_of_map (tree_piece style ts) in_list (entries_of ts f))

pub tops_are : (style : StyleView) (ts : List Token) (trees : Forest) →
    map (top_part style ts) (slots_of false (entries_of ts trees))
    ≡ slot_parts ts (slots_in false AllFree (slots_of false (forest_entries style ts trees)))
tops_are style ts trees =
    tops_mapped style ts (slots_of false (entries_of ts trees))
    ∙ ap (λ (ss : List (Slot Piece)). slot_parts ts (slots_in false AllFree ss))
    (sym (ap (slots_of false) (entries_are style ts trees) ∙ slots_of_map (tree_piece style ts) false
    (entries_of ts trees)))

-- the strands of the items of these numbers, and a line end behind the last
numbers_strands : List Token → List ℕ → List Strand
numbers_strands ts [] = []
numbers_strands ts (n ∷ ns) = items_strands ts n ns ++ line_end ∷ []

-- the hard newline at a file's end is a line end
end_signed : SignedParts (Hard ∷ []) 0 false (line_end ∷ [])
unfolding Signed
end_signed = SignedParts-one Hard 0 false (line_end ∷ []) (Drawn-one line_end (10 ∷ []) refl)

-- a file's slots have the strands of their items, and a line end behind the last
file_docs-signed : (ts : List Token) (slots : List Part) (items : List ℕ) → PartsSigned ts slots items →
    SignedParts (file_docs ts slots) 0 false (numbers_strands ts items)
unfolding Sections numbers_strands items_strands Drawn
file_docs-signed ts [] items h = rw h (SignedParts-nil 0 false [] refl)
file_docs-signed ts (s ∷ slots) items h =
    let here : PartSigned ts s h.0 = h.3 in
    let first : List Strand = items_strands ts s.first here.later in
    let rest : List Strand = behind ts s.last h.1 in
    let end : List Strand = line_end ∷ [] in
    let steps : List Step = steps_wanting want.Must slots in
    let later : behind ts s.first (here.later ++ h.1) ≡ behind ts s.first here.later ++ rest =
    behind-append ts s.first here.later h.1 ∙ ap (λ m. behind ts s.first here.later ++ behind ts m h.1) here.last_is in
    let both : items_strands ts s.first (here.later ++ h.1) ≡ first ++ rest =
    ap (λ xs. item_strands ts s.first ++ xs) later
    ∙ sym (append_assoc (item_strands ts s.first) (behind ts s.first here.later) rest) in
    let numbers : items ≡ s.first ∷ (here.later ++ h.1) = h.2 ∙ ap (λ ns. ns ++ h.1) here.items_are in
    let whole : numbers_strands ts items ≡ first ++ (rest ++ end) =
    ap (numbers_strands ts) numbers ∙ ap (λ xs. xs ++ end) both ∙ append_assoc first rest end in
    subst (λ (xs : List Strand). SignedParts (file_docs ts (s ∷ slots)) 0 false xs) (sym whole)
    (SignedParts-cons s.doc (steps_docs ts s.last steps ++ Hard ∷ []) 0 false first (rest ++ end) (here.signed 0 false)
    (SignedParts-append (steps_docs ts s.last steps) (Hard ∷ []) 0 false rest end
    (steps-signed ts s.last steps h.1 0 false (wanting-signed ts want.Must slots h.1 h.4)) end_signed))

-- these are the tokens from number n on
unfoldable pub EachAt : List Token → ℕ → List Token → Type 0
EachAt all n [] = Unit {0}
EachAt all n (t ∷ ts) = (slice_get all n ≡ Some t) × (spelling_at all n ≡ t.spelling) × EachAt all (n + 1) ts

EachAt-behind : (first : Token) (all : List Token) (n : ℕ) (ts : List Token) → EachAt all n ts →
    EachAt (first ∷ all) (n + 1) ts
unfolding EachAt
EachAt-behind first all n [] h = tt
EachAt-behind first all n (t ∷ ts) h = (rw add-one h.0, rw add-one h.1, EachAt-behind first all (n + 1) ts h.2)

pub each_at : (ts : List Token) → EachAt ts 0 ts
unfolding EachAt
each_at [] = tt
each_at (t ∷ ts) = (refl, refl, EachAt-behind t ts 0 ts (each_at ts))

gap_at-is : (all : List Token) (n m : ℕ) (a b : Token) → slice_get all n ≡ Some a → slice_get all m ≡ Some b →
    gap_at all n m ≡ gap_strands a b
unfolding gap_at gap_between
gap_at-is all n m a b h k = rw (h, k) refl

behind-is : (all : List Token) (n : ℕ) (a : Token) (ts : List Token) → slice_get all n ≡ Some a →
    EachAt all (n + 1) ts →
    behind all n (range_with_len (n + 1) (length ts)) ≡ strands_behind a ts
unfolding behind item_strands EachAt strands_behind
behind-is all n a [] h e = refl
behind-is all n a (b ∷ ts) h e =
    let m : ℕ = n + 1 in
    let others : List ℕ = range_with_len (m + 1) (length ts) in
    let gap : gap_at all n m ≡ gap_strands a b = gap_at-is all n m a b h e.0 in
    let item : spelling_strands (spelling_at all m) ≡ spelling_strands b.spelling = ap spelling_strands e.1 in
    let rest : behind all m others ≡ strands_behind b ts = behind-is all m b ts e.0 e.2 in
    ap (λ xs. xs ++ (spelling_strands (spelling_at all m) ++ behind all m others)) gap
    ∙ ap (λ xs. gap_strands a b ++ (xs ++ behind all m others)) item
    ∙ ap (λ xs. gap_strands a b ++ (spelling_strands b.spelling ++ xs)) rest

-- the strands of the first numbers are those of the tokens
numbers_strands-are : (ts : List Token) → numbers_strands ts (range_with_len 0 (length ts)) ≡ file_strands ts
unfolding numbers_strands items_strands item_strands EachAt
numbers_strands-are [] = refl
numbers_strands-are (t ∷ ts) =
    let at : EachAt (t ∷ ts) 0 (t ∷ ts) = each_at (t ∷ ts) in
    let first : List Strand = spelling_strands t.spelling in
    let rest : behind (t ∷ ts) 0 (range_with_len 1 (length ts)) ≡ strands_behind t ts =
    behind-is (t ∷ ts) 0 t ts refl at.2 in
    ap (λ xs. (first ++ xs) ++ line_end ∷ []) rest ∙ append_assoc first (strands_behind t ts) (line_end ∷ [])

-- the slots of a file have the strands of its items, where no blank lines stand before what closes
pub file_parts-signed : (style : StyleView) (ts : List Token) (trees : Forest) → AreBare ts → Treed ts trees →
    PartsSigned ts (map (top_part style ts) (slots_of false (entries_of ts trees))) (forest_items trees)
file_parts-signed style ts trees bare h =
    let es : List (Entry Piece) = forest_entries style ts trees in
    subst (λ (ps : List Part). PartsSigned ts ps (forest_items trees)) (sym (tops_are style ts trees))
    (slots-signed ts false false AllFree es (slots_of false es) (forest_items trees) (slots_of_cut false es)
    (forest-signed style ts trees bare h.formed))

-- so the document of a file has them
file-signed : (style : StyleView) (ts : List Token) (trees : Forest) → AreBare ts → Treed ts trees →
    Signed (file_doc style ts trees) 0 false (file_strands ts)
unfolding file_doc
file-signed style ts trees bare h =
    let slots : List Part = map (top_part style ts) (slots_of false (entries_of ts trees)) in
    let parts = file_parts-signed style ts trees bare h in
    seq-signed (file_docs ts slots) 0 false (file_strands ts)
    (subst (λ (xs : List Strand). SignedParts (file_docs ts slots) 0 false xs)
    (ap (numbers_strands ts) h.items_are ∙ numbers_strands-are ts)
    (file_docs-signed ts slots (forest_items trees) parts))

-- the document of items as a layout keeps them has their strands
pub file_doc-signed : (style : StyleView) (ts : List Token) (max : ℕ) (trees : Forest) → Treed (normal max ts) trees →
    Signed (file_doc style (normal max ts) trees) 0 false (file_strands (normal max ts))
file_doc-signed style ts max trees h = file-signed style (normal max ts) trees (settled_bare true max ts) h
