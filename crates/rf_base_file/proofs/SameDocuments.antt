-- Items that differ only in where they stand have the same documents.
use Rattle.std.proofs.Common.{◌≡◌, ℕ, zero, suc, min, if◌then◌else◌, arith, ◌||◌, Bool, true, false, Option, Some, None, List, [], ◌∷◌, ◌++◌, map, slice_get, refl, sym, ap, ap₂, ◌∙◌}
use Rattle.std.specs.Option.{option_map}
use Rattle.std.proofs.lemmas.List.{map-id}
use Rattle.rf_base_document.specs.Document.{Doc, Hard}
use Rattle.rf_base_document.specs.Sequence.{seq}
use Rattle.rf_base_grammar.specs.Token.{Token, unplaced, with_blanks, opens, closes, settled}
use Rattle.rf_base_style.specs.Table.{StyleView}
use Rattle.rf_base_tree.specs.declared.separators.Want.{Want}
use Rattle.rf_base_tree.specs.declared.separators.Want.TheVariants as want
use Rattle.rf_base_tree.specs.Trees.{Tree, Leaf, Point, Comment, Prefixed, DatumComment, Listed, Forest, Empty, Then, spelling_at, forest_items}
use Rattle.rf_base_tree.specs.Slots.{Entry, Slot, datum_of, remark_of, sort_of}
use Rattle.rf_base_tree.specs.Cut.{slots_of}
use Rattle.rf_base_tree.proofs.Cuts.{slots_of_cut}
use Rattle.rf_base_file.specs.declared.shapes.Roles.TheVariants.{AllFree}
use Rattle.rf_base_file.specs.Rows.{Part, Step, steps_wanting, steps_docs, docs_between, slot_parts}
use Rattle.rf_base_file.specs.Ways.{Piece, slots_in}
use Rattle.rf_base_file.specs.FileDocument.{token_atom, forest_entries, file_docs, file_doc}
use Rattle.rf_base_file.specs.LaidOut.{kept, source_doc}
use Rattle.rf_base_file.proofs.TreeStrands.{tops_are}
use Rattle.rf_base_file.proofs.SameTrees.{spelling_at-unplaced}
use Rattle.rf_base_file.proofs.Firsts.{none_early, later_behind, step_firsts, entry_firsts, slots_rows}
use Rattle.rf_base_file.proofs.RenamedDocuments.{same_slots, renamed, all_renamed, Renames, steps_renamed, parts_renamed, forest_renamed}

-- items without their places
got : (ts : List Token) (n : ℕ) → slice_get (map unplaced ts) n ≡ option_map unplaced (slice_get ts n)
got [] n = refl
got (t ∷ ts) zero = refl
got (t ∷ ts) (suc n) = got ts n

between_same : (a b : Option Token) (w : Want) →
    docs_between (option_map unplaced a) (option_map unplaced b) w ≡ docs_between a b w
between_same None b w = refl
between_same (Some a) None w = refl
between_same (Some a) (Some b) w = refl

datum_same : (o : Option Token) → datum_of (option_map unplaced o) ≡ datum_of o
datum_same None = refl
datum_same (Some t) = refl

remark_same : (o : Option Token) → remark_of (option_map unplaced o) ≡ remark_of o
remark_same None = refl
remark_same (Some t) = refl

sort_same : (ts : List Token) (t : Tree) → sort_of (map unplaced ts) t ≡ sort_of ts t
sort_same ts (Leaf item) = ap datum_of (got ts item) ∙ datum_same (slice_get ts item)
sort_same ts (Comment item) = ap remark_of (got ts item) ∙ remark_same (slice_get ts item)
sort_same ts _ = refl

atom_same : (o : Option Token) → token_atom (option_map unplaced o) ≡ token_atom o
atom_same None = refl
atom_same (Some t) = refl

-- trees whose items have their own numbers are what they are
abbrev own : ℕ → ℕ
own n = n

mutual
  unfolding renamed all_renamed

  tree_own : (t : Tree) → renamed own t ≡ t
  tree_own (Leaf item) = refl
  tree_own (Point item) = refl
  tree_own (Comment item) = refl
  tree_own (Prefixed item lead inner) =
      ap₂ (λ (l : Forest) (t : Tree). Prefixed item l t) (forest_own lead) (tree_own inner)
  tree_own (DatumComment item lead inner) =
      ap₂ (λ (l : Forest) (t : Tree). DatumComment item l t) (forest_own lead) (tree_own inner)
  tree_own (Listed opener entries closer) = ap (λ (g : Forest). Listed opener g closer) (forest_own entries)

  forest_own : (g : Forest) → all_renamed own g ≡ g
  forest_own Empty = refl
  forest_own (Then t g) = ap₂ (λ (x : Tree) (xs : Forest). Then x xs) (tree_own t) (forest_own g)

unplaced_renames : (ts : List Token) → Renames 0 own ts (map unplaced ts)
unplaced_renames ts = record {
  gaps = λ n m w later.
      ap₂ (λ (a b : Option Token). docs_between a b w) (got ts n) (got ts m)
      ∙ between_same (slice_get ts n) (slice_get ts m) w;
  spellings = spelling_at-unplaced ts;
  sorts = λ t. ap (λ (x : Tree). sort_of (map unplaced ts) x) (tree_own t) ∙ sort_same ts t;
  atoms = λ n. ap token_atom (got ts n) ∙ atom_same (slice_get ts n);
}

-- so trees of such items have the same entries and the same parts
entries_same : (style : StyleView) (us ws : List Token) → Renames 0 own us ws → (trees : Forest) →
    forest_entries style ws trees ≡ forest_entries style us trees
entries_same style us ws e trees =
    ap (λ (g : Forest). forest_entries style ws g) (sym (forest_own trees))
    ∙ forest_renamed 0 own style us ws e trees (later_behind 0 (forest_items trees) (none_early (forest_items trees)))
    ∙ map-id (forest_entries style us trees)

parts_same : (us ws : List Token) → Renames 0 own us ws → (entries : List (Entry Piece)) →
    slot_parts ws (slots_in false AllFree (slots_of false entries))
    ≡ slot_parts us (slots_in false AllFree (slots_of false entries))
parts_same us ws e entries =
    let slots : List (Slot Part) = slots_in false AllFree (slots_of false entries) in
    let firsts : List ℕ = entry_firsts entries in
    ap (λ (ss : List (Slot Part)). slot_parts ws ss) (sym (same_slots slots))
    ∙ parts_renamed 0 own us ws e slots
    (slots_rows 0 false false AllFree entries (slots_of false entries) (slots_of_cut false entries)
    (later_behind 0 firsts (none_early firsts)))
    ∙ map-id (slot_parts us slots)

file_docs_same : (us ws : List Token) → Renames 0 own us ws → (slots : List Part) →
    file_docs ws slots ≡ file_docs us slots
file_docs_same us ws e [] = refl
file_docs_same us ws e (s ∷ slots) =
    let steps : List Step = steps_wanting want.Must slots in
    ap (λ (ds : List Doc). s.doc ∷ (ds ++ Hard ∷ []))
    (ap (λ (ss : List Step). steps_docs ws s.last ss) (sym (map-id steps))
    ∙ steps_renamed 0 own us ws e s.last steps (none_early (step_firsts steps)))

-- and the same document of the file
file_same : (style : StyleView) (us ws : List Token) → Renames 0 own us ws → (trees : Forest) →
    file_doc style ws trees ≡ file_doc style us trees
unfolding file_doc
file_same style us ws e trees =
    ap (λ (ps : List Part). seq (file_docs ws ps))
    (tops_are style ws trees
    ∙ ap (λ (es : List (Entry Piece)). slot_parts ws (slots_in false AllFree (slots_of false es)))
    (entries_same style us ws e trees)
    ∙ parts_same us ws e (forest_entries style us trees) ∙ sym (tops_are style us trees))
    ∙ ap seq (file_docs_same us ws e _)

pub documents_same : (style : StyleView) (ts us : List Token) (trees : Forest) → map unplaced us ≡ map unplaced ts →
    file_doc style us trees ≡ file_doc style ts trees
documents_same style ts us trees e =
    sym (file_same style us (map unplaced us) (unplaced_renames us) trees)
    ∙ ap (λ (xs : List Token). file_doc style xs trees) e
    ∙ file_same style ts (map unplaced ts) (unplaced_renames ts) trees

-- items that are kept are kept as they are
with_blanks_same : (c : Bool) (blanks max : ℕ) →
    (if c then 0 else min (if c then 0 else min blanks max) max) ≡ (if c then 0 else min blanks max)
with_blanks_same true blanks max = refl
with_blanks_same false blanks max = omega arith

settled_twice : (bare : Bool) (max : ℕ) (ts : List Token) → settled bare max (settled bare max ts) ≡ settled bare max ts
settled_twice bare max [] = refl
settled_twice bare max (t ∷ ts) =
    ap₂ (λ (n : ℕ) (xs : List Token). with_blanks t n ∷ xs) (with_blanks_same (bare || closes t.kind) t.blanks max)
    (settled_twice (opens t.kind) max ts)

settled_unplaced : (bare : Bool) (max : ℕ) (ts : List Token) →
    map unplaced (settled bare max ts) ≡ settled bare max (map unplaced ts)
settled_unplaced bare max [] = refl
settled_unplaced bare max (t ∷ ts) =
    ap (λ (xs : List Token). unplaced (with_blanks t (if bare || closes t.kind then 0 else min t.blanks max)) ∷ xs)
    (settled_unplaced (opens t.kind) max ts)

-- so what a layout reads back to has the source's document
pub back_same : (style : StyleView) (ts back : List Token) (trees : Forest) →
    map unplaced back ≡ map unplaced (kept style ts) → source_doc style back trees ≡ source_doc style ts trees
back_same style ts back trees e =
    let max : ℕ = style.blanks in
    documents_same style (kept style ts) (kept style back) trees
    (settled_unplaced true max back ∙ ap (settled true max) e ∙ sym (settled_unplaced true max (kept style ts))
    ∙ ap (map unplaced) (settled_twice true max ts))
