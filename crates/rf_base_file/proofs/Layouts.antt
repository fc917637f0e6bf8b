-- Each source's document has a core, and so a resolution with a layout.
use Rattle.std.proofs.Common.{◌≡◌, ℕ, zero, suc, Bool, true, false, List, [], ◌∷◌, ◌++◌, replicate, length, take, drop, refl, sym, subst, Option, Some, None, IsSome}
use Rattle.std.specs.List.{AllByRecursion, slice_split}
use Rattle.std.specs.Prelude.{map, codes, slice_get, ◌==◌, if◌then◌else◌}
use Rattle.std.specs.Option.{option_map}
use Rattle.rf_base_document.specs.Document.{Doc, Text, Newline, Hard, Concat, Nest, Align, Reset, Choice, Charge}
use Rattle.rf_base_document.specs.Sequence.{half_up, seq_within, seq}
use Rattle.rf_base_document.specs.Picks.{HasLayout}
use Rattle.rf_base_document.specs.Simple.{simple_concat, simple_choice, simple}
use Rattle.rf_base_document.proofs.Simple.{core_has_layout}
use Rattle.rf_base_grammar.specs.Token.{Token}
use Rattle.rf_base_style.specs.declared.columns.Columns.{Columns}
use Rattle.rf_base_style.specs.declared.columns.Columns.TheVariants.{Characters}
use Rattle.rf_base_style.specs.declared.rules.Charges.{Charges}
use Rattle.rf_base_style.specs.Table.{StyleView}
use Rattle.rf_base_tree.specs.declared.separators.Want.{Want}
use Rattle.rf_base_tree.specs.declared.separators.Want.TheVariants as want
use Rattle.rf_base_tree.specs.declared.separators.Separator.{Separator}
use Rattle.rf_base_tree.specs.declared.separators.Separator.TheVariants as separator
use Rattle.rf_base_tree.specs.Trees.{Tree, Forest, Empty, spelling_at}
use Rattle.rf_base_tree.specs.Slots.{Slot, entries_of}
use Rattle.rf_base_tree.specs.Cut.{slots_of, separator_between}
use Rattle.rf_base_file.specs.declared.shapes.Shape.{Shape}
use Rattle.rf_base_file.specs.declared.shapes.Shape.TheVariants.{Application, Hanging, Plain, Body}
use Rattle.rf_base_file.specs.declared.shapes.Roles.TheVariants.{AllFree}
use Rattle.rf_base_file.specs.declared.shapes.Way.{Way}
use Rattle.rf_base_file.specs.Rows.{Part, bare_break, lines_behind, lines_docs, item_doc, mark_doc, separator_docs, docs_between, gap_docs, Step, step, steps_docs, steps_last, row_docs, steps_wanting, inner_docs}
use Rattle.rf_base_file.specs.Shapes.{Slots, drop_doc, first_then, hang_doc, in_line_doc, body_want, charged, choice_of, shape_doc}
use Rattle.rf_base_file.specs.Ways.{Piece, way_of}
use Rattle.rf_base_file.specs.FileDocument.{body_docs, list_doc, forest_entries, style_doc, top_part, file_docs, file_doc}
use Rattle.rf_base_file.proofs.Each.{each-append, each-take, each-drop, each-replicate}
use Rattle.rf_base_file.proofs.KeptTrees.{PieceKeeps, TreesKeep, wanting_kept, slots_kept, forest_kept, style_doc_kept}
use Rattle.rf_base_file.proofs.SlotsHold.{slots_hold}
use Rattle.rf_base_file.proofs.TreeStrands.{tops_are}

-- the document has a core where it isn't flat, and so does each of these
abbrev pub HasCore : Doc → Type 0
HasCore d = IsSome (simple d false)

abbrev pub EachHasCore : List Doc → Type 0
EachHasCore parts = AllByRecursion (λ d. HasCore d) parts

both_some : (o p : Option Doc) → IsSome o → IsSome p → IsSome (simple_concat o p)
both_some None p h k = h
both_some (Some a) None h k = k
both_some (Some a) (Some b) h k = refl

map_some : (f : Doc → Doc) (o : Option Doc) → IsSome o → IsSome (option_map f o)
map_some f None h = h
map_some f (Some a) h = refl

first_some : (o p : Option Doc) → IsSome o → IsSome (simple_choice o p)
first_some None p h = cc
first_some (Some a) None h = refl
first_some (Some a) (Some b) h = refl

concat_has : (a b : Doc) → HasCore a → HasCore b → HasCore (Concat a b)
unfolding simple
concat_has a b h k = both_some (simple a false) (simple b false) h k

align_has : (a : Doc) → HasCore a → HasCore (Align a)
unfolding simple
align_has a h = map_some Align (simple a false) h

reset_has : (a : Doc) → HasCore a → HasCore (Reset a)
unfolding simple
reset_has a h = map_some Reset (simple a false) h

-- a choice has a core by its first side alone
choice_has : (a b : Doc) → HasCore a → HasCore (Choice a b)
unfolding simple
choice_has a b h = first_some (simple a false) (simple b false) h

text_has : (s : List ℕ) (len : ℕ) → HasCore (Text s len)
unfolding simple
text_has s len = refl

charge_has : (k : ℕ) (a : Doc) → HasCore a → HasCore (Charge k a)
unfolding simple
charge_has k a h = map_some (Charge k) (simple a false) h

nest_has : (n : ℕ) (a : Doc) → HasCore a → HasCore (Nest n a)
unfolding simple
nest_has n a h = map_some (Nest n) (simple a false) h

newline_has : HasCore Newline
unfolding simple
newline_has = refl

hard_has : HasCore Hard
unfolding simple
hard_has = refl

-- sequences
within_has : (depth : ℕ) (parts : List Doc) → EachHasCore parts → HasCore (seq_within depth parts)
unfolding seq_within
within_has zero parts h = text_has [] _
within_has (suc depth) [] h = text_has [] _
within_has (suc depth) (a ∷ []) h = h.0
within_has (suc depth) (a ∷ b ∷ parts) h =
    let all : List Doc = a ∷ b ∷ parts in
    let half : ℕ = half_up (length all) in
    concat_has (seq_within depth (take half all)) (seq_within depth (drop half all))
    (within_has depth (take half all) (each-take (λ d. HasCore d) half all h))
    (within_has depth (drop half all) (each-drop (λ d. HasCore d) half all h))

seq_has : (parts : List Doc) → EachHasCore parts → HasCore (seq parts)
unfolding seq
seq_has parts h = within_has (length parts) parts h

-- items and gaps
behind_have : (columns : Columns) (lines : List (List ℕ)) → EachHasCore (lines_behind columns lines)
behind_have columns [] = tt
behind_have columns (s ∷ lines) = (reset_has Hard hard_has, (text_has s _, behind_have columns lines))

lines_have : (columns : Columns) (lines : List (List ℕ)) → EachHasCore (lines_docs columns lines)
lines_have columns [] = tt
lines_have columns (s ∷ lines) = (text_has s _, behind_have columns lines)

item_has : (columns : Columns) (ts : List Token) (item : ℕ) → HasCore (item_doc columns ts item)
item_has columns ts item =
    let lines : List (List ℕ) = slice_split (λ c. c == 10) (spelling_at ts item) in
    seq_has (lines_docs columns lines) (lines_have columns lines)

separator_has : (s : Separator) → EachHasCore (separator_docs s)
separator_has separator.Empty = tt
separator_has separator.Space = (text_has (codes " ") _, tt)
separator_has separator.Line = (newline_has, tt)
separator_has (separator.Hard blanks) =
    each-append (λ d. HasCore d) (replicate blanks bare_break) (Hard ∷ [])
    (each-replicate (λ d. HasCore d) blanks bare_break (reset_has Hard hard_has)) (hard_has, tt)

between_has : (o p : Option Token) (w : Want) → EachHasCore (docs_between o p w)
between_has (Some a) (Some b) w = separator_has (separator_between a b w)
between_has _ _ w = tt

gap_has : (ts : List Token) (before next : ℕ) (w : Want) → EachHasCore (gap_docs ts before next w)
gap_has ts before next w = between_has (slice_get ts before) (slice_get ts next) w

-- parts and steps
abbrev pub PartHas : Part → Type 0
PartHas p = HasCore p.doc

abbrev pub PartsHave : List Part → Type 0
PartsHave parts = AllByRecursion (λ p. PartHas p) parts

abbrev StepsHave : List Step → Type 0
StepsHave steps = AllByRecursion (λ s. PartHas s.part) steps

steps_have : (ts : List Token) (before : ℕ) (steps : List Step) → StepsHave steps →
    EachHasCore (steps_docs ts before steps)
unfolding steps_docs
steps_have ts before [] h = tt
steps_have ts before (s ∷ steps) h =
    each-append (λ d. HasCore d) (gap_docs ts before s.part.first s.want) (s.part.doc ∷ steps_docs ts s.part.last steps)
    (gap_has ts before s.part.first s.want) (h.0, steps_have ts s.part.last steps h.1)

row_has : (ts : List Token) (steps : List Step) → StepsHave steps → EachHasCore (row_docs ts steps)
row_has ts [] h = tt
row_has ts (s ∷ steps) h = (h.0, steps_have ts s.part.last steps h.1)

-- lists: the first alternative of a body has a core
inner_have : (ts : List Token) (before : ℕ) (steps : List Step) (closer : ℕ) → StepsHave steps →
    EachHasCore (inner_docs ts before steps closer)
inner_have ts before steps closer h =
    each-append (λ d. HasCore d) (steps_docs ts before steps)
    (gap_docs ts (steps_last before steps) closer want.Nothing)
    (steps_have ts before steps h) (gap_has ts (steps_last before steps) closer want.Nothing)

drop_has : (ts : List Token) (opener : ℕ) (s : Part) (slots : List Part) (closer : ℕ) → PartHas s → PartsHave slots →
    HasCore (drop_doc ts opener s slots closer)
drop_has ts opener s slots closer h k =
    let docs : List Doc = inner_docs ts opener (step want.Nothing s ∷ steps_wanting want.Line slots) closer in
    align_has (seq docs) (seq_has docs
    (inner_have ts opener (step want.Nothing s ∷ steps_wanting want.Line slots) closer
    (h, wanting_kept HasCore want.Line slots k)))

first_then_has : (ts : List Token) (l : Slots) (docs : List Doc) → PartHas l.first → EachHasCore docs →
    HasCore (first_then ts l docs)
first_then_has ts l docs h k =
    let steps : List Step = step want.Nothing l.first ∷ [] in
    align_has (seq (steps_docs ts l.opener steps ++ docs))
    (seq_has (steps_docs ts l.opener steps ++ docs)
    (each-append (λ d. HasCore d) (steps_docs ts l.opener steps) docs (steps_have ts l.opener steps (h, tt)) k))

-- below the second slot, where no body is
hang_has : (ts : List Token) (l : Slots) → PartHas l.first → PartHas l.second → PartsHave l.others →
    HasCore (hang_doc ts l)
hang_has ts l h k m =
    let steps : List Step = steps_wanting want.Line l.others in
    let docs : List Doc = l.second.doc ∷ inner_docs ts l.second.last steps l.closer in
    first_then_has ts l _ h
    (each-append (λ d. HasCore d) (gap_docs ts l.first.last l.second.first want.Space) (Align (seq docs) ∷ [])
    (gap_has ts l.first.last l.second.first want.Space) (
      align_has (seq docs)
          (seq_has docs (k, inner_have ts l.second.last steps l.closer (wanting_kept HasCore want.Line l.others m))),
      tt,
    ))

in_line_has : (ts : List Token) (l : Slots) (n : ℕ) (w : Want) → PartHas l.first → PartHas l.second →
    PartsHave l.others → HasCore (in_line_doc ts l n w)
in_line_has ts l n w h k m =
    let parts : List Part = l.second ∷ l.others in
    let steps : List Step = steps_wanting want.Space (take n parts) ++ steps_wanting w (drop n parts) in
    let docs : List Doc = inner_docs ts l.first.last steps l.closer in
    let have : StepsHave steps =
    each-append (λ s. PartHas s.part) (steps_wanting want.Space (take n parts)) (steps_wanting w (drop n parts))
    (wanting_kept HasCore want.Space (take n parts) (each-take (λ p. PartHas p) n parts (k, m)))
    (wanting_kept HasCore w (drop n parts) (each-drop (λ p. PartHas p) n parts (k, m))) in
    first_then_has ts l _ h (nest_has 1 (seq docs) (seq_has docs (inner_have ts l.first.last steps l.closer have)), tt)

charged_has : (k : ℕ) (d : Doc) → HasCore d → HasCore (charged k d)
charged_has k d h = by_test (k == 0)
  where
    by_test : (b : Bool) → HasCore (if b then d else Charge k d)
    by_test true = h
    by_test false = charge_has k d h

choices_have : (d : Doc) (others : List Doc) → HasCore d → HasCore (choice_of d others)
unfolding choice_of
choices_have d [] h = h
choices_have d (e ∷ others) h = choice_has d (choice_of e others) h

-- the first layout of a list of each shape
shape_has : (ts : List Token) (shape : Shape) (charges : Charges) (l : Slots) → PartHas l.first → PartHas l.second →
    PartsHave l.others → HasCore (shape_doc shape charges ts l)
shape_has ts Hanging charges l h k m = choices_have _ _ (charged_has charges.hung (hang_doc ts l) (hang_has ts l h k m))
shape_has ts (Body n one_line) charges l h k m =
    choices_have _ _ (charged_has charges.broken (in_line_doc ts l n (body_want one_line))
    (in_line_has ts l n (body_want one_line) h k m))
shape_has ts _ charges l h k m =
    choices_have _ _ (charged_has charges.broken _ (drop_has ts l.opener l.first (l.second ∷ l.others) l.closer h (
      k,
      m,
    )))

body_have : (ts : List Token) (w : Way) (opener : ℕ) (slots : List Part) (closer : ℕ) → PartsHave slots →
    EachHasCore (body_docs ts w opener slots closer)
body_have ts w opener [] closer h = tt
body_have ts w opener (s ∷ []) closer h = (drop_has ts opener s [] closer h.0 tt, tt)
body_have ts w opener (s ∷ next ∷ slots) closer h = (
  shape_has ts w.shape w.charges
      (record { opener = opener; first = s; second = next; others = slots; closer = closer }) h.0 h.1.0 h.1.1,
  tt,
)

list_has : (ts : List Token) (w : Way) (opener : ℕ) (slots : List Part) (closer : ℕ) → PartsHave slots →
    HasCore (list_doc ts w opener slots closer)
list_has ts w opener slots closer h =
    seq_has (mark_doc ts opener ∷ (body_docs ts w opener slots closer ++ mark_doc ts closer ∷ [])) (
      item_has Characters ts opener,
      each-append (λ d. HasCore d) (body_docs ts w opener slots closer) (mark_doc ts closer ∷ [])
          (body_have ts w opener slots closer h)
          (item_has Characters ts closer, tt),
    )

-- trees
have_cores : (style : StyleView) → TreesKeep style HasCore
have_cores style = record {
  item = item_has;
  concat = concat_has;
  align = align_has;
  steps = λ ts before steps h. seq_has (steps_docs ts before steps) (steps_have ts before steps h);
  row = λ ts steps h. seq_has (row_docs ts steps) (row_has ts steps h);
  list = λ ts quoted role slots. list_has ts (way_of style.table quoted role slots);
}

file_have : (ts : List Token) (slots : List Part) → PartsHave slots → EachHasCore (file_docs ts slots)
file_have ts [] h = tt
file_have ts (s ∷ slots) h = (
  h.0,
  each-append (λ d. HasCore d) (steps_docs ts s.last (steps_wanting want.Must slots)) (Hard ∷ [])
      (steps_have ts s.last (steps_wanting want.Must slots) (wanting_kept HasCore want.Must slots h.1)) (hard_has, tt),
)

-- the slots of a file have cores
pub file_parts_have : (style : StyleView) (ts : List Token) (trees : Forest) →
    PartsHave (map (top_part style ts) (slots_of false (entries_of ts trees)))
file_parts_have style ts trees =
    let slots : List (Slot Piece) = slots_of false (forest_entries style ts trees) in
    subst (λ (ps : List Part). PartsHave ps) (sym (tops_are style ts trees))
    (slots_kept (have_cores style) ts false AllFree slots
    (slots_hold (PieceKeeps HasCore) false (forest_entries style ts trees)
    (forest_kept style HasCore (have_cores style) ts trees)))

pub file_has_core : (style : StyleView) (ts : List Token) (trees : Forest) → HasCore (file_doc style ts trees)
unfolding file_doc
file_has_core style ts trees =
    let parts : List Part = map (top_part style ts) (slots_of false (entries_of ts trees)) in
    seq_has (file_docs ts parts) (file_have ts parts (file_parts_have style ts trees))

-- a document with a core has a layout
the_core : (o : Option Doc) → IsSome o → (s : Doc) × (o ≡ Some s)
the_core None h = cc
the_core (Some s) h = (s, refl)

pub slot_has_layout : (style : StyleView) (ts : List Token) (s : Slot Tree) → HasLayout (style_doc style ts s) false
slot_has_layout style ts s =
    let core = the_core (simple (style_doc style ts s) false) (style_doc_kept style HasCore (have_cores style) ts s) in
    core_has_layout (style_doc style ts s) false core.0 0 0 core.1

pub file_has_layout : (style : StyleView) (ts : List Token) (trees : Forest) → HasLayout (file_doc style ts trees) false
file_has_layout style ts trees =
    let core = the_core (simple (file_doc style ts trees) false) (file_has_core style ts trees) in
    core_has_layout (file_doc style ts trees) false core.0 0 0 core.1
