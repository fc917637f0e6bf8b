-- Items, gaps, parts and slots as documents: what the layouts of lists are made of.
use Rattle.std.specs.Prelude.{ℕ, ◌==◌, Option, None, Some, List, [], ◌∷◌, ◌++◌, replicate, map, codes, slice_get}
use Rattle.std.specs.List.{slice_split}
use Rattle.rf_base_document.specs.Document.{Doc, Text, Newline, Hard, Concat, Align, Reset, plain_text}
use Rattle.rf_base_document.specs.Sequence.{seq}
use Rattle.rf_base_grammar.specs.Token.{Token}
use Rattle.rf_base_tree.specs.declared.separators.Want.{Want}
use Rattle.rf_base_tree.specs.declared.separators.Want.TheVariants as want
use Rattle.rf_base_tree.specs.declared.separators.Separator.{Separator}
use Rattle.rf_base_tree.specs.declared.separators.Separator.TheVariants as separator
use Rattle.rf_base_tree.specs.Trees.{spelling_at}
use Rattle.rf_base_tree.specs.Slots.{Entry, Slot}
use Rattle.rf_base_tree.specs.Cut.{separator_between}
use Rattle.rf_base_style.specs.declared.columns.Columns.{Columns}
use Rattle.rf_base_style.specs.declared.columns.Columns.TheVariants.{Characters}
use Rattle.rf_base_style.specs.Columns.{length_in}

-- what stands in a sequence: the numbers of its first and of its last item, and its document
pub record Part : Type 0 where
  pub first : ℕ
  pub last : ℕ
  pub doc : Doc

abbrev pub part : ℕ → ℕ → Doc → Part
part first last doc = record { first = first; last = last; doc = doc }

-- a line break without indentation
abbrev pub bare_break : Doc
bare_break = Reset Hard

-- a text of one line, its columns counted in this way
abbrev pub line_doc : Columns → List ℕ → Doc
line_doc columns s = Text s (length_in columns s)

-- the texts with a line break without indentation before each
abbrev pub lines_behind : Columns → List (List ℕ) → List Doc
lines_behind columns [] = []
lines_behind columns (s ∷ lines) = bare_break ∷ line_doc columns s ∷ lines_behind columns lines

-- the texts with a line break without indentation between neighbours
abbrev pub lines_docs : Columns → List (List ℕ) → List Doc
lines_docs columns [] = []
lines_docs columns (s ∷ lines) = line_doc columns s ∷ lines_behind columns lines

-- an item: its characters cut at LF, their columns counted in this way
abbrev pub spelling_doc : Columns → List ℕ → Doc
spelling_doc columns spelling = seq (lines_docs columns (slice_split (λ c. c == 10) spelling))

-- the document of the item of this number
abbrev pub item_doc : Columns → List Token → ℕ → Doc
item_doc columns ts item = spelling_doc columns (spelling_at ts item)

-- the document of the prefix, skip, opener or closer of this number: a column for each character
abbrev pub mark_doc : List Token → ℕ → Doc
mark_doc ts item = item_doc Characters ts item

-- what a separator adds to a sequence
abbrev pub separator_docs : Separator → List Doc
separator_docs separator.Empty = []
separator_docs separator.Space = plain_text (codes " ") ∷ []
separator_docs separator.Line = Newline ∷ []
separator_docs (separator.Hard blanks) = replicate blanks bare_break ++ Hard ∷ []

-- what stands between two tokens, if they are there
abbrev pub docs_between : Option Token → Option Token → Want → List Doc
docs_between (Some a) (Some b) w = separator_docs (separator_between a b w)
docs_between _ _ w = []

-- what stands between the items of these numbers
abbrev pub gap_docs : List Token → ℕ → ℕ → Want → List Doc
gap_docs ts before next w = docs_between (slice_get ts before) (slice_get ts next) w

-- a part, and what is wanted before it
pub record Step : Type 0 where
  pub want : Want
  pub part : Part

abbrev pub step : Want → Part → Step
step w p = record { want = w; part = p }

-- the gaps and the parts that stand behind the item of this number
unfoldable pub steps_docs : List Token → ℕ → List Step → List Doc
steps_docs ts before [] = []
steps_docs ts before (s ∷ steps) =
    gap_docs ts before s.part.first s.want ++ s.part.doc ∷ steps_docs ts s.part.last steps

-- the number of the last item of the steps, or this one where there are none
unfoldable pub steps_last : ℕ → List Step → ℕ
steps_last last [] = last
steps_last last (s ∷ steps) = steps_last s.part.last steps

-- the steps as one sequence, without the gap before the first
abbrev pub row_docs : List Token → List Step → List Doc
row_docs ts [] = []
row_docs ts (s ∷ steps) = s.part.doc ∷ steps_docs ts s.part.last steps

-- each with the same want before it
abbrev pub steps_wanting : Want → List Part → List Step
steps_wanting w parts = map (step w) parts

-- a prefix or a skip: its item, and aligned behind it its comments and its datum
abbrev pub prefixed_doc : List Token → ℕ → List Part → Part → Doc
prefixed_doc ts item [] inner =
    Concat (mark_doc ts item) (Align (seq (steps_docs ts item (step want.Nothing inner ∷ []))))
prefixed_doc ts item (c ∷ lead) inner =
    Concat (mark_doc ts item)
    (Align (seq (steps_docs ts item
    (step want.Nothing c ∷ (steps_wanting want.Space lead ++ step want.Space inner ∷ [])))))

-- what entries hold
abbrev pub whats : {A : Type 0} → List (Entry A) → List A
whats entries = map (λ e. e.what) entries

-- a part before others, where there is one
abbrev pub perhaps_step : Want → Option (Entry Part) → List Step → List Step
perhaps_step w None steps = steps
perhaps_step w (Some e) steps = step w e.what ∷ steps

-- the steps behind comments, the first of which has this want before it: a line for each
abbrev pub lead_steps : Want → List Part → (Want → List Step) → List Step
lead_steps w [] rest = rest w
lead_steps w (c ∷ leads) rest = step w c ∷ (steps_wanting want.Line leads ++ rest want.Line)

-- the steps of a key, a datum and a comment behind it, the first of which has this want before it
abbrev pub datum_steps : Want → Option (Entry Part) → Option (Entry Part) → Option (Entry Part) → List Step
datum_steps w None datum trailing = perhaps_step w datum (perhaps_step want.Space trailing [])
datum_steps w (Some key) datum trailing =
    step w key.what ∷ perhaps_step want.Space datum (perhaps_step want.Space trailing [])

-- the steps of a slot
abbrev pub slot_steps : Slot Part → List Step
slot_steps s = lead_steps want.Nothing (whats s.leads) (λ w. datum_steps w s.key s.datum s.trailing)

-- a slot that begins with comments is aligned
abbrev pub aligned_behind : List (Entry Part) → Doc → Doc
aligned_behind [] d = d
aligned_behind (lead ∷ leads) d = Align d

-- the document of a slot
abbrev pub slot_doc : List Token → Slot Part → Doc
slot_doc ts s = aligned_behind s.leads (seq (row_docs ts (slot_steps s)))

-- the part of these steps, whose document is d; without a step its items are told as the first one
abbrev pub part_of : List Step → Doc → Part
part_of [] d = part 0 0 d
part_of (s ∷ steps) d = part s.part.first (steps_last s.part.last steps) d

-- a slot as a part
abbrev pub slot_part : List Token → Slot Part → Part
slot_part ts s = part_of (slot_steps s) (slot_doc ts s)

-- the gaps and the parts of a list behind its opener, up to its closer and with the gap before that
abbrev pub inner_docs : List Token → ℕ → List Step → ℕ → List Doc
inner_docs ts before steps closer =
    steps_docs ts before steps ++ gap_docs ts (steps_last before steps) closer want.Nothing

-- slots as parts
abbrev pub slot_parts : List Token → List (Slot Part) → List Part
slot_parts ts slots = map (slot_part ts) slots
