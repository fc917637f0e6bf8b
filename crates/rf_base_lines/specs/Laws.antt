-- Laws of documents on one line.
use Rattle.std.specs.Prelude.{ℕ, ◌≡◌, ◌≢◌, ◌+◌, ◌≤◌, Bool, true, false, None, Some, List, [], ◌∷◌, ◌++◌, length, slice_get}
use Rattle.std.specs.List.{Contains}
use Rattle.std.specs.Option.{option_map}
use Rattle.rf_base_document.specs.declared.directions.Dir.{Dir}
use Rattle.rf_base_document.specs.Document.{Doc, IsOneLine, IsDocument}
use Rattle.rf_base_document.specs.Sequence.{seq}
use Rattle.rf_base_document.specs.Render.{Piece, Laid, laid, render, layout}
use Rattle.rf_base_document.specs.Picks.{Picks, LaidOutBy, weight_of, marks_of}
use Rattle.rf_base_document.specs.Simple.{simple}
use Rattle.rf_base_cost.specs.Cost.{Costs, IsColumn, Lawful, cost_of}
use Rattle.rf_base_optimum.specs.Best.{HasWithin}
use Rattle.rf_base_optimum.specs.Paragraphs.{chosen_of}
use Rattle.rf_base_cut.specs.OneLine.{NothingIsLeast}
use Rattle.rf_base_cut.specs.Indifferent.{IsFree}
use Rattle.rf_base_cut.specs.Documents.{flat_length_in}
use Rattle.rf_base_cut.specs.DocumentLines.{line, one_line, IsLong, IsFlattenable, EachIsWord, OneLineIn}
use Rattle.rf_base_grammar.specs.Token.{Token}
use Rattle.rf_base_style.specs.declared.columns.Columns.{Columns}
use Rattle.rf_base_style.specs.Columns.{length_in}
use Rattle.rf_base_style.specs.Table.{StyleView, AreRules}
use Rattle.rf_base_tree.specs.declared.separators.Want.{Want}
use Rattle.rf_base_tree.specs.declared.separators.Want.TheVariants as want
use Rattle.rf_base_tree.specs.Trees.{Tree, spelling_at}
use Rattle.rf_base_tree.specs.Slots.{Slot}
use Rattle.rf_base_tree.specs.Cut.{separator_between}
use Rattle.rf_base_file.specs.declared.shapes.Role.{Role}
use Rattle.rf_base_file.specs.declared.shapes.Way.{Way}
use Rattle.rf_base_file.specs.Rows.{Part, item_doc, mark_doc, gap_docs, Step, step, steps_docs, steps_last, row_docs, prefixed_doc, slot_steps, slot_doc}
use Rattle.rf_base_file.specs.FileDocument.{list_doc, tree_piece, style_doc}
use Rattle.rf_base_lines.specs.Spelled.{Spelled, spelled_text, spelled_both, spelled_behind, spelled_line, spelled_all}
use Rattle.rf_base_lines.specs.Lists.{spelled_separator, between_docs, MayBreak, PartsMayBreak, SomeBreaks, BreaksWhere, IsUncharged, Turns, turns_of}
use Rattle.rf_base_lines.specs.Lengths.{HasLength, PartsHaveLengths}
use Rattle.rf_base_lines.specs.Flattenable.{EachIsFlattenable, PartsAreFlattenable}

-- what is written of a document on one line has the columns and the choices of the document's first line, and there is
-- either both or neither
abbrev pub SpelledIsOneLine : Type 0
SpelledIsOneLine =
    (d : Doc) (flat : Bool) → option_map (λ l. line l.len l.how) (spelled_line d flat) ≡ one_line d flat

-- where the document has one length on one line, that is the one line of its layouts
abbrev pub SpelledIsOneLineIn : Type 0
SpelledIsOneLineIn =
    (d : Doc) (flat : Bool) (l : Spelled) → HasLength d → spelled_line d flat ≡ Some l → OneLineIn d flat l.len l.how

-- and where there is no hard newline and no charge too, all its layouts are, flat, as long as that
abbrev pub SpelledIsText : Type 0
SpelledIsText =
    (d : Doc) (l : Spelled) → HasLength d → IsFlattenable d → spelled_line d true ≡ Some l →
    flat_length_in d true ≡ Some l.len

-- what is on one line is so flat
abbrev pub SpelledFlat : Type 0
SpelledFlat =
    (d : Doc) (l : Spelled) → spelled_line d false ≡ Some l → (m : Spelled) × (spelled_line d true ≡ Some m)

-- it is one of the document's layouts, at each place: so many words and nothing else
abbrev pub SpelledIsLaidOut : Type 0
SpelledIsLaidOut =
    (d : Doc) (flat : Bool) (l : Spelled) (column indentation : ℕ) → spelled_line d flat ≡ Some l →
    (pieces : List Piece) × LaidOutBy d l.how column indentation flat (laid pieces (column + l.len)) × EachIsWord pieces
    × (layout pieces ≡ l.text) × (length pieces ≡ l.words) × (marks_of pieces ≡ l.words)

-- choices give a document at most one layout at a place
abbrev pub LaidOutOnce : Type 0
LaidOutOnce =
    (d : Doc) (choices : List Dir) (column indentation : ℕ) (flat : Bool) (whole other : Laid) →
    LaidOutBy d choices column indentation flat whole → LaidOutBy d choices column indentation flat other →
    whole ≡ other

-- a sequence of some part is its parts in a row, and so are parts and more parts
abbrev pub SequencesAreSpelled : Type 0
SequencesAreSpelled =
    (parts more : List Doc) (flat : Bool) →
    (parts ≢ [] → spelled_line (seq parts) flat ≡ spelled_all parts flat)
    × (spelled_all (parts ++ more) flat ≡ spelled_both (spelled_all parts flat) (spelled_all more flat))

-- an item is one text of its characters, and is on no line where they hold an LF
abbrev pub ItemsAreSpelled : Type 0
ItemsAreSpelled =
    (columns : Columns) (ts : List Token) (item : ℕ) (flat : Bool) →
    let s = spelling_at ts item in
    (IsOneLine s → spelled_line (item_doc columns ts item) flat ≡ Some (spelled_text s (length_in columns s)))
    × (Contains s 10 → spelled_line (item_doc columns ts item) flat ≡ None)

-- a gap is its separator
abbrev pub GapsAreSpelled : Type 0
GapsAreSpelled =
    (ts : List Token) (before next : ℕ) (a b : Token) (w : Want) (flat : Bool) →
    slice_get ts before ≡ Some a → slice_get ts next ≡ Some b →
    spelled_all (gap_docs ts before next w) flat ≡ spelled_separator (separator_between a b w) flat

-- flat, it is the same whether a line or a space is wanted
abbrev pub FlatLinesAreSpaces : Type 0
FlatLinesAreSpaces =
    (ts : List Token) (before next : ℕ) →
    spelled_all (gap_docs ts before next want.Line) true ≡ spelled_all (gap_docs ts before next want.Space) true

-- steps and more steps are both in a row, and one step is its gap and its part
abbrev pub StepsAreSpelled : Type 0
StepsAreSpelled =
    (ts : List Token) (before : ℕ) (steps more : List Step) (s : Step) (flat : Bool) →
    (spelled_all (steps_docs ts before (steps ++ more)) flat
    ≡ spelled_both (spelled_all (steps_docs ts before steps) flat)
    (spelled_all (steps_docs ts (steps_last before steps) more) flat))
    × (spelled_all (steps_docs ts before (s ∷ [])) flat
    ≡ spelled_both (spelled_all (gap_docs ts before s.part.first s.want) flat) (spelled_line s.part.doc flat))

-- a slot of some step is its steps in a row; without comments before them these are its key, its datum and its comment
abbrev pub SlotsAreSpelled : Type 0
SlotsAreSpelled =
    (ts : List Token) (s : Slot Part) (flat : Bool) → slot_steps s ≢ [] →
    spelled_line (slot_doc ts s) flat ≡ spelled_all (row_docs ts (slot_steps s)) flat

-- a prefix or a skip without comments is its mark, a gap of which nothing is wanted, and its datum
abbrev pub PrefixedAreSpelled : Type 0
PrefixedAreSpelled =
    (ts : List Token) (item : ℕ) (inner : Part) (flat : Bool) →
    spelled_line (prefixed_doc ts item [] inner) flat
    ≡ spelled_both (spelled_line (mark_doc ts item) flat)
    (spelled_both (spelled_all (gap_docs ts item inner.first want.Nothing) flat) (spelled_line inner.doc flat))

-- a slot in which a line is wanted behind its first step, as behind a comment, is on no line unless flat, where a line
-- may stand there
abbrev pub CommentsBreak : Type 0
CommentsBreak =
    (ts : List Token) (s : Slot Part) (w : Want) (first next : Part) (steps : List Step) →
    slot_steps s ≡ step w first ∷ step want.Line next ∷ steps → MayBreak ts first.last next.first →
    spelled_line (slot_doc ts s) false ≡ None

-- and so is what stands between the brackets of a list of such a part
abbrev pub PartsBreak : Type 0
PartsBreak =
    (ts : List Token) (opener : ℕ) (parts : List Part) (closer : ℕ) → SomeBreaks parts →
    spelled_all (between_docs ts opener parts closer) false ≡ None

-- a list without charges, between whose parts lines may stand, is its opener, what stands between its brackets, behind
-- the directions to its layout on one line, and its closer, where its shape has such a layout and what is between is on
-- one line in it; it may be said to break only where what is between does
abbrev pub ListsAreSpelled : Type 0
ListsAreSpelled =
    (ts : List Token) (w : Way) (opener : ℕ) (parts : List Part) (closer : ℕ) (flat breaks : Bool) (t : Turns) →
    (l : Spelled) → IsUncharged w.charges → PartsMayBreak ts parts → BreaksWhere breaks ts opener parts closer →
    turns_of w.shape (length parts) flat breaks ≡ Some t →
    spelled_all (between_docs ts opener parts closer) t.flat ≡ Some l →
    spelled_line (list_doc ts w opener parts closer) flat
    ≡ spelled_both (spelled_line (mark_doc ts opener) flat)
    (spelled_both (Some (spelled_behind t.dirs l)) (spelled_line (mark_doc ts closer) flat))

-- an item that is on one line, flat or not, has no hard newline; and so it is of a gap
abbrev pub ItemsAreFlattenable : Type 0
ItemsAreFlattenable =
    (columns : Columns) (ts : List Token) (item : ℕ) (flat : Bool) (l : Spelled) →
    spelled_line (item_doc columns ts item) flat ≡ Some l → IsFlattenable (item_doc columns ts item)

abbrev pub GapsAreFlattenable : Type 0
GapsAreFlattenable =
    (ts : List Token) (before next : ℕ) (w : Want) (flat : Bool) (l : Spelled) →
    spelled_all (gap_docs ts before next w) flat ≡ Some l → EachIsFlattenable (gap_docs ts before next w)

-- a prefix or a skip without comments that is on one line has no hard newline and no charge where its datum has none
abbrev pub PrefixedAreFlattenable : Type 0
PrefixedAreFlattenable =
    (ts : List Token) (item : ℕ) (inner : Part) (flat : Bool) (l : Spelled) → IsFlattenable inner.doc →
    spelled_line (prefixed_doc ts item [] inner) flat ≡ Some l → IsFlattenable (prefixed_doc ts item [] inner)

-- a list without charges whose shape has a layout on one line, and whose brackets and what stands between them are on
-- one line, has no hard newline and no charge, where its parts have none
abbrev pub ListsAreFlattenable : Type 0
ListsAreFlattenable =
    (ts : List Token) (w : Way) (opener : ℕ) (parts : List Part) (closer : ℕ) (flat breaks : Bool) (t : Turns) →
    (a l b : Spelled) → IsUncharged w.charges → turns_of w.shape (length parts) flat breaks ≡ Some t →
    PartsAreFlattenable parts → spelled_line (mark_doc ts opener) flat ≡ Some a →
    spelled_all (between_docs ts opener parts closer) t.flat ≡ Some l →
    spelled_line (mark_doc ts closer) flat ≡ Some b → IsFlattenable (list_doc ts w opener parts closer)

-- the document of a list has one length on one line, where those of its slots have
abbrev pub ListsHaveLengths : Type 0
ListsHaveLengths =
    (ts : List Token) (w : Way) (opener : ℕ) (slots : List Part) (closer : ℕ) → PartsHaveLengths slots →
    HasLength (list_doc ts w opener slots closer)

-- the document of each tree has, quoted or not, whatever its role is
abbrev pub TreesHaveLengths : Type 0
TreesHaveLengths =
    (style : StyleView) (ts : List Token) (tree : Tree) (quoted : Bool) (role : Role) →
    HasLength ((tree_piece style ts tree).doc quoted role)

-- in a style whose rules are rules it keeps the limits of documents
abbrev pub TreesAreDocuments : Type 0
TreesAreDocuments =
    (style : StyleView) (ts : List Token) (tree : Tree) (quoted : Bool) (role : Role) → AreRules style.table →
    IsDocument ((tree_piece style ts tree).doc quoted role)

-- the document of each top-level slot has one length on one line
abbrev pub SlotsHaveLengths : Type 0
SlotsHaveLengths = (style : StyleView) (ts : List Token) (s : Slot Tree) → HasLength (style_doc style ts s)

-- what is written of a document on one line, l, is what is chosen of the document by itself: its choices are those that
-- are chosen of the core, and pick a resolution of it; the resolution's text and weight are l's, it costs nothing, and
-- it is within the columns
pub record IsChosenLine {C : Type 0} (costs : Costs C) (w : ℕ) (d : Doc) (l : Spelled) : Type 0 where
  pub chosen : l.how ≡ chosen_of costs w (simple d false)
  pub resolution : Doc
  pub picked : Picks d l.how resolution
  pub whole : Laid
  pub rendered : render resolution 0 0 false ≡ Some whole
  pub text_is : l.text ≡ layout whole.pieces
  pub cost_is : cost_of costs whole.pieces ≡ Some (costs.text 0 0)
  pub within : HasWithin w d 0 0 false
  pub weight_is : l.words + length l.how ≡ weight_of resolution l.how

-- it is, where each layout of the document on one line is as long, and it ends within the columns and where texts cost
-- nothing
abbrev pub LineIsChosen : Type 0 → Type 0
LineIsChosen C =
    (costs : Costs C) (w free len : ℕ) (d : Doc) (l : Spelled) →
    Lawful costs → NothingIsLeast costs → IsFree costs free → IsColumn w → IsDocument d → IsLong d false len →
    spelled_line d false ≡ Some l → l.len ≤ free → l.len ≤ w → IsChosenLine costs w d l
