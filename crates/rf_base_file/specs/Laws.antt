-- Laws of documents' signatures and of files' layouts.
use Rattle.std.specs.Prelude.{ℕ, ◌≡◌, ◌^◌, ◌≤◌, Bool, false, Some, List, length, map}
use Rattle.rf_base_document.specs.declared.directions.Dir.{Dir}
use Rattle.rf_base_document.specs.Document.{Doc, IsDocument}
use Rattle.rf_base_document.specs.Sequence.{seq}
use Rattle.rf_base_document.specs.Render.{Laid, layout}
use Rattle.rf_base_document.specs.Picks.{LaidOutBy, HasLayout}
use Rattle.rf_base_document.specs.Simple.{simple}
use Rattle.rf_base_cost.specs.Cost.{IsColumn, Lawful}
use Rattle.rf_base_cost.specs.Reflecting.{ReflectsOrderUpTo}
use Rattle.rf_base_optimum.specs.Best.{Best}
use Rattle.rf_base_optimum.specs.Chosen.{choose}
use Rattle.rf_base_optimum.specs.MostPieces.{most_pieces}
use Rattle.rf_base_optimum.specs.Paragraphs.{paragraphs_docs, EachIsDocument}
use Rattle.rf_base_grammar.specs.Token.{Token, unplaced, normal}
use Rattle.rf_base_grammar.specs.Itemised.{Itemised}
use Rattle.rf_base_grammar.specs.Woven.{Woven}
use Rattle.rf_base_grammar.specs.TrailingSpace.{NoTrailingSpace}
use Rattle.rf_base_grammar.specs.declared.TheConstants.{SOURCE_LIMIT}
use Rattle.rf_base_style.specs.Table.{StyleView, IsStyle}
use Rattle.rf_base_tree.specs.Trees.{Tree, Forest}
use Rattle.rf_base_tree.specs.Slots.{Slot}
use Rattle.rf_base_tree.specs.Formed.{Treed}
use Rattle.rf_base_file.specs.FileDocument.{style_doc, file_doc}
use Rattle.rf_base_file.specs.LaidOut.{kept, source_doc, Objective, IsLaidOut}
use Rattle.rf_base_file.specs.ByForms.{file_paragraphs, by_forms}
use Rattle.rf_base_file.specs.Formatted.{Layout, IsFormatted, IsTooLong}
use Rattle.rf_base_file.specs.Reading.{ReadsBack}
use Rattle.rf_base_file.specs.Signature.{Strand, Drawn, Signed}
use Rattle.rf_base_file.specs.Strands.{file_strands}

-- the layout of each resolution of a document is drawn of the strands that the document has, wherever it begins
abbrev pub LayoutsKeepSignatures : Type 0
LayoutsKeepSignatures =
    (d : Doc) (strands : List Strand) (choices : List Dir) (column indentation : ℕ) (flat : Bool) (whole : Laid) →
    Signed d indentation flat strands → LaidOutBy d choices column indentation flat whole →
    Drawn strands (layout whole.pieces)

-- in each style each source's document has a resolution with a layout
abbrev pub FilesHaveLayouts : Type 0
FilesHaveLayouts = (style : StyleView) (ts : List Token) (trees : Forest) → HasLayout (file_doc style ts trees) false

-- and so has the document of each slot
abbrev pub SlotsHaveLayouts : Type 0
SlotsHaveLayouts = (style : StyleView) (ts : List Token) (s : Slot Tree) → HasLayout (style_doc style ts s) false

-- a document is laid out in one way
abbrev pub OneLayout : Type 0 → Type 0
OneLayout C =
    (objective : Objective C) (d : Doc) (choices other_choices : List Dir) (resolution other_resolution : Doc)
    (text other_text : List ℕ) →
    IsLaidOut objective d choices resolution text → IsLaidOut objective d other_choices other_resolution other_text →
    (choices ≡ other_choices) × (resolution ≡ other_resolution) × (text ≡ other_text)

-- a source has one layout: its choices, its text and its cost are the only ones
abbrev pub OneFormatted : Type 0 → Type 0
OneFormatted C =
    (style : StyleView) (objective : Objective C) (source : List ℕ) (given other : Layout C) →
    IsFormatted style objective source given → IsFormatted style objective source other →
    (given.choices ≡ other.choices) × (given.text ≡ other.text) × (given.cost ≡ other.cost)

-- no source is both formatted and too long
abbrev pub FormattedOrTooLong : Type 0 → Type 0
FormattedOrTooLong C =
    (style : StyleView) (objective : Objective C) (source : List ℕ) (given : Layout C) →
    IsFormatted style objective source given → IsTooLong style objective source → ⊥

-- a source's document, whose items are settled somehow, has the strands of these items
abbrev pub FilesHaveStrands : Type 0
FilesHaveStrands =
    (style : StyleView) (ts : List Token) (max : ℕ) (trees : Forest) →
    Treed ts trees → Signed (file_doc style (normal max ts) trees) 0 false (file_strands (normal max ts))

-- the layout of each resolution of a source's document, whose items are settled somehow, is woven of these items
abbrev pub FilesAreWoven : Type 0
FilesAreWoven =
    (style : StyleView) (source : List ℕ) (ts : List Token) (max : ℕ) (trees : Forest) (choices : List Dir)
    (whole : Laid) →
    Itemised source ts → Treed ts trees → LaidOutBy (file_doc style (normal max ts) trees) choices 0 0 false whole →
    Woven (normal max ts) (layout whole.pieces)

-- the layout of each resolution of a source's document reads back: it has the source's items and tree
abbrev pub FilesReadBack : Type 0
FilesReadBack =
    (style : StyleView) (source : List ℕ) (ts : List Token) (trees : Forest) (choices : List Dir) (whole : Laid) →
    Itemised source ts → Treed ts trees → LaidOutBy (source_doc style ts trees) choices 0 0 false whole →
    ReadsBack style ts trees (layout whole.pieces)

-- the layout of each resolution of a source's document has no trailing space but in its items
abbrev pub FilesHaveNoTrailingSpace : Type 0
FilesHaveNoTrailingSpace =
    (style : StyleView) (source : List ℕ) (ts : List Token) (trees : Forest) (choices : List Dir) (whole : Laid) →
    Itemised source ts → Treed ts trees → LaidOutBy (source_doc style ts trees) choices 0 0 false whole →
    NoTrailingSpace (layout whole.pieces)

-- the same items, wherever they stand and however many blank lines are kept, have the same trees
abbrev pub SameItemsSameTrees : Type 0
SameItemsSameTrees =
    (ts back : List Token) (trees : Forest) (max : ℕ) →
    Treed ts trees → map unplaced back ≡ map unplaced (normal max ts) → Treed back trees

-- items that differ only in where they stand have the same document
abbrev pub DocumentsOfItems : Type 0
DocumentsOfItems =
    (style : StyleView) (ts us : List Token) (trees : Forest) →
    map unplaced us ≡ map unplaced ts → file_doc style us trees ≡ file_doc style ts trees

-- items that a layout of a source reads back to have the source's document
abbrev pub ReadBackTheSame : Type 0
ReadBackTheSame =
    (style : StyleView) (ts back : List Token) (trees : Forest) →
    map unplaced back ≡ map unplaced (kept style ts) → source_doc style back trees ≡ source_doc style ts trees

-- a source's document is that of its slots as paragraphs
abbrev pub FilesAreParagraphs : Type 0
FilesAreParagraphs =
    (style : StyleView) (source : List ℕ) (ts : List Token) (trees : Forest) → Itemised source ts → Treed ts trees →
    source_doc style ts trees ≡ seq (paragraphs_docs (file_paragraphs style (kept style ts) trees))

-- in a style each slot's document keeps the limits of documents
abbrev pub SlotsAreDocuments : Type 0
SlotsAreDocuments =
    (style : StyleView) (ts : List Token) (trees : Forest) → IsStyle style →
    EachIsDocument (file_paragraphs style ts trees)

-- in a style the document of a source of at most 4,194,304 characters keeps the limits of documents, and no resolution
-- of it has more than 2^27 texts, newlines and charges
abbrev pub SourcesHaveFewPieces : Type 0
SourcesHaveFewPieces =
    (style : StyleView) (source : List ℕ) (ts : List Token) (trees : Forest) →
    IsStyle style → Itemised source ts → length source ≤ SOURCE_LIMIT → Treed ts trees →
    IsDocument (source_doc style ts trees) × (most_pieces (source_doc style ts trees) ≤ 2 ^ 27)

-- what is chosen of a source form by form is best for its document
abbrev pub ByFormsIsBest : Type 0 → Type 0
ByFormsIsBest C =
    (objective : Objective C) (style : StyleView) (source : List ℕ) (ts : List Token) (trees : Forest) →
    IsStyle style → Itemised source ts → Treed ts trees → Lawful objective.costs → IsColumn objective.limit →
    Best objective.costs objective.limit (source_doc style ts trees) 0 0 false
    (by_forms objective style (kept style ts) trees)

-- where addition reflects the order of what its layouts cost, what is chosen of a source's document is what is chosen
-- form by form
abbrev pub ChosenIsByForms : Type 0 → Type 0
ChosenIsByForms C =
    (objective : Objective C) (style : StyleView) (source : List ℕ) (ts : List Token) (trees : Forest) (core : Doc) →
    IsStyle style → Itemised source ts → length source ≤ SOURCE_LIMIT → Treed ts trees →
    Lawful objective.costs → IsColumn objective.limit → ReflectsOrderUpTo objective.costs (2 ^ 27) →
    simple (source_doc style ts trees) false ≡ Some core →
    (choose objective.costs objective.limit core 0 0).choices ≡ by_forms objective style (kept style ts) trees
