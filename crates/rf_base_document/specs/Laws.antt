-- Laws of documents, their layouts and graphs.
use Rattle.std.specs.Prelude.{◌≡◌, ◌↔◌, ℕ, ◌+◌, ◌<◌, ◌≤◌, max, Bool, false, List, ◌++◌, length, take, drop, None, Some, IsSome}
use Rattle.rf_base_document.specs.declared.directions.Dir.{Dir}
use Rattle.rf_base_document.specs.Document.{Doc, Concat, IsDocument, width_of}
use Rattle.rf_base_document.specs.Sequence.{seq, half_up}
use Rattle.rf_base_document.specs.Render.{Laid, render, Within, column_after, WordsRun}
use Rattle.rf_base_document.specs.Graph.{GraphNode, IsGraph, StandsFor, unfolded}
use Rattle.rf_base_document.specs.Picks.{Picks, LaidOutBy, leaves_of, charges_of, marks_of}
use Rattle.rf_base_document.specs.Simple.{simple, IsCore}

-- whether a document has a layout doesn't depend on the column or the indentation
abbrev pub LayoutKnowsNoPlace : Type 0
LayoutKnowsNoPlace =
    (d : Doc) (column indentation other_column other_indentation : ℕ) (flat : Bool) →
    IsSome (render d column indentation flat) → IsSome (render d other_column other_indentation flat)

-- no column of a layout passes the greater of its place's column and indentation by more than the document's width
abbrev pub LayoutKeepsWidth : Type 0
LayoutKeepsWidth =
    (d : Doc) (column indentation : ℕ) (flat : Bool) (whole : Laid) →
    render d column indentation flat ≡ Some whole →
    Within column whole.pieces (max column indentation + width_of d)
    × (whole.last ≤ max column indentation + width_of d)

-- a sequence of at least two parts is that of the first half, rounded up, and then that of the rest
abbrev pub SequenceJoinsHalves : Type 0
SequenceJoinsHalves =
    (parts : List Doc) → 2 ≤ length parts →
    let half = half_up (length parts) in seq parts ≡ Concat (seq (take half parts)) (seq (drop half parts))

-- a node of a graph stands for at most one document
abbrev pub StandsForOne : Type 0
StandsForOne = (graph : List GraphNode) (n : ℕ) (d e : Doc) → StandsFor graph n d → StandsFor graph n e → d ≡ e

-- each node of a graph stands for a document
abbrev pub StandsForSome : Type 0
StandsForSome =
    (graph : List GraphNode) (n : ℕ) → IsGraph graph → n < length graph → (d : Doc) × StandsFor graph n d × IsDocument d

-- the tree that a node of a graph stands for is the node unfolded
abbrev pub StandsForUnfolded : Type 0
StandsForUnfolded =
    (graph : List GraphNode) (n : ℕ) → IsGraph graph → n < length graph → StandsFor graph n (unfolded graph n)

-- what a node of a graph stands for is a document
abbrev pub StandsForDocuments : Type 0
StandsForDocuments = (graph : List GraphNode) (n : ℕ) (d : Doc) → IsGraph graph → StandsFor graph n d → IsDocument d

-- nodes that are added at the end change no older node's document
abbrev pub StandsForAfterMore : Type 0
StandsForAfterMore =
    (graph more : List GraphNode) (n : ℕ) (d : Doc) → StandsFor graph n d → StandsFor (graph ++ more) n d

-- a document, flat or not, and its core have the same lists of choices with a layout, and by each the same layout at
-- each place
abbrev pub CoreKeepsLayouts : Type 0
CoreKeepsLayouts =
    (d : Doc) (flat : Bool) (choices : List Dir) (column indentation : ℕ) (whole : Laid) →
    LaidOutBy d choices column indentation flat whole ↔
    ((s : Doc) × (simple d flat ≡ Some s) × LaidOutBy s choices column indentation false whole)

-- a document has no core exactly where no resolution of it has a layout
abbrev pub CoreWhereLayout : Type 0
CoreWhereLayout =
    (d : Doc) (flat : Bool) (column indentation : ℕ) →
    (simple d flat ≡ None) ↔
    ((choices : List Dir) (e : Doc) → Picks d choices e → render e column indentation flat ≡ None)

-- a core has no `Flatten` and no `Hard`
abbrev pub CoreIsCore : Type 0
CoreIsCore = (d : Doc) (flat : Bool) (s : Doc) → simple d flat ≡ Some s → IsCore s

-- a resolution has as many texts and newlines as its layout has words and breaks
abbrev pub LeavesAreMarks : Type 0
LeavesAreMarks =
    (e : Doc) (column indentation : ℕ) (flat : Bool) (whole : Laid) →
    render e column indentation flat ≡ Some whole → leaves_of e ≡ marks_of whole.pieces

-- choices pick at most one resolution of a document
abbrev pub PicksOne : Type 0
PicksOne = (d : Doc) (choices : List Dir) (e f : Doc) → Picks d choices e → Picks d choices f → e ≡ f

-- the words of a layout run on from its column, line by line, and its pieces end at its last column
abbrev pub LayoutRunsOn : Type 0
LayoutRunsOn =
    (e : Doc) (column indentation : ℕ) (flat : Bool) (whole : Laid) →
    render e column indentation flat ≡ Some whole →
    WordsRun column whole.pieces × (column_after column whole.pieces ≡ whole.last)

-- a layout has a piece for each text, newline and charge of its resolution, of which there is one at least
abbrev pub LayoutHasPieces : Type 0
LayoutHasPieces =
    (e : Doc) (column indentation : ℕ) (flat : Bool) (whole : Laid) →
    render e column indentation flat ≡ Some whole →
    (length whole.pieces ≡ leaves_of e + charges_of e) × (1 ≤ leaves_of e)

-- a resolution of a document keeps the limits of documents
abbrev pub ResolutionIsDocument : Type 0
ResolutionIsDocument = (d e : Doc) (choices : List Dir) → IsDocument d → Picks d choices e → IsDocument e
