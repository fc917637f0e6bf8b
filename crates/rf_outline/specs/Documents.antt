-- Documents that are told node by node.
use Rattle.std.specs.Prelude.{◌≡◌, ℕ, ◌+◌, ◌<◌, ◌⊎◌, Bool, false, IsTrue, List, [], ◌∷◌, length, Option, None, Some, ⊤}
use Rattle.std.specs.Str.{chars}
use Rattle.rf_base_document.specs.declared.directions.Dir.{Dir}
use Rattle.rf_base_cut.specs.Documents.{flat_length_in, begins_in, KnowsNoIndentation}
use Rattle.rf_base_cut.specs.DocumentLines.{never_free_in, OneLineIn}
use Rattle.rf_base_document.specs.Document as doc
use Rattle.rf_base_document.specs.Document.{Doc, IsDocument}
use Rattle.rf_base_document.specs.Simple.{simple}
use Rattle.rf_frontier.specs.declared.hows.How.{How}
use Rattle.rf_frontier.specs.declared.hows.HowId.{HowId}
use Rattle.rf_frontier.specs.Ways.{choices_of, KeepsWays}
use Rattle.rf_outline.specs.Sequences.{IsSequence}
use Rattle.rf_outline.specs.declared.documents.Part.{Part}
use Rattle.rf_outline.specs.declared.documents.Part.TheVariants.{Text, Newline, Hard, Concat, Nest, Align, Reset}
use Rattle.rf_outline.specs.declared.documents.Part.TheVariants.{Flatten}
use Rattle.rf_outline.specs.declared.documents.Part.TheVariants.{Choice, Charge, Unmade}
use Rattle.rf_outline.specs.declared.documents.Leaf.{Leaf}
use Rattle.rf_outline.specs.declared.documents.Leaf.TheVariants as leaf
use Rattle.rf_outline.specs.declared.documents.Span.{Span}
use Rattle.rf_outline.specs.declared.documents.Span.TheVariants.{Nothing, Never, Long, Unsure}
use Rattle.rf_outline.specs.declared.documents.Span.TheVariants.{Text as OneText}

-- what is told of a document, flat or not: how long it is on one line, and whether each resolution begins with a break
-- whose indentation doesn't depend on the column
pub record Told : Type 0 where
  pub span : Span
  pub begins : Bool

-- what each node stands for, the documents that it is told to be one after another, what is told of it, flat or not,
-- its number, if it has one, and the ways that this rests on
pub record View (N : Type 0) : Type 1 where
  pub document : N → Doc
  pub sequence : N → List Doc
  pub told : N → Bool → Told
  pub number : N → Option ℕ
  pub rests_on : List How → Type 0

-- the document is of this kind, and has these parts; of one of which that isn't told, nothing is said
abbrev pub IsOpened : {N : Type 0} → (N → Doc) → Doc → Part N → Type 0
IsOpened f d (Text s len) = d ≡ doc.Text (chars s.now) len
IsOpened f d Newline = d ≡ doc.Newline
IsOpened f d Hard = d ≡ doc.Hard
IsOpened f d (Concat a b) = d ≡ doc.Concat (f a) (f b)
IsOpened f d (Nest n a) = d ≡ doc.Nest n (f a)
IsOpened f d (Align a) = d ≡ doc.Align (f a)
IsOpened f d (Reset a) = d ≡ doc.Reset (f a)
IsOpened f d (Flatten a) = d ≡ doc.Flatten (f a)
IsOpened f d (Choice a b) = d ≡ doc.Choice (f a) (f b)
IsOpened f d (Charge k a) = d ≡ doc.Charge k (f a)
IsOpened f d Unmade = ⊤

-- the node, which begins at this column and has this indentation, is the row, aligned or nested, at its own
abbrev pub IsRowOf : {N : Type 0} → (N → Doc) → ℕ → ℕ → N → N × ℕ → Type 0
IsRowOf f column indentation n row =
    ((f n ≡ doc.Align (f row.0)) × (row.1 ≡ column))
    ⊎ ((k : ℕ) × (f n ≡ doc.Nest k (f row.0)) × (row.1 ≡ indentation + k))

-- the document is a line break, and isn't flat
abbrev pub IsLineBreak : Doc → Bool → Type 0
IsLineBreak d flat = ((d ≡ doc.Newline) ⊎ (d ≡ doc.Hard)) × (flat ≡ false)

-- the documents are that of the first node and then those of the other one, or there is but one
abbrev pub IsSplitOf : {N : Type 0} → (N → Doc) → (N → List Doc) → List Doc → Doc → Option (N × N) → Type 0
IsSplitOf document sequence ds d None = ds ≡ d ∷ []
IsSplitOf document sequence ds d (Some (first, others)) = ds ≡ document first ∷ sequence others

abbrev pub IsSplit : {N : Type 0} → View N → N → Option (N × N) → Type 0
IsSplit view n split = IsSplitOf view.document view.sequence (view.sequence n) (view.document n) split

-- on one line the document, flat or not, is as it is told: it has no layout, never is on one line, or takes up so many
-- columns by these choices, and, where it is a text, by all choices
abbrev pub SpanHolds : Doc → Bool → Span → List Dir → Type 0
SpanHolds d flat Nothing how = simple d flat ≡ None
SpanHolds d flat Never how = IsTrue (never_free_in d flat)
SpanHolds d flat (Long len) how = OneLineIn d flat len how
SpanHolds d flat (OneText len) how = OneLineIn d flat len how × (flat_length_in d flat ≡ Some len)
SpanHolds d flat Unsure how = ⊤

-- the document, flat or not, is such a leaf, without a choice; where none is told, nothing is said
abbrev pub LeafHolds : Doc → Bool → Option Leaf → Type 0
LeafHolds d flat None = ⊤
LeafHolds d flat (Some (leaf.Text len)) = SpanHolds d flat (OneText len) []
LeafHolds d flat (Some leaf.Break) = IsLineBreak d flat

-- the way is one of these, and its choices are those of the line that is told
abbrev pub IsWayOf : List How → Doc → Bool → Span → HowId → Type 0
IsWayOf ways d flat span way = (way.0 < length ways) × SpanHolds d flat span (choices_of ways way.0)

-- what is told of the document, flat or not, holds
abbrev pub ToldHolds : Doc → Bool → Told → Type 0
ToldHolds d flat told =
    ((how : List Dir) × SpanHolds d flat told.span how) × (IsTrue told.begins → IsTrue (begins_in d flat))

-- each node stands for a document that keeps the limits, and is its documents one after another, what is told of it
-- holds, nodes of one number stand for the same one, which knows no indentation, and the ways are such as it rests on,
-- and so are those that keep them
pub record IsTold {N : Type 0} (view : View N) (ways : List How) : Type 0 where
  pub documents : (n : N) → IsDocument (view.document n)
  pub sequences : (n : N) → IsSequence (view.sequence n) (view.document n)
  pub told : (n : N) (flat : Bool) → ToldHolds (view.document n) flat (view.told n flat)
  pub numbers : (n m : N) (k : ℕ) → view.number n ≡ Some k → view.number m ≡ Some k → view.document n ≡ view.document m
  pub unindented : (n : N) (k : ℕ) (flat : Bool) → view.number n ≡ Some k → KnowsNoIndentation (view.document n) flat
  pub rests : view.rests_on ways
  pub goes_on : (old new : List How) → KeepsWays old new → view.rests_on old → view.rests_on new
