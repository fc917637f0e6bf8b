-- What a graph whose nodes are known tells of its documents.
use Rattle.std.specs.Prelude.{ℕ, ◌<◌, Bool, true, false, List, [], ◌∷◌, length, Option, None, Some, slice_get}
use Rattle.rf_base_document.specs.Document.{Doc, Align}
use Rattle.rf_base_document.specs.Graph.{GraphNode, unfolded}
use Rattle.rf_doc.specs.declared.nodes.NodeId.{NodeId}
use Rattle.rf_outline.specs.declared.documents.Span.{Span}
use Rattle.rf_outline.specs.declared.documents.Span.TheVariants as span
use Rattle.rf_outline.specs.declared.facts.Line.{Line}
use Rattle.rf_outline.specs.declared.facts.Line.TheVariants.{Nothing, Never, Long, Text, Unsure}
use Rattle.rf_outline.specs.Known.{AreKnown}
use Rattle.rf_outline.specs.declared.facts.Facts.{Facts}
use Rattle.rf_outline.specs.declared.facts.Known.{Known}
use Rattle.rf_outline.specs.Documents.{View, Told}

-- of what is known of a node, that which holds where it is flat, or isn't
abbrev pub facts_of : Known → Bool → Facts
facts_of known true = known.flat
facts_of known false = known.loose

-- how long it is on one line
abbrev pub span_of : Line → Span
span_of Nothing = span.Nothing
span_of Never = span.Never
span_of (Long len how) = span.Long len
span_of (Text len how) = span.Text len
span_of Unsure = span.Unsure

-- what is told where this is known
abbrev pub told_by : Facts → Told
told_by facts = record { span = span_of facts.line; begins = facts.begins }

-- nothing
abbrev pub nothing_told : Told
nothing_told = record { span = span.Unsure; begins = false }

abbrev pub told_of : Option Known → Bool → Told
told_of None flat = nothing_told
told_of (Some known) flat = told_by (facts_of known flat)

-- an alignment has its own number, and nothing else has one
abbrev pub number_of : ℕ → Doc → Option ℕ
number_of n (Align a) = Some n
number_of n _ = None

-- a node stands for what it unfolds to, and for that alone
abbrev pub seen : List GraphNode → List Known → View NodeId
seen graph list =
    record {
      document = λ n. unfolded graph n.0;
      sequence = λ n. unfolded graph n.0 ∷ [];
      told = λ n flat. told_of (slice_get list n.0) flat;
      number = λ n. number_of n.0 (unfolded graph n.0);
      rests_on = λ ways. (0 < length ways) × AreKnown ways graph list;
    }
