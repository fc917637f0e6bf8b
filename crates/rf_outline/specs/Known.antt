-- What is known of documents, flat or not.
use Rattle.std.specs.Prelude.{◌≡◌, ℕ, ◌<◌, Bool, true, false, IsTrue, List, length, None, Some, slice_get, ⊤}
use Rattle.rf_base_document.specs.Document.{Doc}
use Rattle.rf_base_document.specs.Simple.{simple}
use Rattle.rf_base_document.specs.Graph.{GraphNode, unfolded}
use Rattle.rf_base_cut.specs.Documents.{flat_length_in, begins_in}
use Rattle.rf_base_cut.specs.DocumentLines.{never_free_in, OneLineIn}
use Rattle.rf_frontier.specs.declared.hows.How.{How}
use Rattle.rf_frontier.specs.Ways.{choices_of, KeepsWays}
use Rattle.rf_outline.specs.declared.facts.Line.{Line}
use Rattle.rf_outline.specs.declared.facts.Line.TheVariants.{Nothing, Never, Long, Text, Unsure}
use Rattle.rf_outline.specs.declared.facts.Facts.{Facts}
use Rattle.rf_outline.specs.declared.facts.Known.{Known}

-- on one line the document, flat or not, is as it is told: it has no layout, never is on one line, or takes up so many
-- columns by the choices of the way, and, where it is a text, by all choices
abbrev pub LineHolds : List How → Doc → Bool → Line → Type 0
LineHolds ways d flat Nothing = IsTrue (never_free_in d flat) × (simple d flat ≡ None)
LineHolds ways d flat Never = IsTrue (never_free_in d flat)
LineHolds ways d flat (Long len how) = (how.0 < length ways) × OneLineIn d flat len (choices_of ways how.0)
LineHolds ways d flat (Text len how) =
    (how.0 < length ways) × OneLineIn d flat len (choices_of ways how.0) × (flat_length_in d flat ≡ Some len)
LineHolds ways d flat Unsure = ⊤

-- what is told of the document, flat or not, holds
abbrev pub FactsHold : List How → Doc → Bool → Facts → Type 0
FactsHold ways d flat facts = LineHolds ways d flat facts.line × (IsTrue facts.begins → IsTrue (begins_in d flat))

-- what is told of the document holds where it isn't flat and where it is
abbrev pub KnownHolds : List How → Doc → Known → Type 0
KnownHolds ways d known = FactsHold ways d false known.loose × FactsHold ways d true known.flat

-- what is told of each of the graph's first nodes, in order, holds of its document
unfoldable pub AreKnown : List How → List GraphNode → List Known → Type 0
AreKnown ways graph list =
    (n : ℕ) (known : Known) → slice_get list n ≡ Some known → KnownHolds ways (unfolded graph n) known

-- what is known by older ways is known by newer ones that keep them
abbrev pub KnownGoesOn : Type 0
KnownGoesOn =
    (old new : List How) (graph : List GraphNode) (list : List Known) →
    KeepsWays old new → AreKnown old graph list → AreKnown new graph list
