-- What is told of a document made of parts, from what is told of the parts.
use Rattle.std.specs.Prelude.{◌≡◌, ℕ, ◌<◌, Bool, List, length, ⊤}
use Rattle.rf_base_document.specs.Document.{Doc}
use Rattle.rf_frontier.specs.declared.hows.How.{How}
use Rattle.rf_outline.specs.declared.facts.Line.{Line}
use Rattle.rf_outline.specs.declared.facts.Line.TheVariants.{Nothing, Never, Long, Text, Unsure}
use Rattle.rf_outline.specs.declared.facts.Facts.{Facts}
use Rattle.rf_outline.specs.declared.facts.Known.{Known}
use Rattle.rf_outline.specs.Known.{LineHolds, FactsHold, KnownHolds}

-- the way of the line is one of the ways
abbrev pub LineIsIn : List How → Line → Type 0
LineIsIn ways Nothing = ⊤
LineIsIn ways Never = ⊤
LineIsIn ways (Long len how) = how.0 < length ways
LineIsIn ways (Text len how) = how.0 < length ways
LineIsIn ways Unsure = ⊤

-- both ways are
abbrev pub KnownIsIn : List How → Known → Type 0
KnownIsIn ways known = LineIsIn ways known.loose.line × LineIsIn ways known.flat.line

-- what is told of a document made of one part holds where what is told of the part does
abbrev pub LineOfPart : (Doc → Doc) → List How → Line → Line → Type 0
LineOfPart f ways a line = (d : Doc) (flat : Bool) → LineHolds ways d flat a → LineHolds ways (f d) flat line

abbrev pub FactsOfPart : (Doc → Doc) → List How → Facts → Facts → Type 0
FactsOfPart f ways a facts = (d : Doc) (flat : Bool) → FactsHold ways d flat a → FactsHold ways (f d) flat facts

abbrev pub KnownOfPart : (Doc → Doc) → List How → Known → Known → Type 0
KnownOfPart f ways a known = (d : Doc) → KnownHolds ways d a → KnownHolds ways (f d) known

-- what is told by new ways of a document made of two parts holds where what is told of the parts by the old ones does
abbrev pub LineOfBoth : (Doc → Doc → Doc) → List How → List How → Line → Line → Line → Type 0
LineOfBoth f old new a b line =
    (d e : Doc) (flat : Bool) → LineHolds old d flat a → LineHolds old e flat b → LineHolds new (f d e) flat line

abbrev pub FactsOfBoth : (Doc → Doc → Doc) → List How → List How → Facts → Facts → Facts → Type 0
FactsOfBoth f old new a b facts =
    (d e : Doc) (flat : Bool) → FactsHold old d flat a → FactsHold old e flat b → FactsHold new (f d e) flat facts

abbrev pub KnownOfBoth : (Doc → Doc → Doc) → List How → List How → Known → Known → Known → Type 0
KnownOfBoth f old new a b known =
    (d e : Doc) → KnownHolds old d a → KnownHolds old e b → KnownHolds new (f d e) known

-- the line is never one, or is of this length
abbrev pub MayGoLeft : ℕ → Line → Type 0
MayGoLeft len Nothing = ⊤
MayGoLeft len Never = ⊤
MayGoLeft len (Long other how) = len ≡ other
MayGoLeft len (Text other how) = len ≡ other
MayGoLeft len Unsure = ⊥
