-- What the core of a document is.
use Rattle.std.specs.Prelude.{◌≡◌, ℕ, false, List, Option, None, Some, ⊤}
use Rattle.rf_base_document.specs.declared.directions.Dir.{Dir}
use Rattle.rf_base_document.specs.Document.{Doc}
use Rattle.rf_base_document.specs.Render.{render}
use Rattle.rf_base_document.specs.Picks.{Picks}
use Rattle.rf_base_document.specs.Graph.{StandsFor}
use Rattle.rf_flat.specs.Cores.{CoreGraph}

-- there is a core that stands for s where there is an s, and none where there is none
abbrev pub StandsForCore : Option CoreGraph → Option Doc → Type 0
StandsForCore None None = ⊤
StandsForCore (Some core) (Some s) = StandsFor core.nodes core.root s
StandsForCore _ _ = ⊥

-- no resolution of the document has a layout
abbrev pub HasNoLayout : Doc → Type 0
HasNoLayout d =
    (choices : List Dir) (e : Doc) (column indentation : ℕ) → Picks d choices e →
    render e column indentation false ≡ None
