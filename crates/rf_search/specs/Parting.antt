-- What is chosen of a document, flat or not, part by part.
use Rattle.std.specs.Prelude.{◌≡◌, ℕ, Bool, List, [], ◌++◌, length, take, Option, None, Some}
use Rattle.rf_base_document.specs.declared.directions.Dir.{Dir}
use Rattle.rf_base_document.specs.Document.{Doc}
use Rattle.rf_base_document.specs.Simple.{simple}
use Rattle.rf_base_cost.specs.Cost.{Costs}
use Rattle.rf_base_optimum.specs.Best.{HasWithin}
use Rattle.rf_base_optimum.specs.Chosen.{chosen, choose}
use Rattle.rf_base_optimum.specs.MostPieces.{most_pieces}
use Rattle.rf_base_optimum.specs.Plain.{plain}
use Rattle.rf_base_cut.specs.Cut.{HasRoom}
use Rattle.rf_search.specs.declared.sought.Place.{Place}
use Rattle.rf_search.specs.Tasks.{Task}
use Rattle.rf_search.specs.Best.{IsBest}

-- behind nothing there is room for the node's pieces
abbrev pub HasOwnRoom : {C N : Type 0} → Task C N → N → Type 0
HasOwnRoom task n = HasRoom task.costs (most_pieces (task.documents.document n)) (task.costs.text 0 0)

-- the document, flat or not, has a core, of which these choices are chosen, whose resolution ends at this column
abbrev pub IsChosen : {C : Type 0} → Costs C → ℕ → Doc → Bool → ℕ → ℕ → List Dir → ℕ → Type 0
IsChosen costs w d flat column indentation choices last =
    (s : Doc) × (simple d flat ≡ Some s) × (choose costs w s column indentation ≡ chosen choices last)

-- its core, where it has one, has no frontier within the width there
abbrev pub HasNothing : {C : Type 0} → Costs C → ℕ → Doc → Bool → ℕ → ℕ → Type 0
HasNothing costs w d flat column indentation =
    (s : Doc) → simple d flat ≡ Some s → plain costs w s column indentation ≡ []

-- the new choices are the old ones and what is chosen, or the document has no core
abbrev pub IsPart : {C : Type 0} → Costs C → ℕ → Doc → Bool → ℕ → ℕ → List Dir → List Dir → Option ℕ → Type 0
IsPart costs w d flat column indentation old new None = (simple d flat ≡ None) × (take (length old) new ≡ old)
IsPart costs w d flat column indentation old new (Some last) =
    (added : List Dir) × (new ≡ old ++ added) × IsChosen costs w d flat column indentation added last

-- the new choices are the old ones and what is chosen, which is within the width, or the document has nothing within it
-- there
abbrev pub IsFirstPart : {C : Type 0} → Costs C → ℕ → Doc → Bool → ℕ → ℕ → List Dir → List Dir → Option ℕ → Type 0
IsFirstPart costs w d flat column indentation old new None =
    HasNothing costs w d flat column indentation × (new ≡ old)
IsFirstPart costs w d flat column indentation old new (Some last) =
    HasWithin w d column indentation flat
    × ((added : List Dir) × (new ≡ old ++ added) × IsChosen costs w d flat column indentation added last)

-- the same of the node in a place
abbrev pub NothingIsThere : {C N : Type 0} → Task C N → Place N → ℕ → Type 0
NothingIsThere task place column =
    HasNothing task.costs task.sought.limit (task.documents.document place.node) place.flat column place.indentation

abbrev pub IsPartOf : {C N : Type 0} → Task C N → Place N → ℕ → List Dir → List Dir → Option ℕ → Type 0
IsPartOf task place column =
    IsPart task.costs task.sought.limit (task.documents.document place.node) place.flat column place.indentation

abbrev pub IsFirstOf : {C N : Type 0} → Task C N → Place N → ℕ → List Dir → List Dir → Option ℕ → Type 0
IsFirstOf task place column =
    IsFirstPart task.costs task.sought.limit (task.documents.document place.node) place.flat column place.indentation

-- the choices are the best of the node
abbrev pub IsBestOf : {C N : Type 0} → Task C N → N → List Dir → Bool → Type 0
IsBestOf task n = IsBest task.costs task.sought.limit (task.documents.document n)
