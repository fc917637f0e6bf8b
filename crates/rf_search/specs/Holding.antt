-- What holds of what is found while a best layout is sought.
use Rattle.std.specs.Prelude.{◌≡◌, ℕ, ◌<◌, List, [], length}
use Rattle.rf_base_document.specs.declared.directions.Dir.TheVariants.{Left, Right}
use Rattle.rf_base_document.specs.Document.{Concat}
use Rattle.rf_base_cost.specs.declared.measures.Measure.{Measure}
use Rattle.rf_frontier.specs.declared.hows.HowId.{HowId}
use Rattle.rf_frontier.specs.Ways.{KeepsWays}
use Rattle.rf_outline.specs.declared.documents.Part.{Part}
use Rattle.rf_outline.specs.Documents.{IsOpened}
use Rattle.rf_search.specs.declared.sought.Sought.{Sought}
use Rattle.rf_search.specs.declared.sought.Found.{Found}
use Rattle.rf_search.specs.declared.sought.Place.{Place}
use Rattle.rf_search.specs.Tasks.{Task}
use Rattle.rf_search.specs.Sought.{Turns, IsSought}
use Rattle.rf_search.specs.Rows.{RowsHold}
use Rattle.rf_search.specs.Places.{cut_of}
use Rattle.rf_search.specs.declared.taking.Behind.{Behind}
use Rattle.rf_search.specs.Taking.{measures_of}
use Rattle.rf_search.specs.Behind.{IsBeforeOf, IsBefore, AreBehindOf, AreBehind}

-- the widths are these, the ways to both sides are there, and nothing is found yet
pub record IsBegun {C : Type 0} (limit free : ℕ) (sought : Sought) (found : Found C) : Type 0 where
  pub limit_is : sought.limit ≡ limit
  pub free_is : sought.free ≡ free
  pub some : 0 < length found.hows
  pub left : Turns found.hows sought.left Left
  pub right : Turns found.hows sought.right Right
  pub rows : found.rows.items ≡ []

-- all that is told holds, of the nodes and of the rows
pub record Holds {C N : Type 0} (task : Task C N) (found : Found C) : Type 0 where
  pub told : IsSought task found.hows
  pub rows : RowsHold task found.hows found.rows.items

-- ways were added, and all that is told holds still
pub record GoesOn {C N : Type 0} (task : Task C N) (old new : Found C) : Type 0 where
  pub older : KeepsWays old.hows new.hows
  pub holds : Holds task new

-- the node in this place may be asked for behind the measure
abbrev pub IsAsked : {C N : Type 0} → Task C N → Found C → Place N → Measure C HowId → Type 0
IsAsked task found place m = IsBefore task found.hows place.node m

-- its node is of this kind, and has these parts
abbrev pub IsAt : {C N : Type 0} → Task C N → Place N → Part N → Type 0
IsAt task place part = IsOpened task.documents.document (task.documents.document place.node) part

-- these measures are what stands behind the measure of the node in this place
abbrev pub IsFound : {C N : Type 0} → Task C N → Found C → Found C → Place N → Measure C HowId →
    List (Measure C HowId) → Type 0
IsFound task old new place m kept =
    AreBehind task old.hows new.hows place.node place.flat place.indentation place.cut m kept

-- the same, as they are put behind it
abbrev pub IsGiven : {C N : Type 0} → Task C N → Found C → Found C → Place N → Measure C HowId → Measure C HowId →
    Behind → Type 0
IsGiven task old new place m k behind = IsFound task old new place m (measures_of behind k new.several)

-- the same of another node ahead of that in this place, as far as it matters there
abbrev pub IsGivenAhead : {C N : Type 0} → Task C N → Found C → Found C → Place N → N → Measure C HowId →
    Measure C HowId → Behind → Type 0
IsGivenAhead task old new place first m k behind =
    AreBehind task old.hows new.hows first place.flat place.indentation
    (cut_of task.sought.limit task.sought.free (task.documents.told place.node place.flat) place.cut) m
    (measures_of behind k new.several)

-- two nodes, one behind the other in this place, may be asked for behind the measure
abbrev pub AreAsked : {C N : Type 0} → Task C N → Found C → N → N → Measure C HowId → Type 0
AreAsked task found a b m =
    IsBeforeOf task.costs task.sought.limit found.hows
    (Concat (task.documents.document a) (task.documents.document b)) m

-- these measures are what stands behind the measure of both
abbrev pub AreFound : {C N : Type 0} → Task C N → Found C → Found C → Place N → N → N → Measure C HowId →
    List (Measure C HowId) → Type 0
AreFound task old new place a b m kept =
    AreBehindOf task.costs task.sought.limit old.hows new.hows
    (Concat (task.documents.document a) (task.documents.document b)) place.flat place.indentation place.cut m kept

-- the same, as they are put behind it
abbrev pub AreGiven : {C N : Type 0} → Task C N → Found C → Found C → Place N → N → N → Measure C HowId →
    Measure C HowId → Behind → Type 0
AreGiven task old new place a b m k behind = AreFound task old new place a b m (measures_of behind k new.several)
