-- What holds of what stays the same while a best layout is sought.
use Rattle.std.specs.Prelude.{◌≡◌, ◌<◌, ◌≤◌, List, [], ◌∷◌, length}
use Rattle.rf_base_document.specs.declared.directions.Dir.{Dir}
use Rattle.rf_base_document.specs.declared.directions.Dir.TheVariants.{Left, Right}
use Rattle.rf_base_cost.specs.Cost.{Lawful}
use Rattle.rf_base_cut.specs.Indifferent.{IsFree}
use Rattle.rf_base_cut.specs.OneLine.{NothingIsLeast}
use Rattle.rf_cost.specs.declared.factory.Factory.{Ghosts as Counting}
use Rattle.rf_frontier.specs.declared.hows.How.{How}
use Rattle.rf_frontier.specs.declared.hows.HowId.{HowId}
use Rattle.rf_frontier.specs.Ways.{choices_of}
use Rattle.rf_outline.specs.declared.documents.Documents.{Ghosts as Telling}
use Rattle.rf_outline.specs.Documents.{IsTold}
use Rattle.rf_search.specs.declared.sought.Setting.{Setting}
use Rattle.rf_search.specs.Tasks.{Task}

-- the task of a setting
abbrev pub task : {D F N C : Type 0} {d : Telling D N} {f : Counting F C} → Setting D F N C d f → Task C N
task {d = d} {f = f} setting =
    record { costs = f.costs setting.factory.now; documents = d.view setting.documents.now; sought = setting.sought }

-- the way has this direction alone
abbrev pub Turns : List How → HowId → Dir → Type 0
Turns ways id dir = (id.0 < length ways) × (choices_of ways id.0 ≡ dir ∷ [])

-- texts up to a column within the computation width cost nothing, breaks and charges more, and what is told of the
-- nodes and of both ways holds
pub record IsSought {C N : Type 0} (task : Task C N) (ways : List How) : Type 0 where
  pub lawful : Lawful task.costs
  pub narrow : task.sought.limit ≤ 400
  pub near : task.sought.free ≤ task.sought.limit
  pub texts : IsFree task.costs task.sought.free
  pub nothing : NothingIsLeast task.costs
  pub told : IsTold task.documents ways
  pub some : 0 < length ways
  pub left : Turns ways task.sought.left Left
  pub right : Turns ways task.sought.right Right
