-- Ways whose choices are still to come, the next one last.
use Rattle.std.specs.Prelude.{◌≡◌, ℕ, ◌+◌, ◌*◌, ◌<◌, ◌≤◌, List, [], ◌∷◌, ◌++◌, length, ⊤}
use Rattle.rf_base_document.specs.declared.directions.Dir.{Dir}
use Rattle.rf_frontier.specs.declared.hows.How.{How}
use Rattle.rf_frontier.specs.declared.hows.HowId.{HowId}
use Rattle.rf_frontier.specs.Ways.{choices_of}

-- the choices of these ways, those of the last first
unfoldable pub choices_to_come : List How → List HowId → List Dir
choices_to_come ways [] = []
choices_to_come ways (id ∷ rest) = choices_to_come ways rest ++ choices_of ways id.0

-- each of these is one of the ways, and has a choice
unfoldable pub EachHasChoices : List How → List HowId → Type 0
EachHasChoices ways [] = ⊤
EachHasChoices ways (id ∷ rest) = (id.0 < length ways) × (0 < length (choices_of ways id.0)) × EachHasChoices ways rest

-- one step of unfolding these choices: they were put at the end or are to come, and more is done than before
pub record Unfolds (ways : List How) (choices : List Dir) (pending pending_new : List HowId) (into into_new : List Dir)
    (limit : ℕ) : Type 0 where
  pub same : into_new ++ choices_to_come ways pending_new ≡ into ++ (choices ++ choices_to_come ways pending)
  pub each : EachHasChoices ways pending_new
  pub room : length into_new + length pending_new ≤ limit
  pub further : 2 * length into + length pending + 1 < 2 * length into_new + length pending_new
