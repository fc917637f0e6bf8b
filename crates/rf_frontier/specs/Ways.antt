-- Ways and the choices that they unfold to.
use Rattle.std.specs.Prelude.{◌≡◌, ℕ, suc, ◌<◌, ◌≤◌, max, List, [], ◌∷◌, ◌++◌, length, Some, slice_get, slice_index_or}
use Rattle.std.specs.Prelude.{⊤}
use Rattle.rf_base_document.specs.declared.directions.Dir.{Dir}
use Rattle.rf_frontier.specs.declared.hows.How.{How}
use Rattle.rf_frontier.specs.declared.hows.How.TheVariants.{Leaf, Mark, Join}
use Rattle.rf_frontier.specs.declared.before.Before.{Before}
use Rattle.rf_frontier.specs.declared.before.Before.TheVariants.{Choice, Way}

-- one more than the greatest number of a part, or 0 where there is no part
abbrev pub way_end : How → ℕ
way_end Leaf = 0
way_end (Mark dir a) = suc a.0
way_end (Join a b) = max (suc a.0) (suc b.0)

-- the way has a choice: it begins with a direction, or joins two ways of which neither is the first of all
abbrev pub HasChoice : How → Type 0
HasChoice Leaf = ⊥
HasChoice (Mark dir a) = ⊤
HasChoice (Join a b) = (0 < a.0) × (0 < b.0)

-- the parts of each way have smaller numbers, and each way but the first has a choice
unfoldable pub IsWays : List How → Type 0
IsWays ways = (n : ℕ) (way : How) → slice_get ways n ≡ Some way → (way_end way ≤ n) × (0 < n → HasChoice way)

-- the choices of a way, whose parts have the choices that f gives
abbrev pub way_choices : (ℕ → List Dir) → How → List Dir
way_choices f Leaf = []
way_choices f (Mark dir a) = dir ∷ f a.0
way_choices f (Join a b) = f a.0 ++ f b.0

-- the choices of older ways, and those of these ways after them
unfoldable pub all_choices : List (List Dir) → List How → List (List Dir)
all_choices older [] = older
all_choices older (way ∷ ways) = all_choices (older ++ way_choices (λ n. slice_index_or older n []) way ∷ []) ways

-- the choices that way number id unfolds to
unfoldable pub choices_of : List How → ℕ → List Dir
choices_of ways id = slice_index_or (all_choices [] ways) id []

-- of a way that joins two ways, each of the two has a choice
abbrev pub JoinsChoices : List How → How → Type 0
JoinsChoices ways Leaf = ⊤
JoinsChoices ways (Mark dir a) = ⊤
JoinsChoices ways (Join a b) = (0 < length (choices_of ways a.0)) × (0 < length (choices_of ways b.0))

-- each older way unfolds to what it unfolded to
unfoldable pub KeepsWays : List How → List How → Type 0
KeepsWays old new = (length old ≤ length new) × ((n : ℕ) → n < length old → choices_of new n ≡ choices_of old n)

-- what comes before is no way, or one of the ways
abbrev pub IsIn : List How → Before → Type 0
IsIn ways (Choice dir) = ⊤
IsIn ways (Way first) = first.0 < length ways

-- the choices that come before
abbrev pub choices_before : List How → Before → List Dir
choices_before ways (Choice dir) = dir ∷ []
choices_before ways (Way first) = choices_of ways first.0
