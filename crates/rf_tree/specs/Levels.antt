-- What stands on a level.
use Rattle.std.specs.Prelude.{◌≡◌, List, [], ◌∷◌, ◌++◌}
use Rattle.rf_base_grammar.specs.Token.{Token}
use Rattle.rf_base_tree.specs.Trees.{Forest}
use Rattle.rf_base_tree.specs.Dots.{Mark}
use Rattle.rf_base_tree.specs.Dotting.{walk}
use Rattle.rf_base_tree.specs.Moves.{dots_so_far}
use Rattle.rf_tree.specs.Nodes.{UnfoldTo}
use Rattle.rf_tree.specs.Dots.{dotting_of}
use Rattle.rf_tree.specs.declared.nodes.At.{At}
use Rattle.rf_tree.specs.Told.{Node}
use Rattle.rf_tree.specs.declared.levels.Level.{Level}

-- these trees stand on the level, and their dots are kept
abbrev pub IsLevel : List Token → List Node → Level → Forest → Type 0
IsLevel ts nodes level trees = UnfoldTo ts nodes level.nodes.items trees × (dotting_of level.dots ≡ dots_so_far trees)

-- one more node stands on the level, and brings these data and dots
pub record Gains (at : At) (marks : List Mark) (old new : Level) : Type 0 where
  pub nodes : new.nodes.items ≡ old.nodes.items ++ at ∷ []
  pub dots : dotting_of new.dots ≡ walk (dotting_of old.dots) marks
