-- What it means that a text reads back.
use Rattle.std.specs.Prelude.{ℕ, ◌≡◌, List, map}
use Rattle.rf_base_grammar.specs.Token.{Token, unplaced}
use Rattle.rf_base_grammar.specs.Itemised.{Itemised}
use Rattle.rf_base_style.specs.Table.{StyleView}
use Rattle.rf_base_tree.specs.Trees.{Forest}
use Rattle.rf_base_tree.specs.Formed.{Treed}
use Rattle.rf_base_file.specs.LaidOut.{kept}

-- the text is itemised as the items, as a layout in this style keeps them, and treed as these trees
pub record ReadsBack (style : StyleView) (ts : List Token) (trees : Forest) (text : List ℕ) : Type 0 where
  pub back : List Token
  pub itemised : Itemised text back
  pub same : map unplaced back ≡ map unplaced (kept style ts)
  pub treed : Treed back trees
