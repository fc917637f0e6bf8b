-- What is written for an accepted source.
use Rattle.std.specs.Prelude.{ℕ, ◌≡◌, ◌↔◌, Bool, false, IsTrue, List, Some}
use Rattle.rf_base_document.specs.declared.directions.Dir.{Dir}
use Rattle.rf_base_document.specs.Document.{Doc}
use Rattle.rf_base_cost.specs.Cost.{cost_of}
use Rattle.rf_base_optimum.specs.Best.{HasWithin, Best}
use Rattle.rf_base_grammar.specs.Token.{Token}
use Rattle.rf_base_grammar.specs.Sources.{HasItems}
use Rattle.rf_base_grammar.specs.TrailingSpace.{NoTrailingSpace}
use Rattle.rf_base_style.specs.Table.{StyleView}
use Rattle.rf_base_tree.specs.Trees.{Forest}
use Rattle.rf_base_tree.specs.Formed.{Treed}
use Rattle.rf_base_file.specs.LaidOut.{source_doc, Objective, IsLaidOut, IsShort, IsLong}
use Rattle.rf_base_file.specs.Reading.{ReadsBack}

-- a layout as it is given: its choices, its text, its cost, and whether it is within the columns that it is sought in
pub record Layout (C : Type 0) : Type 0 where
  pub choices : List Dir
  pub text : List ℕ
  pub cost : C
  pub within : Bool

-- the source's bytes are those of items that have a tree; the choices pick the resolution of its document in this style
-- that is laid out, and are best for the document; the text is its layout, reads back as these items and this tree, and
-- has no trailing space but in an item; the cost is the layout's; and it is within the columns exactly where some
-- resolution is
pub record IsFormatted {C : Type 0} (style : StyleView) (objective : Objective C) (source : List ℕ)
    (given : Layout C) : Type 0 where
  pub tokens : List Token
  pub trees : Forest
  pub itemised : HasItems source tokens
  pub treed : Treed tokens trees
  pub resolution : Doc
  pub laid_out : IsLaidOut objective (source_doc style tokens trees) given.choices resolution given.text
  pub short : IsShort given.choices resolution given.text
  pub best : Best objective.costs objective.limit (source_doc style tokens trees) 0 0 false given.choices
  pub cost_is : cost_of objective.costs laid_out.whole.pieces ≡ Some given.cost
  pub within_is : IsTrue given.within ↔ HasWithin objective.limit (source_doc style tokens trees) 0 0 false
  pub reads_back : ReadsBack style tokens trees given.text
  pub no_trailing_space : NoTrailingSpace given.text

-- the source's bytes are those of items that have a tree, and the resolution of its document in this style that would
-- be laid out is past the limit
pub record IsTooLong {C : Type 0} (style : StyleView) (objective : Objective C) (source : List ℕ) : Type 0 where
  pub tokens : List Token
  pub trees : Forest
  pub itemised : HasItems source tokens
  pub treed : Treed tokens trees
  pub choices : List Dir
  pub resolution : Doc
  pub text : List ℕ
  pub laid_out : IsLaidOut objective (source_doc style tokens trees) choices resolution text
  pub long : IsLong choices resolution text
