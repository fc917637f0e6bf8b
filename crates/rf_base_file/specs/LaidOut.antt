-- How a source is laid out.
use Rattle.std.specs.Prelude.{ℕ, ◌≡◌, ◌<◌, ◌≤◌, ◌⊎◌, false, Some, List, length}
use Rattle.rf_base_document.specs.declared.directions.Dir.{Dir}
use Rattle.rf_base_document.specs.declared.limits.TheConstants.{LAYOUT_LIMIT}
use Rattle.rf_base_document.specs.Document.{Doc}
use Rattle.rf_base_document.specs.Render.{Laid, render, layout}
use Rattle.rf_base_document.specs.Picks.{Picks, weight_of}
use Rattle.rf_base_document.specs.Simple.{simple}
use Rattle.rf_base_cost.specs.Cost.{Costs}
use Rattle.rf_base_optimum.specs.Chosen.{choose}
use Rattle.rf_base_grammar.specs.Token.{Token, normal}
use Rattle.rf_base_style.specs.Table.{StyleView}
use Rattle.rf_base_tree.specs.Trees.{Forest}
use Rattle.rf_base_file.specs.FileDocument.{file_doc}

-- the items as a layout in this style keeps them
abbrev pub kept : StyleView → List Token → List Token
kept style ts = normal style.blanks ts

-- the document of a source of these items and this tree in this style
abbrev pub source_doc : StyleView → List Token → Forest → Doc
source_doc style ts trees = file_doc style (kept style ts) trees

-- what a layout is chosen by: how its cost is counted, and within how many columns it is sought
pub record Objective (C : Type 0) : Type 0 where
  pub costs : Costs C
  pub limit : ℕ

-- these choices are chosen of the core of the document, and pick a resolution of it that has this layout at column 0
-- and indentation 0
pub record IsLaidOut {C : Type 0} (objective : Objective C) (d : Doc) (choices : List Dir) (resolution : Doc)
    (text : List ℕ) : Type 0 where
  pub core : Doc
  pub core_is : simple d false ≡ Some core
  pub chosen : choices ≡ (choose objective.costs objective.limit core 0 0).choices
  pub picked : Picks d choices resolution
  pub whole : Laid
  pub rendered : render resolution 0 0 false ≡ Some whole
  pub text_is : text ≡ layout whole.pieces

-- neither the text nor the weight of the resolution is past the limit
abbrev pub IsShort : List Dir → Doc → List ℕ → Type 0
IsShort choices resolution text = (length text ≤ LAYOUT_LIMIT) × (weight_of resolution choices ≤ LAYOUT_LIMIT)

-- the text or the weight of the resolution is past the limit
abbrev pub IsLong : List Dir → Doc → List ℕ → Type 0
IsLong choices resolution text = (LAYOUT_LIMIT < length text) ⊎ (LAYOUT_LIMIT < weight_of resolution choices)
