-- What a file is laid out as form by form.
use Rattle.std.specs.Prelude.{ℕ, ◌≡◌, ◌↔◌, false, IsTrue, List, Some}
use Rattle.std.specs.Str.{chars}
use Rattle.std.specs.String.{string_bytes}
use Rattle.rf_base_document.specs.Document.{Doc}
use Rattle.rf_base_document.specs.Render.{Laid, render, layout}
use Rattle.rf_base_document.specs.Picks.{Picks}
use Rattle.rf_base_document.specs.TooLong.{IsTooLong}
use Rattle.rf_base_cost.specs.Cost.{cost_of}
use Rattle.rf_base_optimum.specs.Best.{HasWithin, Best}
use Rattle.rf_base_grammar.specs.Token.{Token}
use Rattle.rf_base_grammar.specs.TrailingSpace.{NoTrailingSpace}
use Rattle.rf_base_style.specs.Table.{StyleView}
use Rattle.rf_base_tree.specs.Trees.{Forest}
use Rattle.rf_base_file.specs.LaidOut.{kept, source_doc, Objective, IsShort}
use Rattle.rf_base_file.specs.Formatted.{Layout}
use Rattle.rf_base_file.specs.ByForms.{by_forms}
use Rattle.rf_base_file.specs.Reading.{ReadsBack}
use Rattle.rf_base_grammar.specs.Itemised.{Itemised}
use Rattle.rf_base_tree.specs.Formed.{Treed}
use Rattle.rf_base_cost.specs.Cost.{Costs}
use Rattle.rf_tree.specs.Kept.{IsTreeOf}
use Rattle.rf_tree.specs.declared.trees.Tree.{Tree}
use Rattle.rf_whole.specs.declared.formatting.Formatted.{Formatted}

-- the text has these items and these trees, and the tree that the program keeps is that of the items as a layout in
-- this style keeps them
pub record IsSettled (style : StyleView) (tree : Tree) (text : List ℕ) (ts : List Token) (trees : Forest) : Type 0 where
  pub itemised : Itemised text ts
  pub treed : Treed ts trees
  pub tree_of : IsTreeOf tree (kept style ts) trees

-- what is sought: costs counted so, within this many columns
abbrev pub sought : {C : Type 0} → Costs C → ℕ → Objective C
sought costs w = record { costs = costs; limit = w }

-- the layout that the program has made
abbrev pub layout_of : {C : Type 0} → Formatted C → Layout C
layout_of made =
    record {
      choices = made.choices.items;
      text = chars
          (string_bytes made.text);
      cost = made.cost;
      within = made.within;
    }

-- the choices are what is chosen of the source form by form, and are best for its document; they pick the resolution
-- that is laid out; the text and the cost are the resolution's, which isn't past the limit; the text reads back, and no
-- line of it ends in a space but in an item; and it is within the columns exactly where some resolution is
pub record IsWhole {C : Type 0} (objective : Objective C) (style : StyleView) (ts : List Token) (trees : Forest)
    (given : Layout C) : Type 0 where
  pub chosen : given.choices ≡ by_forms objective style (kept style ts) trees
  pub resolution : Doc
  pub picked : Picks (source_doc style ts trees) given.choices resolution
  pub whole : Laid
  pub rendered : render resolution 0 0 false ≡ Some whole
  pub text_is : given.text ≡ layout whole.pieces
  pub short : IsShort given.choices resolution given.text
  pub best : Best objective.costs objective.limit (source_doc style ts trees) 0 0 false given.choices
  pub cost_is : cost_of objective.costs whole.pieces ≡ Some given.cost
  pub within_is : IsTrue given.within ↔ HasWithin objective.limit (source_doc style ts trees) 0 0 false
  pub reads_back : ReadsBack style ts trees given.text
  pub no_trailing_space : NoTrailingSpace given.text

-- the resolution of the source's document that is chosen form by form is past the limit
abbrev pub IsWholeLong : {C : Type 0} → Objective C → StyleView → List Token → Forest → Type 0
IsWholeLong objective style ts trees =
    (e : Doc) × Picks (source_doc style ts trees) (by_forms objective style (kept style ts) trees) e
    × IsTooLong e (by_forms objective style (kept style ts) trees)
