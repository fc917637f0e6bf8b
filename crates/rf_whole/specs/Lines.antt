-- What forms in a row are laid out as, with the line ends behind each.
use Rattle.std.specs.Prelude.{ℕ, ◌≡◌, ◌+◌, ◌<◌, ◌≤◌, ◌↔◌, ◌⊎◌, Bool, IsTrue, List, length}
use Rattle.rf_base_document.specs.declared.directions.Dir.{Dir}
use Rattle.rf_base_document.specs.declared.limits.TheConstants.{LAYOUT_LIMIT}
use Rattle.rf_base_document.specs.Render.{Piece, layout}
use Rattle.rf_base_document.specs.Picks.{marks_of}
use Rattle.rf_base_cost.specs.Cost.{Costs, cost_after, PiecesAreCounted}
use Rattle.rf_base_optimum.specs.Paragraphs.{Paragraph, EachLaidOut, EachHasWithin, chosen_apart}

-- the choices are those that are chosen of each paragraph's core, one after the other; the text, its characters, the
-- cost and the weight are those of the paragraphs' layouts by these choices, which aren't past the limit; and they are
-- within the columns exactly where some resolution of each is
pub record AreLines {C : Type 0} (costs : Costs C) (w : ℕ) (paragraphs : List Paragraph) (choices : List Dir)
    (text : List ℕ) (cost : C) (within : Bool) (characters weight : ℕ) : Type 0 where
  pub pieces : List Piece
  pub laid : EachLaidOut paragraphs choices pieces
  pub chosen : choices ≡ chosen_apart costs w paragraphs
  pub text_is : text ≡ layout pieces
  pub counted : PiecesAreCounted pieces
  pub cost_is : cost ≡ cost_after costs (costs.text 0 0) pieces
  pub within_is : IsTrue within ↔ EachHasWithin w paragraphs
  pub characters_is : characters ≡ length text
  pub weight_is : weight ≡ marks_of pieces + length choices
  pub short : characters ≤ LAYOUT_LIMIT
  pub light : weight ≤ LAYOUT_LIMIT

-- the layouts of the paragraphs, or their weight, are past the limit together
abbrev pub ArePastLimit : {C : Type 0} → Costs C → ℕ → List Paragraph → Type 0
ArePastLimit costs w paragraphs =
    (pieces : List Piece) × EachLaidOut paragraphs (chosen_apart costs w paragraphs) pieces
    × ((LAYOUT_LIMIT < length (layout pieces))
    ⊎ (LAYOUT_LIMIT < marks_of pieces + length (chosen_apart costs w paragraphs)))
