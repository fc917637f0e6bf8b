-- What is written of a layout.
use Rattle.std.specs.Prelude.{◌≡◌, ℕ, List}
use Rattle.std.specs.Str.{chars}
use Rattle.std.specs.String.{string_bytes}
use Rattle.rf_base_document.specs.Render.{Piece, layout}
use Rattle.rf_walk.specs.Papers.{IsWithinLimits}
use Rattle.rf_walk.specs.Extents.{Covers}
use Rattle.rf_walk.specs.Within.{covers_within}
use Rattle.rf_render.specs.declared.pages.Page.{Page}

-- the characters of the page
abbrev pub page_text : Page → List ℕ
page_text page = chars (string_bytes page.text)

-- the page has the text of these pieces, and its extent covers them and this weight
pub record Shows (page : Page) (pieces : List Piece) (weight : ℕ) : Type 0 where
  pub text : page_text page ≡ layout pieces
  pub covers : Covers page.extent pieces weight

-- what a page shows keeps the limits
pub shows_within : (page : Page) (pieces : List Piece) (weight : ℕ) → Shows page pieces weight →
    IsWithinLimits pieces weight
shows_within page pieces weight shows = covers_within page.extent pieces weight shows.covers
