-- How much of a layout there is, and what a piece adds to it.
use Rattle.std.specs.Prelude.{◌≡◌, ℕ, ◌+◌, ◌*◌, ◌≤◌, List, length}
use Rattle.rf_base_document.specs.declared.limits.TheConstants.{LAYOUT_LIMIT}
use Rattle.rf_base_document.specs.Render.{Piece, layout, column_after}
use Rattle.rf_walk.specs.declared.extents.Extent.{Extent}

-- the characters of these pieces and their weight are counted, and neither is past the limit; the column is where the
-- pieces end, which is at most two for each character
pub record Covers (extent : Extent) (pieces : List Piece) (weight : ℕ) : Type 0 where
  pub counted : extent.characters ≡ length (layout pieces)
  pub weighed : extent.weight ≡ weight
  pub ends : extent.column ≡ column_after 0 pieces
  pub short : extent.characters ≤ LAYOUT_LIMIT
  pub light : extent.weight ≤ LAYOUT_LIMIT
  pub near : extent.column ≤ 2 * extent.characters

-- this many texts, line breaks and choices more are counted, and the rest is as before
pub record Weighed (old : Extent) (count : ℕ) (new : Extent) : Type 0 where
  pub characters : new.characters ≡ old.characters
  pub column : new.column ≡ old.column
  pub weight : new.weight ≡ old.weight + count
  pub light : new.weight ≤ LAYOUT_LIMIT

-- this many characters more are counted, and the rest is as before
pub record HasRoom (old : Extent) (count : ℕ) (new : Extent) : Type 0 where
  pub characters : new.characters ≡ old.characters + count
  pub short : new.characters ≤ LAYOUT_LIMIT
  pub column : new.column ≡ old.column
  pub weight : new.weight ≡ old.weight
