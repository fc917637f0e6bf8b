-- How many columns texts take up, and how the ways of counting them are named.
use Rattle.std.specs.Prelude.{ℕ, ◌+◌, min, false, List, [], ◌∷◌, length, Option, Some, None, codes, if◌then◌else◌}
use Rattle.std.specs.Option.{option_map_or}
use Rattle.std.specs.Str.{bytes_eq}
use Rattle.unicode_width.specs.Width.{char_width}
use Rattle.rf_base_style.specs.declared.columns.Columns.{Columns}
use Rattle.rf_base_style.specs.declared.columns.Columns.TheVariants.{Characters, Display}

-- the columns that a terminal gives the character by itself: at most 2, and 1 where it has no width
-- (Unicode Standard Annex 11)
unfoldable pub display_width : ℕ → ℕ
display_width c = option_map_or (λ width. min width 2) (char_width false c) 1

-- the columns that a terminal gives each character of the text by itself, together
unfoldable pub display_length : List ℕ → ℕ
display_length [] = 0
display_length (c ∷ text) = display_width c + display_length text

-- how many columns the text takes up, counted in this way
unfoldable pub length_in : Columns → List ℕ → ℕ
length_in Characters text = length text
length_in Display text = display_length text

-- the way of counting columns of this name
unfoldable pub columns_named : List ℕ → Option Columns
columns_named text =
    if bytes_eq text (codes "characters") then Some Characters
    else if bytes_eq text (codes "display") then Some Display
    else None
