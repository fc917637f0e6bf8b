-- How long texts are at most.
use Rattle.std.proofs.Common.{ℕ, ◌*◌, ◌≤◌, List, [], ◌∷◌, length, Option, Some, None, arith}
use Rattle.std.specs.Prelude.{min}
use Rattle.std.specs.Option.{option_map_or}
use Rattle.rf_base_style.specs.declared.columns.Columns.TheVariants.{Characters, Display}
use Rattle.rf_base_style.specs.Columns.{display_width, display_length, length_in}
use Rattle.rf_base_style.specs.Laws.{LengthsKeepLimits}

-- a width that is cut down to 2, or 1 where there is none, is at most 2
at_most_two : (width : Option ℕ) → option_map_or (λ w. min w 2) width 1 ≤ 2
at_most_two None = omega arith
at_most_two (Some w) = grind arith

-- a character takes up at most two columns
pub display_width-bound : (c : ℕ) → display_width c ≤ 2
unfolding display_width
display_width-bound c = at_most_two _

-- a text takes up at most two columns a character
pub display_length-bound : (text : List ℕ) → display_length text ≤ 2 * length text
unfolding display_length
display_length-bound [] = omega arith
display_length-bound (c ∷ text) = omega (arith, display_width-bound c, display_length-bound text)

pub lengths_keep_limits : LengthsKeepLimits
unfolding length_in
lengths_keep_limits Characters text = omega arith
lengths_keep_limits Display text = display_length-bound text
