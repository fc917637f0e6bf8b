-- What is proved of the definitions.
use Rattle.std.specs.Prelude.{◌≡◌, ℕ, List, Ok}
use Rattle.rf_base_style.specs.Table.{IsStyle}
use Rattle.rf_style.specs.declared.style.Style.{Style}
use Rattle.rf_style.specs.StyleOf.{seen, style_of}

-- what a style file says is a style: its numbers are in their ranges
abbrev pub SaidIsStyle : Type 0
SaidIsStyle = (bytes : List ℕ) (style : Style) → style_of bytes ≡ Ok style → IsStyle (seen style)
