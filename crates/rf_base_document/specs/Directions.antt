-- How directions are written.
use Rattle.std.specs.Prelude.{ℕ, List, [], ◌∷◌}
use Rattle.rf_base_document.specs.declared.directions.Dir.{Dir}
use Rattle.rf_base_document.specs.declared.directions.Dir.TheVariants.{Left, Right}

-- `L` for the first alternative, `R` for the second
abbrev pub letter : Dir → List ℕ
letter Left = 76 ∷ []
letter Right = 82 ∷ []
