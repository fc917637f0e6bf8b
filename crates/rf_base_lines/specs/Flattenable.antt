-- Documents without a hard newline and a charge, which are as long flat as they are on one line.
use Rattle.std.specs.Prelude.{List}
use Rattle.std.specs.List.{AllByRecursion}
use Rattle.rf_base_document.specs.Document.{Doc}
use Rattle.rf_base_cut.specs.DocumentLines.{IsFlattenable}
use Rattle.rf_base_file.specs.Rows.{Part}

-- each of these documents is without a hard newline and a charge
abbrev pub EachIsFlattenable : List Doc → Type 0
EachIsFlattenable docs = AllByRecursion (λ d. IsFlattenable d) docs

-- the document of each of these parts is
abbrev pub PartsAreFlattenable : List Part → Type 0
PartsAreFlattenable parts = AllByRecursion (λ p. IsFlattenable p.doc) parts
