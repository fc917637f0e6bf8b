-- How long the documents of trees are on one line: each layout of one is as long.
use Rattle.std.specs.Prelude.{ℕ, Bool, List}
use Rattle.std.specs.List.{AllByRecursion}
use Rattle.rf_base_document.specs.Document.{Doc}
use Rattle.rf_base_cut.specs.DocumentLines.{IsLong}
use Rattle.rf_base_file.specs.Rows.{Part}

-- each layout of the document on one line is n columns long, flat or not
abbrev pub Long : Doc → ℕ → Type 0
Long d n = (flat : Bool) → IsLong d flat n

-- the document has one length on one line, flat or not
abbrev pub HasLength : Doc → Type 0
HasLength d = (n : ℕ) × Long d n

-- the documents of these parts have
abbrev pub PartsHaveLengths : List Part → Type 0
PartsHaveLengths parts = AllByRecursion (λ p. HasLength p.doc) parts
