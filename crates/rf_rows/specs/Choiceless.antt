-- Documents without a choice.
use Rattle.std.specs.Prelude.{Bool, true, false, ⊤}
use Rattle.rf_base_document.specs.Document.{Doc, Text, Newline, Hard, Concat, Nest, Align, Reset, Flatten, Choice, Only, Charge}
use Rattle.rf_rows.specs.declared.layouts.Layouts.{Layouts}
use Rattle.rf_rows.specs.declared.layouts.Layouts.TheVariants.{Bare, One, Two, Three, Unmade}

-- the document has no choice, and none of which one side is left
unfoldable pub IsChoiceless : Doc → Type 0
IsChoiceless (Text s len) = ⊤
IsChoiceless Newline = ⊤
IsChoiceless Hard = ⊤
IsChoiceless (Concat a b) = IsChoiceless a × IsChoiceless b
IsChoiceless (Nest n a) = IsChoiceless a
IsChoiceless (Align a) = IsChoiceless a
IsChoiceless (Reset a) = IsChoiceless a
IsChoiceless (Flatten a) = IsChoiceless a
IsChoiceless (Choice a b) = ⊥
IsChoiceless (Only dir a) = ⊥
IsChoiceless (Charge k a) = IsChoiceless a

-- a cell is laid out in one way
abbrev pub is_single : Layouts → Bool
is_single Bare = true
is_single (One a) = true
is_single _ = false
