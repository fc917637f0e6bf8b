-- Lists that aren't made of pieces: their documents, and their lines.
use Rattle.std.specs.Prelude.{◌≡◌, ℕ, ◌+◌, ◌≤◌, Bool, true, false, List, ◌++◌, length, Some, slice_get, ⊤}
use Rattle.std.specs.List.{slice_range}
use Rattle.std.specs.Str.{chars}
use Rattle.rf_base_document.specs.declared.directions.Dir.{Dir}
use Rattle.rf_base_document.specs.Document.{Doc, IsDocument}
use Rattle.rf_base_cut.specs.DocumentLines.{IsFlattenable}
use Rattle.rf_base_lines.specs.Spelled.{Spelled, spelled, spelled_line}
use Rattle.rf_ways.specs.NodeDocuments.{node_doc}
use Rattle.rf_rows.specs.declared.unmade.ListLine.{ListLine}
use Rattle.rf_rows.specs.declared.unmade.Unmade.{Unmade}
use Rattle.rf_rows.specs.declared.layouts.Layouts.{Layouts}
use Rattle.rf_rows.specs.declared.layouts.Layouts.TheVariants.{Bare, One, Two, Three}
use Rattle.rf_rows.specs.declared.layouts.Layouts.TheVariants as layouts
use Rattle.rf_rows.specs.declared.cells.Cell.{Cell}

-- the list's document
abbrev pub list_doc : ListLine → Doc
list_doc line = node_doc line.placed

-- the line as it is written, by these choices
abbrev pub written : ListLine → List Dir → Spelled
written line turns = spelled line.columns turns (chars line.text.now) line.words

-- the list's document keeps the limits, has no hard newline and no charge, and on one line is written so, by these
-- choices where it isn't flat and by those where it is
pub record IsLineOf (line : ListLine) (loose flat : List Dir) : Type 0 where
  pub document : IsDocument (list_doc line)
  pub flattenable : IsFlattenable (list_doc line)
  pub loose_is : spelled_line (list_doc line) false ≡ Some (written line loose)
  pub flat_is : spelled_line (list_doc line) true ≡ Some (written line flat)

-- the choices of a list that isn't made, flat or not, among those of all lines
abbrev pub turns_of : List Dir → Unmade → Bool → List Dir
turns_of turns u false = slice_range turns u.turns (u.turns + u.loose)
turns_of turns u true = slice_range turns (u.turns + u.loose) (u.turns + u.loose + u.flat)

-- its choices are there, and its line is as it is told
pub record IsUnmade (turns : List Dir) (u : Unmade) : Type 0 where
  pub within : u.turns + u.loose + u.flat ≤ length turns
  pub line : IsLineOf u.line (turns_of turns u false) (turns_of turns u true)

-- the choices of a line were put behind the others, and this is the list
pub record IsKept (old new : List Dir) (line : ListLine) (loose flat : List Dir) (u : Unmade) : Type 0 where
  pub line_is : u.line ≡ line
  pub turns_are : new ≡ old ++ (loose ++ flat)
  pub first : u.turns ≡ length old
  pub loose_many : u.loose ≡ length loose
  pub flat_many : u.flat ≡ length flat

-- these are the layouts of pieces, or of a list whose line is as it is told
abbrev pub HasLine : List Dir → Layouts → Type 0
HasLine turns Bare = ⊤
HasLine turns (One a) = ⊤
HasLine turns (Two a b) = ⊤
HasLine turns (Three a b c) = ⊤
HasLine turns (layouts.Unmade u) = IsUnmade turns u

-- those of each cell are
unfoldable pub HaveLines : List Cell → List Dir → Type 0
HaveLines cs turns = (k : ℕ) (c : Cell) → slice_get cs k ≡ Some c → HasLine turns c.layouts

-- these are the layouts of pieces
abbrev pub IsMade : Layouts → Type 0
IsMade Bare = ⊤
IsMade (One a) = ⊤
IsMade (Two a b) = ⊤
IsMade (Three a b c) = ⊤
IsMade (layouts.Unmade u) = ⊥

-- those of each cell are
unfoldable pub AllAreMade : List Cell → Type 0
AllAreMade cs = (k : ℕ) (c : Cell) → slice_get cs k ≡ Some c → IsMade c.layouts
