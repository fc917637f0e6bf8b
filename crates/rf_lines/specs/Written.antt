-- What is written of a source on one line, as it stands there.
use Rattle.std.specs.Prelude.{ℕ, ◌≡◌, ◌+◌, ◌≤◌, leb, if◌then◌else◌, Bool, true, Option, Some, List, [], ◌∷◌, ◌++◌, length, slice_get, slice_range, ⊤}
use Rattle.std.specs.Str.{chars, IsUtf8}
use Rattle.rf_base_document.specs.declared.directions.Dir.{Dir}
use Rattle.rf_base_document.specs.declared.directions.Dir.TheVariants.{Left}
use Rattle.rf_base_document.specs.Document.{Doc}
use Rattle.rf_base_cut.specs.DocumentLines.{IsFlattenable}
use Rattle.rf_base_grammar.specs.Token.{Token}
use Rattle.rf_base_tree.specs.declared.separators.Want.{Want}
use Rattle.rf_base_tree.specs.declared.separators.Want.TheVariants as want
use Rattle.rf_base_tree.specs.declared.separators.Separator.{Separator}
use Rattle.rf_base_tree.specs.Cut.{separator_between}
use Rattle.rf_base_lines.specs.Spelled.{Spelled, spelled, spelled_both, spelled_line, spelled_all}
use Rattle.rf_base_lines.specs.Flattenable.{EachIsFlattenable}
use Rattle.rf_base_lines.specs.Lists.{MayBreak}

-- a line, and the choices by which the same line is written where all is flat
pub record Lined : Type 0 where
  pub line : Spelled
  pub flat_how : List Dir

abbrev pub lined : Spelled → List Dir → Lined
lined line flat_how = record { line = line; flat_how = flat_how }

-- the same with these characters
abbrev pub with_text : List ℕ → Lined → Lined
with_text text l = lined (spelled l.line.len l.line.how text l.line.words) l.flat_how

-- the line as it is written where all is flat
abbrev pub flat_line : Lined → Spelled
flat_line l = spelled l.line.len l.flat_how l.line.text l.line.words

-- a stretch of a source that stands on one line: from which byte to which, how many columns it takes up, the choices
-- that give it, those that give it where all is flat, and how many texts it has
pub record Stretch : Type 0 where
  pub from : ℕ
  pub to : ℕ
  pub len : ℕ
  pub how : List Dir
  pub flat_how : List Dir
  pub words : ℕ

abbrev pub stretch : ℕ → ℕ → ℕ → List Dir → List Dir → ℕ → Stretch
stretch from to len how flat_how words =
    record { from = from; to = to; len = len; how = how; flat_how = flat_how; words = words }

-- none, at this byte
abbrev pub stretch_at : ℕ → Stretch
stretch_at at = stretch at at 0 [] [] 0

-- the stretch with one text more, of so many columns, that begins where it ends and goes to this byte
abbrev pub longer : Stretch → ℕ → ℕ → Stretch
longer s end columns = stretch s.from end (s.len + columns) s.how s.flat_how (s.words + 1)

-- a text from one byte to another was added
abbrev pub IsLonger : Stretch → Stretch → ℕ → ℕ → ℕ → Type 0
IsLonger old new start end columns = (old.to ≡ start) × (new ≡ longer old end columns)

-- the space that stands in the source at the stretch's end was
abbrev pub AddsSpace : List ℕ → Stretch → Stretch → Type 0
AddsSpace src old new = (slice_get src old.to ≡ Some 32) × IsLonger old new old.to (old.to + 1) 1

-- the stretch with these choices behind its own
abbrev pub turned : Stretch → List Dir → List Dir → Stretch
turned s dirs flat_dirs = stretch s.from s.to s.len (s.how ++ dirs) (s.flat_how ++ flat_dirs) s.words

-- its characters; its line, and that where all is flat
abbrev pub chars_on : List ℕ → Stretch → List ℕ
chars_on src s = chars (slice_range src s.from s.to)

abbrev pub line_on : List ℕ → Stretch → Spelled
line_on src s = spelled s.len s.how (chars_on src s) s.words

abbrev pub flat_line_on : List ℕ → Stretch → Spelled
flat_line_on src s = spelled s.len s.flat_how (chars_on src s) s.words

-- what is written of the stretch, whose characters are these
abbrev pub shown : List ℕ → Stretch → Lined
shown text s = lined (spelled s.len s.how text s.words) s.flat_how

-- whole characters of the source stand between these bytes
pub record IsPart (src : List ℕ) (from to : ℕ) : Type 0 where
  pub ordered : from ≤ to
  pub within : to ≤ length src
  pub utf8 : IsUtf8 (slice_range src from to)

-- they stand on the stretch
abbrev pub IsOn : List ℕ → Stretch → Type 0
IsOn src s = IsPart src s.from s.to

-- the new line is the old one and this behind it
abbrev pub IsBehind : Spelled → Spelled → Option Spelled → Type 0
IsBehind old new o = spelled_both (Some old) o ≡ Some new

-- these documents in a row, flat or not, and where all is flat, stand on the new stretch behind what stands on the old
-- one, and each is without a hard newline and a charge
pub record IsGrown (src : List ℕ) (flat : Bool) (old new : Stretch) (ds : List Doc) : Type 0 where
  pub stands : IsOn src new
  pub line : IsBehind (line_on src old) (line_on src new) (spelled_all ds flat)
  pub flat_line : IsBehind (flat_line_on src old) (flat_line_on src new) (spelled_all ds true)
  pub flattenable : EachIsFlattenable ds

-- the document, flat or not, and where all is flat, is written so, and is without a hard newline and a charge
pub record IsLineOf (flat : Bool) (l : Lined) (d : Doc) : Type 0 where
  pub line : spelled_line d flat ≡ Some l.line
  pub flat_line : spelled_line d true ≡ Some (flat_line l)
  pub flattenable : IsFlattenable d

-- the directions to the layout where all is flat of a list of n slots that may stand on one line
abbrev pub flat_dirs : ℕ → List Dir
flat_dirs n = if leb n 1 then [] else Left ∷ []

-- both items are there, and this stands between them where it is wanted
abbrev pub IsSeparator : List Token → ℕ → ℕ → Want → Separator → Type 0
IsSeparator ts before next want s =
    (a : Token) × (b : Token) × (slice_get ts before ≡ Some a) × (slice_get ts next ≡ Some b)
    × (s ≡ separator_between a b want)

-- what is wanted on one line where this is: in place of a line a space; and a line, where it is wanted, may stand there
abbrev pub spaced : Want → Want
spaced want.Line = want.Space
spaced w = w

abbrev pub MayStand : List Token → ℕ → ℕ → Want → Type 0
MayStand ts before next want.Line = MayBreak ts before next
MayStand ts before next w = ⊤
