-- Lists on one line: what stands between their brackets, and which of their layouts that is.
use Rattle.std.specs.Prelude.{ℕ, ◌≡◌, ◌+◌, ◌&&◌, ◌⊎◌, not, leb, if◌then◌else◌, Bool, true, false, Option, None, Some, List, [], ◌∷◌, slice_get, ⊤}
use Rattle.rf_base_document.specs.declared.directions.Dir.{Dir}
use Rattle.rf_base_document.specs.declared.directions.Dir.TheVariants.{Left, Right}
use Rattle.rf_base_document.specs.Document.{Doc}
use Rattle.rf_base_grammar.specs.Token.{Token}
use Rattle.rf_base_grammar.specs.Woven.{trails}
use Rattle.rf_base_style.specs.declared.rules.Charges.{Charges}
use Rattle.rf_base_tree.specs.declared.separators.Want.TheVariants as want
use Rattle.rf_base_tree.specs.declared.separators.Separator.{Separator}
use Rattle.rf_base_tree.specs.declared.separators.Separator.TheVariants as separator
use Rattle.rf_base_file.specs.declared.shapes.Shape.{Shape}
use Rattle.rf_base_file.specs.declared.shapes.Shape.TheVariants.{Application, Hanging, Plain, Body}
use Rattle.rf_base_file.specs.Rows.{Part, step, steps_wanting, inner_docs}
use Rattle.rf_base_lines.specs.Spelled.{Spelled, spelled_text, spelled_nothing, spelled_line, spelled_all}

-- a separator on one line: nothing or one space, and a line only where flat
abbrev pub spelled_separator : Separator → Bool → Option Spelled
spelled_separator separator.Empty flat = Some spelled_nothing
spelled_separator separator.Space flat = Some (spelled_text (32 ∷ []) 1)
spelled_separator separator.Line true = Some (spelled_text (32 ∷ []) 1)
spelled_separator separator.Line false = None
spelled_separator (separator.Hard blanks) flat = None

-- what stands between the brackets of a list of these parts: the parts, with gaps before, between and behind them, of
-- which a space is wanted only between parts; without parts nothing
abbrev pub between_docs : List Token → ℕ → List Part → ℕ → List Doc
between_docs ts opener [] closer = []
between_docs ts opener (first ∷ others) closer =
    inner_docs ts opener (step want.Nothing first ∷ steps_wanting want.Space others) closer

-- the items of these numbers are there, and the second is no comment that trails: a line may stand between them
abbrev pub MayBreak : List Token → ℕ → ℕ → Type 0
MayBreak ts before next =
    (a : Token) × (b : Token) × (slice_get ts before ≡ Some a) × (slice_get ts next ≡ Some b) × (trails b ≡ false)

-- a line may stand before each of these parts, the first of which stands behind the item of this number
unfoldable pub EachMayBreak : List Token → ℕ → List Part → Type 0
EachMayBreak ts before [] = ⊤
EachMayBreak ts before (p ∷ parts) = MayBreak ts before p.first × EachMayBreak ts p.last parts

-- a line may stand between each two neighbours of these parts
abbrev pub PartsMayBreak : List Token → List Part → Type 0
PartsMayBreak ts [] = ⊤
PartsMayBreak ts (p ∷ parts) = EachMayBreak ts p.last parts

-- one of these parts is on no line unless flat, as a slot that begins with a comment is and goes on behind it
unfoldable pub SomeBreaks : List Part → Type 0
SomeBreaks [] = ⊥
SomeBreaks (p ∷ parts) = (spelled_line p.doc false ≡ None) ⊎ SomeBreaks parts

-- where it is said that what stands between the brackets of a list breaks, it is on no line unless flat
abbrev pub BreaksWhere : Bool → List Token → ℕ → List Part → ℕ → Type 0
BreaksWhere breaks ts opener parts closer =
    breaks ≡ true → spelled_all (between_docs ts opener parts closer) false ≡ None

-- nothing is charged
abbrev pub IsUncharged : Charges → Type 0
IsUncharged charges = (charges.broken ≡ 0) × (charges.hung ≡ 0) × (charges.flat ≡ 0)

-- the layout of a list on one line: the directions to it, and whether the slots are flat in it
pub record Turns : Type 0 where
  pub dirs : List Dir
  pub flat : Bool

abbrev pub turns : List Dir → Bool → Turns
turns dirs flat = record { dirs = dirs; flat = flat }

-- the first of two layouts, where that has no break, which leaves the slots as they are; or the other, which is flat
abbrev pub first_turn : Bool → List Dir → Turns
first_turn fits other = if fits then turns (Left ∷ []) false else turns other true

-- whether n slots are at most so many, and what stands between the brackets doesn't break
abbrev pub fits : ℕ → ℕ → Bool → Bool
fits n most breaks = not breaks && leb n most

-- of a list of n slots, two or more, that isn't flat, and that breaks or not: what is hung has no break of its own
-- behind two slots, and a body none where each slot behind the first is a header; and else all is flat, which is the
-- last of the layouts
abbrev pub turns_unless_flat : Shape → ℕ → Bool → Turns
turns_unless_flat Application n breaks =
    if fits n 2 breaks then turns (Right ∷ Left ∷ []) false else turns (Right ∷ Right ∷ []) true
turns_unless_flat Hanging n breaks = first_turn (fits n 2 breaks) (Right ∷ [])
turns_unless_flat Plain n breaks = turns (Right ∷ []) true
turns_unless_flat (Body headers one_line) n breaks =
    first_turn (fits n (headers + 1) breaks) (if leb 2 headers then Right ∷ Right ∷ [] else Right ∷ [])

-- whether all of such a list may stand on one line
abbrev pub may_be_one_line : Shape → Bool
may_be_one_line (Body headers one_line) = one_line
may_be_one_line _ = true

-- the layout on one line of a list of n slots of this shape, flat or not, that breaks or not, and without charges:
-- fewer than two slots have no choice, and of what is flat it is the first layout
abbrev pub turns_of : Shape → ℕ → Bool → Bool → Option Turns
turns_of shape n flat breaks =
    if leb n 1 then Some (turns [] flat)
    else if may_be_one_line shape then Some (if flat then turns (Left ∷ []) true else turns_unless_flat shape n breaks)
    else None
