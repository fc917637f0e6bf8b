-- That rows stand as they should has one proof at most, so that a struct may keep it.
use Rattle.std.specs.Prelude.{◌≡◌, ℕ, Bool, true, false, Option, List, length, get_or, refl}
use Rattle.std.specs.Coded.{×_prop, Π_prop, →_prop, Unit-prop, le_prop, Coded, Coded-set, code_by, coded_ℕ, coded_bool, coded_list, coded×, coded_option}
use Rattle.std.specs.List.{All}
use Rattle.rf_base_document.specs.declared.directions.Dir.{Dir}
use Rattle.rf_base_document.specs.declared.directions.Dir.TheVariants.{Left, Right}
use Rattle.rf_base_document.specs.Document as doc
use Rattle.rf_base_document.specs.Document.{Doc, IsDocument}
use Rattle.rf_base_cut.specs.DocumentLines.{IsFlattenable}
use Rattle.rf_base_lines.specs.Spelled.{Spelled, spelled}
use Rattle.rf_rows.specs.declared.pieces.Piece.{Piece}
use Rattle.rf_rows.specs.declared.pieces.Piece.TheVariants.{Text, Space, Newline, Hard, BareBreak, Gap, Cell}
use Rattle.rf_rows.specs.declared.cells.Cell as declared
use Rattle.rf_rows.specs.declared.layouts.Layouts.{Layouts}
use Rattle.rf_rows.specs.declared.layouts.Layouts.TheVariants.{Bare, One, Two, Three}
use Rattle.rf_rows.specs.declared.layouts.Layouts.TheVariants as layouts
use Rattle.rf_rows.specs.declared.unmade.ListLine.{ListLine}
use Rattle.rf_rows.specs.declared.unmade.Unmade.{Unmade}
use Rattle.rf_rows.specs.declared.layouts.Marks.{Marks}
use Rattle.rf_rows.specs.Layouts.{AreMarks, AreCellLayouts}
use Rattle.rf_rows.specs.Cells.{IsBelow, CellStands, CellsStand}
use Rattle.rf_rows.specs.Unmade.{IsLineOf, IsUnmade, HasLine, HaveLines, IsMade, AllAreMade}
use Rattle.rf_rows.specs.Stands.{AreRows}

IsBelow-prop : (k : ℕ) (p : Piece) → IsProp (IsBelow k p)
IsBelow-prop k (Text len s) = ×_prop (×_prop (→_prop (λ a b. absurd a)) le_prop) le_prop
IsBelow-prop k Space = Unit-prop
IsBelow-prop k Newline = Unit-prop
IsBelow-prop k Hard = Unit-prop
IsBelow-prop k BareBreak = Unit-prop
IsBelow-prop k Gap = Unit-prop
IsBelow-prop k (Cell j) = le_prop

All-prop : {A : Type 0} (P : A → Type 0) → ((x : A) → IsProp (P x)) → (xs : List A) → IsProp (All P xs)
All-prop P one xs = Π_prop (λ i. Π_prop (λ d. →_prop (one (get_or xs i d))))

AreMarks-prop : (m : Marks) (count : ℕ) → IsProp (AreMarks m count)
AreMarks-prop m count a b =
    λ i. record {
      first = le_prop a.first b.first i;
      second = le_prop a.second b.second i;
      bodies = le_prop a.bodies b.bodies i;
    }

-- a document keeps the limits, and has no hard newline and no charge, in one way at most
IsDocument-prop : (d : Doc) → IsProp (IsDocument d)
unfolding IsDocument
IsDocument-prop (doc.Text s len) = ×_prop (→_prop (λ a b. absurd a)) le_prop
IsDocument-prop doc.Newline = Unit-prop
IsDocument-prop doc.Hard = Unit-prop
IsDocument-prop (doc.Concat a b) = ×_prop (IsDocument-prop a) (IsDocument-prop b)
IsDocument-prop (doc.Nest n a) = ×_prop le_prop (IsDocument-prop a)
IsDocument-prop (doc.Align a) = IsDocument-prop a
IsDocument-prop (doc.Reset a) = IsDocument-prop a
IsDocument-prop (doc.Flatten a) = IsDocument-prop a
IsDocument-prop (doc.Choice a b) = ×_prop (IsDocument-prop a) (IsDocument-prop b)
IsDocument-prop (doc.Only dir a) = IsDocument-prop a
IsDocument-prop (doc.Charge k a) = ×_prop le_prop (IsDocument-prop a)

IsFlattenable-prop : (d : Doc) → IsProp (IsFlattenable d)
unfolding IsFlattenable
IsFlattenable-prop (doc.Text s len) = Unit-prop
IsFlattenable-prop doc.Newline = Unit-prop
IsFlattenable-prop doc.Hard = λ a b. absurd a
IsFlattenable-prop (doc.Concat a b) = ×_prop (IsFlattenable-prop a) (IsFlattenable-prop b)
IsFlattenable-prop (doc.Nest n a) = IsFlattenable-prop a
IsFlattenable-prop (doc.Align a) = IsFlattenable-prop a
IsFlattenable-prop (doc.Reset a) = IsFlattenable-prop a
IsFlattenable-prop (doc.Flatten a) = IsFlattenable-prop a
IsFlattenable-prop (doc.Choice a b) = ×_prop (IsFlattenable-prop a) (IsFlattenable-prop b)
IsFlattenable-prop (doc.Only dir a) = IsFlattenable-prop a
IsFlattenable-prop (doc.Charge k a) = λ a b. absurd a

-- lines as they are written are told apart
abbrev is_left : Dir → Bool
is_left Left = true
is_left Right = false

abbrev dir_of : Bool → Dir
dir_of true = Left
dir_of false = Right

dir_back : (dir : Dir) → dir_of (is_left dir) ≡ dir
dir_back Left = refl
dir_back Right = refl

coded_dir : Coded Dir
coded_dir = code_by Bool coded_bool is_left dir_of dir_back

coded_spelled : Coded Spelled
coded_spelled =
    code_by ((ℕ × List Dir) × (List ℕ × ℕ))
    (coded× (coded× coded_ℕ (coded_list coded_dir)) (coded× (coded_list coded_ℕ) coded_ℕ))
    (λ l. ((l.len, l.how), (l.text, l.words))) (λ p. spelled p.0.0 p.0.1 p.1.0 p.1.1) (λ l. refl)

written-prop : (a b : Option Spelled) → IsProp (a ≡ b)
written-prop a b = Coded-set (coded_option coded_spelled) a b

IsLineOf-prop : (line : ListLine) (loose flat : List Dir) → IsProp (IsLineOf line loose flat)
IsLineOf-prop line loose flat a b =
    λ i. record {
      document = IsDocument-prop _ a.document b.document i;
      flattenable = IsFlattenable-prop _ a.flattenable b.flattenable i;
      loose_is = written-prop _ _ a.loose_is b.loose_is i;
      flat_is = written-prop _ _ a.flat_is b.flat_is i;
    }

IsUnmade-prop : (turns : List Dir) (u : Unmade) → IsProp (IsUnmade turns u)
IsUnmade-prop turns u a b =
    λ i. record {
      within = le_prop a.within b.within i;
      line = IsLineOf-prop _ _ _ a.line b.line i;
    }

HasLine-prop : (turns : List Dir) (l : Layouts) → IsProp (HasLine turns l)
HasLine-prop turns Bare = Unit-prop
HasLine-prop turns (One a) = Unit-prop
HasLine-prop turns (Two a b) = Unit-prop
HasLine-prop turns (Three a b c) = Unit-prop
HasLine-prop turns (layouts.Unmade u) = IsUnmade-prop turns u

AreLayouts-prop : (l : Layouts) (count : ℕ) → IsProp (AreCellLayouts l count)
AreLayouts-prop Bare count = le_prop
AreLayouts-prop (One a) count = le_prop
AreLayouts-prop (Two a b) count = ×_prop le_prop le_prop
AreLayouts-prop (Three a b c) count = ×_prop le_prop (×_prop le_prop le_prop)
AreLayouts-prop (layouts.Unmade u) count = IsDocument-prop _

CellStands-prop : (ps : List Piece) (k : ℕ) (c : declared.Cell) → IsProp (CellStands ps k c)
CellStands-prop ps k c a b =
    λ i. record {
      within = le_prop a.within b.within i;
      below = All-prop (IsBelow k) (IsBelow-prop k) _ a.below b.below i;
      marks = AreMarks-prop c.marks c.count a.marks b.marks i;
      layouts = AreLayouts-prop c.layouts c.count a.layouts b.layouts i;
    }

IsMade-prop : (l : Layouts) → IsProp (IsMade l)
IsMade-prop Bare = Unit-prop
IsMade-prop (One a) = Unit-prop
IsMade-prop (Two a b) = Unit-prop
IsMade-prop (Three a b c) = Unit-prop
IsMade-prop (layouts.Unmade u) = λ a b. absurd a

pub AreRows-prop : (ps : List Piece) (cs : List declared.Cell) (on : List Piece) (turns : List Dir) (free : Option ℕ) →
    IsProp (AreRows ps cs on turns free)
unfolding CellsStand HaveLines AllAreMade
AreRows-prop ps cs on turns free a b =
    λ i. record {
      cells = Π_prop (λ k. Π_prop (λ c. →_prop (CellStands-prop ps k c))) a.cells b.cells i;
      pieces = each-prop ps a.pieces b.pieces i;
      stack = each-prop on a.stack b.stack i;
      few = le_prop a.few b.few i;
      low = le_prop a.low b.low i;
      lines = Π_prop (λ k. Π_prop (λ c. →_prop (HasLine-prop turns c.layouts))) a.lines b.lines i;
      made = →_prop (Π_prop (λ k. Π_prop (λ c. →_prop (IsMade-prop c.layouts)))) a.made b.made i;
    }
  where
    each-prop : (list : List Piece) → IsProp (All (IsBelow (length cs)) list)
    each-prop list = All-prop (IsBelow (length cs)) (IsBelow-prop (length cs)) list
