-- Documents on one line, flat or not: how long they are there, and by which choices.
use Rattle.std.specs.Prelude.{◌≡◌, ℕ, ◌+◌, ◌≤◌, ◌⊎◌, Bool, true, false, not, ◌&&◌, ◌||◌, nat_le, IsTrue, Option, None, Some, List, [], ◌∷◌, ◌++◌, ⊤}
use Rattle.std.specs.Option.{option_map}
use Rattle.rf_base_document.specs.declared.directions.Dir.{Dir}
use Rattle.rf_base_document.specs.declared.directions.Dir.TheVariants.{Left, Right}
use Rattle.rf_base_document.specs.Document.{Doc, Text, Newline, Hard, Concat, Nest, Align, Reset, Flatten, Choice, Only, Charge}
use Rattle.rf_base_document.specs.Render.{Piece, Word, Break, Fee}

-- a layout on one line: how many columns it takes up, and the choices that give it
pub record Line : Type 0 where
  pub len : ℕ
  pub how : List Dir

abbrev pub line : ℕ → List Dir → Line
line len how = record { len = len; how = how }

-- both lines as one
abbrev pub line_of_both : Option Line → Option Line → Option Line
line_of_both (Some a) (Some b) = Some (line (a.len + b.len) (a.how ++ b.how))
line_of_both _ _ = None

-- a line of a side, behind the direction to it
abbrev pub line_behind : Dir → Line → Line
line_behind dir a = line a.len (dir ∷ a.how)

-- the line of the first side, and where it has none that of the second
abbrev pub line_of_either : Option Line → Option Line → Option Line
line_of_either None b = option_map (line_behind Right) b
line_of_either (Some a) b = Some (line_behind Left a)

-- a newline is a space where flat, and otherwise a break
abbrev pub newline_line : Bool → Option Line
newline_line true = Some (line 1 [])
newline_line false = None

-- the first choices by which the document, flat or not, has a layout without a break and a charge, and how many columns
-- that takes up
unfoldable pub one_line : Doc → Bool → Option Line
one_line (Text s len) flat = Some (line len [])
one_line Newline flat = newline_line flat
one_line Hard flat = None
one_line (Concat a b) flat = line_of_both (one_line a flat) (one_line b flat)
one_line (Nest n a) flat = one_line a flat
one_line (Align a) flat = one_line a flat
one_line (Reset a) flat = one_line a flat
one_line (Flatten a) flat = one_line a true
one_line (Choice a b) flat = line_of_either (one_line a flat) (one_line b flat)
one_line (Only dir a) flat = option_map (line_behind dir) (one_line a flat)
one_line (Charge k a) flat = None

-- the line of these documents in a row, flat or not: their lengths added and their choices in order, where each has one
unfoldable pub line_of_all : List Doc → Bool → Option Line
line_of_all [] flat = Some (line 0 [])
line_of_all (d ∷ parts) flat = line_of_both (one_line d flat) (line_of_all parts flat)

-- a newline that is flat is one column long
abbrev pub NewlineIsLong : Bool → ℕ → Type 0
NewlineIsLong true len = len ≡ 1
NewlineIsLong false len = ⊤

-- each layout of the document, flat or not, without a break and a charge is len columns long: each side of a choice is
-- as long, parts share the columns out, a break may be told as of any length, and what is charged too, for at least 1
unfoldable pub IsLong : Doc → Bool → ℕ → Type 0
IsLong (Text s columns) flat len = len ≡ columns
IsLong Newline flat len = NewlineIsLong flat len
IsLong Hard flat len = ⊤
IsLong (Concat a b) flat len = (i : ℕ) × (j : ℕ) × (len ≡ i + j) × IsLong a flat i × IsLong b flat j
IsLong (Nest n a) flat len = IsLong a flat len
IsLong (Align a) flat len = IsLong a flat len
IsLong (Reset a) flat len = IsLong a flat len
IsLong (Flatten a) flat len = IsLong a true len
IsLong (Choice a b) flat len = IsLong a flat len × IsLong b flat len
IsLong (Only dir a) flat len = IsLong a flat len
IsLong (Charge k a) flat len = 1 ≤ k

-- no hard newline and no charge is in the document
unfoldable pub IsFlattenable : Doc → Type 0
IsFlattenable (Text s len) = ⊤
IsFlattenable Newline = ⊤
IsFlattenable Hard = ⊥
IsFlattenable (Concat a b) = IsFlattenable a × IsFlattenable b
IsFlattenable (Nest n a) = IsFlattenable a
IsFlattenable (Align a) = IsFlattenable a
IsFlattenable (Reset a) = IsFlattenable a
IsFlattenable (Flatten a) = IsFlattenable a
IsFlattenable (Choice a b) = IsFlattenable a × IsFlattenable b
IsFlattenable (Only dir a) = IsFlattenable a
IsFlattenable (Charge k a) = ⊥

-- each layout of these documents in a row is: they share the columns out
unfoldable pub AreLong : List Doc → Bool → ℕ → Type 0
AreLong [] flat len = len ≡ 0
AreLong (d ∷ parts) flat len = (i : ℕ) × (j : ℕ) × (len ≡ i + j) × IsLong d flat i × AreLong parts flat j

-- the pieces are on one line, and none is a charge
unfoldable pub EachIsWord : List Piece → Type 0
EachIsWord [] = ⊤
EachIsWord (Word column s len ∷ pieces) = EachIsWord pieces
EachIsWord _ = ⊥

-- each resolution of the document, flat or not, that has a layout has a break or a charge of at least 1
unfoldable pub never_free_in : Doc → Bool → Bool
never_free_in (Text s len) flat = false
never_free_in Newline flat = not flat
never_free_in Hard flat = true
never_free_in (Concat a b) flat = never_free_in a flat || never_free_in b flat
never_free_in (Nest n a) flat = never_free_in a flat
never_free_in (Align a) flat = never_free_in a flat
never_free_in (Reset a) flat = never_free_in a flat
never_free_in (Flatten a) flat = never_free_in a true
never_free_in (Choice a b) flat = never_free_in a flat && never_free_in b flat
never_free_in (Only dir a) flat = never_free_in a flat
never_free_in (Charge k a) flat = nat_le 1 k || never_free_in a flat

-- on one line, without a break and a charge, the document, flat or not, takes up len columns, and these are the first
-- choices that lay it out so; each other resolution has no layout, has a break or a charge, or is as long
unfoldable pub OneLineIn : Doc → Bool → ℕ → List Dir → Type 0
OneLineIn (Text s columns) flat len how = (len ≡ columns) × (how ≡ [])
OneLineIn Newline flat len how = IsTrue flat × (len ≡ 1) × (how ≡ [])
OneLineIn Hard flat len how = ⊥
OneLineIn (Concat a b) flat len how =
    (i : ℕ) × (j : ℕ) × (x : List Dir) × (y : List Dir) × (len ≡ i + j) × (how ≡ x ++ y)
    × OneLineIn a flat i x × OneLineIn b flat j y
OneLineIn (Nest n a) flat len how = OneLineIn a flat len how
OneLineIn (Align a) flat len how = OneLineIn a flat len how
OneLineIn (Reset a) flat len how = OneLineIn a flat len how
OneLineIn (Flatten a) flat len how = OneLineIn a true len how
OneLineIn (Choice a b) flat len how =
    (rest : List Dir)
    × (((how ≡ Left ∷ rest) × OneLineIn a flat len rest
    × (IsTrue (never_free_in b flat) ⊎ ((other : List Dir) × OneLineIn b flat len other)))
    ⊎ ((how ≡ Right ∷ rest) × IsTrue (never_free_in a flat) × OneLineIn b flat len rest))
OneLineIn (Only dir a) flat len how = (rest : List Dir) × (how ≡ dir ∷ rest) × OneLineIn a flat len rest
OneLineIn (Charge k a) flat len how = ⊥
