-- Pages: what was put for one node, as a list of entries, each at its place.
use Rattle.std.specs.Prelude.{◌≡◌, Bool, true, false, nat_lt, ℕ, ◌==◌, ◌&&◌, if◌then◌else◌, List, [], ◌∷◌, Option, None}
use Rattle.std.specs.Prelude.{Some, ⊤}
use Rattle.rf_memo.specs.declared.page.Entry.{Entry}

-- whether this is the entry's place
abbrev pub stands_at : {V : Type 0} → Entry V → ℕ → ℕ → Bool
stands_at entry col indent = (col == entry.col) && (indent == entry.indent)

-- the value at the column and the indentation, which is that of the first entry there
unfoldable pub value_at : {V : Type 0} → List (Entry V) → ℕ → ℕ → Option V
value_at [] col indent = None
value_at (entry ∷ entries) col indent =
    if stands_at entry col indent then Some entry.value else value_at entries col indent

-- the new page has the value at the place, and elsewhere what the old one has
abbrev pub Puts : {V : Type 0} → List (Entry V) → List (Entry V) → ℕ → ℕ → V → Type 0
Puts old new col indent value =
    (c i : ℕ) → value_at new c i ≡ (if (c == col) && (i == indent) then Some value else value_at old c i)

-- whether the first place comes before the second: its column is greater, or the columns are equal and its indentation
-- is less
abbrev pub precedes : ℕ → ℕ → ℕ → ℕ → Bool
precedes col indent other_col other_indent =
    if col == other_col then nat_lt indent other_indent else nat_lt other_col col

-- each entry comes before the place
unfoldable pub EachBefore : {V : Type 0} → ℕ → ℕ → List (Entry V) → Type 0
EachBefore col indent [] = ⊤
EachBefore col indent (entry ∷ entries) =
    (precedes entry.col entry.indent col indent ≡ true) × EachBefore col indent entries

-- each entry comes behind the place
unfoldable pub EachBehind : {V : Type 0} → ℕ → ℕ → List (Entry V) → Type 0
EachBehind col indent [] = ⊤
EachBehind col indent (entry ∷ entries) =
    (precedes col indent entry.col entry.indent ≡ true) × EachBehind col indent entries

-- each entry comes before those behind it
unfoldable pub IsOrdered : {V : Type 0} → List (Entry V) → Type 0
IsOrdered [] = ⊤
IsOrdered (entry ∷ entries) = EachBehind entry.col entry.indent entries × IsOrdered entries

-- the value of the first entry
abbrev pub first_value : {V : Type 0} → List (Entry V) → Option V
first_value [] = None
first_value (entry ∷ entries) = Some entry.value

-- the first entry doesn't come before the place
abbrev pub StartsFrom : {V : Type 0} → ℕ → ℕ → List (Entry V) → Type 0
StartsFrom col indent [] = ⊤
StartsFrom col indent (entry ∷ entries) = precedes entry.col entry.indent col indent ≡ false
