-- Documents on one line: those that have no break at all, and resolutions without a break of those that have.
use Rattle.std.specs.Prelude.{◌≡◌, ◌≤◌, ℕ, ◌+◌, ◌⊎◌, Bool, true, false, ◌&&◌, ◌||◌, nat_le, nat_eq, if◌then◌else◌, IsTrue, IsFalse, Option, None, Some, List, [], ◌∷◌, ◌++◌}
use Rattle.rf_base_document.specs.declared.directions.Dir.{Dir}
use Rattle.rf_base_document.specs.declared.directions.Dir.TheVariants.{Left, Right}
use Rattle.rf_base_document.specs.Document.{Doc, Text, Newline, Hard, Concat, Nest, Align, Reset, Flatten, Choice, Only, Charge}
use Rattle.rf_base_cost.specs.declared.measures.Measure.{Measure}
use Rattle.rf_base_cost.specs.Cost.{Costs, IsValue, AtMost, IsColumn, IsCharge}

-- the measure that ends at this column, for this cost and by these choices
abbrev pub measured : {C : Type 0} → ℕ → C → List Dir → Measure C (List Dir)
measured last cost how = record { last = last; cost = cost; how = how }

-- the choices that take the first side of each choice
unfoldable pub first_choices : Doc → List Dir
first_choices (Text s len) = []
first_choices Newline = []
first_choices Hard = []
first_choices (Concat a b) = first_choices a ++ first_choices b
first_choices (Nest n a) = first_choices a
first_choices (Align a) = first_choices a
first_choices (Reset a) = first_choices a
first_choices (Flatten a) = first_choices a
first_choices (Choice a b) = Left ∷ first_choices a
first_choices (Only dir a) = dir ∷ first_choices a
first_choices (Charge k a) = first_choices a

-- both lengths in a row
abbrev pub both_lengths : Option ℕ → Option ℕ → Option ℕ
both_lengths (Some a) (Some b) = Some (a + b)
both_lengths _ _ = None

-- the length, where both are the same
abbrev pub same_length : Option ℕ → Option ℕ → Option ℕ
same_length (Some a) (Some b) = if nat_eq a b then Some a else None
same_length _ _ = None

-- the length of each layout, where none has a break or a charge and all are equally long
unfoldable pub flat_length : Doc → Option ℕ
flat_length (Text s len) = Some len
flat_length (Concat a b) = both_lengths (flat_length a) (flat_length b)
flat_length (Nest n a) = flat_length a
flat_length (Align a) = flat_length a
flat_length (Reset a) = flat_length a
flat_length (Choice a b) = same_length (flat_length a) (flat_length b)
flat_length (Only dir a) = flat_length a
flat_length _ = None

-- each resolution has a break or a charge of at least 1
unfoldable pub is_never_free : Doc → Bool
is_never_free (Text s len) = false
is_never_free Newline = true
is_never_free Hard = true
is_never_free (Concat a b) = is_never_free a || is_never_free b
is_never_free (Nest n a) = is_never_free a
is_never_free (Align a) = is_never_free a
is_never_free (Reset a) = is_never_free a
is_never_free (Flatten a) = false
is_never_free (Choice a b) = is_never_free a && is_never_free b
is_never_free (Only dir a) = is_never_free a
is_never_free (Charge k a) = nat_le 1 k || is_never_free a

-- on one line, without a break and a charge, the document takes up len columns, and these are the first choices that
-- lay it out so; each other resolution has a break or a charge, or is as long
unfoldable pub OneLine : Doc → ℕ → List Dir → Type 0
OneLine (Text s columns) len how = (len ≡ columns) × (how ≡ [])
OneLine (Concat a b) len how =
    (i : ℕ) × (j : ℕ) × (x : List Dir) × (y : List Dir) × (len ≡ i + j) × (how ≡ x ++ y) × OneLine a i x × OneLine b j y
OneLine (Nest n a) len how = OneLine a len how
OneLine (Align a) len how = OneLine a len how
OneLine (Reset a) len how = OneLine a len how
OneLine (Choice a b) len how =
    (rest : List Dir)
    × (((how ≡ Left ∷ rest) × OneLine a len rest
    × (IsTrue (is_never_free b) ⊎ ((other : List Dir) × OneLine b len other)))
    ⊎ ((how ≡ Right ∷ rest) × IsTrue (is_never_free a) × OneLine b len rest))
OneLine (Only dir a) len how = (rest : List Dir) × (how ≡ dir ∷ rest) × OneLine a len rest
OneLine _ len how = ⊥

-- no cost is less than that of no text, and a break and a charge of at least 1 cost more
pub record NothingIsLeast {C : Type 0} (costs : Costs C) : Type 0 where
  pub nothing : (a : C) → IsValue costs a → AtMost costs (costs.text 0 0) a
  pub break : (indentation : ℕ) → IsColumn indentation → IsFalse (costs.le (costs.newline indentation) (costs.text 0 0))
  pub charge : (k : ℕ) → 1 ≤ k → IsCharge k → IsFalse (costs.le (costs.charge k) (costs.text 0 0))
