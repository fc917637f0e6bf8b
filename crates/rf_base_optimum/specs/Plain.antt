-- The frontier of a core at each place: the measures of its resolutions within a width that are worth keeping.
-- It is the frontier of "A Pretty Expressive Printer" (OOPSLA 2023) by recursion on a tree; no graph and no memo
-- occurs.
use Rattle.std.specs.Prelude.{ℕ, ◌+◌, ◌≤◌, Bool, nat_le, ◌&&◌, if◌then◌else◌, List, [], ◌∷◌, ◌++◌, ⊤}
use Rattle.rf_base_document.specs.declared.directions.Dir.{Dir}
use Rattle.rf_base_document.specs.declared.directions.Dir.TheVariants.{Left, Right}
use Rattle.rf_base_document.specs.Document.{Doc, Text, Newline, Hard, Concat, Nest, Align, Reset, Flatten, Choice, Only, Charge}
use Rattle.rf_base_cost.specs.declared.measures.Measure.{Measure}
use Rattle.rf_base_cost.specs.Cost.{Costs}
use Rattle.rf_base_cost.specs.Pareto.{pareto, all_marked, all_shifted, all_raised}

-- the measure that ends at this column, for this cost and without choices
abbrev pub leaf_measure : {C : Type 0} → ℕ → C → Measure C (List Dir)
leaf_measure last cost = record { last = last; cost = cost; how = [] }

-- the measure alone, where it is within the width
abbrev pub where_within : {C : Type 0} → Bool → Measure C (List Dir) → List (Measure C (List Dir))
where_within within m = if within then (m ∷ []) else []

-- for each left measure in order, the measures that stand at its last column behind it
unfoldable pub all_joined : {C : Type 0} → Costs C → List (Measure C (List Dir)) → (ℕ → List (Measure C (List Dir))) →
    List (Measure C (List Dir))
all_joined costs [] behind = []
all_joined costs (m ∷ rest) behind = all_shifted costs m (behind m.last) ++ all_joined costs rest behind

-- the frontier of a core at this column and indentation, of its resolutions within w columns; a document that is no
-- core has none where it is `Hard` or `Flatten`
unfoldable pub plain : {C : Type 0} → Costs C → ℕ → Doc → ℕ → ℕ → List (Measure C (List Dir))
plain costs w (Text s len) column indentation =
    where_within (nat_le (column + len) w) (leaf_measure (column + len) (costs.text column len))
plain costs w Newline column indentation =
    where_within (nat_le column w && nat_le indentation w) (leaf_measure indentation (costs.newline indentation))
plain costs w Hard column indentation = []
plain costs w (Concat a b) column indentation =
    pareto costs (all_joined costs (plain costs w a column indentation) (λ last. plain costs w b last indentation))
plain costs w (Nest n a) column indentation = plain costs w a column (indentation + n)
plain costs w (Align a) column indentation = plain costs w a column column
plain costs w (Reset a) column indentation = plain costs w a column 0
plain costs w (Flatten a) column indentation = []
plain costs w (Choice a b) column indentation =
    pareto costs (all_marked Left (plain costs w a column indentation)
    ++ all_marked Right (plain costs w b column indentation))
plain costs w (Only dir a) column indentation = all_marked dir (plain costs w a column indentation)
plain costs w (Charge k a) column indentation =
    pareto costs (all_raised costs (costs.charge k) (plain costs w a column indentation))

-- each measure ends at a column of at most w
unfoldable pub EachEndsBy : {C H : Type 0} → ℕ → List (Measure C H) → Type 0
EachEndsBy w [] = ⊤
EachEndsBy w (m ∷ rest) = (m.last ≤ w) × EachEndsBy w rest
