-- What is kept of nodes that were asked for.
use Rattle.std.specs.Prelude.{◌≡◌, ℕ, ◌≤◌, Bool, Some, List, [], ◌∷◌, ◌++◌, slice_get}
use Rattle.rf_base_cost.specs.declared.measures.Measure.{Measure}
use Rattle.rf_base_optimum.specs.Plain.{leaf_measure}
use Rattle.rf_base_cut.specs.Documents.{after_in}
use Rattle.rf_frontier.specs.declared.hows.How.{How}
use Rattle.rf_frontier.specs.declared.hows.HowId.{HowId}
use Rattle.rf_frontier.specs.Frontiers.{BelongTo, all_chosen}
use Rattle.rf_search.specs.Tasks.{Task}
use Rattle.rf_search.specs.declared.rows.Row.{Row}

-- the row is what stands behind nothing of each node that has its number, at its column and at each indentation
abbrev pub RowHolds : {C N : Type 0} → Task C N → List How → Row C → Type 0
RowHolds {C} {N} task ways row =
    BelongTo ways row.measures
    × ((n : N) (indentation : ℕ) → task.documents.number n ≡ Some row.number → all_chosen ways row.measures
    ≡ after_in task.costs task.sought.limit (task.documents.document n) row.flat
    (leaf_measure row.column (task.costs.text row.column 0)) indentation row.cut)

-- each row is
unfoldable pub RowsHold : {C N : Type 0} → Task C N → List How → List (Row C) → Type 0
RowsHold {C} task ways rows = (n : ℕ) (row : Row C) → slice_get rows n ≡ Some row → RowHolds task ways row

-- the row of this place is of this number at this column, and was cut no further right
abbrev pub Serves : {C : Type 0} → List (Row C) → ℕ → ℕ → Bool → ℕ → ℕ → Type 0
Serves {C} rows at number flat column cut =
    (row : Row C) × (slice_get rows at ≡ Some row) × (row.number ≡ number) × (row.flat ≡ flat) × (row.column ≡ column)
    × (row.cut ≤ cut)

-- a row of this number at this column, with these measures, is put behind the others
abbrev pub IsPut : {C : Type 0} → List (Row C) → List (Row C) → ℕ → Bool → ℕ → ℕ → List (Measure C HowId) → Type 0
IsPut {C} old new number flat column cut measures =
    (row : Row C) × (new ≡ old ++ row ∷ []) × (row.number ≡ number) × (row.flat ≡ flat) × (row.column ≡ column)
    × (row.cut ≡ cut) × (row.measures ≡ measures)
