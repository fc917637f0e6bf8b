-- What stands behind a measure of a node that has a row.
use Rattle.std.proofs.Common.{◌≡◌, ℕ, ◌≤◌, Bool, List, length, get_or, Some, refl, sym, subst, ap, ◌∙◌, arith}
use Rattle.std.proofs.lemmas.Option.{slice_get_read, slice_get_within}
use Rattle.std.specs.Prelude.{slice_get}
use Rattle.rf_base_document.specs.declared.directions.Dir.{Dir}
use Rattle.rf_base_document.specs.Document.{Doc}
use Rattle.rf_base_cost.specs.declared.measures.Measure.{Measure}
use Rattle.rf_base_cost.specs.Cost.{IsColumn}
use Rattle.rf_base_cost.specs.Pareto.{EachIsValue, all_shifted}
use Rattle.rf_base_cost.proofs.Choices.{values_back}
use Rattle.rf_base_optimum.specs.MostPieces.{most_pieces}
use Rattle.rf_base_optimum.specs.Plain.{leaf_measure}
use Rattle.rf_base_cut.specs.Cut.{cut}
use Rattle.rf_base_cut.specs.Documents.{after_in}
use Rattle.rf_base_cut.proofs.DocumentSteps as step
use Rattle.rf_base_cut.proofs.Unindented.{after_unindented}
use Rattle.rf_frontier.specs.declared.hows.How.{How}
use Rattle.rf_frontier.specs.declared.hows.HowId.{HowId}
use Rattle.rf_frontier.specs.Ways.{choices_of}
use Rattle.rf_frontier.specs.Frontiers.{BelongTo, chosen, all_chosen}
use Rattle.rf_search.specs.Tasks.{Task}
use Rattle.rf_search.specs.declared.rows.Row.{Row}
use Rattle.rf_search.specs.Sought.{IsSought}
use Rattle.rf_search.specs.Rows.{RowHolds, RowsHold, Serves}
use Rattle.rf_search.specs.Behind.{IsBefore, AreBehind}
use Rattle.rf_search.proofs.Told.{is_document, row_at, room_for_nothing}
use Rattle.rf_search.proofs.Nodes.{is_column}

-- what a row says of the nodes that have this number, in the words of who asks for it
abbrev pub RowSays : {C N : Type 0} → Task C N → List How → ℕ → Bool → ℕ → ℕ → List (Measure C HowId) → Type 0
RowSays {C} {N} task ways number flat column y measures =
    BelongTo ways measures
    × ((n : N) (i : ℕ) → task.documents.number n ≡ Some number → all_chosen ways measures ≡ after_in task.costs task.sought.limit (task.documents.document n) flat (leaf_measure column (task.costs.text column 0)) i y)

row_said : {C N : Type 0} (task : Task C N) (ways : List How) (row : Row C) (number : ℕ) (flat : Bool) (column : ℕ) → RowHolds task ways row →
    row.number ≡ number → row.flat ≡ flat → row.column ≡ column → RowSays task ways number flat column row.cut row.measures
row_said task ways row number flat column h e f g =
    subst (λ (c : ℕ). RowSays task ways number flat c row.cut row.measures) g
    (subst (λ (b : Bool). RowSays task ways number b row.column row.cut row.measures) f
    (subst (λ (k : ℕ). RowSays task ways k row.flat row.column row.cut row.measures) e h))

row_says : {C N : Type 0} (task : Task C N) (ways : List How) (rows : List (Row C)) (at number : ℕ) (flat : Bool) (column x : ℕ) (row : Row C) → RowsHold task ways rows →
    (serves : Serves rows at number flat column x) → slice_get rows at ≡ Some row → RowSays task ways number flat column row.cut row.measures × (row.cut ≤ x)
row_says {C = C} task ways rows at number flat column x row holds serves there =
    let same : serves.0 ≡ row = cc in
    subst (λ (r : Row C). RowSays task ways number flat column r.cut r.measures × (r.cut ≤ x)) same
    (row_said task ways serves.0 number flat column (row_at task ways rows at serves.0 holds serves.1) serves.2 serves.3 serves.4, serves.5)

-- the same of the row that is read there
pub row_read : {C N : Type 0} (task : Task C N) (ways : List How) (rows : List (Row C)) (at number : ℕ) (flat : Bool) (column x : ℕ) (row : Row C) → RowsHold task ways rows →
    Serves rows at number flat column x → row ≡ get_or rows at row → RowSays task ways number flat column row.cut row.measures × (row.cut ≤ x)
row_read task ways rows at number flat column x row holds serves read =
    row_says task ways rows at number flat column x row holds serves (slice_get_read rows (length rows) at row refl (slice_get_within rows at serves.0 serves.1) read)

-- its measures cost values
pub row_values : {C N : Type 0} (task : Task C N) (ways : List How) (n : N) (number : ℕ) (flat : Bool) (column y : ℕ) (m : Measure C HowId) (measures : List (Measure C HowId)) →
    IsSought task ways → IsBefore task ways n m → column ≡ m.last → task.documents.number n ≡ Some number → RowSays task ways number flat column y measures → EachIsValue task.costs measures
row_values {C = C} task ways n number flat column y m measures told before e has says =
    let d = task.documents.document n in
    let near : IsColumn column = omega (arith, e, before.0, told.narrow) in
    let room = room_for_nothing task.costs (most_pieces d) column m.cost near before.2 in
    let short = step.after_frontier task.costs told.lawful task.sought.limit d flat (leaf_measure column (task.costs.text column 0)) 0 y (is_column task ways told) (is_document task ways n told) room in
    values_back task.costs (λ (id : HowId). choices_of ways id.0) measures (subst (λ (z : List (Measure C (List Dir))). EachIsValue task.costs z) (sym (says.1 n 0 has)) short.1)

-- so they are what stands behind the measure, each behind it
pub row_found : {C N : Type 0} (task : Task C N) (old new : List How) (n : N) (number : ℕ) (flat : Bool) (i x y : ℕ) (m : Measure C HowId) (measures kept : List (Measure C HowId)) →
    IsSought task old → IsBefore task old n m → task.documents.number n ≡ Some number → RowSays task old number flat m.last y measures → y ≤ x → BelongTo new kept →
    all_chosen new kept ≡ all_shifted task.costs (chosen old m) (cut x (all_chosen old measures)) → AreBehind task old new n flat i x m kept
row_found {C = C} task old new n number flat i x y m measures kept told before has says near belong is =
    let d = task.documents.document n in (
      belong,
      is ∙ (ap (λ (z : List (Measure C (List Dir))). all_shifted task.costs (chosen old m) (cut x z)) (says.1 n i has)
          ∙ sym (step.after_row task.costs told.lawful task.sought.limit d flat (chosen old m) i x y (is_column task old told) (omega (arith, before.0, told.narrow)) (is_document task old n told) near)),
    )

-- what is found of a node that has a number, behind nothing at one indentation, stands there at each
pub number_says : {C N : Type 0} (task : Task C N) (old new : List How) (n : N) (number i column x : ℕ) (flat : Bool) (nothing : Measure C HowId) (measures : List (Measure C HowId)) →
    IsSought task old → task.documents.number n ≡ Some number → chosen old nothing ≡ leaf_measure column (task.costs.text column 0) →
    AreBehind task old new n flat i x nothing measures → RowSays task new number flat column x measures
number_says {C = C} task old new n number i column x flat nothing measures told has leaf h =
    let d = task.documents.document n in
    let at : Measure C (List Dir) = leaf_measure column (task.costs.text column 0) in (
      h.0,
      λ k j same.
          h.1 ∙ (ap (λ (z : Measure C (List Dir)). after_in task.costs task.sought.limit d flat z i x) leaf
          ∙ (after_unindented task.costs task.sought.limit d flat at i j x (told.told.unindented n number flat has)
          ∙ ap (λ (z : Doc). after_in task.costs task.sought.limit z flat at j x) (told.told.numbers n k number has same))),
    )
