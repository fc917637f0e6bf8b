-- What is asked for behind a measure, and what stands there.
use Rattle.std.specs.Prelude.{◌≡◌, ℕ, ◌+◌, ◌<◌, ◌≤◌, nat_le, Bool, Some, List, ◌++◌, length, flat_map, slice_get}
use Rattle.rf_base_document.specs.declared.directions.Dir.{Dir}
use Rattle.rf_base_document.specs.Document.{Doc}
use Rattle.rf_base_cost.specs.declared.measures.Measure.{Measure}
use Rattle.rf_base_cost.specs.Cost.{Costs}
use Rattle.rf_base_cost.specs.Pareto.{pareto}
use Rattle.rf_base_optimum.specs.MostPieces.{most_pieces}
use Rattle.rf_base_optimum.specs.Plain.{where_within}
use Rattle.rf_base_cut.specs.Cut.{HasRoom, cut}
use Rattle.rf_base_cut.specs.Documents.{after_in}
use Rattle.rf_base_cut.specs.OneLine.{measured}
use Rattle.rf_frontier.specs.declared.hows.How.{How}
use Rattle.rf_frontier.specs.declared.hows.HowId.{HowId}
use Rattle.rf_frontier.specs.Ways.{choices_of}
use Rattle.rf_frontier.specs.Frontiers.{BelongTo, chosen, all_chosen}
use Rattle.rf_search.specs.Tasks.{Task}

-- the measure is within the width w, its way is one of these, and behind it there is room for the document's pieces
abbrev pub IsBeforeOf : {C : Type 0} → Costs C → ℕ → List How → Doc → Measure C HowId → Type 0
IsBeforeOf costs w ways d m = (m.last ≤ w) × (m.how.0 < length ways) × HasRoom costs (most_pieces d) m.cost

-- the same of a node
abbrev pub IsBefore : {C N : Type 0} → Task C N → List How → N → Measure C HowId → Type 0
IsBefore task ways n m = IsBeforeOf task.costs task.sought.limit ways (task.documents.document n) m

-- each of these measures is
unfoldable pub AreBefore : {C N : Type 0} → Task C N → List How → N → List (Measure C HowId) → Type 0
AreBefore {C} task ways n list = (k : ℕ) (m : Measure C HowId) → slice_get list k ≡ Some m → IsBefore task ways n m

-- the measure and behind it a text of this length by the choices of this way, where it ends within w
abbrev pub text_measured : {C : Type 0} → Costs C → ℕ → List How → Measure C HowId → ℕ → HowId →
    List (Measure C (List Dir))
text_measured costs w ways m len how =
    where_within (nat_le (m.last + len) w)
    (measured (m.last + len) (costs.add m.cost (costs.text m.last len))
    (choices_of ways m.how.0 ++ choices_of ways how.0))

-- these measures, whose ways are among the new ones, are what stands within the width w behind the measure of the older
-- ways of the document
abbrev pub AreBehindOf : {C : Type 0} → Costs C → ℕ → List How → List How → Doc → Bool → ℕ → ℕ → Measure C HowId →
    List (Measure C HowId) → Type 0
AreBehindOf costs w old new d flat indentation x m kept =
    BelongTo new kept × (all_chosen new kept ≡ after_in costs w d flat (chosen old m) indentation x)

-- the same of a node
abbrev pub AreBehind : {C N : Type 0} → Task C N → List How → List How → N → Bool → ℕ → ℕ → Measure C HowId →
    List (Measure C HowId) → Type 0
AreBehind task old new n flat indentation x m kept =
    AreBehindOf task.costs task.sought.limit old new (task.documents.document n) flat indentation x m kept

-- these measures are what is worth keeping of what stands of the node behind each of the older ones, cut at x
abbrev pub AreBehindAll : {C N : Type 0} → Task C N → List How → List How → N → Bool → ℕ → ℕ →
    List (Measure C HowId) → List (Measure C HowId) → Type 0
AreBehindAll task old new n flat indentation x firsts kept =
    BelongTo new kept
    × (all_chosen new kept
    ≡ cut x (pareto task.costs
    (flat_map (λ k. after_in task.costs task.sought.limit (task.documents.document n) flat k indentation x)
    (all_chosen old firsts))))
