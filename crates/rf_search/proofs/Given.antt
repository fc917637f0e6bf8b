-- What was put behind a measure is what it was made from.
use Rattle.std.proofs.Common.{◌≡◌, ℕ, ◌+◌, Bool, List, [], ◌∷◌, inl, inr, refl, sym, ◌∙◌, ap, subst}
use Rattle.rf_base_document.specs.Document.{Doc, Align, Nest}
use Rattle.rf_base_cut.specs.Documents.{after_in}
use Rattle.rf_base_cut.proofs.DocumentSteps as step
use Rattle.rf_frontier.specs.Frontiers.{chosen}
use Rattle.rf_outline.specs.declared.documents.Part.{Part}
use Rattle.rf_outline.specs.Documents.{IsOpened}
use Rattle.rf_search.specs.declared.sought.Place.{Place}
use Rattle.rf_search.specs.declared.taking.Behind.{Behind}
use Rattle.rf_search.specs.declared.taking.Behind.TheVariants.{Nothing, One, Several}
use Rattle.rf_search.specs.Places.{IsRowIn}
use Rattle.rf_search.specs.Taking.{measures_of}
use Rattle.rf_base_cost.specs.declared.measures.Measure.{Measure}
use Rattle.rf_frontier.specs.declared.hows.How.{How}
use Rattle.rf_frontier.specs.declared.hows.HowId.{HowId}
use Rattle.rf_frontier.specs.Ways.{KeepsWays}
use Rattle.rf_search.specs.Tasks.{Task}
use Rattle.rf_search.specs.declared.sought.Found.{Found}
use Rattle.rf_search.specs.Behind.{IsBeforeOf, IsBefore, AreBehind, AreBehindAll}
use Rattle.rf_search.specs.Holding.{Holds, GoesOn}
use Rattle.rf_search.proofs.Told.{goes_on_by}
use Rattle.rf_search.proofs.Nodes.{moved}
use Rattle.rf_search.proofs.Sides.{aligned_before, nest_before}

-- of the same ways, and the same measures
pub given_back : {C N : Type 0} (task : Task C N) (old mid new : List How) (n : N) (flat : Bool) (i x : ℕ) (m : Measure C HowId) (kept given : List (Measure C HowId)) →
    new ≡ mid → given ≡ kept → AreBehind task old mid n flat i x m kept → AreBehind task old new n flat i x m given
given_back {C = C} task old mid new n flat i x m kept given ways same h =
    subst (λ (z : List How). AreBehind task old z n flat i x m given) (sym ways)
    (subst (λ (z : List (Measure C HowId)). AreBehind task old mid n flat i x m z) (sym same) h)

pub all_given_back : {C N : Type 0} (task : Task C N) (old mid new : List How) (n : N) (flat : Bool) (i x : ℕ) (firsts kept given : List (Measure C HowId)) →
    new ≡ mid → given ≡ kept → AreBehindAll task old mid n flat i x firsts kept → AreBehindAll task old new n flat i x firsts given
all_given_back {C = C} task old mid new n flat i x firsts kept given ways same h =
    subst (λ (z : List How). AreBehindAll task old z n flat i x firsts given) (sym ways)
    (subst (λ (z : List (Measure C HowId)). AreBehindAll task old mid n flat i x firsts z) (sym same) h)

-- what is found goes on where ways are added, and then only what was put behind a measure changes
pub goes_on_given : {C N : Type 0} (task : Task C N) (old new : Found C) (mid : List How) → new.hows ≡ mid → new.rows ≡ old.rows → KeepsWays old.hows mid → Holds task old → GoesOn task old new
goes_on_given task old new mid ways rows kept holds =
    goes_on_by task old new (subst (λ (z : List How). KeepsWays old.hows z) (sym ways) kept) (ap (λ z. z.items) rows) holds

-- what was put is nothing, one measure or several
pub given_nothing : {C N : Type 0} (task : Task C N) (old new : List How) (n : N) (flat : Bool) (i x : ℕ) (m k : Measure C HowId) (b : Behind) (several : List (Measure C HowId)) → b ≡ Nothing →
    AreBehind task old new n flat i x m (measures_of b k several) → AreBehind task old new n flat i x m []
given_nothing task old new n flat i x m k b several is h = subst (λ (z : Behind). AreBehind task old new n flat i x m (measures_of z k several)) is h

pub given_one : {C N : Type 0} (task : Task C N) (old new : List How) (n : N) (flat : Bool) (i x : ℕ) (m k : Measure C HowId) (b : Behind) (several : List (Measure C HowId)) → b ≡ One →
    AreBehind task old new n flat i x m (measures_of b k several) → AreBehind task old new n flat i x m (k ∷ [])
given_one task old new n flat i x m k b several is h = subst (λ (z : Behind). AreBehind task old new n flat i x m (measures_of z k several)) is h

pub given_several : {C N : Type 0} (task : Task C N) (old new : List How) (n : N) (flat : Bool) (i x : ℕ) (m k : Measure C HowId) (b : Behind) (several : List (Measure C HowId)) → b ≡ Several →
    AreBehind task old new n flat i x m (measures_of b k several) → AreBehind task old new n flat i x m several
given_several task old new n flat i x m k b several is h = subst (λ (z : Behind). AreBehind task old new n flat i x m (measures_of z k several)) is h

-- a node of this kind has the parts of this kind
pub opened_as : {C N : Type 0} {part kind : Part N} (task : Task C N) (n : N) → part ≡ kind → IsOpened task.documents.document (task.documents.document n) part →
    IsOpened task.documents.document (task.documents.document n) kind
opened_as {N = N} task n is opened = subst (λ (p : Part N). IsOpened task.documents.document (task.documents.document n) p) is opened

-- the node may be asked for in its row where it may be in its own place
pub row_before : {C N : Type 0} (task : Task C N) (ways : List How) (column : ℕ) (place inner : Place N) (m : Measure C HowId) → IsRowIn task.documents.document column place inner →
    IsBefore task ways place.node m → IsBefore task ways inner.node m
row_before task ways column place inner m row before =
    elim row.node [
      | inl same ↦ subst (λ (d : Doc). IsBeforeOf task.costs task.sought.limit ways d m) same.0 before
      | inr (inl aligned) ↦ aligned_before task ways place.node inner.node m aligned.0 before
      | inr (inr nested) ↦ nest_before task ways place.node nested.0 inner.node m nested.1 before
    ]

-- what stands in the row is what stands in the node's place
pub row_same : {C N : Type 0} (task : Task C N) (ways : List How) (place inner : Place N) (m : Measure C HowId) (flat : Bool) (x : ℕ) → IsRowIn task.documents.document m.last place inner →
    after_in task.costs task.sought.limit (task.documents.document place.node) flat (chosen ways m) place.indentation x
    ≡ after_in task.costs task.sought.limit (task.documents.document inner.node) flat (chosen ways m) inner.indentation x
row_same {C = C} task ways place inner m flat x row =
    let d = task.documents.document inner.node in
    let own = (λ (e : Doc) (is : task.documents.document place.node ≡ e). ap (λ (z : Doc). after_in task.costs task.sought.limit z flat (chosen ways m) place.indentation x) is) in
    let there = (λ (j : ℕ) (is : inner.indentation ≡ j). ap (λ (z : ℕ). after_in task.costs task.sought.limit d flat (chosen ways m) z x) (sym is)) in
    elim row.node [
      | inl same ↦ own d same.0 ∙ there place.indentation same.1
      | inr (inl aligned) ↦ own (Align d) aligned.0 ∙ (step.after_align task.costs task.sought.limit d flat (chosen ways m) place.indentation x ∙ there m.last aligned.1)
      | inr (inr nested) ↦ own (Nest nested.0 d) nested.1 ∙ (step.after_nest task.costs task.sought.limit nested.0 d flat (chosen ways m) place.indentation x ∙ there (place.indentation + nested.0) nested.2)
    ]

pub row_behind : {C N : Type 0} (task : Task C N) (old new : List How) (place inner : Place N) (m : Measure C HowId) (kept : List (Measure C HowId)) →
    IsRowIn task.documents.document m.last place inner → AreBehind task old new inner.node inner.flat inner.indentation inner.cut m kept → AreBehind task old new place.node place.flat place.indentation place.cut m kept
row_behind {C = C} task old new place inner m kept row h =
    moved task old new place.node place.node inner.flat place.flat place.indentation place.indentation inner.cut place.cut m kept refl row.flat refl row.cut
    (h.0, h.1 ∙ sym (row_same task old place inner m inner.flat inner.cut row))
