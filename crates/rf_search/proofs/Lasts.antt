-- What stands behind a measure of the last of documents one after another, which may be a row itself.
use Rattle.std.proofs.Common.{◌≡◌, ℕ, Bool, List, [], ◌∷◌, refl, sym, ◌∙◌, ap, subst}
use Rattle.std.specs.Prelude.{slice_get, Some, None, flat_map}
use Rattle.rf_base_document.specs.declared.directions.Dir.{Dir}
use Rattle.rf_base_document.specs.Document.{Doc, Concat, IsDocument}
use Rattle.rf_base_cost.specs.declared.measures.Measure.{Measure}
use Rattle.rf_base_cost.specs.Pareto.{pareto}
use Rattle.rf_base_cut.specs.Cut.{cut}
use Rattle.rf_base_cut.specs.Documents.{after_in}
use Rattle.rf_base_cut.proofs.DocumentCuts as cuts
use Rattle.rf_frontier.specs.declared.hows.How.{How}
use Rattle.rf_frontier.specs.declared.hows.HowId.{HowId}
use Rattle.rf_frontier.specs.Ways.{KeepsWays}
use Rattle.rf_frontier.specs.Frontiers.{chosen, all_chosen}
use Rattle.rf_outline.specs.Documents.{IsSplit}
use Rattle.rf_search.specs.declared.sought.Found.{Found}
use Rattle.rf_search.specs.declared.sought.Place.{Place}
use Rattle.rf_search.specs.Tasks.{Task}
use Rattle.rf_search.specs.Sought.{IsSought}
use Rattle.rf_search.specs.Places.{IsRowIn, cut_of}
use Rattle.rf_search.specs.Holding.{Holds}
use Rattle.rf_search.specs.Behind.{IsBefore, AreBehindOf, AreBehind, AreBehindAll}
use Rattle.rf_search.proofs.Told.{is_document, told_at}
use Rattle.rf_search.proofs.Nodes.{is_column, may_cut, moved}
use Rattle.rf_search.proofs.Going.{before_goes_on, before_there, chosen_goes_on, none_all}
use Rattle.rf_search.proofs.Sides.{second_before, both_found}
use Rattle.rf_search.proofs.Leading.{one_kept}
use Rattle.rf_search.proofs.Given.{row_before, row_same}
use Rattle.rf_search.proofs.Sequences.{are_two}
use Rattle.rf_search.proofs.Onward.{IsSoFar, so_far_begins, so_far_asked, so_far_found}

-- what stands of node n behind the first measure is what stands of the last one, at its own indentation, behind this one
pub record IsLeft {C N : Type 0} (task : Task C N) (old now : List How) (n : N) (flat : Bool) (i x : ℕ)
    (m k : Measure C HowId) (last : N) (j : ℕ) : Type 0 where
  pub before : IsBefore task now last k
  pub same : after_in task.costs task.sought.limit (task.documents.document n) flat (chosen old m) i x ≡ after_in task.costs task.sought.limit (task.documents.document last) flat (chosen now k) j x

both_documents : (a b : Doc) → IsDocument a → IsDocument b → IsDocument (Concat a b)
unfolding IsDocument
both_documents a b p q = (p, q)

-- where the first of two comes to one measure, the last is left behind it
pub so_far_left : {C N : Type 0} (task : Task C N) (old now new : List How) (n : N) (flat : Bool) (i j x y : ℕ) (m k only : Measure C HowId) (first last : N) (kept : List (Measure C HowId)) → IsSought task now →
    IsSoFar task old now n flat i x m k first last j → IsSplit task.documents last None → y ≡ cut_of task.sought.limit task.sought.free (task.documents.told last flat) x →
    AreBehind task now new first flat j y k kept → kept ≡ only ∷ [] → IsLeft task old new n flat i x m only last j
so_far_left {C = C} task old now new n flat i j x y m k only first last kept told h split at found alone =
    let da = task.documents.document first in
    let db = task.documents.document last in
    let column = is_column task now told in
    let asked = so_far_asked task old now n flat i j x m k first last h split in
    let known = told_at task now last flat (task.documents.told last flat) told refl in
    let before : IsBefore task new last only = before_there task new last kept 0 only (second_before task now new first last flat j y k kept told asked found) (ap (λ (z : List (Measure C HowId)). slice_get z 0) alone) in
    let document : IsDocument (Concat da db) = both_documents da db (is_document task now first told) (is_document task now last told) in
    let one : after_in task.costs task.sought.limit da flat (chosen now k) j y ≡ chosen new only ∷ [] = sym found.1 ∙ ap (all_chosen new) alone in
    record {
      before = before;
      same = h.same
          ∙ (ap (λ (z : Doc). after_in task.costs task.sought.limit z flat (chosen now k) j x) (are_two h.one h.two da db (h.order ∙ ap (λ (ds : List Doc). da ∷ ds) split))
          ∙ (cuts.after_concat task.costs told.lawful task.sought.limit task.sought.free da db flat (chosen now k) j x y column document asked.2 told.texts (may_cut task.sought.limit task.sought.free x y db flat (task.documents.told last flat) known told.near at)
          ∙ (ap (λ (z : List (Measure C (List Dir))). cut x (pareto task.costs (flat_map (λ l. after_in task.costs task.sought.limit db flat l j x) z))) one
          ∙ one_kept task.costs told.lawful task.sought.limit db flat (chosen new only) j x column (is_document task now last told) before.2)));
    }

-- where it comes to others, the last stands behind each of them
pub so_far_each : {C N : Type 0} (task : Task C N) (old now mid new : List How) (n : N) (flat : Bool) (i j x y : ℕ) (m k : Measure C HowId) (first last : N) (firsts kept : List (Measure C HowId)) → IsSought task now →
    IsSoFar task old now n flat i x m k first last j → IsSplit task.documents last None → y ≡ cut_of task.sought.limit task.sought.free (task.documents.told last flat) x →
    AreBehind task now mid first flat j y k firsts → AreBehindAll task mid new last flat j x firsts kept → AreBehind task old new n flat i x m kept
so_far_each task old now mid new n flat i j x y m k first last firsts kept told h split at found each =
    let known = told_at task now last flat (task.documents.told last flat) told refl in
    so_far_found task old now new n flat i j x m k first last kept h split
    (both_found task now mid new first last flat j x y (task.documents.told last flat) k firsts kept told (so_far_asked task old now n flat i j x m k first last h split) known at found each)

-- where it comes to none, nothing stands of the node
pub so_far_nothing : {C N : Type 0} (task : Task C N) (old now new : List How) (n : N) (flat : Bool) (i j x y : ℕ) (m k : Measure C HowId) (first last : N) → IsSought task now →
    IsSoFar task old now n flat i x m k first last j → IsSplit task.documents last None → y ≡ cut_of task.sought.limit task.sought.free (task.documents.told last flat) x →
    AreBehind task now new first flat j y k [] → AreBehind task old new n flat i x m []
so_far_nothing task old now new n flat i j x y m k first last told h split at found =
    so_far_each task old now new new n flat i j x y m k first last [] [] told h split at found (none_all task new last flat j x [] refl)

-- what stands of the last one stands of the node
pub left_found : {C N : Type 0} (task : Task C N) (old now new : List How) (n : N) (flat : Bool) (i x : ℕ) (m k : Measure C HowId) (last : N) (j : ℕ) (kept : List (Measure C HowId)) →
    IsLeft task old now n flat i x m k last j → AreBehind task now new last flat j x k kept → AreBehind task old new n flat i x m kept
left_found task old now new n flat i x m k last j kept left behind = (behind.0, behind.1 ∙ sym left.same)

-- it is still left where ways were added
pub left_stays : {C N : Type 0} (task : Task C N) (old now new : List How) (n : N) (flat : Bool) (i x : ℕ) (m k other : Measure C HowId) (last : N) (j : ℕ) →
    IsLeft task old now n flat i x m k last j → KeepsWays now new → other ≡ k → IsLeft task old new n flat i x m other last j
left_stays {C = C} task old now new n flat i x m k other last j left kept is =
    subst (λ (z : Measure C HowId). IsLeft task old new n flat i x m z last j) (sym is)
    (record {
      before = before_goes_on task now new last k kept left.before;
      same = left.same ∙ ap (λ (z : Measure C (List Dir)). after_in task.costs task.sought.limit (task.documents.document last) flat z j x) (sym (chosen_goes_on now new k kept left.before.1));
    })

-- the last one's row begins
pub left_begins : {C N : Type 0} (task : Task C N) (old now : List How) (n : N) (here row : Place N) (i : ℕ) (m k : Measure C HowId) (first others : N) → IsSought task now →
    IsLeft task old now n here.flat i here.cut m k here.node here.indentation → IsRowIn task.documents.document k.last here row → IsSplit task.documents row.node (Some (first, others)) →
    IsSoFar task old now n row.flat i row.cut m k first others row.indentation
left_begins {C = C} task old now n here row i m k first others told left in_row split =
    let asked = row_before task now k.last here row k in_row left.before in
    let begun = so_far_begins task now row.node row.flat row.indentation row.cut k first others told split asked in
    let there : IsLeft task old now n row.flat i row.cut m k here.node here.indentation =
    subst (λ (z : ℕ). IsLeft task old now n row.flat i z m k here.node here.indentation) (sym in_row.cut)
    (subst (λ (z : Bool). IsLeft task old now n z i here.cut m k here.node here.indentation) (sym in_row.flat) left) in
    record {
      one = begun.one;
      two = begun.two;
      order = begun.order;
      documents = begun.documents;
      before = begun.before;
      same = there.same ∙ (row_same task now here row k row.flat row.cut in_row ∙ begun.same);
    }

-- what stands there within the place stands in the place
pub in_place : {C N : Type 0} (task : Task C N) (old new : List How) (place here : Place N) (m : Measure C HowId) (kept : List (Measure C HowId)) → here.flat ≡ place.flat → here.cut ≡ place.cut →
    AreBehind task old new place.node here.flat place.indentation here.cut m kept → AreBehind task old new place.node place.flat place.indentation place.cut m kept
in_place task old new place here m kept flat cut_is h =
    moved task old new place.node place.node here.flat place.flat place.indentation place.indentation here.cut place.cut m kept refl flat refl cut_is h

-- what stands of a node in one place stands of the same node in a like one
pub there : {C N : Type 0} (task : Task C N) (old new : List How) (part place : Place N) (first : N) (x : ℕ) (m : Measure C HowId) (kept : List (Measure C HowId)) → part.node ≡ first → part.flat ≡ place.flat → part.indentation ≡ place.indentation →
    AreBehind task old new part.node part.flat part.indentation x m kept → AreBehind task old new first place.flat place.indentation x m kept
there task old new part place first x m kept node flat indentation h =
    moved task old new part.node first part.flat place.flat part.indentation place.indentation x x m kept node flat indentation refl h

-- where what is found and the measure are others, that are the same
pub carried : {C N : Type 0} (task : Task C N) (old : List How) (now then : Found C) (n : N) (flat : Bool) (i j x : ℕ) (m k only : Measure C HowId) (first others : N) → then ≡ now → only ≡ k →
    KeepsWays old now.hows → Holds task now → IsSoFar task old now.hows n flat i x m k first others j →
    KeepsWays old then.hows × Holds task then × IsSoFar task old then.hows n flat i x m only first others j
carried {C = C} task old now then n flat i j x m k only first others found measure older holds h =
    subst (λ (z : Found C). KeepsWays old z.hows × Holds task z × IsSoFar task old z.hows n flat i x m only first others j) (sym found)
    (older, holds, subst (λ (z : Measure C HowId). IsSoFar task old now.hows n flat i x m z first others j) (sym measure) h)

-- what stands of both in one place stands of them in a like one
pub both_there : {C N : Type 0} (task : Task C N) (old new : List How) (d : Doc) (like place : Place N) (m : Measure C HowId) (kept : List (Measure C HowId)) → like.flat ≡ place.flat → like.indentation ≡ place.indentation → like.cut ≡ place.cut →
    AreBehindOf task.costs task.sought.limit old new d like.flat like.indentation like.cut m kept → AreBehindOf task.costs task.sought.limit old new d place.flat place.indentation place.cut m kept
both_there task old new d like place m kept flat indentation cut_is h =
    subst (λ (z : ℕ). AreBehindOf task.costs task.sought.limit old new d place.flat place.indentation z m kept) cut_is
    (subst (λ (z : ℕ). AreBehindOf task.costs task.sought.limit old new d place.flat z like.cut m kept) indentation
    (subst (λ (z : Bool). AreBehindOf task.costs task.sought.limit old new d z like.indentation like.cut m kept) flat h))
