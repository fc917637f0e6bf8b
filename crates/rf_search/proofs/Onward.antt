-- The search goes on through documents one after another, behind one measure at a time.
use Rattle.std.proofs.Common.{◌≡◌, ℕ, ◌<◌, ◌≤◌, Bool, true, false, cond, List, [], ◌∷◌, ◌++◌, length, Some, None, inl, inr, refl, sym, ◌∙◌, ap, subst, arith}
use Rattle.rf_base_document.specs.Document.{Doc, Concat, IsDocument}
use Rattle.rf_base_cost.specs.declared.measures.Measure.{Measure}
use Rattle.rf_base_optimum.specs.MostPieces.{most_pieces}
use Rattle.rf_base_optimum.proofs.Frontier.{ends_member}
use Rattle.rf_base_cut.specs.Documents.{after_in, begins_in}
use Rattle.rf_base_cut.proofs.Behind.{room_fewer}
use Rattle.rf_base_cut.proofs.DocumentSteps as step
use Rattle.rf_frontier.specs.declared.hows.How.{How}
use Rattle.rf_frontier.specs.declared.hows.HowId.{HowId}
use Rattle.rf_frontier.specs.Frontiers.{BelongTo, chosen, all_chosen}
use Rattle.rf_outline.specs.Sequences.{Joined, in_order, joined}
use Rattle.rf_outline.specs.Documents.{IsSplit}
use Rattle.rf_search.specs.Tasks.{Task}
use Rattle.rf_search.specs.Sought.{IsSought}
use Rattle.rf_search.specs.Places.{break_cut}
use Rattle.rf_search.specs.Behind.{IsBeforeOf, IsBefore, AreBehindOf, AreBehind}
use Rattle.rf_search.proofs.Told.{is_document}
use Rattle.rf_search.proofs.Nodes.{is_column}
use Rattle.rf_search.proofs.Shifts.{belong_there}
use Rattle.rf_search.proofs.Sequences.{leading, left_over, whole, are_both, are_two, leads_first, leads_others, leads_pieces, leads_documents, begins_alike, others_some}
use Rattle.rf_search.proofs.Leading.{MayLead, only_member, room_left, lead_one, lead_none}

-- what stands of node n behind the first measure is what stands of these documents, at their own indentation, behind this
-- one
pub record IsSoFar {C N : Type 0} (task : Task C N) (old now : List How) (n : N) (flat : Bool) (i x : ℕ)
    (m k : Measure C HowId) (first others : N) (j : ℕ) : Type 0 where
  pub one : Joined
  pub two : Joined
  pub order : in_order one ++ in_order two ≡ task.documents.document first ∷ task.documents.sequence others
  pub documents : IsDocument (whole one two)
  pub before : IsBeforeOf task.costs task.sought.limit now (whole one two) k
  pub same : after_in task.costs task.sought.limit (task.documents.document n) flat (chosen old m) i x ≡ after_in task.costs task.sought.limit (whole one two) flat (chosen now k) j x

-- at first all of them behind the first measure
pub so_far_begins : {C N : Type 0} (task : Task C N) (ways : List How) (n : N) (flat : Bool) (i x : ℕ) (m : Measure C HowId) (first others : N) → IsSought task ways →
    IsSplit task.documents n (Some (first, others)) → IsBefore task ways n m → IsSoFar task ways ways n flat i x m m first others i
so_far_begins {C = C} task ways n flat i x m first others told split before =
    let t = told.told.sequences n in
    let parts = are_both t.0 (task.documents.document first) (task.documents.sequence others) (t.1 ∙ split) (others_some (task.documents.sequence others) (task.documents.document others) (told.told.sequences others)) in
    let is : task.documents.document n ≡ whole parts.0 parts.1 = sym t.2 ∙ parts.3 in
    record {
      one = parts.0;
      two = parts.1;
      order = parts.2;
      documents = subst (λ (z : Doc). IsDocument z) is (is_document task ways n told);
      before = subst (λ (z : Doc). IsBeforeOf task.costs task.sought.limit ways z m) is before;
      same = ap (λ (z : Doc). after_in task.costs task.sought.limit z flat (chosen ways m) i x) is;
    }

-- the first of them may be asked for
pub so_far_first : {C N : Type 0} (task : Task C N) (old now : List How) (n : N) (flat : Bool) (i j x : ℕ) (m k : Measure C HowId) (first others : N) →
    IsSoFar task old now n flat i x m k first others j → IsBefore task now first k
so_far_first {C = C} task old now n flat i j x m k first others h =
    let is = leads_first h.one h.two (task.documents.document first) (task.documents.sequence others) h.order in
    let fewer = room_fewer task.costs (most_pieces (leading h.one)) (most_pieces (whole h.one h.two)) k.cost (omega (arith, leads_pieces h.one h.two)) h.before.2 in
    subst (λ (z : Doc). IsBeforeOf task.costs task.sought.limit now z k) is (h.before.0, h.before.1, fewer)

-- where the measures before the others may be cut
so_far_leads : {C N : Type 0} (task : Task C N) (old now : List How) (n : N) (flat : Bool) (i j x y : ℕ) (m k : Measure C HowId) (first others : N) → IsSought task now →
    (h : IsSoFar task old now n flat i x m k first others j) → y ≡ break_cut task.sought.limit (task.documents.told others flat).begins → MayLead (joined (left_over h.one h.two)) flat y
so_far_leads task old now n flat i j x y m k first others told h e = by_test (task.documents.told others flat).begins refl e where
  alike : begins_in (joined (left_over h.one h.two)) flat ≡ begins_in (task.documents.document others) flat
  alike = begins_alike (left_over h.one h.two) (task.documents.sequence others) (task.documents.document others) flat (leads_others h.one h.two (task.documents.document first) (task.documents.sequence others) h.order) (told.told.sequences others)

  by_test : (b : Bool) → (task.documents.told others flat).begins ≡ b → y ≡ cond b task.sought.limit 0 → MayLead (joined (left_over h.one h.two)) flat y
  by_test true is at = inr (alike ∙ (told.told.told others flat).1 is)
  by_test false is at = inl at

-- what stands of the first of them
first_found : {C N : Type 0} (task : Task C N) (old now new : List How) (n : N) (flat : Bool) (i j x y : ℕ) (m k : Measure C HowId) (first others : N) (kept : List (Measure C HowId)) →
    (h : IsSoFar task old now n flat i x m k first others j) → AreBehind task now new first flat j y k kept → all_chosen new kept ≡ after_in task.costs task.sought.limit (leading h.one) flat (chosen now k) j y
first_found task old now new n flat i j x y m k first others kept h behind =
    behind.1 ∙ ap (λ (z : Doc). after_in task.costs task.sought.limit z flat (chosen now k) j y) (sym (leads_first h.one h.two (task.documents.document first) (task.documents.sequence others) h.order))

-- where that is one measure, the others go on behind it
pub so_far_goes_on : {C N : Type 0} (task : Task C N) (old now new : List How) (n : N) (flat : Bool) (i j x y : ℕ) (m k only : Measure C HowId) (first others second behind : N)
    (kept : List (Measure C HowId)) → IsSought task now → IsSoFar task old now n flat i x m k first others j → y ≡ break_cut task.sought.limit (task.documents.told others flat).begins →
    AreBehind task now new first flat j y k kept → kept ≡ only ∷ [] → IsSplit task.documents others (Some (second, behind)) → IsSoFar task old new n flat i x m only second behind j
so_far_goes_on {C = C} task old now new n flat i j x y m k only first others second behind kept told h at found alone split =
    let column = is_column task now told in
    let may = so_far_leads task old now n flat i j x y m k first others told h at in
    let one_is : after_in task.costs task.sought.limit (leading h.one) flat (chosen now k) j y ≡ chosen new only ∷ [] =
    sym (first_found task old now new n flat i j x y m k first others kept h found) ∙ ap (all_chosen new) alone in
    let member = only_member (chosen new only) (after_in task.costs task.sought.limit (leading h.one) flat (chosen now k) j y) one_is in
    let limits = leads_documents h.one h.two h.documents in
    let fewer = room_fewer task.costs (most_pieces (leading h.one)) (most_pieces (whole h.one h.two)) k.cost (omega (arith, leads_pieces h.one h.two)) h.before.2 in
    let short = step.after_frontier task.costs told.lawful task.sought.limit (leading h.one) flat (chosen now k) j y column limits.0 fewer in
    let order = leads_others h.one h.two (task.documents.document first) (task.documents.sequence others) h.order in
    let parts = are_both (left_over h.one h.two) (task.documents.document second) (task.documents.sequence behind) (order ∙ split) (others_some (task.documents.sequence behind) (task.documents.document behind) (told.told.sequences behind)) in
    let left = room_left task.costs told.lawful task.sought.limit h.one h.two flat (chosen now k) (chosen new only) j y column h.documents h.before.2 member in
    let last : only.last ≤ task.sought.limit = ends_member task.sought.limit (chosen new only) (after_in task.costs task.sought.limit (leading h.one) flat (chosen now k) j y) short.2 member in
    let way : only.how.0 < length new = belong_there new (only ∷ []) 0 only (subst (λ (z : List (Measure C HowId)). BelongTo new z) alone found.0) refl in
    record {
      one = parts.0;
      two = parts.1;
      order = parts.2;
      documents = subst (λ (z : Doc). IsDocument z) parts.3 limits.1;
      before = subst (λ (z : Doc). IsBeforeOf task.costs task.sought.limit new z only) parts.3 (last, way, left);
      same = h.same
          ∙ (lead_one task.costs told.lawful task.sought.limit task.sought.free h.one h.two flat (chosen now k) (chosen new only) j x y column told.texts h.documents h.before.2 may one_is
          ∙ ap (λ (z : Doc). after_in task.costs task.sought.limit z flat (chosen new only) j x) parts.3);
    }

-- where that is none, none stands of the node
pub so_far_none : {C N : Type 0} (task : Task C N) (old now new : List How) (n : N) (flat : Bool) (i j x y : ℕ) (m k : Measure C HowId) (first others : N)
    (kept : List (Measure C HowId)) → IsSought task now → IsSoFar task old now n flat i x m k first others j → y ≡ break_cut task.sought.limit (task.documents.told others flat).begins →
    AreBehind task now new first flat j y k kept → length kept ≡ 0 → AreBehind task old new n flat i x m kept
so_far_none {C = C} task old now new n flat i j x y m k first others kept told h at found none =
    let empty : kept ≡ [] = no_measure kept none in
    let may = so_far_leads task old now n flat i j x y m k first others told h at in
    let none_is : after_in task.costs task.sought.limit (leading h.one) flat (chosen now k) j y ≡ [] =
    sym (first_found task old now new n flat i j x y m k first others kept h found) ∙ ap (all_chosen new) empty in
    let all : after_in task.costs task.sought.limit (task.documents.document n) flat (chosen old m) i x ≡ [] =
    h.same ∙ lead_none task.costs told.lawful task.sought.limit task.sought.free h.one h.two flat (chosen now k) j x y (is_column task now told) told.texts h.documents h.before.2 may none_is in
    (found.0, ap (all_chosen new) empty ∙ sym all)
  where
    no_measure : {A : Type 0} (xs : List A) → length xs ≡ 0 → xs ≡ []
    no_measure [] e = refl
    no_measure (x ∷ xs) e = cc

-- the last two are both in a row
pub so_far_asked : {C N : Type 0} (task : Task C N) (old now : List How) (n : N) (flat : Bool) (i j x : ℕ) (m k : Measure C HowId) (first others : N) →
    IsSoFar task old now n flat i x m k first others j → IsSplit task.documents others None → IsBeforeOf task.costs task.sought.limit now (Concat (task.documents.document first) (task.documents.document others)) k
so_far_asked task old now n flat i j x m k first others h split =
    subst (λ (z : Doc). IsBeforeOf task.costs task.sought.limit now z k)
    (are_two h.one h.two (task.documents.document first) (task.documents.document others) (h.order ∙ ap (λ (ds : List Doc). task.documents.document first ∷ ds) split)) h.before

pub so_far_found : {C N : Type 0} (task : Task C N) (old now new : List How) (n : N) (flat : Bool) (i j x : ℕ) (m k : Measure C HowId) (first others : N) (kept : List (Measure C HowId)) →
    IsSoFar task old now n flat i x m k first others j → IsSplit task.documents others None → AreBehindOf task.costs task.sought.limit now new (Concat (task.documents.document first) (task.documents.document others)) flat j x k kept →
    AreBehind task old new n flat i x m kept
so_far_found task old now new n flat i j x m k first others kept h split behind = (
  behind.0,
  behind.1
      ∙ sym (h.same
      ∙ ap (λ (z : Doc). after_in task.costs task.sought.limit z flat (chosen now k) j x)
      (are_two h.one h.two (task.documents.document first) (task.documents.document others) (h.order ∙ ap (λ (ds : List Doc). task.documents.document first ∷ ds) split))),
)
