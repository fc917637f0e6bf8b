-- What stands behind a measure of documents one after another, where the first comes to one measure at most.
use Rattle.std.proofs.Common.{◌≡◌, ℕ, ◌+◌, ◌⊎◌, Bool, IsTrue, List, [], ◌∷◌, ◌++◌, flat_map, inl, inr, refl, sym, ◌∙◌, ap, subst, append-nil, arith}
use Rattle.rf_base_document.specs.declared.directions.Dir.{Dir}
use Rattle.rf_base_document.specs.Document.{Doc, IsDocument}
use Rattle.rf_base_cost.specs.declared.measures.Measure.{Measure}
use Rattle.rf_base_cost.specs.Cost.{Costs, Lawful, IsColumn}
use Rattle.rf_base_cost.specs.Pareto.{pareto, by_last, undominated, IsMember}
use Rattle.rf_base_cost.proofs.Pareto.{frontier_is_pareto}
use Rattle.rf_base_optimum.specs.MostPieces.{most_pieces}
use Rattle.rf_base_cut.specs.Cut.{cut, HasRoom}
use Rattle.rf_base_cut.specs.Indifferent.{IsFree}
use Rattle.rf_base_cut.specs.Documents.{after_in, begins_in, MayCutIn}
use Rattle.rf_base_cut.proofs.Behind.{room_fewer}
use Rattle.rf_base_cut.proofs.DocumentSteps as step
use Rattle.rf_base_cut.proofs.DocumentCuts as cuts
use Rattle.rf_outline.specs.Sequences.{Joined, One, Both, joined}
use Rattle.rf_search.proofs.Sequences.{leading, left_over, whole, leads_pieces, leads_documents}

-- the measures before documents may be cut nowhere, and anywhere where these begin with a break
abbrev pub MayLead : Doc → Bool → ℕ → Type 0
MayLead others flat y = (y ≡ 0) ⊎ IsTrue (begins_in others flat)

may_cut_there : (w free : ℕ) (d : Doc) (flat : Bool) (x y : ℕ) → MayLead d flat y → MayCutIn w free d flat x y
may_cut_there w free d flat x y (inl none) = inl none
may_cut_there w free d flat x y (inr begins) = inr (inl begins)

-- of one measure all is worth keeping that stands behind it
pub one_kept : {C : Type 0} (costs : Costs C) (laws : Lawful costs) (w : ℕ) (d : Doc) (flat : Bool) (k : Measure C (List Dir)) (i x : ℕ) → IsColumn w → IsDocument d → HasRoom costs (most_pieces d) k.cost →
    cut x (pareto costs (flat_map (λ j. after_in costs w d flat j i x) (k ∷ []))) ≡ after_in costs w d flat k i x
one_kept {C = C} costs laws w d flat k i x column document room =
    let own : List (Measure C (List Dir)) = after_in costs w d flat k i x in
    let short = step.after_frontier costs laws w d flat k i x column document room in
    let pruned : pareto costs (own ++ []) ≡ own = ap (λ (z : List (Measure C (List Dir))). pareto costs z) (append-nil own) ∙ frontier_is_pareto costs laws own short.1 short.0 in
    ap (λ (z : List (Measure C (List Dir))). cut x z) pruned ∙ step.after_again costs w d flat k i x x (omega arith)

-- behind the first there is room for the others
pub room_left : {C : Type 0} (costs : Costs C) (laws : Lawful costs) (w : ℕ) (a b : Joined) (flat : Bool) (m k : Measure C (List Dir)) (i y : ℕ) → IsColumn w → IsDocument (whole a b) →
    HasRoom costs (most_pieces (whole a b)) m.cost → IsMember k (after_in costs w (leading a) flat m i y) → HasRoom costs (most_pieces (joined (left_over a b))) k.cost
room_left costs laws w a b flat m k i y column document room member =
    step.after_room costs laws w (leading a) flat m k i y (most_pieces (joined (left_over a b))) column (leads_documents a b document).0
    (subst (λ (n : ℕ). HasRoom costs n m.cost) (leads_pieces a b) room) member

pub only_member : {C : Type 0} (k : Measure C (List Dir)) (f : List (Measure C (List Dir))) → f ≡ k ∷ [] → IsMember k f
unfolding IsMember
only_member {C = C} k f is = subst (λ (z : List (Measure C (List Dir))). IsMember k z) (sym is) (inl refl)

-- where the first comes to one measure, the others stand behind it
pub lead_one : {C : Type 0} (costs : Costs C) (laws : Lawful costs) (w free : ℕ) (a b : Joined) (flat : Bool) (m k : Measure C (List Dir)) (i x y : ℕ) → IsColumn w → IsFree costs free → IsDocument (whole a b) →
    HasRoom costs (most_pieces (whole a b)) m.cost → MayLead (joined (left_over a b)) flat y → after_in costs w (leading a) flat m i y ≡ k ∷ [] →
    after_in costs w (whole a b) flat m i x ≡ after_in costs w (joined (left_over a b)) flat k i x
unfolding joined leading left_over most_pieces IsDocument begins_in
lead_one {C = C} costs laws w free (One d) b flat m k i x y column texts document room may is =
    let left = room_left costs laws w (One d) b flat m k i y column document room (only_member k (after_in costs w d flat m i y) is) in
    cuts.after_concat costs laws w free d (joined b) flat m i x y column document room texts (may_cut_there w free (joined b) flat x y may)
    ∙ ap (λ (z : List (Measure C (List Dir))). cut x (pareto costs (flat_map (λ j. after_in costs w (joined b) flat j i x) z))) is
    ∙ one_kept costs laws w (joined b) flat k i x column document.1 left
lead_one {C = C} costs laws w free (Both p q) b flat m k i x y column texts document room may is =
    let inner = document.0 in
    let fewer = room_fewer costs (most_pieces (whole p q)) (most_pieces (whole p q) + most_pieces (joined b)) m.cost (omega arith) room in
    let left = room_left costs laws w (Both p q) b flat m k i y column document room (only_member k (after_in costs w (leading p) flat m i y) is) in
    let same = lead_one costs laws w free p q flat m k i 0 y column texts inner fewer may is in
    cuts.after_concat costs laws w free (whole p q) (joined b) flat m i x 0 column document room texts (inl refl)
    ∙ ap (λ (z : List (Measure C (List Dir))). cut x (pareto costs (flat_map (λ j. after_in costs w (joined b) flat j i x) z))) same
    ∙ sym (cuts.after_concat costs laws w free (joined (left_over p q)) (joined b) flat k i x 0 column (leads_documents (Both p q) b document).1 left texts (inl refl))

abbrev no_measures : {C : Type 0} → List (Measure C (List Dir))
no_measures = []

-- of none none is kept
none_kept : {C : Type 0} (costs : Costs C) (x : ℕ) → cut x (pareto costs (no_measures {C = C})) ≡ []
unfolding cut pareto by_last undominated
none_kept costs x = refl

-- where it comes to none, neither do all
pub lead_none : {C : Type 0} (costs : Costs C) (laws : Lawful costs) (w free : ℕ) (a b : Joined) (flat : Bool) (m : Measure C (List Dir)) (i x y : ℕ) → IsColumn w → IsFree costs free → IsDocument (whole a b) →
    HasRoom costs (most_pieces (whole a b)) m.cost → MayLead (joined (left_over a b)) flat y → after_in costs w (leading a) flat m i y ≡ [] → after_in costs w (whole a b) flat m i x ≡ []
unfolding joined leading left_over most_pieces IsDocument begins_in
lead_none {C = C} costs laws w free (One d) b flat m i x y column texts document room may is =
    cuts.after_concat costs laws w free d (joined b) flat m i x y column document room texts (may_cut_there w free (joined b) flat x y may)
    ∙ ap (λ (z : List (Measure C (List Dir))). cut x (pareto costs (flat_map (λ j. after_in costs w (joined b) flat j i x) z))) is
    ∙ none_kept costs x
lead_none {C = C} costs laws w free (Both p q) b flat m i x y column texts document room may is =
    let fewer = room_fewer costs (most_pieces (whole p q)) (most_pieces (whole p q) + most_pieces (joined b)) m.cost (omega arith) room in
    cuts.after_concat costs laws w free (whole p q) (joined b) flat m i x 0 column document room texts (inl refl)
    ∙ ap (λ (z : List (Measure C (List Dir))). cut x (pareto costs (flat_map (λ j. after_in costs w (joined b) flat j i x) z))) (lead_none costs laws w free p q flat m i 0 y column texts document.0 fewer may is)
    ∙ none_kept costs x
