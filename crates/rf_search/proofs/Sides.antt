-- What stands behind a measure of a node of two parts, and of a charged one.
use Rattle.std.proofs.Common.{◌≡◌, ℕ, zero, suc, ◌+◌, ◌<◌, ◌≤◌, max, Bool, List, [], ◌∷◌, ◌++◌, length, flat_map, Some, sym, subst, ap, ap₂, ◌∙◌, append-nil, inl, inr, arith}
use Rattle.std.specs.Prelude.{slice_get}
use Rattle.rf_base_document.specs.declared.directions.Dir.{Dir}
use Rattle.rf_base_document.specs.declared.directions.Dir.TheVariants.{Left, Right}
use Rattle.rf_base_document.specs.Document.{Doc, Concat, Nest, Align, Reset, Flatten, Choice, Charge, IsDocument}
use Rattle.rf_base_cost.specs.declared.measures.Measure.{Measure}
use Rattle.rf_base_cost.specs.Pareto.{pareto, IsMember}
use Rattle.rf_base_cost.proofs.Pareto.{frontier_is_pareto}
use Rattle.rf_base_optimum.specs.MostPieces.{most_pieces}
use Rattle.rf_base_optimum.proofs.Frontier.{ends_member}
use Rattle.rf_base_cut.specs.Cut.{cut, turned, extended, HasRoom}
use Rattle.rf_base_cut.specs.Documents.{after_in}
use Rattle.rf_base_cut.proofs.Behind.{room_fewer}
use Rattle.rf_base_cut.proofs.Steps.{charged_room}
use Rattle.rf_base_cut.proofs.DocumentSteps as step
use Rattle.rf_base_cut.proofs.DocumentCuts as cuts
use Rattle.rf_frontier.specs.declared.hows.How.{How}
use Rattle.rf_frontier.specs.declared.hows.HowId.{HowId}
use Rattle.rf_frontier.specs.Ways.{KeepsWays}
use Rattle.rf_frontier.specs.Frontiers.{BelongTo, chosen, all_chosen}
use Rattle.rf_frontier.proofs.Behind.{chosen_keeps}
use Rattle.rf_outline.specs.Documents.{Told}
use Rattle.rf_outline.specs.Documents.{ToldHolds}
use Rattle.rf_search.specs.Tasks.{Task}
use Rattle.rf_search.specs.Sought.{IsSought}
use Rattle.rf_search.specs.Places.{cut_of}
use Rattle.rf_search.specs.Behind.{IsBeforeOf, IsBefore, AreBefore, AreBehindOf, AreBehind, AreBehindAll}
use Rattle.rf_search.proofs.Shifts.{belong_there}
use Rattle.rf_search.proofs.Told.{is_document}
use Rattle.rf_search.proofs.Nodes.{is_column, may_cut, part_before}
use Rattle.rf_search.proofs.Going.{chosen_goes_on}

pub first_before : {C N : Type 0} (task : Task C N) (ways : List How) (a b : N) (m : Measure C HowId) → IsBeforeOf task.costs task.sought.limit ways (Concat (task.documents.document a) (task.documents.document b)) m → IsBefore task ways a m
unfolding most_pieces
first_before task ways a b m h =
    (h.0, h.1, room_fewer task.costs (most_pieces (task.documents.document a)) (most_pieces (task.documents.document a) + most_pieces (task.documents.document b)) m.cost (omega arith) h.2)

-- a measure of the list is one of those with their choices
pub member_there : {C : Type 0} (ways : List How) (f : List (Measure C HowId)) (n : ℕ) (m : Measure C HowId) → slice_get f n ≡ Some m → IsMember (chosen ways m) (all_chosen ways f)
unfolding IsMember
member_there ways [] n m e = cc
member_there {C = C} ways (x ∷ xs) zero m e = let same : m ≡ x = cc in inl (ap (λ (z : Measure C HowId). chosen ways z) same)
member_there ways (x ∷ xs) (suc n) m e = inr (member_there ways xs n m e)

-- behind each measure of the first part there is room for the second
pub second_before : {C N : Type 0} (task : Task C N) (old new : List How) (a b : N) (flat : Bool) (i y : ℕ) (m : Measure C HowId) (firsts : List (Measure C HowId)) → IsSought task old →
    IsBeforeOf task.costs task.sought.limit old (Concat (task.documents.document a) (task.documents.document b)) m → AreBehind task old new a flat i y m firsts → AreBefore task new b firsts
unfolding AreBefore most_pieces
second_before {C = C} task old new a b flat i y m firsts told before behind =
    λ at k there.
    let da = task.documents.document a in
    let db = task.documents.document b in
    let document = is_document task old a told in
    let column = is_column task old told in
    let room : HasRoom task.costs (most_pieces da + most_pieces db) m.cost = before.2 in
    let short = step.after_frontier task.costs told.lawful task.sought.limit da flat (chosen old m) i y column document (room_fewer task.costs (most_pieces da) (most_pieces da + most_pieces db) m.cost (omega arith) room) in
    let member : IsMember (chosen new k) (after_in task.costs task.sought.limit da flat (chosen old m) i y) =
    subst (λ (z : List (Measure C (List Dir))). IsMember (chosen new k) z) behind.1 (member_there new firsts at k there) in (
      ends_member task.sought.limit (chosen new k) (after_in task.costs task.sought.limit da flat (chosen old m) i y) short.2 member,
      belong_there new firsts at k behind.0 there,
      step.after_room task.costs told.lawful task.sought.limit da flat (chosen old m) (chosen new k) i y (most_pieces db) column document room member,
    )

-- so what stands of the second behind each of the first is what stands of both
pub both_found : {C N : Type 0} (task : Task C N) (old mid new : List How) (a b : N) (flat : Bool) (i x y : ℕ) (t : Told) (m : Measure C HowId) (firsts kept : List (Measure C HowId)) →
    IsSought task old → IsBeforeOf task.costs task.sought.limit old (Concat (task.documents.document a) (task.documents.document b)) m → ToldHolds (task.documents.document b) flat t → y ≡ cut_of task.sought.limit task.sought.free t x →
    AreBehind task old mid a flat i y m firsts → AreBehindAll task mid new b flat i x firsts kept → AreBehindOf task.costs task.sought.limit old new (Concat (task.documents.document a) (task.documents.document b)) flat i x m kept
unfolding IsDocument
both_found {C = C} task old mid new a b flat i x y t m firsts kept told before t_holds cut_is first second =
    let da = task.documents.document a in
    let db = task.documents.document b in
    let document : IsDocument (Concat da db) = (is_document task old a told, is_document task old b told) in
    let is_cut = cuts.after_concat task.costs told.lawful task.sought.limit task.sought.free da db flat (chosen old m) i x y (is_column task old told) document before.2 told.texts (may_cut task.sought.limit task.sought.free x y db flat t t_holds told.near cut_is) in (
      second.0,
      second.1
          ∙ (ap (λ (z : List (Measure C (List Dir))). cut x (pareto task.costs (flat_map (λ k. after_in task.costs task.sought.limit db flat k i x) z))) first.1
          ∙ sym is_cut),
    )

-- of one measure all is worth keeping that stands behind it
pub one_all : {C N : Type 0} (task : Task C N) (old new : List How) (n : N) (flat : Bool) (i x : ℕ) (k : Measure C HowId) (firsts kept : List (Measure C HowId)) → IsSought task old →
    firsts ≡ k ∷ [] → IsBefore task old n k → AreBehind task old new n flat i x k kept → AreBehindAll task old new n flat i x firsts kept
one_all {C = C} task old new n flat i x k firsts kept told alone before h =
    let d = task.documents.document n in
    let own : List (Measure C (List Dir)) = after_in task.costs task.sought.limit d flat (chosen old k) i x in
    let short = step.after_frontier task.costs told.lawful task.sought.limit d flat (chosen old k) i x (is_column task old told) (is_document task old n told) before.2 in
    let pruned : pareto task.costs (own ++ []) ≡ own = ap (λ (z : List (Measure C (List Dir))). pareto task.costs z) (append-nil own) ∙ frontier_is_pareto task.costs told.lawful own short.1 short.0 in
    let whole : own ≡ cut x (pareto task.costs (own ++ [])) = sym (ap (λ (z : List (Measure C (List Dir))). cut x z) pruned ∙ step.after_again task.costs task.sought.limit d flat (chosen old k) i x x (omega arith)) in
    subst (λ (z : List (Measure C HowId)). AreBehindAll task old new n flat i x z kept) (sym alone) (h.0, h.1 ∙ whole)

-- a side may be asked for behind the measure with the direction to it
pub side_before : {C N : Type 0} (task : Task C N) (old new : List How) (n a b side : N) (m k : Measure C HowId) → IsSought task old → task.documents.document n ≡ Choice (task.documents.document a) (task.documents.document b) → IsBefore task old n m →
    most_pieces (task.documents.document side) ≤ max (most_pieces (task.documents.document a)) (most_pieces (task.documents.document b)) → (k.last ≡ m.last) × (k.cost ≡ m.cost) → k.how.0 < length new → IsBefore task new side k
unfolding most_pieces
side_before {C = C} task old new n a b side m k told is before fewer same way =
    let pieces : most_pieces (task.documents.document n) ≡ max (most_pieces (task.documents.document a)) (most_pieces (task.documents.document b)) = ap most_pieces is in (
      omega (arith, same.0, before.0),
      way,
      subst (λ (z : C). HasRoom task.costs (most_pieces (task.documents.document side)) z) (sym same.1)
          (room_fewer task.costs (most_pieces (task.documents.document side)) (most_pieces (task.documents.document n)) m.cost (omega (arith, pieces, fewer)) before.2),
    )

-- both sides come to what stands of the choice
pub either_found : {C N : Type 0} (task : Task C N) (old one two three new : List How) (n a b : N) (flat : Bool) (i x : ℕ) (m left right : Measure C HowId) (firsts seconds kept : List (Measure C HowId)) →
    IsSought task old → task.documents.document n ≡ Choice (task.documents.document a) (task.documents.document b) → IsBefore task old n m → KeepsWays two new → KeepsWays old two →
    chosen one left ≡ turned Left (chosen old m) → chosen three right ≡ turned Right (chosen two m) →
    AreBehind task one two a flat i x left firsts → AreBehind task three new b flat i x right seconds → BelongTo new kept →
    all_chosen new kept ≡ cut x (pareto task.costs (all_chosen new firsts ++ all_chosen new seconds)) → AreBehind task old new n flat i x m kept
either_found {C = C} task old one two three new n a b flat i x m left right firsts seconds kept told is before newer older to_left to_right first second belong e =
    let da = task.documents.document a in
    let db = task.documents.document b in
    let node : task.documents.document n ≡ Choice da db = is in
    let document : IsDocument (Choice da db) = subst (λ (z : Doc). IsDocument z) node (is_document task old n told) in
    let room : HasRoom task.costs (most_pieces (Choice da db)) m.cost = subst (λ (z : Doc). HasRoom task.costs (most_pieces z) m.cost) node before.2 in
    let turn : chosen three right ≡ turned Right (chosen old m) = to_right ∙ ap (λ (z : Measure C (List Dir)). turned Right z) (chosen_goes_on old two m older before.1) in
    let firsts_are : all_chosen new firsts ≡ after_in task.costs task.sought.limit da flat (turned Left (chosen old m)) i x =
    chosen_keeps two new firsts newer first.0 ∙ (first.1 ∙ ap (λ (z : Measure C (List Dir)). after_in task.costs task.sought.limit da flat z i x) to_left) in
    let seconds_are : all_chosen new seconds ≡ after_in task.costs task.sought.limit db flat (turned Right (chosen old m)) i x =
    second.1 ∙ ap (λ (z : Measure C (List Dir)). after_in task.costs task.sought.limit db flat z i x) turn in (
      belong,
      e
          ∙ (ap₂ (λ (p q : List (Measure C (List Dir))). cut x (pareto task.costs (p ++ q))) firsts_are seconds_are
          ∙ (sym (step.after_choice task.costs told.lawful task.sought.limit da db flat (chosen old m) i x (is_column task old told) document room)
          ∙ ap (λ (z : Doc). after_in task.costs task.sought.limit z flat (chosen old m) i x) (sym node))),
    )

-- what is charged may be asked for behind the measure that has the charge
pub charge_before : {C N : Type 0} (task : Task C N) (ways : List How) (n : N) (k : ℕ) (a : N) (m paid : Measure C HowId) → IsSought task ways → task.documents.document n ≡ Charge k (task.documents.document a) → IsBefore task ways n m →
    paid ≡ extended task.costs m m.last (task.costs.charge k) → IsBefore task ways a paid
unfolding most_pieces IsDocument
charge_before {C = C} task ways n k a m paid told is before e =
    let node : task.documents.document n ≡ Charge k (task.documents.document a) = is in
    let document : IsDocument (Charge k (task.documents.document a)) = subst (λ (z : Doc). IsDocument z) node (is_document task ways n told) in
    let pieces : most_pieces (task.documents.document n) ≡ suc (most_pieces (task.documents.document a)) = ap most_pieces node in
    let room : HasRoom task.costs (most_pieces (task.documents.document a)) (task.costs.add m.cost (task.costs.charge k)) =
    charged_room task.costs told.lawful (most_pieces (task.documents.document a)) k m.cost document.0
    (room_fewer task.costs (most_pieces (task.documents.document a) + 1) (most_pieces (task.documents.document n)) m.cost (omega (arith, pieces)) before.2) in
    subst (λ (z : Measure C HowId). IsBefore task ways a z) (sym e) (before.0, before.1, room)

pub charge_found : {C N : Type 0} (task : Task C N) (old new : List How) (n : N) (k : ℕ) (a : N) (flat : Bool) (i x : ℕ) (m paid : Measure C HowId) (kept : List (Measure C HowId)) → IsSought task old →
    task.documents.document n ≡ Charge k (task.documents.document a) → IsBefore task old n m → paid ≡ extended task.costs m m.last (task.costs.charge k) → AreBehind task old new a flat i x paid kept → AreBehind task old new n flat i x m kept
charge_found {C = C} task old new n k a flat i x m paid kept told is before e h =
    let da = task.documents.document a in
    let node : task.documents.document n ≡ Charge k da = is in
    let document : IsDocument (Charge k da) = subst (λ (z : Doc). IsDocument z) node (is_document task old n told) in
    let room : HasRoom task.costs (most_pieces (Charge k da)) m.cost = subst (λ (z : Doc). HasRoom task.costs (most_pieces z) m.cost) node before.2 in
    let paid_is : chosen old paid ≡ extended task.costs (chosen old m) m.last (task.costs.charge k) = ap (λ (z : Measure C HowId). chosen old z) e in (
      h.0,
      h.1
          ∙ (ap (λ (z : Measure C (List Dir)). after_in task.costs task.sought.limit da flat z i x) paid_is
          ∙ (sym (step.after_charge task.costs told.lawful task.sought.limit k da flat (chosen old m) i x (is_column task old told) document room)
          ∙ ap (λ (z : Doc). after_in task.costs task.sought.limit z flat (chosen old m) i x) (sym node))),
    )

-- a node said in other words
pub asked_at : {C N : Type 0} (task : Task C N) (ways : List How) (n k : N) (m : Measure C HowId) → n ≡ k → IsBefore task ways k m →
    IsBefore task ways n m
asked_at {N = N} task ways n k m e h = subst (λ (z : N). IsBefore task ways z m) (sym e) h

pub before_at : {C N : Type 0} (task : Task C N) (ways : List How) (n k : N) (list : List (Measure C HowId)) → n ≡ k → AreBefore task ways k list → AreBefore task ways n list
before_at {N = N} task ways n k list e h = subst (λ (z : N). AreBefore task ways z list) (sym e) h

pub moved_all : {C N : Type 0} (task : Task C N) (old new : List How) (n k : N) (flat other : Bool) (i j x y : ℕ) (firsts kept : List (Measure C HowId)) →
    n ≡ k → flat ≡ other → i ≡ j → x ≡ y → AreBehindAll task old new n flat i x firsts kept → AreBehindAll task old new k other j y firsts kept
moved_all {N = N} task old new n k flat other i j x y firsts kept e f g h behind =
    subst (λ (z : ℕ). AreBehindAll task old new k other j z firsts kept) h
    (subst (λ (z : ℕ). AreBehindAll task old new k other z x firsts kept) g
    (subst (λ (z : Bool). AreBehindAll task old new k z i x firsts kept) f
    (subst (λ (z : N). AreBehindAll task old new z flat i x firsts kept) e behind)))

-- the one part of a node may be asked for where the node may
pub nest_before : {C N : Type 0} (task : Task C N) (ways : List How) (n : N) (k : ℕ) (a : N) (m : Measure C HowId) → task.documents.document n ≡ Nest k (task.documents.document a) → IsBefore task ways n m →
    IsBefore task ways a m
unfolding most_pieces
nest_before task ways n k a m is before =
    let same : most_pieces (task.documents.document n) ≡ most_pieces (task.documents.document a) = ap most_pieces is in
    part_before task ways n a m (omega (arith, same)) before

pub aligned_before : {C N : Type 0} (task : Task C N) (ways : List How) (n a : N) (m : Measure C HowId) → task.documents.document n ≡ Align (task.documents.document a) → IsBefore task ways n m →
    IsBefore task ways a m
unfolding most_pieces
aligned_before task ways n a m is before =
    let same : most_pieces (task.documents.document n) ≡ most_pieces (task.documents.document a) = ap most_pieces is in
    part_before task ways n a m (omega (arith, same)) before

pub reset_before : {C N : Type 0} (task : Task C N) (ways : List How) (n a : N) (m : Measure C HowId) → task.documents.document n ≡ Reset (task.documents.document a) → IsBefore task ways n m →
    IsBefore task ways a m
unfolding most_pieces
reset_before task ways n a m is before =
    let same : most_pieces (task.documents.document n) ≡ most_pieces (task.documents.document a) = ap most_pieces is in
    part_before task ways n a m (omega (arith, same)) before

pub flatten_before : {C N : Type 0} (task : Task C N) (ways : List How) (n a : N) (m : Measure C HowId) → task.documents.document n ≡ Flatten (task.documents.document a) → IsBefore task ways n m →
    IsBefore task ways a m
unfolding most_pieces
flatten_before task ways n a m is before =
    let same : most_pieces (task.documents.document n) ≡ most_pieces (task.documents.document a) = ap most_pieces is in
    part_before task ways n a m (omega (arith, same)) before

pub charge_small : {C N : Type 0} (task : Task C N) (ways : List How) (n : N) (k : ℕ) (a : N) → IsSought task ways → task.documents.document n ≡ Charge k (task.documents.document a) → k ≤ 1000
unfolding IsDocument
charge_small task ways n k a told is = (subst (λ (z : Doc). IsDocument z) is (is_document task ways n told)).0
