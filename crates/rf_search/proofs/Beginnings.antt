-- What stands behind nothing at a column, and what is chosen by it.
use Rattle.std.proofs.Common.{◌≡◌, ℕ, suc, ◌+◌, ◌<◌, ◌≤◌, max, Bool, true, false, List, [], ◌∷◌, length, Some, refl, sym, ◌∙◌, ap, subst, arith}
use Rattle.std.specs.Prelude.{slice_get}
use Rattle.std.specs.Bool.{OnTrue}
use Rattle.rf_base_document.specs.declared.directions.Dir.{Dir}
use Rattle.rf_base_document.specs.Document.{Concat, Nest, Align, Reset, Flatten, Choice, Charge}
use Rattle.rf_base_cost.specs.declared.measures.Measure.{Measure}
use Rattle.rf_base_optimum.specs.Best.{HasWithin}
use Rattle.rf_base_optimum.specs.MostPieces.{most_pieces}
use Rattle.rf_base_optimum.specs.Plain.{leaf_measure}
use Rattle.rf_base_cut.specs.Cut.{HasRoom}
use Rattle.rf_base_cut.specs.Documents.{after_in}
use Rattle.rf_base_cut.proofs.Behind.{room_fewer}
use Rattle.rf_base_cut.proofs.Roots.{first_in_chosen}
use Rattle.rf_frontier.specs.declared.hows.How.{How}
use Rattle.rf_frontier.specs.declared.hows.HowId.{HowId}
use Rattle.rf_frontier.specs.Ways.{choices_of}
use Rattle.rf_frontier.specs.Frontiers.{all_chosen}
use Rattle.rf_frontier.specs.Frontiers as ways
use Rattle.rf_search.specs.Tasks.{Task}
use Rattle.rf_search.specs.Sought.{IsSought}
use Rattle.rf_search.specs.Behind.{IsBefore, AreBehind}
use Rattle.rf_search.specs.Parting.{HasOwnRoom, IsChosen, HasNothing}
use Rattle.rf_search.proofs.Told.{is_document, room_for_nothing}
use Rattle.rf_search.proofs.Nodes.{is_column}
use Rattle.rf_search.proofs.Firsts.{has_core, head_there}
use Rattle.rf_search.proofs.Partly.{nothing_found}

pub nothing_asked : {C N : Type 0} (task : Task C N) (hows : List How) (n : N) (column : ℕ) (nothing : Measure C HowId) → IsSought task hows → HasOwnRoom task n → column ≤ task.sought.limit →
    ways.chosen hows nothing ≡ leaf_measure column (task.costs.text column 0) → nothing.how.0 < length hows → IsBefore task hows n nothing
nothing_asked {C = C} task hows n column nothing told there near leaf way =
    let last : nothing.last ≡ column = ap (λ (z : Measure C (List Dir)). z.last) leaf in
    let cost : nothing.cost ≡ task.costs.text column 0 = ap (λ (z : Measure C (List Dir)). z.cost) leaf in
    let room : HasRoom task.costs (most_pieces (task.documents.document n)) (task.costs.text column 0) = room_for_nothing task.costs (most_pieces (task.documents.document n)) column (task.costs.text 0 0) (omega (arith, near, told.narrow)) there in
    (omega (arith, last, near), way, subst (λ (z : C). HasRoom task.costs (most_pieces (task.documents.document n)) z) (sym cost) room)

no_length : {A : Type 0} (xs : List A) → length xs ≡ 0 → xs ≡ []
no_length [] e = refl
no_length (x ∷ xs) e = absurd (omega (arith, e))

pub nothing_behind : {C N : Type 0} (task : Task C N) (old new : List How) (n : N) (flat : Bool) (column i : ℕ) (nothing : Measure C HowId) (kept : List (Measure C HowId)) → IsSought task old → column ≤ task.sought.limit →
    ways.chosen old nothing ≡ leaf_measure column (task.costs.text column 0) → AreBehind task old new n flat i task.sought.limit nothing kept → length kept ≡ 0 → HasNothing task.costs task.sought.limit (task.documents.document n) flat column i
nothing_behind {C = C} task old new n flat column i nothing kept told near leaf behind none =
    let d = task.documents.document n in
    let empty : all_chosen new kept ≡ [] = ap (λ (z : List (Measure C HowId)). all_chosen new z) (no_length kept none) in
    nothing_found task.costs told.lawful task.sought.limit d flat column i task.sought.limit (is_column task old told) (omega (arith, near, told.narrow)) (is_document task old n told)
    (sym (ap (λ (z : Measure C (List Dir)). after_in task.costs task.sought.limit d flat z i task.sought.limit) leaf) ∙ (sym behind.1 ∙ empty))

pub first_part : {C N : Type 0} (task : Task C N) (old new : List How) (n : N) (flat : Bool) (column i : ℕ) (nothing m : Measure C HowId) (kept : List (Measure C HowId)) → IsSought task old → column ≤ task.sought.limit →
    ways.chosen old nothing ≡ leaf_measure column (task.costs.text column 0) → AreBehind task old new n flat i task.sought.limit nothing kept → slice_get kept 0 ≡ Some m →
    HasWithin task.sought.limit (task.documents.document n) column i flat × IsChosen task.costs task.sought.limit (task.documents.document n) flat column i (choices_of new m.how.0) m.last
first_part {C = C} task old new n flat column i nothing m kept told near leaf behind there =
    let d = task.documents.document n in
    let head = head_there kept m there in
    let rest : List (Measure C (List Dir)) = all_chosen new head.0 in
    let is : after_in task.costs task.sought.limit d flat (leaf_measure column (task.costs.text column 0)) i task.sought.limit ≡ ways.chosen new m ∷ rest =
    sym (ap (λ (z : Measure C (List Dir)). after_in task.costs task.sought.limit d flat z i task.sought.limit) leaf) ∙ (sym behind.1 ∙ ap (λ (z : List (Measure C HowId)). all_chosen new z) head.1) in
    let core = has_core task.costs task.sought.limit d flat (leaf_measure column (task.costs.text column 0)) i task.sought.limit (ways.chosen new m) rest is in
    let by = first_in_chosen task.costs told.lawful task.sought.limit d core.0 flat column i task.sought.limit (ways.chosen new m) rest (is_column task old told) (omega (arith, near, told.narrow)) (is_document task old n told) core.1 is in
    ((choices_of new m.how.0, by.1.0, by.1.1), (core.0, core.1, by.0))

-- there is room for a node'task.sought parts where there is for the node
pub room_at : {C N : Type 0} (task : Task C N) (n k : N) → n ≡ k → HasOwnRoom task k → HasOwnRoom task n
room_at {N = N} task n k e h = subst (λ (z : N). HasOwnRoom task z) (sym e) h

part_room : {C N : Type 0} (task : Task C N) (n a : N) → most_pieces (task.documents.document a) ≤ most_pieces (task.documents.document n) → HasOwnRoom task n → HasOwnRoom task a
part_room task n a fewer room = room_fewer task.costs (most_pieces (task.documents.document a)) (most_pieces (task.documents.document n)) (task.costs.text 0 0) fewer room

pub concat_rooms : {C N : Type 0} (task : Task C N) (n a b : N) → task.documents.document n ≡ Concat (task.documents.document a) (task.documents.document b) → HasOwnRoom task n → HasOwnRoom task a × HasOwnRoom task b
unfolding most_pieces
concat_rooms task n a b is room =
    let pieces : most_pieces (task.documents.document n) ≡ most_pieces (task.documents.document a) + most_pieces (task.documents.document b) = ap most_pieces is in
    (part_room task n a (omega (arith, pieces)) room, part_room task n b (omega (arith, pieces)) room)

pub choice_rooms : {C N : Type 0} (task : Task C N) (n a b : N) → task.documents.document n ≡ Choice (task.documents.document a) (task.documents.document b) → HasOwnRoom task n → HasOwnRoom task a × HasOwnRoom task b
unfolding most_pieces
choice_rooms task n a b is room =
    let pieces : most_pieces (task.documents.document n) ≡ max (most_pieces (task.documents.document a)) (most_pieces (task.documents.document b)) = ap most_pieces is in
    (part_room task n a (omega (arith, pieces)) room, part_room task n b (omega (arith, pieces)) room)

pub nest_room : {C N : Type 0} (task : Task C N) (n : N) (k : ℕ) (a : N) → task.documents.document n ≡ Nest k (task.documents.document a) → HasOwnRoom task n → HasOwnRoom task a
unfolding most_pieces
nest_room task n k a is room =
    let pieces : most_pieces (task.documents.document n) ≡ most_pieces (task.documents.document a) = ap most_pieces is in
    part_room task n a (omega (arith, pieces)) room

pub align_room : {C N : Type 0} (task : Task C N) (n a : N) → task.documents.document n ≡ Align (task.documents.document a) → HasOwnRoom task n → HasOwnRoom task a
unfolding most_pieces
align_room task n a is room =
    let pieces : most_pieces (task.documents.document n) ≡ most_pieces (task.documents.document a) = ap most_pieces is in
    part_room task n a (omega (arith, pieces)) room

pub reset_room : {C N : Type 0} (task : Task C N) (n a : N) → task.documents.document n ≡ Reset (task.documents.document a) → HasOwnRoom task n → HasOwnRoom task a
unfolding most_pieces
reset_room task n a is room =
    let pieces : most_pieces (task.documents.document n) ≡ most_pieces (task.documents.document a) = ap most_pieces is in
    part_room task n a (omega (arith, pieces)) room

pub flatten_room : {C N : Type 0} (task : Task C N) (n a : N) → task.documents.document n ≡ Flatten (task.documents.document a) → HasOwnRoom task n → HasOwnRoom task a
unfolding most_pieces
flatten_room task n a is room =
    let pieces : most_pieces (task.documents.document n) ≡ most_pieces (task.documents.document a) = ap most_pieces is in
    part_room task n a (omega (arith, pieces)) room

pub charge_room : {C N : Type 0} (task : Task C N) (n : N) (k : ℕ) (a : N) → task.documents.document n ≡ Charge k (task.documents.document a) → HasOwnRoom task n → HasOwnRoom task a
unfolding most_pieces
charge_room task n k a is room =
    let pieces : most_pieces (task.documents.document n) ≡ suc (most_pieces (task.documents.document a)) = ap most_pieces is in
    part_room task n a (omega (arith, pieces)) room
