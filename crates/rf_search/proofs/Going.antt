-- What is asked for and found goes on as ways and rows are added.
use Rattle.std.proofs.Common.{◌≡◌, ℕ, zero, suc, ◌+◌, ◌<◌, Bool, List, [], ◌∷◌, ◌++◌, length, take, flat_map, Some, refl, sym, subst, ap, ap₂, ◌∙◌, append-nil, arith}
use Rattle.std.specs.Prelude.{slice_get}
use Rattle.std.proofs.lemmas.List.Concat.{flat_map-append}
use Rattle.rf_base_document.specs.declared.directions.Dir.{Dir}
use Rattle.rf_base_cost.specs.declared.measures.Measure.{Measure}
use Rattle.rf_base_cost.specs.Cost.{IsValue}
use Rattle.rf_base_cost.specs.Pareto.{pareto, undominated, by_last, IsFrontier, EachIsValue}
use Rattle.rf_base_cost.proofs.Choices.{frontier_back, values_back}
use Rattle.rf_base_cost.proofs.Pareto.{pareto_is_frontier, pareto_values}
use Rattle.rf_base_cost.proofs.Members.{value_append}
use Rattle.rf_base_optimum.specs.MostPieces.{most_pieces}
use Rattle.rf_base_optimum.specs.Plain.{leaf_measure}
use Rattle.rf_base_cut.specs.Cut.{cut, HasRoom}
use Rattle.rf_base_cut.specs.Documents.{after_in}
use Rattle.rf_base_cut.proofs.Behind.{room_value}
use Rattle.rf_base_cut.proofs.Cutting.{cut_frontier, cut_values}
use Rattle.rf_base_cut.proofs.Pruned.{cut_onwards}
use Rattle.rf_base_cut.proofs.DocumentSteps as step
use Rattle.rf_frontier.specs.declared.hows.How.{How}
use Rattle.rf_frontier.specs.declared.hows.HowId.{HowId}
use Rattle.rf_frontier.specs.Ways.{choices_of, KeepsWays}
use Rattle.rf_frontier.specs.Frontiers.{BelongTo, chosen, all_chosen}
use Rattle.rf_frontier.proofs.Ways.{keeps_choices, keeps_length, keeps_same}
use Rattle.rf_frontier.proofs.Behind.{chosen_keeps, chosen_append}
use Rattle.rf_frontier.proofs.Cuts.{take_at}
use Rattle.rf_search.specs.Tasks.{Task}
use Rattle.rf_search.specs.declared.sought.Found.{Found}
use Rattle.rf_search.specs.declared.rows.Row.{Row}
use Rattle.rf_search.specs.Sought.{IsSought}
use Rattle.rf_search.specs.Rows.{RowHolds, RowsHold, IsPut, Serves}
use Rattle.rf_search.specs.Behind.{IsBefore, AreBefore, AreBehind, AreBehindAll}
use Rattle.rf_search.specs.Holding.{Holds, GoesOn}
use Rattle.rf_search.proofs.Told.{is_document, rows_put, room_for_nothing}
use Rattle.rf_search.proofs.Nodes.{is_column}
use Rattle.rf_search.proofs.Served.{RowSays}

pub before_value : {C N : Type 0} (task : Task C N) (ways : List How) (n : N) (m : Measure C HowId) → IsSought task ways → IsBefore task ways n m → IsValue task.costs m.cost
before_value task ways n m told before = room_value task.costs told.lawful (most_pieces (task.documents.document n)) m.cost before.2

pub before_goes_on : {C N : Type 0} (task : Task C N) (old new : List How) (n : N) (m : Measure C HowId) → KeepsWays old new → IsBefore task old n m → IsBefore task new n m
before_goes_on task old new n m kept h = (h.0, omega (arith, h.1, keeps_length old new kept), h.2)

-- the measure of older ways unfolds to the same choices
pub chosen_goes_on : {C : Type 0} (old new : List How) (m : Measure C HowId) → KeepsWays old new → m.how.0 < length old → chosen new m ≡ chosen old m
chosen_goes_on {C = C} old new m kept less =
    ap (λ (z : List Dir). record { last = m.last; cost = m.cost; how = z }) (keeps_choices old new m.how.0 kept less)

pub older_behind : {C N : Type 0} (task : Task C N) (old mid new : List How) (n : N) (flat : Bool) (i x : ℕ) (m : Measure C HowId) (kept : List (Measure C HowId)) →
    KeepsWays old mid → m.how.0 < length old → AreBehind task mid new n flat i x m kept → AreBehind task old new n flat i x m kept
older_behind {C = C} task old mid new n flat i x m kept older less h =
    (h.0, h.1 ∙ ap (λ (z : Measure C (List Dir)). after_in task.costs task.sought.limit (task.documents.document n) flat z i x) (chosen_goes_on old mid m older less))

-- a node may be asked for behind nothing where it may be behind a measure
pub nothing_before : {C N : Type 0} (task : Task C N) (ways : List How) (n : N) (m nothing : Measure C HowId) → IsSought task ways → IsBefore task ways n m →
    chosen ways nothing ≡ leaf_measure m.last (task.costs.text m.last 0) → nothing.how.0 < length ways → IsBefore task ways n nothing
nothing_before {C = C} task ways n m nothing told before leaf way =
    let pieces = most_pieces (task.documents.document n) in
    let last : nothing.last ≡ m.last = ap (λ (z : Measure C (List Dir)). z.last) leaf in
    let cost : nothing.cost ≡ task.costs.text m.last 0 = ap (λ (z : Measure C (List Dir)). z.cost) leaf in
    let room : HasRoom task.costs pieces (task.costs.text m.last 0) = room_for_nothing task.costs pieces m.last m.cost (omega (arith, before.0, told.narrow)) before.2 in
    (omega (arith, last, before.0), way, subst (λ (z : C). HasRoom task.costs pieces z) (sym cost) room)

-- a row that says what stands behind nothing holds, and with it the rows
row_holds : {C N : Type 0} (task : Task C N) (ways : List How) (row : Row C) (number : ℕ) (flat : Bool) (column y : ℕ) (measures : List (Measure C HowId)) →
    row.number ≡ number → row.flat ≡ flat → row.column ≡ column → row.cut ≡ y → row.measures ≡ measures →
    RowSays task ways number flat column y measures → RowHolds task ways row
row_holds {C = C} task ways row number flat column y measures e f g h k says =
    subst (λ (z : ℕ). RowSays task ways z row.flat row.column row.cut row.measures) (sym e)
    (subst (λ (z : Bool). RowSays task ways number z row.column row.cut row.measures) (sym f)
    (subst (λ (z : ℕ). RowSays task ways number flat z row.cut row.measures) (sym g)
    (subst (λ (z : ℕ). RowSays task ways number flat column z row.measures) (sym h)
    (subst (λ (z : List (Measure C HowId)). RowSays task ways number flat column y z) (sym k) says))))

pub put_goes_on : {C N : Type 0} (task : Task C N) (old new : Found C) (number : ℕ) (flat : Bool) (column y : ℕ) (measures : List (Measure C HowId)) → Holds task old →
    IsPut old.rows.items new.rows.items number flat column y measures → new.hows ≡ old.hows → RowSays task old.hows number flat column y measures → GoesOn task old new
put_goes_on {C = C} task old new number flat column y measures holds put same says =
    let row = row_holds task old.hows put.0 number flat column y measures put.2 put.3 put.4 put.5 put.6 says in
    record {
      older = subst (λ (z : List How). KeepsWays old.hows z) (sym same) (keeps_same old.hows);
      holds = record {
        told = subst (λ (z : List How). IsSought task z) (sym same) holds.told;
        rows = subst (λ (z : List How). RowsHold task z new.rows.items) (sym same) (rows_put task old.hows old.rows.items new.rows.items put.0 put.1 holds.rows row);
      };
    }

last_there : {A : Type 0} (xs : List A) (x : A) → slice_get (xs ++ x ∷ []) (length xs) ≡ Some x
last_there [] x = refl
last_there (y ∷ ys) x = last_there ys x

pub put_serves : {C : Type 0} (old new : List (Row C)) (number : ℕ) (flat : Bool) (column y at : ℕ) (measures : List (Measure C HowId)) → IsPut old new number flat column y measures → at ≡ length old →
    Serves new at number flat column y
put_serves {C = C} old new number flat column y at measures put last =
    let there : slice_get new at ≡ Some put.0 =
    ap (λ (z : List (Row C)). slice_get z at) put.1 ∙ (ap (λ (k : ℕ). slice_get (old ++ put.0 ∷ []) k) last ∙ last_there old put.0) in
    (put.0, there, put.2, put.3, put.4, omega (arith, put.5))

-- no measure has something behind it
pub none_all : {C N : Type 0} (task : Task C N) (ways : List How) (n : N) (flat : Bool) (i x : ℕ) (kept : List (Measure C HowId)) → kept ≡ [] → AreBehindAll task ways ways n flat i x [] kept
unfolding BelongTo pareto undominated by_last cut
none_all {C = C} task ways n flat i x kept e = subst (λ (z : List (Measure C HowId)). AreBehindAll task ways ways n flat i x [] z) (sym e) (tt, refl)

pub before_there : {C N : Type 0} (task : Task C N) (ways : List How) (n : N) (list : List (Measure C HowId)) (at : ℕ) (m : Measure C HowId) → AreBefore task ways n list → slice_get list at ≡ Some m →
    IsBefore task ways n m
unfolding AreBefore
before_there task ways n list at m h e = h at m e

-- what stands behind each measure task.costs values
each_values : {C N : Type 0} (task : Task C N) (ways : List How) (n : N) (flat : Bool) (i x : ℕ) (list : List (Measure C HowId)) (at : ℕ) → IsSought task ways → AreBefore task ways n list →
    EachIsValue task.costs (flat_map (λ k. after_in task.costs task.sought.limit (task.documents.document n) flat k i x) (all_chosen ways (take at list)))
unfolding AreBefore EachIsValue
each_values task ways n flat i x [] zero told before = tt
each_values task ways n flat i x [] (suc at) told before = tt
each_values task ways n flat i x (m ∷ list) zero told before = tt
each_values task ways n flat i x (m ∷ list) (suc at) told before =
    let short = step.after_frontier task.costs told.lawful task.sought.limit (task.documents.document n) flat (chosen ways m) i x (is_column task ways told) (is_document task ways n told) (before 0 m refl).2 in
    value_append task.costs _ _ short.1 (each_values task ways n flat i x list at told (λ k z e. before (suc k) z e))

-- so what is worth keeping of it is a frontier of values
pub all_frontier : {C N : Type 0} (task : Task C N) (old new : List How) (n : N) (flat : Bool) (i x : ℕ) (list kept : List (Measure C HowId)) (at : ℕ) → IsSought task old →
    AreBefore task old n list → AreBehindAll task old new n flat i x (take at list) kept → IsFrontier task.costs kept × EachIsValue task.costs kept
all_frontier {C = C} task old new n flat i x list kept at told before h =
    let row : List (Measure C (List Dir)) = flat_map (λ k. after_in task.costs task.sought.limit (task.documents.document n) flat k i x) (all_chosen old (take at list)) in
    let values = each_values task old n flat i x list at told before in (
      frontier_back task.costs (λ (id : HowId). choices_of new id.0) kept
          (subst (λ (z : List (Measure C (List Dir))). IsFrontier task.costs z) (sym h.1) (cut_frontier task.costs x (pareto task.costs row) (pareto_is_frontier task.costs told.lawful row values))),
      values_back task.costs (λ (id : HowId). choices_of new id.0) kept
          (subst (λ (z : List (Measure C (List Dir))). EachIsValue task.costs z) (sym h.1) (cut_values task.costs x (pareto task.costs row) (pareto_values task.costs row values))),
    )

-- one measure more
pub all_next : {C N : Type 0} (task : Task C N) (old mid new : List How) (n : N) (flat : Bool) (i x : ℕ) (list all more kept : List (Measure C HowId)) (at next : ℕ) (m : Measure C HowId) →
    IsSought task old → AreBefore task old n list → slice_get list at ≡ Some m → next ≡ at + 1 → KeepsWays old mid → KeepsWays mid new →
    AreBehindAll task old mid n flat i x (take at list) all → AreBehind task mid new n flat i x m more → BelongTo new kept →
    all_chosen new kept ≡ cut x (pareto task.costs (all_chosen new all ++ all_chosen new more)) → AreBehindAll task old new n flat i x (take next list) kept
all_next {C = C} task old mid new n flat i x list all more kept at next m told before there same older newer so_far behind belong is =
    let f : Measure C (List Dir) → List (Measure C (List Dir)) = λ k. after_in task.costs task.sought.limit (task.documents.document n) flat k i x in
    let step_is : suc at ≡ next = omega (arith, same) in
    let done : List (Measure C (List Dir)) = all_chosen old (take at list) in
    let own = before_there task old n list at m before there in
    let behind_m : all_chosen new more ≡ f (chosen old m) = (older_behind task old mid new n flat i x m more older own.1 behind).1 in
    let kept_all : all_chosen new all ≡ cut x (pareto task.costs (flat_map f done)) = chosen_keeps mid new all newer so_far.0 ∙ so_far.1 in
    let values = each_values task old n flat i x list at told before in
    let short = step.after_frontier task.costs told.lawful task.sought.limit (task.documents.document n) flat (chosen old m) i x (is_column task old told) (is_document task old n told) own.2 in
    let whole : all_chosen old (take next list) ≡ done ++ chosen old m ∷ [] =
    ap (λ (k : ℕ). all_chosen old (take k list)) (sym step_is) ∙ (ap (λ (z : List (Measure C HowId)). all_chosen old z) (take_at at list m there) ∙ chosen_append old (take at list) (m ∷ [])) in
    let row : flat_map f (all_chosen old (take next list)) ≡ flat_map f done ++ f (chosen old m) =
    ap (λ (z : List (Measure C (List Dir))). flat_map f z) whole ∙ (flat_map-append f done (chosen old m ∷ []) ∙ ap (λ (z : List (Measure C (List Dir))). flat_map f done ++ z) (append-nil (f (chosen old m)))) in (
      belong,
      is
          ∙ (ap₂ (λ (a b : List (Measure C (List Dir))). cut x (pareto task.costs (a ++ b))) kept_all behind_m
          ∙ (cut_onwards task.costs told.lawful x (flat_map f done) (f (chosen old m)) values short.1
          ∙ ap (λ (z : List (Measure C (List Dir))). cut x (pareto task.costs z)) (sym row))),
    )

-- one measure more, behind which nothing stands
pub all_next_none : {C N : Type 0} (task : Task C N) (ways : List How) (n : N) (flat : Bool) (i x : ℕ) (list all : List (Measure C HowId)) (at next : ℕ) (m : Measure C HowId) →
    slice_get list at ≡ Some m → next ≡ at + 1 → AreBehindAll task ways ways n flat i x (take at list) all → AreBehind task ways ways n flat i x m [] →
    AreBehindAll task ways ways n flat i x (take next list) all
all_next_none {C = C} task ways n flat i x list all at next m there same so_far behind =
    let f : Measure C (List Dir) → List (Measure C (List Dir)) = λ k. after_in task.costs task.sought.limit (task.documents.document n) flat k i x in
    let step_is : suc at ≡ next = omega (arith, same) in
    let done : List (Measure C (List Dir)) = all_chosen ways (take at list) in
    let none : f (chosen ways m) ≡ [] = sym behind.1 in
    let whole : all_chosen ways (take next list) ≡ done ++ chosen ways m ∷ [] =
    ap (λ (k : ℕ). all_chosen ways (take k list)) (sym step_is) ∙ (ap (λ (z : List (Measure C HowId)). all_chosen ways z) (take_at at list m there) ∙ chosen_append ways (take at list) (m ∷ [])) in
    let row : flat_map f (all_chosen ways (take next list)) ≡ flat_map f done ++ f (chosen ways m) =
    ap (λ (z : List (Measure C (List Dir))). flat_map f z) whole ∙ (flat_map-append f done (chosen ways m ∷ []) ∙ ap (λ (z : List (Measure C (List Dir))). flat_map f done ++ z) (append-nil (f (chosen ways m)))) in
    let still : flat_map f (all_chosen ways (take next list)) ≡ flat_map f done =
    row ∙ (ap (λ (z : List (Measure C (List Dir))). flat_map f done ++ z) none ∙ append-nil (flat_map f done)) in
    (so_far.0, so_far.1 ∙ ap (λ (z : List (Measure C (List Dir))). cut x (pareto task.costs z)) (sym still))
