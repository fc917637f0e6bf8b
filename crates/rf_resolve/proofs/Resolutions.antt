-- What the walk from the root comes to is what is chosen of the document.
use Rattle.std.proofs.Common.{◌≡◌, ◌≢◌, ℕ, ◌+◌, ◌*◌, ◌<◌, ◌≤◌, Bool, false, List, [], length, refl, sym, ◌∙◌, ap, subst, Option, None, Some, inl, inr, arith}
use Rattle.std.proofs.Math.Nat.{mul-le-mul}
use Rattle.std.specs.Prelude.{IsTrue, ◌↔◌}
use Rattle.std.specs.Option.{is_some}
use Rattle.std.specs.Result.{IsErrOf}
use Rattle.std.proofs.Common.{Result, Err}
use Rattle.rf_walk.specs.declared.faults.LayoutError.{LayoutError}
use Rattle.rf_walk.specs.declared.faults.LayoutError.TheVariants as layout
use Rattle.rf_resolve.specs.declared.faults.ResolveError.{ResolveError}
use Rattle.rf_resolve.specs.declared.faults.ResolveError.TheVariants.{TooLong}
use Rattle.rf_resolve.specs.Faults.{fault_of}
use Rattle.rf_base_document.specs.declared.directions.Dir.{Dir}
use Rattle.rf_base_document.specs.declared.limits.TheConstants.{LAYOUT_LIMIT}
use Rattle.rf_base_document.specs.Document.{Doc, IsDocument}
use Rattle.rf_base_document.specs.Simple.{IsCore}
use Rattle.rf_base_document.specs.Graph.{GraphNode, IsGraph, StandsFor, unfolded}
use Rattle.rf_base_document.specs.Picks.{Picks, HasPicked, weight_of}
use Rattle.rf_base_document.specs.Render.{render}
use Rattle.rf_base_document.specs.TooLong.{IsTooLong}
use Rattle.rf_base_document.proofs.Graph.{unfolded-is, StandsFor-unfolded, StandsFor-documents}
use Rattle.rf_base_document.proofs.Picked.{picks_one}
use Rattle.rf_base_cost.specs.declared.measures.Measure.{Measure}
use Rattle.rf_base_cost.specs.Cost.{Costs, Lawful, IsColumn}
use Rattle.rf_base_cost.specs.Pareto.{IsMember}
use Rattle.rf_base_optimum.specs.Plain.{plain}
use Rattle.rf_base_optimum.specs.Chosen.{choose}
use Rattle.rf_base_optimum.specs.Best.{HasWithin}
use Rattle.rf_base_optimum.proofs.Optimum.{chosen_laid}
use Rattle.rf_base_optimum.proofs.Pruning.{measure_of_resolution, frontier_where_within}
use Rattle.rf_base_steps.specs.Steps.{MakesAtMost}
use Rattle.rf_frontier.specs.declared.hows.How.{How}
use Rattle.rf_frontier.specs.declared.hows.HowId.{HowId}
use Rattle.rf_memo.specs.Memo.{found}
use Rattle.rf_resolve.specs.Gaps.{gaps, frontier_steps}
use Rattle.rf_resolve.specs.Holding.{MemoView, MemoHolds}
use Rattle.rf_resolve.specs.Resolved.{resolve_steps}
use Rattle.rf_resolve.specs.Walk.{at_most_past, walk, FirstIs}
use Rattle.rf_resolve.proofs.Clamped.{Agrees, walk_agrees}
use Rattle.rf_resolve.proofs.Counting.{gaps_bounded}
use Rattle.rf_resolve.proofs.Parts.{narrow_column}
use Rattle.rf_resolve.proofs.Weights.{FirstsPick, walk_weighed}

-- the memo has nothing yet, and all of it is right
pub empty_holds : {C : Type 0} (costs : Costs C) (w : ℕ) (nodes : List GraphNode) (ways : List How) (memo : MemoView C) → 0 < length ways →
    ((n c i : ℕ) → found memo n c i ≡ None) → MemoHolds costs w nodes ways memo
unfolding MemoHolds
empty_holds costs w nodes ways memo some none = (some, λ key f is. absurd (cc (none key.node key.column key.indentation, is)))

pub chosen_at : {C : Type 0} (costs : Costs C) (w : ℕ) (nodes : List GraphNode) (root : ℕ) (d : Doc) → IsGraph nodes → IsCore d → StandsFor nodes root d →
    (walk costs w (unfolded nodes root) 0 0).choices ≡ (choose costs w d 0 0).choices
chosen_at costs w nodes root d whole core stands =
    let none : at_most_past w 0 ≡ 0 = omega arith in
    let agrees : Agrees w (walk costs w d (at_most_past w 0) (at_most_past w 0)) (choose costs w d 0 0) = walk_agrees costs w d 0 0 core in
    let at : Agrees w (walk costs w d 0 0) (choose costs w d 0 0) = subst (λ (x : ℕ). Agrees w (walk costs w d x x) (choose costs w d 0 0)) none agrees in
    ap (λ (x : Doc). (walk costs w x 0 0).choices) (unfolded-is nodes root d whole stands) ∙ at.0

-- what is chosen picks a resolution
pub chosen_picks : {C : Type 0} (costs : Costs C) (laws : Lawful costs) (w : ℕ) (nodes : List GraphNode) (root : ℕ) (choices : List Dir) → w ≤ 400 → IsGraph nodes → root < length nodes →
    ((d : Doc) → StandsFor nodes root d → IsCore d) → choices ≡ (walk costs w (unfolded nodes root) 0 0).choices → (d : Doc) × StandsFor nodes root d × HasPicked d choices
chosen_picks costs laws w nodes root choices narrow whole within core is =
    let d : Doc = unfolded nodes root in
    let stands : StandsFor nodes root d = StandsFor-unfolded nodes root whole within in
    let laid = chosen_laid costs laws w d 0 0 (narrow_column w narrow) (StandsFor-documents nodes root d whole stands) (core d stands) in
    let same : choices ≡ (choose costs w d 0 0).choices = is ∙ chosen_at costs w nodes root d whole (core d stands) stands in
    (d, stands, subst (λ (cs : List Dir). HasPicked d cs) (sym same) (laid.1.0, laid.1.1))

firsts_pick : {C : Type 0} (costs : Costs C) (laws : Lawful costs) (w : ℕ) → IsColumn w → FirstsPick costs w
unfolding IsMember
firsts_pick costs laws w column d c i m rest document core is =
    let member : IsMember m (plain costs w d c i) = subst (λ l. IsMember m l) (sym is) (inl refl) in
    let of = measure_of_resolution costs laws w d c i m column document member in
    (of.1.0.0, of.1.0.1)

-- a walk that weighs too much chooses a resolution that does
pub heavy_is_long : {C : Type 0} (costs : Costs C) (laws : Lawful costs) (w : ℕ) (nodes : List GraphNode) (root : ℕ) → w ≤ 400 → IsGraph nodes → ((d : Doc) → StandsFor nodes root d → IsCore d) →
    LAYOUT_LIMIT < (walk costs w (unfolded nodes root) 0 0).weight → (d e : Doc) → StandsFor nodes root d → Picks d (choose costs w d 0 0).choices e → IsTooLong e (choose costs w d 0 0).choices
heavy_is_long costs laws w nodes root narrow whole core heavy d e stands picked =
    let column : IsColumn w = narrow_column w narrow in
    let document : IsDocument d = StandsFor-documents nodes root d whole stands in
    let cs : List Dir = (choose costs w d 0 0).choices in
    let laid = chosen_laid costs laws w d 0 0 column document (core d stands) in
    let same : laid.1.0 ≡ e = picks_one d cs laid.1.0 e laid.1.1 picked in
    let weighed = walk_weighed costs w (firsts_pick costs laws w column) (unfolded nodes root) 0 0 (subst (λ (x : Doc). IsDocument x) (sym (unfolded-is nodes root d whole stands)) document)
    (subst (λ (x : Doc). IsCore x) (sym (unfolded-is nodes root d whole stands)) (core d stands)) in
    let choices : (walk costs w (unfolded nodes root) 0 0).choices ≡ cs = chosen_at costs w nodes root d whole (core d stands) stands in
    let also : Picks d cs weighed.0 =
    subst (λ (x : Doc). Picks x cs weighed.0) (unfolded-is nodes root d whole stands) (subst (λ (x : List Dir). Picks (unfolded nodes root) x weighed.0) choices weighed.1) in
    let other : weighed.0 ≡ e = picks_one d cs weighed.0 e also picked in
    let weight : weight_of weighed.0 (walk costs w (unfolded nodes root) 0 0).choices ≡ weight_of e cs = ap (λ (x : Doc). weight_of x (walk costs w (unfolded nodes root) 0 0).choices) other ∙ ap (λ (x : List Dir). weight_of e x) choices in
    (laid.0, subst (λ (x : Doc). render x 0 0 false ≡ Some laid.0) same laid.1.2, inr (omega (arith, heavy, weighed.2, weight)))

-- a layout that is too long is that of what is chosen
pub long_is_chosen : {C : Type 0} (costs : Costs C) (w : ℕ) (nodes : List GraphNode) (root : ℕ) (choices : List Dir) → IsGraph nodes → ((d : Doc) → StandsFor nodes root d → IsCore d) →
    choices ≡ (walk costs w (unfolded nodes root) 0 0).choices → ((d e : Doc) → StandsFor nodes root d → Picks d choices e → IsTooLong e choices) →
    (d e : Doc) → StandsFor nodes root d → Picks d (choose costs w d 0 0).choices e → IsTooLong e (choose costs w d 0 0).choices
long_is_chosen costs w nodes root choices whole core is long d e stands picked =
    let same : choices ≡ (choose costs w d 0 0).choices = is ∙ chosen_at costs w nodes root d whole (core d stands) stands in
    subst (λ (cs : List Dir). IsTooLong e cs) same (long d e stands (subst (λ (cs : List Dir). Picks d cs e) (sym same) picked))

-- there is a first measure where the frontier has one
some_first : {C : Type 0} (list : List (Measure C (List Dir))) (ways : List How) (first : Option (Measure C HowId)) (b : Bool) → FirstIs list ways first → b ≡ is_some first → IsTrue b ↔ (list ≢ [])
some_first list ways None b none is = (λ yes. absurd (cc (yes, is)), λ some. absurd (some none))
some_first list ways (Some m) b first is = (λ yes none. absurd (omega (arith, ap length (sym first.2 ∙ none))), λ some. is)

pub within_at : {C : Type 0} (costs : Costs C) (laws : Lawful costs) (w : ℕ) (nodes : List GraphNode) (root : ℕ) (ways : List How) (first : Option (Measure C HowId)) (b : Bool) → w ≤ 400 → IsGraph nodes →
    ((d : Doc) → StandsFor nodes root d → IsCore d) → FirstIs (plain costs w (unfolded nodes root) 0 0) ways first → b ≡ is_some first → (d : Doc) → StandsFor nodes root d → IsTrue b ↔ HasWithin w d 0 0 false
within_at costs laws w nodes root ways first b narrow whole core is same d stands =
    let some : IsTrue b ↔ (plain costs w d 0 0 ≢ []) = subst (λ (x : Doc). IsTrue b ↔ (plain costs w x 0 0 ≢ [])) (unfolded-is nodes root d whole stands) (some_first (plain costs w (unfolded nodes root) 0 0) ways first b is same) in
    let has = frontier_where_within costs laws w d 0 0 (narrow_column w narrow) (StandsFor-documents nodes root d whole stands) (core d stands) in
    (λ yes. has.0 (some.0 yes), λ it. some.1 (has.1 it))

-- all gaps that there may be are paid by the steps of resolving
pub gaps_resolve : {C : Type 0} (memo : MemoView C) (nodes w before after : ℕ) → MakesAtMost (frontier_steps w * gaps (found memo) nodes w) before after → MakesAtMost (resolve_steps nodes w) before after
gaps_resolve memo nodes w before after made =
    let most : gaps (found memo) nodes w ≤ nodes * ((w + 1) * (w + 2)) = gaps_bounded (found memo) nodes w in
    let paid : frontier_steps w * gaps (found memo) nodes w ≤ frontier_steps w * (nodes * ((w + 1) * (w + 2))) = mul-le-mul (omega arith) most in
    let same : frontier_steps w * (nodes * ((w + 1) * (w + 2))) ≡ resolve_steps nodes w = omega arith in
    (made.0, omega (arith, made.1, paid, same))

-- what an error is that is handed on
pub fault_is : {T : Type 0} (r : Result T ResolveError) (s : ResolveError) → r ≡ Err s → IsErrOf r TooLong → s ≡ TooLong
fault_is r s was is = let both = sym was ∙ is in cc

pub layout_is_long : (e : LayoutError) (s : ResolveError) → s ≡ fault_of e → s ≡ TooLong → e ≡ layout.TooLong
layout_is_long layout.TooLong s was is = refl
layout_is_long (layout.Memory a) s was is = let both = sym was ∙ is in cc
