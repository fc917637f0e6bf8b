-- Concatenations put together measure by measure.
use Rattle.std.proofs.Common.{◌≡◌, ℕ, suc, ◌+◌, ◌*◌, ◌<◌, ◌≤◌, List, [], ◌∷◌, length, sym, ◌∙◌, ap, subst, arith}
use Rattle.rf_base_document.specs.Graph.{GraphNode}
use Rattle.rf_base_cost.specs.declared.measures.Measure.{Measure}
use Rattle.rf_base_cost.specs.Cost.{Costs, IsValue}
use Rattle.rf_base_cost.specs.Pareto.{EachIsValue}
use Rattle.rf_base_steps.specs.Steps.{MakesAtMost}
use Rattle.rf_base_optimum.specs.Plain.{EachEndsBy}
use Rattle.rf_frontier.specs.declared.hows.How.{How}
use Rattle.rf_frontier.specs.declared.hows.HowId.{HowId}
use Rattle.rf_frontier.specs.Frontiers.{BelongTo}
use Rattle.rf_resolve.specs.declared.keys.Key.{Key}
use Rattle.rf_resolve.specs.Keys.{IsAsked, key_behind, seen}
use Rattle.rf_resolve.specs.Holding.{MemoView}
use Rattle.rf_resolve.specs.Joining.{IsGiven, EachIsGiven}

-- the part behind a measure may be asked for
pub behind_asked : {C : Type 0} (nodes : List GraphNode) (w : ℕ) (part key : Key) (left rest : List (Measure C HowId)) (m : Measure C HowId) → IsAsked nodes w part →
    EachEndsBy w left → left ≡ m ∷ rest → key ≡ key_behind part m.last → IsAsked nodes w key
unfolding EachEndsBy
behind_asked {C} nodes w part key left rest m asked ends is at =
    let first : EachEndsBy w (m ∷ rest) = subst (λ (l : List (Measure C HowId)). EachEndsBy w l) is ends in
    subst (λ (k : Key). IsAsked nodes w k) (sym at) record { graph = asked.graph; node = asked.node; column = first.0; indentation = asked.indentation }

pub ends_rest : {C : Type 0} (w : ℕ) (left rest : List (Measure C HowId)) (m : Measure C HowId) → EachEndsBy w left → left ≡ m ∷ rest → EachEndsBy w rest
unfolding EachEndsBy
ends_rest {C} w left rest m ends is = (subst (λ (l : List (Measure C HowId)). EachEndsBy w l) is ends).1

-- where the first has its frontier and so do the rest, all have
pub given_first : {C : Type 0} (nodes : List GraphNode) (w : ℕ) (memo : MemoView C) (part behind key : Key) (left rest : List (Measure C HowId)) (m : Measure C HowId) →
    left ≡ m ∷ rest → behind ≡ key_behind part m.last → key ≡ seen nodes w behind → IsGiven nodes memo key → EachIsGiven nodes w memo part rest → EachIsGiven nodes w memo part left
unfolding EachIsGiven
given_first {C} nodes w memo part behind key left rest m is at seen_is given others =
    let here : key ≡ seen nodes w (key_behind part m.last) = seen_is ∙ ap (λ (k : Key). seen nodes w k) at in
    subst (λ (l : List (Measure C HowId)). EachIsGiven nodes w memo part l) (sym is)
    (subst (λ (k : Key). IsGiven nodes memo k) here given, others)

pub none_given : {C : Type 0} (nodes : List GraphNode) (w : ℕ) (memo : MemoView C) (part : Key) (left : List (Measure C HowId)) → length left ≡ 0 → EachIsGiven nodes w memo part left
unfolding EachIsGiven
none_given nodes w memo part [] none = tt
none_given nodes w memo part (m ∷ rest) none = absurd (omega (arith, none))

-- the first of what is given
pub first_given : {C : Type 0} (nodes : List GraphNode) (w : ℕ) (memo : MemoView C) (part behind key : Key) (left rest : List (Measure C HowId)) (m : Measure C HowId) →
    left ≡ m ∷ rest → behind ≡ key_behind part m.last → key ≡ seen nodes w behind → EachIsGiven nodes w memo part left →
    IsGiven nodes memo key × EachIsGiven nodes w memo part rest
unfolding EachIsGiven
first_given {C} nodes w memo part behind key left rest m is at seen_is given =
    let here : key ≡ seen nodes w (key_behind part m.last) = seen_is ∙ ap (λ (k : Key). seen nodes w k) at in
    let all : EachIsGiven nodes w memo part (m ∷ rest) = subst (λ (l : List (Measure C HowId)). EachIsGiven nodes w memo part l) is given in
    (subst (λ (k : Key). IsGiven nodes memo k) (sym here) all.0, all.1)

pub rest_values : {C : Type 0} (costs : Costs C) (left rest : List (Measure C HowId)) (m : Measure C HowId) → left ≡ m ∷ rest → EachIsValue costs left → IsValue costs m.cost × EachIsValue costs rest
unfolding EachIsValue
rest_values {C} costs left rest m is values = subst (λ (l : List (Measure C HowId)). EachIsValue costs l) is values

pub rest_belongs : {C : Type 0} (ways : List How) (left rest : List (Measure C HowId)) (m : Measure C HowId) → left ≡ m ∷ rest → BelongTo ways left → (m.how.0 < length ways) × BelongTo ways rest
unfolding BelongTo
rest_belongs {C} ways left rest m is belong = subst (λ (l : List (Measure C HowId)). BelongTo ways l) is belong

-- one measure more is paid for: at most three steps for each of w + 1
pub step_paid_on : {C : Type 0} (w : ℕ) (left rest : List (Measure C HowId)) (m : Measure C HowId) (held right whole before now after : ℕ) → left ≡ m ∷ rest → held ≤ w + 1 → right ≤ w + 1 → before ≤ now →
    now + 3 * (w + 1) * length left ≤ before + 3 * (w + 1) * whole → MakesAtMost (held + 2 * right) now after →
    (before ≤ after) × (after + 3 * (w + 1) * length rest ≤ before + 3 * (w + 1) * whole)
step_paid_on w left rest m held right whole before now after is few short risen paid made =
    let one : length left ≡ suc (length rest) = ap length is in
    let spread : 3 * (w + 1) * length left ≡ 3 * (w + 1) * length rest + 3 * (w + 1) = ap (λ (n : ℕ). 3 * (w + 1) * n) one ∙ (let by : 3 * (w + 1) * suc (length rest) ≡ 3 * (w + 1) * length rest + 3 * (w + 1) = omega arith in by) in
    (omega (arith, risen, made.0), omega (arith, spread, paid, made.1, few, short))

pub step_paid : {C : Type 0} (w : ℕ) (left rest : List (Measure C HowId)) (m : Measure C HowId) (held right whole before now after : ℕ) → left ≡ m ∷ rest → held ≤ w + 1 → right ≤ w + 1 → before ≤ now →
    now + 3 * (w + 1) * length left ≤ before + 3 * (w + 1) * whole → MakesAtMost (held + 2 * right) now after → MakesAtMost (3 * (w + 1) * whole) before after
step_paid w left rest m held right whole before now after is few short risen paid made =
    let on = step_paid_on w left rest m held right whole before now after is few short risen paid made in
    (on.0, omega (arith, on.1))
