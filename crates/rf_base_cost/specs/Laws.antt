-- Laws of costs of layouts and of frontiers, for each lawful way of counting costs.
use Rattle.std.specs.Prelude.{◌≡◌, ℕ, ◌≤◌, Bool, List, ◌∷◌, ◌++◌, length, Some, IsSome, IsTrue}
use Rattle.rf_base_document.specs.declared.limits.TheConstants.{LAYOUT_LIMIT}
use Rattle.rf_base_document.specs.Document.{Doc, IsDocument}
use Rattle.rf_base_document.specs.Render.{Piece, Laid, render, layout}
use Rattle.rf_base_cost.specs.declared.measures.Measure.{Measure}
use Rattle.rf_base_cost.specs.Cost.{Costs, IsValue, Lawful, cost_of, PiecesAreCounted}
use Rattle.rf_base_cost.specs.Reflecting.{ReflectsOrder, ReflectsOrderUpTo}
use Rattle.rf_base_cost.specs.Pareto.{dominates, outdoes, pareto, IsMember, IsFrontier, EachIsValue, all_rewayed}

-- a layout has a cost
abbrev pub LayoutHasCost : Type 0 → Type 0
LayoutHasCost C =
    (costs : Costs C) (e : Doc) (column indentation : ℕ) (flat : Bool) (whole : Laid) →
    render e column indentation flat ≡ Some whole → IsSome (cost_of costs whole.pieces)

-- the pieces of a document's layout at column 0 and indentation 0 are counted, where it has at most 67,108,864
-- characters
abbrev pub LayoutIsCounted : Type 0
LayoutIsCounted =
    (e : Doc) (flat : Bool) (whole : Laid) → IsDocument e → render e 0 0 flat ≡ Some whole →
    length (layout whole.pieces) ≤ LAYOUT_LIMIT → PiecesAreCounted whole.pieces

-- the cost of a layout is a value
abbrev pub CostIsValue : Type 0 → Type 0
CostIsValue C =
    (costs : Costs C) (pieces : List Piece) (cost : C) → Lawful costs → PiecesAreCounted pieces →
    cost_of costs pieces ≡ Some cost → IsValue costs cost

-- two layouts, one after the other, cost what they cost apart, added in order
abbrev pub CostsJoin : Type 0 → Type 0
CostsJoin C =
    (costs : Costs C) (pieces more : List Piece) (a b : C) → Lawful costs → PiecesAreCounted pieces →
    PiecesAreCounted more →
    cost_of costs pieces ≡ Some a → cost_of costs more ≡ Some b → cost_of costs (pieces ++ more) ≡ Some (costs.add a b)

-- each measure of `pareto` is a member
abbrev pub ParetoKeepsMembers : Type 0 → Type 0 → Type 0
ParetoKeepsMembers C H =
    (costs : Costs C) (list : List (Measure C H)) (m : Measure C H) → IsMember m (pareto costs list) → IsMember m list

-- each member is dominated by a measure of `pareto`
abbrev pub ParetoDominatesAll : Type 0 → Type 0 → Type 0
ParetoDominatesAll C H =
    (costs : Costs C) (list : List (Measure C H)) (m : Measure C H) → Lawful costs → EachIsValue costs list →
    IsMember m list →
    (k : Measure C H) × IsMember k (pareto costs list) × IsTrue (dominates costs k m)

-- `pareto` of values is a frontier of values
abbrev pub ParetoIsFrontier : Type 0 → Type 0 → Type 0
ParetoIsFrontier C H =
    (costs : Costs C) (list : List (Measure C H)) → Lawful costs → EachIsValue costs list →
    IsFrontier costs (pareto costs list) × EachIsValue costs (pareto costs list)

-- `pareto` of a frontier is the frontier
abbrev pub FrontierIsPareto : Type 0 → Type 0 → Type 0
FrontierIsPareto C H =
    (costs : Costs C) (list : List (Measure C H)) → Lawful costs → EachIsValue costs list → IsFrontier costs list →
    pareto costs list ≡ list

-- pruning two parts, and then both as one list, prunes the whole
abbrev pub ParetoByParts : Type 0 → Type 0 → Type 0
ParetoByParts C H =
    (costs : Costs C) (list more : List (Measure C H)) → Lawful costs → EachIsValue costs list →
    EachIsValue costs more →
    pareto costs (pareto costs list ++ pareto costs more) ≡ pareto costs (list ++ more)

-- what an earlier measure dominates, and so the later of two equals, can be left out
abbrev pub DominatedCanGo : Type 0 → Type 0 → Type 0
DominatedCanGo C H =
    (costs : Costs C) (list more : List (Measure C H)) (k m : Measure C H) → Lawful costs → EachIsValue costs list →
    EachIsValue costs (m ∷ more) →
    IsMember k list → IsTrue (dominates costs k m) → pareto costs (list ++ m ∷ more) ≡ pareto costs (list ++ more)

-- what a later measure outdoes can be left out
abbrev pub OutdoneCanGo : Type 0 → Type 0 → Type 0
OutdoneCanGo C H =
    (costs : Costs C) (k m : Measure C H) (list : List (Measure C H)) → Lawful costs → EachIsValue costs (m ∷ list) →
    IsMember k list → IsTrue (outdoes costs k m) → pareto costs (m ∷ list) ≡ pareto costs list

-- which measures stay doesn't depend on their choices
abbrev pub ParetoKnowsNoChoices : Type 0 → Type 0 → Type 0 → Type 0
ParetoKnowsNoChoices C H K =
    (costs : Costs C) (f : H → K) (list : List (Measure C H)) →
    all_rewayed f (pareto costs list) ≡ pareto costs (all_rewayed f list)

-- an addition that reflects the order of costs reflects that of what layouts cost, however many pieces they have
abbrev pub ReflectingReflectsAll : Type 0 → Type 0
ReflectingReflectsAll C = (costs : Costs C) (n : ℕ) → Lawful costs → ReflectsOrder costs → ReflectsOrderUpTo costs n
