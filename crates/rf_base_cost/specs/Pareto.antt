-- Measures of resolutions, and which of them are worth keeping.
use Rattle.std.specs.Prelude.{◌≡◌, ◌<◌, ◌≤◌, ◌⊎◌, Bool, not, ◌&&◌, nat_le, if◌then◌else◌, IsFalse, List, [], ◌∷◌, ◌++◌, filter, map, ⊤}
use Rattle.std.specs.List.{list_any}
use Rattle.rf_base_document.specs.declared.directions.Dir.{Dir}
use Rattle.rf_base_cost.specs.declared.measures.Measure.{Measure}
use Rattle.rf_base_cost.specs.Cost.{Costs, IsValue}

-- the first measure ends no further right than the second, and costs no more
abbrev pub dominates : {C H : Type 0} → Costs C → Measure C H → Measure C H → Bool
dominates costs a b = nat_le a.last b.last && costs.le a.cost b.cost

-- the first measure dominates the second, and the second doesn't dominate the first
abbrev pub outdoes : {C H : Type 0} → Costs C → Measure C H → Measure C H → Bool
outdoes costs a b = dominates costs a b && not (dominates costs b a)

-- the measure, unless one of those that follow outdoes it
abbrev pub unless_outdone : {C H : Type 0} → Costs C → Measure C H → List (Measure C H) → List (Measure C H)
unless_outdone costs m following = if list_any (λ x. outdoes costs x m) following then [] else (m ∷ [])

-- the measures that no other dominates, of equals the first: the first measure, unless a later one outdoes it, and
-- those of the rest that no other of the rest dominates and that the first one doesn't dominate
unfoldable pub undominated : {C H : Type 0} → Costs C → List (Measure C H) → List (Measure C H)
undominated costs [] = []
undominated costs (m ∷ rest) =
    unless_outdone costs m rest ++ filter (λ x. not (dominates costs m x)) (undominated costs rest)

-- the measures with this one before the first that ends no further right
unfoldable pub placed : {C H : Type 0} → Measure C H → List (Measure C H) → List (Measure C H)
placed m [] = m ∷ []
placed m (x ∷ rest) = if nat_le x.last m.last then (m ∷ x ∷ rest) else (x ∷ placed m rest)

-- the measures by falling last column
unfoldable pub by_last : {C H : Type 0} → List (Measure C H) → List (Measure C H)
by_last [] = []
by_last (m ∷ rest) = placed m (by_last rest)

-- the measures that no other dominates, of equals the first, by falling last column
unfoldable pub pareto : {C H : Type 0} → Costs C → List (Measure C H) → List (Measure C H)
pareto costs list = by_last (undominated costs list)

-- the measure is one of the list
unfoldable pub IsMember : {A : Type 0} → A → List A → Type 0
IsMember x [] = ⊥
IsMember x (y ∷ rest) = (x ≡ y) ⊎ IsMember x rest

-- each of these measures ends further left than m, and costs more
unfoldable pub EachFollows : {C H : Type 0} → Costs C → Measure C H → List (Measure C H) → Type 0
EachFollows costs m [] = ⊤
EachFollows costs m (x ∷ rest) = (x.last < m.last) × IsFalse (costs.le x.cost m.cost) × EachFollows costs m rest

-- the last columns strictly fall, and the costs strictly rise
unfoldable pub IsFrontier : {C H : Type 0} → Costs C → List (Measure C H) → Type 0
IsFrontier costs [] = ⊤
IsFrontier costs (m ∷ rest) = EachFollows costs m rest × IsFrontier costs rest

-- the cost of each measure is a value
unfoldable pub EachIsValue : {C H : Type 0} → Costs C → List (Measure C H) → Type 0
EachIsValue costs [] = ⊤
EachIsValue costs (m ∷ rest) = IsValue costs m.cost × EachIsValue costs rest

-- the measure with its choices seen through f
abbrev pub rewayed : {C H K : Type 0} → (H → K) → Measure C H → Measure C K
rewayed f m = record { last = m.last; cost = m.cost; how = f m.how }

-- the measures with their choices seen through f
abbrev pub all_rewayed : {C H K : Type 0} → (H → K) → List (Measure C H) → List (Measure C K)
all_rewayed f list = map (rewayed f) list

-- the measure with this direction before its choices
abbrev pub marked : {C : Type 0} → Dir → Measure C (List Dir) → Measure C (List Dir)
marked dir m = record { last = m.last; cost = m.cost; how = dir ∷ m.how }

-- the second measure behind the first: it ends where the second ends, for both costs and by both choices
abbrev pub shifted : {C : Type 0} → Costs C → Measure C (List Dir) → Measure C (List Dir) → Measure C (List Dir)
shifted costs left m = record { last = m.last; cost = costs.add left.cost m.cost; how = left.how ++ m.how }

-- the measure for this cost before its own
abbrev pub raised : {C H : Type 0} → Costs C → C → Measure C H → Measure C H
raised costs by m = record { last = m.last; cost = costs.add by m.cost; how = m.how }

-- the measures, each with this direction before its choices
abbrev pub all_marked : {C : Type 0} → Dir → List (Measure C (List Dir)) → List (Measure C (List Dir))
all_marked dir list = map (marked dir) list

-- the measures, each behind this one
abbrev pub all_shifted : {C : Type 0} → Costs C → Measure C (List Dir) → List (Measure C (List Dir)) →
    List (Measure C (List Dir))
all_shifted costs left list = map (shifted costs left) list

-- the measures, each for this cost before its own
abbrev pub all_raised : {C H : Type 0} → Costs C → C → List (Measure C H) → List (Measure C H)
all_raised costs by list = map (raised costs by) list

-- no measure ends further right than m
unfoldable pub NoneFurther : {C H : Type 0} → Measure C H → List (Measure C H) → Type 0
NoneFurther m [] = ⊤
NoneFurther m (x ∷ rest) = (x.last ≤ m.last) × NoneFurther m rest

-- the last columns never rise
unfoldable pub NeverRises : {C H : Type 0} → List (Measure C H) → Type 0
NeverRises [] = ⊤
NeverRises (m ∷ rest) = NoneFurther m rest × NeverRises rest
