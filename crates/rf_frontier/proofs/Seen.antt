-- Walks over measures whose choices are seen.
use Rattle.std.proofs.Common.{◌≡◌, ◌+◌, ◌<◌, List, [], ◌∷◌, length, drop, get_or, refl, sym, ◌∙◌, ap, subst, arith}
use Rattle.rf_base_cost.specs.declared.measures.Measure.{Measure}
use Rattle.rf_base_cost.specs.Cost.{Costs, IsValue, Lawful}
use Rattle.rf_base_cost.specs.Pareto.{IsFrontier, EachIsValue, rewayed, all_rewayed}
use Rattle.rf_base_cost.proofs.Choices.{frontier_same, values_same}
use Rattle.rf_frontier.specs.Turns.{HeadsTurn, ListsTurn}
use Rattle.rf_frontier.specs.declared.turns.Turn.{Turn}
use Rattle.rf_frontier.specs.declared.turns.Turn.TheVariants.{KeepFirst, KeepSecond, DropFirst, DropSecond}
use Rattle.rf_frontier.proofs.Steps.{TurnsTo, heads_turn, first_is_empty, second_is_empty}

-- choices that are seen as they are
pub seen_same : {C H : Type 0} (xs : List (Measure C H)) → all_rewayed (λ (how : H). how) xs ≡ xs
seen_same [] = refl
seen_same {C = C} {H = H} (x ∷ xs) = ap (λ (ms : List (Measure C H)). x ∷ ms) (seen_same xs)

pub seen-length : {C H K : Type 0} (f : H → K) (xs : List (Measure C H)) → length (all_rewayed f xs) ≡ length xs
seen-length f [] = refl
seen-length f (x ∷ xs) = let rest = seen-length f xs in omega arith

seen-drop : {C H K : Type 0} (f : H → K) (xs : List (Measure C H)) → all_rewayed f (drop 1 xs) ≡ drop 1 (all_rewayed f xs)
seen-drop f [] = refl
seen-drop f (x ∷ xs) = refl

pub seen_rest : {C H K : Type 0} (f : H → K) (xs rest : List (Measure C H)) → rest ≡ drop 1 xs → all_rewayed f rest ≡ drop 1 (all_rewayed f xs)
seen_rest {C = C} {H = H} f xs rest e = ap (λ (ms : List (Measure C H)). all_rewayed f ms) e ∙ seen-drop f xs

-- the first of the measures, as it is seen
pub seen_first : {C H K : Type 0} (f : H → K) (xs : List (Measure C H)) (x : Measure C H) (y : Measure C K) → x ≡ get_or xs 0 x → y ≡ rewayed f x → y ≡ get_or (all_rewayed f xs) 0 y
seen_first f [] x y e p = refl
seen_first f (x' ∷ xs) x y e p = p ∙ ap (rewayed f) e

heads_seen : {C H K : Type 0} (costs : Costs C) (f g : H → K) (x y : Measure C H) (turn : Turn) → HeadsTurn costs x y turn → HeadsTurn costs (rewayed f x) (rewayed g y) turn
heads_seen costs f g x y KeepFirst h = h
heads_seen costs f g x y KeepSecond h = h
heads_seen costs f g x y DropFirst h = h
heads_seen costs f g x y DropSecond h = h

-- what a turn leaves to merge, of frontiers whose choices are seen
pub turn_of : {C H K : Type 0} (costs : Costs C) (laws : Lawful costs) (f g : H → K) (a b : List (Measure C H)) (turn : Turn) →
    IsFrontier costs a → IsFrontier costs b → EachIsValue costs a → EachIsValue costs b → 0 < length a + length b →
    ListsTurn costs a b turn → TurnsTo costs (all_rewayed f a) (all_rewayed g b) turn
turn_of costs laws f g [] [] turn p q u v s h = absurd (omega arith)
turn_of {C = C} {K = K} costs laws f g [] (y ∷ b) turn p q u v s h =
    let none : List (Measure C K) = [] in
    subst (λ (t : Turn). TurnsTo costs none (all_rewayed g (y ∷ b)) t) (sym h)
    (first_is_empty costs laws none (all_rewayed g (y ∷ b)) refl (omega (arith, seen-length g (y ∷ b)))
    (frontier_same costs g (y ∷ b) q) (values_same costs g (y ∷ b) v))
turn_of {C = C} {K = K} costs laws f g (x ∷ a) [] turn p q u v s h =
    let none : List (Measure C K) = [] in
    subst (λ (t : Turn). TurnsTo costs (all_rewayed f (x ∷ a)) none t) (sym h)
    (second_is_empty costs laws (all_rewayed f (x ∷ a)) none refl (omega (arith, seen-length f (x ∷ a)))
    (frontier_same costs f (x ∷ a) p) (values_same costs f (x ∷ a) u))
turn_of costs laws f g (x ∷ a) (y ∷ b) turn p q u v s h =
    heads_turn costs laws (rewayed f x) (rewayed g y) (all_rewayed f a) (all_rewayed g b) turn
    (frontier_same costs f (x ∷ a) p) (frontier_same costs g (y ∷ b) q) (values_same costs f (x ∷ a) u) (values_same costs g (y ∷ b) v)
    (heads_seen costs f g x y turn h)

pub none_first : {C H : Type 0} (costs : Costs C) (a b : List (Measure C H)) → length a ≡ 0 → ListsTurn costs a b KeepSecond
none_first costs [] b p = refl
none_first costs (x ∷ a) b p = absurd (omega arith)

pub none_second : {C H : Type 0} (costs : Costs C) (a b : List (Measure C H)) → length b ≡ 0 → 0 < length a → ListsTurn costs a b KeepFirst
none_second costs [] b p q = absurd (omega arith)
none_second costs (x ∷ a) [] p q = refl
none_second costs (x ∷ a) (y ∷ b) p q = absurd (omega arith)

pub some_both : {C H : Type 0} (costs : Costs C) (a b : List (Measure C H)) (x y : Measure C H) (turn : Turn) → 0 < length a → 0 < length b →
    x ≡ get_or a 0 x → y ≡ get_or b 0 y → HeadsTurn costs x y turn → ListsTurn costs a b turn
some_both {C = C} {H = H} costs (x' ∷ a) (y' ∷ b) x y turn p q d e h =
    subst (λ (m : Measure C H). HeadsTurn costs m y' turn) d (subst (λ (m : Measure C H). HeadsTurn costs x m turn) e h)
some_both costs _ _ x y turn p q d e h = absurd (omega arith)

pub viewed_value : {C H K : Type 0} (costs : Costs C) (f : H → K) (x : Measure C H) (y : Measure C K) → y ≡ rewayed f x → IsValue costs x.cost → IsValue costs y.cost
viewed_value {C = C} {K = K} costs f x y e v = subst (λ (m : Measure C K). IsValue costs m.cost) (sym e) v
