-- One step of merging, of raising and of pruning.
use Rattle.std.proofs.lemmas.Bool.Decides.{nat_tests}
use Rattle.std.proofs.Common.{◌≡◌, ℕ, zero, suc, ◌==◌, ◌<◌, ◌≤◌, true, false, List, [], ◌∷◌, ◌++◌, length, drop, get_or, refl, sym, ◌∙◌, ap, subst, inl, inr, append_assoc, append-nil, arith}
use Rattle.std.proofs.lemmas.Bool.{cases_Bool}
use Rattle.rf_base_cost.specs.declared.measures.Measure.{Measure}
use Rattle.rf_base_cost.specs.Cost.{Costs, IsValue, Lawful}
use Rattle.rf_base_cost.specs.Pareto.{dominates, outdoes, undominated, by_last, pareto, IsMember, EachFollows, IsFrontier, EachIsValue}
use Rattle.rf_base_cost.proofs.Dominance.{true_not_false, dominates-from, not_dominates-right, not_dominates-dear, outdoes-from, outdoes-not}
use Rattle.rf_base_cost.proofs.Members.{member-right, left_member, left_from, value_member, value_append, member-append}
use Rattle.rf_base_cost.proofs.Kept.{none_outdoes_from, none_dominates_from}
use Rattle.rf_base_cost.proofs.Pareto.{follows-left, follows_member, frontier_is_pareto, drop_dominated, drop_outdone, take_rightmost}
use Rattle.rf_frontier.specs.Turns.{HeadsTurn}
use Rattle.rf_frontier.specs.declared.turns.Turn.{Turn}
use Rattle.rf_frontier.specs.declared.turns.Turn.TheVariants.{KeepFirst, KeepSecond, DropFirst, DropSecond}

-- the first measure of the list comes first, and then the frontier of what is left
abbrev pub Keeps : {C H : Type 0} → Costs C → List (Measure C H) → List (Measure C H) → List (Measure C H) → Type 0
Keeps {C} {H} costs list all left =
    (0 < length list) × ((other : Measure C H) → pareto costs all ≡ get_or list 0 other ∷ pareto costs left)

-- the first measure of the list can be left out
abbrev pub Drops : {C H : Type 0} → Costs C → List (Measure C H) → List (Measure C H) → List (Measure C H) → Type 0
Drops costs list all left = (0 < length list) × (pareto costs all ≡ pareto costs left)

-- what a turn leaves to merge
abbrev pub TurnsTo : {C H : Type 0} → Costs C → List (Measure C H) → List (Measure C H) → Turn → Type 0
TurnsTo costs a b KeepFirst = Keeps costs a (a ++ b) (drop 1 a ++ b)
TurnsTo costs a b KeepSecond = Keeps costs b (a ++ b) (a ++ drop 1 b)
TurnsTo costs a b DropFirst = Drops costs a (a ++ b) (drop 1 a ++ b)
TurnsTo costs a b DropSecond = Drops costs b (a ++ b) (a ++ drop 1 b)

-- of two values of which the first isn't at most the second, the second is at most the first
pub other_way : {C : Type 0} (costs : Costs C) (laws : Lawful costs) (a b : C) → IsValue costs a → IsValue costs b → costs.le a b ≡ false → costs.le b a ≡ true
other_way costs laws a b u v h = elim (laws.total a b u v) [ inl k ↦ true_not_false (costs.le a b) k h | inr k ↦ k ]

-- what follows a measure that isn't at most m isn't either
pub not_at_most : {C : Type 0} (costs : Costs C) (laws : Lawful costs) (z y m : C) → IsValue costs z → IsValue costs y → IsValue costs m →
    costs.le z y ≡ false → costs.le y m ≡ false → costs.le z m ≡ false
not_at_most costs laws z y m u v w p q =
    elim (cases_Bool (costs.le z m)) [
      | inr h ↦ h
      | inl h ↦ true_not_false (costs.le y m) (laws.transitive y z m v u w (other_way costs laws z y u v p) h) q
    ]

tail_value : {C H : Type 0} (costs : Costs C) (m : Measure C H) (xs : List (Measure C H)) → EachIsValue costs (m ∷ xs) → IsValue costs m.cost × EachIsValue costs xs
unfolding EachIsValue
tail_value costs m xs v = v

head_frontier : {C H : Type 0} (costs : Costs C) (m : Measure C H) (xs : List (Measure C H)) → IsFrontier costs (m ∷ xs) → EachFollows costs m xs × IsFrontier costs xs
unfolding IsFrontier
head_frontier costs m xs f = f

-- of two frontiers whose first measures are apart, the one that ends further right comes first
keep_first : {C H : Type 0} (costs : Costs C) (laws : Lawful costs) (x y : Measure C H) (xs ys : List (Measure C H)) →
    IsFrontier costs (x ∷ xs) → IsFrontier costs (y ∷ ys) → EachIsValue costs (x ∷ xs) → EachIsValue costs (y ∷ ys) →
    y.last < x.last → costs.le y.cost x.cost ≡ false → pareto costs (x ∷ (xs ++ (y ∷ ys))) ≡ x ∷ pareto costs (xs ++ (y ∷ ys))
unfolding EachIsValue IsFrontier IsMember
keep_first {C = C} {H = H} costs laws x y xs ys f g u v less dear =
    let left : (z : Measure C H) → IsMember z (xs ++ (y ∷ ys)) → (z.last < x.last) × (costs.le z.cost x.cost ≡ false) =
    λ z h. elim (member-append z xs (y ∷ ys) h) [
      | inl k ↦ (left_member x z xs (follows-left costs x xs f.0) k, follows_member costs x z xs f.0 k)
      | inr k ↦ elim k [
        | inl e ↦ subst (λ (m : Measure C H). (m.last < x.last) × (costs.le m.cost x.cost ≡ false)) (sym e) (less, dear)
        | inr k' ↦
            let one : z.last < y.last = left_member y z ys (follows-left costs y ys g.0) k' in
            (omega arith, not_at_most costs laws z.cost y.cost x.cost (value_member costs z ys v.1 k') v.0 u.0 (follows_member costs y z ys g.0 k') dear)
      ]
    ] in
    take_rightmost costs laws [] (xs ++ (y ∷ ys)) x tt (u.0, value_append costs xs (y ∷ ys) u.1 v) tt
    (left_from x (xs ++ (y ∷ ys)) (λ z h. (left z h).0)) tt
    (none_outdoes_from costs (xs ++ (y ∷ ys)) x (λ z h. outdoes-not costs z x (not_dominates-dear costs z x (left z h).1)))

keep_second : {C H : Type 0} (costs : Costs C) (laws : Lawful costs) (x y : Measure C H) (xs ys : List (Measure C H)) →
    IsFrontier costs (x ∷ xs) → IsFrontier costs (y ∷ ys) → EachIsValue costs (x ∷ xs) → EachIsValue costs (y ∷ ys) →
    x.last < y.last → costs.le x.cost y.cost ≡ false → pareto costs ((x ∷ xs) ++ (y ∷ ys)) ≡ y ∷ pareto costs ((x ∷ xs) ++ ys)
unfolding EachIsValue IsFrontier IsMember
keep_second {C = C} {H = H} costs laws x y xs ys f g u v less dear =
    let left : (z : Measure C H) → IsMember z (x ∷ xs) → (z.last < y.last) × (costs.le z.cost y.cost ≡ false) =
    λ z h. elim h [
      | inl e ↦ subst (λ (m : Measure C H). (m.last < y.last) × (costs.le m.cost y.cost ≡ false)) (sym e) (less, dear)
      | inr k ↦
          let one : z.last < x.last = left_member x z xs (follows-left costs x xs f.0) k in
          (omega arith, not_at_most costs laws z.cost x.cost y.cost (value_member costs z xs u.1 k) u.0 v.0 (follows_member costs x z xs f.0 k) dear)
    ] in
    take_rightmost costs laws (x ∷ xs) ys y u v
    (left_from y (x ∷ xs) (λ z h. (left z h).0)) (follows-left costs y ys g.0)
    (none_dominates_from costs (x ∷ xs) y (λ z h. not_dominates-dear costs z y (left z h).1))
    (none_outdoes_from costs ys y (λ z h. outdoes-not costs z y (not_dominates-dear costs z y (follows_member costs y z ys g.0 h))))

drop_first : {C H : Type 0} (costs : Costs C) (laws : Lawful costs) (x y : Measure C H) (xs ys : List (Measure C H)) →
    EachIsValue costs (x ∷ xs) → EachIsValue costs (y ∷ ys) → outdoes costs y x ≡ true → pareto costs (x ∷ (xs ++ (y ∷ ys))) ≡ pareto costs (xs ++ (y ∷ ys))
unfolding EachIsValue IsMember
drop_first costs laws x y xs ys u v o =
    drop_outdone costs laws x y (xs ++ (y ∷ ys)) (u.0, value_append costs xs (y ∷ ys) u.1 v) (member-right y xs (y ∷ ys) (inl refl)) o

drop_second : {C H : Type 0} (costs : Costs C) (laws : Lawful costs) (x y : Measure C H) (xs ys : List (Measure C H)) →
    EachIsValue costs (x ∷ xs) → EachIsValue costs (y ∷ ys) → dominates costs x y ≡ true → pareto costs ((x ∷ xs) ++ (y ∷ ys)) ≡ pareto costs ((x ∷ xs) ++ ys)
unfolding IsMember
drop_second costs laws x y xs ys u v d = drop_dominated costs laws (x ∷ xs) ys x y u v (inl refl) d

-- the turn of two frontiers is that of their first measures
pub heads_turn : {C H : Type 0} (costs : Costs C) (laws : Lawful costs) (x y : Measure C H) (xs ys : List (Measure C H)) (turn : Turn) →
    IsFrontier costs (x ∷ xs) → IsFrontier costs (y ∷ ys) → EachIsValue costs (x ∷ xs) → EachIsValue costs (y ∷ ys) →
    HeadsTurn costs x y turn → TurnsTo costs (x ∷ xs) (y ∷ ys) turn
heads_turn costs laws x y xs ys KeepFirst f g u v h = (omega arith, λ other. keep_first costs laws x y xs ys f g u v h.0 h.1)
heads_turn costs laws x y xs ys KeepSecond f g u v h = (omega arith, λ other. keep_second costs laws x y xs ys f g u v h.0 h.1)
heads_turn costs laws x y xs ys DropFirst f g u v h = (omega arith, drop_first costs laws x y xs ys u v h)
heads_turn costs laws x y xs ys DropSecond f g u v h = (omega arith, drop_second costs laws x y xs ys u v h)

frontier_head : {C H : Type 0} (costs : Costs C) (laws : Lawful costs) (x : Measure C H) (xs : List (Measure C H)) → IsFrontier costs (x ∷ xs) → EachIsValue costs (x ∷ xs) →
    pareto costs (x ∷ xs) ≡ x ∷ pareto costs xs
frontier_head {C = C} {H = H} costs laws x xs f v =
    frontier_is_pareto costs laws (x ∷ xs) v f
    ∙ sym (ap (λ (ms : List (Measure C H)). x ∷ ms) (frontier_is_pareto costs laws xs (tail_value costs x xs v).1 (head_frontier costs x xs f).1))

pub first_is_empty : {C H : Type 0} (costs : Costs C) (laws : Lawful costs) (a b : List (Measure C H)) → length a ≡ 0 → 0 < length b → IsFrontier costs b → EachIsValue costs b →
    TurnsTo costs a b KeepSecond
first_is_empty costs laws (x ∷ a) b p q f v = absurd (omega arith)
first_is_empty costs laws [] [] p q f v = absurd (omega arith)
first_is_empty costs laws [] (y ∷ ys) p q f v = (omega arith, λ other. frontier_head costs laws y ys f v)

pub second_is_empty : {C H : Type 0} (costs : Costs C) (laws : Lawful costs) (a b : List (Measure C H)) → length b ≡ 0 → 0 < length a → IsFrontier costs a → EachIsValue costs a →
    TurnsTo costs a b KeepFirst
second_is_empty costs laws a (y ∷ ys) p q f v = absurd (omega arith)
second_is_empty costs laws [] [] p q f v = absurd (omega arith)
second_is_empty {C = C} {H = H} costs laws (x ∷ xs) [] p q f v = (
  omega arith,
  λ other.
      ap (pareto costs) (append-nil (x ∷ xs)) ∙ (frontier_head costs laws x xs f v
      ∙ ap (λ (ms : List (Measure C H)). x ∷ pareto costs ms) (sym (append-nil xs))),
)

-- a measure that was read from values is one
pub value_at : {C H : Type 0} (costs : Costs C) (xs : List (Measure C H)) (i : ℕ) (x : Measure C H) → EachIsValue costs xs → i < length xs → x ≡ get_or xs i x → IsValue costs x.cost
unfolding EachIsValue
value_at costs [] i x v p e = absurd (omega arith)
value_at {C = C} {H = H} costs (y ∷ ys) zero x v p e = subst (λ (m : Measure C H). IsValue costs m.cost) (sym e) v.0
value_at costs (y ∷ ys) (suc i) x v p e = value_at costs ys i x v.1 (omega arith) e

-- of two measures that end at one column, what costs less outdoes
pub cheaper_outdoes : {C H : Type 0} (costs : Costs C) (laws : Lawful costs) (x y : Measure C H) → IsValue costs x.cost → IsValue costs y.cost →
    y.last ≤ x.last → costs.le x.cost y.cost ≡ false → outdoes costs y x ≡ true
cheaper_outdoes costs laws x y u v p h =
    outdoes-from costs y x (dominates-from costs y x p (other_way costs laws x.cost y.cost u v h)) (not_dominates-dear costs x y h)

-- of two measures, what ends further left and costs no more outdoes
pub shorter_outdoes : {C H : Type 0} (costs : Costs C) (x y : Measure C H) → y.last < x.last → costs.le y.cost x.cost ≡ true → outdoes costs y x ≡ true
shorter_outdoes costs x y p h =
    outdoes-from costs y x (dominates-from costs y x (omega arith) h) (not_dominates-right costs x y p)

pub is_some : (n : ℕ) → (n == 0) ≡ false → 0 < n
is_some n h = grind (arith, nat_tests)

-- the merged measures with one more, where it comes first of what was left
pub kept_step : {C H : Type 0} (costs : Costs C) (merged new list all left after whole : List (Measure C H)) (m : Measure C H) →
    merged ++ pareto costs all ≡ whole → Keeps costs list all left → m ≡ get_or list 0 m → new ≡ merged ++ m ∷ [] → after ≡ left → new ++ pareto costs after ≡ whole
kept_step {C = C} {H = H} costs merged new list all left after whole m so_far keeps is added same =
    let head : pareto costs all ≡ m ∷ pareto costs left = keeps.1 m ∙ ap (λ (x : Measure C H). x ∷ pareto costs left) (sym is) in
    let one : new ++ pareto costs after ≡ (merged ++ m ∷ []) ++ pareto costs left =
    ap (λ (xs : List (Measure C H)). xs ++ pareto costs after) added ∙ ap (λ (xs : List (Measure C H)). (merged ++ m ∷ []) ++ pareto costs xs) same in
    one ∙ (append_assoc merged (m ∷ []) (pareto costs left) ∙ (ap (λ (xs : List (Measure C H)). merged ++ xs) (sym head) ∙ so_far))

-- the merged measures, where the first of what was left can go
pub dropped_step : {C H : Type 0} (costs : Costs C) (merged list all left after whole : List (Measure C H)) →
    merged ++ pareto costs all ≡ whole → Drops costs list all left → after ≡ left → merged ++ pareto costs after ≡ whole
dropped_step {C = C} {H = H} costs merged list all left after whole so_far drops same =
    ap (λ (xs : List (Measure C H)). merged ++ xs) (ap (pareto costs) same ∙ sym drops.1) ∙ so_far

pub frontier_rest : {C H : Type 0} (costs : Costs C) (list rest : List (Measure C H)) → rest ≡ drop 1 list → IsFrontier costs list → IsFrontier costs rest
unfolding IsFrontier
frontier_rest {C = C} {H = H} costs [] rest e f = subst (λ (xs : List (Measure C H)). IsFrontier costs xs) (sym e) tt
frontier_rest {C = C} {H = H} costs (x ∷ xs) rest e f = subst (λ (ms : List (Measure C H)). IsFrontier costs ms) (sym e) f.1

pub values_rest : {C H : Type 0} (costs : Costs C) (list rest : List (Measure C H)) → rest ≡ drop 1 list → EachIsValue costs list → EachIsValue costs rest
unfolding EachIsValue
values_rest {C = C} {H = H} costs [] rest e f = subst (λ (xs : List (Measure C H)). EachIsValue costs xs) (sym e) tt
values_rest {C = C} {H = H} costs (x ∷ xs) rest e f = subst (λ (ms : List (Measure C H)). EachIsValue costs ms) (sym e) f.1

-- nothing is left to merge
pub all_merged : {C H : Type 0} (costs : Costs C) (merged first second whole : List (Measure C H)) → length first ≡ 0 → length second ≡ 0 →
    merged ++ pareto costs (first ++ second) ≡ whole → merged ≡ whole
unfolding pareto undominated by_last
all_merged costs merged (x ∷ first) second whole p q e = absurd (omega arith)
all_merged costs merged [] (y ∷ second) whole p q e = absurd (omega arith)
all_merged costs merged [] [] whole p q e = sym (append-nil merged) ∙ e

-- the same, by which list the turn takes from
pub kept_first : {C H : Type 0} (costs : Costs C) (merged new first second rest whole : List (Measure C H)) (m : Measure C H) →
    merged ++ pareto costs (first ++ second) ≡ whole → Keeps costs first (first ++ second) (drop 1 first ++ second) → m ≡ get_or first 0 m → new ≡ merged ++ m ∷ [] →
    rest ≡ drop 1 first → new ++ pareto costs (rest ++ second) ≡ whole
kept_first {C = C} {H = H} costs merged new first second rest whole m so_far keeps is added same =
    kept_step costs merged new first (first ++ second) (drop 1 first ++ second) (rest ++ second) whole m so_far keeps is added (ap (λ (xs : List (Measure C H)). xs ++ second) same)

pub kept_second : {C H : Type 0} (costs : Costs C) (merged new first second rest whole : List (Measure C H)) (m : Measure C H) →
    merged ++ pareto costs (first ++ second) ≡ whole → Keeps costs second (first ++ second) (first ++ drop 1 second) → m ≡ get_or second 0 m → new ≡ merged ++ m ∷ [] →
    rest ≡ drop 1 second → new ++ pareto costs (first ++ rest) ≡ whole
kept_second {C = C} {H = H} costs merged new first second rest whole m so_far keeps is added same =
    kept_step costs merged new second (first ++ second) (first ++ drop 1 second) (first ++ rest) whole m so_far keeps is added (ap (λ (xs : List (Measure C H)). first ++ xs) same)

pub dropped_first : {C H : Type 0} (costs : Costs C) (merged first second rest whole : List (Measure C H)) →
    merged ++ pareto costs (first ++ second) ≡ whole → Drops costs first (first ++ second) (drop 1 first ++ second) →
    rest ≡ drop 1 first → merged ++ pareto costs (rest ++ second) ≡ whole
dropped_first {C = C} {H = H} costs merged first second rest whole so_far drops same =
    dropped_step costs merged first (first ++ second) (drop 1 first ++ second) (rest ++ second) whole so_far drops (ap (λ (xs : List (Measure C H)). xs ++ second) same)

pub dropped_second : {C H : Type 0} (costs : Costs C) (merged first second rest whole : List (Measure C H)) →
    merged ++ pareto costs (first ++ second) ≡ whole → Drops costs second (first ++ second) (first ++ drop 1 second) →
    rest ≡ drop 1 second → merged ++ pareto costs (first ++ rest) ≡ whole
dropped_second {C = C} {H = H} costs merged first second rest whole so_far drops same =
    dropped_step costs merged second (first ++ second) (first ++ drop 1 second) (first ++ rest) whole so_far drops (ap (λ (xs : List (Measure C H)). first ++ xs) same)

pub same_value : {C : Type 0} (costs : Costs C) (a b : C) → a ≡ b → IsValue costs b → IsValue costs a
same_value {C = C} costs a b e v = subst (λ (x : C). IsValue costs x) (sym e) v

pub same_frontier : {C H : Type 0} (costs : Costs C) (xs ys : List (Measure C H)) → xs ≡ ys → IsFrontier costs ys → IsFrontier costs xs
same_frontier {C = C} {H = H} costs xs ys e f = subst (λ (ms : List (Measure C H)). IsFrontier costs ms) (sym e) f

pub same_values : {C H : Type 0} (costs : Costs C) (xs ys : List (Measure C H)) → xs ≡ ys → EachIsValue costs ys → EachIsValue costs xs
same_values {C = C} {H = H} costs xs ys e v = subst (λ (ms : List (Measure C H)). EachIsValue costs ms) (sym e) v
