-- Documents on one line.
use Rattle.std.proofs.Common.{◌≡◌, ℕ, ◌+◌, ◌≤◌, Bool, true, false, ◌&&◌, ◌||◌, List, [], ◌∷◌, ◌++◌, refl, sym, ◌∙◌, ap, ap₂, subst, ◌⊎◌, inl, inr, arith}
use Rattle.std.specs.Prelude.{nat_le}
use Rattle.std.proofs.lemmas.Bool.{cases_Bool, and_parts, or_cases}
use Rattle.rf_base_document.specs.declared.directions.Dir.{Dir}
use Rattle.rf_base_document.specs.declared.directions.Dir.TheVariants.{Left, Right}
use Rattle.rf_base_document.specs.Document.{Doc, Text, Newline, Hard, Concat, Nest, Align, Reset, Flatten, Choice, Only, Charge, IsDocument}
use Rattle.rf_base_cost.specs.declared.measures.Measure.{Measure}
use Rattle.rf_base_cost.specs.Cost.{Costs, IsValue, AtMost, IsColumn, Lawful}
use Rattle.rf_base_cost.specs.Pareto.{dominates, outdoes, pareto, IsMember, IsFrontier, EachIsValue, marked, shifted, all_shifted, all_marked, all_raised}
use Rattle.rf_base_cost.proofs.Dominance.{true_not_false, nat_le-true, dominates-from, dominates-cost, not_dominates-dear, outdoes-not, true_le}
use Rattle.rf_base_cost.proofs.Members.{member-append, value_member, value_append}
use Rattle.rf_base_cost.proofs.Kept.{none_outdoes_from, none_dominates_from, kept-left, kept-right}
use Rattle.rf_base_cost.proofs.Pareto.{pareto-member, pareto_keeps_members, pareto_dominates_all, pareto_values, pareto_is_frontier, frontier-kept, follows_member}
use Rattle.rf_base_cost.proofs.Choices.{frontier_same}
use Rattle.rf_base_optimum.specs.Plain.{leaf_measure, all_joined, plain}
use Rattle.rf_base_optimum.proofs.Frontier.{plain_values, plain_frontier, joined_values, marked_values}
use Rattle.rf_base_optimum.proofs.Pruning.{map_member, member_map, joined_member, member_joined, within_member, at_most_itself}
use Rattle.rf_base_optimum.proofs.Reflecting.{is_false}
use Rattle.rf_base_cut.specs.Cut.{cut, after}
use Rattle.rf_base_cut.specs.OneLine.{measured, is_never_free, OneLine, NothingIsLeast}
use Rattle.rf_base_cut.specs.Indifferent.{IsFree}
use Rattle.rf_base_cut.proofs.Cutting.{cut_first}
use Rattle.rf_base_cut.proofs.Behind.{within_is}

-- a sum costs more than nothing where one of both does
first_dear : {C : Type 0} (costs : Costs C) (laws : Lawful costs) (least : NothingIsLeast costs) (a b : C) →
    IsValue costs a → IsValue costs b → costs.le a (costs.text 0 0) ≡ false →
    costs.le (costs.add a b) (costs.text 0 0) ≡ false
first_dear {C = C} costs laws least a b u v dear =
    let zero_value = laws.text_is_value 0 0 (omega arith) (omega arith) in
    let sum : AtMost costs (costs.add a (costs.text 0 0)) (costs.add a b) =
    laws.monotone a a (costs.text 0 0) b u u zero_value v (at_most_itself costs laws a u) (least.nothing b v) in
    let near : AtMost costs a (costs.add a b) =
    subst (λ (z : C). AtMost costs z (costs.add a b)) (laws.no_text 0 (omega arith) a u).1 sum in
    is_false costs (costs.add a b) (costs.text 0 0)
    (λ less. true_not_false (costs.le a (costs.text 0 0))
    (laws.transitive a (costs.add a b) (costs.text 0 0) u (laws.add_is_value a b u v) zero_value near less) dear)

second_dear : {C : Type 0} (costs : Costs C) (laws : Lawful costs) (least : NothingIsLeast costs) (a b : C) →
    IsValue costs a → IsValue costs b → costs.le b (costs.text 0 0) ≡ false →
    costs.le (costs.add a b) (costs.text 0 0) ≡ false
second_dear {C = C} costs laws least a b u v dear =
    let zero_value = laws.text_is_value 0 0 (omega arith) (omega arith) in
    let sum : AtMost costs (costs.add (costs.text 0 0) b) (costs.add a b) =
    laws.monotone (costs.text 0 0) a b b zero_value u v v (least.nothing a u) (at_most_itself costs laws b v) in
    let near : AtMost costs b (costs.add a b) =
    subst (λ (z : C). AtMost costs z (costs.add a b)) (laws.no_text 0 (omega arith) b v).0 sum in
    is_false costs (costs.add a b) (costs.text 0 0)
    (λ less. true_not_false (costs.le b (costs.text 0 0))
    (laws.transitive b (costs.add a b) (costs.text 0 0) v (laws.add_is_value a b u v) zero_value near less) dear)

-- each measure of the list costs more than nothing
abbrev EachDear : {C : Type 0} → Costs C → List (Measure C (List Dir)) → Type 0
EachDear {C} costs xs = (m : Measure C (List Dir)) → IsMember m xs → costs.le m.cost (costs.text 0 0) ≡ false

marked_dear : {C : Type 0} (costs : Costs C) (dir : Dir) (xs : List (Measure C (List Dir))) → EachDear costs xs →
    EachDear costs (all_marked dir xs)
marked_dear {C = C} costs dir xs f m h =
    let found = map_member (marked dir) m xs h in
    subst (λ (z : Measure C (List Dir)). costs.le z.cost (costs.text 0 0) ≡ false) (sym found.2) (f found.0 found.1)

-- where each resolution has a break or a charge, each measure costs more than nothing
pub never_free : {C : Type 0} (costs : Costs C) (laws : Lawful costs) (least : NothingIsLeast costs) (w : ℕ) (d : Doc)
    (c i : ℕ) → IsColumn w → IsDocument d → is_never_free d ≡ true →
    EachDear costs (plain costs w d c i)
unfolding plain IsDocument is_never_free IsMember
never_free costs laws least w (Text s len) c i p d e m h = cc
never_free {C = C} costs laws least w Newline c i p d e m h =
    let is = within_member (nat_le c w && nat_le i w) (leaf_measure i (costs.newline i)) m h in
    let less : i ≤ w = nat_le-true i w (and_parts (nat_le c w) (nat_le i w) is.0).1 in
    subst (λ (z : Measure C (List Dir)). costs.le z.cost (costs.text 0 0) ≡ false) (sym is.1)
    (least.break i (omega arith))
never_free {C = C} costs laws least w (Concat a b) c i p d e m h =
    let found =
    joined_member costs m (plain costs w a c i) (λ last. plain costs w b last i)
    (pareto_keeps_members costs (all_joined costs (plain costs w a c i) (λ last. plain costs w b last i)) m h) in
    let l = found.0 in
    let r = found.1 in
    let lv = value_member costs l (plain costs w a c i) (plain_values costs laws w a c i p d.0) found.2 in
    let rv = value_member costs r (plain costs w b l.last i) (plain_values costs laws w b l.last i p d.1) found.3 in
    subst (λ (z : Measure C (List Dir)). costs.le z.cost (costs.text 0 0) ≡ false) (sym found.4)
    (elim (or_cases (is_never_free a) (is_never_free b) e) [
      | inl first ↦
          first_dear costs laws least l.cost r.cost lv rv (never_free costs laws least w a c i p d.0 first l found.2)
      | inr second ↦
          second_dear costs laws least l.cost r.cost lv rv
          (never_free costs laws least w b l.last i p d.1 second r found.3)
    ])
never_free costs laws least w (Nest n a) c i p d e m h = never_free costs laws least w a c (i + n) p d.1 e m h
never_free costs laws least w (Align a) c i p d e m h = never_free costs laws least w a c c p d e m h
never_free costs laws least w (Reset a) c i p d e m h = never_free costs laws least w a c 0 p d e m h
never_free costs laws least w (Choice a b) c i p d e m h =
    let sides = and_parts (is_never_free a) (is_never_free b) e in
    let lefts = all_marked Left (plain costs w a c i) in
    let rights = all_marked Right (plain costs w b c i) in
    elim (member-append m (all_marked Left (plain costs w a c i)) (all_marked Right (plain costs w b c i))
    (pareto_keeps_members costs
    (all_marked Left (plain costs w a c i) ++ all_marked Right (plain costs w b c i)) m h)) [
      | inl k ↦
          marked_dear costs Left (plain costs w a c i)
          (λ z l. never_free costs laws least w a c i p d.0 sides.0 z l) m k
      | inr k ↦
          marked_dear costs Right (plain costs w b c i)
          (λ z l. never_free costs laws least w b c i p d.1 sides.1 z l) m k
    ]
never_free costs laws least w (Only dir a) c i p d e m h =
    marked_dear costs dir (plain costs w a c i) (λ z l. never_free costs laws least w a c i p d e z l) m h
never_free {C = C} costs laws least w (Charge k a) c i p d e m h =
    let found =
    map_member (λ (z : Measure C (List Dir)). let y : Measure C (List Dir) = record {
      last = z.last;
      cost = costs.add (costs.charge k) z.cost;
      how = z.how;
    } in y) m (plain costs w a c i)
    (pareto_keeps_members costs (all_raised costs (costs.charge k) (plain costs w a c i)) m h) in
    let kv = laws.charge_is_value k d.0 in
    let zv = value_member costs found.0 (plain costs w a c i) (plain_values costs laws w a c i p d.1) found.1 in
    subst (λ (z : Measure C (List Dir)). costs.le z.cost (costs.text 0 0) ≡ false) (sym found.2)
    (elim (or_cases (nat_le 1 k) (is_never_free a) e) [
      | inl some ↦
          first_dear costs laws least (costs.charge k) found.0.cost kv zv (least.charge k (nat_le-true 1 k some) d.0)
      | inr under ↦
          second_dear costs laws least (costs.charge k) found.0.cost kv zv
          (never_free costs laws least w a c i p d.1 under found.0 found.1)
    ])
never_free costs laws least w _ c i p d e m h = absurd h

-- of a frontier the measure that costs nothing is the first
free_first : {C : Type 0} (costs : Costs C) (laws : Lawful costs) (least : NothingIsLeast costs)
    (m : Measure C (List Dir)) (xs : List (Measure C (List Dir))) → m.cost ≡ costs.text 0 0 →
    EachIsValue costs xs → IsFrontier costs xs → IsMember m xs → (rest : List (Measure C (List Dir))) × (xs ≡ m ∷ rest)
unfolding IsMember IsFrontier EachIsValue
free_first costs laws least m [] e v f h = absurd h
free_first {C = C} costs laws least m (x ∷ xs) e v f (inl same) = (
  xs,
  ap (λ (z : Measure C (List Dir)). z ∷ xs) (sym same),
)
free_first {C = C} costs laws least m (x ∷ xs) e v f (inr h) =
    true_not_false (costs.le m.cost x.cost)
    (subst (λ (z : C). costs.le z x.cost ≡ true) (sym e) (least.nothing x.cost v.0)) (follows_member costs x m xs f.0 h)

-- the measure stands first, for nothing
abbrev pub IsFirst : {C : Type 0} → Costs C → ℕ → Doc → ℕ → ℕ → Measure C (List Dir) → Type 0
IsFirst {C} costs w d c i m = (rest : List (Measure C (List Dir))) × (plain costs w d c i ≡ m ∷ rest)

first_member : {C : Type 0} (costs : Costs C) (w : ℕ) (d : Doc) (c i : ℕ) (m : Measure C (List Dir)) →
    IsFirst costs w d c i m → IsMember m (plain costs w d c i)
unfolding IsMember
first_member {C = C} costs w d c i m h = subst (λ (z : List (Measure C (List Dir))). IsMember m z) (sym h.1) (inl refl)

-- each other one costs more
others_dear : {C : Type 0} (costs : Costs C) (laws : Lawful costs) (w : ℕ) (d : Doc) (c i : ℕ)
    (m z : Measure C (List Dir)) → IsColumn w → IsDocument d → m.cost ≡ costs.text 0 0 →
    IsFirst costs w d c i m → IsMember z (plain costs w d c i) → (z ≡ m) ⊎ (costs.le z.cost (costs.text 0 0) ≡ false)
unfolding IsMember IsFrontier
others_dear {C = C} costs laws w d c i m z p q e h k =
    let frontier =
    subst (λ (xs : List (Measure C (List Dir))). IsFrontier costs xs) h.1 (plain_frontier costs laws w d c i p q) in
    elim (subst (λ (xs : List (Measure C (List Dir))). IsMember z xs) h.1 k) [
      | inl same ↦ inl same
      | inr later ↦ inr (subst (λ (b : C). costs.le z.cost b ≡ false) e (follows_member costs m z h.0 frontier.0 later))
    ]

-- a member that costs nothing and that all others cost more than stays
cheapest_stays : {C : Type 0} (costs : Costs C) (laws : Lawful costs) (m : Measure C (List Dir))
    (xs : List (Measure C (List Dir))) → EachIsValue costs xs → m.cost ≡ costs.text 0 0 →
    IsMember m xs →
    ((z : Measure C (List Dir)) → IsMember z xs → (z ≡ m) ⊎ (costs.le z.cost (costs.text 0 0) ≡ false)) →
    IsMember m (pareto costs xs)
cheapest_stays {C = C} costs laws m xs v e h f =
    let found = pareto_dominates_all costs laws xs m v h in
    elim (f found.0 (pareto_keeps_members costs xs found.0 found.1)) [
      | inl same ↦ subst (λ (z : Measure C (List Dir)). IsMember z (pareto costs xs)) same found.1
      | inr dear ↦
          true_not_false (costs.le found.0.cost (costs.text 0 0))
          (subst (λ (b : C). costs.le found.0.cost b ≡ true) e (dominates-cost costs found.0 m found.2)) dear
    ]

first_of_pareto : {C : Type 0} (costs : Costs C) (laws : Lawful costs) (least : NothingIsLeast costs)
    (m : Measure C (List Dir)) (xs : List (Measure C (List Dir))) → EachIsValue costs xs →
    m.cost ≡ costs.text 0 0 → IsMember m (pareto costs xs) → EachIsValue costs (pareto costs xs) →
    (rest : List (Measure C (List Dir))) × (pareto costs xs ≡ m ∷ rest)
first_of_pareto costs laws least m xs v e h k =
    free_first costs laws least m (pareto costs xs) e k (pareto_is_frontier costs laws xs v) h

-- a layout that costs nothing comes first: a text
line_of_text : {C : Type 0} (costs : Costs C) (w free : ℕ) (s : List ℕ) (len c i : ℕ) → IsFree costs free →
    c + len ≤ free → c + len ≤ w →
    IsFirst costs w (Text s len) c i (measured (c + len) (costs.text 0 0) [])
unfolding plain
line_of_text {C = C} costs w free s len c i f p q = (
  [],
  within_is (nat_le (c + len) w) (leaf_measure (c + len) (costs.text c len)) (true_le (c + len) w q)
      ∙ ap (λ (a : C). let z : Measure C (List Dir) = measured (c + len) a [] in z ∷ []) (f c len p),
)

same_first : {C : Type 0} (costs : Costs C) (w : ℕ) (d : Doc) (c i : ℕ) (m n : Measure C (List Dir)) → m ≡ n →
    IsFirst costs w d c i m → IsFirst costs w d c i n
same_first {C = C} costs w d c i m n e h = subst (λ (z : Measure C (List Dir)). IsFirst costs w d c i z) e h

-- two parts in a row
line_of_both : {C : Type 0} (costs : Costs C) (laws : Lawful costs) (least : NothingIsLeast costs) (w : ℕ) (a b : Doc)
    (c i : ℕ) (l r : Measure C (List Dir)) → IsColumn w → IsDocument a → IsDocument b →
    l.cost ≡ costs.text 0 0 → r.cost ≡ costs.text 0 0 → IsFirst costs w a c i l → IsFirst costs w b l.last i r →
    IsFirst costs w (Concat a b) c i (shifted costs l r)
unfolding plain
line_of_both {C = C} costs laws least w a b c i l r p d e lz rz g h =
    let of_a : List (Measure C (List Dir)) = plain costs w a c i in
    let behind : ℕ → List (Measure C (List Dir)) = λ last. plain costs w b last i in
    let a_values = plain_values costs laws w a c i p d in
    let values = joined_values costs laws of_a behind a_values (λ last. plain_values costs laws w b last i p e) in
    let zero_value = laws.text_is_value 0 0 (omega arith) (omega arith) in
    let l_in = first_member costs w a c i l g in
    let r_in = first_member costs w b l.last i r h in
    let sum : costs.add l.cost r.cost ≡ costs.text 0 0 =
    ap₂ (λ (x y : C). costs.add x y) lz rz ∙ (laws.no_text 0 (omega arith) (costs.text 0 0) zero_value).0 in
    let inside = member_joined costs l r of_a behind l_in r_in in
    let stays = cheapest_stays costs laws (shifted costs l r) (all_joined costs of_a behind) values sum inside
    (λ z k.
    let found = joined_member costs z of_a behind k in
    let left = found.0 in
    let right = found.1 in
    let left_value = value_member costs left of_a a_values found.2 in
    let right_value =
    value_member costs right (behind left.last) (plain_values costs laws w b left.last i p e) found.3 in
    elim (others_dear costs laws w a c i l left p d lz g found.2) [
      | inr dear ↦
          inr (subst (λ (m : Measure C (List Dir)). costs.le m.cost (costs.text 0 0) ≡ false) (sym found.4)
          (first_dear costs laws least left.cost right.cost left_value right_value dear))
      | inl same ↦
          let there : IsMember right (behind l.last) =
          subst (λ (m : Measure C (List Dir)). IsMember right (behind m.last)) same found.3 in
          elim (others_dear costs laws w b l.last i r right p e rz h there) [
            | inl alike ↦ inl (found.4 ∙ ap₂ (λ (m n : Measure C (List Dir)). shifted costs m n) same alike)
            | inr dear ↦
                inr (subst (λ (m : Measure C (List Dir)). costs.le m.cost (costs.text 0 0) ≡ false) (sym found.4)
                (second_dear costs laws least left.cost right.cost left_value right_value dear))
          ]
    ]) in
    first_of_pareto costs laws least (shifted costs l r) (all_joined costs of_a behind) values sum stays
    (pareto_values costs (all_joined costs of_a behind) values)

-- what another dominates doesn't outdo it
not_outdone : {C : Type 0} (costs : Costs C) (a b : Measure C (List Dir)) → dominates costs b a ≡ true →
    outdoes costs a b ≡ false
not_outdone costs a b e = elim (cases_Bool (dominates costs a b)) [ inl h ↦ cc | inr h ↦ cc ]

dear_outdoes_not : {C : Type 0} (costs : Costs C) (z m : Measure C (List Dir)) → m.cost ≡ costs.text 0 0 →
    costs.le z.cost (costs.text 0 0) ≡ false → outdoes costs z m ≡ false
dear_outdoes_not {C = C} costs z m e dear =
    outdoes-not costs z m (not_dominates-dear costs z m (subst (λ (a : C). costs.le z.cost a ≡ false) (sym e) dear))

dear_dominates_not : {C : Type 0} (costs : Costs C) (z m : Measure C (List Dir)) → m.cost ≡ costs.text 0 0 →
    costs.le z.cost (costs.text 0 0) ≡ false → dominates costs z m ≡ false
dear_dominates_not {C = C} costs z m e dear =
    not_dominates-dear costs z m (subst (λ (a : C). costs.le z.cost a ≡ false) (sym e) dear)

-- the first side, which no measure of the second outdoes
line_of_left : {C : Type 0} (costs : Costs C) (laws : Lawful costs) (least : NothingIsLeast costs) (w : ℕ) (a b : Doc)
    (c i : ℕ) (m : Measure C (List Dir)) → IsColumn w → IsDocument a → IsDocument b →
    m.cost ≡ costs.text 0 0 → IsFirst costs w a c i m →
    ((z : Measure C (List Dir)) → IsMember z (all_marked Right (plain costs w b c i)) →
    outdoes costs z (marked Left m) ≡ false) →
    IsFirst costs w (Choice a b) c i (marked Left m)
unfolding plain
line_of_left {C = C} costs laws least w a b c i m p d e mz g f =
    let lefts : List (Measure C (List Dir)) = all_marked Left (plain costs w a c i) in
    let rights : List (Measure C (List Dir)) = all_marked Right (plain costs w b c i) in
    let values =
    value_append costs lefts rights (marked_values costs Left (plain costs w a c i)
    (plain_values costs laws w a c i p d)) (marked_values costs Right (plain costs w b c i)
    (plain_values costs laws w b c i p e)) in
    let there : IsMember (marked Left m) lefts =
    member_map (marked Left) m (plain costs w a c i) (first_member costs w a c i m g) in
    let frontier =
    frontier_same costs (λ (h : List Dir). Left ∷ h) (plain costs w a c i) (plain_frontier costs laws w a c i p d) in
    let stays =
    kept-left costs lefts rights (marked Left m) (frontier-kept costs lefts (marked Left m) frontier there)
    (none_outdoes_from costs rights (marked Left m) f) in
    first_of_pareto costs laws least (marked Left m) (lefts ++ rights) values mz
    (pareto-member costs (lefts ++ rights) (marked Left m) stays) (pareto_values costs (lefts ++ rights) values)

-- the second side, where each measure of the first costs more than nothing
line_of_right : {C : Type 0} (costs : Costs C) (laws : Lawful costs) (least : NothingIsLeast costs) (w : ℕ) (a b : Doc)
    (c i : ℕ) (m : Measure C (List Dir)) → IsColumn w → IsDocument a → IsDocument b →
    m.cost ≡ costs.text 0 0 → IsFirst costs w b c i m → EachDear costs (all_marked Left (plain costs w a c i)) →
    IsFirst costs w (Choice a b) c i (marked Right m)
unfolding plain
line_of_right {C = C} costs laws least w a b c i m p d e mz g f =
    let lefts : List (Measure C (List Dir)) = all_marked Left (plain costs w a c i) in
    let rights : List (Measure C (List Dir)) = all_marked Right (plain costs w b c i) in
    let values =
    value_append costs lefts rights (marked_values costs Left (plain costs w a c i)
    (plain_values costs laws w a c i p d)) (marked_values costs Right (plain costs w b c i)
    (plain_values costs laws w b c i p e)) in
    let there : IsMember (marked Right m) rights =
    member_map (marked Right) m (plain costs w b c i) (first_member costs w b c i m g) in
    let frontier =
    frontier_same costs (λ (h : List Dir). Right ∷ h) (plain costs w b c i) (plain_frontier costs laws w b c i p e) in
    let stays =
    kept-right costs lefts rights (marked Right m) (frontier-kept costs rights (marked Right m) frontier there)
    (none_dominates_from costs lefts (marked Right m)
    (λ z k. dear_dominates_not costs z (marked Right m) mz (f z k))) in
    first_of_pareto costs laws least (marked Right m) (lefts ++ rights) values mz
    (pareto-member costs (lefts ++ rights) (marked Right m) stays) (pareto_values costs (lefts ++ rights) values)

-- a side that is as long and costs nothing outdoes nothing that ends there for nothing
alike_outdoes_not : {C : Type 0} (costs : Costs C) (laws : Lawful costs) (w : ℕ) (b : Doc) (c i last : ℕ)
    (how other : List Dir) → IsColumn w → IsDocument b →
    IsFirst costs w b c i (measured last (costs.text 0 0) other) → (z : Measure C (List Dir)) →
    IsMember z (all_marked Right (plain costs w b c i)) →
    outdoes costs z (measured last (costs.text 0 0) how) ≡ false
alike_outdoes_not {C = C} costs laws w b c i last how other p d h z k =
    let zero_value = laws.text_is_value 0 0 (omega arith) (omega arith) in
    let m : Measure C (List Dir) = measured last (costs.text 0 0) how in
    let n : Measure C (List Dir) = measured last (costs.text 0 0) other in
    let found = map_member (marked Right) z (plain costs w b c i) k in
    elim (others_dear costs laws w b c i n found.0 p d refl h found.1) [
      | inl same ↦
          let is : z ≡ marked Right n = found.2 ∙ ap (λ (y : Measure C (List Dir)). marked Right y) same in
          subst (λ (y : Measure C (List Dir)). outdoes costs y m ≡ false) (sym is)
          (not_outdone costs (marked Right n) m
          (dominates-from costs m (marked Right n) (omega arith)
          (at_most_itself costs laws (costs.text 0 0) zero_value)))
      | inr dear ↦
          dear_outdoes_not costs z m refl (subst
          (λ (y : Measure C (List Dir)). costs.le y.cost (costs.text 0 0) ≡ false) (sym found.2) dear)
    ]

-- where a layout on one line costs nothing it comes first
pub one_line_first : {C : Type 0} (costs : Costs C) (laws : Lawful costs) (least : NothingIsLeast costs) (w free : ℕ)
    (d : Doc) (c i len : ℕ) (how : List Dir) → IsColumn w → IsDocument d →
    IsFree costs free → OneLine d len how → c + len ≤ free → c + len ≤ w →
    IsFirst costs w d c i (measured (c + len) (costs.text 0 0) how)
unfolding plain IsDocument OneLine
one_line_first {C = C} costs laws least w free (Text s columns) c i len how p d f h ef ew =
    let same = h.0 in
    same_first costs w (Text s columns) c i (measured (c + columns) (costs.text 0 0) [])
    (measured (c + len) (costs.text 0 0) how)
    (ap₂ (λ (n : ℕ) (z : List Dir). measured (c + n) (costs.text 0 0) z) (sym h.0) (sym h.1))
    (line_of_text costs w free s columns c i f (omega arith) (omega arith))
one_line_first {C = C} costs laws least w free (Concat a b) c i len how p d f h ef ew =
    let j = h.0 in
    let k = h.1 in
    let sum : len ≡ j + k = h.4 in
    let zero : C = costs.text 0 0 in
    let zero_value = laws.text_is_value 0 0 (omega arith) (omega arith) in
    let l : Measure C (List Dir) = measured (c + j) zero h.2 in
    let r : Measure C (List Dir) = measured ((c + j) + k) zero h.3 in
    let nothing : costs.add zero zero ≡ zero = (laws.no_text 0 (omega arith) zero zero_value).0 in
    let ends : (c + j) + k ≡ c + len = omega arith in
    same_first costs w (Concat a b) c i (shifted costs l r) (measured (c + len) zero how)
    (ap (λ (n : ℕ). let z : Measure C (List Dir) = measured n (costs.add zero zero) (h.2 ++ h.3) in z) ends
    ∙ ap₂ (λ (x : C) (z : List Dir). measured (c + len) x z) nothing (sym h.5))
    (line_of_both costs laws least w a b c i l r p d.0 d.1 refl refl
    (one_line_first costs laws least w free a c i j h.2 p d.0 f h.6 (omega arith) (omega arith))
    (one_line_first costs laws least w free b (c + j) i k h.3 p d.1 f h.7 (omega arith) (omega arith)))
one_line_first costs laws least w free (Nest n a) c i len how p d f h ef ew =
    one_line_first costs laws least w free a c (i + n) len how p d.1 f h ef ew
one_line_first costs laws least w free (Align a) c i len how p d f h ef ew =
    one_line_first costs laws least w free a c c len how p d f h ef ew
one_line_first costs laws least w free (Reset a) c i len how p d f h ef ew =
    one_line_first costs laws least w free a c 0 len how p d f h ef ew
one_line_first {C = C} costs laws least w free (Choice a b) c i len how p d f h ef ew =
    let zero : C = costs.text 0 0 in
    let m : Measure C (List Dir) = measured (c + len) zero h.0 in
    elim h.1 [
      | inl left ↦
          same_first costs w (Choice a b) c i (marked Left m) (measured (c + len) zero how)
          (ap (λ (z : List Dir). measured (c + len) zero z) (sym left.0))
          (line_of_left costs laws least w a b c i m p d.0 d.1 refl
          (one_line_first costs laws least w free a c i len h.0 p d.0 f left.1 ef ew)
          (elim left.2 [
            | inl broken ↦
                λ z k. dear_outdoes_not costs z (marked Left m) refl
                (marked_dear costs Right (plain costs w b c i)
                (λ y l. never_free costs laws least w b c i p d.1 broken y l) z k)
            | inr alike ↦
                λ z k. alike_outdoes_not costs laws w b c i (c + len) (Left ∷ h.0) alike.0 p d.1
                (one_line_first costs laws least w free b c i len alike.0 p d.1 f alike.1 ef ew) z k
          ]))
      | inr right ↦
          same_first costs w (Choice a b) c i (marked Right m) (measured (c + len) zero how)
          (ap (λ (z : List Dir). measured (c + len) zero z) (sym right.0))
          (line_of_right costs laws least w a b c i m p d.0 d.1 refl
          (one_line_first costs laws least w free b c i len h.0 p d.1 f right.2 ef ew)
          (marked_dear costs Left (plain costs w a c i) (λ y l. never_free costs laws least w a c i p d.0 right.1 y l)))
    ]
one_line_first {C = C} costs laws least w free (Only dir a) c i len how p d f h ef ew =
    let zero : C = costs.text 0 0 in
    let under = one_line_first costs laws least w free a c i len h.0 p d f h.2 ef ew in
    same_first costs w (Only dir a) c i (measured (c + len) zero (dir ∷ h.0)) (measured (c + len) zero how)
    (ap (λ (z : List Dir). measured (c + len) zero z) (sym h.1))
    (all_marked dir under.0, ap (all_marked dir) under.1)
one_line_first costs laws least w free _ c i len how p d f h ef ew = absurd h

-- so where it also ends by x it is all that stands behind a measure, cut at x
pub after_one_line : {C : Type 0} (costs : Costs C) (laws : Lawful costs) (least : NothingIsLeast costs) (w free : ℕ)
    (d : Doc) (m : Measure C (List Dir)) (i x len : ℕ) (how : List Dir) → IsColumn w →
    IsDocument d → IsFree costs free → IsValue costs m.cost → OneLine d len how → m.last + len ≤ x →
    m.last + len ≤ free → m.last + len ≤ w →
    after costs w d m i x ≡ measured (m.last + len) m.cost (m.how ++ how) ∷ []
unfolding after
after_one_line {C = C} costs laws least w free d m i x len how p q f v h ex ef ew =
    let first = one_line_first costs laws least w free d m.last i len how p q f h ef ew in
    let n : Measure C (List Dir) = measured (m.last + len) (costs.text 0 0) how in
    ap (λ (z : List (Measure C (List Dir))). cut x (all_shifted costs m z)) first.1
    ∙ cut_first x (shifted costs m n) (all_shifted costs m first.0) ex
    ∙ ap (λ (a : C). let z : Measure C (List Dir) = measured (m.last + len) a (m.how ++ how) in z ∷ [])
    (laws.no_text 0 (omega arith) m.cost v).1
