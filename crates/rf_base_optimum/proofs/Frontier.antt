-- A frontier of a core is one, of values, and no measure of it ends past the width.
use Rattle.std.proofs.Common.{◌≡◌, ℕ, ◌+◌, ◌<◌, ◌≤◌, min, Bool, true, false, ◌&&◌, List, [], ◌∷◌, ◌++◌, length, refl, sym, ◌∙◌, ap, subst, ◌⊎◌, inl, inr, arith}
use Rattle.std.specs.Prelude.{nat_le}
use Rattle.std.proofs.lemmas.Bool.{and_parts, and_left, and_right}
use Rattle.rf_base_document.specs.declared.directions.Dir.{Dir}
use Rattle.rf_base_document.specs.declared.directions.Dir.TheVariants.{Left, Right}
use Rattle.rf_base_document.specs.Document.{Doc, Text, Newline, Hard, Concat, Nest, Align, Reset, Flatten, Choice, Only, Charge, IsDocument}
use Rattle.rf_base_cost.specs.declared.measures.Measure.{Measure}
use Rattle.rf_base_cost.specs.Cost.{Costs, IsValue, IsColumn, Lawful}
use Rattle.rf_base_cost.specs.Pareto.{undominated, by_last, pareto, IsMember, EachFollows, IsFrontier, EachIsValue, all_marked, all_shifted, all_raised}
use Rattle.rf_base_cost.proofs.Dominance.{nat_le-true, false_le}
use Rattle.rf_base_cost.proofs.Members.{value_append}
use Rattle.rf_base_cost.proofs.Pareto.{pareto_keeps_members, pareto_values, pareto_is_frontier}
use Rattle.rf_base_cost.proofs.Choices.{frontier_same, values_same}
use Rattle.rf_base_optimum.specs.Plain.{leaf_measure, where_within, all_joined, plain, EachEndsBy}

-- one measure, where it is within
within_frontier : {C : Type 0} (costs : Costs C) (b : Bool) (m : Measure C (List Dir)) →
    IsFrontier costs (where_within b m)
unfolding IsFrontier EachFollows
within_frontier costs true m = (tt, tt)
within_frontier costs false m = tt

pub within_values : {C : Type 0} (costs : Costs C) (b : Bool) (m : Measure C (List Dir)) →
    (b ≡ true → IsValue costs m.cost) → EachIsValue costs (where_within b m)
unfolding EachIsValue
within_values costs true m f = (f refl, tt)
within_values costs false m f = tt

within_ends : {C : Type 0} (w : ℕ) (b : Bool) (m : Measure C (List Dir)) → (b ≡ true → m.last ≤ w) →
    EachEndsBy w (where_within b m)
unfolding EachEndsBy
within_ends w true m f = (f refl, tt)
within_ends w false m f = tt

pub shifted_values : {C : Type 0} (costs : Costs C) (laws : Lawful costs) (m : Measure C (List Dir))
    (xs : List (Measure C (List Dir))) →
    IsValue costs m.cost → EachIsValue costs xs → EachIsValue costs (all_shifted costs m xs)
unfolding EachIsValue
shifted_values costs laws m [] u v = tt
shifted_values costs laws m (x ∷ xs) u v = (laws.add_is_value m.cost x.cost u v.0, shifted_values costs laws m xs u v.1)

pub joined_values : {C : Type 0} (costs : Costs C) (laws : Lawful costs) (xs : List (Measure C (List Dir)))
    (behind : ℕ → List (Measure C (List Dir))) →
    EachIsValue costs xs → ((last : ℕ) → EachIsValue costs (behind last)) →
    EachIsValue costs (all_joined costs xs behind)
unfolding EachIsValue all_joined
joined_values costs laws [] behind u v = tt
joined_values costs laws (x ∷ xs) behind u v =
    value_append costs (all_shifted costs x (behind x.last)) (all_joined costs xs behind)
    (shifted_values costs laws x (behind x.last) u.0 (v x.last)) (joined_values costs laws xs behind u.1 v)

pub raised_values : {C : Type 0} (costs : Costs C) (laws : Lawful costs) (by : C) (xs : List (Measure C (List Dir))) →
    IsValue costs by → EachIsValue costs xs → EachIsValue costs (all_raised costs by xs)
unfolding EachIsValue
raised_values costs laws by [] u v = tt
raised_values costs laws by (x ∷ xs) u v = (laws.add_is_value by x.cost u v.0, raised_values costs laws by xs u v.1)

pub marked_values : {C : Type 0} (costs : Costs C) (dir : Dir) (xs : List (Measure C (List Dir))) →
    EachIsValue costs xs → EachIsValue costs (all_marked dir xs)
marked_values costs dir xs v = values_same costs (λ (h : List Dir). dir ∷ h) xs v

-- each cost of a core's frontier is a value
pub plain_values : {C : Type 0} (costs : Costs C) (laws : Lawful costs) (w : ℕ) (d : Doc) (c i : ℕ) → IsColumn w →
    IsDocument d → EachIsValue costs (plain costs w d c i)
unfolding plain IsDocument EachIsValue
plain_values costs laws w (Text s len) c i p q =
    within_values costs (nat_le (c + len) w) (leaf_measure (c + len) (costs.text c len))
    (λ e. let less : c + len ≤ w = nat_le-true (c + len) w e in laws.text_is_value c len (omega arith) (omega arith))
plain_values costs laws w Newline c i p q =
    within_values costs (nat_le c w && nat_le i w) (leaf_measure i (costs.newline i))
    (λ e. let less : i ≤ w = nat_le-true i w (and_parts (nat_le c w) (nat_le i w) e).1 in laws.newline_is_value i
    (omega arith))
plain_values costs laws w (Concat a b) c i p q =
    pareto_values costs (all_joined costs (plain costs w a c i) (λ last. plain costs w b last i))
    (joined_values costs laws (plain costs w a c i) (λ last. plain costs w b last i)
    (plain_values costs laws w a c i p q.0) (λ last. plain_values costs laws w b last i p q.1))
plain_values costs laws w (Nest n a) c i p q = plain_values costs laws w a c (i + n) p q.1
plain_values costs laws w (Align a) c i p q = plain_values costs laws w a c c p q
plain_values costs laws w (Reset a) c i p q = plain_values costs laws w a c 0 p q
plain_values costs laws w (Choice a b) c i p q =
    pareto_values costs (all_marked Left (plain costs w a c i) ++ all_marked Right (plain costs w b c i))
    (value_append costs (all_marked Left (plain costs w a c i)) (all_marked Right (plain costs w b c i))
    (marked_values costs Left (plain costs w a c i) (plain_values costs laws w a c i p q.0))
    (marked_values costs Right (plain costs w b c i) (plain_values costs laws w b c i p q.1)))
plain_values costs laws w (Only dir a) c i p q =
    marked_values costs dir (plain costs w a c i) (plain_values costs laws w a c i p q)
plain_values costs laws w (Charge k a) c i p q =
    pareto_values costs (all_raised costs (costs.charge k) (plain costs w a c i))
    (raised_values costs laws (costs.charge k) (plain costs w a c i) (laws.charge_is_value k q.0)
    (plain_values costs laws w a c i p q.1))
plain_values costs laws w _ c i p q = tt

-- a core's frontier is a frontier
pub plain_frontier : {C : Type 0} (costs : Costs C) (laws : Lawful costs) (w : ℕ) (d : Doc) (c i : ℕ) → IsColumn w →
    IsDocument d → IsFrontier costs (plain costs w d c i)
unfolding plain IsDocument IsFrontier
plain_frontier costs laws w (Text s len) c i p q =
    within_frontier costs (nat_le (c + len) w) (leaf_measure (c + len) (costs.text c len))
plain_frontier costs laws w Newline c i p q =
    within_frontier costs (nat_le c w && nat_le i w) (leaf_measure i (costs.newline i))
plain_frontier costs laws w (Concat a b) c i p q =
    pareto_is_frontier costs laws (all_joined costs (plain costs w a c i) (λ last. plain costs w b last i))
    (joined_values costs laws (plain costs w a c i) (λ last. plain costs w b last i)
    (plain_values costs laws w a c i p q.0) (λ last. plain_values costs laws w b last i p q.1))
plain_frontier costs laws w (Nest n a) c i p q = plain_frontier costs laws w a c (i + n) p q.1
plain_frontier costs laws w (Align a) c i p q = plain_frontier costs laws w a c c p q
plain_frontier costs laws w (Reset a) c i p q = plain_frontier costs laws w a c 0 p q
plain_frontier costs laws w (Choice a b) c i p q =
    pareto_is_frontier costs laws (all_marked Left (plain costs w a c i) ++ all_marked Right (plain costs w b c i))
    (value_append costs (all_marked Left (plain costs w a c i)) (all_marked Right (plain costs w b c i))
    (marked_values costs Left (plain costs w a c i) (plain_values costs laws w a c i p q.0))
    (marked_values costs Right (plain costs w b c i) (plain_values costs laws w b c i p q.1)))
plain_frontier costs laws w (Only dir a) c i p q =
    frontier_same costs (λ (h : List Dir). dir ∷ h) (plain costs w a c i) (plain_frontier costs laws w a c i p q)
plain_frontier costs laws w (Charge k a) c i p q =
    pareto_is_frontier costs laws (all_raised costs (costs.charge k) (plain costs w a c i))
    (raised_values costs laws (costs.charge k) (plain costs w a c i) (laws.charge_is_value k q.0)
    (plain_values costs laws w a c i p q.1))
plain_frontier costs laws w _ c i p q = tt

-- where measures end
pub ends_member : {C H : Type 0} (w : ℕ) (z : Measure C H) (xs : List (Measure C H)) → EachEndsBy w xs → IsMember z xs →
    z.last ≤ w
unfolding EachEndsBy IsMember
ends_member w z [] p h = absurd h
ends_member {C = C} {H = H} w z (x ∷ xs) p (inl e) = subst (λ (m : Measure C H). m.last ≤ w) (sym e) p.0
ends_member w z (x ∷ xs) p (inr h) = ends_member w z xs p.1 h

pub ends_from : {C H : Type 0} (w : ℕ) (xs : List (Measure C H)) → ((z : Measure C H) → IsMember z xs → z.last ≤ w) →
    EachEndsBy w xs
unfolding EachEndsBy IsMember
ends_from w [] f = tt
ends_from w (x ∷ xs) f = (f x (inl refl), ends_from w xs (λ z h. f z (inr h)))

pub ends_append : {C H : Type 0} (w : ℕ) (xs ys : List (Measure C H)) → EachEndsBy w xs → EachEndsBy w ys →
    EachEndsBy w (xs ++ ys)
unfolding EachEndsBy
ends_append w [] ys p q = q
ends_append w (x ∷ xs) ys p q = (p.0, ends_append w xs ys p.1 q)

pub pareto_ends : {C H : Type 0} (costs : Costs C) (w : ℕ) (xs : List (Measure C H)) → EachEndsBy w xs →
    EachEndsBy w (pareto costs xs)
pareto_ends costs w xs p =
    ends_from w (pareto costs xs) (λ z h. ends_member w z xs p (pareto_keeps_members costs xs z h))

pub shifted_ends : {C : Type 0} (costs : Costs C) (w : ℕ) (m : Measure C (List Dir))
    (xs : List (Measure C (List Dir))) → EachEndsBy w xs → EachEndsBy w (all_shifted costs m xs)
unfolding EachEndsBy
shifted_ends costs w m [] p = tt
shifted_ends costs w m (x ∷ xs) p = (p.0, shifted_ends costs w m xs p.1)

pub joined_ends : {C : Type 0} (costs : Costs C) (w : ℕ) (xs : List (Measure C (List Dir)))
    (behind : ℕ → List (Measure C (List Dir))) →
    ((last : ℕ) → EachEndsBy w (behind last)) → EachEndsBy w (all_joined costs xs behind)
unfolding EachEndsBy all_joined
joined_ends costs w [] behind f = tt
joined_ends costs w (x ∷ xs) behind f =
    ends_append w (all_shifted costs x (behind x.last)) (all_joined costs xs behind)
    (shifted_ends costs w x (behind x.last) (f x.last)) (joined_ends costs w xs behind f)

raised_ends : {C : Type 0} (costs : Costs C) (w : ℕ) (by : C) (xs : List (Measure C (List Dir))) → EachEndsBy w xs →
    EachEndsBy w (all_raised costs by xs)
unfolding EachEndsBy
raised_ends costs w by [] p = tt
raised_ends costs w by (x ∷ xs) p = (p.0, raised_ends costs w by xs p.1)

marked_ends : {C : Type 0} (w : ℕ) (dir : Dir) (xs : List (Measure C (List Dir))) → EachEndsBy w xs →
    EachEndsBy w (all_marked dir xs)
unfolding EachEndsBy
marked_ends w dir [] p = tt
marked_ends w dir (x ∷ xs) p = (p.0, marked_ends w dir xs p.1)

-- no measure of a core's frontier ends past the width
pub plain_ends : {C : Type 0} (costs : Costs C) (w : ℕ) (d : Doc) (c i : ℕ) → EachEndsBy w (plain costs w d c i)
unfolding plain EachEndsBy
plain_ends costs w (Text s len) c i =
    within_ends w (nat_le (c + len) w) (leaf_measure (c + len) (costs.text c len)) (λ e. nat_le-true (c + len) w e)
plain_ends costs w Newline c i =
    within_ends w (nat_le c w && nat_le i w) (leaf_measure i (costs.newline i))
    (λ e. nat_le-true i w (and_parts (nat_le c w) (nat_le i w) e).1)
plain_ends costs w (Concat a b) c i =
    pareto_ends costs w (all_joined costs (plain costs w a c i) (λ last. plain costs w b last i))
    (joined_ends costs w (plain costs w a c i) (λ last. plain costs w b last i) (λ last. plain_ends costs w b last i))
plain_ends costs w (Nest n a) c i = plain_ends costs w a c (i + n)
plain_ends costs w (Align a) c i = plain_ends costs w a c c
plain_ends costs w (Reset a) c i = plain_ends costs w a c 0
plain_ends costs w (Choice a b) c i =
    pareto_ends costs w (all_marked Left (plain costs w a c i) ++ all_marked Right (plain costs w b c i))
    (ends_append w (all_marked Left (plain costs w a c i)) (all_marked Right (plain costs w b c i))
    (marked_ends w Left (plain costs w a c i) (plain_ends costs w a c i))
    (marked_ends w Right (plain costs w b c i) (plain_ends costs w b c i)))
plain_ends costs w (Only dir a) c i = marked_ends w dir (plain costs w a c i) (plain_ends costs w a c i)
plain_ends costs w (Charge k a) c i =
    pareto_ends costs w (all_raised costs (costs.charge k) (plain costs w a c i))
    (raised_ends costs w (costs.charge k) (plain costs w a c i) (plain_ends costs w a c i))
plain_ends costs w _ c i = tt

-- a frontier whose measures all end before n has at most n of them
follows_short : {C H : Type 0} (costs : Costs C) (m : Measure C H) (xs : List (Measure C H)) → EachFollows costs m xs →
    IsFrontier costs xs → length xs ≤ m.last
unfolding EachFollows IsFrontier
follows_short costs m [] p q = omega arith
follows_short costs m (x ∷ xs) p q =
    let less : x.last < m.last = p.0 in
    let rest : length xs ≤ x.last = follows_short costs x xs q.0 q.1 in
    omega arith

pub frontier_short : {C H : Type 0} (costs : Costs C) (w : ℕ) (xs : List (Measure C H)) → EachEndsBy w xs →
    IsFrontier costs xs → length xs ≤ w + 1
unfolding EachEndsBy IsFrontier
frontier_short costs w [] p q = omega arith
frontier_short costs w (x ∷ xs) p q =
    let ends : x.last ≤ w = p.0 in
    let rest : length xs ≤ x.last = follows_short costs x xs q.0 q.1 in
    omega arith

-- a core's frontier has at most one measure for each column
pub plain_short : {C : Type 0} (costs : Costs C) (laws : Lawful costs) (w : ℕ) (d : Doc) (c i : ℕ) → IsColumn w →
    IsDocument d → length (plain costs w d c i) ≤ w + 1
plain_short costs laws w d c i p q =
    frontier_short costs w (plain costs w d c i) (plain_ends costs w d c i) (plain_frontier costs laws w d c i p q)

-- nothing is within columns that are passed already
pub not_within : {C : Type 0} (b : Bool) (m : Measure C (List Dir)) → b ≡ false → where_within b m ≡ []
not_within true m e = cc
not_within false m e = refl

pub pareto_nothing : {C H : Type 0} (costs : Costs C) → pareto {C = C} {H = H} costs [] ≡ []
unfolding pareto undominated by_last
pareto_nothing costs = refl

pub joined_nothing : {C : Type 0} (costs : Costs C) (behind : ℕ → List (Measure C (List Dir))) →
    all_joined costs [] behind ≡ []
unfolding all_joined
joined_nothing costs behind = refl

pub plain_past : {C : Type 0} (costs : Costs C) (w : ℕ) (d : Doc) (c i : ℕ) → w < c → plain costs w d c i ≡ []
unfolding plain
plain_past costs w (Text s len) c i p =
    let far : w < c + len = omega arith in
    not_within (nat_le (c + len) w) (leaf_measure (c + len) (costs.text c len)) (false_le (c + len) w far)
plain_past costs w Newline c i p =
    not_within (nat_le c w && nat_le i w) (leaf_measure i (costs.newline i))
    (and_left (nat_le c w) (nat_le i w) (false_le c w p))
plain_past {C = C} costs w (Concat a b) c i p =
    ap (λ (xs : List (Measure C (List Dir))). pareto costs (all_joined costs xs (λ last. plain costs w b last i)))
    (plain_past costs w a c i p)
    ∙ ap (pareto costs) (joined_nothing costs (λ last. plain costs w b last i)) ∙ pareto_nothing costs
plain_past costs w (Nest n a) c i p = plain_past costs w a c (i + n) p
plain_past costs w (Align a) c i p = plain_past costs w a c c p
plain_past costs w (Reset a) c i p = plain_past costs w a c 0 p
plain_past {C = C} costs w (Choice a b) c i p =
    ap (λ (xs : List (Measure C (List Dir))). pareto costs
    (all_marked Left xs ++ all_marked Right (plain costs w b c i))) (plain_past costs w a c i p)
    ∙ ap (λ (xs : List (Measure C (List Dir))). pareto costs (all_marked Right xs)) (plain_past costs w b c i p)
    ∙ pareto_nothing costs
plain_past costs w (Only dir a) c i p = ap (all_marked dir) (plain_past costs w a c i p)
plain_past {C = C} costs w (Charge k a) c i p =
    ap (λ (xs : List (Measure C (List Dir))). pareto costs (all_raised costs (costs.charge k) xs))
    (plain_past costs w a c i p) ∙ pareto_nothing costs
plain_past costs w _ c i p = refl

-- indentations that are the same, or both past the width
abbrev Alike : ℕ → ℕ → ℕ → Type 0
Alike w i j = (i ≡ j) ⊎ ((w < i) × (w < j))

alike_nested : (w i j n : ℕ) → Alike w i j → Alike w (i + n) (j + n)
alike_nested w i j n (inl e) = inl (omega arith)
alike_nested w i j n (inr p) = let q : w < i = p.0 in let r : w < j = p.1 in inr (omega arith, omega arith)

pub joined_alike : {C : Type 0} (costs : Costs C) (xs : List (Measure C (List Dir)))
    (f g : ℕ → List (Measure C (List Dir))) →
    ((last : ℕ) → f last ≡ g last) → all_joined costs xs f ≡ all_joined costs xs g
unfolding all_joined
joined_alike costs [] f g e = refl
joined_alike {C = C} costs (x ∷ xs) f g e =
    ap (λ (ys : List (Measure C (List Dir))). all_shifted costs x ys ++ all_joined costs xs f) (e x.last)
    ∙ ap (λ (ys : List (Measure C (List Dir))). all_shifted costs x (g x.last) ++ ys) (joined_alike costs xs f g e)

newline_alike : {C : Type 0} (costs : Costs C) (w c i j : ℕ) → Alike w i j →
    where_within {C = C} (nat_le c w && nat_le i w) (leaf_measure i (costs.newline i))
    ≡ where_within (nat_le c w && nat_le j w) (leaf_measure j (costs.newline j))
newline_alike {C = C} costs w c i j (inl e) =
    ap (λ (n : ℕ). where_within {C = C} (nat_le c w && nat_le n w) (leaf_measure n (costs.newline n))) e
newline_alike costs w c i j (inr p) =
    not_within (nat_le c w && nat_le i w) (leaf_measure i (costs.newline i))
    (and_right (nat_le c w) (nat_le i w) (false_le i w p.0))
    ∙ sym (not_within (nat_le c w && nat_le j w) (leaf_measure j (costs.newline j))
    (and_right (nat_le c w) (nat_le j w) (false_le j w p.1)))

plain_alike : {C : Type 0} (costs : Costs C) (w : ℕ) (d : Doc) (c i j : ℕ) → Alike w i j →
    plain costs w d c i ≡ plain costs w d c j
unfolding plain
plain_alike costs w Newline c i j p = newline_alike costs w c i j p
plain_alike {C = C} costs w (Concat a b) c i j p =
    ap (λ (xs : List (Measure C (List Dir))). pareto costs (all_joined costs xs (λ last. plain costs w b last i)))
    (plain_alike costs w a c i j p)
    ∙ ap (pareto costs) (joined_alike costs (plain costs w a c j) (λ last. plain costs w b last i)
    (λ last. plain costs w b last j) (λ last. plain_alike costs w b last i j p))
plain_alike costs w (Nest n a) c i j p = plain_alike costs w a c (i + n) (j + n) (alike_nested w i j n p)
plain_alike {C = C} costs w (Choice a b) c i j p =
    ap (λ (xs : List (Measure C (List Dir))). pareto costs
    (all_marked Left xs ++ all_marked Right (plain costs w b c i))) (plain_alike costs w a c i j p)
    ∙ ap (λ (xs : List (Measure C (List Dir))). pareto costs
    (all_marked Left (plain costs w a c j) ++ all_marked Right xs)) (plain_alike costs w b c i j p)
plain_alike costs w (Only dir a) c i j p = ap (all_marked dir) (plain_alike costs w a c i j p)
plain_alike {C = C} costs w (Charge k a) c i j p =
    ap (λ (xs : List (Measure C (List Dir))). pareto costs (all_raised costs (costs.charge k) xs))
    (plain_alike costs w a c i j p)
plain_alike costs w _ c i j p = refl

min_alike : (w i : ℕ) → Alike w (min i (w + 1)) i
min_alike w i = elim (less_or_past w i) [ inl p ↦ inl (omega arith) | inr p ↦ inr (omega arith, p) ]
  where
    less_or_past : (w i : ℕ) → (i ≤ w) ⊎ (w < i)
    less_or_past w i = grind arith

-- all indentations past the width give the same frontier
pub plain_deep : {C : Type 0} (costs : Costs C) (w : ℕ) (d : Doc) (c i : ℕ) →
    plain costs w d c (min i (w + 1)) ≡ plain costs w d c i
plain_deep costs w d c i = plain_alike costs w d c (min i (w + 1)) i (min_alike w i)
