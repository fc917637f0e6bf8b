-- Pruning keeps the optimum: measures of a frontier are of resolutions, and each resolution within the width is
-- dominated.
use Rattle.std.proofs.Common.{◌≡◌, ◌≢◌, ◌↔◌, ℕ, ◌+◌, ◌≤◌, Bool, true, false, ◌&&◌, List, [], ◌∷◌, ◌++◌, map, refl, sym, ◌∙◌, ap, subst, inl, inr, Option, Some, None, IsSome, arith}
use Rattle.std.specs.Prelude.{nat_le}
use Rattle.std.proofs.lemmas.Bool.{and_parts, and_from}
use Rattle.rf_base_document.specs.declared.directions.Dir.{Dir}
use Rattle.rf_base_document.specs.declared.directions.Dir.TheVariants.{Left, Right}
use Rattle.rf_base_document.specs.Document.{Doc, Text, Newline, Hard, Concat, Nest, Align, Reset, Flatten, Choice, Only, Charge, IsDocument}
use Rattle.rf_base_document.specs.Render.{Piece, Word, Break, Fee, Laid, laid, joined, followed_by, newline_laid, hard_laid, render, EachEndsWithin, Within}
use Rattle.rf_base_document.specs.Picks.{Picks}
use Rattle.rf_base_document.specs.Simple.{IsCore}
use Rattle.rf_base_document.proofs.Render.{joined-is, followed_by-is, EachEndsWithin-append}
use Rattle.rf_base_document.proofs.Running.{picks_document}
use Rattle.rf_base_document.proofs.Simple.{render_same}
use Rattle.rf_base_cost.specs.declared.measures.Measure.{Measure}
use Rattle.rf_base_cost.specs.Cost.{Costs, IsValue, AtMost, IsColumn, Lawful, cost_after, cost_of, PiecesAreCounted}
use Rattle.rf_base_cost.specs.Pareto.{pareto, IsMember, EachIsValue, marked, shifted, raised, all_marked, all_shifted, all_raised}
use Rattle.rf_base_cost.proofs.Layouts.{layout_has_cost}
use Rattle.rf_base_cost.proofs.Sums.{cost_is_value, costs_join}
use Rattle.rf_base_cost.proofs.Dominance.{nat_le-true, dominates-last, dominates-cost, true_le}
use Rattle.rf_base_cost.proofs.Members.{member-append, member-left, member-right, value_member, value_append}
use Rattle.rf_base_cost.proofs.Pareto.{pareto_keeps_members, pareto_dominates_all}
use Rattle.rf_base_optimum.specs.Plain.{leaf_measure, where_within, all_joined, plain}
use Rattle.rf_base_optimum.specs.Best.{WithinBy, HasWithin}
use Rattle.rf_base_optimum.proofs.Frontier.{joined_values, raised_values, marked_values, plain_values}
use Rattle.rf_base_optimum.proofs.Shift.{ends-apart, render_counted, shift_keeps_within}

-- members of the lists that a frontier is made of
pub within_member : {C : Type 0} (b : Bool) (n m : Measure C (List Dir)) → IsMember m (where_within b n) →
    (b ≡ true) × (m ≡ n)
unfolding IsMember
within_member true n m (inl e) = (refl, e)
within_member true n m (inr h) = absurd h
within_member false n m h = absurd h

member_within : {C : Type 0} (b : Bool) (n : Measure C (List Dir)) → b ≡ true → IsMember n (where_within b n)
unfolding IsMember
member_within true n e = inl refl
member_within false n e = cc

pub map_member : {A : Type 0} (f : A → A) (m : A) (xs : List A) → IsMember m (map f xs) →
    (n : A) × IsMember n xs × (m ≡ f n)
unfolding IsMember
map_member f m [] h = absurd h
map_member f m (x ∷ xs) (inl e) = (x, inl refl, e)
map_member f m (x ∷ xs) (inr h) = let found = map_member f m xs h in (found.0, inr found.1, found.2)

pub member_map : {A : Type 0} (f : A → A) (n : A) (xs : List A) → IsMember n xs → IsMember (f n) (map f xs)
unfolding IsMember
member_map f n [] h = absurd h
member_map f n (x ∷ xs) (inl e) = inl (ap f e)
member_map f n (x ∷ xs) (inr h) = inr (member_map f n xs h)

pub joined_member : {C : Type 0} (costs : Costs C) (m : Measure C (List Dir)) (xs : List (Measure C (List Dir)))
    (behind : ℕ → List (Measure C (List Dir))) →
    IsMember m (all_joined costs xs behind) →
    (l : Measure C (List Dir)) × (r : Measure C (List Dir)) × IsMember l xs × IsMember r (behind l.last)
    × (m ≡ shifted costs l r)
unfolding IsMember all_joined
joined_member costs m [] behind h = absurd h
joined_member costs m (x ∷ xs) behind h =
    elim (member-append m (all_shifted costs x (behind x.last)) (all_joined costs xs behind) h) [
      | inl k ↦ let found = map_member (shifted costs x) m (behind x.last) k in (x, found.0, inl refl, found.1, found.2)
      | inr k ↦ let found = joined_member costs m xs behind k in (found.0, found.1, inr found.2, found.3, found.4)
    ]

pub member_joined : {C : Type 0} (costs : Costs C) (l r : Measure C (List Dir)) (xs : List (Measure C (List Dir)))
    (behind : ℕ → List (Measure C (List Dir))) →
    IsMember l xs → IsMember r (behind l.last) → IsMember (shifted costs l r) (all_joined costs xs behind)
unfolding IsMember all_joined
member_joined costs l r [] behind h k = absurd h
member_joined {C = C} costs l r (x ∷ xs) behind (inl e) k =
    subst (λ (y : Measure C (List Dir)). IsMember r (behind y.last) →
    IsMember (shifted costs y r) (all_shifted costs x (behind x.last) ++ all_joined costs xs behind)) (sym e)
    (λ j. member-left (shifted costs x r) (all_shifted costs x (behind x.last)) (all_joined costs xs behind)
    (member_map (shifted costs x) r (behind x.last) j)) k
member_joined costs l r (x ∷ xs) behind (inr h) k =
    member-right (shifted costs l r) (all_shifted costs x (behind x.last)) (all_joined costs xs behind)
    (member_joined costs l r xs behind h k)

-- a layout has a cost
some_is : {A : Type 0} (o : Option A) → IsSome o → (a : A) × (o ≡ Some a)
some_is None h = cc
some_is (Some a) h = (a, refl)

pub render_costs : {C : Type 0} (costs : Costs C) (e : Doc) (c i : ℕ) (flat : Bool) (whole : Laid) →
    render e c i flat ≡ Some whole →
    (a : C) × (cost_of costs whole.pieces ≡ Some a)
render_costs costs e c i flat whole r = some_is (cost_of costs whole.pieces) (layout_has_cost costs e c i flat whole r)

-- a layout that is within ends within
newline_last : (w c i : ℕ) (flat : Bool) → EachEndsWithin w (newline_laid c i flat).pieces →
    (newline_laid c i flat).last ≤ w
unfolding EachEndsWithin
newline_last w c i true h = h.0
newline_last w c i false h = h.0

hard_last : (w i : ℕ) (flat : Bool) (whole : Laid) → hard_laid i flat ≡ Some whole → EachEndsWithin w whole.pieces →
    whole.last ≤ w
unfolding EachEndsWithin
hard_last w i true whole e h = cc
hard_last w i false whole e h =
    let same : laid (Break i ∷ []) i ≡ whole = cc in
    subst (λ (x : Laid). EachEndsWithin w x.pieces → x.last ≤ w) same (λ k. k.0) h

pub render_last : (e : Doc) (w c i : ℕ) (flat : Bool) (whole : Laid) → render e c i flat ≡ Some whole →
    EachEndsWithin w whole.pieces → whole.last ≤ w
unfolding render EachEndsWithin
render_last (Text s len) w c i flat whole r h =
    let same : laid (Word c s len ∷ []) (c + len) ≡ whole = cc in
    subst (λ (x : Laid). EachEndsWithin w x.pieces → x.last ≤ w) same (λ k. k.0) h
render_last Newline w c i flat whole r h =
    let same : newline_laid c i flat ≡ whole = cc in
    subst (λ (x : Laid). EachEndsWithin w x.pieces → x.last ≤ w) same (λ k. newline_last w c i flat k) h
render_last Hard w c i flat whole r h = hard_last w i flat whole r h
render_last (Concat a b) w c i flat whole r h =
    let found = followed_by-is (render a c i flat) (λ last. render b last i flat) whole r in
    let apart =
    ends-apart w found.0.pieces found.1.pieces (subst (λ (ps : List Piece). EachEndsWithin w ps) found.4 h) in
    subst (λ (n : ℕ). n ≤ w) (sym found.5) (render_last b w found.0.last i flat found.1 found.3 apart.1)
render_last (Nest n a) w c i flat whole r h = render_last a w c (i + n) flat whole r h
render_last (Align a) w c i flat whole r h = render_last a w c c flat whole r h
render_last (Reset a) w c i flat whole r h = render_last a w c 0 flat whole r h
render_last (Flatten a) w c i flat whole r h = render_last a w c i true whole r h
render_last (Charge k a) w c i flat whole r h =
    let found = joined-is (laid (Fee k ∷ []) c) (render a c i flat) whole r in
    let apart = ends-apart w (Fee k ∷ []) found.0.pieces (subst (λ (ps : List Piece). EachEndsWithin w ps) found.2 h) in
    subst (λ (n : ℕ). n ≤ w) (sym found.3) (render_last a w c i flat found.0 found.1 apart.1)
render_last _ w c i flat whole r h = cc

-- the measure is that of a resolution within w columns, which its choices pick
abbrev pub OfResolution : {C : Type 0} → Costs C → ℕ → Doc → ℕ → ℕ → Measure C (List Dir) → Type 0
OfResolution costs w d c i m =
    (whole : Laid) × WithinBy w d m.how c i false whole × (whole.last ≡ m.last)
    × (cost_of costs whole.pieces ≡ Some m.cost)

of_equal : {C : Type 0} (costs : Costs C) (w : ℕ) (d : Doc) (c i : ℕ) (m n : Measure C (List Dir)) → m ≡ n →
    OfResolution costs w d c i n → OfResolution costs w d c i m
of_equal {C = C} costs w d c i m n e h = subst (λ (x : Measure C (List Dir)). OfResolution costs w d c i x) (sym e) h

text_measure : {C : Type 0} (costs : Costs C) (w : ℕ) (s : List ℕ) (len c i : ℕ) → c + len ≤ w →
    OfResolution costs w (Text s len) c i (leaf_measure (c + len) (costs.text c len))
unfolding Picks render EachEndsWithin cost_after
text_measure costs w s len c i p =
    (laid (Word c s len ∷ []) (c + len), ((Text s len, (refl, refl), refl), (omega arith, (p, tt))), refl, refl)

newline_measure : {C : Type 0} (costs : Costs C) (w c i : ℕ) → c ≤ w → i ≤ w →
    OfResolution costs w Newline c i (leaf_measure i (costs.newline i))
unfolding Picks render EachEndsWithin cost_after
newline_measure costs w c i p q = (laid (Break i ∷ []) i, ((Newline, (refl, refl), refl), (p, (q, tt))), refl, refl)

-- the cost of pieces in a row, of which each list is a document's layout within w columns
pub costs_of_both : {C : Type 0} (costs : Costs C) (laws : Lawful costs) (w : ℕ) (p q : Doc) (c i c' i' : ℕ)
    (first second : Laid) (x y : C) → IsColumn w →
    IsDocument p → IsDocument q → render p c i false ≡ Some first → render q c' i' false ≡ Some second →
    EachEndsWithin w first.pieces → EachEndsWithin w second.pieces →
    cost_of costs first.pieces ≡ Some x → cost_of costs second.pieces ≡ Some y →
    cost_of costs (first.pieces ++ second.pieces) ≡ Some (costs.add x y)
costs_of_both costs laws w p q c i c' i' first second x y width d e r s g h =
    costs_join costs first.pieces second.pieces x y laws (render_counted p w c i false first width d r g)
    (render_counted q w c' i' false second width e s h)

costs_of_charge : {C : Type 0} (costs : Costs C) (laws : Lawful costs) (w k : ℕ) (p : Doc) (c i : ℕ) (part : Laid)
    (x : C) → IsColumn w → k ≤ 1000 →
    IsDocument p → render p c i false ≡ Some part → EachEndsWithin w part.pieces → cost_of costs part.pieces ≡ Some x →
    cost_of costs (Fee k ∷ part.pieces) ≡ Some (costs.add (costs.charge k) x)
unfolding PiecesAreCounted cost_after
costs_of_charge costs laws w k p c i part x width q d r h e =
    costs_join costs (Fee k ∷ []) part.pieces (costs.charge k) x laws (q, tt)
    (render_counted p w c i false part width d r h) refl e

concat_measure : {C : Type 0} (costs : Costs C) (laws : Lawful costs) (w : ℕ) (a b : Doc) (c i : ℕ)
    (l r : Measure C (List Dir)) → IsColumn w → IsDocument a → IsDocument b →
    OfResolution costs w a c i l → OfResolution costs w b l.last i r →
    OfResolution costs w (Concat a b) c i (shifted costs l r)
unfolding Picks render
concat_measure costs laws w a b c i l r width p q g h =
    let first = g.0 in
    let second = h.0 in
    let left = g.1.0 in
    let right = h.1.0 in
    let follows : render right.0 first.last i false ≡ Some second =
    ap (λ (n : ℕ). render right.0 n i false) g.2 ∙ right.2 in (
      laid (first.pieces ++ second.pieces) second.last,
      (
        (
          Concat left.0 right.0,
          (l.how, r.how, left.0, right.0, refl, refl, left.1, right.1),
          ap (λ (o : Option Laid). followed_by o (λ last. render right.0 last i false)) left.2
              ∙ ap (λ (o : Option Laid). joined first o) follows,
        ),
        (g.1.1.0, EachEndsWithin-append w first.pieces second.pieces g.1.1.1 h.1.1.1),
      ),
      h.2,
      costs_of_both costs laws w left.0 right.0 c i l.last i first second l.cost r.cost width
          (picks_document a left.0 l.how p left.1)
          (picks_document b right.0 r.how q right.1) left.2 right.2 g.1.1.1 h.1.1.1 g.3 h.3,
    )

charge_measure : {C : Type 0} (costs : Costs C) (laws : Lawful costs) (w k : ℕ) (a : Doc) (c i : ℕ)
    (m : Measure C (List Dir)) → IsColumn w → k ≤ 1000 → IsDocument a →
    OfResolution costs w a c i m → OfResolution costs w (Charge k a) c i (raised costs (costs.charge k) m)
unfolding Picks render EachEndsWithin
charge_measure costs laws w k a c i m width q p g =
    let part = g.0 in
    let under = g.1.0 in (
      laid (Fee k ∷ part.pieces) part.last,
      (
        (Charge k under.0, (under.0, refl, under.1), ap (λ (o : Option Laid). joined (laid (Fee k ∷ []) c) o) under.2),
        (g.1.1.0, (tt, g.1.1.1)),
      ),
      g.2,
      costs_of_charge costs laws w k under.0 c i part m.cost width q
          (picks_document a under.0 m.how p under.1) under.2 g.1.1.1 g.3,
    )

-- each measure of a core's frontier is that of a resolution
pub measure_of_resolution : {C : Type 0} (costs : Costs C) (laws : Lawful costs) (w : ℕ) (d : Doc) (c i : ℕ)
    (m : Measure C (List Dir)) → IsColumn w → IsDocument d →
    IsMember m (plain costs w d c i) → OfResolution costs w d c i m
unfolding plain IsDocument IsMember Picks render
measure_of_resolution costs laws w (Text s len) c i m p d h =
    let is = within_member (nat_le (c + len) w) (leaf_measure (c + len) (costs.text c len)) m h in
    of_equal costs w (Text s len) c i m (leaf_measure (c + len) (costs.text c len)) is.1
    (text_measure costs w s len c i (nat_le-true (c + len) w is.0))
measure_of_resolution costs laws w Newline c i m p d h =
    let is = within_member (nat_le c w && nat_le i w) (leaf_measure i (costs.newline i)) m h in
    let parts = and_parts (nat_le c w) (nat_le i w) is.0 in
    of_equal costs w Newline c i m (leaf_measure i (costs.newline i)) is.1
    (newline_measure costs w c i (nat_le-true c w parts.0) (nat_le-true i w parts.1))
measure_of_resolution costs laws w (Concat a b) c i m p d h =
    let kept =
    pareto_keeps_members costs (all_joined costs (plain costs w a c i) (λ last. plain costs w b last i)) m h in
    let is = joined_member costs m (plain costs w a c i) (λ last. plain costs w b last i) kept in
    of_equal costs w (Concat a b) c i m (shifted costs is.0 is.1) is.4
    (concat_measure costs laws w a b c i is.0 is.1 p d.0 d.1 (measure_of_resolution costs laws w a c i is.0 p d.0 is.2)
    (measure_of_resolution costs laws w b is.0.last i is.1 p d.1 is.3))
measure_of_resolution costs laws w (Nest n a) c i m p d h =
    let g = measure_of_resolution costs laws w a c (i + n) m p d.1 h in
    let under = g.1.0 in
    (g.0, ((Nest n under.0, (under.0, refl, under.1), under.2), g.1.1), g.2, g.3)
measure_of_resolution costs laws w (Align a) c i m p d h =
    let g = measure_of_resolution costs laws w a c c m p d h in
    let under = g.1.0 in
    (g.0, ((Align under.0, (under.0, refl, under.1), under.2), g.1.1), g.2, g.3)
measure_of_resolution costs laws w (Reset a) c i m p d h =
    let g = measure_of_resolution costs laws w a c 0 m p d h in
    let under = g.1.0 in
    (g.0, ((Reset under.0, (under.0, refl, under.1), under.2), g.1.1), g.2, g.3)
measure_of_resolution costs laws w (Choice a b) c i m p d h =
    let kept =
    pareto_keeps_members costs (all_marked Left (plain costs w a c i) ++ all_marked Right (plain costs w b c i)) m h in
    elim (member-append m (all_marked Left (plain costs w a c i)) (all_marked Right (plain costs w b c i)) kept) [
      | inl k ↦
          let is = map_member (marked Left) m (plain costs w a c i) k in
          let g = measure_of_resolution costs laws w a c i is.0 p d.0 is.1 in
          let under = g.1.0 in
          of_equal costs w (Choice a b) c i m (marked Left is.0) is.2 (
            g.0,
            ((under.0, (is.0.how, inl (refl, under.1)), under.2), g.1.1),
            g.2,
            g.3,
          )
      | inr k ↦
          let is = map_member (marked Right) m (plain costs w b c i) k in
          let g = measure_of_resolution costs laws w b c i is.0 p d.1 is.1 in
          let under = g.1.0 in
          of_equal costs w (Choice a b) c i m (marked Right is.0) is.2 (
            g.0,
            ((under.0, (is.0.how, inr (refl, under.1)), under.2), g.1.1),
            g.2,
            g.3,
          )
    ]
measure_of_resolution costs laws w (Only dir a) c i m p d h =
    let is = map_member (marked dir) m (plain costs w a c i) h in
    let g = measure_of_resolution costs laws w a c i is.0 p d is.1 in
    let under = g.1.0 in
    of_equal costs w (Only dir a) c i m (marked dir is.0) is.2 (
      g.0,
      ((under.0, (is.0.how, refl, under.1), under.2), g.1.1),
      g.2,
      g.3,
    )
measure_of_resolution costs laws w (Charge k a) c i m p d h =
    let kept = pareto_keeps_members costs (all_raised costs (costs.charge k) (plain costs w a c i)) m h in
    let is = map_member (raised costs (costs.charge k)) m (plain costs w a c i) kept in
    of_equal costs w (Charge k a) c i m (raised costs (costs.charge k) is.0) is.2
    (charge_measure costs laws w k a c i is.0 p d.0 d.1 (measure_of_resolution costs laws w a c i is.0 p d.1 is.1))
measure_of_resolution costs laws w _ c i m p d h = absurd h

-- a measure of the list ends by this column and costs at most this
abbrev pub Dominated : {C : Type 0} → Costs C → List (Measure C (List Dir)) → ℕ → C → Type 0
Dominated {C} costs xs last cost =
    (m : Measure C (List Dir)) × IsMember m xs × (m.last ≤ last) × AtMost costs m.cost cost

pareto_dominated : {C : Type 0} (costs : Costs C) (laws : Lawful costs) (xs : List (Measure C (List Dir))) (last : ℕ)
    (cost : C) → EachIsValue costs xs → IsValue costs cost →
    Dominated costs xs last cost → Dominated costs (pareto costs xs) last cost
pareto_dominated costs laws xs last cost v u h =
    let k = pareto_dominates_all costs laws xs h.0 v h.1 in
    let kv = value_member costs k.0 xs v (pareto_keeps_members costs xs k.0 k.1) in
    let hv = value_member costs h.0 xs v h.1 in
    let one : k.0.last ≤ h.0.last = dominates-last costs k.0 h.0 k.2 in
    let two : h.0.last ≤ last = h.2 in
    (k.0, k.1, omega arith, laws.transitive k.0.cost h.0.cost cost kv hv u (dominates-cost costs k.0 h.0 k.2) h.3)

pub at_most_itself : {C : Type 0} (costs : Costs C) (laws : Lawful costs) (a : C) → IsValue costs a → AtMost costs a a
at_most_itself costs laws a v = elim (laws.total a a v v) [ inl h ↦ h | inr h ↦ h ]

-- each resolution of the document that is within w columns at this place, cost and last column
abbrev AllDominated : {C : Type 0} → Costs C → ℕ → Doc → ℕ → ℕ → Type 0
AllDominated {C} costs w d c i =
    (cs : List Dir) (e : Doc) (whole : Laid) (cost : C) → Picks d cs e → render e c i false ≡ Some whole →
    Within c whole.pieces w →
    cost_of costs whole.pieces ≡ Some cost → Dominated costs (plain costs w d c i) whole.last cost

text_dominated : {C : Type 0} (costs : Costs C) (laws : Lawful costs) (w : ℕ) (s : List ℕ) (len c i : ℕ) (whole : Laid)
    (cost : C) → IsColumn w →
    render (Text s len) c i false ≡ Some whole → Within c whole.pieces w → cost_of costs whole.pieces ≡ Some cost →
    Dominated costs (plain costs w (Text s len) c i) whole.last cost
unfolding render plain EachEndsWithin cost_after
text_dominated {C = C} costs laws w s len c i whole cost width r h e =
    let same : laid (Word c s len ∷ []) (c + len) ≡ whole = cc in
    subst (λ (x : Laid). Within c x.pieces w → cost_of costs x.pieces ≡ Some cost →
    Dominated costs (plain costs w (Text s len) c i) x.last cost) same
    (λ k f.
    let ends : c + len ≤ w = k.1.0 in
    let is : costs.text c len ≡ cost = cc in (
      leaf_measure (c + len) (costs.text c len),
      member_within (nat_le (c + len) w) (leaf_measure (c + len) (costs.text c len)) (true_le (c + len) w ends),
      omega arith,
      subst (λ (x : C). AtMost costs (costs.text c len) x) is
          (at_most_itself costs laws (costs.text c len) (laws.text_is_value c len (omega arith) (omega arith))),
    )) h e

newline_dominated : {C : Type 0} (costs : Costs C) (laws : Lawful costs) (w c i : ℕ) (whole : Laid) (cost : C) →
    IsColumn w →
    render Newline c i false ≡ Some whole → Within c whole.pieces w → cost_of costs whole.pieces ≡ Some cost →
    Dominated costs (plain costs w Newline c i) whole.last cost
unfolding render plain EachEndsWithin cost_after
newline_dominated {C = C} costs laws w c i whole cost width r h e =
    let same : laid (Break i ∷ []) i ≡ whole = cc in
    subst (λ (x : Laid). Within c x.pieces w → cost_of costs x.pieces ≡ Some cost →
    Dominated costs (plain costs w Newline c i) x.last cost) same
    (λ k f.
    let ends : i ≤ w = k.1.0 in
    let is : costs.newline i ≡ cost = cc in (
      leaf_measure i (costs.newline i),
      member_within (nat_le c w && nat_le i w) (leaf_measure i (costs.newline i))
          (and_from (nat_le c w) (nat_le i w) (true_le c w k.0) (true_le i w ends)),
      omega arith,
      subst (λ (x : C). AtMost costs (costs.newline i) x) is
          (at_most_itself costs laws (costs.newline i) (laws.newline_is_value i (omega arith))),
    )) h e

pub layout_value : {C : Type 0} (costs : Costs C) (laws : Lawful costs) (w : ℕ) (e : Doc) (c i : ℕ) (flat : Bool)
    (whole : Laid) (cost : C) → IsColumn w → IsDocument e →
    render e c i flat ≡ Some whole → EachEndsWithin w whole.pieces → cost_of costs whole.pieces ≡ Some cost →
    IsValue costs cost
layout_value costs laws w e c i flat whole cost p d r h f =
    cost_is_value costs whole.pieces cost laws (render_counted e w c i flat whole p d r h) f

measure_value : {C : Type 0} (costs : Costs C) (laws : Lawful costs) (w : ℕ) (d : Doc) (c i : ℕ)
    (m : Measure C (List Dir)) → IsColumn w → IsDocument d →
    IsMember m (plain costs w d c i) → IsValue costs m.cost
measure_value costs laws w d c i m p q h =
    value_member costs m (plain costs w d c i) (plain_values costs laws w d c i p q) h

-- a second layout that begins at an earlier column is dominated from there
behind_dominated : {C : Type 0} (costs : Costs C) (laws : Lawful costs) (w : ℕ) (b : Doc) (start earlier i : ℕ)
    (cs : List Dir) (e : Doc) (whole : Laid) (cost : C) →
    IsColumn w → IsDocument b → earlier ≤ start → AllDominated costs w b earlier i → Picks b cs e →
    render e start i false ≡ Some whole →
    Within start whole.pieces w → cost_of costs whole.pieces ≡ Some cost →
    Dominated costs (plain costs w b earlier i) whole.last cost
behind_dominated costs laws w b start earlier i cs e whole cost p d less f picks r h g =
    let ed = picks_document b e cs d picks in
    let moved = shift_keeps_within costs laws w e start i earlier i false whole p ed less (omega arith) r h in
    let z = render_costs costs e earlier i false moved.0 moved.1 in
    let found = f cs e moved.0 z.0 picks moved.1 moved.2 z.1 in
    let found_value = measure_value costs laws w b earlier i found.0 p d found.1 in
    let moved_value = layout_value costs laws w e earlier i false moved.0 z.0 p ed moved.1 moved.2.1 z.1 in
    let whole_value = layout_value costs laws w e start i false whole cost p ed r h.1 g in
    let one : found.0.last ≤ moved.0.last = found.2 in
    let two : moved.0.last ≤ whole.last = moved.3 in (
      found.0,
      found.1,
      omega arith,
      laws.transitive found.0.cost z.0 cost found_value moved_value whole_value found.3
          (moved.4 z.0 cost z.1 g),
    )

concat_dominated : {C : Type 0} (costs : Costs C) (laws : Lawful costs) (w : ℕ) (a b : Doc) (c i : ℕ) → IsColumn w →
    IsDocument a → IsDocument b →
    AllDominated costs w a c i → ((last : ℕ) → AllDominated costs w b last i) → AllDominated costs w (Concat a b) c i
unfolding Picks render plain
concat_dominated {C = C} costs laws w a b c i width ad bd f g cs e whole cost picks r h k =
    let p = picks.2 in
    let q = picks.3 in
    let found =
    followed_by-is (render p c i false) (λ last. render q last i false) whole
    (render_same e (Concat p q) c i false whole picks.5 r) in
    let first = found.0 in
    let second = found.1 in
    let apart =
    ends-apart w first.pieces second.pieces (subst (λ (ps : List Piece). EachEndsWithin w ps) found.4 h.1) in
    let x = render_costs costs p c i false first found.2 in
    let y = render_costs costs q first.last i false second found.3 in
    let pd = picks_document a p picks.0 ad picks.6 in
    let qd = picks_document b q picks.1 bd picks.7 in
    let sum =
    costs_of_both costs laws w p q c i first.last i first second x.0 y.0 width pd qd found.2 found.3 apart.0 apart.1 x.1
    y.1 in
    let whole_cost : cost_of costs whole.pieces ≡ cost_of costs (first.pieces ++ second.pieces) =
    ap (λ (ps : List Piece). cost_of costs ps) found.4 in
    let is : costs.add x.0 y.0 ≡ cost = cc in
    let l = f picks.0 p first x.0 picks.6 found.2 (h.0, apart.0) x.1 in
    let after =
    behind_dominated costs laws w b first.last l.0.last i picks.1 q second y.0 width bd l.2 (g l.0.last) picks.7 found.3
    (render_last p w c i false first found.2 apart.0, apart.1) y.1 in
    let lv = measure_value costs laws w a c i l.0 width ad l.1 in
    let rv = measure_value costs laws w b l.0.last i after.0 width bd after.1 in
    let xv = layout_value costs laws w p c i false first x.0 width pd found.2 apart.0 x.1 in
    let yv = layout_value costs laws w q first.last i false second y.0 width qd found.3 apart.1 y.1 in
    let less : AtMost costs (costs.add l.0.cost after.0.cost) (costs.add x.0 y.0) =
    laws.monotone l.0.cost x.0 after.0.cost y.0 lv xv rv yv l.3 after.3 in
    pareto_dominated costs laws (all_joined costs (plain costs w a c i)
    (λ last. plain costs w b last i)) whole.last cost
    (joined_values costs laws (plain costs w a c i) (λ last. plain costs w b last i)
    (plain_values costs laws w a c i width ad) (λ last. plain_values costs laws w b last i width bd))
    (subst (λ (v : C). IsValue costs v) is (laws.add_is_value x.0 y.0 xv yv)) (
      shifted costs l.0 after.0,
      member_joined costs l.0 after.0 (plain costs w a c i) (λ last. plain costs w b last i) l.1 after.1,
      subst (λ (n : ℕ). after.0.last ≤ n) (sym found.5) after.2,
      subst (λ (v : C). AtMost costs (costs.add l.0.cost after.0.cost) v) is less,
    )

charge_dominated : {C : Type 0} (costs : Costs C) (laws : Lawful costs) (w k : ℕ) (a : Doc) (c i : ℕ) → IsColumn w →
    k ≤ 1000 → IsDocument a →
    AllDominated costs w a c i → AllDominated costs w (Charge k a) c i
unfolding Picks render plain
charge_dominated {C = C} costs laws w k a c i width kd ad f cs e whole cost picks r h g =
    let p = picks.0 in
    let found =
    joined-is (laid (Fee k ∷ []) c) (render p c i false) whole (render_same e (Charge k p) c i false whole picks.1 r) in
    let part = found.0 in
    let apart = ends-apart w (Fee k ∷ []) part.pieces (subst (λ (ps : List Piece). EachEndsWithin w ps) found.2 h.1) in
    let pd = picks_document a p cs ad picks.2 in
    let x = render_costs costs p c i false part found.1 in
    let sum = costs_of_charge costs laws w k p c i part x.0 width kd pd found.1 apart.1 x.1 in
    let whole_cost : cost_of costs whole.pieces ≡ cost_of costs (Fee k ∷ part.pieces) =
    ap (λ (ps : List Piece). cost_of costs ps) found.2 in
    let is : costs.add (costs.charge k) x.0 ≡ cost = cc in
    let m = f cs p part x.0 picks.2 found.1 (h.0, apart.1) x.1 in
    let mv = measure_value costs laws w a c i m.0 width ad m.1 in
    let xv = layout_value costs laws w p c i false part x.0 width pd found.1 apart.1 x.1 in
    let kv = laws.charge_is_value k kd in
    let less =
    laws.monotone (costs.charge k) (costs.charge k) m.0.cost x.0 kv kv mv xv
    (at_most_itself costs laws (costs.charge k) kv) m.3 in
    pareto_dominated costs laws (all_raised costs (costs.charge k) (plain costs w a c i)) whole.last cost
    (raised_values costs laws (costs.charge k) (plain costs w a c i) kv (plain_values costs laws w a c i width ad))
    (subst (λ (v : C). IsValue costs v) is (laws.add_is_value (costs.charge k) x.0 kv xv)) (
      raised costs (costs.charge k) m.0,
      member_map (raised costs (costs.charge k)) m.0 (plain costs w a c i) m.1,
      subst (λ (n : ℕ). m.0.last ≤ n) (sym found.3) m.2,
      subst (λ (v : C). AtMost costs (costs.add (costs.charge k) m.0.cost) v) is less,
    )

choice_dominated : {C : Type 0} (costs : Costs C) (laws : Lawful costs) (w : ℕ) (a b : Doc) (c i : ℕ) → IsColumn w →
    IsDocument a → IsDocument b →
    AllDominated costs w a c i → AllDominated costs w b c i → AllDominated costs w (Choice a b) c i
unfolding Picks plain
choice_dominated costs laws w a b c i width ad bd f g cs e whole cost picks r h k =
    let values =
    value_append costs (all_marked Left (plain costs w a c i)) (all_marked Right (plain costs w b c i))
    (marked_values costs Left (plain costs w a c i) (plain_values costs laws w a c i width ad))
    (marked_values costs Right (plain costs w b c i) (plain_values costs laws w b c i width bd)) in
    elim picks.1 [
      | inl side ↦
          let m = f picks.0 e whole cost side.1 r h k in
          let v =
          layout_value costs laws w e c i false whole cost width (picks_document a e picks.0 ad side.1) r h.1 k in
          pareto_dominated costs laws (all_marked Left (plain costs w a c i)
          ++ all_marked Right (plain costs w b c i)) whole.last cost values v (
            marked Left m.0,
            member-left (marked Left m.0) (all_marked Left (plain costs w a c i))
                (all_marked Right (plain costs w b c i))
                (member_map (marked Left) m.0 (plain costs w a c i) m.1),
            m.2,
            m.3,
          )
      | inr side ↦
          let m = g picks.0 e whole cost side.1 r h k in
          let v =
          layout_value costs laws w e c i false whole cost width (picks_document b e picks.0 bd side.1) r h.1 k in
          pareto_dominated costs laws (all_marked Left (plain costs w a c i)
          ++ all_marked Right (plain costs w b c i)) whole.last cost values v (
            marked Right m.0,
            member-right (marked Right m.0) (all_marked Left (plain costs w a c i))
                (all_marked Right (plain costs w b c i))
                (member_map (marked Right) m.0 (plain costs w b c i) m.1),
            m.2,
            m.3,
          )
    ]

-- each resolution of a core within w columns is dominated by a measure of its frontier
pub resolution_dominated : {C : Type 0} (costs : Costs C) (laws : Lawful costs) (w : ℕ) (d : Doc) (c i : ℕ) →
    IsColumn w → IsDocument d → IsCore d → AllDominated costs w d c i
unfolding Picks render plain IsDocument IsCore
resolution_dominated costs laws w (Text s len) c i p d core cs e whole cost picks r h g =
    text_dominated costs laws w s len c i whole cost p (render_same e (Text s len) c i false whole picks.1 r) h g
resolution_dominated costs laws w Newline c i p d core cs e whole cost picks r h g =
    newline_dominated costs laws w c i whole cost p (render_same e Newline c i false whole picks.1 r) h g
resolution_dominated costs laws w (Concat a b) c i p d core cs e whole cost picks r h g =
    concat_dominated costs laws w a b c i p d.0 d.1 (resolution_dominated costs laws w a c i p d.0 core.0)
    (λ last. resolution_dominated costs laws w b last i p d.1 core.1) cs e whole cost picks r h g
resolution_dominated costs laws w (Nest n a) c i p d core cs e whole cost picks r h g =
    resolution_dominated costs laws w a c (i + n) p d.1 core cs picks.0 whole cost picks.2
    (render_same e (Nest n picks.0) c i false whole picks.1 r) h g
resolution_dominated costs laws w (Align a) c i p d core cs e whole cost picks r h g =
    resolution_dominated costs laws w a c c p d core cs picks.0 whole cost picks.2
    (render_same e (Align picks.0) c i false whole picks.1 r) h g
resolution_dominated costs laws w (Reset a) c i p d core cs e whole cost picks r h g =
    resolution_dominated costs laws w a c 0 p d core cs picks.0 whole cost picks.2
    (render_same e (Reset picks.0) c i false whole picks.1 r) h g
resolution_dominated costs laws w (Choice a b) c i p d core cs e whole cost picks r h g =
    choice_dominated costs laws w a b c i p d.0 d.1 (resolution_dominated costs laws w a c i p d.0 core.0)
    (resolution_dominated costs laws w b c i p d.1 core.1) cs e whole cost picks r h g
resolution_dominated costs laws w (Only dir a) c i p d core cs e whole cost picks r h g =
    let m = resolution_dominated costs laws w a c i p d core picks.0 e whole cost picks.2 r h g in
    (marked dir m.0, member_map (marked dir) m.0 (plain costs w a c i) m.1, m.2, m.3)
resolution_dominated costs laws w (Charge k a) c i p d core cs e whole cost picks r h g =
    charge_dominated costs laws w k a c i p d.0 d.1
    (resolution_dominated costs laws w a c i p d.1 core) cs e whole cost picks r h g
resolution_dominated costs laws w _ c i p d core cs e whole cost picks r h g = absurd core

-- the same with every cost that the layout has
pub dominated_by_frontier : {C : Type 0} (costs : Costs C) (laws : Lawful costs) (w : ℕ) (d : Doc) (c i : ℕ)
    (cs : List Dir) (whole : Laid) → IsColumn w → IsDocument d → IsCore d →
    WithinBy w d cs c i false whole →
    (m : Measure C (List Dir)) × IsMember m (plain costs w d c i) × (m.last ≤ whole.last)
    × ((cost : C) → cost_of costs whole.pieces ≡ Some cost → AtMost costs m.cost cost)
dominated_by_frontier {C = C} costs laws w d c i cs whole p q core h =
    let x = render_costs costs h.0.0 c i false whole h.0.2 in
    let m = resolution_dominated costs laws w d c i p q core cs h.0.0 whole x.0 h.0.1 h.0.2 h.1 x.1 in (
      m.0,
      m.1,
      m.2,
      λ cost e. let same : x.0 ≡ cost =
          some_same x.0 cost (sym x.1 ∙ e) in subst (λ (v : C). AtMost costs m.0.cost v) same m.3,
    )
  where
    some_same : {C : Type 0} (a b : C) → Some a ≡ Some b → a ≡ b
    some_same a b e = cc

has_member : {A : Type 0} (xs : List A) → xs ≢ [] → (x : A) × IsMember x xs
unfolding IsMember
has_member [] h = absurd (h refl)
has_member (x ∷ xs) h = (x, inl refl)

no_member : {A : Type 0} (x : A) (xs : List A) → IsMember x xs → xs ≢ []
unfolding IsMember
no_member x [] h e = h
no_member x (y ∷ xs) h e = cc

-- a core's frontier has a measure exactly where some resolution is within w columns
pub frontier_where_within : {C : Type 0} (costs : Costs C) (laws : Lawful costs) (w : ℕ) (d : Doc) (c i : ℕ) →
    IsColumn w → IsDocument d → IsCore d →
    (plain costs w d c i ≢ []) ↔ HasWithin w d c i false
frontier_where_within costs laws w d c i p q core = (
  λ some.
      let m = has_member (plain costs w d c i) some in
      let is = measure_of_resolution costs laws w d c i m.0 p q m.1 in (m.0.how, is.0, is.1),
  λ has.
      let m = dominated_by_frontier costs laws w d c i has.0 has.1 p q core has.2 in
      no_member m.0 (plain costs w d c i) m.1,
)
