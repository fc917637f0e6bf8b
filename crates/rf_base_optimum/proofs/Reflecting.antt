-- Where addition reflects the order of costs, what is chosen of two documents in a row is what is chosen of each.
use Rattle.std.proofs.Common.{◌≡◌, ℕ, suc, ◌+◌, ◌≤◌, max, Bool, true, false, List, [], ◌∷◌, ◌++◌, length, refl, sym, ◌∙◌, ap, ap₂, subst, append-nil, ◌⊎◌, inl, inr, Some, arith}
use Rattle.std.specs.Prelude.{nat_le}
use Rattle.std.proofs.lemmas.Bool.{and_from}
use Rattle.rf_base_document.specs.declared.directions.Dir.{Dir}
use Rattle.rf_base_document.specs.Document.{Doc, Text, Newline, Hard, Concat, Nest, Align, Reset, Flatten, Choice, Only, Charge, IsDocument}
use Rattle.rf_base_document.specs.Render.{Piece, Laid}
use Rattle.rf_base_document.specs.Picks.{Picks, LaidOutBy, leaves_of, charges_of}
use Rattle.rf_base_document.specs.Simple.{simple}
use Rattle.rf_base_document.proofs.Running.{picks_document, piece_count}
use Rattle.rf_base_document.proofs.Simple.{core_has_no_more}
use Rattle.rf_base_cost.specs.declared.measures.Measure.{Measure}
use Rattle.rf_base_cost.specs.Cost.{Costs, IsValue, AtMost, IsColumn, Lawful, cost_of, PiecesAreCounted}
use Rattle.rf_base_cost.specs.Pareto.{dominates, pareto, IsMember, EachFollows, IsFrontier, EachIsValue, shifted, all_shifted}
use Rattle.rf_base_cost.specs.Reflecting.{ReflectsOrderUpTo}
use Rattle.rf_base_cost.proofs.Dominance.{true_not_false, true_le}
use Rattle.rf_base_cost.proofs.Members.{value_append}
use Rattle.rf_base_cost.proofs.Pareto.{frontier_is_pareto, drop_dominated}
use Rattle.rf_base_optimum.specs.Plain.{all_joined, plain}
use Rattle.rf_base_optimum.specs.Chosen.{Chosen, chosen, first_of, chosen_both, choose}
use Rattle.rf_base_optimum.specs.MostPieces.{most_pieces}
use Rattle.rf_base_optimum.proofs.Choosing.{choose_first}
use Rattle.rf_base_optimum.proofs.CoreChoices.{core_document}
use Rattle.rf_base_optimum.proofs.Frontier.{plain_values, plain_frontier, ends_member, plain_ends, pareto_nothing, joined_nothing, shifted_values}
use Rattle.rf_base_optimum.proofs.Pruning.{measure_of_resolution, member_map}
use Rattle.rf_base_optimum.proofs.Shift.{render_counted}
use Rattle.rf_base_optimum.proofs.Seams.{EndsAtMargin}

-- a resolution has at most so many pieces
max_first : (a b n : ℕ) → n ≤ a → n ≤ max a b
max_first a b n h = omega arith

max_second : (a b n : ℕ) → n ≤ b → n ≤ max a b
max_second a b n h = omega arith

picked_pieces : (d e : Doc) (cs : List Dir) → Picks d cs e → leaves_of e + charges_of e ≤ most_pieces d
unfolding Picks leaves_of charges_of most_pieces
picked_pieces (Text s len) e cs h = subst (λ (x : Doc). leaves_of x + charges_of x ≤ 1) (sym h.1) (omega arith)
picked_pieces Newline e cs h = subst (λ (x : Doc). leaves_of x + charges_of x ≤ 1) (sym h.1) (omega arith)
picked_pieces Hard e cs h = subst (λ (x : Doc). leaves_of x + charges_of x ≤ 1) (sym h.1) (omega arith)
picked_pieces (Concat a b) e cs h =
    let first = picked_pieces a h.2 h.0 h.6 in
    let second = picked_pieces b h.3 h.1 h.7 in
    subst (λ (x : Doc). leaves_of x + charges_of x ≤ most_pieces a + most_pieces b) (sym h.5) (omega arith)
picked_pieces (Nest n a) e cs h =
    subst (λ (x : Doc). leaves_of x + charges_of x ≤ most_pieces a) (sym h.1) (picked_pieces a h.0 cs h.2)
picked_pieces (Align a) e cs h =
    subst (λ (x : Doc). leaves_of x + charges_of x ≤ most_pieces a) (sym h.1) (picked_pieces a h.0 cs h.2)
picked_pieces (Reset a) e cs h =
    subst (λ (x : Doc). leaves_of x + charges_of x ≤ most_pieces a) (sym h.1) (picked_pieces a h.0 cs h.2)
picked_pieces (Flatten a) e cs h =
    subst (λ (x : Doc). leaves_of x + charges_of x ≤ most_pieces a) (sym h.1) (picked_pieces a h.0 cs h.2)
picked_pieces (Choice a b) e cs h =
    elim h.1 [
      | inl k ↦ max_first (most_pieces a) (most_pieces b) (leaves_of e + charges_of e) (picked_pieces a e h.0 k.1)
      | inr k ↦ max_second (most_pieces a) (most_pieces b) (leaves_of e + charges_of e) (picked_pieces b e h.0 k.1)
    ]
picked_pieces (Only dir a) e cs h = picked_pieces a e h.0 h.2
picked_pieces (Charge k a) e cs h =
    let under = picked_pieces a h.0 cs h.2 in
    subst (λ (x : Doc). leaves_of x + charges_of x ≤ suc (most_pieces a)) (sym h.1) (omega arith)

pub laid_pieces : (d : Doc) (cs : List Dir) (c i : ℕ) (flat : Bool) (whole : Laid) → LaidOutBy d cs c i flat whole →
    length whole.pieces ≤ most_pieces d
laid_pieces d cs c i flat whole h =
    let count = piece_count h.0 c i flat whole h.2 in
    let most = picked_pieces d h.0 cs h.1 in
    omega arith

-- the measure is that of a layout of at most n pieces, which are counted
abbrev pub OfPieces : {C : Type 0} → Costs C → ℕ → Measure C (List Dir) → Type 0
OfPieces costs n m =
    (pieces : List Piece) × PiecesAreCounted pieces × (length pieces ≤ n) × (cost_of costs pieces ≡ Some m.cost)

measure_pieces : {C : Type 0} (costs : Costs C) (laws : Lawful costs) (w : ℕ) (d s : Doc) (c : ℕ)
    (m : Measure C (List Dir)) → IsColumn w → IsDocument d →
    simple d false ≡ Some s → IsMember m (plain costs w s c 0) → OfPieces costs (most_pieces d) m
measure_pieces costs laws w d s c m p q e h =
    let document = core_document d false s q e in
    let is = measure_of_resolution costs laws w s c 0 m p document h in
    let laid_out = is.1.0 in (
      is.0.pieces,
      render_counted laid_out.0 w c 0 false is.0 p
          (picks_document s laid_out.0 m.how document laid_out.1) laid_out.2 is.1.1.1,
      laid_pieces d m.how c 0 false is.0 (core_has_no_more d false s m.how c 0 is.0 e laid_out),
      is.3,
    )

-- behind another measure, the measures of a frontier still cost more one than the other
pub is_false : {C : Type 0} (costs : Costs C) (a b : C) → (AtMost costs a b → ⊥) → costs.le a b ≡ false
is_false costs a b h = false_of (costs.le a b) h
  where
    false_of : (x : Bool) → (x ≡ true → ⊥) → x ≡ false
    false_of true h = absurd (h refl)
    false_of false h = refl

follows_behind : {C : Type 0} (costs : Costs C) (i j : ℕ) (m x : Measure C (List Dir))
    (ys : List (Measure C (List Dir))) → ReflectsOrderUpTo costs (i + j) →
    OfPieces costs i m → OfPieces costs j x → ((y : Measure C (List Dir)) → IsMember y ys → OfPieces costs j y) →
    EachFollows costs x ys →
    EachFollows costs (shifted costs m x) (all_shifted costs m ys)
unfolding EachFollows IsMember
follows_behind costs i j m x [] reflects f g h k = tt
follows_behind costs i j m x (y ∷ ys) reflects f g h k =
    let of_y = h y (inl refl) in
    let i_pieces : length f.0 ≤ i = f.2 in
    let x_pieces : length g.0 ≤ j = g.2 in
    let y_pieces : length of_y.0 ≤ j = of_y.2 in (
      k.0,
      is_false costs (costs.add m.cost y.cost) (costs.add m.cost x.cost)
          (λ less. true_not_false (costs.le y.cost x.cost)
          (reflects f.0 of_y.0 g.0 m.cost y.cost x.cost f.1 of_y.1 g.1 (omega arith)
          (omega arith) f.3 of_y.3 g.3 less) k.1),
      follows_behind costs i j m x ys reflects f g (λ z l. h z (inr l)) k.2,
    )

pub frontier_behind : {C : Type 0} (costs : Costs C) (i j : ℕ) (m : Measure C (List Dir))
    (ys : List (Measure C (List Dir))) → ReflectsOrderUpTo costs (i + j) →
    OfPieces costs i m → ((y : Measure C (List Dir)) → IsMember y ys → OfPieces costs j y) → IsFrontier costs ys →
    IsFrontier costs (all_shifted costs m ys)
unfolding IsFrontier IsMember
frontier_behind costs i j m [] reflects f h k = tt
frontier_behind costs i j m (y ∷ ys) reflects f h k = (
  follows_behind costs i j m y ys reflects f (h y (inl refl)) (λ z l. h z (inr l)) k.0,
  frontier_behind costs i j m ys reflects f (λ z l. h z (inr l)) k.1,
)

-- behind a dearer measure the same measures are dominated
dominated_behind : {C : Type 0} (costs : Costs C) (laws : Lawful costs) (m r n : Measure C (List Dir)) →
    IsValue costs m.cost → IsValue costs r.cost → IsValue costs n.cost →
    AtMost costs m.cost r.cost → dominates costs (shifted costs m n) (shifted costs r n) ≡ true
dominated_behind costs laws m r n u v t less =
    and_from (nat_le n.last n.last) (costs.le (costs.add m.cost n.cost) (costs.add r.cost n.cost))
    (true_le n.last n.last (omega arith))
    (laws.monotone m.cost r.cost n.cost n.cost u v t t less
    (elim (laws.total n.cost n.cost t t) [ inl h ↦ h | inr h ↦ h ]))

drop_behind : {C : Type 0} (costs : Costs C) (laws : Lawful costs) (m r : Measure C (List Dir))
    (ns xs ys : List (Measure C (List Dir))) → IsValue costs m.cost → IsValue costs r.cost →
    EachIsValue costs ns → EachIsValue costs xs → EachIsValue costs ys → AtMost costs m.cost r.cost →
    ((n : Measure C (List Dir)) → IsMember n ns → IsMember (shifted costs m n) xs) →
    pareto costs (xs ++ (all_shifted costs r ns ++ ys)) ≡ pareto costs (xs ++ ys)
unfolding EachIsValue IsMember
drop_behind costs laws m r [] xs ys u v t s q less h = refl
drop_behind {C = C} costs laws m r (n ∷ ns) xs ys u v t s q less h =
    let rest = value_append costs (all_shifted costs r ns) ys (shifted_values costs laws r ns v t.1) q in
    drop_dominated costs laws xs (all_shifted costs r ns ++ ys) (shifted costs m n) (shifted costs r n) s (
      laws.add_is_value r.cost n.cost v t.0,
      rest,
    )
    (h n (inl refl)) (dominated_behind costs laws m r n u v t.0 less)
    ∙ drop_behind costs laws m r ns xs ys u v t.1 s q less (λ z k. h z (inr k))

pub drop_all_behind : {C : Type 0} (costs : Costs C) (laws : Lawful costs) (m : Measure C (List Dir))
    (rest ns xs : List (Measure C (List Dir))) (behind : ℕ → List (Measure C (List Dir))) →
    IsValue costs m.cost → EachIsValue costs rest → EachIsValue costs ns → EachIsValue costs xs →
    EachFollows costs m rest →
    ((r : Measure C (List Dir)) → IsMember r rest → behind r.last ≡ ns) →
    ((n : Measure C (List Dir)) → IsMember n ns → IsMember (shifted costs m n) xs) →
    pareto costs (xs ++ all_joined costs rest behind) ≡ pareto costs xs
unfolding EachIsValue EachFollows IsMember all_joined
drop_all_behind {C = C} costs laws m [] ns xs behind u v t s k f h = ap (pareto costs) (append-nil xs)
drop_all_behind {C = C} costs laws m (r ∷ rest) ns xs behind u v t s k f h =
    let less : AtMost costs m.cost r.cost =
    elim (laws.total m.cost r.cost u v.0) [
      | inl at_most ↦ at_most
      | inr more ↦ true_not_false
          (costs.le r.cost m.cost) more k.1
    ] in
    let none : EachIsValue costs (xs ++ []) =
    subst (λ (z : List (Measure C (List Dir))). EachIsValue costs z) (sym (append-nil xs)) s in
    let others = drop_all_behind costs laws m rest ns xs behind u v.1 t s k.2 (λ z l. f z (inr l)) h in
    ap (λ (z : List (Measure C (List Dir))). pareto costs
    (xs ++ (all_shifted costs r z ++ all_joined costs rest behind))) (f r (inl refl))
    ∙ drop_behind costs laws m r ns xs (all_joined costs rest behind) u v.0 t s
    (joined_rest costs laws ns rest behind v.1 t (λ z l. f z (inr l))) less h
    ∙ others
  where
    joined_rest : {C : Type 0} (costs : Costs C) (laws : Lawful costs) (ns rest : List (Measure C (List Dir)))
        (behind : ℕ → List (Measure C (List Dir))) →
        EachIsValue costs rest → EachIsValue costs ns →
        ((r : Measure C (List Dir)) → IsMember r rest → behind r.last ≡ ns) →
        EachIsValue costs (all_joined costs rest behind)
    joined_rest costs laws ns [] behind v t f = tt
    joined_rest {C = C} costs laws ns (r ∷ rest) behind v t f =
        value_append costs (all_shifted costs r (behind r.last)) (all_joined costs rest behind)
        (shifted_values costs laws r (behind r.last) v.0
        (subst (λ (z : List (Measure C (List Dir))). EachIsValue costs z) (sym (f r (inl refl))) t))
        (joined_rest costs laws ns rest behind v.1 t (λ z l. f z (inr l)))

-- what a document at the margin, or one that may begin anywhere, has behind each measure is the same
abbrev pub PlainAnywhere : {C : Type 0} → Costs C → ℕ → Doc → Type 0
PlainAnywhere costs w s = (c other : ℕ) → c ≤ w → other ≤ w → plain costs w s c 0 ≡ plain costs w s other 0

behind_alike : {C : Type 0} (costs : Costs C) (laws : Lawful costs) (w : ℕ) (a s t : Doc) (c : ℕ)
    (m : Measure C (List Dir)) (rest : List (Measure C (List Dir))) → IsColumn w → IsDocument a →
    simple a false ≡ Some s → EndsAtMargin a ⊎ PlainAnywhere costs w t → plain costs w s c 0 ≡ m ∷ rest →
    (r : Measure C (List Dir)) → IsMember r rest → plain costs w t r.last 0 ≡ plain costs w t m.last 0
unfolding IsMember IsFrontier EachFollows
behind_alike {C = C} costs laws w a s t c m rest p q e (inl ends) f r h =
    let is = measure_of_resolution costs laws w s c 0 r p (core_document a false s q e)
    (subst (λ (z : List (Measure C (List Dir))). IsMember r z) (sym f) (inr h)) in
    let is_first = measure_of_resolution costs laws w s c 0 m p (core_document a false s q e)
    (subst (λ (z : List (Measure C (List Dir))). IsMember m z) (sym f) (inl refl)) in
    let zero_last : r.last ≡ 0 = sym is.2 ∙ ends r.how c is.0 (core_has_no_more a false s r.how c 0 is.0 e is.1.0) in
    let zero_first : m.last ≡ 0 =
    sym is_first.2 ∙ ends m.how c is_first.0 (core_has_no_more a false s m.how c 0 is_first.0 e is_first.1.0) in
    ap (λ (n : ℕ). plain costs w t n 0) (zero_last ∙ sym zero_first)
behind_alike {C = C} costs laws w a s t c m rest p q e (inr anywhere) f r h =
    let ends = plain_ends costs w s c 0 in
    anywhere r.last m.last
    (ends_member w r (plain costs w s c 0) ends
    (subst (λ (z : List (Measure C (List Dir))). IsMember r z) (sym f) (inr h)))
    (ends_member w m (plain costs w s c 0) ends
    (subst (λ (z : List (Measure C (List Dir))). IsMember m z) (sym f) (inl refl)))

-- the frontier of both is that of the second behind the first measure of the first
joined_first : {C : Type 0} (costs : Costs C) (laws : Lawful costs) (w : ℕ) (a b s t : Doc) (c : ℕ)
    (m : Measure C (List Dir)) (rest : List (Measure C (List Dir))) → IsColumn w →
    IsDocument a → IsDocument b → simple a false ≡ Some s → simple b false ≡ Some t →
    EndsAtMargin a ⊎ PlainAnywhere costs w t →
    ReflectsOrderUpTo costs (most_pieces a + most_pieces b) → plain costs w s c 0 ≡ m ∷ rest →
    plain costs w (Concat s t) c 0 ≡ all_shifted costs m (plain costs w t m.last 0)
unfolding plain all_joined IsMember IsFrontier EachIsValue
joined_first {C = C} costs laws w a b s t c m rest p ad bd e f seam reflects k =
    let sd = core_document a false s ad e in
    let td = core_document b false t bd f in
    let values =
    subst (λ (z : List (Measure C (List Dir))). EachIsValue costs z) k (plain_values costs laws w s c 0 p sd) in
    let frontier =
    subst (λ (z : List (Measure C (List Dir))). IsFrontier costs z) k (plain_frontier costs laws w s c 0 p sd) in
    let ns : List (Measure C (List Dir)) = plain costs w t m.last 0 in
    let behind : ℕ → List (Measure C (List Dir)) = λ last. plain costs w t last 0 in
    let ns_values = plain_values costs laws w t m.last 0 p td in
    let shifted_all = shifted_values costs laws m ns values.0 ns_values in
    let of_first =
    measure_pieces costs laws w a s c m p ad e
    (subst (λ (z : List (Measure C (List Dir))). IsMember m z) (sym k) (inl refl)) in
    let is_frontier = frontier_behind costs (most_pieces a) (most_pieces b) m ns reflects of_first
    (λ n l. measure_pieces costs laws w b t m.last n p bd f l) (plain_frontier costs laws w t m.last 0 p td) in
    ap (λ (z : List (Measure C (List Dir))). pareto costs (all_joined costs z behind)) k
    ∙ drop_all_behind costs laws m rest ns (all_shifted costs m ns) behind values.0 values.1 ns_values shifted_all
    frontier.0
    (behind_alike costs laws w a s t c m rest p ad e seam k) (λ n l. member_map (shifted costs m) n ns l)
    ∙ frontier_is_pareto costs laws (all_shifted costs m ns) shifted_all is_frontier

-- what is chosen of both in a row is what is chosen of each
first_behind : {C : Type 0} (costs : Costs C) (w : ℕ) (t : Doc) (m : Measure C (List Dir))
    (ns : List (Measure C (List Dir))) → plain costs w t m.last 0 ≡ ns →
    first_of (all_shifted costs m ns) (chosen_both (chosen m.how m.last) (λ last. choose costs w t last 0))
    ≡ chosen_both (chosen m.how m.last) (λ last. choose costs w t last 0)
first_behind costs w t m [] e = refl
first_behind costs w t m (n ∷ ns) e =
    ap (λ (x : Chosen). chosen (m.how ++ x.choices) x.last) (sym (choose_first costs w t m.last 0 n ns e))

pub chosen_in_row : {C : Type 0} (costs : Costs C) (laws : Lawful costs) (w : ℕ) (a b s t : Doc) (c : ℕ)
    (xs : List (Measure C (List Dir))) → IsColumn w →
    IsDocument a → IsDocument b → simple a false ≡ Some s → simple b false ≡ Some t →
    EndsAtMargin a ⊎ PlainAnywhere costs w t →
    ReflectsOrderUpTo costs (most_pieces a + most_pieces b) → plain costs w s c 0 ≡ xs →
    choose costs w (Concat s t) c 0 ≡ chosen_both (choose costs w s c 0) (λ last. choose costs w t last 0)
unfolding choose plain
chosen_in_row {C = C} costs laws w a b s t c [] p ad bd e f seam reflects k =
    let none : plain costs w (Concat s t) c 0 ≡ [] =
    ap (λ (z : List (Measure C (List Dir))). pareto costs (all_joined costs z (λ last. plain costs w t last 0))) k
    ∙ ap (pareto costs) (joined_nothing costs (λ last. plain costs w t last 0)) ∙ pareto_nothing costs in
    ap (λ (z : List (Measure C (List Dir))). first_of z
    (chosen_both (choose costs w s c 0) (λ last. choose costs w t last 0))) none
chosen_in_row {C = C} costs laws w a b s t c (m ∷ rest) p ad bd e f seam reflects k =
    let first = choose_first costs w s c 0 m rest k in
    let joined_up = joined_first costs laws w a b s t c m rest p ad bd e f seam reflects k in
    ap₂ (λ (z : List (Measure C (List Dir))) (x : Chosen). first_of z
    (chosen_both x (λ last. choose costs w t last 0))) joined_up first
    ∙ first_behind costs w t m (plain costs w t m.last 0) refl
    ∙ ap (λ (x : Chosen). chosen_both x (λ last. choose costs w t last 0)) (sym first)
