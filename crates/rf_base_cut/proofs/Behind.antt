-- What stands behind a measure: costs of pieces in a row, and the order that addition reflects.
use Rattle.std.proofs.Common.{◌≡◌, ℕ, suc, ◌+◌, ◌≤◌, Bool, true, false, cond, List, [], ◌∷◌, ◌++◌, length, append_assoc, append-nil, refl, sym, ◌∙◌, ap, ap₂, subst, inl, inr, arith}
use Rattle.std.specs.Prelude.{nat_le, flat_map}
use Rattle.std.proofs.lemmas.List.{length-append, map-append}
use Rattle.std.proofs.lemmas.Bool.{cases_Bool}
use Rattle.rf_base_document.specs.declared.directions.Dir.{Dir}
use Rattle.rf_base_document.specs.Document.{Doc, IsDocument}
use Rattle.rf_base_document.specs.Render.{Word, Fee}
use Rattle.rf_base_document.proofs.Running.{picks_document}
use Rattle.rf_base_cost.specs.declared.measures.Measure.{Measure}
use Rattle.rf_base_cost.specs.Cost.{Costs, IsValue, IsColumn, Lawful, cost_after, PiecesAreCounted}
use Rattle.rf_base_cost.specs.Pareto.{pareto, IsMember, IsFrontier, EachIsValue, shifted, all_shifted}
use Rattle.rf_base_cost.specs.Reflecting.{ReflectsOrderUpTo}
use Rattle.rf_base_cost.proofs.Dominance.{true_not_false}
use Rattle.rf_base_cost.proofs.Members.{value_from}
use Rattle.rf_base_cost.proofs.Sums.{cost_is_value, costs_join}
use Rattle.rf_base_optimum.specs.Plain.{where_within, all_joined, plain}
use Rattle.rf_base_optimum.specs.MostPieces.{most_pieces}
use Rattle.rf_base_optimum.proofs.Frontier.{plain_values, plain_frontier, shifted_values}
use Rattle.rf_base_optimum.proofs.Shift.{render_counted, counted-append}
use Rattle.rf_base_optimum.proofs.Pruning.{map_member, joined_member, measure_of_resolution, at_most_itself}
use Rattle.rf_base_optimum.proofs.Reflecting.{laid_pieces, is_false, frontier_behind}
use Rattle.rf_base_cut.specs.Cut.{cut, after, CostsPieces, EachCostsPieces, HasRoom}
use Rattle.rf_base_cut.proofs.Pruned.{cut_row}
use Rattle.rf_base_cut.proofs.Mapped.{KeepsOrder, pareto_mapped}

-- the measures of a core's frontier cost what their layouts' pieces cost
pub plain_pieces : {C : Type 0} (costs : Costs C) (laws : Lawful costs) (w : ℕ) (d : Doc) (c i : ℕ)
    (m : Measure C (List Dir)) → IsColumn w → IsDocument d →
    IsMember m (plain costs w d c i) → CostsPieces costs (most_pieces d) m.cost
plain_pieces costs laws w d c i m p q h =
    let is = measure_of_resolution costs laws w d c i m p q h in
    let laid_out = is.1.0 in (
      is.0.pieces,
      render_counted laid_out.0 w c i false is.0 p (picks_document d laid_out.0 m.how q laid_out.1) laid_out.2 is.1.1.1,
      laid_pieces d m.how c i false is.0 laid_out,
      is.3,
    )

pub pieces_value : {C : Type 0} (costs : Costs C) (laws : Lawful costs) (n : ℕ) (a : C) → CostsPieces costs n a →
    IsValue costs a
pieces_value costs laws n a h = cost_is_value costs h.0 a laws h.1 h.3

pub pieces_join : {C : Type 0} (costs : Costs C) (laws : Lawful costs) (i j : ℕ) (a b : C) → CostsPieces costs i a →
    CostsPieces costs j b → CostsPieces costs (i + j) (costs.add a b)
pieces_join costs laws i j a b f g =
    let size = length-append f.0 g.0 in
    let one : length f.0 ≤ i = f.2 in
    let two : length g.0 ≤ j = g.2 in
    (f.0 ++ g.0, counted-append f.0 g.0 f.1 g.1, omega arith, costs_join costs f.0 g.0 a b laws f.1 g.1 f.3 g.3)

pub more_pieces : {C : Type 0} (costs : Costs C) (n more : ℕ) (a : C) → n ≤ more → CostsPieces costs n a →
    CostsPieces costs more a
more_pieces costs n more a p h = let one : length h.0 ≤ n = h.2 in (h.0, h.1, omega arith, h.3)

-- addition that reflects the order of what so many pieces cost reflects that of what fewer cost
reflects_fewer : {C : Type 0} (costs : Costs C) (n more : ℕ) → n ≤ more → ReflectsOrderUpTo costs more →
    ReflectsOrderUpTo costs n
reflects_fewer costs n more less h ps qs rs a b c p q r short shorter e f g at_most =
    h ps qs rs a b c p q r (omega arith) (omega arith) e f g at_most

pub room_value : {C : Type 0} (costs : Costs C) (laws : Lawful costs) (n : ℕ) (a : C) → HasRoom costs n a →
    IsValue costs a
unfolding HasRoom
room_value costs laws n a h = cost_is_value costs h.0 a laws h.1 h.2

pub room_fewer : {C : Type 0} (costs : Costs C) (n more : ℕ) (a : C) → n ≤ more → HasRoom costs more a →
    HasRoom costs n a
unfolding HasRoom
room_fewer costs n more a less h = (
  h.0,
  h.1,
  h.2,
  reflects_fewer costs (length h.0 + n) (length h.0 + more) (omega arith) h.3,
)

-- behind a cost with room for both there is room for the second behind the first
pub room_behind : {C : Type 0} (costs : Costs C) (laws : Lawful costs) (n more : ℕ) (a b : C) →
    HasRoom costs (n + more) a → CostsPieces costs n b → HasRoom costs more (costs.add a b)
unfolding HasRoom
room_behind costs laws n more a b h k =
    let size = length-append h.0 k.0 in
    let short : length k.0 ≤ n = k.2 in (
      h.0 ++ k.0,
      counted-append h.0 k.0 h.1 k.1,
      costs_join costs h.0 k.0 a b laws h.1 k.1 h.2 k.3,
      reflects_fewer costs (length (h.0 ++ k.0) + more) (length h.0 + (n + more)) (omega arith) h.3,
    )

-- a charge costs what one piece costs, and so does a text of nothing
pub charge_pieces : {C : Type 0} (costs : Costs C) (k : ℕ) → k ≤ 1000 → CostsPieces costs 1 (costs.charge k)
unfolding PiecesAreCounted cost_after
charge_pieces costs k p = (Fee k ∷ [], (p, tt), omega arith, refl)

pub nothing_room : {C : Type 0} (costs : Costs C) (n c : ℕ) → IsColumn c → ReflectsOrderUpTo costs (n + 1) →
    HasRoom costs n (costs.text c 0)
unfolding PiecesAreCounted cost_after HasRoom
nothing_room costs n c p h = (
  Word c [] 0 ∷ [],
  (omega arith, tt),
  refl,
  reflects_fewer costs (1 + n) (n + 1) (omega arith) h,
)

-- behind a cost with room for them costs keep their order
pub le_behind : {C : Type 0} (costs : Costs C) (laws : Lawful costs) (n : ℕ) (a b c : C) → HasRoom costs n a →
    CostsPieces costs n b → CostsPieces costs n c →
    costs.le (costs.add a b) (costs.add a c) ≡ costs.le b c
unfolding HasRoom
le_behind costs laws n a b c h f g =
    let av = room_value costs laws n a h in
    let bv = pieces_value costs laws n b f in
    let cv = pieces_value costs laws n c g in
    let one : length f.0 ≤ n = f.2 in
    let two : length g.0 ≤ n = g.2 in
    elim (cases_Bool (costs.le b c)) [
      | inl yes_less ↦ laws.monotone a a b c av av bv cv (at_most_itself costs laws a av) yes_less ∙ sym yes_less
      | inr not_less ↦
          is_false costs (costs.add a b) (costs.add a c)
          (λ less. true_not_false (costs.le b c)
          (h.3 h.0 f.0 g.0 a b c h.1 f.1 g.1 (omega arith) (omega arith) h.2 f.3 g.3 less) not_less)
          ∙ sym not_less
    ]

pub order_behind : {C : Type 0} (costs : Costs C) (laws : Lawful costs) (n : ℕ) (m : Measure C (List Dir))
    (xs : List (Measure C (List Dir))) → HasRoom costs n m.cost →
    EachCostsPieces costs n xs → KeepsOrder costs (shifted costs m) xs
order_behind costs laws n m xs h f x y i j = le_behind costs laws n m.cost x.cost y.cost h (f x i) (f y j)

pub each_value : {C : Type 0} (costs : Costs C) (laws : Lawful costs) (n : ℕ) (xs : List (Measure C (List Dir))) →
    EachCostsPieces costs n xs → EachIsValue costs xs
each_value costs laws n xs f = value_from costs xs (λ z h. pieces_value costs laws n z.cost (f z h))

-- so a list can be put behind a measure before or after it is pruned
pub shifted_pareto : {C : Type 0} (costs : Costs C) (laws : Lawful costs) (n : ℕ) (m : Measure C (List Dir))
    (xs : List (Measure C (List Dir))) → HasRoom costs n m.cost →
    EachCostsPieces costs n xs → all_shifted costs m (pareto costs xs) ≡ pareto costs (all_shifted costs m xs)
shifted_pareto costs laws n m xs h f =
    let values = each_value costs laws n xs f in
    pareto_mapped costs laws (shifted costs m) xs (λ x. refl) (order_behind costs laws n m xs h f) values
    (shifted_values costs laws m xs (room_value costs laws n m.cost h) values)

-- and a frontier behind a measure is one
pub shifted_frontier : {C : Type 0} (costs : Costs C) (n : ℕ) (m : Measure C (List Dir))
    (xs : List (Measure C (List Dir))) → HasRoom costs n m.cost → EachCostsPieces costs n xs →
    IsFrontier costs xs → IsFrontier costs (all_shifted costs m xs)
unfolding HasRoom
shifted_frontier costs n m xs h f g = frontier_behind costs (length h.0) n m xs h.3 (h.0, h.1, omega arith, h.2) f g

-- measures behind measures behind a measure
shifted_twice_one : {C : Type 0} (costs : Costs C) (laws : Lawful costs) (m r n : Measure C (List Dir)) →
    IsValue costs m.cost → IsValue costs r.cost → IsValue costs n.cost →
    shifted costs m (shifted costs r n) ≡ shifted costs (shifted costs m r) n
shifted_twice_one {C = C} costs laws m r n u v t =
    ap₂ (λ (a : C) (h : List Dir). let z : Measure C (List Dir) = record { last = n.last; cost = a; how = h } in z)
    (sym (laws.associative m.cost r.cost n.cost u v t)) (sym (append_assoc m.how r.how n.how))

pub shifted_twice : {C : Type 0} (costs : Costs C) (laws : Lawful costs) (m r : Measure C (List Dir))
    (ns : List (Measure C (List Dir))) → IsValue costs m.cost → IsValue costs r.cost →
    EachIsValue costs ns → all_shifted costs m (all_shifted costs r ns) ≡ all_shifted costs (shifted costs m r) ns
unfolding EachIsValue
shifted_twice costs laws m r [] u v t = refl
shifted_twice {C = C} costs laws m r (n ∷ ns) u v t =
    ap₂ (λ (z : Measure C (List Dir)) (zs : List (Measure C (List Dir))). z ∷ zs)
    (shifted_twice_one costs laws m r n u v t.0) (shifted_twice costs laws m r ns u v t.1)

pub shifted_joined : {C : Type 0} (costs : Costs C) (laws : Lawful costs) (m : Measure C (List Dir))
    (xs : List (Measure C (List Dir))) (behind : ℕ → List (Measure C (List Dir))) →
    IsValue costs m.cost → EachIsValue costs xs → ((last : ℕ) → EachIsValue costs (behind last)) →
    all_shifted costs m (all_joined costs xs behind)
    ≡ flat_map (λ k. all_shifted costs k (behind k.last)) (all_shifted costs m xs)
unfolding EachIsValue all_joined
shifted_joined costs laws m [] behind u v t = refl
shifted_joined {C = C} costs laws m (x ∷ xs) behind u v t =
    map-append (shifted costs m) (all_shifted costs x (behind x.last)) (all_joined costs xs behind)
    ∙ ap₂ (λ (zs ys : List (Measure C (List Dir))). zs ++ ys)
    (shifted_twice costs laws m x (behind x.last) u v.0 (t x.last)) (shifted_joined costs laws m xs behind u v.1 t)

-- what is joined of measures costs what their pieces in a row cost
pub joined_pieces : {C : Type 0} (costs : Costs C) (laws : Lawful costs) (i j : ℕ) (xs : List (Measure C (List Dir)))
    (behind : ℕ → List (Measure C (List Dir))) →
    EachCostsPieces costs i xs → ((last : ℕ) → EachCostsPieces costs j (behind last)) →
    EachCostsPieces costs (i + j) (all_joined costs xs behind)
joined_pieces {C = C} costs laws i j xs behind f g m h =
    let found = joined_member costs m xs behind h in
    subst (λ (z : Measure C (List Dir)). CostsPieces costs (i + j) z.cost) (sym found.4)
    (pieces_join costs laws i j found.0.cost found.1.cost (f found.0 found.2) (g found.0.last found.1 found.3))

-- what is joined of measures and a core, behind a measure, is what stands behind each of them behind it
pub joined_behind : {C : Type 0} (costs : Costs C) (laws : Lawful costs) (w n : ℕ) (b : Doc) (m : Measure C (List Dir))
    (i x : ℕ) (xs : List (Measure C (List Dir))) → IsColumn w →
    IsDocument b → HasRoom costs (n + most_pieces b) m.cost → EachCostsPieces costs n xs →
    cut x (all_shifted costs m (pareto costs (all_joined costs xs (λ last. plain costs w b last i))))
    ≡ cut x (pareto costs (flat_map (λ k. after costs w b k i x) (all_shifted costs m xs)))
unfolding after
joined_behind {C = C} costs laws w n b m i x xs p d h f =
    let behind : ℕ → List (Measure C (List Dir)) = λ last. plain costs w b last i in
    let mv = room_value costs laws (n + most_pieces b) m.cost h in
    let values = each_value costs laws n xs f in
    let behind_pieces =
    λ (last : ℕ) (y : Measure C (List Dir))
    (k : IsMember y (behind last)). plain_pieces costs laws w b last i y p d k in
    ap (cut x) (shifted_pareto costs laws (n + most_pieces b) m (all_joined costs xs behind) h
    (joined_pieces costs laws n (most_pieces b) xs behind f behind_pieces))
    ∙ ap (λ (z : List (Measure C (List Dir))). cut x (pareto costs z))
    (shifted_joined costs laws m xs behind mv values (λ last. plain_values costs laws w b last i p d))
    ∙ cut_row costs laws x (λ k. all_shifted costs k (behind k.last)) (all_shifted costs m xs)
    (λ k j.
    let found = map_member (shifted costs m) k xs j in
    let room : HasRoom costs (most_pieces b) k.cost =
    subst (λ (z : Measure C (List Dir)). HasRoom costs (most_pieces b) z.cost) (sym found.2)
    (room_behind costs laws n (most_pieces b) m.cost found.0.cost h (f found.0 found.1)) in (
      shifted_values costs laws k (behind k.last) (room_value costs laws (most_pieces b) k.cost room)
          (plain_values costs laws w b k.last i p d),
      shifted_frontier costs (most_pieces b) k (behind k.last) room
          (λ y l. plain_pieces costs laws w b k.last i y p d l) (plain_frontier costs laws w b k.last i p d),
    ))

-- a charge with room behind a cost has room by itself
pub charge_room : {C : Type 0} (costs : Costs C) (k n : ℕ) (a : C) → k ≤ 1000 → HasRoom costs (suc n) a →
    HasRoom costs n (costs.charge k)
unfolding PiecesAreCounted cost_after HasRoom
charge_room costs k n a p h = (
  Fee k ∷ [],
  (p, tt),
  refl,
  reflects_fewer costs (1 + n) (length h.0 + suc n) (omega arith) h.3,
)

-- what is joined of one measure, and one measure where it is within
pub joined_one : {C : Type 0} (costs : Costs C) (m : Measure C (List Dir)) (behind : ℕ → List (Measure C (List Dir))) →
    all_joined costs (m ∷ []) behind ≡ all_shifted costs m (behind m.last)
unfolding all_joined
joined_one costs m behind = append-nil (all_shifted costs m (behind m.last))

pub within_is : {C : Type 0} (b : Bool) (n : Measure C (List Dir)) → b ≡ true → where_within b n ≡ n ∷ []
within_is true n e = refl
within_is false n e = cc

pub behind_where : {C : Type 0} (costs : Costs C) (m n : Measure C (List Dir)) (x : ℕ) (within : Bool) →
    cut x (all_shifted costs m (where_within within n)) ≡ where_within within (shifted costs m n)
unfolding cut
behind_where costs m n x true = alone (shifted costs m n) (nat_le n.last x)
  where
    alone : {C : Type 0} (z : Measure C (List Dir)) (b : Bool) → z ∷ cond b [] [] ≡ z ∷ []
    alone z true = refl
    alone z false = refl
behind_where costs m n x false = refl
