-- What stands behind a measure, node by node.
use Rattle.std.proofs.Common.{◌≡◌, ℕ, suc, ◌+◌, ◌≤◌, max, Bool, ◌&&◌, List, [], ◌∷◌, ◌++◌, length, append_assoc, append-nil, refl, sym, ◌∙◌, ap, ap₂, subst, inl, inr, Some, arith}
use Rattle.std.specs.Prelude.{nat_le, flat_map, slice_get}
use Rattle.std.proofs.lemmas.List.{map-append}
use Rattle.rf_base_document.specs.declared.directions.Dir.{Dir}
use Rattle.rf_base_document.specs.declared.directions.Dir.TheVariants.{Left, Right}
use Rattle.rf_base_document.specs.Document.{Doc, Text, Newline, Concat, Nest, Align, Reset, Choice, Only, Charge, IsDocument}
use Rattle.rf_base_cost.specs.declared.measures.Measure.{Measure}
use Rattle.rf_base_cost.specs.Cost.{Costs, IsValue, IsColumn, Lawful}
use Rattle.rf_base_cost.specs.Pareto.{pareto, IsMember, IsFrontier, EachIsValue, shifted, marked, all_shifted, all_marked, all_raised}
use Rattle.rf_base_cost.proofs.Members.{member-append}
use Rattle.rf_base_cost.proofs.Pareto.{frontier_is_pareto}
use Rattle.rf_base_optimum.specs.Plain.{leaf_measure, where_within, all_joined, plain, EachEndsBy}
use Rattle.rf_base_optimum.specs.Chosen.{chosen, choose}
use Rattle.rf_base_optimum.specs.MostPieces.{most_pieces}
use Rattle.rf_base_optimum.proofs.Choosing.{choose_first}
use Rattle.rf_base_optimum.proofs.Frontier.{plain_values, plain_frontier, plain_ends, shifted_values, raised_values, shifted_ends, frontier_short}
use Rattle.rf_base_optimum.proofs.Pruning.{map_member}
use Rattle.rf_base_cut.specs.Cut.{cut, after, turned, extended, CostsPieces, EachCostsPieces, HasRoom}
use Rattle.rf_base_cut.specs.Indifferent.{IsCutAt}
use Rattle.rf_base_cut.proofs.Cutting.{cut_values, cut_frontier, cut_mapped, cut_again, member_of_all, cut_ends, first_stays}
use Rattle.rf_base_cut.proofs.Pruned.{cut_both}
use Rattle.rf_base_cut.proofs.Behind.{plain_pieces, room_value, room_fewer, room_behind, charge_pieces, charge_room, more_pieces, shifted_pareto, shifted_frontier, joined_behind, behind_where}

-- so there is room behind a charge
pub charged_room : {C : Type 0} (costs : Costs C) (laws : Lawful costs) (n k : ℕ) (a : C) → k ≤ 1000 →
    HasRoom costs (n + 1) a → HasRoom costs n (costs.add a (costs.charge k))
charged_room costs laws n k a p h =
    room_behind costs laws 1 n a (costs.charge k) (room_fewer costs (1 + n) (n + 1) a (omega arith) h)
    (charge_pieces costs k p)

-- what stands behind a measure is a frontier
pub after_frontier : {C : Type 0} (costs : Costs C) (laws : Lawful costs) (w : ℕ) (d : Doc) (m : Measure C (List Dir))
    (i x : ℕ) → IsColumn w → IsDocument d →
    HasRoom costs (most_pieces d) m.cost → IsFrontier costs (after costs w d m i x)
unfolding after
after_frontier costs laws w d m i x p q h =
    cut_frontier costs x (all_shifted costs m (plain costs w d m.last i))
    (shifted_frontier costs (most_pieces d) m (plain costs w d m.last i) h
    (λ y l. plain_pieces costs laws w d m.last i y p q l) (plain_frontier costs laws w d m.last i p q))

pub after_values : {C : Type 0} (costs : Costs C) (laws : Lawful costs) (w : ℕ) (d : Doc) (m : Measure C (List Dir))
    (i x : ℕ) → IsColumn w → IsDocument d →
    IsValue costs m.cost → EachIsValue costs (after costs w d m i x)
unfolding after
after_values costs laws w d m i x p q v =
    cut_values costs x (all_shifted costs m (plain costs w d m.last i))
    (shifted_values costs laws m (plain costs w d m.last i) v (plain_values costs laws w d m.last i p q))

pub after_ends : {C : Type 0} (costs : Costs C) (w : ℕ) (d : Doc) (m : Measure C (List Dir)) (i x : ℕ) →
    EachEndsBy w (after costs w d m i x)
unfolding after
after_ends costs w d m i x =
    cut_ends w x (all_shifted costs m (plain costs w d m.last i))
    (shifted_ends costs w m (plain costs w d m.last i) (plain_ends costs w d m.last i))

pub after_short : {C : Type 0} (costs : Costs C) (laws : Lawful costs) (w : ℕ) (d : Doc) (m : Measure C (List Dir))
    (i x : ℕ) → IsColumn w → IsDocument d →
    HasRoom costs (most_pieces d) m.cost → length (after costs w d m i x) ≤ w + 1
after_short costs laws w d m i x p q h =
    frontier_short costs w (after costs w d m i x) (after_ends costs w d m i x)
    (after_frontier costs laws w d m i x p q h)

-- behind a measure with room for a core and more there is room for more behind what stands behind it
pub after_room : {C : Type 0} (costs : Costs C) (laws : Lawful costs) (w : ℕ) (d : Doc) (m : Measure C (List Dir))
    (i x n : ℕ) (k : Measure C (List Dir)) → IsColumn w → IsDocument d →
    HasRoom costs (most_pieces d + n) m.cost → IsMember k (after costs w d m i x) → HasRoom costs n k.cost
unfolding after
after_room {C = C} costs laws w d m i x n k p q h l =
    let found =
    map_member (shifted costs m) k (plain costs w d m.last i)
    (member_of_all x k (all_shifted costs m (plain costs w d m.last i)) l) in
    subst (λ (z : Measure C (List Dir)). HasRoom costs n z.cost) (sym found.2)
    (room_behind costs laws (most_pieces d) n m.cost found.0.cost h
    (plain_pieces costs laws w d m.last i found.0 p q found.1))

-- behind nothing a core has its frontier
nothing_shifted : {C : Type 0} (costs : Costs C) (laws : Lawful costs) (c : ℕ) (xs : List (Measure C (List Dir))) →
    IsColumn c → EachIsValue costs xs →
    all_shifted costs (leaf_measure c (costs.text c 0)) xs ≡ xs
unfolding EachIsValue
nothing_shifted costs laws c [] p v = refl
nothing_shifted {C = C} costs laws c (x ∷ xs) p v =
    ap₂ (λ (a : C) (zs : List (Measure C (List Dir))). let z : Measure C (List Dir) = record {
      last = x.last;
      cost = a;
      how = x.how;
    } in z ∷ zs)
    (laws.no_text c p x.cost v.0).0 (nothing_shifted costs laws c xs p v.1)

pub nothing_before : {C : Type 0} (costs : Costs C) (laws : Lawful costs) (w : ℕ) (d : Doc) (c i x : ℕ) → IsColumn w →
    IsColumn c → IsDocument d →
    after costs w d (leaf_measure c (costs.text c 0)) i x ≡ cut x (plain costs w d c i)
unfolding after
nothing_before costs laws w d c i x p q document =
    ap (cut x) (nothing_shifted costs laws c (plain costs w d c i) q (plain_values costs laws w d c i p document))

-- what stands behind a measure can be had from a frontier that was cut further left
pub after_row : {C : Type 0} (costs : Costs C) (w : ℕ) (d : Doc) (m : Measure C (List Dir)) (i x y : ℕ) → y ≤ x →
    after costs w d m i x ≡ all_shifted costs m (cut x (cut y (plain costs w d m.last i)))
unfolding after
after_row costs w d m i x y p =
    cut_mapped x (shifted costs m) (plain costs w d m.last i) (λ z. refl)
    ∙ ap (all_shifted costs m) (sym (cut_again x y (plain costs w d m.last i) p))

pub after_again : {C : Type 0} (costs : Costs C) (w : ℕ) (d : Doc) (m : Measure C (List Dir)) (i x y : ℕ) → y ≤ x →
    cut x (after costs w d m i y) ≡ after costs w d m i x
unfolding after
after_again costs w d m i x y p = cut_again x y (all_shifted costs m (plain costs w d m.last i)) p

-- one measure, where it is within
leaf_behind : {C : Type 0} (costs : Costs C) (m : Measure C (List Dir)) (b : Bool) (last x : ℕ) (cost : C) →
    cut x (all_shifted costs m (where_within b (leaf_measure last cost))) ≡ where_within b (extended costs m last cost)
leaf_behind {C = C} costs m b last x cost =
    behind_where costs m (leaf_measure last cost) x b
    ∙ ap (λ (h : List Dir). let z : Measure C (List Dir) = record {
      last = last;
      cost = costs.add m.cost cost;
      how = h;
    } in where_within b z) (append-nil m.how)

pub after_text : {C : Type 0} (costs : Costs C) (w : ℕ) (s : List ℕ) (len : ℕ) (m : Measure C (List Dir)) (i x : ℕ) →
    after costs w (Text s len) m i x
    ≡ where_within (nat_le (m.last + len) w) (extended costs m (m.last + len) (costs.text m.last len))
unfolding plain after
after_text costs w s len m i x = leaf_behind costs m (nat_le (m.last + len) w) (m.last + len) x (costs.text m.last len)

pub after_newline : {C : Type 0} (costs : Costs C) (w : ℕ) (m : Measure C (List Dir)) (i x : ℕ) →
    after costs w Newline m i x ≡ where_within (nat_le m.last w && nat_le i w) (extended costs m i (costs.newline i))
unfolding plain after
after_newline costs w m i x = leaf_behind costs m (nat_le m.last w && nat_le i w) i x (costs.newline i)

-- parts at another indentation
pub after_nest : {C : Type 0} (costs : Costs C) (w n : ℕ) (a : Doc) (m : Measure C (List Dir)) (i x : ℕ) →
    after costs w (Nest n a) m i x ≡ after costs w a m (i + n) x
unfolding plain after
after_nest costs w n a m i x = refl

pub after_align : {C : Type 0} (costs : Costs C) (w : ℕ) (a : Doc) (m : Measure C (List Dir)) (i x : ℕ) →
    after costs w (Align a) m i x ≡ after costs w a m m.last x
unfolding plain after
after_align costs w a m i x = refl

pub after_reset : {C : Type 0} (costs : Costs C) (w : ℕ) (a : Doc) (m : Measure C (List Dir)) (i x : ℕ) →
    after costs w (Reset a) m i x ≡ after costs w a m 0 x
unfolding plain after
after_reset costs w a m i x = refl

-- marked measures behind a measure
turned_behind : {C : Type 0} (costs : Costs C) (dir : Dir) (m : Measure C (List Dir))
    (xs : List (Measure C (List Dir))) →
    all_shifted costs m (all_marked dir xs) ≡ all_shifted costs (turned dir m) xs
turned_behind costs dir m [] = refl
turned_behind {C = C} costs dir m (x ∷ xs) =
    ap₂ (λ (h : List Dir) (zs : List (Measure C (List Dir))). let z : Measure C (List Dir) = record {
      last = x.last;
      cost = costs.add m.cost x.cost;
      how = h;
    } in z ∷ zs)
    (sym (append_assoc m.how (dir ∷ []) x.how)) (turned_behind costs dir m xs)

pub after_only : {C : Type 0} (costs : Costs C) (w : ℕ) (dir : Dir) (a : Doc) (m : Measure C (List Dir)) (i x : ℕ) →
    after costs w (Only dir a) m i x ≡ after costs w a (turned dir m) i x
unfolding plain after
after_only costs w dir a m i x = ap (cut x) (turned_behind costs dir m (plain costs w a m.last i))

-- raised measures behind a measure
extended_behind : {C : Type 0} (costs : Costs C) (laws : Lawful costs) (m : Measure C (List Dir)) (by : C)
    (xs : List (Measure C (List Dir))) → IsValue costs m.cost → IsValue costs by →
    EachIsValue costs xs →
    all_shifted costs m (all_raised costs by xs) ≡ all_shifted costs (extended costs m m.last by) xs
unfolding EachIsValue
extended_behind costs laws m by [] u v t = refl
extended_behind {C = C} costs laws m by (x ∷ xs) u v t =
    ap₂ (λ (a : C) (zs : List (Measure C (List Dir))). let z : Measure C (List Dir) = record {
      last = x.last;
      cost = a;
      how = m.how ++ x.how;
    } in z ∷ zs)
    (sym (laws.associative m.cost by x.cost u v t.0)) (extended_behind costs laws m by xs u v t.1)

-- a charge's frontier is raised, where there is room for its cost
pub raised_frontier : {C : Type 0} (costs : Costs C) (n : ℕ) (by : C) (xs : List (Measure C (List Dir))) →
    HasRoom costs n by → EachCostsPieces costs n xs →
    IsFrontier costs xs → IsFrontier costs (all_raised costs by xs)
raised_frontier costs n by xs h f g = shifted_frontier costs n (leaf_measure 0 by) xs h f g

pub after_charge : {C : Type 0} (costs : Costs C) (laws : Lawful costs) (w k : ℕ) (a : Doc) (m : Measure C (List Dir))
    (i x : ℕ) → IsColumn w → IsDocument (Charge k a) →
    HasRoom costs (most_pieces (Charge k a)) m.cost →
    after costs w (Charge k a) m i x ≡ after costs w a (extended costs m m.last (costs.charge k)) i x
unfolding plain IsDocument most_pieces after
after_charge {C = C} costs laws w k a m i x p d h =
    let of_a : List (Measure C (List Dir)) = plain costs w a m.last i in
    let by : C = costs.charge k in
    let by_value = laws.charge_is_value k d.0 in
    let values = plain_values costs laws w a m.last i p d.1 in
    let room : HasRoom costs (most_pieces a) by = charge_room costs k (most_pieces a) m.cost d.0 h in
    let is_frontier =
    raised_frontier costs (most_pieces a) by of_a room (λ y l. plain_pieces costs laws w a m.last i y p d.1 l)
    (plain_frontier costs laws w a m.last i p d.1) in
    ap (λ (z : List (Measure C (List Dir))). cut x (all_shifted costs m z))
    (frontier_is_pareto costs laws (all_raised costs by of_a)
    (raised_values costs laws by of_a by_value values) is_frontier)
    ∙ ap (cut x) (extended_behind costs laws m by of_a
    (room_value costs laws (suc (most_pieces a)) m.cost h) by_value values)

-- two sides
sides_pieces : {C : Type 0} (costs : Costs C) (n : ℕ) (xs ys : List (Measure C (List Dir))) →
    EachCostsPieces costs n xs → EachCostsPieces costs n ys →
    EachCostsPieces costs n (all_marked Left xs ++ all_marked Right ys)
sides_pieces {C = C} costs n xs ys f g z l =
    elim (member-append z (all_marked Left xs) (all_marked Right ys) l) [
      | inl k ↦
          let found = map_member (marked Left) z xs k in
          subst (λ (m : Measure C (List Dir)). CostsPieces costs n m.cost) (sym found.2) (f found.0 found.1)
      | inr k ↦
          let found = map_member (marked Right) z ys k in
          subst (λ (m : Measure C (List Dir)). CostsPieces costs n m.cost) (sym found.2) (g found.0 found.1)
    ]

pub after_choice : {C : Type 0} (costs : Costs C) (laws : Lawful costs) (w : ℕ) (a b : Doc) (m : Measure C (List Dir))
    (i x : ℕ) → IsColumn w → IsDocument (Choice a b) →
    HasRoom costs (most_pieces (Choice a b)) m.cost →
    after costs w (Choice a b) m i x
    ≡ cut x (pareto costs (after costs w a (turned Left m) i x ++ after costs w b (turned Right m) i x))
unfolding plain IsDocument most_pieces after
after_choice {C = C} costs laws w a b m i x p d h =
    let of_a : List (Measure C (List Dir)) = plain costs w a m.last i in
    let of_b : List (Measure C (List Dir)) = plain costs w b m.last i in
    let n : ℕ = max (most_pieces a) (most_pieces b) in
    let a_pieces = plain_pieces costs laws w a m.last i in
    let b_pieces = plain_pieces costs laws w b m.last i in
    let a_room = room_fewer costs (most_pieces a) n m.cost (omega arith) h in
    let b_room = room_fewer costs (most_pieces b) n m.cost (omega arith) h in
    let v = room_value costs laws n m.cost h in
    ap (cut x) (shifted_pareto costs laws n m (all_marked Left of_a ++ all_marked Right of_b) h
    (sides_pieces costs n of_a of_b
    (λ y l. more_pieces costs (most_pieces a) n y.cost (omega arith) (a_pieces y p d.0 l))
    (λ y l. more_pieces costs (most_pieces b) n y.cost (omega arith) (b_pieces y p d.1 l))))
    ∙ ap (λ (z : List (Measure C (List Dir))). cut x (pareto costs z))
    (map-append (shifted costs m) (all_marked Left of_a) (all_marked Right of_b)
    ∙ ap₂ (λ (ys zs : List (Measure C (List Dir))). ys ++ zs) (turned_behind costs Left m of_a)
    (turned_behind costs Right m of_b))
    ∙ cut_both costs laws x (all_shifted costs (turned Left m) of_a) (all_shifted costs (turned Right m) of_b)
    (shifted_values costs laws (turned Left m) of_a v (plain_values costs laws w a m.last i p d.0))
    (shifted_values costs laws (turned Right m) of_b v (plain_values costs laws w b m.last i p d.1))
    (shifted_frontier costs (most_pieces a) (turned Left m) of_a a_room (λ y l. a_pieces y p d.0 l)
    (plain_frontier costs laws w a m.last i p d.0))
    (shifted_frontier costs (most_pieces b) (turned Right m) of_b b_room (λ y l. b_pieces y p d.1 l)
    (plain_frontier costs laws w b m.last i p d.1))

-- two parts, where the first part's frontier can be cut at y
pub after_cut_at : {C : Type 0} (costs : Costs C) (laws : Lawful costs) (w : ℕ) (a b : Doc) (m : Measure C (List Dir))
    (i x y : ℕ) → IsColumn w → IsDocument (Concat a b) →
    HasRoom costs (most_pieces (Concat a b)) m.cost →
    cut x (pareto costs (all_joined costs (plain costs w a m.last i) (λ last. plain costs w b last i)))
    ≡ cut x (pareto costs (all_joined costs (cut y (plain costs w a m.last i)) (λ last. plain costs w b last i))) →
    IsCutAt costs w a b m i x y
unfolding plain IsDocument most_pieces after
after_cut_at {C = C} costs laws w a b m i x y p d h e =
    let of_a : List (Measure C (List Dir)) = plain costs w a m.last i in
    let joined_up : List (Measure C (List Dir)) → List (Measure C (List Dir)) =
    λ z. pareto costs (all_joined costs z (λ last. plain costs w b last i)) in
    cut_mapped x (shifted costs m) (joined_up of_a) (λ z. refl)
    ∙ ap (all_shifted costs m) e
    ∙ sym (cut_mapped x (shifted costs m) (joined_up (cut y of_a)) (λ z. refl))
    ∙ joined_behind costs laws w (most_pieces a) b m i x (cut y of_a) p d.1 h
    (λ z l. plain_pieces costs laws w a m.last i z p d.0 (member_of_all y z of_a l))
    ∙ ap (λ (z : List (Measure C (List Dir))). cut x
    (pareto costs (flat_map (λ (k : Measure C (List Dir)). after costs w b k i x) z))) (sym
    (cut_mapped y (shifted costs m) of_a (λ z. refl)))

-- the first measure behind nothing is chosen
chosen_of_first : {C : Type 0} (costs : Costs C) (w : ℕ) (d : Doc) (c i : ℕ) (m : Measure C (List Dir))
    (xs : List (Measure C (List Dir))) → plain costs w d c i ≡ xs →
    slice_get xs 0 ≡ Some m → choose costs w d c i ≡ chosen m.how m.last
chosen_of_first costs w d c i m [] e f = cc
chosen_of_first {C = C} costs w d c i m (n ∷ xs) e f =
    let same : n ≡ m = cc in
    choose_first costs w d c i n xs e ∙ ap (λ (z : Measure C (List Dir)). chosen z.how z.last) same

pub first_chosen : {C : Type 0} (costs : Costs C) (laws : Lawful costs) (w : ℕ) (d : Doc) (c i x : ℕ)
    (m : Measure C (List Dir)) → IsColumn w → IsColumn c → IsDocument d →
    slice_get (after costs w d (leaf_measure c (costs.text c 0)) i x) 0 ≡ Some m →
    choose costs w d c i ≡ chosen m.how m.last
unfolding after
first_chosen {C = C} costs laws w d c i x m p q document e =
    let first : slice_get (plain costs w d c i) 0
    ≡ slice_get (after costs w d (leaf_measure c (costs.text c 0)) i x) 0 =
    sym (first_stays x (plain costs w d c i))
    ∙ ap (λ (z : List (Measure C (List Dir))). slice_get z 0)
    (sym (nothing_before costs laws w d c i x p q document)) in
    chosen_of_first costs w d c i m (plain costs w d c i) refl (first ∙ e)
