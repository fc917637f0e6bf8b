-- Costs of layouts, added in order.
use Rattle.std.proofs.Common.{◌≡◌, List, [], ◌∷◌, ◌++◌, refl, ◌∙◌, ap, subst, Some, arith}
use Rattle.rf_base_document.specs.Render.{Piece, Word, Break, Fee}
use Rattle.rf_base_cost.specs.Cost.{Costs, IsValue, Lawful, piece_cost, cost_after, cost_of, PieceIsCounted, PiecesAreCounted}

pub piece_is_value : {C : Type 0} (costs : Costs C) (laws : Lawful costs) (piece : Piece) → PieceIsCounted piece →
    IsValue costs (piece_cost costs piece)
piece_is_value costs laws (Word column s len) p = laws.text_is_value column len (omega arith) (omega arith)
piece_is_value costs laws (Break indentation) p = laws.newline_is_value indentation p
piece_is_value costs laws (Fee k) p = laws.charge_is_value k p

pub after_is_value : {C : Type 0} (costs : Costs C) (laws : Lawful costs) (so_far : C) (pieces : List Piece) →
    IsValue costs so_far → PiecesAreCounted pieces →
    IsValue costs (cost_after costs so_far pieces)
unfolding cost_after PiecesAreCounted
after_is_value costs laws so_far [] v p = v
after_is_value costs laws so_far (piece ∷ pieces) v p =
    after_is_value costs laws (costs.add so_far (piece_cost costs piece)) pieces
    (laws.add_is_value so_far (piece_cost costs piece) v (piece_is_value costs laws piece p.0)) p.1

-- a cost before the first piece can be added at the end
pub after_added : {C : Type 0} (costs : Costs C) (laws : Lawful costs) (a b : C) (pieces : List Piece) →
    IsValue costs a → IsValue costs b → PiecesAreCounted pieces →
    cost_after costs (costs.add a b) pieces ≡ costs.add a (cost_after costs b pieces)
unfolding cost_after PiecesAreCounted
after_added costs laws a b [] u v p = refl
after_added {C = C} costs laws a b (piece ∷ pieces) u v p =
    let w = piece_is_value costs laws piece p.0 in
    let c : C = piece_cost costs piece in
    ap (λ (x : C). cost_after costs x pieces) (laws.associative a b c u v w)
    ∙ after_added costs laws a (costs.add b c) pieces u (laws.add_is_value b c v w) p.1

pub after_append : {C : Type 0} (costs : Costs C) (so_far : C) (pieces more : List Piece) →
    cost_after costs so_far (pieces ++ more) ≡ cost_after costs (cost_after costs so_far pieces) more
unfolding cost_after
after_append costs so_far [] more = refl
after_append costs so_far (piece ∷ pieces) more =
    after_append costs (costs.add so_far (piece_cost costs piece)) pieces more

pub cost_is_value : {C : Type 0} (costs : Costs C) (pieces : List Piece) (cost : C) → Lawful costs →
    PiecesAreCounted pieces → cost_of costs pieces ≡ Some cost → IsValue costs cost
unfolding PiecesAreCounted
cost_is_value costs [] cost laws p e = cc
cost_is_value {C = C} costs (piece ∷ pieces) cost laws p e =
    let is : cost_after costs (piece_cost costs piece) pieces ≡ cost = cc in
    subst (λ (x : C). IsValue costs x) is (after_is_value costs laws (piece_cost costs piece) pieces
    (piece_is_value costs laws piece p.0) p.1)

pub costs_join : {C : Type 0} (costs : Costs C) (pieces more : List Piece) (a b : C) → Lawful costs →
    PiecesAreCounted pieces → PiecesAreCounted more →
    cost_of costs pieces ≡ Some a → cost_of costs more ≡ Some b → cost_of costs (pieces ++ more) ≡ Some (costs.add a b)
unfolding PiecesAreCounted cost_after
costs_join {C = C} costs (piece ∷ pieces) (next ∷ more) a b laws p q d e =
    let first : cost_after costs (piece_cost costs piece) pieces ≡ a = cc in
    let second : cost_after costs (piece_cost costs next) more ≡ b = cc in
    let u = after_is_value costs laws (piece_cost costs piece) pieces (piece_is_value costs laws piece p.0) p.1 in
    let v = piece_is_value costs laws next q.0 in
    let whole : cost_after costs (piece_cost costs piece) (pieces ++ (next ∷ more))
    ≡ cost_after costs (cost_after costs (piece_cost costs piece) pieces) (next ∷ more) =
    after_append costs (piece_cost costs piece) pieces (next ∷ more) in
    let apart =
    after_added costs laws (cost_after costs (piece_cost costs piece) pieces) (piece_cost costs next) more u v q.1 in
    cc
costs_join costs _ _ a b laws p q d e = cc
