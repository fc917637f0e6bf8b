-- Costs that are counted piece by piece.
use Rattle.std.proofs.Common.{◌≡◌, ℕ, ◌≤◌, List, [], ◌∷◌, ◌++◌, length, Some, sym, ◌∙◌, ap, arith}
use Rattle.rf_base_document.specs.Render.{Piece, piece_end, column_after}
use Rattle.rf_base_document.proofs.Running.{column_after-snoc}
use Rattle.rf_base_cost.specs.Cost.{Costs, IsValue, IsColumn, Lawful, piece_cost, cost_after, cost_of, PieceIsCounted, PiecesAreCounted}
use Rattle.rf_base_cost.proofs.Sums.{piece_is_value, after_is_value, after_append}
use Rattle.rf_walk.specs.declared.extents.Extent.{Extent}
use Rattle.rf_walk.specs.Extents.{Covers}
use Rattle.rf_measure.specs.Tallies.{Counts}

-- nothing is counted
pub none_counted : {C : Type 0} (costs : Costs C) (cost : C) (extent : Extent) → cost ≡ costs.text 0 0 → Covers extent [] 0 → Counts costs cost extent [] 0
unfolding cost_after PiecesAreCounted
none_counted costs cost extent is covers = record { cost_is = is; counted = tt; covers = covers }

-- what is counted is a value
pub count_is_value : {C : Type 0} (costs : Costs C) (laws : Lawful costs) (cost : C) (extent : Extent) (ps : List Piece) (weight : ℕ) → Counts costs cost extent ps weight → IsValue costs cost
count_is_value costs laws cost extent ps weight counts =
    rw counts.cost_is (after_is_value costs laws (costs.text 0 0) ps (laws.text_is_value 0 0 (omega arith) (omega arith)) counts.counted)

pub counted-append : (ps qs : List Piece) → PiecesAreCounted ps → PiecesAreCounted qs → PiecesAreCounted (ps ++ qs)
unfolding PiecesAreCounted
counted-append [] qs h k = k
counted-append (p ∷ ps) qs h k = (h.0, counted-append ps qs h.1 k)

one_counted : (p : Piece) → PieceIsCounted p → PiecesAreCounted (p ∷ [])
unfolding PiecesAreCounted
one_counted p h = (h, tt)

after_one : {C : Type 0} (costs : Costs C) (so_far : C) (ps : List Piece) (p : Piece) →
    cost_after costs so_far (ps ++ p ∷ []) ≡ costs.add (cost_after costs so_far ps) (piece_cost costs p)
unfolding cost_after
after_one costs so_far ps p = after_append costs so_far ps (p ∷ [])

-- a piece more is counted
pub counts_more : {C : Type 0} (costs : Costs C) (cost added new_cost : C) (extent new : Extent) (ps : List Piece) (weight new_weight : ℕ) (p : Piece) →
    Counts costs cost extent ps weight → Covers new (ps ++ p ∷ []) new_weight → PieceIsCounted p → added ≡ piece_cost costs p → new_cost ≡ costs.add cost added →
    Counts costs new_cost new (ps ++ p ∷ []) new_weight
counts_more {C = C} costs cost added new_cost extent new ps weight new_weight p counts covers is is_added sum = record {
  cost_is = sum ∙ ap (λ (x : C). costs.add cost x) is_added ∙ ap (λ (x : C). costs.add x (piece_cost costs p)) counts.cost_is ∙ sym (after_one costs (costs.text 0 0) ps p);
  counted = counted-append ps (p ∷ []) counts.counted (one_counted p is);
  covers = covers;
}

-- a piece that is covered ends at a column for which the laws hold
pub ends_at_column : (new : Extent) (ps : List Piece) (weight : ℕ) (p : Piece) → Covers new (ps ++ p ∷ []) weight → IsColumn (piece_end (column_after 0 ps) p)
ends_at_column new ps weight p covers = omega (arith, covers.ends, covers.near, covers.short, column_after-snoc 0 ps p)

-- the cost of what is counted, where there is a piece
pub count_is_cost : {C : Type 0} (costs : Costs C) (laws : Lawful costs) (cost : C) (extent : Extent) (ps : List Piece) (weight : ℕ) → 1 ≤ length ps →
    Counts costs cost extent ps weight → cost_of costs ps ≡ Some cost
unfolding cost_after PiecesAreCounted
count_is_cost costs laws cost extent [] weight some counts = absurd (omega arith)
count_is_cost {C = C} costs laws cost extent (p ∷ ps) weight some counts =
    let none = laws.no_text 0 (omega arith) (piece_cost costs p) (piece_is_value costs laws p counts.counted.0) in
    ap (λ (x : C). Some x) (sym (counts.cost_is ∙ ap (λ (x : C). cost_after costs x ps) none.0))
