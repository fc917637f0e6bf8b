-- Layouts cost their plain sums.
use Rattle.std.proofs.Common.{◌≡◌, ℕ, ◌^◌, ◌<◌, ◌≤◌, List, [], ◌∷◌, length, Some, arith}
use Rattle.rf_base_document.specs.Render.{Piece}
use Rattle.rf_base_document.proofs.Running.{layout_pieces}
use Rattle.rf_base_cost.specs.Cost.{Costs, cost_of, PiecesAreCounted}
use Rattle.rf_base_cost.proofs.Layouts.{layout_is_counted}
use Rattle.rf_cost.specs.Factories.{plain_sum, SumsPlainly, LayoutSumsPlainly}

-- at least one piece, and at most 2^32
pieces_sum : (costs : Costs ℕ) → SumsPlainly costs → (ps : List Piece) → PiecesAreCounted ps → 1 ≤ length ps →
    length ps ≤ 2 ^ 32 →
    (cost_of costs ps ≡ Some (plain_sum costs ps)) × (plain_sum costs ps < 2 ^ 128)
pieces_sum costs sums [] p some few = absurd (omega arith)
pieces_sum costs sums (piece ∷ ps) p some few = sums piece ps p few

pub layout_sums : (costs : Costs ℕ) → SumsPlainly costs → LayoutSumsPlainly costs
layout_sums costs sums e flat whole d h short few =
    let found = layout_pieces e 0 0 flat whole h in
    pieces_sum costs sums whole.pieces (layout_is_counted e flat whole d h short) (omega (arith, found.0, found.1))
    (omega (arith, found.0))
