-- Sums of costs that don't reach the greatest number.
use Rattle.std.proofs.Common.{◌≡◌, ℕ, ◌+◌, ◌-◌, ◌*◌, ◌^◌, ◌<◌, ◌≤◌, List, [], ◌∷◌, length, ◌∙◌, ap, subst, Some, arith}
use Rattle.std.specs.Prelude.{min}
use Rattle.std.proofs.Math.Nat.{mul-le-mul}
use Rattle.rf_base_document.specs.Render.{Piece, Word, Break, Fee}
use Rattle.rf_base_cost.specs.Cost.{IsColumn, piece_cost, cost_after, PieceIsCounted, PiecesAreCounted}
use Rattle.rf_cost.specs.Factories.{overflow, numbers, square, squares_text, squares_newline, squares, linear_text, linear_newline, linear, lines, plain_sum, SumsPlainly}
use Rattle.rf_cost.specs.Numbers.{min-below}

-- no piece costs more than 2^95
record Small (text : ℕ → ℕ → ℕ) (newline : ℕ → ℕ) : Type 0 where
  text_small : (column len : ℕ) → IsColumn (column + len) → text column len ≤ 2 ^ 95
  newline_small : (indentation : ℕ) → IsColumn indentation → newline indentation ≤ 2 ^ 95

piece_small : (text : ℕ → ℕ → ℕ) (newline : ℕ → ℕ) → Small text newline → (piece : Piece) → PieceIsCounted piece →
    piece_cost (numbers text newline) piece ≤ 2 ^ 95
piece_small text newline small (Word column s len) p = small.text_small column len p
piece_small text newline small (Break indentation) p = small.newline_small indentation p
piece_small text newline small (Fee k) p = omega arith

after-sum : (text : ℕ → ℕ → ℕ) (newline : ℕ → ℕ) → Small text newline → (so_far : ℕ) (pieces : List Piece) →
    PiecesAreCounted pieces →
    so_far + length pieces * 2 ^ 95 < 2 ^ 128 →
    (cost_after (numbers text newline) so_far pieces ≡ so_far + plain_sum (numbers text newline) pieces)
    × (so_far + plain_sum (numbers text newline) pieces < 2 ^ 128)
unfolding cost_after plain_sum PiecesAreCounted
after-sum text newline small so_far [] p q = (omega arith, omega arith)
after-sum text newline small so_far (piece ∷ pieces) p q =
    let c : ℕ = piece_cost (numbers text newline) piece in
    let rest : ℕ = plain_sum (numbers text newline) pieces in
    let less : c ≤ 2 ^ 95 = piece_small text newline small piece p.0 in
    let stays : min (so_far + c) (2 ^ 128 - 1) ≡ so_far + c = min-below (so_far + c) (2 ^ 128) (omega arith) in
    let found = after-sum text newline small (so_far + c) pieces p.1 (omega arith) in
    let regroup : so_far + c + rest ≡ so_far + (c + rest) = omega arith in (
      ap (λ (n : ℕ). cost_after (numbers text newline) n pieces) stays ∙ (found.0 ∙ regroup),
      subst (λ (n : ℕ). n < 2 ^ 128) regroup found.1,
    )

sums_plainly : (text : ℕ → ℕ → ℕ) (newline : ℕ → ℕ) → Small text newline → SumsPlainly (numbers text newline)
unfolding plain_sum PiecesAreCounted
sums_plainly text newline small piece pieces p q =
    let less : piece_cost (numbers text newline) piece ≤ 2 ^ 95 = piece_small text newline small piece p.0 in
    let found = after-sum text newline small (piece_cost (numbers text newline) piece) pieces p.1 (omega arith) in
    (ap Some found.0, found.1)

square_small : (n : ℕ) → n ≤ 2 ^ 27 → n * n ≤ 2 ^ 54
square_small n p = mul-le-mul p p

squares_small : (width : ℕ) → Small (squares_text width) (squares_newline width)
unfolding squares_text squares_newline
squares_small width = record {
  text_small = λ column len p.
      let small : square (overflow width (column + len)) ≤ 2 ^ 54 =
      square_small (overflow width (column + len)) (omega arith) in
      omega (arith, small);
  newline_small = λ i p.
      let small : square (overflow width i) ≤ 2 ^ 54 = square_small (overflow width i) (omega arith) in
      omega (arith, small);
}

linear_small : (width : ℕ) → Small (linear_text width) (linear_newline width)
unfolding linear_text linear_newline
linear_small width = record { text_small = λ column len p. omega arith; newline_small = λ i p. omega arith }

lines_small : Small (λ column len. 0) (λ indentation. 1)
lines_small = record { text_small = λ column len p. omega arith; newline_small = λ i p. omega arith }

pub squares_sum_plainly : (width : ℕ) → SumsPlainly (squares width)
squares_sum_plainly width = sums_plainly (squares_text width) (squares_newline width) (squares_small width)

pub linear_sums_plainly : (width : ℕ) → SumsPlainly (linear width)
linear_sums_plainly width = sums_plainly (linear_text width) (linear_newline width) (linear_small width)

pub lines_sum_plainly : SumsPlainly lines
lines_sum_plainly = sums_plainly (λ column len. 0) (λ indentation. 1) lines_small
