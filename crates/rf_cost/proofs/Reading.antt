-- What the sums of costs say of a layout.
use Rattle.std.proofs.Common.{◌≡◌, ℕ, ◌+◌, ◌-◌, ◌*◌, ◌^◌, ◌≤◌, List, [], ◌∷◌, sum_by, refl, ◌∙◌, ap, arith}
use Rattle.std.proofs.lemmas.List.Sums.{sum_by-cons}
use Rattle.rf_base_document.specs.Render.{Piece, Word, Break, Fee, WordsRun}
use Rattle.rf_cost.specs.Factories.{overflow, numbers, square, squares_text, squares_newline, squares, linear_text, linear_newline, linear, lines, plain_sum}
use Rattle.rf_cost.specs.Numbers.{square-grows}
use Rattle.rf_cost.specs.Reading.{line_ends, breaks_and_charges}

-- a text adds what its line's end weighs more than its beginning, and a break weighs its indentation, and 1
record Weighs (weight : ℕ → ℕ) (text : ℕ → ℕ → ℕ) (newline : ℕ → ℕ) : Type 0 where
  grows : (a b : ℕ) → a ≤ b → weight a ≤ weight b
  text_is : (column len : ℕ) → text column len ≡ (weight (column + len) - weight column) * 2 ^ 40
  newline_is : (indentation : ℕ) → newline indentation ≡ weight indentation * 2 ^ 40 + 1

sum_from : (weight : ℕ → ℕ) (text : ℕ → ℕ → ℕ) (newline : ℕ → ℕ) → Weighs weight text newline →
    (column : ℕ) (pieces : List Piece) → WordsRun column pieces →
    plain_sum (numbers text newline) pieces + weight column * 2 ^ 40
    ≡ sum_by weight (line_ends column pieces) * 2 ^ 40 + breaks_and_charges pieces
unfolding WordsRun line_ends breaks_and_charges plain_sum
sum_from weight text newline w column [] r = omega arith
sum_from weight text newline w column (Word at s len ∷ pieces) r =
    let rest = sum_from weight text newline w (column + len) pieces r.1 in
    let here : text at len ≡ (weight (column + len) - weight column) * 2 ^ 40 =
    ap (λ (n : ℕ). text n len) r.0 ∙ w.text_is column len in
    let more : weight column ≤ weight (column + len) = w.grows column (column + len) (omega arith) in
    omega (arith, rest, here, more)
sum_from weight text newline w column (Break indentation ∷ pieces) r =
    let rest : plain_sum (numbers text newline) pieces + weight indentation * 2 ^ 40
    ≡ sum_by weight (line_ends indentation pieces) * 2 ^ 40 + breaks_and_charges pieces =
    sum_from weight text newline w indentation pieces r in
    let here : newline indentation ≡ weight indentation * 2 ^ 40 + 1 = w.newline_is indentation in
    let lines : sum_by weight (column ∷ line_ends indentation pieces)
    ≡ weight column + sum_by weight (line_ends indentation pieces) = sum_by-cons weight column
    (line_ends indentation pieces) in
    omega (arith, rest, here, lines)
sum_from weight text newline w column (Fee k ∷ pieces) r =
    let rest = sum_from weight text newline w column pieces r in
    omega (arith, rest)

squares_weigh : (width : ℕ) → Weighs (λ end. square (overflow width end)) (squares_text width) (squares_newline width)
unfolding squares_text squares_newline
squares_weigh width = record {
  grows = λ a b p. square-grows (overflow width a) (overflow width b) (omega arith);
  text_is = λ column len. refl;
  newline_is = λ indentation. refl;
}

linear_weighs : (width : ℕ) → Weighs (λ end. overflow width end) (linear_text width) (linear_newline width)
unfolding linear_text linear_newline
linear_weighs width = record {
  grows = λ a b p. omega arith;
  text_is = λ column len. refl;
  newline_is = λ indentation. refl;
}

pub squares_say : (width : ℕ) (pieces : List Piece) → WordsRun 0 pieces →
    plain_sum (squares width) pieces
    ≡ sum_by (λ end. square (overflow width end)) (line_ends 0 pieces) * 2 ^ 40 + breaks_and_charges pieces
squares_say width pieces r =
    let whole =
    sum_from (λ end. square (overflow width end)) (squares_text width) (squares_newline width)
    (squares_weigh width) 0 pieces r in
    let start : overflow width 0 ≡ 0 = omega arith in
    let none : square (overflow width 0) ≡ 0 = ap (λ (n : ℕ). n * n) start in
    omega (arith, whole, none)

pub linear_says : (width : ℕ) (pieces : List Piece) → WordsRun 0 pieces →
    plain_sum (linear width) pieces
    ≡ sum_by (λ end. overflow width end) (line_ends 0 pieces) * 2 ^ 40 + breaks_and_charges pieces
linear_says width pieces r =
    let whole =
    sum_from (λ end. overflow width end) (linear_text width) (linear_newline width) (linear_weighs width) 0 pieces r in
    omega (arith, whole)

pub lines_say : (pieces : List Piece) → plain_sum lines pieces ≡ breaks_and_charges pieces
unfolding breaks_and_charges plain_sum
lines_say [] = refl
lines_say (Word at s len ∷ pieces) = omega (arith, lines_say pieces)
lines_say (Break indentation ∷ pieces) = omega (arith, lines_say pieces)
lines_say (Fee k ∷ pieces) = omega (arith, lines_say pieces)
