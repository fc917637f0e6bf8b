-- Worked examples of sums, and of layouts under the three factories: a definition that changes its meaning fails here.
use Rattle.std.proofs.Common.{◌≡◌, ℕ, zero, suc, ◌+◌, ◌*◌, ◌-◌, ◌^◌, ◌<◌, ◌≤◌, min, Bool, true, false, List, [], ◌∷◌, length, map, replicate, codes, refl, ◌∙◌, ap, Some, None, arith}
use Rattle.std.specs.Prelude.{nat_le}
use Rattle.std.proofs.lemmas.List.{length-replicate}
use Rattle.rf_base_document.specs.declared.limits.TheConstants.{LAYOUT_LIMIT}
use Rattle.rf_base_document.specs.Document.{Doc, IsDocument}
use Rattle.rf_base_document.specs.Picks.{leaves_of, charges_of}
use Rattle.rf_base_document.specs.Render.{Piece, Word, Break, Fee, Laid, render, layout}
use Rattle.rf_base_cost.specs.Cost.{Costs, IsValue, piece_cost, cost_after, cost_of, PiecesAreCounted}
use Rattle.rf_cost.specs.declared.kinds.CostKind.TheVariants as kind
use Rattle.rf_cost.specs.Factories.{squares_text, squares_newline, squares, linear_text, linear_newline, linear, lines, EachNumberIsValue, plain_sum, SumsPlainly, LayoutSumsPlainly}
use Rattle.rf_cost.specs.Kinds.{cost_named}
use Rattle.rf_cost.specs.Reading.{line_ends, breaks_and_charges}

-- each piece costs at most 1, and sums stop at n
abbrev stopping : ℕ → Costs ℕ
stopping n = record {
  is_value = λ a. true;
  text = λ column len. 0;
  newline = λ indentation. 1;
  charge = λ k. min k 1;
  add = λ a b. min n (a + b);
  le = nat_le;
}

piece_at_most : (n : ℕ) (piece : Piece) → piece_cost (stopping n) piece ≤ 1
piece_at_most n (Word column s len) = omega arith
piece_at_most n (Break indentation) = omega arith
piece_at_most n (Fee k) = omega arith

sum_at_most : (n : ℕ) (pieces : List Piece) → plain_sum (stopping n) pieces ≤ length pieces
unfolding plain_sum
sum_at_most n [] = omega arith
sum_at_most n (piece ∷ pieces) = omega (arith, piece_at_most n piece, sum_at_most n pieces)

sum_up_to : (n so_far : ℕ) (pieces : List Piece) → so_far + length pieces ≤ n →
    cost_after (stopping n) so_far pieces ≡ so_far + plain_sum (stopping n) pieces
unfolding cost_after plain_sum
sum_up_to n so_far [] p = omega arith
sum_up_to n so_far (piece ∷ pieces) p =
    let small = piece_at_most n piece in
    let next : min n (so_far + piece_cost (stopping n) piece) ≡ so_far + piece_cost (stopping n) piece =
    omega (arith, small) in
    ap (λ (m : ℕ). cost_after (stopping n) m pieces) next
    ∙ sum_up_to n (so_far + piece_cost (stopping n) piece) pieces (omega (arith, small)) ∙ omega arith

-- where sums stop at 2^32, that many pieces cost their plain sum
stopping_sums_plainly : SumsPlainly (stopping (2 ^ 32))
unfolding plain_sum
stopping_sums_plainly piece pieces counted few =
    let small = piece_at_most (2 ^ 32) piece in (
      ap (λ (a : ℕ). Some a) (sum_up_to (2 ^ 32) (piece_cost (stopping (2 ^ 32)) piece) pieces (omega (arith, small))),
      omega (arith, small, sum_at_most (2 ^ 32) pieces),
    )

-- where they stop at one less, they don't
breaks_counted : (n : ℕ) → PiecesAreCounted (replicate n (Break 0))
unfolding PiecesAreCounted
breaks_counted zero = tt
breaks_counted (suc n) = (omega arith, breaks_counted n)

breaks_sum : (n k : ℕ) → plain_sum (stopping n) (replicate k (Break 0)) ≡ k
unfolding plain_sum
breaks_sum n zero = refl
breaks_sum n (suc k) = omega (arith, breaks_sum n k)

stays_below : (n so_far : ℕ) (pieces : List Piece) → so_far ≤ n → cost_after (stopping n) so_far pieces ≤ n
unfolding cost_after
stays_below n so_far [] p = p
stays_below n so_far (piece ∷ pieces) p =
    stays_below n (min n (so_far + piece_cost (stopping n) piece)) pieces (omega arith)

stops_before : (m : ℕ) →
    cost_of (stopping (m + 1)) (Break 0 ∷ replicate (m + 1) (Break 0))
    ≡ Some (plain_sum (stopping (m + 1)) (Break 0 ∷ replicate (m + 1) (Break 0))) → ⊥
unfolding plain_sum
stops_before m e =
    let is : cost_after (stopping (m + 1)) 1 (replicate (m + 1) (Break 0))
    ≡ 1 + plain_sum (stopping (m + 1)) (replicate (m + 1) (Break 0)) = cc in
    omega (arith, is, stays_below (m + 1) 1 (replicate (m + 1) (Break 0)) (omega arith), breaks_sum (m + 1) (m + 1))

one_less_does_not : (m : ℕ) → m + 2 ≡ 2 ^ 32 → SumsPlainly (stopping (m + 1)) → ⊥
unfolding PiecesAreCounted
one_less_does_not m is h =
    stops_before m (h (Break 0) (replicate (m + 1) (Break 0)) (omega arith, breaks_counted (m + 1))
    (omega (arith, is, length-replicate {A = Piece} (m + 1) (Break 0)))).0

-- of a line to column 8, one to column 4 with an indentation of 2, and an empty one, within 5 columns; and a charge of
-- 3
abbrev three_lines : List Piece
three_lines = Word 0 [] 6 ∷ Word 6 [] 2 ∷ Fee 3 ∷ Break 2 ∷ Word 2 [] 2 ∷ Break 0 ∷ []

ends_of_lines : line_ends 0 three_lines ≡ 8 ∷ 4 ∷ 0 ∷ []
unfolding line_ends
ends_of_lines = refl

two_breaks_and_three : breaks_and_charges three_lines ≡ 5
unfolding breaks_and_charges
two_breaks_and_three = refl

by_squares : plain_sum (squares 5) three_lines ≡ 9 * 2 ^ 40 + 5
unfolding plain_sum squares_text squares_newline
by_squares = refl

by_overflow : plain_sum (linear 5) three_lines ≡ 3 * 2 ^ 40 + 5
unfolding plain_sum linear_text linear_newline
by_overflow = refl

by_lines : plain_sum lines three_lines ≡ 5
unfolding plain_sum
by_lines = refl

-- an indentation past the width counts with its break
deep_break : (plain_sum (squares 5) (Break 7 ∷ []) ≡ 4 * 2 ^ 40 + 1)
    × (plain_sum (linear 5) (Break 7 ∷ []) ≡ 2 * 2 ^ 40 + 1)
unfolding plain_sum squares_newline linear_newline
deep_break = (refl, refl)

-- sums stop at the greatest number
greatest_sum : (squares 5).add (2 ^ 128 - 1) 1 ≡ 2 ^ 128 - 1
greatest_sum = refl

-- each number below 2^128 is a value, and no other
greatest_value : ((squares 5).is_value (2 ^ 128 - 1) ≡ true) × ((squares 5).is_value (2 ^ 128) ≡ false)
greatest_value = (refl, refl)

greatest_is_value : (costs : Costs ℕ) → EachNumberIsValue costs → IsValue costs (2 ^ 128 - 1)
greatest_is_value costs each = each (2 ^ 128 - 1) (omega arith)

-- the plain sum is that of a layout of as many characters as may be, and of 2^32 texts, newlines and charges
as_many_as_may_be : (costs : Costs ℕ) (e : Doc) (flat : Bool) (whole : Laid) → LayoutSumsPlainly costs → IsDocument e →
    render e 0 0 flat ≡ Some whole → length (layout whole.pieces) ≡ LAYOUT_LIMIT → leaves_of e + charges_of e ≡ 2 ^ 32 →
    (cost_of costs whole.pieces ≡ Some (plain_sum costs whole.pieces)) × (plain_sum costs whole.pieces < 2 ^ 128)
as_many_as_may_be costs e flat whole law document laid full many =
    law e flat whole document laid (omega (arith, full)) (omega (arith, many))

-- the factories by their names, and texts that name none
costs_named : map cost_named (codes "squares" ∷ codes "linear" ∷ codes "lines" ∷ codes "line" ∷ codes "Lines" ∷ [] ∷ [])
    ≡ Some kind.Squares ∷ Some kind.Linear ∷ Some kind.Lines ∷ None ∷ None ∷ None ∷ []
unfolding cost_named
costs_named = refl
