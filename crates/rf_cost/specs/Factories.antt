-- How the three factories count: in numbers below 2^128, of which sums stop at the greatest.
use Rattle.std.specs.Prelude.{◌≡◌, ℕ, ◌+◌, ◌-◌, ◌*◌, ◌^◌, ◌<◌, ◌≤◌, min, nat_lt, nat_le, Bool, List, [], ◌∷◌, length, Some}
use Rattle.rf_base_document.specs.declared.limits.TheConstants.{LAYOUT_LIMIT}
use Rattle.rf_base_document.specs.Document.{Doc, IsDocument}
use Rattle.rf_base_document.specs.Render.{Piece, Laid, render, layout}
use Rattle.rf_base_document.specs.Picks.{leaves_of, charges_of}
use Rattle.rf_base_cost.specs.Cost.{Costs, IsValue, piece_cost, cost_of, PiecesAreCounted}

-- how far column x is behind the page width
abbrev pub overflow : ℕ → ℕ → ℕ
overflow width x = x - width

-- costs that are numbers: compared as numbers, added up to the greatest, and of a charge of k the number k
abbrev pub numbers : (ℕ → ℕ → ℕ) → (ℕ → ℕ) → Costs ℕ
numbers text newline = record {
  is_value = λ a. nat_lt a (2 ^ 128);
  text = text;
  newline = newline;
  charge = λ k. k;
  add = λ a b. min (a + b) (2 ^ 128 - 1);
  le = nat_le;
}

-- the square of a number
abbrev pub square : ℕ → ℕ
square n = n * n

-- what a text adds to its line's squared overflow, times 2^40
unfoldable pub squares_text : ℕ → ℕ → ℕ → ℕ
squares_text width column len = (square (overflow width (column + len)) - square (overflow width column)) * 2 ^ 40

-- the squared overflow of the indentation, times 2^40, and 1 for the break
unfoldable pub squares_newline : ℕ → ℕ → ℕ
squares_newline width indentation = square (overflow width indentation) * 2 ^ 40 + 1

-- how `Squares` of this page width counts
abbrev pub squares : ℕ → Costs ℕ
squares width = numbers (squares_text width) (squares_newline width)

-- what a text adds to its line's overflow, times 2^40
unfoldable pub linear_text : ℕ → ℕ → ℕ → ℕ
linear_text width column len = (overflow width (column + len) - overflow width column) * 2 ^ 40

-- the overflow of the indentation, times 2^40, and 1 for the break
unfoldable pub linear_newline : ℕ → ℕ → ℕ
linear_newline width indentation = overflow width indentation * 2 ^ 40 + 1

-- how `Linear` of this page width counts
abbrev pub linear : ℕ → Costs ℕ
linear width = numbers (linear_text width) (linear_newline width)

-- how `Lines` counts: 1 for each break, and nothing for texts
abbrev pub lines : Costs ℕ
lines = numbers (λ column len. 0) (λ indentation. 1)

-- each number below 2^128 is a value
abbrev pub EachNumberIsValue : Costs ℕ → Type 0
EachNumberIsValue costs = (a : ℕ) → a < 2 ^ 128 → IsValue costs a

-- the costs of the pieces, added without a greatest number
unfoldable pub plain_sum : Costs ℕ → List Piece → ℕ
plain_sum costs [] = 0
plain_sum costs (piece ∷ pieces) = piece_cost costs piece + plain_sum costs pieces

-- at most 2^32 pieces, of columns for which the laws hold, cost their plain sum, which is below 2^128
abbrev pub SumsPlainly : Costs ℕ → Type 0
SumsPlainly costs =
    (piece : Piece) (pieces : List Piece) → PiecesAreCounted (piece ∷ pieces) → length (piece ∷ pieces) ≤ 2 ^ 32 →
    (cost_of costs (piece ∷ pieces) ≡ Some (plain_sum costs (piece ∷ pieces)))
    × (plain_sum costs (piece ∷ pieces) < 2 ^ 128)

-- a document's layout at column 0 and indentation 0 costs its plain sum, where it has at most 67,108,864 characters and
-- the document at most 2^32 texts, newlines and charges
abbrev pub LayoutSumsPlainly : Costs ℕ → Type 0
LayoutSumsPlainly costs =
    (e : Doc) (flat : Bool) (whole : Laid) → IsDocument e → render e 0 0 flat ≡ Some whole →
    length (layout whole.pieces) ≤ LAYOUT_LIMIT → leaves_of e + charges_of e ≤ 2 ^ 32 →
    (cost_of costs whole.pieces ≡ Some (plain_sum costs whole.pieces)) × (plain_sum costs whole.pieces < 2 ^ 128)
