-- What costs say of a layout: where its lines end, how many breaks it has, and what it is charged.
use Rattle.std.specs.Prelude.{◌≡◌, ℕ, ◌+◌, ◌*◌, ◌^◌, List, [], ◌∷◌, sum_by}
use Rattle.rf_base_document.specs.Render.{Piece, Word, Break, Fee, WordsRun}
use Rattle.rf_cost.specs.Factories.{overflow, square, squares, linear, lines, plain_sum}

-- the columns at which the lines end, where the first has come to this column
unfoldable pub line_ends : ℕ → List Piece → List ℕ
line_ends column [] = column ∷ []
line_ends column (Word at s len ∷ pieces) = line_ends (column + len) pieces
line_ends column (Break indentation ∷ pieces) = column ∷ line_ends indentation pieces
line_ends column (Fee k ∷ pieces) = line_ends column pieces

-- the number of breaks, and the sum of the charges
unfoldable pub breaks_and_charges : List Piece → ℕ
breaks_and_charges [] = 0
breaks_and_charges (Word at s len ∷ pieces) = breaks_and_charges pieces
breaks_and_charges (Break indentation ∷ pieces) = 1 + breaks_and_charges pieces
breaks_and_charges (Fee k ∷ pieces) = k + breaks_and_charges pieces

-- under `Squares` a layout costs the squared overflow of each line, times 2^40, and its breaks and charges
abbrev pub SquaresSay : Type 0
SquaresSay =
    (width : ℕ) (pieces : List Piece) → WordsRun 0 pieces →
    plain_sum (squares width) pieces
    ≡ sum_by (λ end. square (overflow width end)) (line_ends 0 pieces) * 2 ^ 40 + breaks_and_charges pieces

-- under `Linear` a layout costs the overflow of each line, times 2^40, and its breaks and charges
abbrev pub LinearSays : Type 0
LinearSays =
    (width : ℕ) (pieces : List Piece) → WordsRun 0 pieces →
    plain_sum (linear width) pieces
    ≡ sum_by (λ end. overflow width end) (line_ends 0 pieces) * 2 ^ 40 + breaks_and_charges pieces

-- under `Lines` a layout costs its breaks and charges
abbrev pub LinesSay : Type 0
LinesSay = (pieces : List Piece) → plain_sum lines pieces ≡ breaks_and_charges pieces
