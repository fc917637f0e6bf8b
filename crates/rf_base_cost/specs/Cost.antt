-- Costs: how a factory counts what a layout costs, and which laws it keeps.
-- The laws L1 to L7 are those of a lawful cost factory in "A Pretty Expressive Printer" (OOPSLA 2023); L8 is of
-- charges.
use Rattle.std.specs.Prelude.{◌≡◌, ℕ, ◌+◌, ◌^◌, ◌≤◌, ◌⊎◌, Bool, IsTrue, List, [], ◌∷◌, Option, None, Some, ⊤}
use Rattle.rf_base_document.specs.Render.{Piece, Word, Break, Fee}

-- how costs are counted: which costs are values, what a text costs by its column and length, a break by its
-- indentation and a charge by its number, how costs are added, and whether one is at most another
pub record Costs (C : Type 0) : Type 0 where
  pub is_value : C → Bool
  pub text : ℕ → ℕ → C
  pub newline : ℕ → C
  pub charge : ℕ → C
  pub add : C → C → C
  pub le : C → C → Bool

-- the cost is a value
abbrev pub IsValue : {C : Type 0} → Costs C → C → Type 0
IsValue costs a = IsTrue (costs.is_value a)

-- the first cost is at most the second
abbrev pub AtMost : {C : Type 0} → Costs C → C → C → Type 0
AtMost costs a b = IsTrue (costs.le a b)

-- the cost can be left out of each sum with a value
abbrev pub IsNeutral : {C : Type 0} → Costs C → C → Type 0
IsNeutral {C} costs none = (a : C) → IsValue costs a → (costs.add none a ≡ a) × (costs.add a none ≡ a)

-- a column, a length or an indentation for which the laws hold
abbrev pub IsColumn : ℕ → Type 0
IsColumn n = n ≤ 2 ^ 27

-- the greatest number of a charge
abbrev pub IsCharge : ℕ → Type 0
IsCharge k = k ≤ 1000

-- all answers are values, and the laws hold for all values
pub record Lawful {C : Type 0} (costs : Costs C) : Type 0 where
  pub text_is_value : (column len : ℕ) → IsColumn column → IsColumn len → IsValue costs (costs.text column len)
  pub newline_is_value : (indentation : ℕ) → IsColumn indentation → IsValue costs (costs.newline indentation)
  pub charge_is_value : (k : ℕ) → IsCharge k → IsValue costs (costs.charge k)
  pub add_is_value : (a b : C) → IsValue costs a → IsValue costs b → IsValue costs (costs.add a b)
  -- L1: the order is total, transitive and antisymmetric
  pub total : (a b : C) → IsValue costs a → IsValue costs b → AtMost costs a b ⊎ AtMost costs b a
  pub transitive : (a b c : C) → IsValue costs a → IsValue costs b → IsValue costs c → AtMost costs a b →
      AtMost costs b c → AtMost costs a c
  pub antisymmetric : (a b : C) → IsValue costs a → IsValue costs b → AtMost costs a b → AtMost costs b a → a ≡ b
  -- L2: addition is associative
  pub associative : (a b c : C) → IsValue costs a → IsValue costs b → IsValue costs c →
      costs.add (costs.add a b) c ≡ costs.add a (costs.add b c)
  -- L3: addition is monotone in both places
  pub monotone : (a b c d : C) → IsValue costs a → IsValue costs b → IsValue costs c → IsValue costs d →
      AtMost costs a b → AtMost costs c d → AtMost costs (costs.add a c) (costs.add b d)
  -- L4: a text of no length is neutral
  pub no_text : (column : ℕ) → IsColumn column → IsNeutral costs (costs.text column 0)
  -- L5: a text costs what its two parts cost, one after the other
  pub parts : (column a b : ℕ) → IsColumn (column + a + b) →
      costs.text column (a + b) ≡ costs.add (costs.text column a) (costs.text (column + a) b)
  -- L6: the cost of a text doesn't fall as its column grows
  pub further_right : (column other len : ℕ) → column ≤ other → IsColumn (other + len) →
      AtMost costs (costs.text column len) (costs.text other len)
  -- L7: the cost of a break doesn't fall as its indentation grows
  pub deeper : (indentation other : ℕ) → indentation ≤ other → IsColumn other →
      AtMost costs (costs.newline indentation) (costs.newline other)
  -- L8: a charge of nothing is neutral, and the cost of a charge doesn't fall as its number grows
  pub no_charge : IsNeutral costs (costs.charge 0)
  pub dearer : (k other : ℕ) → k ≤ other → IsCharge other → AtMost costs (costs.charge k) (costs.charge other)

-- what one piece of a layout costs
abbrev pub piece_cost : {C : Type 0} → Costs C → Piece → C
piece_cost costs (Word column s len) = costs.text column len
piece_cost costs (Break indentation) = costs.newline indentation
piece_cost costs (Fee k) = costs.charge k

-- this cost and then those of the pieces, added in order
unfoldable pub cost_after : {C : Type 0} → Costs C → C → List Piece → C
cost_after costs so_far [] = so_far
cost_after costs so_far (piece ∷ pieces) = cost_after costs (costs.add so_far (piece_cost costs piece)) pieces

-- the costs of the pieces, added in order, where there is a piece
abbrev pub cost_of : {C : Type 0} → Costs C → List Piece → Option C
cost_of costs [] = None
cost_of costs (piece ∷ pieces) = Some (cost_after costs (piece_cost costs piece) pieces)

-- the piece begins and ends at a column for which the laws hold, and its charge is one
abbrev pub PieceIsCounted : Piece → Type 0
PieceIsCounted (Word column s len) = IsColumn (column + len)
PieceIsCounted (Break indentation) = IsColumn indentation
PieceIsCounted (Fee k) = IsCharge k

-- each of the pieces does
unfoldable pub PiecesAreCounted : List Piece → Type 0
PiecesAreCounted [] = ⊤
PiecesAreCounted (piece ∷ pieces) = PieceIsCounted piece × PiecesAreCounted pieces
