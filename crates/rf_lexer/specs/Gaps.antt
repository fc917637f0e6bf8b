-- Where a gap ends.
use Rattle.std.specs.Prelude.{ℕ, ◌≡◌, List, [], ◌∷◌, ◌++◌, ⊤}
use Rattle.rf_base_grammar.specs.Itemised.{IsGap, line_ends}
use Rattle.rf_base_grammar.specs.Unreadable.{BeginsMark}

-- the text is at its end, or no white space begins it
abbrev pub EndsOrBegins : List ℕ → Type 0
EndsOrBegins [] = ⊤
EndsOrBegins (c ∷ text) = BeginsMark (c ∷ text)

-- the text is a gap with so many line ends, and then the rest, which no white space begins
pub record EndsGap (text : List ℕ) (feeds : ℕ) (rest : List ℕ) : Type 0 where
  pub gap : List ℕ
  pub whole : text ≡ gap ++ rest
  pub white : IsGap gap
  pub feeds_are : feeds ≡ line_ends gap
  pub stops : EndsOrBegins rest
