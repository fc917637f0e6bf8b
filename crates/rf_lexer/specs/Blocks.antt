-- How the program tells where a block comment ends.
use Rattle.std.specs.Prelude.{ℕ, ◌≡◌, ◌≤◌, ◌+◌, Option, Some, List, [], ◌∷◌}
use Rattle.rf_base_grammar.specs.Cuts.{NoHalf, HashHalf, BarHalf, Opens, Closes, Passes, block_cut, cut, also}
use Rattle.rf_base_grammar.specs.Cuts as Cuts
use Rattle.rf_lexer.specs.declared.blocks.Half.{Half}
use Rattle.rf_lexer.specs.declared.blocks.Half.TheVariants.{Neither, Hash, Bar}
use Rattle.rf_lexer.specs.declared.blocks.Step.{Step}
use Rattle.rf_lexer.specs.declared.blocks.Step.TheVariants.{Opening, Closing, Passing}
use Rattle.rf_lexer.specs.declared.blocks.Inside.{Inside}

-- how the plain reader calls it
abbrev pub half_in : Half → Cuts.Half
half_in Neither = NoHalf
half_in Hash = HashHalf
half_in Bar = BarHalf

-- how the plain reader calls what a character does
abbrev pub step_in : Step → Cuts.Step
step_in Opening = Opens
step_in Closing = Closes
step_in (Passing half) = Passes (half_in half)

-- what is left of the comment at the place
abbrev pub left_of : Inside → List ℕ → Option Cuts.Cut
left_of at text = block_cut at.around (half_in at.half) text

-- the character closes the outermost comment
abbrev pub ClosesAt : Inside → ℕ → Type 0
ClosesAt at c = (text : List ℕ) → left_of at (c ∷ text) ≡ Some (cut (c ∷ []) text)

-- the comment goes on behind the character at the next place, with at most one comment more around
abbrev pub BlockGoesOn : Inside → ℕ → Inside → Type 0
BlockGoesOn at c next =
    (next.around ≤ at.around + 1) × ((text : List ℕ) → left_of at (c ∷ text) ≡ also c (left_of next text))
