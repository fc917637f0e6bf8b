-- A text is a line of one word.
use Rattle.std.proofs.Common.{ℕ, List, [], ◌∷◌, refl}
use Rattle.rf_base_document.specs.Render.{Word, column_after, WordsRun}
use Rattle.rf_base_cut.specs.DocumentLines.{EachIsWord}
use Rattle.rf_walk.specs.Papers.{IsLineOf}
use Rattle.rf_walk.proofs.Joins.{layout_one}

pub one_word : (column : ℕ) (s : List ℕ) (len : ℕ) → IsLineOf (Word column s len ∷ []) column s len 1
unfolding column_after WordsRun EachIsWord
one_word column s len = record { alone = tt; runs = (refl, tt); text_is = layout_one (Word column s len); ends = refl; count_is = refl }
