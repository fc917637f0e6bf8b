-- A law of answers.
use Rattle.std.specs.Global.{Global}
use Rattle.std.specs.Prelude.{String, ℕ, ◌≡◌, ◌≤◌, List, length, Some}
use Rattle.rf_base_grammar.specs.declared.TheConstants.{SOURCE_LIMIT}
use Rattle.rf_words.specs.WordsOf.{Said}
use Rattle.rf_words.specs.declared.words.Mode.TheVariants.{Plain}
use Rattle.rf_top.specs.Asking.{said_by}
use Rattle.rf_top.specs.Answer.{Answer, IsAnswer}
use Rattle.rf_top.specs.declared.status.Status.TheVariants.{Fine}

-- what a run writes without a flag, given again to the same words and the same style file, is its own answer
abbrev pub LayoutsGiveThemselves : Type 0
LayoutsGiveThemselves =
    (words : List (String Global)) (said : Said) (file source : List ℕ) (answer : Answer) →
    said_by words ≡ Some said → said.mode ≡ Plain → IsAnswer words file source answer → answer.status ≡ Fine →
    length answer.out ≤ SOURCE_LIMIT → IsAnswer words file answer.out answer
