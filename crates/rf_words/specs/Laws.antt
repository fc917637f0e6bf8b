-- What is proved of the definitions.
use Rattle.std.specs.Prelude.{◌≡◌, ℕ, ◌≤◌, List, Option, Some}
use Rattle.clap.specs.Words.{Text}
use Rattle.rf_words.specs.declared.reading.Numbers.{Numbers}
use Rattle.rf_words.specs.WordsOf.{Said, words_of}

-- the number, where there is one, is from least to most
abbrev pub IsFrom : ℕ → ℕ → Option ℕ → Type 0
IsFrom least most number = (n : ℕ) → number ≡ Some n → (least ≤ n) × (n ≤ most)

-- each number is in its range
pub record KeepRanges (numbers : Numbers) : Type 0 where
  pub width : IsFrom 1 400 numbers.width
  pub limit : IsFrom 1 400 numbers.limit
  pub blanks : IsFrom 0 9 numbers.blanks
  pub jobs : (1 ≤ numbers.jobs) × (numbers.jobs ≤ 64)
  pub sample : IsFrom 1 10000 numbers.sample

-- the numbers that words say are in their ranges
abbrev pub WordsKeepRanges : Type 0
WordsKeepRanges = (words : List Text) (said : Said) → words_of words ≡ Some said → KeepRanges said.numbers
