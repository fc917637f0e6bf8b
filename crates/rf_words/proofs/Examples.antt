-- Worked examples of words and of what they say: a definition that changes its meaning fails here.
use Rattle.std.proofs.Common.{◌≡◌, ℕ, List, [], ◌∷◌, Option, Some, None, Ok, Err, codes, refl, arith}
use Rattle.clap.proofs.OnLiterals.{clap_on_literals}
use Rattle.rf_cost.specs.declared.kinds.CostKind.TheVariants.{Lines}
use Rattle.rf_base_style.specs.declared.columns.Columns.TheVariants.{Display}
use Rattle.rf_base_style.specs.Columns.{columns_named}
use Rattle.rf_cost.specs.Kinds.{cost_named}
use Rattle.rf_words.specs.declared.reading.Numbers.{Numbers}
use Rattle.rf_words.specs.declared.words.Mode.TheVariants.{Plain, Check, Choices, Summary}
use Rattle.rf_words.specs.declared.words.Words.{Words}
use Rattle.rf_words.specs.declared.words.WordsError.TheVariants.{Refused}
use Rattle.rf_words.specs.Answers.{Answers, seen}
use Rattle.rf_words.specs.Laws.{KeepRanges, WordsKeepRanges}
use Rattle.rf_words.specs.WordsOf.{Said, number_in, numbers_of, names_of, mode_of, said_by, words_of}

-- no words say nothing but one job and the text
abbrev nothing : Said
nothing = record {
  numbers = record { width = None; limit = None; blanks = None; jobs = 1; sample = None };
  style = None;
  names = record { cost = None; columns = None };
  mode = Plain;
}

no_words : words_of [] ≡ Some nothing
unfolding clap_on_literals numbers_of names_of mode_of said_by words_of
no_words = refl

-- each option and a flag, with its value behind it or in it
abbrev all_words : List (List ℕ)
all_words =
    codes "--width" ∷ codes "400" ∷ codes "--limit=1" ∷ codes "--max-blank-lines" ∷ codes "0" ∷ codes "--jobs=64"
    ∷ codes "--sample" ∷ codes "10000" ∷ codes "--style=a" ∷ codes "--cost" ∷ codes "lines"
    ∷ codes "--columns=display" ∷ codes "--summary" ∷ []

all_say : words_of all_words ≡ Some (record {
  numbers = record { width = Some 400; limit = Some 1; blanks = Some 0; jobs = 64; sample = Some 10000 };
  style = Some (codes "a");
  names = record { cost = Some Lines; columns = Some Display };
  mode = Summary;
})
unfolding clap_on_literals number_in cost_named columns_named numbers_of names_of mode_of said_by words_of
all_say = refl

-- the other flags
check_says : words_of (codes "--check" ∷ []) ≡ Some (record nothing { mode = Check })
unfolding clap_on_literals numbers_of names_of mode_of said_by words_of
check_says = refl

choices_say : words_of (codes "--choices" ∷ []) ≡ Some (record nothing { mode = Choices })
unfolding clap_on_literals numbers_of names_of mode_of said_by words_of
choices_say = refl

-- two flags, an option twice, a word that is no option, a name and a number of no option's range are refused
two_flags : words_of (codes "--check" ∷ codes "--summary" ∷ []) ≡ None
unfolding clap_on_literals numbers_of names_of mode_of said_by words_of
two_flags = refl

twice : words_of (codes "--jobs=2" ∷ codes "--jobs=2" ∷ []) ≡ None
unfolding clap_on_literals number_in numbers_of names_of mode_of said_by words_of
twice = refl

no_option : words_of (codes "a" ∷ []) ≡ None
unfolding clap_on_literals numbers_of names_of mode_of said_by words_of
no_option = refl

no_factory : words_of (codes "--cost=Lines" ∷ []) ≡ None
unfolding clap_on_literals cost_named numbers_of names_of mode_of said_by words_of
no_factory = refl

past_the_range : words_of (codes "--width=401" ∷ []) ≡ None
unfolding clap_on_literals number_in numbers_of names_of mode_of said_by words_of
past_the_range = refl

-- a number may have a plus and zeros before it, and ends in its range
numbers_are : (number_in 1 400 (codes "+0400") ≡ Some 400) × (number_in 1 400 (codes "401") ≡ None)
    × (number_in 1 400 (codes "1") ≡ Some 1) × (number_in 1 400 (codes "0") ≡ None)
    × (number_in 0 9 (codes "0") ≡ Some 0) × (number_in 0 9 [] ≡ None) × (number_in 0 9 (codes "+") ≡ None)
    × (number_in 0 9 (codes "-1") ≡ None) × (number_in 0 9 (codes "1a") ≡ None)
unfolding number_in
numbers_are = (refl, refl, refl, refl, refl, refl, refl, refl, refl)

-- an answer is all that is said, and a refusal says that nothing is
answers_say : (said : Option Said) (words : Words) → Answers said (Ok words) → said ≡ Some (seen words)
answers_say said words answer = answer

refusals_say : (said : Option Said) → Answers said (Err Refused) → said ≡ None
refusals_say said answer = answer

-- numbers in ranges are neither past their ends nor before them
past_the_ends : (numbers : Numbers) → KeepRanges numbers →
    (numbers.width ≡ Some 401 → ⊥) × (numbers.limit ≡ Some 401 → ⊥) × (numbers.blanks ≡ Some 10 → ⊥)
    × (numbers.jobs ≡ 65 → ⊥) × (numbers.sample ≡ Some 10001 → ⊥)
past_the_ends numbers keep = (
  λ e. omega (arith, (keep.width 401 e).1),
  λ e. omega (arith, (keep.limit 401 e).1),
  λ e. omega (arith, (keep.blanks 10 e).1),
  λ e. omega (arith, keep.jobs.1, e),
  λ e. omega (arith, (keep.sample 10001 e).1),
)

before_the_ends : (numbers : Numbers) → KeepRanges numbers →
    (numbers.width ≡ Some 0 → ⊥) × (numbers.limit ≡ Some 0 → ⊥) × (numbers.jobs ≡ 0 → ⊥)
    × (numbers.sample ≡ Some 0 → ⊥)
before_the_ends numbers keep = (
  λ e. omega (arith, (keep.width 0 e).0),
  λ e. omega (arith, (keep.limit 0 e).0),
  λ e. omega (arith, keep.jobs.0, e),
  λ e. omega (arith, (keep.sample 0 e).0),
)

-- the law is of all words that say something
said_keep : WordsKeepRanges → (words : List (List ℕ)) (said : Said) → words_of words ≡ Some said → KeepRanges said.numbers
said_keep law = law
