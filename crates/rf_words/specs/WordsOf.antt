-- What words say.
use Rattle.std.specs.Prelude.{ℕ, Bool, true, false, ◌&&◌, nat_lt, nat_le, List, [], ◌∷◌, length, Option, Some, None, option_map, option_and_then, codes, if◌then◌else◌, unwrap_or}
use Rattle.std.specs.Char.{digit_value}
use Rattle.std.specs.List.{list_all}
use Rattle.std.specs.Option.{option_map_or}
use Rattle.std.specs.Str.{bytes_eq}
use Rattle.std.specs.Str.Parse.{digits_value, without_leading_plus}
use Rattle.clap.specs.Words.{Row, Text, fault_of, first_of, matches_of, one_of}
use Rattle.rf_base_style.specs.Columns.{columns_named}
use Rattle.rf_cost.specs.Kinds.{cost_named}
use Rattle.rf_words.specs.declared.words.Mode.{Mode}
use Rattle.rf_words.specs.declared.words.Mode.TheVariants.{Plain, Check, Choices, Summary}
use Rattle.rf_words.specs.declared.reading.Numbers.{Numbers}
use Rattle.rf_words.specs.declared.reading.Names.{Names}
use Rattle.rf_words.specs.Command.{command}

-- what words say: as `Words`, with the name of the style file as a text
pub record Said : Type 0 where
  pub numbers : Numbers
  pub style : Option Text
  pub names : Names
  pub mode : Mode

-- what a text that was given means, where it means something; nothing where none was given
abbrev pub wanted : {A : Type 0} → (Text → Option A) → Option Text → Option (Option A)
wanted meaning None = Some None
wanted meaning (Some text) = option_map (λ x. Some x) (meaning text)

-- one decimal digit or more, and nothing else
abbrev pub is_numeral : Text → Bool
is_numeral text = nat_lt 0 (length text) && list_all (λ c. nat_lt (digit_value c) 10) text

-- the number from least to most that the text spells in decimal digits, behind a plus or not
unfoldable pub number_in : ℕ → ℕ → Text → Option ℕ
number_in least most text =
    let n = digits_value 10 (without_leading_plus text) in
    if is_numeral (without_leading_plus text) && (nat_le least n && nat_le n most) then Some n else None

-- the number of the option with this name
abbrev pub number_of : Text → ℕ → ℕ → List Row → Option (Option ℕ)
number_of id least most rows = wanted (number_in least most) (one_of id rows)

-- the numbers that the options say; one job where they don't say how many
unfoldable pub numbers_of : List Row → Option Numbers
numbers_of rows =
    option_and_then (λ width.
    option_and_then (λ limit.
    option_and_then (λ blanks.
    option_and_then (λ jobs.
    option_map
    (λ sample. record { width = width; limit = limit; blanks = blanks; jobs = unwrap_or jobs 1; sample = sample })
    (number_of (codes "sample") 1 10000 rows)) (number_of (codes "jobs") 1 64 rows))
    (number_of (codes "max-blank-lines") 0 9 rows)) (number_of (codes "limit") 1 400 rows))
    (number_of (codes "width") 1 400 rows)

-- the factory and the way of counting columns that the options name
unfoldable pub names_of : List Row → Option Names
names_of rows =
    option_and_then (λ cost.
    option_map (λ columns. record { cost = cost; columns = columns })
    (wanted columns_named (first_of (codes "columns") rows))) (wanted cost_named (first_of (codes "cost") rows))

-- the flag stands among the words
abbrev pub is_set : Text → List Row → Bool
is_set id rows = option_map_or (λ text. bytes_eq text (codes "true")) (first_of id rows) false

-- the mode of the flag that stands, where at most one does
abbrev pub mode_from : Bool → Bool → Bool → Option Mode
mode_from false false false = Some Plain
mode_from true false false = Some Check
mode_from false true false = Some Choices
mode_from false false true = Some Summary
mode_from _ _ _ = None

-- the mode that the flags say
unfoldable pub mode_of : List Row → Option Mode
mode_of rows = mode_from (is_set (codes "check") rows) (is_set (codes "choices") rows) (is_set (codes "summary") rows)

-- what the options and flags say, where each option's text means something, and at most one flag stands
unfoldable pub said_by : List Row → Option Said
said_by rows =
    option_and_then (λ numbers.
    option_and_then (λ names.
    option_map (λ mode. record { numbers = numbers; style = first_of (codes "style") rows; names = names; mode = mode })
    (mode_of rows)) (names_of rows)) (numbers_of rows)

-- there is no fault
abbrev pub is_clear : {A : Type 0} → List A → Bool
is_clear [] = true
is_clear (fault ∷ faults) = false

-- what the words say: `clap` takes them for the command, the text of each number and name is one of its option's, and
-- at most one flag stands among them
unfoldable pub words_of : List Text → Option Said
words_of words = if is_clear (fault_of command words) then said_by (matches_of command words) else None
