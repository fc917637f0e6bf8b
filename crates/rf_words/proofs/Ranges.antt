-- The numbers that words say are in their ranges.
use Rattle.std.proofs.Common.{◌≡◌, ℕ, ◌≤◌, ◌&&◌, nat_le, List, Option, Some, None, refl, ◌∙◌, subst, inl, inr, arith, lit≤, codes}
use Rattle.std.specs.Prelude.{option_map, option_and_then, unwrap_or}
use Rattle.std.specs.Str.Parse.{digits_value, without_leading_plus}
use Rattle.std.proofs.lemmas.Bool.{cases_Bool, and_parts}
use Rattle.std.proofs.lemmas.Bool.Decides.{nat_tests}
use Rattle.clap.specs.Words.{Row, Text, fault_of, first_of, matches_of, one_of}
use Rattle.rf_words.specs.declared.reading.Numbers.{Numbers}
use Rattle.rf_words.specs.declared.reading.Names.{Names}
use Rattle.rf_words.specs.declared.words.Mode.{Mode}
use Rattle.rf_words.specs.Command.{command}
use Rattle.rf_words.specs.WordsOf.{Said, is_clear, is_numeral, mode_of, names_of, number_in, numbers_of, said_by, wanted, words_of}
use Rattle.rf_words.specs.Laws.{IsFrom, KeepRanges, WordsKeepRanges}

module _ {A B : Type 0} where
  -- what was found on from something was found from it
  found_on : (next : A → Option B) (first : Option A) (y : B) → option_and_then next first ≡ Some y → (x : A) × (first ≡ Some x) × (next x ≡ Some y)
  found_on next (Some x) y found = (x, refl, found)
  found_on next None y found = absurd (cc)

  found_under : (f : A → B) (first : Option A) (y : B) → option_map f first ≡ Some y → (x : A) × (first ≡ Some x) × (f x ≡ y)
  found_under f (Some x) y found = (x, refl, cc)
  found_under f None y found = absurd (cc)

-- a number that a text spells is in its range
number_in-is : (least most : ℕ) (text : Text) (n : ℕ) → number_in least most text ≡ Some n → (least ≤ n) × (n ≤ most)
unfolding number_in
number_in-is least most text n found =
    elim (cases_Bool (is_numeral (without_leading_plus text) && (nat_le least (digits_value 10 (without_leading_plus text)) && nat_le (digits_value 10 (without_leading_plus text)) most))) [
      | inr out ↦ let bad = rw out at found in absurd (cc)
      | inl inside ↦
          let e : digits_value 10 (without_leading_plus text) ≡ n = (let f = rw inside at found in cc) in
          let (numeral, within) = and_parts (is_numeral (without_leading_plus text)) (nat_le least (digits_value 10 (without_leading_plus text)) && nat_le (digits_value 10 (without_leading_plus text)) most) inside in
          grind (arith, nat_tests)
    ]

-- so is one that an option says
wanted-is : (least most : ℕ) (text : Option Text) (number : Option ℕ) → wanted (number_in least most) text ≡ Some number → IsFrom least most number
wanted-is least most None number found n some = absurd (let e : None ≡ Some n = (let f : None ≡ number = cc in f ∙ some) in cc)
wanted-is least most (Some text) number found n some =
    let r = found_under (λ (x : ℕ). Some x) (number_in least most text) number found in
    let same : r.0 ≡ n = (let f : Some r.0 ≡ Some n = r.2 ∙ some in cc) in
    number_in-is least most text n (subst (λ m. number_in least most text ≡ Some m) same r.1)

-- one job where none is said
jobs-are : (jobs : Option ℕ) → IsFrom 1 64 jobs → (1 ≤ unwrap_or jobs 1) × (unwrap_or jobs 1 ≤ 64)
jobs-are None from = (lit≤ tt, lit≤ tt)
jobs-are (Some n) from = from n refl

numbers-keep : (rows : List Row) (numbers : Numbers) → numbers_of rows ≡ Some numbers → KeepRanges numbers
unfolding numbers_of
numbers-keep rows numbers found =
    let width = found_on _ _ _ found in
    let limit = found_on _ _ _ width.2 in
    let blanks = found_on _ _ _ limit.2 in
    let jobs = found_on _ _ _ blanks.2 in
    let sample = found_under _ _ _ jobs.2 in
    subst KeepRanges sample.2 (record {
      width = wanted-is 1 400 (one_of (codes "width") rows) width.0 width.1;
      limit = wanted-is 1 400 (one_of (codes "limit") rows) limit.0 limit.1;
      blanks = wanted-is 0 9 (one_of (codes "max-blank-lines") rows) blanks.0 blanks.1;
      jobs = jobs-are jobs.0 (wanted-is 1 64 (one_of (codes "jobs") rows) jobs.0 jobs.1);
      sample = wanted-is 1 10000 (one_of (codes "sample") rows) sample.0 sample.1;
    })

said-keep : (rows : List Row) (said : Said) → said_by rows ≡ Some said → KeepRanges said.numbers
unfolding said_by
said-keep rows said found =
    let made : Numbers → Names → Mode → Said = λ numbers names mode. record { numbers = numbers; style = first_of (codes "style") rows; names = names; mode = mode } in
    let numbers = found_on (λ n. option_and_then (λ m. option_map (made n m) (mode_of rows)) (names_of rows)) (numbers_of rows) said found in
    let names = found_on (λ m. option_map (made numbers.0 m) (mode_of rows)) (names_of rows) said numbers.2 in
    let mode = found_under (made numbers.0 names.0) (mode_of rows) said names.2 in
    subst (λ (s : Said). KeepRanges s.numbers) mode.2 (numbers-keep rows numbers.0 numbers.1)

pub words_keep_ranges : WordsKeepRanges
unfolding words_of
words_keep_ranges words said found =
    elim (cases_Bool (is_clear (fault_of command words))) [
      | inl clear ↦ said-keep (matches_of command words) said (rw clear at found)
      | inr faulty ↦ let bad = rw faulty at found in absurd (cc)
    ]
