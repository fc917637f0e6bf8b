-- What is read as a number beside the number that the text spells.
use Rattle.std.proofs.Common.{◌≡◌, ℕ, ◌<◌, ◌≤◌, ◌^◌, Bool, true, false, cond, ◌&&◌, nat_le, nat_lt, List, [], ◌∷◌, length, Option, Some, None, Ok, Err, refl, inl, inr, subst, arith}
use Rattle.std.specs.Prelude.{Result, option_map}
use Rattle.std.specs.Char.{digit_value}
use Rattle.std.specs.List.{list_all}
use Rattle.std.specs.Str.Parse.{AllDigits, IsNumeral, ParsesUnsigned, digits_value, without_leading_plus}
use Rattle.std.proofs.lemmas.Bool.{cases_Bool, and_parts}
use Rattle.std.proofs.lemmas.Bool.Decides.{nat_tests, Decides-ltb}
use Rattle.clap.specs.Matches.{TriesOne, one_text}
use Rattle.clap.specs.Walk.{rows_of}
use Rattle.clap.specs.declared.parser.matches.Found.{Found}
use Rattle.clap.proofs.WalkLemmas.{one_text-rows}
use Rattle.rf_words.specs.WordsOf.{is_numeral, number_in, number_of, wanted}

-- digits pass the test of each
all_pass : (text : List ℕ) → list_all (λ c. nat_lt (digit_value c) 10) text ≡ true → AllDigits 10 text
all_pass [] pass = tt
all_pass (c ∷ text) pass =
    let (first, rest) = and_parts (nat_lt (digit_value c) 10) (list_all (λ d. nat_lt (digit_value d) 10) text) pass in
    ((Decides-ltb (digit_value c) 10).0 first, all_pass text rest)

each_passes : (text : List ℕ) → AllDigits 10 text → list_all (λ c. nat_lt (digit_value c) 10) text ≡ true
each_passes [] all = refl
each_passes (c ∷ text) all = rw ((Decides-ltb (digit_value c) 10).1 all.0, each_passes text all.1)

-- a numeral passes the test, and nothing else does
numeral_is : (text : List ℕ) → is_numeral text ≡ true → IsNumeral 10 text
numeral_is text pass =
    let (some, digits) = and_parts (nat_lt 0 (length text)) (list_all (λ c. nat_lt (digit_value c) 10) text) pass in
    ((Decides-ltb 0 (length text)).0 some, all_pass text digits)

numeral_passes : (text : List ℕ) → IsNumeral 10 text → is_numeral text ≡ true
numeral_passes text is = rw ((Decides-ltb 0 (length text)).1 is.0, each_passes text is.1)

-- a number that was read is the one that the text spells, where it is in the range
pub number_read : (E : Type 0) (least most : ℕ) (text : List ℕ) (n : ℕ) → ParsesUnsigned {E = E} 32 10 text (Ok n) → number_in least most text ≡ cond (nat_le least n && nat_le n most) (Some n) None
unfolding number_in
number_read E least most text n read = rw (numeral_passes (without_leading_plus text) read.0.0, ← read.1)

-- where none was read the text spells none below 2^32
pub number_unread : (E : Type 0) (least most : ℕ) (text : List ℕ) (fault : E) → most < 2 ^ 32 → ParsesUnsigned 32 10 text (Err fault) → number_in least most text ≡ None
unfolding number_in
number_unread E least most text fault small unread =
    let digits = without_leading_plus text in
    elim (cases_Bool (is_numeral digits)) [
      | inr other ↦ rw other
      | inl numeral ↦
          elim (cases_Bool (nat_le least (digits_value 10 digits) && nat_le (digits_value 10 digits) most)) [
            | inr out ↦ rw (numeral, out)
            | inl inside ↦ absurd (unread (numeral_is digits numeral, grind (arith, nat_tests)))
          ]
    ]

-- what an option's number comes to, once its text was read
abbrev pub outcome : {E : Type 0} → ℕ → ℕ → Result (Option ℕ) E → Option (Option ℕ)
outcome least most (Ok None) = Some None
outcome least most (Ok (Some n)) = cond (nat_le least n && nat_le n most) (Some (Some n)) None
outcome least most (Err fault) = None

-- a number in its range, as one that was wanted
in_range_wanted : (b : Bool) (n : ℕ) → option_map (λ (x : ℕ). Some x) (cond b (Some n) None) ≡ cond b (Some (Some n)) None
in_range_wanted true n = refl
in_range_wanted false n = refl

-- what was read of the option's text is what the text spells
read_text : (E : Type 0) (G : List ℕ → Result ℕ E → Type 0) (least most : ℕ) (text : List ℕ) (r : Result (Option ℕ) E) → most < 2 ^ 32
    → ((t : List ℕ) (x : Result ℕ E) → G t x → ParsesUnsigned 32 10 t x) → TriesOne G text r
    → wanted (number_in least most) (Some text) ≡ outcome least most r
read_text E G least most text (Ok None) small only tried = absurd tried
read_text E G least most text (Ok (Some n)) small only tried = rw (number_read E least most text n (only text (Ok n) tried)) (in_range_wanted _ n)
read_text E G least most text (Err fault) small only tried = rw (number_unread E least most text fault small (only text (Err fault) tried))

read_option : (E : Type 0) (G : List ℕ → Result ℕ E → Type 0) (least most : ℕ) (text : Option (List ℕ)) (r : Result (Option ℕ) E) → most < 2 ^ 32
    → ((t : List ℕ) (x : Result ℕ E) → G t x → ParsesUnsigned 32 10 t x)
    → (text ≡ None → r ≡ Ok None) → ((t : List ℕ) → text ≡ Some t → TriesOne G t r)
    → wanted (number_in least most) text ≡ outcome least most r
read_option E G least most None r small only none some = rw (none refl)
read_option E G least most (Some text) r small only none some = read_text E G least most text r small only (some text refl)

-- the same of the rows of what was found
pub read_row : (E : Type 0) (G : List ℕ → Result ℕ E → Type 0) (found : Found) (id : List ℕ) (least most : ℕ) (r : Result (Option ℕ) E) → most < 2 ^ 32
    → ((t : List ℕ) (x : Result ℕ E) → G t x → ParsesUnsigned 32 10 t x)
    → (one_text found id ≡ None → r ≡ Ok None) → ((t : List ℕ) → one_text found id ≡ Some t → TriesOne G t r)
    → number_of id least most (rows_of found) ≡ outcome least most r
read_row E G found id least most r small only none some =
    subst (λ text. wanted (number_in least most) text ≡ outcome least most r) (one_text-rows found id) (read_option E G least most (one_text found id) r small only none some)

-- in its range the number is the outcome, and out of it there is none
pub within : (least most n : ℕ) → least ≤ n → n ≤ most → cond (nat_le least n && nat_le n most) (Some (Some n)) None ≡ Some (Some n)
within least most n low high = grind (arith, nat_tests)

pub below : (least most n : ℕ) → n < least → cond (nat_le least n && nat_le n most) (Some (Some n)) None ≡ None
below least most n low = grind (arith, nat_tests)

pub above : (least most n : ℕ) → most < n → cond (nat_le least n && nat_le n most) (Some (Some n)) None ≡ None
above least most n high = grind (arith, nat_tests)

-- the outcome of a result that is known
pub as_read : {E : Type 0} (x : Option (Option ℕ)) (least most : ℕ) (r known : Result (Option ℕ) E) → x ≡ outcome least most r → r ≡ known → x ≡ outcome least most known
as_read x least most r known read same = subst (λ s. x ≡ outcome least most s) same read
