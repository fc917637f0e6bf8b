-- The table of what bytes are in a run.
use Rattle.std.proofs.Common.{◌≡◌, ℕ, zero, suc, ◌+◌, Bool, true, false, List, [], ◌∷◌, get_or, length, ◌<◌, nat_lt, not, ◌&&◌, ◌==◌, refl, ap, sym, ◌∙◌, arith, subst}
use Rattle.std.proofs.lemmas.Bool.Decides.{nat_tests}
use Rattle.std.proofs.lemmas.Bool.{and_parts}
use Rattle.rf_base_grammar.specs.Characters.{is_delimiter, is_white}
use Rattle.rf_lexer.specs.Classes.{is_plain, IsMark}
use Rattle.rf_lexer.specs.declared.classes.TheConstants.{RUN_MARKS}

-- whether the two are the same
abbrev told : Bool → Bool → Bool
told true b = b
told false b = not b

-- each byte from the number on has this sign just where it is an ASCII character that passes the test
are_told : ℕ → (ℕ → Bool) → ℕ → List ℕ → Bool
are_told sign test n [] = true
are_told sign test n (b ∷ bs) = told (b == sign) (nat_lt n 128 && test n) && are_told sign test (n + 1) bs

plain_are : are_told 120 is_plain 0 RUN_MARKS ≡ true
unfolding is_delimiter is_white are_told
plain_are = refl

delimiters_are : are_told 45 is_delimiter 0 RUN_MARKS ≡ true
unfolding is_delimiter is_white are_told
delimiters_are = refl

first_is : (a b c : Bool) → (told a b && c) ≡ true → a ≡ b
first_is true false c h = absurd (cc)
first_is false true c h = absurd (cc)
first_is _ _ c h = refl

others_are : (a c : Bool) → (a && c) ≡ true → c ≡ true
others_are true c h = h
others_are false c h = absurd (cc)

is_at : (sign : ℕ) (test : ℕ → Bool) (n : ℕ) (bs : List ℕ) (k : ℕ) → are_told sign test n bs ≡ true → k < length bs → (get_or bs k 0 == sign) ≡ (nat_lt (n + k) 128 && test (n + k))
unfolding are_told
is_at sign test n [] k h l = absurd (omega arith)
is_at sign test n (b ∷ bs) zero h l =
    subst (λ m. (b == sign) ≡ (nat_lt m 128 && test m)) (omega arith)
    (first_is (b == sign) (nat_lt n 128 && test n) (are_told sign test (n + 1) bs) h)
is_at sign test n (b ∷ bs) (suc k) h l =
    subst (λ m. (get_or bs k 0 == sign) ≡ (nat_lt m 128 && test m)) (omega arith)
    (is_at sign test (n + 1) bs k (others_are (told (b == sign) (nat_lt n 128 && test n)) (are_told sign test (n + 1) bs) h) (omega arith))

told_at : (sign : ℕ) (test : ℕ → Bool) (k : ℕ) → are_told sign test 0 RUN_MARKS ≡ true → k < 256 → (get_or RUN_MARKS k 0 == sign) ≡ (nat_lt k 128 && test k)
told_at sign test k h l =
    subst (λ m. (get_or RUN_MARKS k 0 == sign) ≡ (nat_lt m 128 && test m)) (omega arith) (is_at sign test 0 RUN_MARKS k h l)

low : (k : ℕ) → nat_lt k 128 ≡ true → k < 128
low k e = grind (arith, nat_tests)

is_low : (k : ℕ) → k < 128 → nat_lt k 128 ≡ true
is_low k l = grind (arith, nat_tests)

-- an ASCII character stands for itself just where it is marked
pub plain_at : (k : ℕ) → k < 128 → (get_or RUN_MARKS k 0 == 120) ≡ is_plain k
plain_at k l =
    told_at 120 is_plain k plain_are (omega arith) ∙ ap (λ b. b && is_plain k) (is_low k l)

-- a byte that is so marked is an ASCII character that stands for itself
pub plain_mark : (k : ℕ) → k < 256 → (get_or RUN_MARKS k 0 == 120) ≡ true → IsMark is_plain k
plain_mark k l e =
    let parts = and_parts (nat_lt k 128) (is_plain k) (sym (told_at 120 is_plain k plain_are l) ∙ e) in
    (low k parts.0, parts.1)

-- a byte that is marked as a delimiter is an ASCII character and one
pub delimiter_mark : (k : ℕ) → k < 256 → (get_or RUN_MARKS k 0 == 45) ≡ true → IsMark is_delimiter k
delimiter_mark k l e =
    let parts = and_parts (nat_lt k 128) (is_delimiter k) (sym (told_at 45 is_delimiter k delimiters_are l) ∙ e) in
    (low k parts.0, parts.1)
