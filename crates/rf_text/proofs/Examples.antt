-- Worked examples: a definition that changes its meaning fails here.
use Rattle.std.proofs.Common.{◌≡◌, ℕ, zero, suc, ◌<◌, ◌≤◌, true, false, cond, List, [], ◌∷◌, Some, None, ◌==◌, nat_lt, ◌||◌, ◌&&◌, map, replicate, length, take, refl, sym, ◌∙◌, subst, true≢false, ⊎_elim, take_all, eq-or-lt_of_le, arith, lit<, le_of_lt}
use lib.Chars.{codes}
use Rattle.std.proofs.lemmas.Bool.{cases_lt}
use Rattle.std.proofs.Math.Bool.{or_assoc, or-false}
use Rattle.std.specs.List.{list_any}
use Rattle.std.specs.Borrow.{Bor}
use Rattle.std.specs.Char.{encode_utf8}
use Rattle.std.specs.Str.{chars, is_utf8, IsUtf8, IsValidUpTo}
use Rattle.std.specs.Str.Lossy.{valid_len_up_to, utf8_valid_len}
use Rattle.std.proofs.lemmas.Str.{IsUtf8-from_is_utf8, is_utf8-from_IsUtf8}
use Rattle.rf_base_grammar.specs.Characters.{is_white, punctuation, is_delimiter}
use Rattle.rf_base_document.specs.Document.{IsOneLine}
use Rattle.rf_text.specs.Lines.{HoldsLineEnd, is_plain, lines_of, line_apart, first_difference, line_of_next}
use Rattle.rf_text.specs.Places.{IsFirst}

-- a prefix that is longer than the longest one that is UTF-8 isn't UTF-8
longer : (bs : List ℕ) (m k : ℕ) → valid_len_up_to bs m < k → k ≤ m → IsUtf8 (take k bs) → ⊥
longer bs zero k above within text = omega arith
longer bs (suc m) k above within text =
    elim (is_utf8 (take (suc m) bs)) as (λ b. is_utf8 (take (suc m) bs) ≡ b → cond b (suc m) (valid_len_up_to bs m) < k → ⊥) [
      | true ↦ λ e h. omega arith
      | false ↦
          λ e h.
          ⊎_elim
          (λ same. true≢false (sym (is_utf8-from_IsUtf8 _ (subst (λ j. IsUtf8 (take j bs)) same text)) ∙ e))
          (λ below. longer bs m k h (omega arith) text)
          (eq-or-lt_of_le within)
    ] refl above

-- where bytes stop being UTF-8, found by trying each prefix
stops : (bs : List ℕ) (n : ℕ) → utf8_valid_len bs ≡ n → n < length bs → is_utf8 (take n bs) ≡ true → IsValidUpTo bs n
unfolding utf8_valid_len
stops bs n found short text =
    record {
      short = short;
      front = IsUtf8-from_is_utf8 _ text;
      longest =
          λ m above more.
          ⊎_elim
          (λ inside. longer bs (length bs) m (omega arith) (le_of_lt inside) more)
          (λ outside. longer bs (length bs) (length bs) (omega arith) (omega arith) (subst IsUtf8 (take_all m bs outside ∙ sym (take_all (length bs) bs (omega arith))) more))
          (cases_lt m (length bs));
    }

-- one character of one, two, three and four bytes each
every_length : IsUtf8 (0x61 ∷ 0xC3 ∷ 0xA9 ∷ 0xE2 ∷ 0x82 ∷ 0xAC ∷ 0xF0 ∷ 0x9F ∷ 0x98 ∷ 0x80 ∷ [])
unfolding is_utf8 chars encode_utf8
every_length = IsUtf8-from_is_utf8 _ refl

four_characters : length (chars (0x61 ∷ 0xC3 ∷ 0xA9 ∷ 0xE2 ∷ 0x82 ∷ 0xAC ∷ 0xF0 ∷ 0x9F ∷ 0x98 ∷ 0x80 ∷ [])) ≡ 4
unfolding chars
four_characters = refl

no_characters : length (chars []) ≡ 0
unfolding chars
no_characters = refl

-- a character of three bytes that the end cuts short
truncated_after_two : IsValidUpTo (0x61 ∷ 0xE2 ∷ 0x82 ∷ []) 1
unfolding utf8_valid_len is_utf8 chars encode_utf8
truncated_after_two = stops _ _ refl (lit< tt) refl

-- a character of four bytes that a letter cuts short
truncated_after_three : IsValidUpTo (0x61 ∷ 0x62 ∷ 0xF0 ∷ 0x9F ∷ 0x98 ∷ 0x63 ∷ []) 2
unfolding utf8_valid_len is_utf8 chars encode_utf8
truncated_after_three = stops _ _ refl (lit< tt) refl

-- a slash spelled in two bytes, in three and in four
overlong_in_two : IsValidUpTo (0xC0 ∷ 0xAF ∷ []) 0
unfolding utf8_valid_len is_utf8 chars encode_utf8
overlong_in_two = stops _ _ refl (lit< tt) refl

overlong_in_three : IsValidUpTo (0xE0 ∷ 0x80 ∷ 0xAF ∷ []) 0
unfolding utf8_valid_len is_utf8 chars encode_utf8
overlong_in_three = stops _ _ refl (lit< tt) refl

overlong_in_four : IsValidUpTo (0xF0 ∷ 0x80 ∷ 0x80 ∷ 0xAF ∷ []) 0
unfolding utf8_valid_len is_utf8 chars encode_utf8
overlong_in_four = stops _ _ refl (lit< tt) refl

-- the surrogate U+D800 behind a letter; U+D7FF before it is a character
surrogate : IsValidUpTo (0x61 ∷ 0xED ∷ 0xA0 ∷ 0x80 ∷ []) 1
unfolding utf8_valid_len is_utf8 chars encode_utf8
surrogate = stops _ _ refl (lit< tt) refl

before_surrogates : IsUtf8 (0xED ∷ 0x9F ∷ 0xBF ∷ [])
unfolding is_utf8 chars encode_utf8
before_surrogates = IsUtf8-from_is_utf8 _ refl

-- U+110000, which is past the last character U+10FFFF
past_the_last : IsValidUpTo (0xF4 ∷ 0x90 ∷ 0x80 ∷ 0x80 ∷ []) 0
unfolding utf8_valid_len is_utf8 chars encode_utf8
past_the_last = stops _ _ refl (lit< tt) refl

the_last : IsUtf8 (0xF4 ∷ 0x8F ∷ 0xBF ∷ 0xBF ∷ [])
unfolding is_utf8 chars encode_utf8
the_last = IsUtf8-from_is_utf8 _ refl

-- a continuation byte behind a whole character and before a letter
lone_continuation : IsValidUpTo (0xC3 ∷ 0xA9 ∷ 0x80 ∷ 0x61 ∷ []) 2
unfolding utf8_valid_len is_utf8 chars encode_utf8
lone_continuation = stops _ _ refl (lit< tt) refl

-- a byte that no character holds
no_first_byte : IsValidUpTo (0xFF ∷ []) 0
unfolding utf8_valid_len is_utf8 chars encode_utf8
no_first_byte = stops _ _ refl (lit< tt) refl

-- LF is a line end
holds_feed : HoldsLineEnd (chars (0xC3 ∷ 0xA9 ∷ 10 ∷ 97 ∷ []))
unfolding chars
holds_feed = (1, lit< tt, refl)

-- CR, U+0085 and U+2028 are none
holds_no_feed : IsOneLine (13 ∷ 0x85 ∷ 0x2028 ∷ [])
holds_no_feed held = grind (arith, held)

-- a plain byte is below 128, and no LF
plain_are : map is_plain (0 ∷ 9 ∷ 10 ∷ 11 ∷ 127 ∷ 128 ∷ 255 ∷ [])
    ≡ true ∷ true ∷ false ∷ true ∷ true ∷ false ∷ false ∷ []
plain_are = refl

-- the delimiters besides white space, as they are written
punctuation_written : punctuation ≡ codes "()[]{}\",'`;"
punctuation_written = refl

-- each of them delimits
each_delimits : map is_delimiter punctuation ≡ replicate 11 true
unfolding is_delimiter is_white
each_delimits = refl

-- the characters of Unicode's White_Space
abbrev white_spaces : List ℕ
white_spaces =
    0x9 ∷ 0xA ∷ 0xB ∷ 0xC ∷ 0xD ∷ 0x20 ∷ 0x85 ∷ 0xA0 ∷ 0x1680
    ∷ 0x2000 ∷ 0x2001 ∷ 0x2002 ∷ 0x2003 ∷ 0x2004 ∷ 0x2005 ∷ 0x2006 ∷ 0x2007 ∷ 0x2008 ∷ 0x2009 ∷ 0x200A
    ∷ 0x2028 ∷ 0x2029 ∷ 0x202F ∷ 0x205F ∷ 0x3000 ∷ []

-- each of them delimits, the no-break space U+00A0 and the line ends U+0085 and U+2028 among them
each_white_space_delimits : map is_delimiter white_spaces ≡ replicate 25 true
unfolding is_delimiter is_white
each_white_space_delimits = refl

-- the two runs among them, told by their ends
tab_to_return : (c : ℕ) → (nat_lt 8 c && nat_lt c 14) ≡ (c == 9 || (c == 10 || (c == 11 || (c == 12 || c == 13))))
tab_to_return c = grind arith

wide_spaces : (c : ℕ) → (nat_lt 8191 c && nat_lt c 8203)
    ≡ (c == 8192 || (c == 8193 || (c == 8194 || (c == 8195 || (c == 8196 || (c == 8197 || (c == 8198 || (c == 8199 || (c == 8200 || (c == 8201 || c == 8202))))))))))
wide_spaces c = grind arith

-- white space is these characters and no others
white_space_is : (c : ℕ) → is_white c ≡ list_any (λ space. c == space) white_spaces
unfolding is_white
white_space_is c = simp (tab_to_return c, wide_spaces c, or_assoc, or-false) refl

-- a letter, a digit, a sign, a dot, a bar, a backslash and # don't delimit
abbrev constituents : List ℕ
constituents = codes "aZ09_+-*/<=>!?:.|\\#@&%"

none_delimits : map is_delimiter constituents ≡ replicate 22 false
unfolding is_delimiter is_white
none_delimits = refl

-- characters that look like white space and aren't: U+200B, U+2060, U+180E, U+FEFF and the controls U+001C and U+001F
no_white_space : map is_delimiter (0x200B ∷ 0x2060 ∷ 0x180E ∷ 0xFEFF ∷ 0x1C ∷ 0x1F ∷ []) ≡ replicate 6 false
unfolding is_delimiter is_white
no_white_space = refl

-- n LFs make n + 1 lines, an empty one behind the last among them
three_lines : lines_of (97 ∷ 10 ∷ 98 ∷ 99 ∷ 10 ∷ []) ≡ (97 ∷ []) ∷ (98 ∷ 99 ∷ []) ∷ [] ∷ []
unfolding lines_of
three_lines = refl

-- "a" and "a" with a line end differ in the second line, which only one of them has
second_line : first_difference (97 ∷ []) (97 ∷ 10 ∷ []) ≡ Some 2
unfolding first_difference line_apart lines_of
second_line = refl

-- "ab" and "a" differ in the first line
first_line_longer : first_difference (97 ∷ 98 ∷ []) (97 ∷ []) ≡ Some 1
unfolding first_difference line_apart lines_of
first_line_longer = refl

-- "a" with a line end and "a" differ there too, "ab" and "ac" in the first line, "b" behind the same line in the second
second_line_of_the_first : first_difference (97 ∷ 10 ∷ []) (97 ∷ []) ≡ Some 2
unfolding first_difference line_apart lines_of
second_line_of_the_first = refl

first_line_other : first_difference (97 ∷ 98 ∷ []) (97 ∷ 99 ∷ []) ≡ Some 1
unfolding first_difference line_apart lines_of
first_line_other = refl

second_line_other : first_difference (97 ∷ 10 ∷ 98 ∷ []) (97 ∷ 10 ∷ 99 ∷ []) ≡ Some 2
unfolding first_difference line_apart lines_of
second_line_other = refl

-- the same lines differ nowhere
no_line : first_difference (97 ∷ 10 ∷ 98 ∷ []) (97 ∷ 10 ∷ 98 ∷ []) ≡ None
unfolding first_difference line_apart lines_of
no_line = refl

-- behind an LF the next line begins
next_lines : (line_of_next 3 10 ≡ 4) × (line_of_next 3 13 ≡ 3)
next_lines = (refl, refl)

-- the first character and what is behind it
firsts_are : IsFirst [] None × (IsFirst (97 ∷ []) None → ⊥)
    × ((rest : Bor (List ℕ)) → IsFirst (97 ∷ chars rest.now) (Some (97, rest)))
    × ((rest : Bor (List ℕ)) → IsFirst [] (Some (97, rest)) → ⊥)
firsts_are = (refl, λ h. cc, λ rest. refl, λ rest h. cc)
