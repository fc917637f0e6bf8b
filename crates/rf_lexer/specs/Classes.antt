-- Which characters are of a class.
use Rattle.std.specs.Prelude.{ℕ, ◌≡◌, ◌<◌, not, Bool, true, ◌&&◌, ◌==◌, List, ◌++◌, slice_index}
use Rattle.std.specs.Char.{is_ascii_digit}
use Rattle.rf_base_grammar.specs.Characters.{Each, is_delimiter}
use Rattle.rf_base_grammar.specs.Strings.{is_no_return}
use Rattle.rf_base_grammar.specs.Comments.{breaks_line}
use Rattle.rf_base_grammar.specs.LanguageLine.{is_name_mark, is_blank, is_path_mark, is_quoted_path_mark}
use Rattle.rf_base_grammar.specs.Reader.{is_of_terminator}
use Rattle.rf_lexer.specs.declared.classes.Class.{Class}
use Rattle.rf_lexer.specs.declared.classes.Class.TheVariants.{Plain, Undelimited, OnLine, Digit, NoReturn, OfTerminator}
use Rattle.rf_lexer.specs.declared.classes.Class.TheVariants.{NameMark, Blank, PathMark, QuotedPathMark, InString}

-- whether the character stands for itself in a run
abbrev pub is_plain : ℕ → Bool
is_plain c = not (is_delimiter c) && (not (c == 92) && not (c == 124))

-- whether the character stands for itself in a string
abbrev pub is_in_string : ℕ → Bool
is_in_string c = not (c == 34) && not (c == 92)

-- the test that the characters of the class pass
abbrev pub test_of : Class → ℕ → Bool
test_of Plain = is_plain
test_of Undelimited = λ c. not (is_delimiter c)
test_of OnLine = λ c. not (breaks_line c)
test_of Digit = is_ascii_digit
test_of NoReturn = is_no_return
test_of OfTerminator = is_of_terminator
test_of NameMark = is_name_mark
test_of Blank = is_blank
test_of PathMark = is_path_mark
test_of QuotedPathMark = is_quoted_path_mark
test_of InString = is_in_string

-- the byte is an ASCII character that passes the test
abbrev pub IsMark : (ℕ → Bool) → ℕ → Type 0
IsMark test byte = (byte < 128) × (test byte ≡ true)

-- the first so many bytes are ASCII characters that pass the test
abbrev pub BeginsWithMarks : (ℕ → Bool) → List ℕ → ℕ → Type 0
BeginsWithMarks test bytes n = (k : ℕ) → k < n → IsMark test (slice_index bytes k)

-- the text is characters that pass the test, and then the rest
abbrev pub IsBehindMarks : (ℕ → Bool) → List ℕ → List ℕ → Type 0
IsBehindMarks test text rest = (marks : List ℕ) × Each test marks × (text ≡ marks ++ rest)
