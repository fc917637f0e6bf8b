-- Worked examples of characters and words: each member of a table that definitions and the plain reader share.
use Rattle.std.proofs.Common.{◌≡◌, ℕ, true, false, List, [], ◌∷◌, refl}
use Rattle.std.specs.Prelude.{codes, map}
use Rattle.rf_base_grammar.specs.Characters.{is_white, is_delimiter, byte_len}
use Rattle.rf_base_grammar.specs.Comments.{breaks_line}
use Rattle.rf_base_grammar.specs.Cuts.{run_cut, string_cut, block_cut, here_cut}
use Rattle.rf_base_grammar.specs.LanguageLine.{is_name_mark, is_blank, is_path_mark, is_quoted_path_mark}
use Rattle.rf_base_grammar.specs.Reader.{Answer, Found, Wrong, front_item}
use Rattle.rf_base_grammar.specs.Strings.{is_no_feed, is_no_return}
use Rattle.rf_base_grammar.specs.declared.kinds.Bracket.TheVariants.{Round, Square, Curly}
use Rattle.rf_base_grammar.specs.declared.kinds.Kind.{Kind}
use Rattle.rf_base_grammar.specs.declared.kinds.Kind.TheVariants.{Opener, Closer, Prefix, Skip, Atom, Str, Line}
use Rattle.rf_base_grammar.specs.declared.refusals.LexKind.TheVariants.{BadHash, LanguageLine, LanguageReader}

-- white space is a tab, LF, CR, a space, U+0085, U+00A0, U+2028, U+3000; U+200B and the byte order mark are none
white_and_delimiters : (map is_white (9 ∷ 10 ∷ 13 ∷ 32 ∷ 0x85 ∷ 0xA0 ∷ 0x2028 ∷ 0x3000 ∷ 0x200B ∷ 0xFEFF ∷ codes "a")
    ≡ true ∷ true ∷ true ∷ true ∷ true ∷ true ∷ true ∷ true ∷ false ∷ false ∷ false ∷ [])
    × (map is_delimiter (codes " ()[]{}\",'`;")
    ≡ true ∷ true ∷ true ∷ true ∷ true ∷ true ∷ true ∷ true ∷ true ∷ true ∷ true ∷ true ∷ [])
    × (map is_delimiter (codes "#|\\@.:a") ≡ false ∷ false ∷ false ∷ false ∷ false ∷ false ∷ false ∷ [])
unfolding is_white is_delimiter
white_and_delimiters = (refl, refl, refl)

-- of one byte, of two, of three and of four
lengths_in_bytes : byte_len (97 ∷ 0x3BB ∷ 0x2028 ∷ 0x1F600 ∷ []) ≡ 10
lengths_in_bytes = refl

line_breaks : map breaks_line (10 ∷ 13 ∷ 0x85 ∷ 0x2028 ∷ 0x2029 ∷ 11 ∷ 12 ∷ [])
    ≡ true ∷ true ∷ true ∷ true ∷ true ∷ false ∷ false ∷ []
line_breaks = refl

feeds_and_returns : (map is_no_feed (10 ∷ 13 ∷ []) ≡ false ∷ true ∷ [])
    × (map is_no_return (10 ∷ 13 ∷ []) ≡ true ∷ false ∷ [])
feeds_and_returns = (refl, refl)

-- characters of a language's name, of blanks behind it, of a module path, and of one between quotes
characters_of_languages : (map is_name_mark (codes "aZ09+-_/.:")
    ≡ true ∷ true ∷ true ∷ true ∷ true ∷ true ∷ true ∷ true ∷ false ∷ false ∷ [])
    × (map is_blank (32 ∷ 9 ∷ 10 ∷ 0xA0 ∷ []) ≡ true ∷ true ∷ false ∷ false ∷ [])
    × (map is_path_mark (codes "a/.:") ≡ true ∷ true ∷ true ∷ false ∷ [])
    × (map is_quoted_path_mark (97 ∷ 32 ∷ 40 ∷ 34 ∷ 92 ∷ 10 ∷ 0x2028 ∷ [])
    ≡ true ∷ true ∷ true ∷ false ∷ false ∷ false ∷ false ∷ [])
characters_of_languages = (refl, refl, refl, refl)

-- the reader's answer for the text, where a language line may stand
read : List ℕ → Answer
unfolding front_item run_cut string_cut block_cut here_cut is_delimiter is_white
read text = front_item true text

-- each of these words is an item of the kind by itself
abbrev AreFound : Kind → List (List ℕ) → Type 0
AreFound kind words = map read words ≡ map (λ word. Found kind word []) words

booleans_found : AreFound Atom (codes "#t" ∷ codes "#T" ∷ codes "#true" ∷ codes "#f" ∷ codes "#F" ∷ codes "#false" ∷ [])
unfolding read front_item run_cut string_cut block_cut here_cut is_delimiter is_white
booleans_found = refl

numbers_found : AreFound Atom (codes "#d1" ∷ codes "#b1" ∷ codes "#o1" ∷ codes "#x1" ∷ codes "#e1" ∷ codes "#i1"
    ∷ codes "#D1" ∷ codes "#B1" ∷ codes "#O1" ∷ codes "#X1" ∷ codes "#E1" ∷ codes "#I1" ∷ [])
unfolding read front_item run_cut string_cut block_cut here_cut is_delimiter is_white
numbers_found = refl

words_found : AreFound Atom (codes "#:a" ∷ codes "#%a" ∷ codes "#12345678#" ∷ codes "a\\ b" ∷ [])
unfolding read front_item run_cut string_cut block_cut here_cut is_delimiter is_white
words_found = refl

prefixes_found : AreFound Prefix (codes "'" ∷ codes "`" ∷ codes "," ∷ codes ",@" ∷ codes "#'" ∷ codes "#`" ∷ codes "#,"
    ∷ codes "#,@" ∷ codes "#&" ∷ codes "#1=" ∷ codes "#12345678=" ∷ [])
unfolding read front_item run_cut string_cut block_cut here_cut is_delimiter is_white
prefixes_found = refl

openers_found : AreFound (Opener Round)
    (codes "(" ∷ codes "#(" ∷ codes "#s(" ∷ codes "#hash(" ∷ codes "#hasheq(" ∷ codes "#hasheqv(" ∷ codes "#hashalw("
    ∷ codes "#fl(" ∷ codes "#fx(" ∷ codes "#1(" ∷ codes "#12345678(" ∷ [])
unfolding read front_item run_cut string_cut block_cut here_cut is_delimiter is_white
openers_found = refl

closers_found : map read (codes ")" ∷ codes "]" ∷ codes "}" ∷ codes "#;" ∷ [])
    ≡ Found (Closer Round) (codes ")") [] ∷ Found (Closer Square) (codes "]") [] ∷ Found (Closer Curly) (codes "}") []
    ∷ Found Skip (codes "#;") [] ∷ []
unfolding read front_item run_cut string_cut block_cut here_cut is_delimiter is_white
closers_found = refl

strings_found : AreFound Str (codes "\"a\"" ∷ codes "#\"a\"" ∷ codes "#rx\"a\"" ∷ codes "#px\"a\"" ∷ codes "#rx#\"a\""
    ∷ codes "#px#\"a\"" ∷ [])
unfolding read front_item run_cut string_cut block_cut here_cut is_delimiter is_white
strings_found = refl

comments_found : AreFound Line (codes ";" ∷ codes "#!/a" ∷ codes "#! a" ∷ [])
unfolding read front_item run_cut string_cut block_cut here_cut is_delimiter is_white
comments_found = refl

-- a hash sign that begins none of these, a number of nine digits or of none
hashes_refused : map read (codes "#" ∷ codes "#a" ∷ codes "#tru" ∷ codes "#123456789#" ∷ codes "##"
    ∷ codes "#123456789=" ∷ codes "#123456789(" ∷ codes "#!a" ∷ [])
    ≡ Wrong BadHash [] ∷ Wrong BadHash [] ∷ Wrong BadHash [] ∷ Wrong BadHash [] ∷ Wrong BadHash [] ∷ Wrong BadHash []
    ∷ Wrong BadHash [] ∷ Wrong BadHash [] ∷ []
unfolding read front_item run_cut string_cut block_cut here_cut is_delimiter is_white
hashes_refused = refl

-- languages with another reader, and ones whose names begin like theirs
others_refused : map read (codes "#lang at-exp" ∷ codes "#lang datalog" ∷ codes "#lang rhombus"
    ∷ codes "#lang rhombus/a" ∷ codes "#lang scribble/a" ∷ [])
    ≡ Wrong LanguageReader [] ∷ Wrong LanguageReader [] ∷ Wrong LanguageReader [] ∷ Wrong LanguageReader []
    ∷ Wrong LanguageReader [] ∷ []
unfolding read front_item run_cut string_cut block_cut here_cut is_delimiter is_white
others_refused = refl

slashes_refused : map read (codes "#lang /a" ∷ codes "#lang a/" ∷ codes "#lang " ∷ codes "#lang  a" ∷ [])
    ≡ Wrong LanguageLine [] ∷ Wrong LanguageLine [] ∷ Wrong LanguageLine [] ∷ Wrong LanguageLine [] ∷ []
unfolding read front_item run_cut string_cut block_cut here_cut is_delimiter is_white
slashes_refused = refl

-- a language line stands where it may alone
nowhere_else : front_item false (codes "#lang racket") ≡ Wrong LanguageLine []
unfolding front_item run_cut string_cut block_cut here_cut is_delimiter is_white
nowhere_else = refl
