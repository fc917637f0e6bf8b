-- What stands at the front of a text, computed: the plain slow reader beside the definitions. That it finds just what
-- they say is a law (`ReaderIsExact`).
use Rattle.std.specs.Prelude.{ℕ, ◌==◌, ◌||◌, ◌&&◌, not, if◌then◌else◌, nat_le, is_some, length, Bool, true, false, Option, None, Some, List, [], ◌∷◌, ◌++◌, codes}
use Rattle.std.specs.List.{list_any}
use Rattle.std.specs.Char.{is_ascii_digit}
use Rattle.std.specs.Str.{bytes_eq}
use Rattle.rf_base_grammar.specs.Characters.{is_delimiter}
use Rattle.rf_base_grammar.specs.Runs.{booleans, atom_beginnings, hash}
use Rattle.rf_base_grammar.specs.Strings.{quote, string_heads, is_no_feed, is_no_return}
use Rattle.rf_base_grammar.specs.Comments.{breaks_line}
use Rattle.rf_base_grammar.specs.LanguageLine.{is_name_mark, is_blank, is_path_mark, is_quoted_path_mark}
use Rattle.rf_base_grammar.specs.Spelled.{opener_heads}
use Rattle.rf_base_grammar.specs.Cuts.{Cut, cut, span, run_cut, Bare, string_cut, block_cut, NoHalf, here_cut}
use Rattle.rf_base_grammar.specs.declared.kinds.Bracket.{Bracket}
use Rattle.rf_base_grammar.specs.declared.kinds.Bracket.TheVariants.{Round, Square, Curly}
use Rattle.rf_base_grammar.specs.declared.kinds.Kind.{Kind}
use Rattle.rf_base_grammar.specs.declared.kinds.Kind.TheVariants.{Opener, Closer, Prefix, Skip, Dot, Atom, Str, Here, Block, Line, Lang}
use Rattle.rf_base_grammar.specs.declared.refusals.LexKind.{LexKind}
use Rattle.rf_base_grammar.specs.declared.refusals.LexKind.TheVariants.{BadHash, OpenString, OpenComment, OpenBar, OpenHere, StrayLineEnd, LanguageLine, LanguageReader}

-- an item and what is behind it, or a refusal that tells the character behind the clean ones
pub data Answer : Type 0 where
  Found : (kind : Kind) (spelling behind : List ℕ) → Answer
  Wrong : (kind : LexKind) (clean : List ℕ) → Answer

-- what is behind the word, where the text begins with it
abbrev pub strip : List ℕ → List ℕ → Option (List ℕ)
strip [] text = Some text
strip (c ∷ word) [] = None
strip (c ∷ word) (d ∷ text) = if c == d then strip word text else None

-- whether the text begins with the word
abbrev pub begins : List ℕ → List ℕ → Bool
begins word text = is_some (strip word text)

-- whether the text is one of these
abbrev pub among : List (List ℕ) → List ℕ → Bool
among words text = list_any (λ word. bytes_eq word text) words

-- whether the text begins with one of these
abbrev pub begins_among : List (List ℕ) → List ℕ → Bool
begins_among words text = list_any (λ word. begins word text) words

-- whether the text holds nothing
abbrev pub is_nothing : List ℕ → Bool
is_nothing [] = true
is_nothing (c ∷ text) = false

-- whether the last character is c
abbrev pub ends_in : ℕ → List ℕ → Bool
ends_in c [] = false
ends_in c (d ∷ text) = if is_nothing text then c == d else ends_in c text

-- whether there are as many digits as a number of a hash word may have
abbrev pub is_short : List ℕ → Bool
is_short digits = nat_le 1 (length digits) && nat_le (length digits) 8

-- whether the text is a hash sign, a short number, and the end
abbrev pub is_number_word : List ℕ → List ℕ → Bool
is_number_word end [] = false
is_number_word end (c ∷ text) =
    c == hash && (is_short (span is_ascii_digit text).front && bytes_eq end (span is_ascii_digit text).behind)

-- whether the run is an atom, where it isn't the dot
abbrev pub is_atom_run : List ℕ → Bool
is_atom_run run =
    (not (is_nothing run) && not (begins (codes "#") run))
    || (among booleans run || (begins_among atom_beginnings run || is_number_word (codes "#") run))

-- whether the run may stand before an opening bracket
abbrev pub is_opener_head : List ℕ → Bool
is_opener_head run = among opener_heads run || is_number_word [] run

-- the bracket that opens with this character
abbrev pub opened_by : ℕ → Option Bracket
opened_by c = if c == 40 then Some Round else if c == 91 then Some Square else if c == 123 then Some Curly else None

-- a string, behind its head and opening quote
abbrev pub string_item : List ℕ → Option Cut → Answer
string_item start None = Wrong OpenString []
string_item start (Some k) = Found Str (start ++ (k.front ++ quote ∷ [])) k.behind

-- the opener that the bracket makes of the run before it, where it may stand there
abbrev pub opener_item : Option Bracket → Bool → List ℕ → ℕ → List ℕ → Answer → Answer
opener_item (Some b) true run c behind other = Found (Opener b) (run ++ c ∷ []) behind
opener_item _ _ run c behind other = other

-- the string that the quote makes of the run before it, where it may stand there
abbrev pub string_behind : Bool → List ℕ → List ℕ → Answer
string_behind true run behind = string_item (run ++ quote ∷ []) (string_cut false behind)
string_behind false run behind = Wrong BadHash []

-- what a run that is no atom makes with the bracket or the quote behind it
abbrev pub headed_item : List ℕ → List ℕ → Answer
headed_item run [] = Wrong BadHash []
headed_item run (c ∷ behind) =
    opener_item (opened_by c) (is_opener_head run) run c behind
    (string_behind (c == quote && among string_heads run) run behind)

-- the item that a run makes
abbrev pub atom_item : Bool → Bool → List ℕ → List ℕ → Answer
atom_item true _ run behind = Found Dot run behind
atom_item false true run behind = Found Atom run behind
atom_item false false run behind = headed_item run behind

abbrev pub run_item : Option Cut → Answer
run_item None = Wrong OpenBar []
run_item (Some k) = atom_item (bytes_eq k.front (codes ".")) (is_atom_run k.front) k.front k.behind

-- a graph's label, or the other answer where the text begins with none
abbrev pub label_behind : Bool → List ℕ → Option (List ℕ) → Answer → Answer
label_behind true digits (Some behind) other = Found Prefix (hash ∷ (digits ++ codes "=")) behind
label_behind _ digits _ other = other

abbrev pub label_item : Option (List ℕ) → Answer → Answer
label_item None other = other
label_item (Some text) other =
    label_behind (is_short (span is_ascii_digit text).front) (span is_ascii_digit text).front
    (strip (codes "=") (span is_ascii_digit text).behind) other

-- a block comment, behind its opening mark
abbrev pub block_item : Option Cut → Answer
block_item None = Wrong OpenComment []
block_item (Some k) = Found Block (codes "#|" ++ k.front) k.behind

-- a character, behind a hash sign and a backslash
abbrev pub character_item : List ℕ → Answer
character_item [] = Wrong BadHash []
character_item (c ∷ text) =
    Found Atom (codes "#\\" ++ c ∷ (span (λ d. not (is_delimiter d)) text).front)
    (span (λ d. not (is_delimiter d)) text).behind

-- how a line ends: as it may, or with a stray line end
abbrev pub line_ends_well : List ℕ → Bool
line_ends_well [] = true
line_ends_well (c ∷ text) = c == 10 || (c == 13 && begins (10 ∷ []) text)

-- a line comment, where it may end as it does, or a refusal
abbrev pub comment_item : Bool → Bool → List ℕ → List ℕ → Answer
comment_item false quoted text behind = Wrong StrayLineEnd text
comment_item true true text behind = Wrong BadHash []
comment_item true false text behind = Found Line text behind

-- the characters up to a line's end
abbrev pub line_cut : List ℕ → Cut
line_cut text = span (λ c. not (breaks_line c)) text

-- a line comment, behind its semicolon
abbrev pub semicolon_item : List ℕ → Answer
semicolon_item text =
    comment_item (line_ends_well (line_cut text).behind) false (codes ";" ++ (line_cut text).front)
    (line_cut text).behind

-- a line comment, behind #!
abbrev pub bang_behind : Bool → ℕ → List ℕ → Answer
bang_behind false c text = Wrong BadHash []
bang_behind true c text =
    comment_item (line_ends_well (line_cut text).behind) (ends_in 92 (line_cut text).front)
    (codes "#!" ++ c ∷ (line_cut text).front) (line_cut text).behind

abbrev pub bang_item : List ℕ → Answer
bang_item [] = Wrong BadHash []
bang_item (c ∷ text) = bang_behind (c == 47 || c == 32) c text

-- a here string that isn't ended, behind #<<
abbrev pub open_here : Cut → Answer
open_here k = if is_nothing k.behind then Wrong OpenHere [] else Wrong StrayLineEnd (codes "#<<" ++ k.front)

-- a here string, behind #<<: the text, its terminator, and the lines up to the next terminator
abbrev pub here_behind : List ℕ → List ℕ → Option Cut → Answer
here_behind text terminator None = open_here (span is_no_return text)
here_behind text terminator (Some k) = Found Here (codes "#<<" ++ (terminator ++ 10 ∷ k.front)) k.behind

abbrev pub here_lines : List ℕ → Cut → Option (List ℕ) → Answer
here_lines text k None = open_here (span is_no_return text)
here_lines text k (Some lines) = here_behind text k.front (here_cut k.front (Some k.front) lines)

-- whether a here string's terminator goes on
abbrev pub is_of_terminator : ℕ → Bool
is_of_terminator c = is_no_feed c && is_no_return c

abbrev pub here_item : List ℕ → Answer
here_item text =
    here_lines text (span is_of_terminator text) (strip (10 ∷ []) (span is_of_terminator text).behind)

-- whether the characters of a name are one
abbrev pub is_name : List ℕ → Bool
is_name name = not (is_nothing name) && (not (begins (codes "/") name) && not (ends_in 47 name))

-- whether the language has another reader than the plain one
abbrev pub is_other_reader : List ℕ → Bool
is_other_reader name =
    among (codes "at-exp" ∷ codes "datalog" ∷ codes "rhombus" ∷ []) name
    || (begins (codes "rhombus/") name || begins (codes "scribble/") name)

-- a module path between quotes and what is behind it; without a closing quote there is none
abbrev pub quoted_path : List ℕ → List ℕ → Option (List ℕ) → Cut
quoted_path text inner None = cut [] text
quoted_path text inner (Some behind) = cut (codes "\"" ++ (inner ++ codes "\"")) behind

-- the module path at the front, behind its opening quote where it has one, and what is behind it
abbrev pub module_path : List ℕ → Option (List ℕ) → Cut
module_path text None = span is_path_mark text
module_path text (Some inner) =
    quoted_path text (span is_quoted_path_mark inner).front (strip (codes "\"") (span is_quoted_path_mark inner).behind)

-- the blanks and the path behind them, and what is behind it; where either is missing there is no path
abbrev pub path_part : List ℕ → List ℕ → Cut → Cut
path_part text blanks path =
    if is_nothing blanks || is_nothing path.front then cut [] text else cut (blanks ++ path.front) path.behind

abbrev pub path_cut : List ℕ → Cut
path_cut text =
    path_part text (span is_blank text).front
    (module_path (span is_blank text).behind (strip (codes "\"") (span is_blank text).behind))

-- a language line that isn't one
abbrev pub bad_language : Answer
bad_language = Wrong LanguageLine []

-- whether a language line with this module path may end in these blanks and go on so
abbrev pub language_ends_well : List ℕ → List ℕ → List ℕ → Bool
language_ends_well part blanks behind =
    line_ends_well behind || (begins (codes ";") behind && not (is_nothing part && is_nothing blanks))

-- whether the text begins with a character that breaks a line
abbrev pub breaks : List ℕ → Bool
breaks [] = false
breaks (c ∷ text) = breaks_line c

-- a language line, from its name, its module path, and what is behind it in two: blanks and the rest
abbrev pub ended_language : List ℕ → List ℕ → List ℕ → Cut → Answer
ended_language name part behind k =
    if language_ends_well part k.front k.behind then Found Lang (codes "#lang " ++ (name ++ part)) behind
    else if breaks k.behind then Wrong StrayLineEnd (codes "#lang " ++ (name ++ (part ++ k.front)))
    else bad_language

abbrev pub named_language : List ℕ → Cut → Answer
named_language name k = ended_language name k.front k.behind (span is_blank k.behind)

-- a language line, from its name and what is behind it
abbrev pub language_of : Bool → Bool → List ℕ → List ℕ → Answer
language_of false other name behind = bad_language
language_of true true name behind = Wrong LanguageReader []
language_of true false name behind = named_language name (path_cut behind)

-- a language line, behind #lang and a space
abbrev pub spaced_language : Option (List ℕ) → Answer
spaced_language None = bad_language
spaced_language (Some text) =
    language_of (is_name (span is_name_mark text).front) (is_other_reader (span is_name_mark text).front)
    (span is_name_mark text).front (span is_name_mark text).behind

-- a language line, behind #lang
abbrev pub language_item : Bool → List ℕ → Answer
language_item false text = bad_language
language_item true text = spaced_language (strip (codes " ") text)

-- what a text that begins with the word is read as, from what is behind the word
pub record Reading : Type 0 where
  pub word : List ℕ
  pub answer : List ℕ → Answer

abbrev pub reading : List ℕ → (List ℕ → Answer) → Reading
reading word answer = record { word = word; answer = answer }

-- an item that is the word itself
abbrev pub whole_word : List ℕ → Kind → Reading
whole_word word kind = reading word (λ behind. Found kind word behind)

-- the readings of words that are looked for before runs; of two words with one front the longer stands first
abbrev pub readings : Bool → List Reading
readings language =
    reading (codes "#|") (λ text. block_item (block_cut 0 NoHalf text))
    ∷ reading (codes "#\\") character_item
    ∷ reading (codes "#!") bang_item
    ∷ reading (codes "#<<") here_item
    ∷ reading (codes "#lang") (language_item language)
    ∷ whole_word (codes "#&") Prefix
    ∷ whole_word (codes "#'") Prefix
    ∷ whole_word (codes "#`") Prefix
    ∷ whole_word (codes "#,@") Prefix
    ∷ whole_word (codes "#,") Prefix
    ∷ whole_word (codes "#;") Skip
    ∷ whole_word (codes ")") (Closer Round)
    ∷ whole_word (codes "]") (Closer Square)
    ∷ whole_word (codes "}") (Closer Curly)
    ∷ whole_word (codes "'") Prefix
    ∷ whole_word (codes "`") Prefix
    ∷ whole_word (codes ",@") Prefix
    ∷ whole_word (codes ",") Prefix
    ∷ reading (codes ";") semicolon_item
    ∷ []

-- the answer where the text begins with a word, and otherwise the other
abbrev pub read_behind : Option (List ℕ) → (List ℕ → Answer) → Answer → Answer
read_behind None answer other = other
read_behind (Some behind) answer other = answer behind

-- the first of the readings whose word the text begins with, and otherwise the other answer
abbrev pub first_reading : List Reading → List ℕ → Answer → Answer
first_reading [] text other = other
first_reading (r ∷ rs) text other = read_behind (strip r.word text) r.answer (first_reading rs text other)

-- what stands at the front of a text that begins with no white space; the flag says that a language line may stand
-- there
unfoldable pub front_item : Bool → List ℕ → Answer
front_item language text =
    first_reading (readings language) text (label_item (strip (codes "#") text) (run_item (run_cut Bare text)))
