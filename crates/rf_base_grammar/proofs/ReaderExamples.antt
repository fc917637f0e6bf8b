-- What the reader answers for short texts.
use Rattle.std.proofs.Common.{◌≡◌, ℕ, true, List, [], ◌∷◌, refl}
use Rattle.std.specs.Prelude.{codes, map}
use Rattle.rf_base_grammar.specs.Characters.{is_white, is_delimiter}
use Rattle.rf_base_grammar.specs.Cuts.{run_cut, string_cut, block_cut, here_cut}
use Rattle.rf_base_grammar.specs.Reader.{Answer, Found, Wrong, front_item}
use Rattle.rf_base_grammar.specs.declared.kinds.Bracket.TheVariants.{Round, Square, Curly}
use Rattle.rf_base_grammar.specs.declared.kinds.Kind.TheVariants.{Opener, Prefix, Dot, Atom, Str, Here, Block, Line, Lang}
use Rattle.rf_base_grammar.specs.declared.refusals.LexKind.TheVariants.{BadHash, OpenString, OpenComment, OpenBar, OpenHere, StrayLineEnd, LanguageLine, LanguageReader}

-- these texts have these answers, where a language line may stand
abbrev Read : List (List ℕ × Answer) → Type 0
Read rows = map (λ row. front_item true row.0) rows ≡ map (λ row. row.1) rows

-- openers, of lists, hash tables and vectors
openers : Read (
    (codes "#hash(a)", Found (Opener Round) (codes "#hash(") (codes "a)"))
    ∷ (codes "#12[a", Found (Opener Square) (codes "#12[") (codes "a"))
    ∷ (codes "{a", Found (Opener Curly) (codes "{") (codes "a"))
    ∷ [])
unfolding front_item run_cut string_cut block_cut here_cut is_delimiter is_white
openers = refl

-- labels and what unquotes are prefixes, and a reference to a label is an atom
prefixes : Read (
    (codes "#1=#1#", Found Prefix (codes "#1=") (codes "#1#"))
    ∷ (codes ",@x", Found Prefix (codes ",@") (codes "x"))
    ∷ (codes "#1# a", Found Atom (codes "#1#") (codes " a"))
    ∷ [])
unfolding front_item run_cut string_cut block_cut here_cut is_delimiter is_white
prefixes = refl

-- what begins with # is known or refused; bars hold what they enclose together
atoms : Read (
    (codes "#true)", Found Atom (codes "#true") (codes ")"))
    ∷ (codes "#tr", Wrong BadHash [])
    ∷ (codes "#\\(a)", Found Atom (codes "#\\(a") (codes ")"))
    ∷ (codes "a|b c|d e", Found Atom (codes "a|b c|d") (codes " e"))
    ∷ (codes "#a|b", Wrong OpenBar [])
    ∷ [])
unfolding front_item run_cut string_cut block_cut here_cut is_delimiter is_white
atoms = refl

-- a dot by itself, and two of them, which are an atom
dots : Read (
    (codes ". a", Found Dot (codes ".") (codes " a"))
    ∷ (codes "..", Found Atom (codes "..") [])
    ∷ [])
unfolding front_item run_cut string_cut block_cut here_cut is_delimiter is_white
dots = refl

-- strings with a mark before them
strings : Read (
    (codes "#px#\"a\\\"b\"c", Found Str (codes "#px#\"a\\\"b\"") (codes "c"))
    ∷ (codes "#rx\"a", Wrong OpenString [])
    ∷ [])
unfolding front_item run_cut string_cut block_cut here_cut is_delimiter is_white
strings = refl

-- a here string ends at the first line that is its mark
here_strings : Read (
    (codes "#<<E\nab\nE\n)", Found Here (codes "#<<E\nab\nE") (codes "\n)"))
    ∷ (codes "#<<E\nab\nEE", Wrong OpenHere [])
    ∷ (codes "#<<E\nab\r\nE\n", Wrong StrayLineEnd (codes "#<<E\nab"))
    ∷ (codes "#<<\n\na", Found Here (codes "#<<\n") (codes "\na"))
    ∷ [])
unfolding front_item run_cut string_cut block_cut here_cut is_delimiter is_white
here_strings = refl

-- block comments stand in one another
block_comments : Read (
    (codes "#|a#|b|#c|#d", Found Block (codes "#|a#|b|#c|#") (codes "d"))
    ∷ (codes "#|#|#", Wrong OpenComment [])
    ∷ [])
unfolding front_item run_cut string_cut block_cut here_cut is_delimiter is_white
block_comments = refl

-- line comments, and lines for the shell
line_comments : Read (
    (codes "; a\r\nb", Found Line (codes "; a") (codes "\r\nb"))
    ∷ (codes "; a\rb", Wrong StrayLineEnd (codes "; a"))
    ∷ (codes "#!/usr/bin\n", Found Line (codes "#!/usr/bin") (codes "\n"))
    ∷ (codes "#! a\\\n", Wrong BadHash [])
    ∷ [])
unfolding front_item run_cut string_cut block_cut here_cut is_delimiter is_white
line_comments = refl

-- language lines
language_lines : Read (
    (codes "#lang racket/base\n", Found Lang (codes "#lang racket/base") (codes "\n"))
    ∷ (codes "#lang s-exp \"a b\";c", Found Lang (codes "#lang s-exp \"a b\"") (codes ";c"))
    ∷ (codes "#lang racket x y", Wrong LanguageLine [])
    ∷ (codes "#lang racket;x", Wrong LanguageLine [])
    ∷ (codes "#lang racket x \ry", Wrong StrayLineEnd (codes "#lang racket x "))
    ∷ (codes "#lang scribble/base", Wrong LanguageReader [])
    ∷ (codes "#language", Wrong LanguageLine [])
    ∷ [])
unfolding front_item run_cut string_cut block_cut here_cut is_delimiter is_white
language_lines = refl
