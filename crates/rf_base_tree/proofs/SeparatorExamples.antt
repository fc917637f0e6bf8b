-- Worked examples of what stands between neighbours: a definition that changes its meaning fails here.
use Rattle.std.proofs.Common.{◌≡◌, ℕ, true, false, List, [], ◌∷◌, refl}
use Rattle.std.specs.Prelude.{codes, map}
use Rattle.rf_base_grammar.specs.Characters.{is_white, is_delimiter}
use Rattle.rf_base_grammar.specs.Token.{Token}
use Rattle.rf_base_grammar.specs.declared.kinds.Bracket.TheVariants.{Round}
use Rattle.rf_base_grammar.specs.declared.kinds.Kind.{Kind}
use Rattle.rf_base_grammar.specs.declared.kinds.Kind.TheVariants.{Opener, Closer, Prefix, Skip, Dot, Atom, Str, Here, Block, Line, Lang}
use Rattle.rf_base_tree.specs.Cut.{separator_between}
use Rattle.rf_base_tree.specs.declared.separators.Want.{Want}
use Rattle.rf_base_tree.specs.declared.separators.Want.TheVariants as want
use Rattle.rf_base_tree.specs.declared.separators.Separator.TheVariants as separator

abbrev token : Kind → List ℕ → ℕ → Token
token kind spelling blanks = record { kind = kind; start = 0; spelling = spelling; blanks = blanks; own_line = false }

abbrev atom : ℕ → Token
atom blanks = token Atom (codes "a") blanks

abbrev comment : Token
comment = token Line (codes ";c") 0

abbrev own_line : ℕ → Token
own_line blanks = record { kind = Line; start = 0; spelling = codes ";c"; blanks = blanks; own_line = true }

abbrev wants : List Want
wants = want.Nothing ∷ want.Space ∷ want.Line ∷ want.Must ∷ []

-- between atoms stands what is wanted, and a space where nothing is; behind an opener nothing does then
around_atoms : (map (separator_between (atom 0) (atom 0)) wants
    ≡ separator.Space ∷ separator.Space ∷ separator.Line ∷ separator.Hard 0 ∷ [])
    × (map (separator_between (token (Opener Round) (codes "(") 0) (atom 0)) wants
    ≡ separator.Empty ∷ separator.Space ∷ separator.Line ∷ separator.Hard 0 ∷ [])
    × (separator_between (atom 0) (token (Closer Round) (codes ")") 0) want.Nothing ≡ separator.Empty)
unfolding is_delimiter is_white
around_atoms = (refl, refl, refl)

-- behind a dot a space stands, and behind an unquote before what begins with @
behind_marks : (separator_between (token Dot (codes ".") 0) (atom 0) want.Nothing ≡ separator.Space)
    × (map (λ prefix. separator_between (token Prefix prefix 0) (token Atom (codes "@a") 0) want.Nothing)
    (codes "," ∷ codes "#," ∷ codes ",@" ∷ codes "'" ∷ [])
    ≡ separator.Space ∷ separator.Space ∷ separator.Empty ∷ separator.Empty ∷ [])
    × (separator_between (token Prefix (codes ",") 0) (atom 0) want.Nothing ≡ separator.Empty)
unfolding is_delimiter is_white
behind_marks = (refl, refl, refl)

-- a comment that trails has a space before it, whatever is wanted, and another one a line of its own
before_trailing : map (separator_between (atom 0) comment) wants
    ≡ separator.Space ∷ separator.Space ∷ separator.Space ∷ separator.Space ∷ []
before_trailing = refl

before_own_line : map (separator_between (atom 0) (own_line 0)) wants
    ≡ separator.Hard 0 ∷ separator.Hard 0 ∷ separator.Hard 0 ∷ separator.Hard 0 ∷ []
before_own_line = refl

-- blank lines are kept, behind whatever they stand
blanks_kept : map (separator_between (atom 0) (atom 2)) wants
    ≡ separator.Hard 2 ∷ separator.Hard 2 ∷ separator.Hard 2 ∷ separator.Hard 2 ∷ []
blanks_kept = refl

blanks_kept_of_comment : separator_between (atom 0) (own_line 2) want.Nothing ≡ separator.Hard 2
blanks_kept_of_comment = refl

-- behind a line comment, a here string and the language line a break stands, and behind other items none
behind_each : map (λ kind. separator_between (token kind [] 0) (atom 0) want.Nothing)
    (Line ∷ Here ∷ Lang ∷ Str ∷ Block ∷ Skip ∷ Closer Round ∷ [])
    ≡ separator.Hard 0 ∷ separator.Hard 0 ∷ separator.Hard 0 ∷ separator.Empty ∷ separator.Empty ∷ separator.Empty
    ∷ separator.Empty ∷ []
behind_each = refl

-- but for a comment that trails the language line
trailing_language : separator_between (token Lang (codes "#lang racket") 0) comment want.Must ≡ separator.Space
trailing_language = refl
