-- What a whole string must be to be a spelling of a kind, and what may follow it, by cases. No reading order occurs.
use Rattle.std.specs.Prelude.{ℕ, ◌≡◌, ◌⊎◌, Bool, true, false, List, [], ◌∷◌, ◌++◌, codes, ⊤}
use Rattle.std.specs.List.{list_all}
use Rattle.rf_base_grammar.specs.Characters.{is_delimiter, IsOneOf, BeginsWith}
use Rattle.rf_base_grammar.specs.Runs.{hash, IsShortNumber, IsAtom}
use Rattle.rf_base_grammar.specs.Strings.{IsString, IsHereString}
use Rattle.rf_base_grammar.specs.Comments.{IsBlock, IsLineComment, EndsLine}
use Rattle.rf_base_grammar.specs.LanguageLine.{IsLanguageLine, IsOtherReader, EndsLanguageLine}
use Rattle.rf_base_grammar.specs.declared.kinds.Bracket.{Bracket}
use Rattle.rf_base_grammar.specs.declared.kinds.Bracket.TheVariants.{Round, Square, Curly}
use Rattle.rf_base_grammar.specs.declared.kinds.Kind.{Kind}
use Rattle.rf_base_grammar.specs.declared.kinds.Kind.TheVariants.{Opener, Closer, Prefix, Skip, Dot, Atom, Str, Here, Block, Line, Lang}

-- the bracket that opens a list
abbrev pub opening : Bracket → ℕ
opening Round = 40
opening Square = 91
opening Curly = 123

-- the bracket that closes a list
abbrev pub closing : Bracket → ℕ
closing Round = 41
closing Square = 93
closing Curly = 125

-- what may stand before an opening bracket: nothing, or the beginning of a vector, a prefab structure, a hash table, or
-- a vector of numbers (the Racket Reference, "Reading Vectors", "Reading Structures", "Reading Hash Tables")
abbrev pub opener_heads : List (List ℕ)
opener_heads =
    [] ∷ codes "#" ∷ codes "#s" ∷ codes "#hash" ∷ codes "#hasheq" ∷ codes "#hasheqv" ∷ codes "#hashalw" ∷ codes "#fl"
    ∷ codes "#fx" ∷ []

-- such a head, or a vector's with its length
abbrev pub IsOpenerHead : List ℕ → Type 0
IsOpenerHead head = IsOneOf opener_heads head ⊎ ((digits : List ℕ) × (head ≡ hash ∷ digits) × IsShortNumber digits)

-- the prefixes of one spelling (the Racket Reference, "Reading Quotes", "Reading Boxes")
abbrev pub prefixes : List (List ℕ)
prefixes =
    codes "'" ∷ codes "`" ∷ codes "," ∷ codes ",@" ∷ codes "#'" ∷ codes "#`" ∷ codes "#," ∷ codes "#,@" ∷ codes "#&"
    ∷ []

-- a prefix: one of these, or a graph's label, as #1= (the Racket Reference, "Reading Graph Structure")
abbrev pub IsPrefix : List ℕ → Type 0
IsPrefix text =
    IsOneOf prefixes text ⊎ ((digits : List ℕ) × (text ≡ hash ∷ (digits ++ codes "=")) × IsShortNumber digits)

-- the string is a spelling of the kind
abbrev pub Spelled : Kind → List ℕ → Type 0
Spelled (Opener b) text = (head : List ℕ) × (text ≡ head ++ opening b ∷ []) × IsOpenerHead head
Spelled (Closer b) text = text ≡ closing b ∷ []
Spelled Prefix text = IsPrefix text
Spelled Skip text = text ≡ codes "#;"
Spelled Dot text = text ≡ codes "."
Spelled Atom text = IsAtom text
Spelled Str text = IsString text
Spelled Here text = IsHereString text
Spelled Block text = IsBlock text
Spelled Line text = IsLineComment text
Spelled Lang text = (name : List ℕ) × (part : List ℕ) × IsLanguageLine text name part

-- the text is at its end or goes on with a delimiter
abbrev pub EndsOrDelimits : List ℕ → Type 0
EndsOrDelimits [] = ⊤
EndsOrDelimits (c ∷ after) = is_delimiter c ≡ true

-- the prefixes that an @ would make longer
abbrev pub unquotes : List (List ℕ)
unquotes = codes "," ∷ codes "#," ∷ []

-- what may follow an item of the kind that is spelled so
abbrev pub MayFollow : Kind → List ℕ → List ℕ → Type 0
MayFollow Atom text after = EndsOrDelimits after
MayFollow Dot text after = EndsOrDelimits after
MayFollow Prefix text after = IsOneOf unquotes text → BeginsWith (codes "@") after → ⊥
MayFollow Line text after = EndsLine after
MayFollow Here text after = (after ≡ []) ⊎ BeginsWith (10 ∷ []) after
MayFollow Lang text after =
    (name : List ℕ) × (part : List ℕ) × IsLanguageLine text name part × EndsLanguageLine part after
MayFollow _ text after = ⊤

-- whether an item of the kind may stand before the language line
abbrev pub may_lead : Kind → Bool
may_lead Line = true
may_lead Block = true
may_lead _ = false

-- whether a language line may stand behind items of these kinds
abbrev pub language_may_stand : List Kind → Bool
language_may_stand before = list_all may_lead before

-- an item of the kind that is spelled so may stand behind items of these kinds: a language line only behind comments,
-- and its reader is the plain one
abbrev pub MayStand : List Kind → Kind → List ℕ → Type 0
MayStand before Lang text =
    (language_may_stand before ≡ true) × ((name part : List ℕ) → IsLanguageLine text name part → IsOtherReader name → ⊥)
MayStand before _ text = ⊤

-- the text begins with an item of the kind that is spelled so, where items of the kinds before stand before it, and
-- goes on with what is behind it
pub record BeginsItem (before : List Kind) (text : List ℕ) (kind : Kind) (spelling behind : List ℕ) : Type 0 where
  pub text_is : text ≡ spelling ++ behind
  pub spelled : Spelled kind spelling
  pub follows : MayFollow kind spelling behind
  pub stands : MayStand before kind spelling
