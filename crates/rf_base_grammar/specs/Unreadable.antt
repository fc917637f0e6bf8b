-- Where no item can be read, and why: the refusals of the lexer.
use Rattle.std.specs.Prelude.{ℕ, ◌≡◌, ◌+◌, ◌==◌, ◌⊎◌, not, true, false, List, [], ◌∷◌, ◌++◌, codes, ⊤}
use Rattle.rf_base_grammar.specs.Characters.{Each, is_white, byte_len, IsOneOf, BeginsWith, MadeOf}
use Rattle.rf_base_grammar.specs.Runs.{backslash, bar, IsRunPart, BeginsWithOneOf}
use Rattle.rf_base_grammar.specs.Strings.{quote, string_heads, is_no_return}
use Rattle.rf_base_grammar.specs.Comments.{bang_heads, breaks_line, IsOnOneLine, EndsLine}
use Rattle.rf_base_grammar.specs.LanguageLine.{IsName, is_name_mark, is_blank, IsPathPart, IsOtherReader}
use Rattle.rf_base_grammar.specs.Spelled.{Spelled, language_may_stand, BeginsItem}
use Rattle.rf_base_grammar.specs.Token.{Token}
use Rattle.rf_base_grammar.specs.Itemised.{IsGap, Leads, end_of, kinds_of}
use Rattle.rf_base_grammar.specs.declared.kinds.Kind.{Kind}
use Rattle.rf_base_grammar.specs.declared.kinds.Kind.TheVariants.{Str, Block}
use Rattle.rf_base_grammar.specs.declared.refusals.LexKind.{LexKind}
use Rattle.rf_base_grammar.specs.declared.refusals.LexKind.TheVariants.{BadHash, OpenString, OpenComment, OpenBar, OpenHere, StrayLineEnd, LanguageLine, LanguageReader}

-- no item begins the text, where items of the kinds before lead to it
abbrev pub NoItem : List Kind → List ℕ → Type 0
NoItem before text = (kind : Kind) (spelling behind : List ℕ) → BeginsItem before text kind spelling behind → ⊥

-- no front of the text is a spelling of the kind
abbrev pub NoneSpelled : Kind → List ℕ → Type 0
NoneSpelled kind text = (spelling behind : List ℕ) → text ≡ spelling ++ behind → Spelled kind spelling → ⊥

-- a string begins the text, and no closing quote ends it
abbrev pub IsOpenString : List ℕ → Type 0
IsOpenString text =
    ((head : List ℕ) × IsOneOf string_heads head × BeginsWith (head ++ quote ∷ []) text) × NoneSpelled Str text

-- a block comment begins the text, and isn't closed
abbrev pub IsOpenComment : List ℕ → Type 0
IsOpenComment text = BeginsWith (codes "#|") text × NoneSpelled Block text

-- the beginnings that are looked at before quoting is
abbrev pub first_beginnings : List (List ℕ)
first_beginnings = codes "#|" ∷ codes "#\\" ∷ codes "#!" ∷ codes "#<<" ∷ codes "#lang" ∷ []

-- parts of a run, and then a bar without its pair, or a backslash at the end, stand in the text up to its end
abbrev pub IsOpenRun : List ℕ → Type 0
IsOpenRun text =
    (read : List ℕ) × (left : List ℕ) × (text ≡ read ++ left) × MadeOf IsRunPart read
    × ((left ≡ backslash ∷ []) ⊎ ((inner : List ℕ) × (left ≡ bar ∷ inner) × Each (λ c. not (c == bar)) inner))

-- an open run begins the text, and nothing that is looked at before quoting
abbrev pub IsOpenBar : List ℕ → Type 0
IsOpenBar text =
    IsOpenRun text × (BeginsWithOneOf first_beginnings text → ⊥)

-- a here string begins the text, and no CR follows
abbrev pub IsOpenHere : List ℕ → Type 0
IsOpenHere text = (after : List ℕ) × (text ≡ codes "#<<" ++ after) × Each is_no_return after

-- behind these characters the text goes on with a CR that no LF follows, U+0085, U+2028 or U+2029
abbrev pub IsStray : List ℕ → List ℕ → Type 0
IsStray before text =
    (c : ℕ) × (after : List ℕ) × (text ≡ before ++ c ∷ after) × (breaks_line c ≡ true) × (EndsLine (c ∷ after) → ⊥)

-- a line comment begins the text, and holds such a character behind these
abbrev pub IsStrayInComment : List ℕ → List ℕ → Type 0
IsStrayInComment before text =
    (head : List ℕ) × (body : List ℕ) × (before ≡ head ++ body) × (IsOneOf (codes ";" ∷ bang_heads) head)
    × IsOnOneLine body × IsStray before text

-- a here string begins the text, and the first CR that follows stands behind these characters
abbrev pub IsReturnInHere : List ℕ → List ℕ → Type 0
IsReturnInHere before text =
    (clean : List ℕ) × (before ≡ codes "#<<" ++ clean) × Each is_no_return clean
    × BeginsWith (before ++ 13 ∷ []) text

-- the name of a language ends where the text begins
abbrev pub EndsName : List ℕ → Type 0
EndsName [] = ⊤
EndsName (c ∷ after) = is_name_mark c ≡ false

-- where a language line may stand, the text begins with #lang, one space and this name, and goes on with what is behind
abbrev pub BeginsLanguage : List Kind → List ℕ → List ℕ → List ℕ → Type 0
BeginsLanguage before text name behind =
    (language_may_stand before ≡ true) × (text ≡ codes "#lang " ++ (name ++ behind)) × IsName name × EndsName behind

-- such a language has another reader than the plain one
abbrev pub IsReaderOfOther : List Kind → List ℕ → Type 0
IsReaderOfOther before text =
    (name : List ℕ) × (behind : List ℕ) × BeginsLanguage before text name behind × IsOtherReader name

-- such a language has the plain reader, and a stray line end stands behind its name, perhaps a module path, and spaces
-- and tabs
abbrev pub IsStrayInLanguage : List Kind → List ℕ → List ℕ → Type 0
IsStrayInLanguage before clean text =
    (name : List ℕ) × (behind : List ℕ) × (part : List ℕ) × (blanks : List ℕ)
    × BeginsLanguage before text name behind × (IsOtherReader name → ⊥)
    × IsPathPart part × Each is_blank blanks × (clean ≡ codes "#lang " ++ (name ++ (part ++ blanks)))
    × IsStray clean text

-- a stray line end stands behind these characters
abbrev pub IsStrayBehind : List Kind → List ℕ → List ℕ → Type 0
IsStrayBehind before clean text =
    IsStrayInComment clean text ⊎ IsReturnInHere clean text ⊎ IsStrayInLanguage before clean text

-- a #lang begins the text, and neither another reader nor a stray line end is told
abbrev pub IsBadLanguageLine : List Kind → List ℕ → Type 0
IsBadLanguageLine before text =
    BeginsWith (codes "#lang") text × (IsReaderOfOther before text → ⊥)
    × ((clean : List ℕ) → IsStrayInLanguage before clean text → ⊥)

-- a hash sign begins the text, and no other refusal stands there
abbrev pub IsBadHash : List Kind → List ℕ → Type 0
IsBadHash before text =
    BeginsWith (codes "#") text × (IsOpenString text → ⊥) × (IsOpenComment text → ⊥) × (IsOpenBar text → ⊥)
    × (IsOpenHere text → ⊥) × ((clean : List ℕ) → IsStrayBehind before clean text → ⊥)
    × (IsReaderOfOther before text → ⊥) × (IsBadLanguageLine before text → ⊥)

-- the kind of refusal stands at the text, behind items of the kinds before, and tells the character behind `clean`
abbrev pub Stands : List Kind → LexKind → List ℕ → List ℕ → Type 0
Stands before BadHash clean text = (clean ≡ []) × IsBadHash before text
Stands before OpenString clean text = (clean ≡ []) × IsOpenString text
Stands before OpenComment clean text = (clean ≡ []) × IsOpenComment text
Stands before OpenBar clean text = (clean ≡ []) × IsOpenBar text
Stands before OpenHere clean text = (clean ≡ []) × IsOpenHere text
Stands before StrayLineEnd clean text = IsStrayBehind before clean text
Stands before LanguageLine clean text = (clean ≡ []) × IsBadLanguageLine before text
Stands before LanguageReader clean text = (clean ≡ []) × IsReaderOfOther before text

-- the text is neither at its end nor goes on with white space
abbrev pub BeginsMark : List ℕ → Type 0
BeginsMark [] = ⊥
BeginsMark (c ∷ after) = is_white c ≡ false

-- items lead to a place where an item would begin and none does, and the kind of refusal stands there; the offset is
-- that of the character that it tells
pub record LexRefused (source : List ℕ) (kind : LexKind) (offset : ℕ) : Type 0 where
  pub items : List Token
  pub rest : List ℕ
  pub leads : Leads [] 0 source items rest
  pub gap : List ℕ
  pub place : List ℕ
  pub rest_is : rest ≡ gap ++ place
  pub white : IsGap gap
  pub begins : BeginsMark place
  pub none : NoItem (kinds_of [] items) place
  pub clean : List ℕ
  pub stands : Stands (kinds_of [] items) kind clean place
  pub offset_is : offset ≡ end_of 0 items + byte_len gap + byte_len clean
