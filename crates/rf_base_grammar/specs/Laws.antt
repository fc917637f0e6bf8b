-- Laws of items and of the lexer's refusals.
use Rattle.std.specs.Prelude.{ℕ, ◌≡◌, ◌⊎◌, List}
use Rattle.std.specs.Str.{chars, IsUtf8, IsValidUpTo}
use Rattle.rf_base_grammar.specs.Token.{Token}
use Rattle.rf_base_grammar.specs.Spelled.{language_may_stand, BeginsItem}
use Rattle.rf_base_grammar.specs.Itemised.{Itemised}
use Rattle.rf_base_grammar.specs.Unreadable.{BeginsMark, NoItem, Stands, LexRefused}
use Rattle.rf_base_grammar.specs.Sources.{HasItems}
use Rattle.rf_base_grammar.specs.Reader.{Found, Wrong, front_item}
use Rattle.rf_base_grammar.specs.declared.kinds.Kind.{Kind}
use Rattle.rf_base_grammar.specs.declared.refusals.LexKind.{LexKind}

-- the reader's answer for what stands at a place is what the definitions say: it finds just the item that stands there,
-- and refuses just what is refused there
abbrev pub ReaderIsExact : Type 0
ReaderIsExact =
    ((before : List Kind) (text : List ℕ) (kind : Kind) (spelling behind : List ℕ) → BeginsMark text →
    front_item (language_may_stand before) text ≡ Found kind spelling behind →
    BeginsItem before text kind spelling behind)
    × ((before : List Kind) (text : List ℕ) (kind : Kind) (spelling behind : List ℕ) →
    BeginsItem before text kind spelling behind →
    front_item (language_may_stand before) text ≡ Found kind spelling behind)
    × ((before : List Kind) (text : List ℕ) (kind : LexKind) (clean : List ℕ) → BeginsMark text →
    front_item (language_may_stand before) text ≡ Wrong kind clean → Stands before kind clean text × NoItem before text)
    × ((before : List Kind) (text : List ℕ) (kind : LexKind) (clean : List ℕ) → BeginsMark text → NoItem before text →
    Stands before kind clean text → front_item (language_may_stand before) text ≡ Wrong kind clean)

-- a text has at most one list of items
abbrev pub OneListOfItems : Type 0
OneListOfItems = (text : List ℕ) (a b : List Token) → Itemised text a → Itemised text b → a ≡ b

-- no text both has items and is refused by the lexer
abbrev pub ItemsOrRefusal : Type 0
ItemsOrRefusal =
    (text : List ℕ) (ts : List Token) (kind : LexKind) (offset : ℕ) → Itemised text ts → LexRefused text kind offset → ⊥

-- a text is refused by the lexer for at most one reason, at one byte
abbrev pub OneLexRefusal : Type 0
OneLexRefusal =
    (text : List ℕ) (k k' : LexKind) (o o' : ℕ) → LexRefused text k o → LexRefused text k' o' → (k ≡ k') × (o ≡ o')

-- each byte string has items, or isn't UTF-8, or is refused by the lexer
abbrev pub EachIsLexed : Type 0
EachIsLexed =
    (source : List ℕ) →
    ((ts : List Token) × HasItems source ts)
    ⊎ ((offset : ℕ) × IsValidUpTo source offset)
    ⊎ ((kind : LexKind) × (offset : ℕ) × IsUtf8 source × LexRefused (chars source) kind offset)
