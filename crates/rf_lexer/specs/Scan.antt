-- What the lexer answers.
use Rattle.std.specs.Prelude.{ℕ, ◌≡◌, ◌+◌, List, map, ⊤}
use Rattle.rf_base_grammar.specs.Token.{Token, item_of}
use Rattle.rf_base_grammar.specs.Itemised.{Itemised, Leads, IsGap, end_of, kinds_of}
use Rattle.rf_base_grammar.specs.Unreadable.{LexRefused}
use Rattle.rf_base_grammar.specs.declared.items.Item.{Item}
use Rattle.rf_base_grammar.specs.declared.kinds.Kind.{Kind}
use Rattle.rf_base_grammar.specs.declared.refusals.LexKind.{LexKind}
use Rattle.rf_lexer.specs.Next.{RefusedBehind}
use Rattle.rf_lexer.specs.declared.faults.LexError.{LexError}
use Rattle.rf_lexer.specs.declared.faults.LexError.TheVariants.{Refused, Memory}

-- the source is these items with gaps around them
abbrev pub AreItems : List ℕ → List Item → Type 0
AreItems source items = (ts : List Token) × Itemised source ts × (items ≡ map item_of ts)

-- the fault is that of the source, unless memory ran out
abbrev pub LexFault : List ℕ → LexError → Type 0
LexFault source (Refused kind offset) = LexRefused source kind offset
LexFault source (Memory e) = ⊤

-- the source has items
abbrev pub HasSomeItems : List ℕ → Type 0
HasSomeItems source = (ts : List Token) × Itemised source ts

-- the fault is a refusal
abbrev pub IsRefusal : LexError → Type 0
IsRefusal (Refused kind offset) = ⊤
IsRefusal (Memory e) = ⊥

-- the text, whose first byte stands at the offset behind items of these kinds, is others with gaps around them
pub record HasItemsBehind (before : List Kind) (offset : ℕ) (text : List ℕ) : Type 0 where
  pub tokens : List Token
  pub rest : List ℕ
  pub leads : Leads before offset text tokens rest
  pub ends : IsGap rest

-- others lead to a place of it where none can be read, and the refusal tells the byte
pub record IsRefusedBehind (before : List Kind) (offset : ℕ) (text : List ℕ) (kind : LexKind) (byte : ℕ) : Type 0 where
  pub tokens : List Token
  pub rest : List ℕ
  pub leads : Leads before offset text tokens rest
  pub far : ℕ
  pub refused : RefusedBehind (kinds_of before tokens) rest kind far
  pub byte_is : byte ≡ end_of offset tokens + far

-- the fault is that of the text behind them, unless memory ran out
abbrev pub LexFaultBehind : List Kind → ℕ → List ℕ → LexError → Type 0
LexFaultBehind before offset text (Refused kind byte) = IsRefusedBehind before offset text kind byte
LexFaultBehind before offset text (Memory e) = ⊤
