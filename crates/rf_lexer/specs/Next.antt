-- The next item of a source.
use Rattle.std.specs.Prelude.{ℕ, ◌≡◌, ◌+◌, Bool, true, false, List, [], ◌∷◌, ◌++◌}
use Rattle.std.specs.Str.{chars}
use Rattle.rf_base_grammar.specs.Characters.{byte_len}
use Rattle.rf_base_grammar.specs.Token.{Token, item_of}
use Rattle.rf_base_grammar.specs.Spelled.{language_may_stand}
use Rattle.rf_base_grammar.specs.Itemised.{IsGap, Begins}
use Rattle.rf_base_grammar.specs.Unreadable.{NoItem, Stands, BeginsMark}
use Rattle.rf_base_grammar.specs.declared.kinds.Kind.{Kind}
use Rattle.rf_base_grammar.specs.declared.refusals.LexKind.{LexKind}
use Rattle.rf_lexer.specs.declared.before.Before.{Before}
use Rattle.rf_lexer.specs.declared.scan.Next.{Next}
use Rattle.rf_lexer.specs.declared.scan.Next.TheVariants.{End, Found, Refused}

-- whether there is no kind
abbrev pub is_none : List Kind → Bool
is_none [] = true
is_none (k ∷ kinds) = false

-- this is what is known of items of these kinds, the nearest first
abbrev pub AreBefore : List Kind → Before → Type 0
AreBefore before known = (known.none ≡ is_none before) × (known.language ≡ language_may_stand before)

-- at a place behind a gap no item can be read, and the refusal tells the character behind so many bytes
pub record RefusedBehind (before : List Kind) (text : List ℕ) (kind : LexKind) (offset : ℕ) : Type 0 where
  pub gap : List ℕ
  pub place : List ℕ
  pub whole : text ≡ gap ++ place
  pub white : IsGap gap
  pub begins : BeginsMark place
  pub none : NoItem before place
  pub clean : List ℕ
  pub stands : Stands before kind clean place
  pub offset_is : offset ≡ byte_len gap + byte_len clean

-- what the text, whose first byte stands at the offset, begins with behind items of these kinds
abbrev pub IsNext : List Kind → ℕ → List ℕ → Next → Type 0
IsNext before at text End = IsGap text
IsNext before at text (Found item behind) =
    (t : Token) × (item ≡ item_of t) × Begins before at text t (chars behind.now)
IsNext before at text (Refused kind offset) =
    (far : ℕ) × (offset ≡ at + far) × RefusedBehind before text kind far
