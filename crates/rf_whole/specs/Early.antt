-- What is told of a source by its front.
use Rattle.std.specs.Prelude.{ℕ, ◌≡◌, ◌-◌, false, Some, List, [], length, slice_get, codes, ⊤}
use Rattle.rf_base_grammar.specs.Characters.{BeginsWith}
use Rattle.rf_base_grammar.specs.Itemised.{Leads, kinds_of}
use Rattle.rf_base_grammar.specs.Spelled.{EndsOrDelimits}
use Rattle.rf_base_grammar.specs.Token.{Token}
use Rattle.rf_base_grammar.specs.declared.items.Item.{Item}
use Rattle.rf_base_grammar.specs.declared.kinds.Kind.{Kind}
use Rattle.rf_base_grammar.specs.declared.kinds.Kind.TheVariants.{Opener, Closer, Prefix, Skip, Dot, Atom, Str}
use Rattle.rf_base_tree.specs.Refusals.{TreeRefused}
use Rattle.rf_base_tree.specs.declared.refusals.TreeKind.{TreeKind}
use Rattle.rf_joins.specs.Laws.{TellsItem}
use Rattle.rf_joins.specs.Moved.{HaveNoLanguage, MayBeFollowed}
use Rattle.rf_lexer.specs.Next.{AreBefore}

-- the rest may follow an item of the kind, and behind such an item no language line stands
abbrev pub MayPrecede : Kind → List ℕ → Type 0
MayPrecede (Opener bracket) rest = ⊤
MayPrecede (Closer bracket) rest = ⊤
MayPrecede Skip rest = ⊤
MayPrecede Str rest = ⊤
MayPrecede Prefix rest = BeginsWith (codes "@") rest → ⊥
MayPrecede Atom rest = EndsOrDelimits rest
MayPrecede Dot rest = EndsOrDelimits rest
MayPrecede _ rest = ⊥

-- the items end at this byte, in such an item
abbrev pub EndBefore : List Item → ℕ → List ℕ → Type 0
EndBefore items byte rest =
    (last : Item) × (slice_get items (length items - 1) ≡ Some last) × (last.end ≡ byte) × MayPrecede last.kind rest

-- one of the front's items can't go on, which are the first of the front with the rest behind it: none is a language
-- line, and none may stand behind them
pub record IsRefusedFront (front rest : List ℕ) (kind : TreeKind) (offset : ℕ) : Type 0 where
  pub tokens : List Token
  pub leads : Leads [] 0 front tokens []
  pub clear : HaveNoLanguage tokens
  pub follows : MayBeFollowed tokens rest
  pub before : AreBefore (kinds_of [] tokens) (record { none = false; language = false })
  pub tells : TellsItem kind
  pub refused : TreeRefused tokens kind offset
