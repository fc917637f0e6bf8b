-- What is told of a source by stretches of it that are read by themselves.
use Rattle.std.specs.Prelude.{ℕ, ◌≡◌, ◌≢◌, ◌-◌, Bool, false, Some, List, [], ◌++◌, length, slice_get}
use Rattle.rf_base_grammar.specs.Itemised.{Leads}
use Rattle.rf_base_grammar.specs.Token.{Token}
use Rattle.rf_base_grammar.specs.declared.items.Item.{Item}
use Rattle.rf_base_tree.specs.Trees.{Forest}
use Rattle.rf_base_tree.specs.Formed.{Treed}
use Rattle.rf_joins.specs.Moved.{HaveNoLanguage}
use Rattle.rf_tree.specs.declared.trees.Tree.{Tree as KeptTree}
use Rattle.rf_whole.specs.Passages.{EndsOrFeeds}

-- the last item of the tree's text ends where the text does
abbrev pub EndsInItem : KeptTree → Type 0
EndsInItem tree =
    (last : Item) × (slice_get tree.items.items (length tree.items.items - 1) ≡ Some last)
    × (last.end ≡ length tree.src.now)

-- the text has items up to its end, and a tree; others may stand before it, unless it is the first of its source
pub record IsAcceptedAlone (first : Bool) (text : List ℕ) : Type 0 where
  pub tokens : List Token
  pub trees : Forest
  pub some : tokens ≢ []
  pub leads : Leads [] 0 text tokens []
  pub treed : Treed tokens trees
  pub begins : first ≡ false → HaveNoLanguage tokens

-- the text begins with one that is so, and goes on with the rest, if there is any: then a line end begins that
pub record IsAcceptedFront (first : Bool) (text rest : List ℕ) : Type 0 where
  pub front : List ℕ
  pub text_is : text ≡ front ++ rest
  pub feeds : EndsOrFeeds rest
  pub accepted : IsAcceptedAlone first front
